-- What holds of turns holds of the passages that tell them.
use Rattle.std.proofs.Common.{◌≡◌, inl, inr, ℕ, ◌+◌, ◌-◌, ◌/◌, ◌%◌, ◌<◌, ◌≤◌, List, [], ◌∷◌, map, refl, sym, subst, ap, arith, ◌∙◌}
use Rattle.std.specs.List.{All, Any, AllByRecursion}
use Rattle.std.proofs.lemmas.List.Elements.{All-from_recursion, recursion_from_All}
use Rattle.sg_base.specs.declared.addresses.Address.{Address}
use Rattle.sg_base.specs.declared.faults.DropCause.{DropCause}
use Rattle.sg_outcome.specs.declared.outcomes.Outcome.TheVariants.{Made, Live, Sdp, Refused, Ended, Out, Dropped, Unsent}
use Rattle.sg_outcome.specs.declared.outcomes.Why.{Why}
use Rattle.sg_gateway.proofs.Common.{CallId, IsOutPlain, IsRefusal, IsRefused, Outcome, Turn, any_cases, any_here, any_none, any_there}
use Rattle.sg_gateway.specs.SealedOut.{IsOut, IsOutSecure}
use Rattle.sg_passages.specs.Passages.{AreToldAs, IsFaithful, IsToldAs, KeepsLegs, Leaves, Leaving, Passage, out_by}
use Rattle.sg_passages.specs.Told.{as_told}

lifted : (P : Turn → Type 0) (Q : Passage → Type 0) → ((p : Passage) → IsFaithful p → P p.turn → Q p) → (ps : List Passage)
    → AllByRecursion IsFaithful ps → AllByRecursion P (map (λ p. p.turn) ps) → AllByRecursion Q ps
lifted P Q lift [] faithful holds = tt
lifted P Q lift (p ∷ ps) faithful holds = (lift p faithful.0 holds.0, lifted P Q lift ps faithful.1 holds.1)

pub each : (P : Turn → Type 0) (Q : Passage → Type 0) → ((p : Passage) → IsFaithful p → P p.turn → Q p) → (ps : List Passage) (ts : List Turn)
    → map (λ p. p.turn) ps ≡ ts → All IsFaithful ps → All P ts → All Q ps
each P Q lift ps ts are faithful holds =
    All-from_recursion Q ps (lifted P Q lift ps (recursion_from_All IsFaithful ps faithful)
    (subst (λ ts. AllByRecursion P ts) (sym are) (recursion_from_All P ts holds)))

-- ---- what is told of a list that is known

first_told : (leaves : Leaves) (o u : Outcome) (os told us : List Outcome) → ((t : Outcome) → IsToldAs leaves o t → t ≡ u)
    → ((ts : List Outcome) → AreToldAs leaves os ts → ts ≡ us) → AreToldAs leaves (o ∷ os) told → told ≡ u ∷ us
first_told leaves o u os told us one rest a = a.2 ∙ (λ i. one a.0 a.3 i ∷ rest a.1 a.4 i)

-- a packet that is put out and nothing else
pub one_out : (p : Passage) → IsFaithful p → (port : ℕ) (to : Address) (octets : List ℕ) → p.turn.outcomes ≡ Out port to octets ∷ []
    → p.told ≡ out_by p.leaves port to octets ∷ []
one_out p f port to octets is =
    first_told p.leaves (Out port to octets) (out_by p.leaves port to octets) [] p.told [] (λ t e. e) (λ ts e. e) (subst (λ os. AreToldAs p.leaves os p.told) is f.told)

-- a call that is made and live
pub made_live : (p : Passage) → IsFaithful p → (id : CallId) (slot media : ℕ) → p.turn.outcomes ≡ Made id slot media ∷ Live id ∷ []
    → p.told ≡ Made id slot media ∷ Live id ∷ []
made_live p f id slot media is =
    first_told p.leaves (Made id slot media) (Made id slot media) (Live id ∷ []) p.told (Live id ∷ []) (λ t e. e)
    (λ ts. first_told p.leaves (Live id) (Live id) [] ts [] (λ t e. e) (λ us e. e)) (subst (λ os. AreToldAs p.leaves os p.told) is f.told)

-- ---- what was told as a packet was one

pub record WasOut (os : List Outcome) (octets : List ℕ) : Type 0 where
  pub port : ℕ
  pub to : Address
  pub is : os ≡ Out port to octets ∷ []

none_more : (leaves : Leaves) (os ts : List Outcome) → AreToldAs leaves os ts → ts ≡ [] → os ≡ []
none_more leaves [] ts told is = refl
none_more leaves (o ∷ os) ts told is = absurd (let e = sym told.2 ∙ is in cc)

module _ (leaves : Leaves) (port : ℕ) (to : Address) (octets : List ℕ) where
  was_out : (o t : Outcome) → IsToldAs leaves o t → t ≡ Out port to octets → WasOut (o ∷ []) octets
  was_out (Out p a text) t told is = record { port = p; to = a; is = (let e : out_by leaves p a text ≡ Out port to octets = sym told ∙ is in let same : text ≡ octets = cc in ap (λ text. Out p a text ∷ []) same) }
  was_out (Dropped p cause) t told is = absurd (let e = sym told.1 ∙ is in cc)
  was_out (Sdp id side text) t told is = absurd (let e = sym told.1 ∙ is in cc)
  was_out other t told is = absurd (let e = sym told ∙ is in cc)

  one_was : (os ts : List Outcome) → AreToldAs leaves os ts → ts ≡ Out port to octets ∷ [] → WasOut os octets
  one_was [] ts told is = absurd (let e = sym told ∙ is in cc)
  one_was (o ∷ os) ts told is =
      let e : told.0 ∷ told.1 ≡ Out port to octets ∷ [] = sym told.2 ∙ is in
      let first : told.0 ≡ Out port to octets = cc in
      let more : told.1 ≡ [] = cc in
      subst (λ os. WasOut (o ∷ os) octets) (sym (none_more leaves os told.1 told.4 more)) (was_out o told.0 told.3 first)

pub told_out : (p : Passage) → IsFaithful p → (port : ℕ) (to : Address) (octets : List ℕ) → p.told ≡ Out port to octets ∷ [] → WasOut p.turn.outcomes octets
told_out p f port to octets is = one_was p.leaves port to octets p.turn.outcomes p.told f.told is

-- ---- what was told as a drop was one

module _ (leaves : Leaves) (arrived : ℕ) (cause : DropCause) where
  was_dropped : (o t : Outcome) → IsToldAs leaves o t → t ≡ Dropped arrived cause → (port : ℕ) × (o ≡ Dropped port cause)
  was_dropped (Dropped p c) t told is = let e = sym told.1 ∙ is in let same : c ≡ cause = cc in (p, ap (λ c. Dropped p c) same)
  was_dropped (Sdp id side text) t told is = absurd (let e = sym told.1 ∙ is in cc)
  was_dropped other t told is = absurd (let e = sym told ∙ is in cc)

  one_dropped : (os ts : List Outcome) → AreToldAs leaves os ts → ts ≡ Dropped arrived cause ∷ [] → (port : ℕ) × (os ≡ Dropped port cause ∷ [])
  one_dropped [] ts told is = absurd (let e = sym told ∙ is in cc)
  one_dropped (o ∷ os) ts told is =
      let e : told.0 ∷ told.1 ≡ Dropped arrived cause ∷ [] = sym told.2 ∙ is in
      let first : told.0 ≡ Dropped arrived cause = cc in
      let more : told.1 ≡ [] = cc in
      let drop = was_dropped o told.0 told.3 first in
      (drop.0, (λ i. drop.1 i ∷ none_more leaves os told.1 told.4 more i))

pub told_drop : (p : Passage) → IsFaithful p → (arrived : ℕ) (cause : DropCause) → p.told ≡ Dropped arrived cause ∷ [] → (port : ℕ) × (p.turn.outcomes ≡ Dropped port cause ∷ [])
told_drop p f arrived cause is = one_dropped p.leaves arrived cause p.turn.outcomes p.told f.told is

-- ---- what isn't put out isn't told as put out

abbrev Bars : (Outcome → Type 0) → Leaves → Type 0
Bars IsIt leaves = (o t : Outcome) → IsToldAs leaves o t → IsIt t → IsIt o

barred : (IsIt : Outcome → Type 0) (leaves : Leaves) → Bars IsIt leaves → (os ts : List Outcome) → AreToldAs leaves os ts
    → AllByRecursion (λ o. ¬ IsIt o) os → AllByRecursion (λ o. ¬ IsIt o) ts
barred IsIt leaves bars [] ts told none = subst (λ ts. AllByRecursion (λ o. ¬ IsIt o) ts) (sym told) tt
barred IsIt leaves bars (o ∷ os) ts told none =
    subst (λ ts. AllByRecursion (λ o. ¬ IsIt o) ts) (sym told.2) ((λ it. none.0 (bars o told.0 told.3 it)), barred IsIt leaves bars os told.1 told.4 none.1)

pub none_told : (IsIt : Outcome → Type 0) (p : Passage) → IsFaithful p → Bars IsIt p.leaves → All (λ o. ¬ IsIt o) p.turn.outcomes → All (λ o. ¬ IsIt o) p.told
none_told IsIt p f bars none =
    All-from_recursion _ p.told (barred IsIt p.leaves bars p.turn.outcomes p.told f.told (recursion_from_All _ p.turn.outcomes none))

-- two ports of one leg are on one side
plain_side : (a b : ℕ) → a / 2 ≡ b / 2 → 2 ≤ a % 4 → 2 ≤ b % 4
plain_side a b same high = omega (arith, same, high)

secure_side : (a b : ℕ) → a / 2 ≡ b / 2 → a % 4 < 2 → b % 4 < 2
secure_side a b same low = omega (arith, same, low)

one_leg : (a b : ℕ) → (b - 20000) % 2 ≡ 1 → a + 1 ≡ b → (a - 20000) / 2 ≡ (b - 20000) / 2
one_leg a b odd next = omega (arith, odd, next)

-- a packet leaves by a port of the leg by which it was put out
same_leg : (leaves : Leaves) → KeepsLegs leaves → (port : ℕ) (to : Address) → ((leaves port to).port - 20000) / 2 ≡ (port - 20000) / 2
same_leg leaves keeps port to = elim (keeps port to) [
  | inl same ↦ ap (λ (l : Leaving). (l.port - 20000) / 2) same
  | inr before ↦ one_leg (leaves port to).port port before.second before.first
]

pub bars_plain : (leaves : Leaves) → KeepsLegs leaves → Bars IsOutPlain leaves
bars_plain leaves keeps (Out port to octets) t is it = plain_side ((leaves port to).port - 20000) (port - 20000) (same_leg leaves keeps port to) (subst IsOutPlain is it)
bars_plain leaves keeps (Dropped port cause) t is it = subst IsOutPlain is.1 it
bars_plain leaves keeps (Sdp id side text) t is it = subst IsOutPlain is.1 it
bars_plain leaves keeps other t is it = subst IsOutPlain is it

pub bars_secure : (leaves : Leaves) → KeepsLegs leaves → Bars IsOutSecure leaves
bars_secure leaves keeps (Out port to octets) t is it = secure_side ((leaves port to).port - 20000) (port - 20000) (same_leg leaves keeps port to) (subst IsOutSecure is it)
bars_secure leaves keeps (Dropped port cause) t is it = subst IsOutSecure is.1 it
bars_secure leaves keeps (Sdp id side text) t is it = subst IsOutSecure is.1 it
bars_secure leaves keeps other t is it = subst IsOutSecure is it

pub bars_out : (leaves : Leaves) → Bars IsOut leaves
bars_out leaves (Out port to octets) t is it = tt
bars_out leaves (Dropped port cause) t is it = subst IsOut is.1 it
bars_out leaves (Sdp id side text) t is it = subst IsOut is.1 it
bars_out leaves other t is it = subst IsOut is it

bars_refusal : (leaves : Leaves) → Bars IsRefusal leaves
bars_refusal leaves (Dropped port cause) t is it = tt
bars_refusal leaves (Sdp id side text) t is it = subst IsRefusal is.1 it
bars_refusal leaves (Refused id cause) t is it = tt
bars_refusal leaves other t is it = subst IsRefusal is it

-- ---- what is told as such was such

any_told : (IsIt : Outcome → Type 0) (leaves : Leaves) → Bars IsIt leaves → (os ts : List Outcome) → AreToldAs leaves os ts → Any IsIt ts → Any IsIt os
any_told IsIt leaves bars [] ts told a = absurd (any_none IsIt (subst (Any IsIt) told a))
any_told IsIt leaves bars (o ∷ os) ts told a = elim (any_cases IsIt told.0 told.1 (subst (Any IsIt) told.2 a)) [
  | inl it ↦ any_here IsIt o os (bars o told.0 told.3 it)
  | inr rest ↦ any_there IsIt o os (any_told IsIt leaves bars os told.1 told.4 rest)
]

pub some_refusal : (p : Passage) → IsFaithful p → IsRefused (as_told p) → IsRefused p.turn
some_refusal p f a = any_told IsRefusal p.leaves (bars_refusal p.leaves) p.turn.outcomes p.told f.told a

module _ (id : CallId) (slot media : ℕ) (why : Why) where
  abbrev IsEnd : Outcome → Type 0
  IsEnd o = o ≡ Ended id slot media why

  bars_end : (leaves : Leaves) → Bars IsEnd leaves
  bars_end leaves (Out port to octets) t is it = absurd (let e : out_by leaves port to octets ≡ Ended id slot media why = sym is ∙ it in cc)
  bars_end leaves (Dropped port cause) t is it = absurd (let e = sym is.1 ∙ it in cc)
  bars_end leaves (Sdp i side text) t is it = absurd (let e = sym is.1 ∙ it in cc)
  bars_end leaves other t is it = sym is ∙ it

  pub some_end : (p : Passage) → IsFaithful p → Any IsEnd p.told → Any IsEnd p.turn.outcomes
  some_end p f a = any_told IsEnd p.leaves (bars_end p.leaves) p.turn.outcomes p.told f.told a

-- ---- a refusal is told as one

refusal_told : (leaves : Leaves) (o t : Outcome) → IsToldAs leaves o t → IsRefusal o → IsRefusal t
refusal_told leaves (Refused id cause) t is it = subst IsRefusal (sym is) it
refusal_told leaves (Dropped port cause) t is it = subst IsRefusal (sym is.1) it
refusal_told leaves other t is it = absurd it

refusals_told : (leaves : Leaves) (os ts : List Outcome) → AreToldAs leaves os ts → Any IsRefusal os → Any IsRefusal ts
refusals_told leaves [] ts told a = absurd (any_none IsRefusal a)
refusals_told leaves (o ∷ os) ts told a = subst (Any IsRefusal) (sym told.2) (elim (any_cases IsRefusal o os a) [
  | inl it ↦ any_here IsRefusal told.0 told.1 (refusal_told leaves o told.0 told.3 it)
  | inr rest ↦ any_there IsRefusal told.0 told.1 (refusals_told leaves os told.1 told.4 rest)
])

pub told_refusal : (p : Passage) → IsFaithful p → IsRefused p.turn → IsRefused (as_told p)
told_refusal p f a = refusals_told p.leaves p.turn.outcomes p.told f.told a
