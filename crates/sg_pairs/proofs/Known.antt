-- What a bridge knows of its calls, slot by slot, and how an outcome changes it.
use Rattle.std.proofs.Common.{◌≡◌, ◌⊎◌, inl, inr, ℕ, ◌<◌, ◌≤◌, Bool, true, false, cond, not, ◌||◌, List, [], ◌∷◌, length, map, Option, Some, None, refl, sym, ap, ◌∙◌, arith, eqb, ltb}
use Rattle.std.proofs.Math.ListN.{get_or-map}
use Rattle.std.proofs.lemmas.Bool.{cases_eq, cases_lt, cond-false, eq-eqb, eqb-false, eqb-true, ne_eqb, false≢true}
use Rattle.std.proofs.lemmas.List.{get_or-set_other, get_or-set_same, get_or_past, length-set}
use Rattle.std.specs.List.{AllByRecursion, Any, filter}
use Rattle.std.specs.Prelude.{option_map, set}
use Rattle.sg_base.specs.declared.addresses.CallId.{CallId}
use Rattle.sg_gateway.proofs.Pairs.{Pairs, each_two}
use Rattle.sg_gateway.specs.Order.{IsBefore}
use Rattle.sg_gateway.specs.Signals.{tells_ended}
use Rattle.sg_gateway.specs.World.{Call, and_call, same_id}
use Rattle.sg_outcome.specs.declared.outcomes.Outcome.{Outcome}
use Rattle.sg_outcome.specs.declared.outcomes.Outcome.TheVariants.{Made, Ended}
use Rattle.sg_outcome.specs.declared.outcomes.Why.{Why}
use Rattle.sg_session.proofs.Lists.{any_cases, any_none, each_at_this, each_filter, each_weaker}
use Rattle.sg_pairs.proofs.Found.{at_set}
use Rattle.sg_pairs.proofs.Mates.{AreMates, emptied_mates}
use Rattle.sg_pairs.specs.Pairs.{Members, after_outcome, emptied, in_pair, in_pair_at, joined_pair, member_at, new_member, now_live, parted, vacated}
use Rattle.sg_pairs.specs.declared.members.Member.{Member}
use Rattle.sg_pairs.specs.declared.members.Pair.{Pair}

-- what is known of a call: its number, its media, and whether it has a generation
pub record Seen : Type 0 where
  pub id : CallId
  pub media : ℕ
  pub live : Bool

abbrev pub seen_in : Member → Seen
seen_in m = record { id = m.id; media = m.media; live = m.is_live }

abbrev pub seen_of : Call → Seen
seen_of c = record { id = c.id; media = c.media; live = not (eqb c.generations 0) }

abbrev pub new_seen : CallId → ℕ → Bool → Seen
new_seen id media live = record { id = id; media = media; live = live }

abbrev pub seen_at : Members → ℕ → Option Seen
seen_at calls s = option_map seen_in (member_at calls s)

-- the same of the calls
abbrev pub at_slot : List Call → ℕ → Option Seen
at_slot [] s = None
at_slot (c ∷ cs) s = cond (eqb c.slot s) (Some (seen_of c)) (at_slot cs s)

-- ---- slots of a bridge

look_set : (calls : Members) (slot s : ℕ) (v : Option Member) (b : Bool) → eqb slot s ≡ b → slot < length calls → seen_at (set calls slot v) s ≡ cond b (option_map seen_in v) (seen_at calls s)
look_set calls slot s v true is lt = ap (seen_at (set calls slot v)) (sym (eqb-true slot s is)) ∙ ap (option_map seen_in) (get_or-set_same calls slot v None lt)
look_set calls slot s v false is lt = ap (option_map seen_in) (get_or-set_other calls slot s v None (λ e. eqb-false slot s is (sym e)))

look_kept : (calls : Members) (slot s : ℕ) (v : Option Member) → option_map seen_in v ≡ seen_at calls slot → seen_at (set calls slot v) s ≡ seen_at calls s
look_kept calls slot s v is = elim (cases_eq s slot) [
  | inl same ↦ ap (seen_at (set calls slot v)) same ∙ at (cases_lt slot (length calls)) ∙ ap (seen_at calls) (sym same)
  | inr other ↦ ap (option_map seen_in) (get_or-set_other calls slot s v None other)
]
  where
    at : (slot < length calls) ⊎ (length calls ≤ slot) → seen_at (set calls slot v) slot ≡ seen_at calls slot
    at (inl lt) = ap (option_map seen_in) (get_or-set_same calls slot v None lt) ∙ is
    at (inr le) = ap (option_map seen_in) (get_or_past (set calls slot v) slot None (omega (arith, le, length-set calls slot v)) ∙ sym (get_or_past calls slot None le))

pair_seen : (p : Option Pair) (m : Option Member) → option_map seen_in (in_pair p m) ≡ option_map seen_in m
pair_seen p None = refl
pair_seen p (Some m) = refl

pair_at_look : (p : Option Pair) (slot : ℕ) (calls : Members) (s : ℕ) → seen_at (in_pair_at p slot calls) s ≡ seen_at calls s
pair_at_look p slot calls s = look_kept calls slot s (in_pair p (member_at calls slot)) (pair_seen p (member_at calls slot))

-- who is joined with whom isn't seen
pub both_look : (p : Option Pair) (a b : ℕ) (calls : Members) (s : ℕ) → seen_at (in_pair_at p b (in_pair_at p a calls)) s ≡ seen_at calls s
both_look p a b calls s = pair_at_look p b (in_pair_at p a calls) s ∙ pair_at_look p a calls s

pub emptied_look : (slot : ℕ) (calls : Members) (s : ℕ) → seen_at (emptied slot calls).calls s ≡ cond (eqb slot s) None (seen_at calls s)
emptied_look slot calls s = go (joined_pair (member_at calls slot))
  where
    gone : (c : Members) → seen_at c s ≡ seen_at calls s → seen_at (set c slot None) s ≡ cond (eqb slot s) None (seen_at calls s)
    gone c same = by (eqb slot s) refl
      where
        by : (b : Bool) → eqb slot s ≡ b → seen_at (set c slot None) s ≡ cond b None (seen_at calls s)
        by true is = ap (seen_at (set c slot None)) (sym (eqb-true slot s is)) ∙ at_set c slot None (λ o. option_map seen_in o ≡ None) refl refl
        by false is = ap (option_map seen_in) (get_or-set_other c slot s None None (λ e. eqb-false slot s is (sym e))) ∙ same

    go : (o : Option Pair) → seen_at (vacated slot calls o).calls s ≡ cond (eqb slot s) None (seen_at calls s)
    go None = gone calls refl
    go (Some p) = gone (parted p calls) (both_look None p.first.slot p.second.slot calls s)

pub made_look : (calls : Members) (id : CallId) (slot media s : ℕ) → AreMates calls → slot < 256 → seen_at (after_outcome calls (Made id slot media)).calls s ≡ cond (eqb slot s) (Some (new_seen id media false)) (seen_at calls s)
made_look calls id slot media s mates low = by (eqb slot s) refl
  where
    within : slot < length (emptied slot calls).calls
    within = let size = (emptied_mates slot calls mates).0.size in omega (arith, size, low)

    by : (b : Bool) → eqb slot s ≡ b → seen_at (set (emptied slot calls).calls slot (Some (new_member id media))) s ≡ cond b (Some (new_seen id media false)) (seen_at calls s)
    by true is = look_set (emptied slot calls).calls slot s (Some (new_member id media)) true is within
    by false is = look_set (emptied slot calls).calls slot s (Some (new_member id media)) false is within ∙ emptied_look slot calls s ∙ ap (λ b. cond b None (seen_at calls s)) is

-- the call of this number has a generation
abbrev pub lives : CallId → Option Seen → Option Seen
lives id o = option_map (λ (x : Seen). cond (same_id x.id id) (new_seen x.id x.media true) x) o

live_member : (id : CallId) (m : Option Member) → option_map seen_in (now_live id m) ≡ lives id (option_map seen_in m)
live_member id None = refl
live_member id (Some m) = by (same_id m.id id)
  where
    by : (b : Bool) → option_map seen_in (Some (cond b (record m { is_live = true }) m)) ≡ Some (cond b (new_seen m.id m.media true) (seen_in m))
    by true = refl
    by false = refl

pub live_look : (id : CallId) (calls : Members) (s : ℕ) → seen_at (map (now_live id) calls) s ≡ lives id (seen_at calls s)
live_look id calls s = ap (option_map seen_in) (get_or-map (now_live id) calls s None) ∙ live_member id (member_at calls s)

-- ---- slots of calls

pub at_map : (s : ℕ) (f : Call → Call) (cs : List Call) → AllByRecursion (λ c. ((f c).slot ≡ c.slot) × (seen_of (f c) ≡ seen_of c)) cs → at_slot (map f cs) s ≡ at_slot cs s
at_map s f [] h = refl
at_map s f (c ∷ cs) h = let rest = at_map s f cs h.1 in (λ i. cond (eqb (h.0.0 i) s) (Some (h.0.1 i)) (rest i))

pub at_lives : (s : ℕ) (id : CallId) (f : Call → Call) (cs : List Call) → AllByRecursion (λ c. ((f c).slot ≡ c.slot) × (Some (seen_of (f c)) ≡ lives id (Some (seen_of c)))) cs → at_slot (map f cs) s ≡ lives id (at_slot cs s)
at_lives s id f [] h = refl
at_lives s id f (c ∷ cs) h = let rest = at_lives s id f cs h.1 in (λ i. cond (eqb (h.0.0 i) s) (h.0.1 i) (rest i)) ∙ go (eqb c.slot s)
  where
    go : (b : Bool) → cond b (lives id (Some (seen_of c))) (lives id (at_slot cs s)) ≡ lives id (cond b (Some (seen_of c)) (at_slot cs s))
    go true = refl
    go false = refl

pub none_at : (s : ℕ) (cs : List Call) → AllByRecursion (λ c. c.slot ≡ s → ⊥) cs → at_slot cs s ≡ None
none_at s [] none = refl
none_at s (c ∷ cs) none = cond-false (eqb c.slot s) _ _ (ne_eqb c.slot s none.0) ∙ none_at s cs none.1

-- where none of them has the number
pub none_lives : (s : ℕ) (id : CallId) (cs : List Call) → AllByRecursion (λ c. same_id c.id id ≡ false) cs → lives id (at_slot cs s) ≡ at_slot cs s
none_lives s id [] none = refl
none_lives s id (c ∷ cs) none = go (none_lives s id cs none.1) (eqb c.slot s)
  where
    go : lives id (at_slot cs s) ≡ at_slot cs s → (b : Bool) → lives id (cond b (Some (seen_of c)) (at_slot cs s)) ≡ cond b (Some (seen_of c)) (at_slot cs s)
    go rest true = ap (λ b. Some (cond b (new_seen c.id c.media true) (seen_of c))) none.0
    go rest false = rest

pub at_and : (s : ℕ) (d : Call) (cs : List Call) → AllByRecursion (λ c. c.slot ≡ d.slot → ⊥) cs → at_slot (and_call d cs) s ≡ cond (eqb d.slot s) (Some (seen_of d)) (at_slot cs s)
at_and s d [] apart = refl
at_and s d (c ∷ cs) apart = go (at_and s d cs apart.1) (ltb d.slot c.slot)
  where
    by : at_slot (and_call d cs) s ≡ cond (eqb d.slot s) (Some (seen_of d)) (at_slot cs s) → (b : Bool) → eqb c.slot s ≡ b → cond b (Some (seen_of c)) (at_slot (and_call d cs) s) ≡ cond (eqb d.slot s) (Some (seen_of d)) (cond b (Some (seen_of c)) (at_slot cs s))
    by rest true is = sym (cond-false (eqb d.slot s) (Some (seen_of d)) (Some (seen_of c)) (ne_eqb d.slot s (λ e. apart.0 (eqb-true c.slot s is ∙ sym e))))
    by rest false is = rest

    go : at_slot (and_call d cs) s ≡ cond (eqb d.slot s) (Some (seen_of d)) (at_slot cs s) → (b : Bool) → at_slot (cond b (d ∷ (c ∷ cs)) (c ∷ and_call d cs)) s ≡ cond (eqb d.slot s) (Some (seen_of d)) (cond (eqb c.slot s) (Some (seen_of c)) (at_slot cs s))
    go rest true = refl
    go rest false = by rest (eqb c.slot s) refl

pub of_and : (P : Call → Type 0) (d : Call) (cs : List Call) → AllByRecursion P (and_call d cs) → P d
of_and P d [] p = p.0
of_and P d (c ∷ cs) p = go (of_and P d cs) (ltb d.slot c.slot) p
  where
    go : (AllByRecursion P (and_call d cs) → P d) → (b : Bool) → AllByRecursion P (cond b (d ∷ (c ∷ cs)) (c ∷ and_call d cs)) → P d
    go more true p = p.0
    go more false p = more p.1

-- ---- calls that go

-- one of these is in the slot
abbrev pub is_in : ℕ → List Call → Bool
is_in s [] = false
is_in s (c ∷ cs) = eqb c.slot s || is_in s cs

not_in : (s : ℕ) (cs : List Call) → AllByRecursion (λ c. c.slot ≡ s → ⊥) cs → is_in s cs ≡ false
not_in s [] none = refl
not_in s (c ∷ cs) none = (λ i. ne_eqb c.slot s none.0 i || not_in s cs none.1 i)

-- without those that a test names, the slots of those are empty
pub at_filter : (s : ℕ) (test : Call → Bool) (cs : List Call) → Pairs IsBefore cs → at_slot (filter (λ c. not (test c)) cs) s ≡ cond (is_in s (filter test cs)) None (at_slot cs s)
at_filter s test [] apart = refl
at_filter s test (c ∷ cs) apart = go (eqb c.slot s) (test c) refl (at_filter s test cs apart.1)
  where
    others : eqb c.slot s ≡ true → AllByRecursion (λ d. d.slot ≡ s → ⊥) cs
    others is = each_weaker (IsBefore c) (λ d. d.slot ≡ s → ⊥) (λ d b e. let lt = b.slot in let at = eqb-true c.slot s is in omega (arith, lt, at, e)) cs apart.0

    left : List Call
    left = filter (λ c. not (test c)) cs

    gone : List Call
    gone = filter test cs

    slot_is : (b t : Bool) → Type 0
    slot_is b t = eqb c.slot s ≡ b → at_slot left s ≡ cond (is_in s gone) None (at_slot cs s)
        → at_slot (cond (not t) (c ∷ left) left) s ≡ cond (is_in s (cond t (c ∷ gone) gone)) None (cond (eqb c.slot s) (Some (seen_of c)) (at_slot cs s))

    go : (b t : Bool) → slot_is b t
    go true true is rest =
        none_at s left (each_filter (λ d. d.slot ≡ s → ⊥) (λ c. not (test c)) cs (others is))
        ∙ sym (ap (λ b. cond (b || is_in s gone) None (cond b (Some (seen_of c)) (at_slot cs s))) is)
    go true false is rest =
        ap (λ b. cond b (Some (seen_of c)) (at_slot left s)) is
        ∙ sym ((λ i. cond (not_in s gone (each_filter (λ d. d.slot ≡ s → ⊥) test cs (others is)) i) None (cond (is i) (Some (seen_of c)) (at_slot cs s))))
    go false true is rest = rest ∙ sym (ap (λ b. cond (b || is_in s gone) None (cond b (Some (seen_of c)) (at_slot cs s))) is)
    go false false is rest =
        ap (λ b. cond b (Some (seen_of c)) (at_slot left s)) is ∙ rest
        ∙ sym (ap (λ b. cond (is_in s gone) None (cond b (Some (seen_of c)) (at_slot cs s))) is)

-- the one call of a serial number
pub filter_one : (c : Call) (cs : List Call) → Pairs IsBefore cs → Any (λ x. x ≡ c) cs → filter (λ x. eqb x.serial c.serial) cs ≡ c ∷ []
filter_one c [] apart a = absurd (any_none (λ x. x ≡ c) a)
filter_one c (x ∷ xs) apart a = go (λ more. filter_one c xs apart.1 more) (eqb x.serial c.serial) refl (any_cases (λ x. x ≡ c) x xs a)
  where
    none : (ys : List Call) → AllByRecursion (λ y. y.serial ≡ c.serial → ⊥) ys → filter (λ y. eqb y.serial c.serial) ys ≡ []
    none [] n = refl
    none (y ∷ ys) n = cond-false (eqb y.serial c.serial) _ _ (ne_eqb y.serial c.serial n.0) ∙ none ys n.1

    go : (Any (λ x. x ≡ c) xs → filter (λ x. eqb x.serial c.serial) xs ≡ c ∷ []) → (b : Bool) → eqb x.serial c.serial ≡ b → (x ≡ c) ⊎ Any (λ x. x ≡ c) xs
        → cond b (x ∷ filter (λ x. eqb x.serial c.serial) xs) (filter (λ x. eqb x.serial c.serial) xs) ≡ c ∷ []
    go rest true is (inl same) =
        let empty = none xs (each_weaker (IsBefore x) (λ y. y.serial ≡ c.serial → ⊥) (λ y b e. b.serial (ap (λ (c : Call). c.serial) same ∙ sym e)) xs apart.0) in (λ i. same i ∷ empty i)
    go rest true is (inr more) = absurd ((each_at_this (IsBefore x) xs c apart.0 more).serial (eqb-true _ _ is))
    go rest false is (inl same) = absurd (false≢true (sym is ∙ eq-eqb x.serial c.serial (ap (λ (c : Call). c.serial) same)))
    go rest false is (inr more) = rest more

-- the call of a number is one
pub one_id : (c : Call) (cs : List Call) → Pairs IsBefore cs → Any (λ x. x ≡ c) cs → AllByRecursion (λ x. x.id ≡ c.id → x ≡ c) cs
one_id c [] apart a = tt
one_id c (x ∷ xs) apart a = go (λ rest. one_id c xs apart.1 rest) (any_cases (λ x. x ≡ c) x xs a)
  where
    go : (Any (λ x. x ≡ c) xs → AllByRecursion (λ x. x.id ≡ c.id → x ≡ c) xs) → (x ≡ c) ⊎ Any (λ x. x ≡ c) xs → AllByRecursion (λ x. x.id ≡ c.id → x ≡ c) (x ∷ xs)
    go more (inl same) = ((λ e. same), each_weaker _ _ (λ y before e. absurd (before.id (ap (λ (c : Call). c.id) same ∙ sym e))) xs apart.0)
    go more (inr rest) = ((λ e. absurd ((each_at_this (IsBefore x) xs c apart.0 rest).id e)), more rest)

-- ---- what the table tells fits what a bridge knows: a call is made in an empty slot, and ends in its own

-- whoever is known in the slot has this number
abbrev pub IsOfId : Members → ℕ → CallId → Type 0
IsOfId calls slot id = (x : Seen) → seen_at calls slot ≡ Some x → x.id ≡ id

abbrev pub FitsOne : Members → Outcome → Type 0
FitsOne calls (Made id slot media) = seen_at calls slot ≡ None
FitsOne calls (Ended id slot media why) = IsOfId calls slot id
FitsOne calls other = Unit {0}

-- each of them, after those before it
abbrev pub Fits : Members → List Outcome → Type 0
Fits calls [] = Unit {0}
Fits calls (o ∷ os) = FitsOne calls o × Fits (after_outcome calls o).calls os

-- each call is at its slot
pub each_at_slot : (cs : List Call) → Pairs IsBefore cs → AllByRecursion (λ c. at_slot cs c.slot ≡ Some (seen_of c)) cs
each_at_slot [] apart = tt
each_at_slot (c ∷ cs) apart = (
  ap (λ b. cond b (Some (seen_of c)) (at_slot cs c.slot)) (eq-eqb c.slot c.slot refl),
  each_two (IsBefore c) (λ d. at_slot cs d.slot ≡ Some (seen_of d)) (λ d. at_slot (c ∷ cs) d.slot ≡ Some (seen_of d))
      (λ d b at. cond-false (eqb c.slot d.slot) (Some (seen_of c)) (at_slot cs d.slot) (ne_eqb c.slot d.slot (λ e. let lt = b.slot in omega (arith, lt, e))) ∙ at) cs apart.0 (each_at_slot cs apart.1),
)

-- where a call ends, the others keep their numbers
still_of_id : (calls : Members) (gone slot : ℕ) (id : CallId) → IsOfId calls slot id → IsOfId (emptied gone calls).calls slot id
still_of_id calls gone slot id of x is = go (eqb gone slot) (sym (emptied_look gone calls slot) ∙ is)
  where
    go : (b : Bool) → cond b None (seen_at calls slot) ≡ Some x → x.id ≡ id
    go true e = absurd cc
    go false e = of x e

pub ends_fit : (why : Why) (calls : Members) (ds : List Call) → AllByRecursion (λ d. IsOfId calls d.slot d.id) ds → Fits calls (map (tells_ended why) ds)
ends_fit why calls [] of = tt
ends_fit why calls (d ∷ ds) of = (
  of.0,
  ends_fit why (emptied d.slot calls).calls ds (each_weaker (λ e. IsOfId calls e.slot e.id) (λ e. IsOfId (emptied d.slot calls).calls e.slot e.id) (λ e is. still_of_id calls d.slot e.slot e.id is) ds of.1),
)

-- each call is known in its slot under its number
pub each_of_id : (calls : Members) (cs : List Call) → Pairs IsBefore cs → ((s : ℕ) → seen_at calls s ≡ at_slot cs s) → AllByRecursion (λ c. IsOfId calls c.slot c.id) cs
each_of_id calls cs apart knows =
    each_weaker (λ c. at_slot cs c.slot ≡ Some (seen_of c)) (λ c. IsOfId calls c.slot c.id) (λ c at. of_it c at) cs (each_at_slot cs apart)
  where
    of_it : (c : Call) → at_slot cs c.slot ≡ Some (seen_of c) → IsOfId calls c.slot c.id
    of_it c at x is = let same : Some x ≡ Some (seen_of c) = sym is ∙ knows c.slot ∙ at in (let one : x ≡ seen_of c = cc in ap (λ (x : Seen). x.id) one)
