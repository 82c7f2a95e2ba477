-- The ports that wait: which stand there when a port leaves, and in which order they are asked.
use Rattle.std.proofs.Common.{◌≡◌, ◌<◌, ◌+◌, ℕ, length, Bool, true, false, List, [], ◌∷◌, ◌++◌, take, drop, Option, Some, None, Result, Ok, Err, refl, sym, ap, subst, ◌∙◌, arith, append_assoc, take-append-drop, inl, inr}
use Rattle.std.specs.Prelude.{◌==◌, ◌≢◌, if◌then◌else◌, nat_lt, not, cond}
use Rattle.std.specs.BTreeMap.{get}
use Rattle.std.specs.Ordering.{is_eq, nat_cmp}
use Rattle.std.specs.declared.cmp.Ordering.TheVariants.{Less, Equal, Greater}
use Rattle.std.proofs.lemmas.Bool.{cases_eq, eqb-true, ne_eqb}
use Rattle.std.proofs.lemmas.List.{append-nil, drop-drop}
use Rattle.std.proofs.lemmas.List.Sums.{sum_by-cons}
use Rattle.sg_base.specs.declared.Failed.{Failed}
use Rattle.sg_edge.specs.declared.link.Receipt.{Receipt}
use Rattle.sg_edge.specs.declared.link.Receipt.TheVariants as receipts
use Rattle.sg_edge.specs.declared.ports.Bound.{Bound}
use Rattle.sg_edge.specs.Ports.{AllComeNearer, AreAsked, IsMarkedWaiting, IsNearer, IsTaken, Sockets, is_marked, joined, row_behind, served, times, turned, without}

-- one more at the head
times_more : (port x : ℕ) (ws : List ℕ) → times port (x ∷ ws) ≡ cond (x == port) 1 0 + times port ws
times_more port x ws = sum_by-cons (λ other. cond (other == port) 1 0) x ws

none_more : (n : ℕ) → 0 + n ≡ n
none_more n = omega arith

pub times_at : (port x : ℕ) (ws : List ℕ) (b : Bool) → (x == port) ≡ b → times port (x ∷ ws) ≡ cond b (1 + times port ws) (times port ws)
times_at port x ws true e = times_more port x ws ∙ ap (λ b. cond b 1 0 + times port ws) e
times_at port x ws false e = times_more port x ws ∙ (ap (λ b. cond b 1 0 + times port ws) e ∙ none_more (times port ws))

-- a port that was taken out stands there no more
pub taken_out : (port : ℕ) (ws : List ℕ) → times port (without port ws) ≡ 0
taken_out port [] = refl
taken_out port (x ∷ ws) = by (x == port) refl (taken_out port ws)
  where
    by : (b : Bool) → (x == port) ≡ b → times port (without port ws) ≡ 0 → times port (cond (not b) (x ∷ without port ws) (without port ws)) ≡ 0
    by true e rest = rest
    by false e rest = times_at port x (without port ws) false e ∙ rest

-- the others stand there as often as before
pub others_stay : (port q : ℕ) → q ≢ port → (ws : List ℕ) → times q (without port ws) ≡ times q ws
others_stay port q apart [] = refl
others_stay port q apart (x ∷ ws) = by (x == port) refl (others_stay port q apart ws)
  where
    by : (b : Bool) → (x == port) ≡ b → times q (without port ws) ≡ times q ws → times q (cond (not b) (x ∷ without port ws) (without port ws)) ≡ times q (x ∷ ws)
    by true e rest = rest ∙ sym (times_at q x ws false (ne_eqb x q (λ same. apart (sym same ∙ eqb-true x port e))))
    by false e rest = times_more q x (without port ws) ∙ ap (λ n. cond (x == q) 1 0 + n) rest ∙ sym (times_more q x ws)

-- a list stays that hasn't the port
stays : (port : ℕ) (ws : List ℕ) → times port ws ≡ 0 → ws ≡ without port ws
stays port [] none = refl
stays port (x ∷ ws) none = by (x == port) refl (stays port ws)
  where
    by : (b : Bool) → (x == port) ≡ b → (times port ws ≡ 0 → ws ≡ without port ws) → x ∷ ws ≡ cond (not b) (x ∷ without port ws) (without port ws)
    by true e rest =
        let never : ⊥ = omega (arith, times_at port x ws true e, none) in
        absurd never
    by false e rest = ap (λ l. x ∷ l) (rest (sym (times_at port x ws false e) ∙ none))

-- a port that has no mark isn't among those that wait
pub unmarked_stays : (bound : Sockets) (ws : List ℕ) (port : ℕ) → IsMarkedWaiting bound ws port → (b : Option Bound) → b ≡ get nat_cmp bound port → is_marked b ≡ false → ws ≡ without port ws
unmarked_stays bound ws port marked b is unmarked = stays port ws (marked ∙ ap (λ m. cond m 1 0) (ap is_marked (sym is) ∙ unmarked))

pub is_apart : (port q : ℕ) → q ≢ port → is_eq (nat_cmp port q) ≡ false
is_apart port q apart = by (nat_lt port q) (port == q) refl
  where
    by : (a b : Bool) → (port == q) ≡ b → is_eq (cond a Less (cond b Equal Greater)) ≡ false
    by true b e = refl
    by false true e = absurd (apart (sym (eqb-true port q e)))
    by false false e = refl

-- the marks are right when a port was taken out
pub marked_without : (old new : Sockets) (ws ws' : List ℕ) (port : ℕ) → ((q : ℕ) → IsMarkedWaiting old ws q) → get nat_cmp new port ≡ None
    → ((q : ℕ) → is_eq (nat_cmp port q) ≡ false → get nat_cmp new q ≡ get nat_cmp old q) → ws' ≡ without port ws → (q : ℕ) → IsMarkedWaiting new ws' q
marked_without old new ws ws' port marked gone others is q = elim (cases_eq q port) [
  | inl same ↦ subst (λ (p : ℕ). IsMarkedWaiting new ws' p) (sym same) (ap (times port) is ∙ taken_out port ws ∙ sym (ap (λ b. cond (is_marked b) 1 0) gone))
  | inr apart ↦ ap (times q) is ∙ others_stay port q apart ws ∙ marked q ∙ sym (ap (λ b. cond (is_marked b) 1 0) (others q (is_apart port q apart)))
]

-- a port that joins adds to the end
pub joined_more : (port : ℕ) (b : Option Bound) (ws : List ℕ) → (more : List ℕ) × (joined port b ws ≡ ws ++ more)
joined_more port None ws = ([], sym (append-nil ws))
joined_more port (Some b) ws = by b.is_waiting
  where
    by : (w : Bool) → (more : List ℕ) × (cond w ws (ws ++ port ∷ []) ≡ ws ++ more)
    by true = ([], sym (append-nil ws))
    by false = (port ∷ [], refl)

pub more_joined : (port : ℕ) (b : Option Bound) (old mid new : List ℕ) → ((more : List ℕ) × (mid ≡ old ++ more)) → new ≡ joined port b mid → (more : List ℕ) × (new ≡ old ++ more)
more_joined port b old mid new before is =
    let next = joined_more port b mid in
    (before.0 ++ next.0, is ∙ next.1 ∙ ap (λ (l : List ℕ). l ++ next.0) before.1 ∙ append_assoc old before.0 next.0)

-- no port came
pub none_behind : (ws : List ℕ) → (more : List ℕ) × (ws ≡ ws ++ more)
none_behind ws = ([], sym (append-nil ws))

-- so many were asked and had none
pub none_left : (n : ℕ) (old mid new : List ℕ) → mid ≡ drop n old → new ≡ drop 1 mid → new ≡ drop (n + 1) old
none_left n old mid new before is = is ∙ ap (drop 1) before ∙ drop-drop 1 n old

pub asked_to : (n : ℕ) (old mid rest : List ℕ) (port : ℕ) → mid ≡ drop n old → mid ≡ port ∷ rest → old ≡ take n old ++ port ∷ rest
asked_to n old mid rest port before is = sym (take-append-drop n old) ∙ ap (λ (l : List ℕ). take n old ++ l) (sym before ∙ is)

-- a port that stands behind so many and one more stands in the rest behind that one
split : (before ahead rest z : List ℕ) (port q : ℕ) → ahead ++ q ∷ z ≡ before ++ port ∷ rest → length before < length ahead
    → (mid : List ℕ) × (length ahead ≡ length before + (1 + length mid)) × (rest ≡ mid ++ q ∷ z)
split [] [] rest z port q same less = absurd (omega (arith, less))
split [] (x ∷ xs) rest z port q same less = (xs, omega arith, (let both : x ∷ (xs ++ q ∷ z) ≡ port ∷ rest = same in cc))
split (b ∷ bs) [] rest z port q same less = absurd (omega (arith, less))
split (b ∷ bs) (x ∷ xs) rest z port q same less =
    let both : x ∷ (xs ++ q ∷ z) ≡ b ∷ (bs ++ port ∷ rest) = same in
    let tails : xs ++ q ∷ z ≡ bs ++ port ∷ rest = cc in
    let next = split bs xs rest z port q tails (omega (arith, less)) in
    (next.0, omega (arith, next.1), next.2)

-- a port that gave a datagram leaves those behind it nearer to their turns
comes_nearer : (row : ℕ) (before ahead mid rest z : List ℕ) (port q : ℕ) → row < 16 → length ahead ≡ length before + (1 + length mid) → rest ≡ mid ++ q ∷ z
    → (b : Bool) → nat_lt (row + 1) 16 ≡ b
    → (ahead' behind' : List ℕ) × ((if b then port ∷ rest else turned (port ∷ rest)) ≡ ahead' ++ q ∷ behind') × IsNearer row ahead (if b then row + 1 else 0) ahead'
comes_nearer row before ahead mid rest z port q short size is true e = (port ∷ mid, z, ap (λ (l : List ℕ). port ∷ l) is, omega (arith, size, short))
comes_nearer row before ahead mid rest z port q short size is false e =
    (mid, z ++ port ∷ [], ap (λ (l : List ℕ). l ++ port ∷ []) is ∙ append_assoc mid (q ∷ z) (port ∷ []), omega (arith, size, short))

all_come_nearer : (row : ℕ) (before rest more old : List ℕ) (port : ℕ) → row < 16 → old ++ more ≡ before ++ port ∷ rest
    → AllComeNearer before row old (row_behind row) (served row (port ∷ rest))
all_come_nearer row before rest more old port short there q ahead behind is less =
    let apart = split before ahead rest (behind ++ more) port q (sym (append_assoc ahead (q ∷ behind) more) ∙ (ap (λ (l : List ℕ). l ++ more) (sym is) ∙ there)) less in
    comes_nearer row before ahead apart.0 rest (behind ++ more) port q short apart.1 apart.2 (nat_lt (row + 1) 16) refl

-- what was asked behind what came is what a receive leaves
pub taken_of : (r : Result Receipt Failed) (row row1 row' : ℕ) (old mid new more : List ℕ) → row < 16 → mid ≡ old ++ more → row1 ≡ row → AreAsked r row1 mid row' new → IsTaken r row old row' new
taken_of (Ok (receipts.Got port from)) row row1 row' old mid new more short came kept asked =
    let there : old ++ more ≡ asked.0 ++ port ∷ asked.1 = sym came ∙ asked.2 in
    let new_is : new ≡ served row (port ∷ asked.1) = asked.3 ∙ ap (λ (n : ℕ). served n (port ∷ asked.1)) kept in
    let row_is : row' ≡ row_behind row = asked.4 ∙ ap row_behind kept in (
      more,
      asked.0,
      asked.1,
      there,
      new_is,
      row_is,
      λ q ahead behind is less.
          let near = all_come_nearer row asked.0 asked.1 more old port short there q ahead behind is less in
          (near.0, near.1, new_is ∙ near.2, subst (λ (n : ℕ). IsNearer row ahead n near.0) (sym row_is) near.3),
    )
taken_of (Ok receipts.Nothing) row row1 row' old mid new more short came kept asked = (asked.0, asked.1 ∙ kept)
taken_of (Err e) row row1 row' old mid new more short came kept asked = tt

over : (old more first later before rest : List ℕ) (port : ℕ) → first ≡ old ++ more → later ≡ before ++ port ∷ rest → old ++ (more ++ later) ≡ (first ++ before) ++ port ∷ rest
over old more first later before rest port came is =
    sym (append_assoc old more later) ∙ (ap (λ (l : List ℕ). l ++ later) (sym came) ∙ (ap (λ (l : List ℕ). first ++ l) is ∙ sym (append_assoc first before (port ∷ rest))))

-- the same where none of the first had a datagram and others came
pub taken_later : (r : Result Receipt Failed) (row row1 row2 row3 row' : ℕ) (old first empty mid new more later : List ℕ) → row < 16
    → first ≡ old ++ more → row1 ≡ row → AreAsked (Ok receipts.Nothing) row1 first row2 empty → mid ≡ empty ++ later → row3 ≡ row2 → AreAsked r row3 mid row' new → IsTaken r row old row' new
taken_later (Ok (receipts.Got port from)) row row1 row2 row3 row' old first empty mid new more later short came kept none came' kept' asked =
    let rows : row3 ≡ row = kept' ∙ none.1 ∙ kept in
    let behind_them : later ≡ asked.0 ++ port ∷ asked.1 = sym (came' ∙ ap (λ (l : List ℕ). l ++ later) none.0) ∙ asked.2 in
    let there : old ++ (more ++ later) ≡ (first ++ asked.0) ++ port ∷ asked.1 = over old more first later asked.0 asked.1 port came behind_them in
    let new_is : new ≡ served row (port ∷ asked.1) = asked.3 ∙ ap (λ (n : ℕ). served n (port ∷ asked.1)) rows in
    let row_is : row' ≡ row_behind row = asked.4 ∙ ap row_behind rows in (
      more ++ later,
      first ++ asked.0,
      asked.1,
      there,
      new_is,
      row_is,
      λ q ahead behind is less.
          let near = all_come_nearer row (first ++ asked.0) asked.1 (more ++ later) old port short there q ahead behind is less in
          (near.0, near.1, new_is ∙ near.2, subst (λ (n : ℕ). IsNearer row ahead n near.0) (sym row_is) near.3),
    )
taken_later (Ok receipts.Nothing) row row1 row2 row3 row' old first empty mid new more later short came kept none came' kept' asked =
    (asked.0, asked.1 ∙ (kept' ∙ none.1 ∙ kept))
taken_later (Err e) row row1 row2 row3 row' old first empty mid new more later short came kept none came' kept' asked = tt
