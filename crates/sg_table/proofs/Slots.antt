-- The call of a port is the one in the port's slot.
use Rattle.std.proofs.Common.{◌≡◌, ◌⊎◌, inl, inr, ℕ, suc, ◌+◌, ◌-◌, ◌*◌, ◌/◌, ◌<◌, ◌≤◌, Bool, true, false, cond, ◌&&◌, ◌||◌, List, [], ◌∷◌, length, get_or, map, Some, None, refl, sym, ap, ◌∙◌, subst, arith, eqb, ltb}
use Rattle.std.proofs.Math.ListN.{set}
use Rattle.std.proofs.lemmas.Bool.{leb-true, ltb-true, ltb-false, eqb-true, eq-eqb, false≢true, false_from_ne_true}
use Rattle.std.proofs.lemmas.Iterator.Adapters.{position_from-zero}
use Rattle.std.proofs.lemmas.List.{get_or-map, length-map}
use Rattle.std.specs.List.{AllByRecursion, position, position_from, list_any}
use Rattle.sg_base.proofs.Cases.{none_some}
use Rattle.sg_session.proofs.Lists.{each_weaker}
use Rattle.sg_call.specs.Values.{CallValue}
use Rattle.sg_gateway.proofs.Pairs.{each_two}
use Rattle.sg_gateway.proofs.Passing.{each_unmap}
use Rattle.sg_table.specs.Parts.{handled_first, first_handled}
use Rattle.sg_table.specs.Slots.{slot_at}
use Rattle.sg_table.specs.Values.{Shape, shape_of, shapes_of, has_shape_port, has_call_port, AreRising}

-- ---- the first element that passes a test

module _ {X : Type 0} (p : X → Bool) where
  none_from : (k : ℕ) (xs : List X) → position_from p k xs ≡ None → AllByRecursion (λ x. p x ≡ false) xs
  none_from k [] e = tt
  none_from k (x ∷ xs) e = go (p x) refl (none_from (k + 1) xs) e
    where
      go : (b : Bool) → p x ≡ b → (position_from p (k + 1) xs ≡ None → AllByRecursion (λ x. p x ≡ false) xs) → cond b (Some k) (position_from p (k + 1) xs) ≡ None
          → (p x ≡ false) × AllByRecursion (λ x. p x ≡ false) xs
      go true is rest e = absurd (none_some k (sym e))
      go false is rest e = (is, rest e)

  pub none_of : (xs : List X) → position p xs ≡ None → AllByRecursion (λ x. p x ≡ false) xs
  none_of xs e = none_from 0 xs (sym (position_from-zero p xs) ∙ e)

  none_passes : (k : ℕ) (xs : List X) → AllByRecursion (λ x. p x ≡ false) xs → position_from p k xs ≡ None
  none_passes k [] each = refl
  none_passes k (x ∷ xs) each = ap (λ b. cond b (Some k) (position_from p (k + 1) xs)) each.0 ∙ none_passes (k + 1) xs each.1

  -- what holds of a list and a place in it, by way of the elements before that place
  module _ (P : List X → ℕ → Type 0) (here : (x : X) (xs : List X) → p x ≡ true → P (x ∷ xs) 0) (there : (x : X) (xs : List X) (j : ℕ) → p x ≡ false → P xs j → P (x ∷ xs) (suc j)) where
    found_from : (k i : ℕ) (xs : List X) → position_from p k xs ≡ Some i → (j : ℕ) × (i ≡ k + j) × P xs j
    found_from k i [] e = absurd (none_some i e)
    found_from k i (x ∷ xs) e = go (p x) refl (found_from (k + 1) i xs) e
      where
        go : (b : Bool) → p x ≡ b → (position_from p (k + 1) xs ≡ Some i → (j : ℕ) × (i ≡ (k + 1) + j) × P xs j) → cond b (Some k) (position_from p (k + 1) xs) ≡ Some i
            → (j : ℕ) × (i ≡ k + j) × P (x ∷ xs) j
        go true is rest e = let same : k ≡ i = cc in (0, omega (arith, same), here x xs is)
        go false is rest e = let (j, at, holds) = rest e in (suc j, omega (arith, at), there x xs j is holds)

    pub found_where : (i : ℕ) (xs : List X) → position p xs ≡ Some i → P xs i
    found_where i xs e =
        let (j, at, holds) = found_from 0 i xs (sym (position_from-zero p xs) ∙ e) in
        subst (P xs) (let same : j ≡ i = omega (arith, at) in same) holds

-- ---- ports and slots

pub both_true : (a b : Bool) → (a && b) ≡ true → (a ≡ true) × (b ≡ true)
both_true true b e = (refl, e)
both_true false b e = absurd (false≢true e)

-- a port of a call is in the call's slot
in_slot : (port : ℕ) (s : Shape) → s.media ≤ 4 → has_shape_port port s ≡ true → (20000 ≤ port) × (s.slot ≡ (port - 20000) / 16)
in_slot port s few has =
    let (a, b) = both_true _ _ has in
    let low : 20000 + 16 * s.slot + 4 * 0 + 0 ≤ port = leb-true _ _ a in
    let high : port < 20000 + 16 * s.slot + 4 * s.media + 0 = ltb-true _ _ b in
    (omega (arith, low), omega (arith, low, high, few))

low_of : (ss : List Shape) → AreRising ss → AllByRecursion (λ s. (s.media ≤ 4) × (s.slot < 256)) ss
low_of [] r = tt
low_of (s ∷ ss) r = ((r.0, r.1), low_of ss r.3)

module _ (port : ℕ) where
  abbrev slot : ℕ
  slot = (port - 20000) / 16

  abbrev at : Shape → Bool
  at s = eqb s.slot slot

  abbrev has : Shape → Bool
  has s = has_shape_port port s

  -- a call in another slot has not the port
  not_here : (s : Shape) → s.media ≤ 4 → at s ≡ false → has s ≡ false
  not_here s few other = false_from_ne_true (has s) (λ h. false≢true (sym other ∙ eq-eqb _ _ (in_slot port s few h).1))

  -- behind a call in the slot none has it
  behind : (s : Shape) (ss : List Shape) → s.slot ≡ slot → AreRising (s ∷ ss) → AllByRecursion (λ t. has t ≡ false) ss
  behind s ss here r = each_two (λ t. s.slot < t.slot) (λ t. (t.media ≤ 4) × (t.slot < 256)) (λ t. has t ≡ false)
      (λ t lt low. false_from_ne_true (has t) (λ h. (let e = (in_slot port t low.0 h).1 in absurd (omega (arith, lt, e, here))))) ss r.2 (low_of ss r.3)

  -- the call in the slot is the one that may have it
  at_place : (d : Shape) (i : ℕ) (ss : List Shape) → position at ss ≡ Some i → AreRising ss → (i < length ss) × ((k : ℕ) → position_from has k ss ≡ cond (has (get_or ss i d)) (Some (k + i)) None)
  at_place d = found_where at (λ ss i. AreRising ss → (i < length ss) × ((k : ℕ) → position_from has k ss ≡ cond (has (get_or ss i d)) (Some (k + i)) None))
      (λ s ss here r. (
        omega arith,
        λ k.
            (let same : k ≡ k + 0 = omega arith in let none = none_passes has (k + 1) ss (behind s ss (eqb-true _ _ here) r) in (λ x. cond (has s) (Some (same x)) (none x))),
      ))
      (λ s ss j other rest r.
      (let (lt, found) = rest r.3 in (
        omega (arith, lt),
        λ k.
            (let same : k + 1 + j ≡ k + suc j = omega arith in
            ap (λ b. cond b (Some k) (position_from has (k + 1) ss)) (not_here s r.0 other) ∙ found (k + 1) ∙ ap (λ n. cond (has (get_or ss j d)) (Some n) None) same),
      )))

position_map : (p : Shape → Bool) (k : ℕ) (calls : List CallValue) → position_from p k (shapes_of calls) ≡ position_from (λ c. p (shape_of c)) k calls
position_map p k [] = refl
position_map p k (c ∷ cs) = ap (λ o. cond (p (shape_of c)) (Some k) o) (position_map p (k + 1) cs)

module _ (port : ℕ) (calls : List CallValue) (rising : AreRising (shapes_of calls)) where
  by_shapes : position (has_call_port port) calls ≡ position_from (has_shape_port port) 0 (shapes_of calls)
  by_shapes = position_from-zero (has_call_port port) calls ∙ sym (position_map (has_shape_port port) 0 calls)

  pub nowhere : position (λ (s : Shape). eqb s.slot (slot port)) (shapes_of calls) ≡ None → position (has_call_port port) calls ≡ None
  nowhere e = by_shapes ∙ none_passes (has_shape_port port) 0 (shapes_of calls)
      (each_two _ _ (λ s. has_shape_port port s ≡ false) (λ s low other. not_here port s low.0 other) (shapes_of calls) (low_of (shapes_of calls) rising) (none_of _ (shapes_of calls) e))

  pub somewhere : (i : ℕ) (d : CallValue) → position (λ (s : Shape). eqb s.slot (slot port)) (shapes_of calls) ≡ Some i
      → (i < length calls) × (position (has_call_port port) calls ≡ cond (has_call_port port (get_or calls i d)) (Some i) None)
  somewhere i d e =
      let (lt, found) = at_place port (shape_of d) i (shapes_of calls) e rising in
      let within : i < length calls = subst (λ n. i < n) (length-map calls shape_of) lt in
      let place : 0 + i ≡ i = omega arith in
      (within, by_shapes ∙ found 0 ∙ (λ x. cond (has_shape_port port (get_or-map shape_of calls i d (shape_of d) within x)) (Some (place x)) None))

  -- a port outside the plan has no call
  pub outside : (port < 20000) ⊎ (256 ≤ slot port) → position (has_call_port port) calls ≡ None
  outside out = by_shapes
      ∙ none_passes (has_shape_port port) 0 (shapes_of calls) (each_weaker _ _ (λ s low. false_from_ne_true _ (λ h. go s low out (in_slot port s low.0 h))) (shapes_of calls) (low_of (shapes_of calls) rising))
    where
      go : (s : Shape) → (s.media ≤ 4) × (s.slot < 256) → (port < 20000) ⊎ (256 ≤ slot port) → (20000 ≤ port) × (s.slot ≡ slot port) → ⊥
      go s low (inl lt) h = (let a = h.0 in absurd (omega (arith, a, lt)))
      go s low (inr le) h = (let a = h.1 in let b = low.1 in absurd (omega (arith, a, b, le)))

  pub no_slot : slot_at port ≡ None → position (has_call_port port) calls ≡ None
  no_slot e = go (ltb port 20000) (ltb (slot port) 256) refl refl e
    where
      go : (a b : Bool) → ltb port 20000 ≡ a → ltb (slot port) 256 ≡ b → cond a None (cond b (Some (slot port)) None) ≡ None → position (has_call_port port) calls ≡ None
      go true b is_a is_b e = outside (inl (ltb-true _ _ is_a))
      go false false is_a is_b e = outside (inr (ltb-false _ _ is_b))
      go false true is_a is_b e = absurd (none_some (slot port) (sym e))

  slot_is : (s : ℕ) → slot_at port ≡ Some s → s ≡ slot port
  slot_is s e = go (ltb port 20000) (ltb (slot port) 256) e
    where
      go : (a b : Bool) → cond a None (cond b (Some (slot port)) None) ≡ Some s → s ≡ slot port
      go true b e = absurd (none_some s e)
      go false false e = absurd (none_some s e)
      go false true e = let same : slot port ≡ s = cc in sym same

  pub no_call : (s : ℕ) → slot_at port ≡ Some s → position (λ (x : Shape). eqb x.slot s) (shapes_of calls) ≡ None → position (has_call_port port) calls ≡ None
  no_call s e none = nowhere (subst (λ n. position (λ (x : Shape). eqb x.slot n) (shapes_of calls) ≡ None) (slot_is s e) none)

  pub one_call : (s i : ℕ) (d : CallValue) → slot_at port ≡ Some s → position (λ (x : Shape). eqb x.slot s) (shapes_of calls) ≡ Some i
      → (i < length calls) × (position (has_call_port port) calls ≡ cond (has_call_port port (get_or calls i d)) (Some i) None)
  one_call s i d e is = somewhere i d (subst (λ n. position (λ (x : Shape). eqb x.slot n) (shapes_of calls) ≡ Some i) (slot_is s e) is)

  some_element : (P : Type 0) (p : Shape → Bool) (i : ℕ) (cs : List CallValue) → position p (shapes_of cs) ≡ Some i → ((d : CallValue) → P) → P
  some_element P p i [] e f = absurd (none_some i e)
  some_element P p i (c ∷ cs) e f = f c

  -- whether it has the port, by a test of it
  pub tested : (s i : ℕ) (b : Bool) → slot_at port ≡ Some s → position (λ (x : Shape). eqb x.slot s) (shapes_of calls) ≡ Some i
      → ((d : CallValue) → b ≡ has_call_port port (get_or calls i d)) → position (has_call_port port) calls ≡ cond b (Some i) None
  tested s i b e is test = some_element _ (λ (x : Shape). eqb x.slot s) i calls is (λ d. (let (within, found) = one_call s i d e is in found ∙ ap (λ t. cond t (Some i) None) (sym (test d))))

-- A change of the one call at a port.
module _ (port : ℕ) (f : CallValue → CallValue) where
  abbrev changed : CallValue → CallValue
  changed c = cond (has_call_port port c) (f c) c

  unchanged : (calls : List CallValue) → AllByRecursion (λ c. has_call_port port c ≡ false) calls → map changed calls ≡ calls
  unchanged [] p = refl
  unchanged (c ∷ cs) p = (λ i. cond (p.0 i) (f c) c ∷ unchanged cs p.1 i)

  pub none_changed : (calls : List CallValue) → position (has_call_port port) calls ≡ None → map changed calls ≡ calls
  none_changed calls e = unchanged calls (none_of _ calls e)

  -- all behind the one have other ports
  pub others : (c : CallValue) (cs : List CallValue) → AreRising (shapes_of (c ∷ cs)) → has_call_port port c ≡ true → AllByRecursion (λ e. has_call_port port e ≡ false) cs
  others c cs r has = each_unmap shape_of (λ s. has_shape_port port s ≡ false) cs (behind port (shape_of c) (shapes_of cs) (in_slot port (shape_of c) r.0 has).1 r)

  pub one_changed : (d : CallValue) (i : ℕ) (calls : List CallValue) → AreRising (shapes_of calls) → position (has_call_port port) calls ≡ Some i
      → (i < length calls) × (map changed calls ≡ set calls i (f (get_or calls i d))) × (has_call_port port (get_or calls i d) ≡ true)
  one_changed d i calls r e = found_where (has_call_port port)
      (λ cs j. AreRising (shapes_of cs) → (j < length cs) × (map changed cs ≡ set cs j (f (get_or cs j d))) × (has_call_port port (get_or cs j d) ≡ true))
      (λ c cs is r. (omega arith, (λ x. cond (is x) (f c) c ∷ unchanged cs (others c cs r is) x), is))
      (λ c cs j is rest r. (let (lt, made, has) = rest r.3 in (omega (arith, lt), (λ x. cond (is x) (f c) c ∷ made x), has))) i calls e r

-- whether some call has a port
pub taken_none : (port : ℕ) (calls : List CallValue) → position (has_call_port port) calls ≡ None → list_any (has_shape_port port) (shapes_of calls) ≡ false
taken_none port calls e = go calls (none_of _ calls e)
  where
    go : (calls : List CallValue) → AllByRecursion (λ c. has_call_port port c ≡ false) calls → list_any (has_shape_port port) (shapes_of calls) ≡ false
    go [] p = refl
    go (c ∷ cs) p = (λ i. p.0 i || go cs p.1 i)

pub taken_some : (port : ℕ) (i : ℕ) (calls : List CallValue) → position (has_call_port port) calls ≡ Some i → list_any (has_shape_port port) (shapes_of calls) ≡ true
taken_some port = found_where (has_call_port port) (λ cs j. list_any (has_shape_port port) (shapes_of cs) ≡ true)
    (λ c cs is x. is x || list_any (has_shape_port port) (shapes_of cs)) (λ c cs j is rest x. is x || rest x)

-- the first datagram that the call at a port has handled
pub first_at : (port i : ℕ) (d : CallValue) (calls : List CallValue) → position (has_call_port port) calls ≡ Some i → handled_first port calls ≡ first_handled (get_or calls i d).handled
first_at port i d calls e = found_where (has_call_port port) (λ cs j. handled_first port cs ≡ first_handled (get_or cs j d).handled)
    (λ c cs is. ap (λ b. cond b (first_handled c.handled) (handled_first port cs)) is)
    (λ c cs j is rest. ap (λ b. cond b (first_handled c.handled) (handled_first port cs)) is ∙ rest) i calls e

pub none_at : (port : ℕ) (calls : List CallValue) → position (has_call_port port) calls ≡ None → handled_first port calls ≡ None
none_at port calls e = go calls (none_of _ calls e)
  where
    go : (calls : List CallValue) → AllByRecursion (λ c. has_call_port port c ≡ false) calls → handled_first port calls ≡ None
    go [] p = refl
    go (c ∷ cs) p = ap (λ b. cond b (first_handled c.handled) (handled_first port cs)) p.0 ∙ go cs p.1
