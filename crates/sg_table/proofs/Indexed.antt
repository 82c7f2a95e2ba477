-- The positions of calls, by slot, written in one pass over the calls; and calls of the same slots have the same ones.
use Rattle.std.proofs.Common.{inl, inr, ◌≡◌, ℕ, zero, suc, ◌+◌, ◌<◌, ◌≤◌, Bool, true, false, cond, List, [], ◌∷◌, ◌++◌, length, get_or, replicate, take, map, Option, Some, None, refl, sym, ap, ◌∙◌, subst, arith, eqb}
use Rattle.std.proofs.Math.ListN.{set}
use Rattle.std.proofs.Math.Seq.{take-suc}
use Rattle.std.proofs.lemmas.Bool.{cases_Bool, eqb-true, eq-eqb, ne_eqb, false≢true}
use Rattle.std.proofs.lemmas.Iterator.Adapters.{position_from-zero}
use Rattle.std.proofs.lemmas.List.{get_or-map, get_or-replicate, get_or-set_same, get_or-set_other, length-map, length-replicate, length-take-le, take_all}
use Rattle.std.proofs.lemmas.List.Elements.{All-from_recursion}
use Rattle.std.specs.List.{position_from}
use Rattle.sg_call.specs.Values.{CallValue}
use Rattle.sg_table.specs.Values.{Shape, shape_of, shapes_of, AreIndexed, AreRising}

abbrev pub is_at : ℕ → Shape → Bool
is_at slot s = eqb s.slot slot

-- ---- one call more is written

-- the calls before one have other slots
none_before : (ss : List Shape) (k j : ℕ) (d : Shape) → AreRising ss → k < length ss → position_from (is_at (get_or ss k d).slot) j (take k ss) ≡ None
none_before [] k j d r lt = absurd (omega (arith, lt))
none_before (s ∷ ss) zero j d r lt = refl
none_before (s ∷ ss) (suc k) j d r lt =
    let above = All-from_recursion (λ (t : Shape). s.slot < t.slot) ss r.2 k d (omega (arith, lt)) in
    let other : eqb s.slot (get_or ss k d).slot ≡ false = ne_eqb _ _ (λ e. omega (arith, above, e)) in
    ap (λ b. cond b (Some j) (position_from (is_at (get_or ss k d).slot) (j + 1) (take k ss))) other ∙ none_before ss k (j + 1) d r.3 (omega (arith, lt))

-- a call behind others: its own slot has its position, and the other slots what they had
last_at : (slot j : ℕ) (s : Shape) (ss : List Shape) → eqb s.slot slot ≡ true → position_from (is_at slot) j ss ≡ None → position_from (is_at slot) j (ss ++ s ∷ []) ≡ Some (j + length ss)
last_at slot j s [] is e =
    let at : j ≡ j + 0 = omega arith in ap (λ b. cond b (Some j) None) is ∙ ap (λ n. Some n) at
last_at slot j s (t ∷ ss) is e = go (eqb t.slot slot) e (last_at slot (j + 1) s ss is)
  where
    go : (b : Bool) → cond b (Some j) (position_from (is_at slot) (j + 1) ss) ≡ None
        → (position_from (is_at slot) (j + 1) ss ≡ None → position_from (is_at slot) (j + 1) (ss ++ s ∷ []) ≡ Some (j + 1 + length ss))
        → cond b (Some j) (position_from (is_at slot) (j + 1) (ss ++ s ∷ [])) ≡ Some (j + suc (length ss))
    go true e rest = absurd cc
    go false e rest = let at : j + 1 + length ss ≡ j + suc (length ss) = omega arith in rest e ∙ ap (λ n. Some n) at

other_at : (slot j : ℕ) (s : Shape) (ss : List Shape) → eqb s.slot slot ≡ false → position_from (is_at slot) j (ss ++ s ∷ []) ≡ position_from (is_at slot) j ss
other_at slot j s [] other = ap (λ b. cond b (Some j) None) other
other_at slot j s (t ∷ ss) other = ap (λ o. cond (eqb t.slot slot) (Some j) o) (other_at slot (j + 1) s ss other)

-- the first k calls are written
abbrev pub AreWritten : List (Option ℕ) → ℕ → List Shape → Type 0
AreWritten places k shapes = (slot : ℕ) (d : Option ℕ) → slot < 256 → get_or places slot d ≡ position_from (is_at slot) 0 (take k shapes)

written_next : (places : List (Option ℕ)) (k : ℕ) (shapes : List Shape) (s : Shape) → length places ≡ 256 → AreRising shapes → k < length shapes → s ≡ get_or shapes k s
    → AreWritten places k shapes → AreWritten (set places s.slot (Some k)) (k + 1) shapes
written_next places k shapes s all rising lt is before slot d le =
    let more : take (k + 1) shapes ≡ take k shapes ++ s ∷ [] =
    ap (λ n. take n shapes) (let e : k + 1 ≡ suc k = omega arith in e) ∙ take-suc shapes k s lt ∙ ap (λ t. take k shapes ++ t ∷ []) (sym is) in
    elim (cases_Bool (eqb s.slot slot)) [
      | inl y ↦ (
          let same : s.slot ≡ slot = eqb-true s.slot slot y in
          let none : position_from (is_at slot) 0 (take k shapes) ≡ None =
          subst (λ n. position_from (is_at n) 0 (take k shapes) ≡ None) (ap (λ (t : Shape). t.slot) (sym is) ∙ same) (none_before shapes k 0 s rising lt) in
          subst (λ n. get_or (set places n (Some k)) slot d ≡ Some k) (sym same) (get_or-set_same places slot (Some k) d (omega (arith, le, all)))
          ∙ sym (ap (position_from (is_at slot) 0) more ∙ last_at slot 0 s (take k shapes) y none ∙ ap (λ n. Some n) (let len = length-take-le k shapes (omega (arith, lt)) in let e : 0 + length (take k shapes) ≡ k = omega (arith, len) in e))
          )
      | inr x ↦ (
          let differ : slot ≡ s.slot → ⊥ = (λ e. false≢true (sym x ∙ eq-eqb s.slot slot (sym e))) in
          get_or-set_other places s.slot slot (Some k) d differ ∙ before slot d le ∙ sym (ap (position_from (is_at slot) 0) more ∙ other_at slot 0 s (take k shapes) x)
          )
    ]

-- ---- of calls

pub call_written : (places : List (Option ℕ)) (k : ℕ) (calls : List CallValue) (call : CallValue) → length places ≡ 256 → AreRising (shapes_of calls) → k < length calls → call ≡ get_or calls k call
    → AreWritten places k (shapes_of calls) → AreWritten (set places call.slot (Some k)) (k + 1) (shapes_of calls)
call_written places k calls call all rising lt is before =
    written_next places k (shapes_of calls) (shape_of call) all rising (subst (λ n. k < n) (sym (length-map calls shape_of)) lt) (ap shape_of is ∙ sym (get_or-map shape_of calls k call (shape_of call) lt)) before

pub all_written : (places : List (Option ℕ)) (k : ℕ) (calls : List CallValue) → length places ≡ 256 → length calls ≤ k → AreWritten places k (shapes_of calls) → AreIndexed places (shapes_of calls)
all_written places k calls all le written = record {
  all = all;
  at = λ slot d lt. written slot d lt ∙ ap (position_from (is_at slot) 0) (take_all k (shapes_of calls) (subst (λ n. n ≤ k) (sym (length-map calls shape_of)) le)) ∙ sym (position_from-zero (is_at slot) (shapes_of calls));
}

-- where no calls are
abbrev no_place : Option ℕ
no_place = None

pub empty_indexed : (calls : List CallValue) → calls ≡ [] → AreIndexed (replicate 256 None) (shapes_of calls)
empty_indexed calls none = subst (λ l. AreIndexed (replicate 256 None) (shapes_of l)) (sym none) (record { all = length-replicate 256 no_place; at = λ slot d lt. get_or-replicate 256 slot no_place d lt })

-- ---- where calls keep their slots

abbrev pub slots_of : List Shape → List ℕ
slots_of shapes = map (λ (s : Shape). s.slot) shapes

same_position : (slot k : ℕ) (ss : List Shape) → position_from (is_at slot) k ss ≡ position_from (λ n. eqb n slot) k (slots_of ss)
same_position slot k [] = refl
same_position slot k (s ∷ ss) = ap (λ o. cond (eqb s.slot slot) (Some k) o) (same_position slot (k + 1) ss)

pub indexed_still : (places : List (Option ℕ)) (old new : List Shape) → slots_of new ≡ slots_of old → AreIndexed places old → AreIndexed places new
indexed_still places old new same indexed = record {
  all = indexed.all;
  at = λ slot d lt.
      indexed.at slot d lt ∙ position_from-zero (is_at slot) old ∙ same_position slot 0 old ∙ ap (position_from (λ n. eqb n slot) 0) (sym same) ∙ sym (same_position slot 0 new)
      ∙ sym (position_from-zero (is_at slot) new);
}
