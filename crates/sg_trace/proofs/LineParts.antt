-- How the front of what waits becomes part of a line.
use Rattle.std.proofs.Common.{◌≡◌, ◌⊎◌, ◌+◌, ◌-◌, ◌≤◌, ◌<◌, ℕ, Bool, true, false, List, [], ◌∷◌, ◌++◌, length, take, drop, sym, ap, ◌∙◌, subst, inl, inr, arith, append_assoc, length-append, min}
use Rattle.std.proofs.Math.ListN.{drop_of_length-le}
use Rattle.sg_base.specs.Fields.{Lacks}
use Rattle.sg_trace.proofs.Common.{EndsLine, HasMoved, HoldsLine, NoEnd, append-nil, cases_lt, drop-append_seam, drop-drop, drop-take, eq-eqb, false≢true}
use Rattle.sg_trace.proofs.Common.{length-drop, length-take, length-take-le, take-append-drop, take-append-le, take-append_seam}

no_end : (xs : List ℕ) → Lacks 10 xs → NoEnd xs
no_end [] lacks = tt
no_end (x ∷ xs) lacks = ((λ (e : x ≡ 10). false≢true (sym lacks.0 ∙ eq-eqb x 10 e)), no_end xs lacks.1)

-- a line end in the front: the part up to it is whole
pub cut_part : (waiting prefix before behind rest : List ℕ) (most : ℕ) → prefix ++ rest ≡ waiting → (prefix ≡ before ++ 10 ∷ behind) × Lacks 10 before
    → EndsLine true (take (length before + 1) waiting) (drop (length before + 1) waiting) most
cut_part waiting prefix before behind rest most is parts =
    let whole : waiting ≡ (before ++ 10 ∷ []) ++ (behind ++ rest) = sym is ∙ ap (λ (l : List ℕ). l ++ rest) parts.0 ∙ append_assoc before (10 ∷ behind) rest ∙ sym (append_assoc before (10 ∷ []) (behind ++ rest)) in
    let count : length before + 1 ≡ length (before ++ 10 ∷ []) = sym (length-append before (10 ∷ [])) in
    let taken : take (length before + 1) waiting ≡ before ++ 10 ∷ [] = rw (count, whole) (take-append_seam (before ++ 10 ∷ []) (behind ++ rest)) in
    (before, taken, no_end before parts.1)

-- the octets up to the one at that place
pub whole_at : (waiting prefix rest : List ℕ) (k most : ℕ) → prefix ++ rest ≡ waiting → k < length prefix → (prefix ≡ take k prefix ++ 10 ∷ drop (k + 1) prefix) × Lacks 10 (take k prefix)
    → EndsLine true (take (k + 1) waiting) (drop (k + 1) waiting) most
whole_at waiting prefix rest k most is lt parts =
    let size : length (take k prefix) ≡ k = length-take-le k prefix (omega (arith, lt)) in
    subst (λ (n : ℕ). EndsLine true (take (n + 1) waiting) (drop (n + 1) waiting) most) size (cut_part waiting prefix (take k prefix) (drop (k + 1) prefix) rest most is parts)

-- no line end in the front, which is all of what waits or as much as may be
pub uncut_part : (waiting prefix rest : List ℕ) (most : ℕ) → prefix ++ rest ≡ waiting → ((rest ≡ []) ⊎ (length prefix ≡ most)) → Lacks 10 prefix
    → EndsLine false (take (length prefix) waiting) (drop (length prefix) waiting) most
uncut_part waiting prefix rest most is all none =
    let taken : take (length prefix) waiting ≡ prefix = subst (λ (w : List ℕ). take (length prefix) w ≡ prefix) is (take-append_seam prefix rest) in
    let left : drop (length prefix) waiting ≡ rest = subst (λ (w : List ℕ). drop (length prefix) w ≡ rest) is (drop-append_seam prefix rest) in
    rw (taken, left) (no_end prefix none, all)

-- the front has as many octets as may be, or is all of what waits
pub all_or_most : (waiting : List ℕ) (most m : ℕ) → m ≡ min (length waiting) most → (drop m waiting ≡ []) ⊎ (length (take m waiting) ≡ most)
all_or_most waiting most m is =
    elim (cases_lt most (length waiting)) [
      | inl lt ↦ inr (length-take-le m waiting (omega (arith, is, lt)) ∙ omega (arith, is, lt))
      | inr le ↦ inl (drop_of_length-le waiting (omega (arith, is, le)))
    ]

-- so many octets at the prefix, or all
pub moved_part : (waiting : List ℕ) (most m : ℕ) → m ≡ min (length waiting) most → HasMoved (take m waiting) (drop m waiting) most
moved_part waiting most m is = (omega (arith, is, length-take m waiting), all_or_most waiting most m is)

-- what is left of a part of a row behind its first octets
pub behind_part : (row : List ℕ) (at end count : ℕ) → at ≤ end → end ≤ length row → count ≤ length (take (end - at) (drop at row))
    → drop count (take (end - at) (drop at row)) ≡ take (end - (at + count)) (drop (at + count) row)
behind_part row at end count order within few =
    let size : length (take (end - at) (drop at row)) ≡ end - at = length-take-le (end - at) (drop at row) (omega (arith, length-drop at row, order, within)) in
    let sum : end - at ≡ count + (end - (at + count)) = omega (arith, size, few, order) in
    ap (λ (n : ℕ). drop count (take n (drop at row))) sum ∙ drop-take count (end - (at + count)) (drop at row) ∙ ap (λ (l : List ℕ). take (end - (at + count)) l) (drop-drop count at row)

-- what was read to the front of a row is what waits
pub read_part : (read behind : List ℕ) (n : ℕ) → n ≤ length read → take (n - 0) (drop 0 (read ++ behind)) ≡ take n read
read_part read behind n within = let all : n - 0 ≡ n = omega arith in ap (λ (m : ℕ). take m (read ++ behind)) all ∙ take-append-le n read behind within

-- ---- whether a line end waits

pub held : (ended : Bool) (waits : List ℕ) (count : ℕ) → EndsLine ended (take count waits) (drop count waits) (length waits) → ended ≡ true → HoldsLine waits
held true waits count ends is = (take count waits, drop count waits, sym (take-append-drop count waits), ends)
held false waits count ends is = absurd (false≢true is)

pub none_held : (ended : Bool) (waits : List ℕ) (count : ℕ) → EndsLine ended (take count waits) (drop count waits) (length waits) → ended ≡ false → NoEnd waits
none_held true waits count ends is = absurd (false≢true (sym is))
none_held false waits count ends is = subst NoEnd (sym (append-nil (take count waits)) ∙ ap (λ (l : List ℕ). take count waits ++ l) (sym (all ends.1)) ∙ take-append-drop count waits) ends.0
  where
    all : (drop count waits ≡ []) ⊎ (length (take count waits) ≡ length waits) → drop count waits ≡ []
    all (inl none) = none
    all (inr whole) = drop_of_length-le waits (omega (arith, whole, length-take count waits))
