-- How octets split into lines, and how lines that go on begin.
use Rattle.std.proofs.Common.{◌≡◌, ◌<◌, ℕ, List, [], ◌∷◌, ◌++◌, length, refl, sym, ap, ◌∙◌, arith, eqb}
use Rattle.std.proofs.lemmas.Bool.{cond-false, ne_eqb}
use Rattle.sg_lines.specs.ScriptLines.{lines_of, onto, NoEnd, IsWhole}

-- an octet that is no line end stands in the first line
lines_of_other : (b : ℕ) (bs : List ℕ) → (b ≡ 10 → ⊥) → lines_of (b ∷ bs) ≡ onto b (lines_of bs)
lines_of_other b bs ne = cond-false (eqb b 10) _ _ (ne_eqb b 10 ne)

prefix_ends : (prefix rest : List ℕ) → NoEnd prefix → lines_of ((prefix ++ 10 ∷ []) ++ rest) ≡ (prefix ++ 10 ∷ []) ∷ lines_of rest
prefix_ends [] rest none = refl
prefix_ends (b ∷ prefix) rest none = lines_of_other b ((prefix ++ 10 ∷ []) ++ rest) none.0 ∙ ap (onto b) (prefix_ends prefix rest none.1)

-- a whole line is the first
pub lines_of_whole : (line rest : List ℕ) → IsWhole line → lines_of (line ++ rest) ≡ line ∷ lines_of rest
lines_of_whole line rest whole =
    ap (λ (l : List ℕ). lines_of (l ++ rest)) whole.1 ∙ prefix_ends whole.0 rest whole.2 ∙ ap (λ (l : List ℕ). l ∷ lines_of rest) (sym whole.1)

-- a line without end is the only one
pub lines_of_rest : (line : List ℕ) → NoEnd line → 0 < length line → lines_of line ≡ line ∷ []
lines_of_rest [] none some = absurd (omega arith)
lines_of_rest (b ∷ []) none some = lines_of_other b [] none.0
lines_of_rest (b ∷ c ∷ bs) none some = lines_of_other b (c ∷ bs) none.0 ∙ ap (onto b) (lines_of_rest (c ∷ bs) none.1 (omega arith))

-- a line that goes on is the front of the first
pub record Begins (line rest : List ℕ) : Type 0 where
  pub more : List ℕ
  pub others : List (List ℕ)
  pub split : lines_of (line ++ rest) ≡ (line ++ more) ∷ others

onto_any : (b : ℕ) (bs : List ℕ) (ls : List (List ℕ)) → (b ≡ 10 → ⊥) → lines_of bs ≡ ls → Begins (b ∷ []) bs
onto_any b bs [] ne is = record { more = []; others = []; split = lines_of_other b bs ne ∙ ap (onto b) is }
onto_any b bs (l ∷ ls) ne is = record { more = l; others = ls; split = lines_of_other b bs ne ∙ ap (onto b) is }

pub begins : (line rest : List ℕ) → NoEnd line → 0 < length line → Begins line rest
begins [] rest none some = absurd (omega arith)
begins (b ∷ []) rest none some = onto_any b rest (lines_of rest) none.0 refl
begins (b ∷ c ∷ bs) rest none some =
    let tail = begins (c ∷ bs) rest none.1 (omega arith) in
    record { more = tail.more; others = tail.others; split = lines_of_other b ((c ∷ bs) ++ rest) none.0 ∙ ap (onto b) tail.split }
