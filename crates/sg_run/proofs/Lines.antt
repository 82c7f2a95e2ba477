-- How whole lines split, and what stands behind them.
use Rattle.std.proofs.Common.{◌≡◌, ◌+◌, ◌<◌, ℕ, Bool, true, false, cond, List, [], ◌∷◌, ◌++◌, length, refl, ap, ◌∙◌, arith, eqb}
use Rattle.sg_lines.specs.ScriptLines.{lines_of, onto}

-- ---- lines

-- how many octets lines have
abbrev pub sizes : List (List ℕ) → ℕ
sizes [] = 0
sizes (l ∷ ls) = length l + sizes ls

onto_size : (b : ℕ) (ls : List (List ℕ)) → sizes (onto b ls) ≡ 1 + sizes ls
onto_size b [] = refl
onto_size b (l ∷ ls) = omega arith

pub lines_size : (octets : List ℕ) → sizes (lines_of octets) ≡ length octets
lines_size [] = refl
lines_size (b ∷ bs) = by_end (eqb b 10) (lines_size bs)
  where
    by_end : (t : Bool) → sizes (lines_of bs) ≡ length bs → sizes (cond t ((b ∷ []) ∷ lines_of bs) (onto b (lines_of bs))) ≡ length (b ∷ bs)
    by_end true is = omega (arith, is)
    by_end false is = omega (arith, is, onto_size b (lines_of bs))

onto_some : (b : ℕ) (ls : List (List ℕ)) → 0 < length (onto b ls)
onto_some b [] = omega arith
onto_some b (l ∷ ls) = omega arith

pub lines_some : (b : ℕ) (bs : List ℕ) → 0 < length (lines_of (b ∷ bs))
lines_some b bs = by_end (eqb b 10)
  where
    by_end : (t : Bool) → 0 < length (cond t ((b ∷ []) ∷ lines_of bs) (onto b (lines_of bs)))
    by_end true = omega arith
    by_end false = onto_some b (lines_of bs)

pub whole_some : (before : List ℕ) → 0 < length (lines_of (before ++ 10 ∷ []))
whole_some [] = lines_some 10 []
whole_some (b ∷ bs) = lines_some b (bs ++ 10 ∷ [])

onto_front : (b : ℕ) (ls ms : List (List ℕ)) → 0 < length ls → onto b (ls ++ ms) ≡ onto b ls ++ ms
onto_front b [] ms some = absurd (omega (arith, some))
onto_front b (l ∷ ls) ms some = refl

-- whole lines stay the lines that they are, whatever stands behind them
pub lines_split : (before rest : List ℕ) → lines_of ((before ++ 10 ∷ []) ++ rest) ≡ lines_of (before ++ 10 ∷ []) ++ lines_of rest
lines_split [] rest = refl
lines_split (b ∷ bs) rest = by_end (eqb b 10) (lines_split bs rest)
  where
    by_end : (t : Bool) → lines_of ((bs ++ 10 ∷ []) ++ rest) ≡ lines_of (bs ++ 10 ∷ []) ++ lines_of rest → cond t ((b ∷ []) ∷ lines_of ((bs ++ 10 ∷ []) ++ rest)) (onto b (lines_of ((bs ++ 10 ∷ []) ++ rest))) ≡ cond t ((b ∷ []) ∷ lines_of (bs ++ 10 ∷ [])) (onto b (lines_of (bs ++ 10 ∷ []))) ++ lines_of rest
    by_end true is = ap (λ (ls : List (List ℕ)). (b ∷ []) ∷ ls) is
    by_end false is = ap (onto b) is ∙ onto_front b (lines_of (bs ++ 10 ∷ [])) (lines_of rest) (whole_some bs)
