-- Lines printed one after the other.
use Rattle.std.proofs.Common.{◌≡◌, ℕ, List, [], ◌∷◌, ◌++◌, refl, append_assoc, inl}
use Rattle.std.specs.List.{flat_map}
use Rattle.sg_sdp.specs.Descriptions.{ended, Spells}

pub head_put : (o w d p f x1 x2 x3 x4 x5 x6 x7 x8 x9 w' d' p' f' : List ℕ) → x1 ≡ o ++ 109 ∷ 61 ∷ [] → x2 ≡ x1 ++ w' → x3 ≡ x2 ++ 32 ∷ [] → x4 ≡ x3 ++ d' → x5 ≡ x4 ++ 32 ∷ []
    → x6 ≡ x5 ++ p' → x7 ≡ x6 ++ 32 ∷ [] → x8 ≡ x7 ++ f' → x9 ≡ x8 ++ 13 ∷ 10 ∷ [] → w' ≡ w → d' ≡ d → p' ≡ p → f' ≡ f
    → x9 ≡ o ++ ((109 ∷ 61 ∷ (w ++ 32 ∷ (d ++ 32 ∷ (p ++ 32 ∷ f)))) ++ 13 ∷ 10 ∷ [])
head_put o w d p f x1 x2 x3 x4 x5 x6 x7 x8 x9 w' d' p' f' e1 e2 e3 e4 e5 e6 e7 e8 e9 a b c g = rw (e9, e8, e7, e6, e5, e4, e3, e2, e1, a, b, c, g) (simp append_assoc)

-- the printed spelling is one of the text's
pub spells_again : (ls : List (List ℕ)) → Spells ls (flat_map ended ls)
spells_again [] = refl
spells_again (l ∷ ls) = (flat_map ended ls, inl (append_assoc l (13 ∷ 10 ∷ []) (flat_map ended ls)), spells_again ls)
