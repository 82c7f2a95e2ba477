-- The first three lines.
use Rattle.std.proofs.Common.{◌≡◌, ℕ, ◌+◌, ◌<◌, ◌≤◌, true, List, [], ◌∷◌, ◌++◌, length, refl, arith}
use Rattle.std.specs.Prelude.{codes}
use Rattle.std.specs.List.{flat_map}
use Rattle.std.proofs.lemmas.Bool.{ne_eqb}
use Rattle.std.proofs.lemmas.Slice.Eq.{bytes_eq-Decides}
use Rattle.sg_sdp.specs.declared.medium.Medium.{Medium}
use Rattle.sg_sdp.specs.Descriptions.{HasPrefix, medium_lines}
use Rattle.sg_sdp.specs.Faults.{is_in_order}

-- the lines from this number on stand in order
abbrev pub InOrder : ℕ → List (List ℕ) → Type 0
InOrder number [] = Unit {0}
InOrder number (l ∷ ls) = (is_in_order number l ≡ true) × InOrder (number + 1) ls

later : (number : ℕ) (ls : List (List ℕ)) → 3 < number → InOrder number ls
unfolding is_in_order
later number [] far = tt
later number (l ∷ ls) far =
    (rw (ne_eqb number 1 (λ e. omega arith), ne_eqb number 2 (λ e. omega arith), ne_eqb number 3 (λ e. omega arith)) refl, later (number + 1) ls (omega arith))

pub prefix_again : (session more : List (List ℕ)) → HasPrefix session → InOrder 1 (session ++ more)
unfolding is_in_order
prefix_again (v ∷ o ∷ s ∷ rest) more prefix =
    ((bytes_eq-Decides v (codes "v=0")).1 prefix.0, (prefix.1, (prefix.2, later 4 (rest ++ more) (omega arith))))
prefix_again fewer more prefix = absurd prefix

pub prefix_three : (session : List (List ℕ)) → HasPrefix session → 3 ≤ length session
prefix_three (v ∷ o ∷ s ∷ rest) prefix = omega arith
prefix_three fewer prefix = absurd prefix

-- no `m=` line is among them
pub prefix_takes : (session : List (List ℕ)) (ms : List Medium) → InOrder 1 (session ++ flat_map medium_lines ms) → 3 ≤ length (session ++ flat_map medium_lines ms) → HasPrefix session
unfolding is_in_order
prefix_takes [] [] order three = absurd (omega arith)
prefix_takes [] (m ∷ ms) order three = absurd (let e = order.0 in cc)
prefix_takes (v ∷ []) [] order three = absurd (omega arith)
prefix_takes (v ∷ []) (m ∷ ms) order three = absurd (let e = order.1.0 in cc)
prefix_takes (v ∷ o ∷ []) [] order three = absurd (omega arith)
prefix_takes (v ∷ o ∷ []) (m ∷ ms) order three = absurd (let e = order.1.1.0 in cc)
prefix_takes (v ∷ o ∷ s ∷ rest) ms order three = ((bytes_eq-Decides v (codes "v=0")).0 order.0, order.1.0, order.1.1.0)
