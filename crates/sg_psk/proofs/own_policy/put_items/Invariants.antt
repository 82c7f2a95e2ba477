use Rattle.std.proofs.Common.{◌≡◌, ◌++◌, ◌∷◌, [], ℕ, length, map}
use Rattle.sg_psk.proofs.own_policy.put_items.Given as goal

abbrev pub invariant-loop-rest : goal.invariant-loop-rest
invariant-loop-rest l = l.out ++ map (λ (v : ℕ × ℕ). (v.0, v.1 ∷ [])) l.rest ≡ l.fn.out ++ map (λ (v : ℕ × ℕ). (v.0, v.1 ∷ [])) l.values

abbrev pub decreases-loop-rest : goal.decreases-loop-rest
decreases-loop-rest l = length l.rest
