use Rattle.std.proofs.Common.{ℕ}
use Rattle.std.specs.Prelude.{slice_index}
use Rattle.sg_aes.specs.Planes.{octet_at, key_at, rows, without_constant}
use Rattle.sg_aes.proofs.PlaneLemmas.{octets_small, planes_by_rule, last_octets}
use Rattle.sg_aes.proofs.planes.last_round.Goals as goal

pub returns : goal.returns
returns c = λ s k hs hk hx hkey.
    let v : ℕ → ℕ → ℕ = octet_at s in
    let u : ℕ → ℕ → ℕ = λ p j. without_constant (v p j) in
    let boxed = c.boxed.ensures v (octets_small s hs) hx in
    planes_by_rule (last_octets s k) (c.added.ensures (λ p j. u (slice_index rows p) j) (key_at k) (c.shifted.ensures u boxed) hkey)
