use Rattle.std.proofs.Common.{ℕ, List, ◌-◌, ◌+◌}
use Rattle.sg_aes.specs.Cipher.{rounds}
use Rattle.sg_aes.specs.KeyExpansion.{round_key}
use Rattle.sg_aes.specs.Lanes.{IsState}
use Rattle.sg_aes.specs.Numbered.{numbered}
use Rattle.sg_aes.specs.Planes.{AreKeyPlanes, HasPlanes, octet_at}
use Rattle.sg_aes.proofs.sixteen.sixteen.Given as goal

abbrev pub invariant-rounds : goal.invariant-rounds
invariant-rounds l = (w : List (List ℕ)) → AreKeyPlanes w l.kept (l.last + 1) → ((r : ℕ) → IsState (round_key w r)) → HasPlanes (octet_at (λ n. rounds w (l.r - 1) (numbered l.base n))) l.x
