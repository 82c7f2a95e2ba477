use Rattle.std.proofs.Common.{◌-◌, take, drop}
use Rattle.sg_aes.specs.KeyExpansion.{round_keys}
use Rattle.sg_aes.specs.Cipher.{rounds}
use Rattle.sg_aes.specs.Lanes.{HasBoth}
use Rattle.sg_aes.proofs.schedule.Schedule.pairs.Given as goal

abbrev pub invariant-rounds : goal.invariant-rounds
invariant-rounds l = record {
  left : HasBoth l.left (rounds (round_keys l.self) (l.r - 1) (take 16 l.fn.one)) (rounds (round_keys l.self) (l.r - 1) (drop 16 l.fn.one));
  right : HasBoth l.right (rounds (round_keys l.self) (l.r - 1) (take 16 l.fn.other)) (rounds (round_keys l.self) (l.r - 1) (drop 16 l.fn.other));
}
