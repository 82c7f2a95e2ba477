use Rattle.sg_aes.specs.Planes.{AreKeyPlanes}
use Rattle.sg_aes.proofs.sixteen.write_key_planes.Given as goal

abbrev pub invariant-keep : goal.invariant-keep
invariant-keep l = AreKeyPlanes l.words l.kept l.r
