use Rattle.std.proofs.Common.{drop}
use Rattle.std.proofs.Math.ListN.{drop_of_length-le}
use Rattle.sg_leg.specs.Planned.{planned}
use Rattle.sg_leg.proofs.Planning.{will_be_all}
use Rattle.sg_leg.proofs.offered.specs_of.Goals as goal

pub returns : goal.returns
returns c = λ call generation.
    will_be_all c.loop-m.m c.args.first c.args.media.now (planned c.loop-m.specs.items) c.loop-m.count (drop c.loop-m.m c.args.media.now)
    (drop_of_length-le c.args.media.now c.loop-m-test.false) c.loop-m.invariant.0 call generation
