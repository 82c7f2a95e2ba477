use Rattle.std.proofs.Common.{None}
use Rattle.sg_agreement.proofs.Walks.{fills}
use Rattle.sg_pairs.specs.Pairs.{now_live}
use Rattle.sg_pairs.proofs.bridge.live_all.Goals as goal

pub loop-member-preserved : goal.loop-member-preserved
loop-member-preserved c =
    fills (now_live c.args.id) c.args.calls.now c.loop-member.member-items c.loop-member.member-index None c.live.new.member c.loop-member-test.true c.loop-member.invariant c.live.ensures
