use Rattle.sg_table.proofs.Outing.{shares_first, shares_next}
use Rattle.sg_table.proofs.batch.share_out.Goals as goal

pub loop-k-init : goal.loop-k-init
loop-k-init c = shares_first c.args.now c.args.arrivals.now c.args.calls.now c.requires.quiet

pub loop-k-preserved : goal.loop-k-preserved
loop-k-preserved c =
    shares_next c.args.now c.args.arrivals.now c.args.calls.now c.loop-k.k c.loop-k.arrivals c.loop-k.calls c.index-arrivals-k.result c.loop-k-test.true c.loop-k.invariant
    c.loop-k.k c.hand_out.new.calls c.hand_out.new.arrival c.hand_out.ensures.calls c.hand_out.ensures.arrival c.hand_out.ensures.octets
