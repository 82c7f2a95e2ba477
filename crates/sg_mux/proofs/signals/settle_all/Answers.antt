use Rattle.std.proofs.Common.{None}
use Rattle.sg_mux.proofs.Loops.{fills}
use Rattle.sg_mux.specs.Muxed.{changed_at}
use Rattle.sg_mux.specs.Texts.{both}
use Rattle.sg_mux.proofs.signals.settle_all.Goals as goal

pub loop-known-preserved : goal.loop-known-preserved
loop-known-preserved c =
    fills (changed_at c.args.id (λ k. record k { side = c.args.side; muxed = both c.args.ports k.offered })) c.args.calls.now c.loop-known.known-items c.loop-known.known-index None c.settle.new.known c.loop-known-test.true c.loop-known.invariant c.settle.ensures
