use Rattle.std.proofs.Common.{◌∙◌}
use Rattle.sg_edge.proofs.Waiting.{more_joined}
use Rattle.sg_edge.proofs.udp.join_all.Goals as goal

pub loop-event-preserved-in-Ok : goal.loop-event-preserved-in-Ok
loop-event-preserved-in-Ok c = (
  tt,
  tt,
  λ port. c.join.ensures.bound port ∙ c.loop-event.invariant.2 port,
  c.join.ensures.row ∙ c.loop-event.invariant.3,
  more_joined c.in-Ok.port _ _ _ _ c.loop-event.invariant.4 c.join.ensures.waiting,
)
