use Rattle.std.proofs.Common.{◌≡◌, sym, subst}
use Rattle.sg_call.proofs.Standing.{Drains, drained_none}
use Rattle.sg_call.specs.Values.{CallValue}
use Rattle.sg_call.specs.contracts.call.Call.{the_view}
use Rattle.sg_call.proofs.call.CallLane.drain.Goals as goal

pub returns : goal.returns
returns c =
    drained_none c.args.self.now (the_view c.self.inside) c.next.new.self c.in_default.ensures.first c.in_default.ensures.rest
    (subst (λ (v : CallValue). (v.slot ≡ c.args.self.now.slot) × (v.media ≡ c.args.self.now.media) × (v.id ≡ c.args.self.now.id)) (sym c.self.view_is)
    (c.loop-queued.invariant.1, c.loop-queued.invariant.2, c.loop-queued.invariant.3))
    (subst (Drains c.args.self.now) (sym c.self.view_is) c.loop-queued.invariant.0)

pub handle-requires : goal.handle-requires
handle-requires c = record { room = c.in-Some.ensures.room }
