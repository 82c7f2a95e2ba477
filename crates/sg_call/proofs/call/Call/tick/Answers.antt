use Rattle.std.proofs.Common.{sym, subst, true}
use Rattle.sg_gateway.specs.CallSignals.{call_at_tick}
use Rattle.sg_call.proofs.Signalled.{ticked}
use Rattle.sg_call.specs.Standing.{CallStandsFor}
use Rattle.sg_call.specs.Values.{RoutesValue}
use Rattle.sg_call.specs.contracts.call.Call.{the_view}
use Rattle.sg_call.proofs.call.Call.tick.Goals as goal

pub returns-then-is_past-clause-stands : goal.returns-then-is_past-clause-stands
returns-then-is_past-clause-stands c pairs k stands =
    subst (λ (r : RoutesValue). CallStandsFor pairs (record (the_view c.self.inside) { current = r.current; earlier = r.earlier }) (call_at_tick c.args.now k)) (sym c.drop_earlier.ensures)
    (ticked pairs (the_view c.self.inside) k c.args.now true (subst (λ v. CallStandsFor pairs v k) (sym c.self.view_is) stands) c.if-is_past.ensures)
