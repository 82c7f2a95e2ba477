use Rattle.std.proofs.Common.{◌∙◌, Ok, sym, subst, true}
use Rattle.sg_gateway.specs.CallSignals.{rejected_in}
use Rattle.sg_call.proofs.Signalled.{went_on}
use Rattle.sg_call.specs.Settling.{IsRejected}
use Rattle.sg_call.specs.Standing.{CallStandsFor}
use Rattle.sg_call.specs.States.{StateStandsFor}
use Rattle.sg_call.specs.contracts.call.Call.{the_view}
use Rattle.sg_call.proofs.call.Call.reject.Goals as goal

pub returns-in-Ok-clause-answer : goal.returns-in-Ok-clause-answer
returns-in-Ok-clause-answer c pairs k stands =
    let viewed : CallStandsFor pairs (the_view c.self.inside) k = subst (λ v. CallStandsFor pairs v k) (sym c.self.view_is) stands in
    subst (λ v. IsRejected pairs (Ok true) v (rejected_in c.args.now k)) (sym c.go_on.ensures)
    (went_on pairs c.args.now k c.in-Offered.open (subst (λ st. StateStandsFor pairs st k) (sym c.replace.ensures.value ∙ c.in-Offered.is) viewed.state_stands)
    (the_view c.self.inside) c.in-Ok.live viewed c.in-Ok.ensures)
