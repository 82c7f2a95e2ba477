use Rattle.std.proofs.Common.{◌∙◌, sym, subst}
use Rattle.sg_call.proofs.Onward.{stands_plain}
use Rattle.sg_call.specs.Standing.{CallStandsFor}
use Rattle.sg_call.specs.contracts.call.Call.{the_view}
use Rattle.sg_call.proofs.call.Call.plain_of.Goals as goal

pub returns : goal.returns
returns c pairs k stands =
    let viewed : CallStandsFor pairs (the_view c.self.inside) k = subst (λ v. CallStandsFor pairs v k) (sym c.self.view_is) stands in
    c.plain_of.ensures ∙ stands_plain k c.args.port c.self.inside.routes.current c.self.inside.routes.earlier viewed.sessions
