use Rattle.std.proofs.Common.{◌∙◌, [], sym, subst}
use Rattle.sg_agreement.specs.Manual.{medium_under}
use Rattle.sg_gateway.specs.CallSignals.{keyed_manually}
use Rattle.sg_leg.specs.Planned.{planned_sides}
use Rattle.sg_call.proofs.Renewing.{keyed_so}
use Rattle.sg_call.specs.Adding.{Adds, renewed_value}
use Rattle.sg_call.specs.Settling.{Settles}
use Rattle.sg_call.specs.Standing.{CallStandsFor}
use Rattle.sg_call.specs.States.{IsIdle, StateStandsFor}
use Rattle.sg_call.specs.contracts.call.Call.{the_view}
use Rattle.sg_call.proofs.call.Call.manual.Goals as goal

pub returns-in-Ok-settle-clause-answer : goal.returns-in-Ok-settle-clause-answer
returns-in-Ok-settle-clause-answer c k b stands books =
    let x = medium_under c.args.secure c.args.plain c.args.roc c.args.window c.args.from_peer.now c.args.to_peer.now in
    let viewed : CallStandsFor b.pairs (the_view c.self.inside) k = subst (λ v. CallStandsFor b.pairs v k) (sym c.self.view_is) stands in
    let state : IsIdle c.in-Idle.idle k = subst (λ st. StateStandsFor b.pairs st k) (sym c.replace.ensures.value ∙ c.in-Idle.is) viewed.state_stands in
    let (live_is, begins) = c.in-Ok-settle.ensures.answer k.serial k.generations b.ring books.ring in
    let adds : Adds c.self.inside.slot (planned_sides c.in-Ok-settle.sides.items) [] c.add_all.new.routes.items =
    subst (λ l. Adds c.self.inside.slot (planned_sides c.in-Ok-settle.sides.items) l c.add_all.new.routes.items) c.in-Ok.ensures.items c.add_all.ensures in
    subst (λ v. Settles CallStandsFor v [] c.settle.new.books (keyed_manually c.args.now b k x)) (sym c.renew.ensures)
    (subst (λ l. Settles CallStandsFor (renewed_value (record (the_view c.self.inside) { media = 1 }) c.args.now l c.add_all.new.routes.items) [] c.settle.new.books (keyed_manually c.args.now b k x)) (sym live_is)
    (keyed_so c.args.now b k x c.in-Idle.idle state c.args.books.now c.settle.new.books books c.in-Ok-settle.ensures.others (the_view c.self.inside) viewed (planned_sides c.in-Ok-settle.sides.items) c.add_all.new.routes.items begins adds))
