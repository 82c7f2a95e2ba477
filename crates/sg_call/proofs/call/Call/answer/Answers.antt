use Rattle.std.proofs.Common.{◌∙◌, [], Err, sym, subst}
use Rattle.sg_gateway.specs.CallSignals.{answered_in}
use Rattle.sg_leg.specs.Open.{IsAnswered, IsGiven, IsOpen, answered_with}
use Rattle.sg_leg.specs.Planned.{planned_sides}
use Rattle.sg_leg.specs.Values.{OfferedValue}
use Rattle.sg_leg.specs.declared.media_spec.SideSpec.{SideSpec}
use Rattle.std.specs.Global.{Vec}
use Rattle.sg_call.proofs.Renewing.{answer_failed, answered_so}
use Rattle.sg_call.specs.Adding.{Adds, renewed_value}
use Rattle.sg_call.specs.Settling.{Settles}
use Rattle.sg_call.specs.Standing.{CallStandsFor}
use Rattle.sg_call.specs.States.{IsOffered, StateStandsFor}
use Rattle.sg_call.specs.contracts.call.Call.{the_view}
use Rattle.sg_call.proofs.call.Call.answer.Goals as goal

pub returns-in-Ok-settle-clause-answer : goal.returns-in-Ok-settle-clause-answer
returns-in-Ok-settle-clause-answer c k b stands books =
    let viewed : CallStandsFor b.pairs (the_view c.self.inside) k = subst (λ v. CallStandsFor b.pairs v k) (sym c.self.view_is) stands in
    let state : IsOffered b.pairs c.in-Offered.open k = subst (λ st. StateStandsFor b.pairs st k) (sym c.replace.ensures.value ∙ c.in-Offered.is) viewed.state_stands in
    let opened : IsOpen c.args.books.now.psks c.in-Offered.open state.offer = subst (λ ps. IsOpen ps c.in-Offered.open state.offer) (sym books.pairs) state.is_open in
    let (live_is, given) = c.in-Ok-settle.ensures.answer state.offer k.serial k.generations b.ring opened books.ring in
    let adds : Adds c.self.inside.slot (planned_sides c.in-Ok-settle.sides.items) [] c.add_all.new.routes.items =
    subst (λ l. Adds c.self.inside.slot (planned_sides c.in-Ok-settle.sides.items) l c.add_all.new.routes.items) c.in-Ok.ensures.items c.add_all.ensures in
    subst (λ v. Settles CallStandsFor v c.in-Ok-settle.out c.settle.new.books (answered_in c.args.now b k c.args.noise.now c.args.text.now)) (sym c.renew.ensures)
    (subst (λ l. Settles CallStandsFor (renewed_value (the_view c.self.inside) c.args.now l c.add_all.new.routes.items) c.in-Ok-settle.out c.settle.new.books (answered_in c.args.now b k c.args.noise.now c.args.text.now)) (sym live_is)
    (answered_so c.args.now b k c.args.noise.now c.args.text.now state.offer state.is_offer c.args.books.now c.settle.new.books books c.in-Ok-settle.ensures.others
    (the_view c.self.inside) viewed c.in-Offered.open state c.in-Ok-settle.out (planned_sides c.in-Ok-settle.sides.items) c.add_all.new.routes.items
    (subst (λ n. IsGiven c.in-Ok-settle.out (planned_sides c.in-Ok-settle.sides.items) c.settle.new.books.ring (answered_with n state.offer c.args.noise.now c.args.text.now k.serial k.generations b.ring)) state.slot_is given)
    adds))

pub returns-in-Err-clause-answer : goal.returns-in-Err-clause-answer
returns-in-Err-clause-answer c k b stands books =
    let viewed : CallStandsFor b.pairs (the_view c.self.inside) k = subst (λ v. CallStandsFor b.pairs v k) (sym c.self.view_is) stands in
    let state : IsOffered b.pairs c.in-Offered.open k = subst (λ st. StateStandsFor b.pairs st k) (sym c.replace.ensures.value ∙ c.in-Offered.is) viewed.state_stands in
    let opened : IsOpen c.args.books.now.psks c.in-Offered.open state.offer = subst (λ ps. IsOpen ps c.in-Offered.open state.offer) (sym books.pairs) state.is_open in
    answer_failed c.args.now b k c.args.noise.now c.args.text.now state.offer state.is_offer c.in-Offered.open c.in-Err.open c.in-Err.fault c.settle.new.books.ring _ _
    (subst (λ n. IsAnswered {S = Vec SideSpec} {F = OfferedValue} (λ (sides : Vec SideSpec). planned_sides sides.items) c.in-Offered.open (Err (c.in-Err.open, c.in-Err.fault)) c.settle.new.books.ring (answered_with n state.offer c.args.noise.now c.args.text.now k.serial k.generations b.ring)) state.slot_is
    (c.in-Err.ensures.answer state.offer k.serial k.generations b.ring opened books.ring))
