use Rattle.std.proofs.Common.{◌≤◌, sym, subst}
use Rattle.sg_gateway.specs.CallSignals.{offered_in}
use Rattle.sg_call.proofs.Signalled.{call_offered}
use Rattle.sg_call.specs.Settling.{Settles}
use Rattle.sg_call.specs.Standing.{CallStandsFor}
use Rattle.sg_call.specs.States.{StateStandsFor}
use Rattle.sg_call.specs.contracts.call.Call.{the_view}
use Rattle.sg_call.specs.declared.state.State.TheVariants.{Offered}
use Rattle.sg_call.proofs.call.Call.offer.Goals as goal

pub returns-in-Ok-clause-answer : goal.returns-in-Ok-clause-answer
returns-in-Ok-clause-answer c k b stands books =
    let viewed : CallStandsFor b.pairs (the_view c.self.inside) k = subst (λ v. CallStandsFor b.pairs v k) (sym c.self.view_is) stands in
    subst (λ v. Settles CallStandsFor v c.in-Ok.out c.offer.new.books (offered_in c.args.now b k c.args.way c.args.noise.now c.args.text.now)) (sym c.go_on.ensures)
    (subst (λ n. Settles CallStandsFor (record (the_view c.self.inside) { media = n; moment = c.args.now; state = Offered c.in-Ok.open }) c.in-Ok.out c.offer.new.books (offered_in c.args.now b k c.args.way c.args.noise.now c.args.text.now))
    (sym c.media-self-inside.ensures.value)
    (call_offered b.pairs (the_view c.self.inside) k c.args.now b c.args.way c.args.noise.now c.args.text.now c.in-Ok.open c.in-Ok.out c.offer.new.books viewed
    (subst (λ n. n ≤ 4) c.media-self-inside.ensures.value c.media-self-inside.ensures.most)
    (c.in-Ok.ensures.answer k b (subst (λ st. StateStandsFor b.pairs st k) (sym c.replace-state.ensures.value) viewed.state_stands) books)))
