use Rattle.std.proofs.Common.{◌≡◌, ◌<◌, ◌∙◌, sym, ap, subst, List, [], ◌∷◌, length, get_or, None, Some, Err}
use Rattle.std.proofs.Math.ListN.{set}
use Rattle.std.specs.List.{position}
use Rattle.std.specs.Result.{OnOk, OnErr}
use Rattle.sg_agreement.specs.Sides.{other_side}
use Rattle.sg_call.specs.Settling.{IsSettled}
use Rattle.sg_call.specs.Standing.{CallStandsFor}
use Rattle.sg_call.specs.Values.{CallValue}
use Rattle.sg_gateway.specs.CallSignals.{offered_in}
use Rattle.sg_gateway.specs.Early.{early_offer}
use Rattle.sg_gateway.specs.Signals.{offered_to}
use Rattle.sg_gateway.specs.World.{World, call_of}
use Rattle.sg_outcome.specs.declared.outcomes.Outcome.{Outcome}
use Rattle.sg_outcome.specs.declared.outcomes.Outcome.TheVariants.{Sdp, Refused}
use Rattle.sg_table.proofs.Answered.{order_of, quiet_at, back_at, told_one}
use Rattle.sg_table.proofs.Signalled.{held, offer_at_told, offer_at_refused, offer_at_needs}
use Rattle.sg_table.specs.Found.{has_id}
use Rattle.sg_table.specs.Standing.{TableStandsFor}
use Rattle.sg_table.specs.Telling.{IsAnswered}
use Rattle.sg_table.specs.Values.{TableValue, IsQuiet}
use Rattle.sg_table.specs.contracts.calls.Calls.{the_view}
use Rattle.sg_table.proofs.calls.Calls.offer.Goals.{in-Ok, in-Err-Refused, in-Err-NoMemory}
use Rattle.sg_table.proofs.calls.Calls.offer.Goals as goal

pub returns-clause-told : goal.returns-clause-told
returns-clause-told c =
    let d = c.index_mut.result.now in
    let at : d ≡ get_or c.self.inside.by_slot.items c.in-Some.i d = c.index_mut.ensures.value in
    let found : position (has_id c.args.id) c.self.inside.by_slot.items ≡ Some c.in-Some.i = ap (position (has_id c.args.id)) (sym c.deref.ensures.value) ∙ sym c.position_of.ensures.value ∙ c.in-Some.is in
    let after : TableValue = held (set c.self.inside.by_slot.items c.in-Some.i c.offer.new.self) c.offer.new.books c.self.inside.moment in
    let told : List Outcome → Type 0 = λ os. (w : World) → TableStandsFor c.args.self.now w → IsAnswered os after (offered_to w c.args.id c.args.way c.args.noise.now c.args.text.now (call_of w c.args.id)) in
    elim c.match-offer.branch [
      | in-Ok b ↦ subst (λ r. OnOk r (told c.match-offer.told.items)) (sym b.result-is) (subst (λ t. told t.items) (sym b.told-is) (λ w s.
          (let s' : TableStandsFor (the_view c.self.inside) w = subst (λ v. TableStandsFor v w) (sym c.self.view_is) s in
          let within : c.in-Some.i < length c.self.inside.by_slot.items = subst (λ (l : List CallValue). c.in-Some.i < length l) c.deref.ensures.value c.in-Some.ensures.within in
          let q : IsQuiet d = subst (λ (v : CallValue). IsQuiet v) (sym at) (quiet_at c.self.inside.by_slot.items c.in-Some.i d s'.holds.quiet within) in
          let side_is = c.other_side-side.ensures ∙ ap other_side c.side.ensures in
          offer_at_told c.self.inside.by_slot.items c.self.inside.books c.self.inside.moment w s'.holds (order_of c.calls_in_order.ensures (the_view c.self.inside) w s') c.args.id c.in-Some.i found d
          c.offer.new.self b.in-Ok.text c.offer.new.books c.offer.ensures.psks (c.offer.ensures.inbox.0 ∙ q.0, c.offer.ensures.inbox.1 ∙ q.1) c.args.way c.args.noise.now c.args.text.now
          (λ k a stands books. subst (λ r. IsSettled r c.offer.new.self c.offer.new.books (offered_in c.self.inside.moment a k c.args.way c.args.noise.now c.args.text.now)) b.in-Ok.is
          (c.offer.ensures.answer k a (subst (λ v. CallStandsFor a.pairs v k) (sym at) stands) books))
          b.push.new.self.items (told_one _ _ _ c.requires.none b.push.ensures.items ∙ (λ j. Sdp c.args.id (side_is j) b.in-Ok.text ∷ [])))))
      | in-Err-Refused b ↦ subst (λ r. OnOk r (told c.match-offer.told.items)) (sym b.result-is) (subst (λ t. told t.items) (sym b.told-is) (λ w s.
          (let s' : TableStandsFor (the_view c.self.inside) w = subst (λ v. TableStandsFor v w) (sym c.self.view_is) s in
          let is = b.in-Err-Refused.is ∙ ap (λ f. Err f) b.in-Err-Refused.field-0-is in
          let tells : b.refused.new.told.items ≡ Refused (Some c.args.id) b.in-Err-Refused.cause ∷ [] = rw b.in-Err-Refused.field-0-is at b.refused.ensures in
          let back = subst (λ r. OnErr r ((c.offer.new.self ≡ d) × (c.offer.new.books ≡ c.self.inside.books))) is c.offer.ensures.back in
          let same = back_at c.self.inside.by_slot.items c.in-Some.i d c.offer.new.self (back.0 ∙ at) in
          subst (λ t. IsAnswered b.refused.new.told.items t (offered_to w c.args.id c.args.way c.args.noise.now c.args.text.now (call_of w c.args.id)))
          (λ j. held (sym same j) (sym back.1 j) c.self.inside.moment)
          (offer_at_refused c.self.inside.by_slot.items c.self.inside.books c.self.inside.moment w s'.holds (order_of c.calls_in_order.ensures (the_view c.self.inside) w s') c.args.id c.in-Some.i found d
          c.args.way c.args.noise.now c.args.text.now b.in-Err-Refused.cause
          (λ k a stands books. subst (λ r. IsSettled r c.offer.new.self c.offer.new.books (offered_in c.self.inside.moment a k c.args.way c.args.noise.now c.args.text.now)) is
          (c.offer.ensures.answer k a (subst (λ v. CallStandsFor a.pairs v k) (sym at) stands) books))
          b.refused.new.told.items tells))))
      | in-Err-NoMemory b ↦ subst (λ r. OnOk r (told c.match-offer.told.items)) (sym b.result-is) tt
    ]

pub returns-clause-needs : goal.returns-clause-needs
returns-clause-needs c =
    let d = c.index_mut.result.now in
    let at : d ≡ get_or c.self.inside.by_slot.items c.in-Some.i d = c.index_mut.ensures.value in
    let found : position (has_id c.args.id) c.self.inside.by_slot.items ≡ Some c.in-Some.i = ap (position (has_id c.args.id)) (sym c.deref.ensures.value) ∙ sym c.position_of.ensures.value ∙ c.in-Some.is in
    let needs : Type 0 = (w : World) → TableStandsFor c.args.self.now w → early_offer w (call_of w c.args.id) ≡ None in
    elim c.match-offer.branch [
      | in-Ok b ↦ subst (λ r. OnErr r needs) (sym b.result-is) tt
      | in-Err-Refused b ↦ subst (λ r. OnErr r needs) (sym b.result-is) tt
      | in-Err-NoMemory b ↦ subst (λ r. OnErr r needs) (sym b.result-is) (λ w s.
          (let s' : TableStandsFor (the_view c.self.inside) w = subst (λ v. TableStandsFor v w) (sym c.self.view_is) s in
          offer_at_needs c.self.inside.by_slot.items c.self.inside.books c.self.inside.moment w s'.holds (order_of c.calls_in_order.ensures (the_view c.self.inside) w s') c.args.id c.in-Some.i found d
          c.offer.result (b.in-Err-NoMemory.is ∙ ap (λ f. Err f) b.in-Err-NoMemory.field-0-is) (λ pairs k stands. c.offer.ensures.state pairs k (subst (λ v. CallStandsFor pairs v k) (sym at) stands))))
    ]
