use Rattle.std.proofs.Common.{◌≡◌, ◌<◌, ◌≤◌, ◌∙◌, sym, ap, subst, List, [], ◌∷◌, length, Some, None, Err}
use Rattle.std.specs.List.{position}
use Rattle.sg_agreement.specs.Sides.{other_side}
use Rattle.sg_base.specs.declared.faults.Refusal.TheVariants.{TableFull}
use Rattle.sg_call.specs.Settling.{IsSettled}
use Rattle.sg_call.specs.Values.{CallValue}
use Rattle.sg_gateway.specs.CallSignals.{offered_in}
use Rattle.sg_gateway.specs.Early.{early_offer}
use Rattle.sg_gateway.specs.Signals.{offered_to}
use Rattle.sg_gateway.specs.World.{World, call_of}
use Rattle.sg_outcome.specs.declared.outcomes.Outcome.TheVariants.{Made, Sdp, Refused}
use Rattle.sg_table.proofs.Answered.{order_of, refused_holds}
use Rattle.sg_table.proofs.Early.{offer_full, offer_needs}
use Rattle.sg_table.proofs.Signalled.{held, on_err, offer_new_told, offer_new_refused}
use Rattle.sg_table.specs.Found.{has_id}
use Rattle.sg_table.specs.Free.{free_shape}
use Rattle.sg_table.specs.Standing.{TableStandsFor}
use Rattle.sg_table.specs.Telling.{IsAnswered}
use Rattle.sg_table.specs.Values.{TableValue, shapes_of}
use Rattle.sg_table.specs.contracts.calls.Calls.{the_view}
use Rattle.sg_table.proofs.calls.Calls.offer_new.Goals as goal

pub returns-in_default-clause-told : goal.returns-in_default-clause-told
returns-in_default-clause-told c = λ w s.
    let at : c.deref.result.now ≡ c.args.self.now.calls = c.deref.ensures.value ∙ ap (λ (v : TableValue). v.calls) c.self.view_is in
    subst (IsAnswered c.refused.new.told.items c.args.self.now)
    (sym (offer_full c.args.self.now w s.holds c.args.id c.args.way c.args.noise.now c.args.text.now c.requires.new (subst (λ (l : List CallValue). 256 ≤ length l) at c.in_default.ensures.full)))
    (refused_holds c.args.self.now w s.holds (Some c.args.id) TableFull c.refused.new.told.items c.refused.ensures)

pub returns-in_err-call-clause-needs : goal.returns-in_err-call-clause-needs
returns-in_err-call-clause-needs c =
    on_err _ ((w : World) → TableStandsFor c.args.self.now w → early_offer w (call_of w c.args.id) ≡ None) (λ w s.
    let at : c.deref.result.now ≡ c.args.self.now.calls = c.deref.ensures.value ∙ ap (λ (v : TableValue). v.calls) c.self.view_is in
    offer_needs c.args.self.now w s.holds c.args.id c.requires.new (subst (λ (l : List CallValue). length l < 256) at c.in-Some.ensures.room))

pub returns-in-Err-NoMemory-clause-needs : goal.returns-in-Err-NoMemory-clause-needs
returns-in-Err-NoMemory-clause-needs c = λ w s.
    let at : c.deref.result.now ≡ c.args.self.now.calls = c.deref.ensures.value ∙ ap (λ (v : TableValue). v.calls) c.self.view_is in
    offer_needs c.args.self.now w s.holds c.args.id c.requires.new (subst (λ (l : List CallValue). length l < 256) at c.in-Some.ensures.room)

pub returns-in-Ok-clause-told : goal.returns-in-Ok-clause-told
returns-in-Ok-clause-told c = λ w s.
    let s' : TableStandsFor (the_view c.self.inside) w = subst (λ v. TableStandsFor v w) (sym c.self.view_is) s in
    let order = order_of c.calls_in_order.ensures (the_view c.self.inside) w s' in
    let none : position (has_id c.args.id) c.self.inside.by_slot.items ≡ None = subst (λ (v : TableValue). position (has_id c.args.id) v.calls ≡ None) (sym c.self.view_is) c.requires.new in
    let room : length c.self.inside.by_slot.items < 256 = subst (λ (l : List CallValue). length l < 256) c.deref.ensures.value c.in-Some.ensures.room in
    let is_free : c.in-Some.slot ≡ free_shape 0 (shapes_of c.self.inside.by_slot.items) = subst (λ l. c.in-Some.slot ≡ free_shape 0 (shapes_of l)) c.deref.ensures.value c.in-Some.ensures.lowest in
    let side_is = c.other_side-side.ensures ∙ ap other_side c.side.ensures in
    subst (λ t. IsAnswered c.seat.new.told.items t (offered_to w c.args.id c.args.way c.args.noise.now c.args.text.now (call_of w c.args.id))) (sym c.seat.ensures.calls)
    (offer_new_told c.self.inside.by_slot.items c.self.inside.books c.self.inside.moment w s'.holds order c.args.id c.in-Some.slot is_free c.in_ok-call.call c.in_ok-call.ensures.stands
    c.offer.new.self c.offer.new.books c.in-Ok.ensures.psks (c.in-Ok.ensures.inbox.0 ∙ c.in_ok-call.ensures.inbox.0, c.in-Ok.ensures.inbox.1 ∙ c.in_ok-call.ensures.inbox.1)
    c.args.way c.args.noise.now c.args.text.now c.in-Ok.text none room c.in-Ok.ensures.answer c.seat.new.told.items
    (c.seat.ensures.told ∙ (λ j. Made c.args.id c.offer.new.self.slot c.offer.new.self.media ∷ Sdp c.args.id (side_is j) c.in-Ok.text ∷ [])))

pub returns-in-Err-Refused-clause-told : goal.returns-in-Err-Refused-clause-told
returns-in-Err-Refused-clause-told c = λ w s.
    let tells : c.refused-in-Err-Refused.new.told.items ≡ Refused (Some c.args.id) c.in-Err-Refused.why ∷ [] = rw c.in-Err-Refused.field-0-is at c.refused-in-Err-Refused.ensures in
    let s' : TableStandsFor (the_view c.self.inside) w = subst (λ v. TableStandsFor v w) (sym c.self.view_is) s in
    let order = order_of c.calls_in_order.ensures (the_view c.self.inside) w s' in
    let none : position (has_id c.args.id) c.self.inside.by_slot.items ≡ None = subst (λ (v : TableValue). position (has_id c.args.id) v.calls ≡ None) (sym c.self.view_is) c.requires.new in
    let room : length c.self.inside.by_slot.items < 256 = subst (λ (l : List CallValue). length l < 256) c.deref.ensures.value c.in-Some.ensures.room in
    let is_free : c.in-Some.slot ≡ free_shape 0 (shapes_of c.self.inside.by_slot.items) = subst (λ l. c.in-Some.slot ≡ free_shape 0 (shapes_of l)) c.deref.ensures.value c.in-Some.ensures.lowest in
    subst (λ b. IsAnswered c.refused-in-Err-Refused.new.told.items (held c.self.inside.by_slot.items b c.self.inside.moment) (offered_to w c.args.id c.args.way c.args.noise.now c.args.text.now (call_of w c.args.id)))
    (sym c.in-Err-Refused.ensures.back.1)
    (offer_new_refused c.self.inside.by_slot.items c.self.inside.books c.self.inside.moment w s'.holds order c.args.id c.in-Some.slot is_free c.in_ok-call.call c.in_ok-call.ensures.stands
    c.args.way c.args.noise.now c.args.text.now none room c.in-Err-Refused.why
    (λ k b stands books. subst (λ f. IsSettled (Err f) c.offer.new.self c.offer.new.books (offered_in c.self.inside.moment b k c.args.way c.args.noise.now c.args.text.now)) c.in-Err-Refused.field-0-is (c.in-Err-Refused.ensures.answer k b stands books))
    c.refused-in-Err-Refused.new.told.items tells)
