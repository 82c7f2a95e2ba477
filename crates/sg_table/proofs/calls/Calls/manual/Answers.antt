use Rattle.std.proofs.Common.{◌≡◌, ◌≤◌, ◌<◌, ◌∙◌, sym, ap, subst, refl, true, false, List, [], ◌∷◌, length, Some, None, Err}
use Rattle.std.specs.List.{position}
use Rattle.std.specs.Option.{is_some}
use Rattle.sg_agreement.specs.Manual.{ManualCall, manual_medium}
use Rattle.sg_base.specs.declared.faults.Refusal.TheVariants.{CallKnown, TableFull}
use Rattle.sg_call.specs.Settling.{IsKeyed}
use Rattle.sg_call.specs.Values.{CallValue}
use Rattle.sg_gateway.specs.CallSignals.{keyed_manually}
use Rattle.sg_gateway.specs.Early.{early_manual}
use Rattle.sg_gateway.specs.Signals.{manual_answer}
use Rattle.sg_gateway.specs.World.{World, call_of}
use Rattle.sg_outcome.specs.declared.outcomes.Outcome.TheVariants.{Refused}
use Rattle.sg_table.proofs.Answered.{order_of, refused_holds}
use Rattle.sg_table.proofs.Early.{manual_known, manual_full, manual_needs}
use Rattle.sg_table.proofs.Signalled.{held, on_err, manual_told, manual_refused}
use Rattle.sg_table.specs.Found.{has_id}
use Rattle.sg_table.specs.Free.{free_shape}
use Rattle.sg_table.specs.Standing.{TableStandsFor}
use Rattle.sg_table.specs.Telling.{IsAnswered}
use Rattle.sg_table.specs.Values.{TableValue, shapes_of}
use Rattle.sg_table.specs.contracts.calls.Calls.{the_view}
use Rattle.sg_table.proofs.calls.Calls.manual.Goals as goal

pub returns-then-is_some-clause-told : goal.returns-then-is_some-clause-told
returns-then-is_some-clause-told c = λ w s.
    let h : ManualCall = record { id = c.args.id; secure = c.args.given.now.secure; plain = c.args.given.now.plain; roc = c.args.given.now.roc; window = c.args.given.now.window; from_peer = c.args.given.now.from_peer.now; to_peer = c.args.given.now.to_peer.now } in
    let at : c.deref.result.now ≡ c.args.self.now.calls = c.deref.ensures.value ∙ ap (λ (v : TableValue). v.calls) c.self.view_is in
    let e : is_some (position (has_id c.args.id) c.args.self.now.calls) ≡ true = ap (λ l. is_some (position (has_id c.args.id) l)) (sym at) ∙ ap is_some (sym c.position_of.ensures.value) ∙ sym c.is_some.ensures ∙ c.if-is_some.true in
    subst (IsAnswered c.refused.new.told.items c.args.self.now) (sym (manual_known c.args.self.now w s.holds h e)) (refused_holds c.args.self.now w s.holds (Some c.args.id) CallKnown c.refused.new.told.items c.refused.ensures)

pub returns-in_default-clause-told : goal.returns-in_default-clause-told
returns-in_default-clause-told c = λ w s.
    let h : ManualCall = record { id = c.args.id; secure = c.args.given.now.secure; plain = c.args.given.now.plain; roc = c.args.given.now.roc; window = c.args.given.now.window; from_peer = c.args.given.now.from_peer.now; to_peer = c.args.given.now.to_peer.now } in
    let at : c.deref.result.now ≡ c.args.self.now.calls = c.deref.ensures.value ∙ ap (λ (v : TableValue). v.calls) c.self.view_is in
    let at2 : c.deref-2.result.now ≡ c.args.self.now.calls = c.deref-2.ensures.value ∙ ap (λ (v : TableValue). v.calls) c.self.view_is in
    let e : is_some (position (has_id c.args.id) c.args.self.now.calls) ≡ false = ap (λ l. is_some (position (has_id c.args.id) l)) (sym at) ∙ ap is_some (sym c.position_of.ensures.value) ∙ sym c.is_some.ensures ∙ c.if-is_some.false in
    subst (IsAnswered c.refused-in_default.new.told.items c.args.self.now)
    (sym (manual_full c.args.self.now w s.holds h e (subst (λ (l : List CallValue). 256 ≤ length l) at2 c.in_default.ensures.full)))
    (refused_holds c.args.self.now w s.holds (Some c.args.id) TableFull c.refused-in_default.new.told.items c.refused-in_default.ensures)

pub returns-in_err-call-clause-needs : goal.returns-in_err-call-clause-needs
returns-in_err-call-clause-needs c =
    on_err _ ((w : World) → TableStandsFor c.args.self.now w → early_manual w (call_of w c.args.id) ≡ None) (λ w s.
    let at : c.deref.result.now ≡ c.args.self.now.calls = c.deref.ensures.value ∙ ap (λ (v : TableValue). v.calls) c.self.view_is in
    let at2 : c.deref-2.result.now ≡ c.args.self.now.calls = c.deref-2.ensures.value ∙ ap (λ (v : TableValue). v.calls) c.self.view_is in
    let e : is_some (position (has_id c.args.id) c.args.self.now.calls) ≡ false = ap (λ l. is_some (position (has_id c.args.id) l)) (sym at) ∙ ap is_some (sym c.position_of.ensures.value) ∙ sym c.is_some.ensures ∙ c.if-is_some.false in
    manual_needs c.args.self.now w s.holds c.args.id e (subst (λ (l : List CallValue). length l < 256) at2 c.in-Some.ensures.room))

pub returns-in-Err-NoMemory-clause-needs : goal.returns-in-Err-NoMemory-clause-needs
returns-in-Err-NoMemory-clause-needs c = λ w s.
    let at : c.deref.result.now ≡ c.args.self.now.calls = c.deref.ensures.value ∙ ap (λ (v : TableValue). v.calls) c.self.view_is in
    let at2 : c.deref-2.result.now ≡ c.args.self.now.calls = c.deref-2.ensures.value ∙ ap (λ (v : TableValue). v.calls) c.self.view_is in
    let e : is_some (position (has_id c.args.id) c.args.self.now.calls) ≡ false = ap (λ l. is_some (position (has_id c.args.id) l)) (sym at) ∙ ap is_some (sym c.position_of.ensures.value) ∙ sym c.is_some.ensures ∙ c.if-is_some.false in
    manual_needs c.args.self.now w s.holds c.args.id e (subst (λ (l : List CallValue). length l < 256) at2 c.in-Some.ensures.room)

pub returns-in-Ok-clause-told : goal.returns-in-Ok-clause-told
returns-in-Ok-clause-told c = λ w s.
    let h : ManualCall = record { id = c.args.id; secure = c.args.given.now.secure; plain = c.args.given.now.plain; roc = c.args.given.now.roc; window = c.args.given.now.window; from_peer = c.args.given.now.from_peer.now; to_peer = c.args.given.now.to_peer.now } in
    let s' : TableStandsFor (the_view c.self.inside) w = subst (λ v. TableStandsFor v w) (sym c.self.view_is) s in
    let order = order_of c.calls_in_order.ensures (the_view c.self.inside) w s' in
    let e : is_some (position (has_id c.args.id) c.self.inside.by_slot.items) ≡ false = ap (λ l. is_some (position (has_id c.args.id) l)) (sym c.deref.ensures.value) ∙ ap is_some (sym c.position_of.ensures.value) ∙ sym c.is_some.ensures ∙ c.if-is_some.false in
    let room : length c.self.inside.by_slot.items < 256 = subst (λ (l : List CallValue). length l < 256) c.deref-2.ensures.value c.in-Some.ensures.room in
    let is_free : c.in-Some.slot ≡ free_shape 0 (shapes_of c.self.inside.by_slot.items) = subst (λ l. c.in-Some.slot ≡ free_shape 0 (shapes_of l)) c.deref-2.ensures.value c.in-Some.ensures.lowest in
    subst (λ t. IsAnswered c.seat.new.told.items t (manual_answer w h)) (sym c.seat.ensures.calls)
    (manual_told c.self.inside.by_slot.items c.self.inside.books c.self.inside.moment w s'.holds order c.args.id c.in-Some.slot is_free c.in_ok-call.call c.in_ok-call.ensures.stands
    c.manual.new.self c.manual.new.books c.in-Ok.ensures.psks (c.in-Ok.ensures.inbox.0 ∙ c.in_ok-call.ensures.inbox.0, c.in-Ok.ensures.inbox.1 ∙ c.in_ok-call.ensures.inbox.1)
    h refl e room c.in-Ok.ensures.answer c.seat.new.told.items c.seat.ensures.told)

pub returns-in-Err-Refused-clause-told : goal.returns-in-Err-Refused-clause-told
returns-in-Err-Refused-clause-told c = λ w s.
    let tells : c.refused-in-Err-Refused.new.told.items ≡ Refused (Some c.args.id) c.in-Err-Refused.cause ∷ [] = c.refused-in-Err-Refused.ensures in
    let h : ManualCall = record { id = c.args.id; secure = c.args.given.now.secure; plain = c.args.given.now.plain; roc = c.args.given.now.roc; window = c.args.given.now.window; from_peer = c.args.given.now.from_peer.now; to_peer = c.args.given.now.to_peer.now } in
    let s' : TableStandsFor (the_view c.self.inside) w = subst (λ v. TableStandsFor v w) (sym c.self.view_is) s in
    let order = order_of c.calls_in_order.ensures (the_view c.self.inside) w s' in
    let e : is_some (position (has_id c.args.id) c.self.inside.by_slot.items) ≡ false = ap (λ l. is_some (position (has_id c.args.id) l)) (sym c.deref.ensures.value) ∙ ap is_some (sym c.position_of.ensures.value) ∙ sym c.is_some.ensures ∙ c.if-is_some.false in
    let room : length c.self.inside.by_slot.items < 256 = subst (λ (l : List CallValue). length l < 256) c.deref-2.ensures.value c.in-Some.ensures.room in
    let is_free : c.in-Some.slot ≡ free_shape 0 (shapes_of c.self.inside.by_slot.items) = subst (λ l. c.in-Some.slot ≡ free_shape 0 (shapes_of l)) c.deref-2.ensures.value c.in-Some.ensures.lowest in
    subst (λ b. IsAnswered c.refused-in-Err-Refused.new.told.items (held c.self.inside.by_slot.items b c.self.inside.moment) (manual_answer w h)) (sym c.in-Err-Refused.ensures.back.1)
    (manual_refused c.self.inside.by_slot.items c.self.inside.books c.self.inside.moment w s'.holds order c.args.id c.in-Some.slot is_free c.in_ok-call.call c.in_ok-call.ensures.stands
    h refl e room c.in-Err-Refused.cause
    (λ k b stands books. subst (λ f. IsKeyed (Err f) c.manual.new.self c.manual.new.books (keyed_manually c.self.inside.moment b k (manual_medium h))) c.in-Err-Refused.field-0-is (c.in-Err-Refused.ensures.answer k b stands books))
    c.refused-in-Err-Refused.new.told.items tells)
