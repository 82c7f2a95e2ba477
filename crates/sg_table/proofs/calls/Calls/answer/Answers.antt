use Rattle.std.proofs.Common.{◌≡◌, ◌<◌, ◌∙◌, sym, ap, subst, List, [], ◌∷◌, length, get_or, Some, None, Err}
use Rattle.std.proofs.Math.ListN.{set}
use Rattle.std.proofs.lemmas.List.{get_or_default}
use Rattle.std.specs.List.{position}
use Rattle.std.specs.Result.{OnOk, OnErr}
use Rattle.sg_base.specs.declared.faults.Refusal.TheVariants.{CallUnknown}
use Rattle.sg_call.specs.Settling.{IsSettled}
use Rattle.sg_call.specs.Standing.{CallStandsFor}
use Rattle.sg_call.specs.States.{HasPairs}
use Rattle.sg_call.specs.Values.{CallValue}
use Rattle.sg_gateway.specs.CallSignals.{answered_in}
use Rattle.sg_gateway.specs.Early.{early_answer}
use Rattle.sg_gateway.specs.Signals.{answered}
use Rattle.sg_gateway.specs.World.{World, call_of}
use Rattle.sg_outcome.specs.declared.outcomes.Outcome.{Outcome}
use Rattle.sg_outcome.specs.declared.outcomes.Outcome.TheVariants.{Refused}
use Rattle.sg_table.proofs.Answered.{order_of, refused_holds, quiet_at, back_at, told_two}
use Rattle.sg_table.proofs.Early.{answer_unknown}
use Rattle.sg_table.proofs.Signalled.{held, on_err, answer_told, answer_refused, answer_state, answer_needs, pairs_there}
use Rattle.sg_table.specs.Found.{has_id}
use Rattle.sg_table.specs.Standing.{TableStandsFor}
use Rattle.sg_table.specs.Telling.{IsAnswered}
use Rattle.sg_table.specs.Values.{TableValue, IsQuiet}
use Rattle.sg_table.specs.contracts.calls.Calls.{the_view}
use Rattle.sg_table.proofs.calls.Calls.answer.Goals.{in-Ok, in-Err-Refused, in-Err-NoMemory}
use Rattle.sg_table.proofs.calls.Calls.answer.Goals as goal

pub returns-in_default-clause-told : goal.returns-in_default-clause-told
returns-in_default-clause-told c = λ w s.
    let at : c.deref.result.now ≡ c.args.self.now.calls = c.deref.ensures.value ∙ ap (λ (v : TableValue). v.calls) c.self.view_is in
    let none : position (has_id c.args.id) c.args.self.now.calls ≡ None = ap (position (has_id c.args.id)) (sym at) ∙ sym c.position_of.ensures.value ∙ c.in_default.is in
    subst (IsAnswered c.refused.new.told.items c.args.self.now) (sym (answer_unknown c.args.self.now w s.holds c.args.id c.args.noise.now c.args.text.now none))
    (refused_holds c.args.self.now w s.holds (Some c.args.id) CallUnknown c.refused.new.told.items c.refused.ensures)

pub returns-in_default-side-clause-told : goal.returns-in_default-side-clause-told
returns-in_default-side-clause-told c = λ w s.
    let d = c.index.result.now in
    let s' : TableStandsFor (the_view c.self.inside) w = subst (λ v. TableStandsFor v w) (sym c.self.view_is) s in
    let order = order_of c.calls_in_order.ensures (the_view c.self.inside) w s' in
    let found : position (has_id c.args.id) c.self.inside.by_slot.items ≡ Some c.in-Some.i = ap (position (has_id c.args.id)) (sym c.deref.ensures.value) ∙ sym c.position_of.ensures.value ∙ c.in-Some.is in
    let at : d ≡ get_or c.self.inside.by_slot.items c.in-Some.i d = c.index.ensures in
    subst (λ t. IsAnswered c.refused-in_default-side.new.told.items t (answered w c.args.id c.args.noise.now c.args.text.now (call_of w c.args.id))) c.self.view_is
    (answer_state c.self.inside.by_slot.items c.self.inside.books c.self.inside.moment w s'.holds order c.args.id c.in-Some.i found d c.args.noise.now c.args.text.now
    (λ pairs k stands. c.in_default-side.ensures pairs k (subst (λ v. CallStandsFor pairs v k) (sym at) stands))
    c.refused-in_default-side.new.told.items c.refused-in_default-side.ensures)

pub answer-requires : goal.answer-requires
answer-requires c =
    let d = c.index_mut.result.now in
    let (w, s) = c.requires.stands in
    let s' : TableStandsFor (the_view c.self.inside) w = subst (λ v. TableStandsFor v w) (sym c.self.view_is) s in
    let order = order_of c.calls_in_order.ensures (the_view c.self.inside) w s' in
    let found : position (has_id c.args.id) c.self.inside.by_slot.items ≡ Some c.in-Some.i = ap (position (has_id c.args.id)) (sym c.deref.ensures.value) ∙ sym c.position_of.ensures.value ∙ c.in-Some.is in
    let at : d ≡ get_or c.self.inside.by_slot.items c.in-Some.i d = c.index_mut.ensures.value in
    record { pairs = subst (λ (v : CallValue). HasPairs c.self.inside.books.psks v.state) (sym at) (pairs_there c.self.inside.by_slot.items c.self.inside.books c.self.inside.moment w s'.holds order c.args.id c.in-Some.i found d) }

pub returns-clause-told : goal.returns-clause-told
returns-clause-told c =
    let d = c.index_mut.result.now in
    let at : d ≡ get_or c.self.inside.by_slot.items c.in-Some.i d = c.index_mut.ensures.value in
    let found : position (has_id c.args.id) c.self.inside.by_slot.items ≡ Some c.in-Some.i = ap (position (has_id c.args.id)) (sym c.deref.ensures.value) ∙ sym c.position_of.ensures.value ∙ c.in-Some.is in
    let after : TableValue = held (set c.self.inside.by_slot.items c.in-Some.i c.answer.new.self) c.answer.new.books c.self.inside.moment in
    let told : List Outcome → Type 0 = λ os. (w : World) → TableStandsFor c.args.self.now w → IsAnswered os after (answered w c.args.id c.args.noise.now c.args.text.now (call_of w c.args.id)) in
    elim c.match-answer.branch [
      | in-Ok b ↦ subst (λ r. OnOk r (told c.match-answer.told.items)) (sym b.result-is) (subst (λ t. told t.items) (sym b.told-is) (λ w s.
          (let s' : TableStandsFor (the_view c.self.inside) w = subst (λ v. TableStandsFor v w) (sym c.self.view_is) s in
          let within : c.in-Some.i < length c.self.inside.by_slot.items = subst (λ (l : List CallValue). c.in-Some.i < length l) c.deref.ensures.value c.in-Some.ensures.within in
          let q : IsQuiet d = subst (λ (v : CallValue). IsQuiet v) (sym at) (quiet_at c.self.inside.by_slot.items c.in-Some.i d s'.holds.quiet within) in
          answer_told c.self.inside.by_slot.items c.self.inside.books c.self.inside.moment w s'.holds (order_of c.calls_in_order.ensures (the_view c.self.inside) w s') c.args.id c.in-Some.i found d
          c.answer.new.self b.in-Ok.text c.answer.new.books c.answer.ensures.psks (c.answer.ensures.inbox.0 ∙ q.0, c.answer.ensures.inbox.1 ∙ q.1) c.in-Some-side.side c.args.noise.now c.args.text.now
          (λ pairs k stands. c.in-Some-side.ensures pairs k (subst (λ v. CallStandsFor pairs v k) (get_or_default c.self.inside.by_slot.items c.in-Some.i d c.index.result.now within ∙ sym c.index.ensures) stands))
          (λ k a stands books. subst (λ r. IsSettled r c.answer.new.self c.answer.new.books (answered_in c.self.inside.moment a k c.args.noise.now c.args.text.now)) b.in-Ok.is
          (c.answer.ensures.answer k a (subst (λ v. CallStandsFor a.pairs v k) (sym at) stands) books))
          b.push-in-Ok.new.self.items (told_two _ _ _ _ _ c.requires.none b.push.ensures.items b.push-in-Ok.ensures.items))))
      | in-Err-Refused b ↦ subst (λ r. OnOk r (told c.match-answer.told.items)) (sym b.result-is) (subst (λ t. told t.items) (sym b.told-is) (λ w s.
          (let s' : TableStandsFor (the_view c.self.inside) w = subst (λ v. TableStandsFor v w) (sym c.self.view_is) s in
          let is = b.in-Err-Refused.is ∙ ap (λ f. Err f) b.in-Err-Refused.field-0-is in
          let tells : b.refused-in-Err-Refused.new.told.items ≡ Refused (Some c.args.id) b.in-Err-Refused.cause ∷ [] = rw b.in-Err-Refused.field-0-is at b.refused-in-Err-Refused.ensures in
          let back = subst (λ r. OnErr r ((c.answer.new.self ≡ d) × (c.answer.new.books ≡ c.self.inside.books))) is c.answer.ensures.back in
          let same = back_at c.self.inside.by_slot.items c.in-Some.i d c.answer.new.self (back.0 ∙ at) in
          subst (λ t. IsAnswered b.refused-in-Err-Refused.new.told.items t (answered w c.args.id c.args.noise.now c.args.text.now (call_of w c.args.id)))
          (λ j. held (sym same j) (sym back.1 j) c.self.inside.moment)
          (answer_refused c.self.inside.by_slot.items c.self.inside.books c.self.inside.moment w s'.holds (order_of c.calls_in_order.ensures (the_view c.self.inside) w s') c.args.id c.in-Some.i found d
          c.args.noise.now c.args.text.now b.in-Err-Refused.cause
          (λ k a stands books. subst (λ r. IsSettled r c.answer.new.self c.answer.new.books (answered_in c.self.inside.moment a k c.args.noise.now c.args.text.now)) is
          (c.answer.ensures.answer k a (subst (λ v. CallStandsFor a.pairs v k) (sym at) stands) books))
          b.refused-in-Err-Refused.new.told.items tells))))
      | in-Err-NoMemory b ↦ subst (λ r. OnOk r (told c.match-answer.told.items)) (sym b.result-is) tt
    ]

pub returns-clause-needs : goal.returns-clause-needs
returns-clause-needs c =
    on_err _ ((w : World) → TableStandsFor c.args.self.now w → early_answer (call_of w c.args.id) ≡ None) (λ w s.
    let d = c.index.result.now in
    let s' : TableStandsFor (the_view c.self.inside) w = subst (λ v. TableStandsFor v w) (sym c.self.view_is) s in
    let found : position (has_id c.args.id) c.self.inside.by_slot.items ≡ Some c.in-Some.i = ap (position (has_id c.args.id)) (sym c.deref.ensures.value) ∙ sym c.position_of.ensures.value ∙ c.in-Some.is in
    let at : d ≡ get_or c.self.inside.by_slot.items c.in-Some.i d = c.index.ensures in
    answer_needs c.self.inside.by_slot.items c.self.inside.books c.self.inside.moment w s'.holds (order_of c.calls_in_order.ensures (the_view c.self.inside) w s') c.args.id c.in-Some.i found d c.in-Some-side.side
    (λ pairs k stands. c.in-Some-side.ensures pairs k (subst (λ v. CallStandsFor pairs v k) (sym at) stands)))
