use Rattle.std.proofs.Common.{◌≡◌, ◌++◌, List, ℕ, Err, ap, sym, ◌∙◌, subst, None, Some}
use Rattle.std.proofs.lemmas.List.{append-nil}
use Rattle.std.specs.Prelude.{option_to_list}
use Rattle.sg_pairs.specs.BridgeText.{bridge_outcome_line}
use Rattle.sg_pairs.specs.Pairs.{after_outcome}
use Rattle.sg_bridge.proofs.Steps.{cut_written, lines, next_text, then_written}
use Rattle.sg_edge.specs.Told.{Wrote}
use Rattle.sg_outcome.specs.OutcomeText.{outcome_line}
use Rattle.sg_trace.specs.Output.{IsWritten}
use Rattle.sg_bridge.proofs.telling.tell_next.Goals as goal

pub returns-in-Err-clause-told : goal.returns-in-Err-clause-told
returns-in-Err-clause-told g c =
    let calls = c.args.switchboard.now.calls in
    let o = c.args.outcome.now in
    subst (IsWritten (Err c.in-Err.status) (g.K.Sink.written c.args.sink.now) (g.K.Sink.written c.tell.new.sink)) (sym (next_text calls o))
    (cut_written c.in-Err.status _ _ (outcome_line o) (lines (option_to_list (after_outcome calls o).parted)) c.in-Err.ensures.told)

pub returns-in-None-clause-told : goal.returns-in-None-clause-told
returns-in-None-clause-told g c =
    let calls = c.args.switchboard.now.calls in
    let o = c.args.outcome.now in
    let none : (after_outcome calls o).parted ≡ None = sym c.in-None.ensures.parted in
    subst (Wrote (g.K.Sink.written c.args.sink.now) (g.K.Sink.written c.tell.new.sink))
    (sym (next_text calls o ∙ ap (λ (p : _). outcome_line o ++ lines (option_to_list p)) none ∙ append-nil (outcome_line o))) c.in-Ok.ensures.told

pub returns-in-Some-clause-told : goal.returns-in-Some-clause-told
returns-in-Some-clause-told g c =
    let calls = c.args.switchboard.now.calls in
    let o = c.args.outcome.now in
    let some : (after_outcome calls o).parted ≡ Some c.in-Some.parted = sym c.in-Some.ensures.parted in
    subst (IsWritten c.tell_bridge.result (g.K.Sink.written c.args.sink.now) (g.K.Sink.written c.tell_bridge.new.sink))
    (ap (λ (l : List ℕ). outcome_line o ++ l) (sym (append-nil (bridge_outcome_line c.in-Some.parted)))
    ∙ sym (next_text calls o ∙ ap (λ (p : _). outcome_line o ++ lines (option_to_list p)) some))
    (then_written c.tell_bridge.result _ _ _ (outcome_line o) _ c.in-Ok.ensures.told c.tell_bridge.ensures.told)
