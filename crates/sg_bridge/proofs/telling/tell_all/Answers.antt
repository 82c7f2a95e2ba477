use Rattle.std.proofs.Common.{◌≡◌, ◌++◌, ◌∙◌, ℕ, List, take, subst, ap, sym, Err}
use Rattle.std.proofs.lemmas.List.{take_all}
use Rattle.sg_pairs.specs.Bridged.{told_and_parted}
use Rattle.sg_pairs.specs.Pairs.{Members, after_outcome}
use Rattle.sg_bridge.proofs.Steps.{lines, lines-append}
use Rattle.sg_edge.proofs.Passed.{wrote_more}
use Rattle.sg_edge.specs.Told.{Wrote}
use Rattle.sg_switchboard.proofs.Noted.{all_told, more_calls, more_told}
use Rattle.sg_switchboard.specs.Switching.{SwitchboardValue, told_next}
use Rattle.sg_trace.proofs.Causes.{failed_now}
use Rattle.sg_trace.proofs.Writings.{written_behind}
use Rattle.sg_trace.specs.Output.{IsWritten}
use Rattle.sg_bridge.proofs.telling.tell_all.Goals as goal

pub returns-in-Err-clause-told : goal.returns-in-Err-clause-told
returns-in-Err-clause-told g c =
    let calls = c.args.switchboard.now.calls in
    let os = c.args.outcomes.now in
    let i = c.loop-outcome.outcome-index in
    let o = c.outcome-item.result in
    let before = told_and_parted calls (take i os) in
    let whole = all_told calls os i o c.loop-outcome-test.true c.outcome-item.is in
    let told = subst (λ (v : SwitchboardValue). IsWritten (Err c.in-Err.status) (g.K.Sink.written c.loop-outcome.sink) (g.K.Sink.written c.tell_next.new.sink) (lines (told_next v.calls o))) c.loop-outcome.invariant.1 c.in-Err.ensures.told in
    subst (IsWritten (Err c.in-Err.status) (g.K.Sink.written c.args.sink.now) (g.K.Sink.written c.tell_next.new.sink))
    (sym (ap lines whole.1 ∙ lines-append before.told (told_next before.calls o ++ whole.0) ∙ ap (λ (l : List ℕ). lines before.told ++ l) (lines-append (told_next before.calls o) whole.0)))
    (written_behind c.in-Err.status _ _ _ (lines before.told) (lines (told_next before.calls o)) (lines whole.0) c.loop-outcome.invariant.0 told)

pub returns-in-Err-clause-write : goal.returns-in-Err-clause-write
returns-in-Err-clause-write g c = failed_now _ _ _ _ _ c.loop-outcome.invariant.2 c.in-Err.ensures.write

pub returns-clause-told : goal.returns-clause-told
returns-clause-told g c =
    let all : take c.loop-outcome.outcome-index c.args.outcomes.now ≡ c.args.outcomes.now = take_all c.loop-outcome.outcome-index c.args.outcomes.now c.loop-outcome-test.false in
    subst (Wrote (g.K.Sink.written c.args.sink.now) (g.K.Sink.written c.loop-outcome.sink)) (ap (λ os. lines (told_and_parted c.args.switchboard.now.calls os).told) all) c.loop-outcome.invariant.0

pub returns-clause-noted : goal.returns-clause-noted
returns-clause-noted g c =
    let all : take c.loop-outcome.outcome-index c.args.outcomes.now ≡ c.args.outcomes.now = take_all c.loop-outcome.outcome-index c.args.outcomes.now c.loop-outcome-test.false in
    let board : SwitchboardValue = c.args.switchboard.now in
    c.loop-outcome.invariant.1 ∙ ap (λ os. record board { calls = (told_and_parted board.calls os).calls }) all

pub loop-outcome-preserved : goal.loop-outcome-preserved
loop-outcome-preserved g c =
    let board : SwitchboardValue = c.args.switchboard.now in
    let os = c.args.outcomes.now in
    let i = c.loop-outcome.outcome-index in
    let o = c.outcome-item.result in
    let before = told_and_parted board.calls (take i os) in
    let told = subst (λ (v : SwitchboardValue). Wrote (g.K.Sink.written c.loop-outcome.sink) (g.K.Sink.written c.tell_next.new.sink) (lines (told_next v.calls o))) c.loop-outcome.invariant.1 c.in-Ok.ensures.told in (
      subst (Wrote (g.K.Sink.written c.args.sink.now) (g.K.Sink.written c.tell_next.new.sink)) (sym (ap lines (more_told board.calls os i o c.loop-outcome-test.true c.outcome-item.is) ∙ lines-append before.told (told_next before.calls o)))
          (wrote_more _ _ _ (lines before.told) (lines (told_next before.calls o)) c.loop-outcome.invariant.0 told),
      c.in-Ok.ensures.noted ∙ ap (λ (v : SwitchboardValue). record v { calls = (after_outcome v.calls o).calls }) c.loop-outcome.invariant.1
          ∙ ap (λ (m : Members). record board { calls = m }) (sym (more_calls board.calls os i o c.loop-outcome-test.true c.outcome-item.is)),
      c.in-Ok.ensures.write.quiet (λ is. cc) ∙ c.loop-outcome.invariant.2,
    )
