use Rattle.std.proofs.Common.{◌≡◌, ◌+◌, ◌*◌, length, get_or, refl, ◌∙◌, ap, arith}
use Rattle.std.proofs.lemmas.List.{length-set}
use Rattle.sg_demo.specs.Actions.{action_of}
use Rattle.sg_demo.proofs.Lists.{zip_long}
use Rattle.sg_demo.proofs.Turning.{turning_ends, turning_goes, turning_starts}
use Rattle.sg_demo.proofs.Within.{more_small}
use Rattle.sg_demo.specs.Standing.{CallerStandsFor}
use Rattle.sg_demo.proofs.round.take_turns.Goals as goal

pub loop-position-init : goal.loop-position-init
loop-position-init c = (λ cs stand. turning_starts c.args.words.now c.args.callers.now c.new-round.result cs stand c.new-round.ensures.gathered, c.new-round.ensures.small, refl)

pub loop-position-preserved : goal.loop-position-preserved
loop-position-preserved c =
    let i = c.loop-position.position in
    let callers = c.loop-position.callers in
    let x = c.index-callers-position.result in (
      λ cs stand.
          turning_goes c.args.words.now c.loop-position.words c.draw.new.words callers (get_or callers i x) c.turn.new.caller x c.loop-position.round c.turn.new.self cs i c.action_of-action.result
          (omega (arith, c.loop-position-test.true, c.loop-position.invariant.2)) refl (c.action_of-action.ensures ∙ ap action_of c.draw.ensures.word) c.draw.ensures.words c.in_ok-turn.ensures.turn
          (c.loop-position.invariant.0 cs stand),
      more_small (2 * i + 2) (2 * i + 2) (2 * (i + 1)) (2 * (i + 1)) c.turn.new.self (omega arith) (omega arith) (c.in_ok-turn.ensures.small (2 * i) (2 * i) c.loop-position.invariant.1),
      length-set callers i c.turn.new.caller ∙ c.loop-position.invariant.2,
    )

pub returns-clause-turns : goal.returns-clause-turns
returns-clause-turns c = λ cs stand.
    let long : length c.args.callers.now ≡ length cs = zip_long CallerStandsFor c.args.callers.now cs stand in
    turning_ends c.args.words.now c.loop-position.words c.loop-position.callers c.loop-position.round cs c.loop-position.position (omega (arith, long, c.loop-position-test.false)) (c.loop-position.invariant.0 cs stand)
