use Rattle.std.proofs.Common.{◌≡◌, ◌*◌, List, length}
use Rattle.std.specs.List.{AllZip}
use Rattle.sg_demo.specs.Callers as demo
use Rattle.sg_demo.specs.Rounds.{IsSmall}
use Rattle.sg_demo.specs.Standing.{CallerStandsFor}
use Rattle.sg_demo.proofs.Turning.{IsTurning}
use Rattle.sg_demo.proofs.round.take_turns.Given as goal

abbrev pub invariant-loop-position : goal.invariant-loop-position
invariant-loop-position l =
    ((cs : List demo.Caller) → AllZip CallerStandsFor l.fn.callers cs → IsTurning l.fn.words l.words l.callers l.round cs l.position)
    × IsSmall (2 * l.position) (2 * l.position) l.round × (length l.callers ≡ length l.fn.callers)
