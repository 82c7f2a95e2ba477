use Rattle.std.proofs.Common.{◌≡◌, ◌+◌, map, drop}
use Rattle.sg_sdp.specs.Reading.{steps, none_yet}
use Rattle.sg_sdp.proofs.reading.lines.Given as goal

abbrev pub invariant-loop-line : goal.invariant-loop-line
invariant-loop-line l = (l.number ≡ l.line-index + 1) × (steps 2048 l.number l.sdp (map (λ x. x.now) (drop l.line-index l.line-items)) ≡ steps 2048 1 none_yet (map (λ x. x.now) l.line-items))
