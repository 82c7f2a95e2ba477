use Rattle.std.proofs.Common.{◌≡◌, drop}
use Rattle.sg_agreement.specs.EachMedium.{each_kept}
use Rattle.sg_agreement.specs.LineAnswers.{keyed_by_peer_line}
use Rattle.sg_agreement.specs.Walks.{prefixed}
use Rattle.sg_leg.proofs.answering.answered_by_peer_lines.Given as goal

abbrev pub invariant-loop-m : goal.invariant-loop-m
invariant-loop-m l =
    prefixed l.keyed.items (each_kept (keyed_by_peer_line l.noise) l.m (drop l.m l.active) (drop l.m l.lines) (drop l.m l.media)) ≡ each_kept (keyed_by_peer_line l.noise) 0 l.active l.lines l.media
