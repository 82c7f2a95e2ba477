use Rattle.std.proofs.Common.{take, ◌≡◌, ◌++◌, flat_map}
use Rattle.sg_playback.proofs.Tells.{text_at}
use Rattle.sg_playback.proofs.writing.add_lines.Given as goal

abbrev pub invariant-loop-arrival : goal.invariant-loop-arrival
invariant-loop-arrival l = l.lines.items ≡ l.fn.lines.items ++ flat_map text_at (take l.arrival-index l.arrivals)
