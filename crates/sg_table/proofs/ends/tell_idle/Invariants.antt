use Rattle.std.proofs.Common.{◌≡◌, ◌≤◌, map, take}
use Rattle.std.specs.List.{filter}
use Rattle.arrayvec.specs.ArrayVec.{array_vec_len}
use Rattle.sg_outcome.specs.declared.outcomes.Why.TheVariants as why
use Rattle.sg_table.specs.Ends.{ended_as, idles}
use Rattle.sg_table.proofs.ends.tell_idle.Given as goal

abbrev pub invariant-loop-call : goal.invariant-loop-call
invariant-loop-call l = (l.told.items ≡ map (ended_as why.Idle) (filter (idles l.now) (take l.call-index l.calls))) × (array_vec_len l.told ≤ l.call-index)
