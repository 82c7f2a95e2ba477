use Rattle.std.proofs.Common.{◌≡◌, drop}
use Rattle.sg_keys.specs.Indexed.{first_with}
use Rattle.sg_keys.proofs.index.first_behind.Given as goal

abbrev pub invariant-loop-i : goal.invariant-loop-i
invariant-loop-i l = first_with l.part l.octets l.i (drop l.i l.list) ≡ first_with l.part l.octets l.start (drop l.start l.list)
