use Rattle.std.proofs.Common.{◌≡◌}
use Rattle.sg_keys.specs.Indexed.{IsIndexOf}
use Rattle.sg_keys.proofs.index.Index.extend.Given as goal

abbrev pub invariant-loop-i : goal.invariant-loop-i
invariant-loop-i l = (l.self.count ≡ l.i) × IsIndexOf l.fn.self.part l.self l.list
