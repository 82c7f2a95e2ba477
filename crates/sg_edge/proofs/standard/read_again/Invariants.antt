use Rattle.std.proofs.Common.{◌≡◌, length}
use Rattle.std.specs.Io.KnownBytes.{Keeps}
use Rattle.sg_edge.proofs.standard.read_again.Given as goal

abbrev pub invariant-loop : goal.invariant-loop
invariant-loop g l = (length l.part ≡ length l.fn.part) × Keeps (g.R.Read.remaining l.fn.reader) (g.R.Read.remaining l.reader)
