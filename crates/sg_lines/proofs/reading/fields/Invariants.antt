use Rattle.std.proofs.Common.{◌≡◌, ◌≤◌, ◌++◌, length}
use Rattle.std.specs.Prelude.{map}
use Rattle.sg_lines.specs.LineOf.{fields_of}
use Rattle.sg_lines.proofs.reading.fields.Given as goal

abbrev pub invariant-spaces : goal.invariant-spaces
invariant-spaces l = (map (λ x. x.now) l.fields.items ++ fields_of l.rest ≡ fields_of l.body) × (length l.rest ≤ length l.body)

abbrev pub decreases-spaces : goal.decreases-spaces
decreases-spaces l = length l.rest
