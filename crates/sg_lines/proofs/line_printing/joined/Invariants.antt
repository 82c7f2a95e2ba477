use Rattle.std.proofs.Common.{◌≡◌, ◌++◌, map, drop}
use Rattle.std.specs.List.{join_with_byte}
use Rattle.sg_lines.proofs.line_printing.joined.Given as goal

abbrev pub invariant-loop-field : goal.invariant-loop-field
invariant-loop-field l = l.out.items ++ join_with_byte 32 (map (λ x. x.now) (drop l.field-index l.fields)) ≡ join_with_byte 32 (map (λ x. x.now) l.fields)
