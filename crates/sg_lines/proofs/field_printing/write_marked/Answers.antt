use Rattle.std.proofs.Common.{◌≤◌, ◌-◌, length, arith}
use Rattle.std.specs.Fmt.{decimal}
use Rattle.std.proofs.lemmas.Fmt.{length-decimal-le}
use Rattle.std.proofs.lemmas.List.{length-set}
use Rattle.sg_lines.proofs.field_printing.write_marked.Goals as goal

pub write_digits-requires : goal.write_digits-requires
write_digits-requires c =
    let short : length (decimal c.from.result) ≤ 3 = length-decimal-le 3 c.from.result (omega arith) (omega arith) (omega arith) in
    (omega (arith, short, c.requires), omega (arith, length-set c.args.text.now (c.args.end - 1) c.args.mark, c.requires))

pub returns-clause-start : goal.returns-clause-start
returns-clause-start c =
    let short : length (decimal c.from.result) ≤ 3 = length-decimal-le 3 c.from.result (omega arith) (omega arith) (omega arith) in
    (omega (arith, short, c.write_digits.ensures.start, c.requires), omega (arith, c.write_digits.ensures.start, c.requires))
