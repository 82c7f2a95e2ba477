use Rattle.std.proofs.Common.{◌≡◌, ◌≤◌, ℕ, [], ◌++◌, length, drop, ap, ◌∙◌, arith}
use Rattle.std.specs.Fmt.{decimal}
use Rattle.std.proofs.lemmas.Fmt.{length-decimal-le}
use Rattle.std.proofs.lemmas.List.{drop_all}
use Rattle.sg_lines.proofs.Joins.{address_is}
use Rattle.sg_lines.proofs.field_printing.write_address.Goals as goal

pub write_digits-port-requires : goal.write_digits-port-requires
write_digits-port-requires c =
    let short : length (decimal c.from.result) ≤ 5 = length-decimal-le 5 c.from.result (omega arith) (omega arith) (omega arith) in
    (omega (arith, short), omega (arith, c.requires))

pub write_marked-fourth-requires : goal.write_marked-fourth-requires
write_marked-fourth-requires c =
    let short : length (decimal c.from.result) ≤ 5 = length-decimal-le 5 c.from.result (omega arith) (omega arith) (omega arith) in
    (omega (arith, short, c.write_digits-port.ensures.start), omega (arith, c.write_digits-port.ensures.start, c.write_digits-port.auto.buf, c.requires))

pub write_marked-third-requires : goal.write_marked-third-requires
write_marked-third-requires c =
    let short : length (decimal c.from.result) ≤ 5 = length-decimal-le 5 c.from.result (omega arith) (omega arith) (omega arith) in (
      omega (arith, short, c.write_digits-port.ensures.start, c.write_marked-fourth.ensures.start),
      omega (arith, c.write_marked-fourth.ensures.start, c.write_marked-fourth.auto.text, c.write_digits-port.auto.buf, c.write_digits-port.ensures.start, c.requires),
    )

pub write_marked-second-requires : goal.write_marked-second-requires
write_marked-second-requires c =
    let short : length (decimal c.from.result) ≤ 5 = length-decimal-le 5 c.from.result (omega arith) (omega arith) (omega arith) in
    (omega (arith, short, c.write_digits-port.ensures.start, c.write_marked-fourth.ensures.start, c.write_marked-third.ensures.start), omega arith)

pub write_marked-requires : goal.write_marked-requires
write_marked-requires c =
    let short : length (decimal c.from.result) ≤ 5 = length-decimal-le 5 c.from.result (omega arith) (omega arith) (omega arith) in (
      omega (arith, short, c.write_digits-port.ensures.start, c.write_marked-fourth.ensures.start, c.write_marked-third.ensures.start, c.write_marked-second.ensures.start),
      omega arith,
    )

pub returns-clause-written : goal.returns-clause-written
returns-clause-written c =
    let none : drop 21 c.args.text.now ≡ [] = drop_all 21 c.args.text.now (omega (arith, c.requires)) in
    let port : drop c.write_digits-port.result c.write_digits-port.new.buf ≡ decimal c.args.a.now.port ++ drop 21 c.args.text.now =
    c.write_digits-port.ensures.written ∙ ap (λ (n : ℕ). decimal n ++ drop 21 c.args.text.now) c.from.ensures in
    address_is _ _ _ _ _ _ _ _ _ _ _ none port c.write_marked-fourth.ensures.written c.write_marked-third.ensures.written c.write_marked-second.ensures.written c.write_marked.ensures.written
