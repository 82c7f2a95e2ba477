use Rattle.std.proofs.Common.{List, ℕ, length, length-append, take, drop, ap, arith}
use Rattle.std.proofs.lemmas.List.{length-take, take-append-drop}
use Rattle.sg_lines.proofs.Searches.{found_by, lost_by}
use Rattle.sg_trace.proofs.LineParts.{whole_at, uncut_part, all_or_most}
use Rattle.sg_trace.proofs.read_buffer.line_in.Goals as goal

pub returns-in-Some-clause-count : goal.returns-in-Some-clause-count
returns-in-Some-clause-count c =
    let near : List ℕ = take c.min.result c.args.waiting.now in
    let found = found_by 10 near c.in-Some.place c.in-Some.ensures in
    omega (arith, found.0, ap length (take-append-drop c.min.result c.args.waiting.now), length-append near (drop c.min.result c.args.waiting.now))

pub returns-in-Some-clause-line : goal.returns-in-Some-clause-line
returns-in-Some-clause-line c =
    let near : List ℕ = take c.min.result c.args.waiting.now in
    let found = found_by 10 near c.in-Some.place c.in-Some.ensures in
    whole_at c.args.waiting.now near (drop c.min.result c.args.waiting.now) c.in-Some.place c.args.most (take-append-drop c.min.result c.args.waiting.now) found.0 (found.1, found.2)

pub returns-in-None-clause-line : goal.returns-in-None-clause-line
returns-in-None-clause-line c =
    let near : List ℕ = take c.min.result c.args.waiting.now in
    uncut_part c.args.waiting.now near (drop c.min.result c.args.waiting.now) c.args.most
    (take-append-drop c.min.result c.args.waiting.now)
    (all_or_most c.args.waiting.now c.args.most c.min.result c.min.ensures)
    (lost_by 10 near c.in-None.ensures)

pub returns-in-Some-clause-most : goal.returns-in-Some-clause-most
returns-in-Some-clause-most c =
    let near : List ℕ = take c.min.result c.args.waiting.now in
    let found = found_by 10 near c.in-Some.place c.in-Some.ensures in
    omega (arith, found.0, c.min.ensures, length-take c.min.result c.args.waiting.now)
