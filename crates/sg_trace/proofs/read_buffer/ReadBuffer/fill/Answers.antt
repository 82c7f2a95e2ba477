use Rattle.std.proofs.Common.{rules, ◌≡◌, ◌≤◌, ℕ, List, [], ◌++◌, length, take, sym, ap, ◌∙◌, arith, length-append}
use Rattle.std.proofs.lemmas.List.{length-take}
use Rattle.sg_trace.proofs.LineParts.{read_part}
use Rattle.sg_trace.proofs.read_buffer.ReadBuffer.fill.Goals as goal

pub returns-clause-got : goal.returns-clause-got
returns-clause-got g c =
    let none : c.args.self.now ≡ [] = search rules in
    let within : c.in_ok-n.n ≤ length c.read.new.part = search rules in
    let got : List ℕ = take c.in_ok-n.n c.read.new.part in
    (got, c.in_ok-n.ensures.took, read_part c.read.new.part _ c.in_ok-n.n within ∙ ap (λ (l : List ℕ). l ++ got) (sym none), search rules)

pub returns-clause-few : goal.returns-clause-few
returns-clause-few g c = λ few.
    let none : c.args.self.now ≡ [] = search rules in
    let most : c.in_ok-n.n ≤ 4096 = search rules in
    let got = returns-clause-got g c in
    omega (arith, most, ap length got.2, ap length none, length-append c.args.self.now got.0, length-take c.in_ok-n.n c.read.new.part)

pub returns-clause-given : goal.returns-clause-given
returns-clause-given g c =
    let got = returns-clause-got g c in
    omega (arith, got.3, c.in_ok-n.ensures.took.1)
