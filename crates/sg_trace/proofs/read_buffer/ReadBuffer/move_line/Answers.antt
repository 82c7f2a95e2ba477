use Rattle.std.proofs.Common.{rules, ◌≡◌, ◌-◌, ◌+◌, List, ℕ, length, length-append, take, drop, sym, ap, ◌∙◌, subst, ◌++◌, arith}
use Rattle.sg_trace.proofs.Common.{EndsLine, length-take, take-append-drop}
use Rattle.sg_trace.proofs.LineParts.{behind_part}
use Rattle.sg_trace.proofs.read_buffer.ReadBuffer.move_line.Goals as goal

pub returns-clause-moved : goal.returns-clause-moved
returns-clause-moved c =
    let row : List ℕ = c.self.inside.part in
    let waiting : List ℕ = take (c.self.inside.end - c.self.inside.at) (drop c.self.inside.at row) in
    let count : ℕ = c.line_in-count.result.0 in
    let left : drop count waiting ≡ take (c.self.inside.end - (c.self.inside.at + count)) (drop (c.self.inside.at + count) row) = behind_part row c.self.inside.at c.self.inside.end count c.self.invariant.0 (search rules) c.line_in-count.ensures.count in (
      take count waiting,
      (sym c.self.view_is ∙ sym (take-append-drop count waiting) ∙ ap (λ (l : List ℕ). take count waiting ++ l) left, c.in_ok-extend_from_slice.ensures.items),
      subst (λ (l : List ℕ). EndsLine c.line_in-count.result.1 (take count waiting) l c.args.most) left c.line_in-count.ensures.line,
    )

pub returns-clause-short : goal.returns-clause-short
returns-clause-short c =
    let waiting : List ℕ = take (c.self.inside.end - c.self.inside.at) (drop c.self.inside.at c.self.inside.part) in
    let count : ℕ = c.line_in-count.result.0 in
    omega (arith, ap length c.in_ok-extend_from_slice.ensures.items, length-append c.args.line.now.items (take count waiting), length-take count waiting, c.line_in-count.ensures.most)
