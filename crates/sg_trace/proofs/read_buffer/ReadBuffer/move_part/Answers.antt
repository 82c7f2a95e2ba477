use Rattle.std.proofs.Common.{rules, ◌≡◌, ◌-◌, ◌+◌, ◌≤◌, List, ℕ, take, drop, length, sym, ap, ◌∙◌, subst, ◌++◌, arith, min}
use Rattle.sg_trace.proofs.Common.{HasMoved, take-append-drop}
use Rattle.sg_trace.proofs.LineParts.{behind_part, moved_part}
use Rattle.sg_trace.proofs.read_buffer.ReadBuffer.move_part.Goals as goal

pub returns-clause-moved : goal.returns-clause-moved
returns-clause-moved c =
    let row : List ℕ = c.self.inside.part in
    let waiting : List ℕ = take (c.self.inside.end - c.self.inside.at) (drop c.self.inside.at row) in
    let count : ℕ = c.min-count.result in
    let is : count ≡ min (length waiting) c.args.most = search rules in
    let few : count ≤ length waiting = omega (arith, is) in
    let left : drop count waiting ≡ take (c.self.inside.end - (c.self.inside.at + count)) (drop (c.self.inside.at + count) row) = behind_part row c.self.inside.at c.self.inside.end count c.self.invariant.0 (search rules) few in (
      take count waiting,
      (sym c.self.view_is ∙ sym (take-append-drop count waiting) ∙ ap (λ (l : List ℕ). take count waiting ++ l) left, c.in_ok-extend_from_slice.ensures.items),
      subst (λ (l : List ℕ). HasMoved (take count waiting) l c.args.most) left (moved_part waiting c.args.most count is),
    )
