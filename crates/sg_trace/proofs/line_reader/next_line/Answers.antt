use Rattle.std.proofs.Common.{◌≡◌, ◌∙◌, ◌-◌, [], ◌++◌, arith, sym, ap, refl, subst, inl, inr, ◌<◌, length, length-append}
use Rattle.sg_trace.proofs.Common.{EndsLine, IsWhole, NoEnd, nat_tests, took_more}
use Rattle.sg_trace.proofs.ReadBuffers.{NoEnd-append, IsWhole-append, filled, moved}
use Rattle.sg_trace.proofs.line_reader.next_line.Goals as goal

pub returns-in-Err-clause-got : goal.returns-in-Err-clause-got
returns-in-Err-clause-got g c =
    let before = c.loop-read_buffer.invariant.0 in
    let now = c.fill.ensures.got in (
      before.0 ++ now.0,
      took_more _ _ _ before.0 now.0 before.1 now.1,
      filled _ before.0 c.loop-read_buffer.line.items c.loop-read_buffer.read_buffer now.0 c.fill.new.self before.2 now.2,
      omega (arith, before.3, now.3, length-append before.0 now.0),
    )

pub returns-in-Err-move_line-clause-got : goal.returns-in-Err-move_line-clause-got
returns-in-Err-move_line-clause-got g c =
    let before = c.loop-read_buffer.invariant.0 in
    let now = c.fill.ensures.got in
    let all : c.args.read_buffer.now ++ (before.0 ++ now.0) ≡ c.loop-read_buffer.line.items ++ c.fill.new.self = filled _ before.0 c.loop-read_buffer.line.items c.loop-read_buffer.read_buffer now.0 c.fill.new.self before.2 now.2 in
    let stays = c.in-Err-move_line.ensures.err in (
      before.0 ++ now.0,
      took_more _ _ _ before.0 now.0 before.1 now.1,
      all ∙ (λ i. sym stays.1 i ++ sym stays.0 i),
      omega (arith, before.3, now.3, length-append before.0 now.0),
    )

pub returns-then-is_empty-clause-got : goal.returns-then-is_empty-clause-got
returns-then-is_empty-clause-got g c =
    let before = c.loop-read_buffer.invariant.0 in
    let now = c.fill.ensures.got in
    let empty : c.fill.new.self ≡ [] = c.is_empty.ensures.0 c.if-is_empty.true in
    let all : c.args.read_buffer.now ++ (before.0 ++ now.0) ≡ c.loop-read_buffer.line.items ++ c.fill.new.self = filled _ before.0 c.loop-read_buffer.line.items c.loop-read_buffer.read_buffer now.0 c.fill.new.self before.2 now.2 in
    let some : 0 < length c.loop-read_buffer.line.items = grind (arith, nat_tests, ap length c.as_slice.ensures.value, c.is_empty-then-is_empty.ensures, c.if-is_empty-2.false) in (
      before.0 ++ now.0,
      took_more _ _ _ before.0 now.0 before.1 now.1,
      (all, inr (c.loop-read_buffer.invariant.1, some, inl (empty, c.in-Ok.ensures.ended empty))),
      omega (arith, before.3, now.3, length-append before.0 now.0),
    )

pub returns-in-Ok-true-clause-got : goal.returns-in-Ok-true-clause-got
returns-in-Ok-true-clause-got g c =
    let before = c.loop-read_buffer.invariant.0 in
    let now = c.fill.ensures.got in
    let part = c.in-Ok-true.ensures.moved in
    let all : c.args.read_buffer.now ++ (before.0 ++ now.0) ≡ c.loop-read_buffer.line.items ++ c.fill.new.self = filled _ before.0 c.loop-read_buffer.line.items c.loop-read_buffer.read_buffer now.0 c.fill.new.self before.2 now.2 in
    let ends : IsWhole part.0 = subst (λ b. EndsLine b part.0 c.move_line.new.self (70001 - c.len-in-loop-read_buffer.result)) c.in-Ok-true.field-0-test part.2 in (
      before.0 ++ now.0,
      took_more _ _ _ before.0 now.0 before.1 now.1,
      (
        moved _ c.loop-read_buffer.line.items c.fill.new.self c.move_line.new.self part.0 c.move_line.new.line.items all part.1.0 part.1.1,
        inl (subst IsWhole (sym part.1.1) (IsWhole-append c.loop-read_buffer.line.items part.0 c.loop-read_buffer.invariant.1 ends)),
      ),
      omega (arith, before.3, now.3, length-append before.0 now.0),
    )

pub loop-read_buffer-preserved : goal.loop-read_buffer-preserved
loop-read_buffer-preserved g c =
    let before = c.loop-read_buffer.invariant.0 in
    let now = c.fill.ensures.got in
    let part = c.in-Ok-false.ensures.moved in
    let all : c.args.read_buffer.now ++ (before.0 ++ now.0) ≡ c.loop-read_buffer.line.items ++ c.fill.new.self = filled _ before.0 c.loop-read_buffer.line.items c.loop-read_buffer.read_buffer now.0 c.fill.new.self before.2 now.2 in
    let goes : NoEnd part.0 = (subst (λ b. EndsLine b part.0 c.move_line.new.self (70001 - c.len-in-loop-read_buffer.result)) c.in-Ok-false.field-0-test part.2).0 in (
      (
        before.0 ++ now.0,
        took_more _ _ _ before.0 now.0 before.1 now.1,
        moved _ c.loop-read_buffer.line.items c.fill.new.self c.move_line.new.self part.0 c.move_line.new.line.items all part.1.0 part.1.1,
        omega (arith, before.3, now.3, length-append before.0 now.0),
      ),
      subst NoEnd (sym part.1.1) (NoEnd-append c.loop-read_buffer.line.items part.0 c.loop-read_buffer.invariant.1 goes),
      c.in-Ok.ensures.cause.quiet refl ∙ c.loop-read_buffer.invariant.2,
      omega (arith, c.fill.ensures.given, c.loop-read_buffer.invariant.3),
      λ few. let filled = c.fill.ensures.few (c.loop-read_buffer.invariant.4 few).0 in (omega (arith, filled, ap length part.1.0, length-append part.0 c.move_line.new.self), omega (arith, c.in-Ok-false.ensures.short, c.loop-read_buffer-test.true, c.len-in-loop-read_buffer.ensures)),
    )
