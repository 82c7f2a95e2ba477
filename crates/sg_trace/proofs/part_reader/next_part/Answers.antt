use Rattle.std.proofs.Common.{◌≡◌, ◌∙◌, [], List, ℕ, ◌++◌, arith, sym, ap, refl, inr, length, length-append}
use Rattle.sg_edge.proofs.Passed.{took_more}
use Rattle.sg_trace.proofs.CaptureReads.{moves_filled, moves_more}
use Rattle.sg_trace.proofs.part_reader.next_part.Goals as goal

pub returns-in-Err-clause-got : goal.returns-in-Err-clause-got
returns-in-Err-clause-got g c =
    let before = c.loop-read_buffer.invariant.0 in
    let now = c.fill.ensures.got in (
      before.0 ++ now.0,
      took_more _ _ _ before.0 now.0 before.1 now.1,
      moves_filled c.args.read_buffer.now before.0 c.loop-read_buffer.read_buffer c.args.part.now.items c.loop-read_buffer.part.items now.0 c.fill.new.self before.2 now.2,
      omega (arith, before.3, now.3, length-append before.0 now.0),
    )

pub returns-in-Err-move_part-clause-got : goal.returns-in-Err-move_part-clause-got
returns-in-Err-move_part-clause-got g c =
    let before = c.loop-read_buffer.invariant.0 in
    let now = c.fill.ensures.got in
    let stays = c.in-Err-move_part.ensures.err in
    let all = moves_filled c.args.read_buffer.now before.0 c.loop-read_buffer.read_buffer c.args.part.now.items c.loop-read_buffer.part.items now.0 c.fill.new.self before.2 now.2 in (
      before.0 ++ now.0,
      took_more _ _ _ before.0 now.0 before.1 now.1,
      (all.0, (all.1.0 ∙ ap (λ (l : List ℕ). all.0 ++ l) (sym stays.0), stays.1 ∙ all.1.1)),
      omega (arith, before.3, now.3, length-append before.0 now.0),
    )

pub returns-then-is_empty-clause-got : goal.returns-then-is_empty-clause-got
returns-then-is_empty-clause-got g c =
    let before = c.loop-read_buffer.invariant.0 in
    let now = c.fill.ensures.got in
    let empty : c.fill.new.self ≡ [] = c.is_empty.ensures.0 c.if-is_empty.true in (
      before.0 ++ now.0,
      took_more _ _ _ before.0 now.0 before.1 now.1,
      (
        moves_filled c.args.read_buffer.now before.0 c.loop-read_buffer.read_buffer c.args.part.now.items c.loop-read_buffer.part.items now.0 c.fill.new.self before.2 now.2,
        c.loop-read_buffer.invariant.1,
        inr (empty, c.in-Ok.ensures.ended empty),
      ),
      omega (arith, before.3, now.3, length-append before.0 now.0),
    )

pub loop-read_buffer-preserved : goal.loop-read_buffer-preserved
loop-read_buffer-preserved g c =
    let before = c.loop-read_buffer.invariant.0 in
    let now = c.fill.ensures.got in
    let part = c.in-Ok-move_part.ensures.moved in
    let all = moves_filled c.args.read_buffer.now before.0 c.loop-read_buffer.read_buffer c.args.part.now.items c.loop-read_buffer.part.items now.0 c.fill.new.self before.2 now.2 in
    let few = part.2.0 in (
      (
        before.0 ++ now.0,
        took_more _ _ _ before.0 now.0 before.1 now.1,
        moves_more c.args.read_buffer.now (before.0 ++ now.0) c.fill.new.self c.args.part.now.items c.loop-read_buffer.part.items part.0 c.move_part.new.self c.move_part.new.part.items all part.1.0 part.1.1,
        omega (arith, before.3, now.3, length-append before.0 now.0),
      ),
      omega (arith, few, ap length part.1.1, length-append c.loop-read_buffer.part.items part.0, c.len-in-loop-read_buffer.ensures, c.loop-read_buffer-test.true),
      c.in-Ok.ensures.cause.quiet refl ∙ c.loop-read_buffer.invariant.2,
      omega (arith, c.fill.ensures.given, c.loop-read_buffer.invariant.3),
      λ near. let filled = c.fill.ensures.few (c.loop-read_buffer.invariant.4 near) in omega (arith, filled, ap length part.1.0, length-append part.0 c.move_part.new.self),
    )
