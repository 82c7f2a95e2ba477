use Rattle.std.proofs.Common.{◌∙◌, ◌+◌, sym, ap, drop, Ok, arith}
use Rattle.std.proofs.Math.ListN.{drop_of_length-le}
use Rattle.sg_agreement.proofs.Walks.{split_at}
use Rattle.sg_agreement.specs.LineAnswers.{keyed_by_peer_line}
use Rattle.sg_leg.proofs.Replied.{kept_step, kept_stop, kept_end, split_read}
use Rattle.sg_leg.proofs.answering.answered_by_peer_lines.Goals as goal

pub returns-in-Err : goal.returns-in-Err
returns-in-Err c =
    kept_stop (keyed_by_peer_line c.args.noise.now) c.in-Err.fault c.loop-m.m _ (drop c.loop-m.m c.args.active.now) (drop (c.loop-m.m + 1) c.args.active.now)
    c.index-lines-m.result (drop c.loop-m.m c.args.lines.now) (drop (c.loop-m.m + 1) c.args.lines.now)
    c.index-media-m.result (drop c.loop-m.m c.args.media.now) (drop (c.loop-m.m + 1) c.args.media.now) c.loop-m.keyed.items _
    (split_read c.loop-m.m c.args.active.now (let a = c.loop-m-test.true in let b = c.requires.actives in omega (arith, a, b)))
    (split_at c.loop-m.m c.index-lines-m.result c.args.lines.now (let a = c.loop-m-test.true in let b = c.requires.lines in omega (arith, a, b)) (sym c.index-lines-m.is))
    (split_at c.loop-m.m c.index-media-m.result c.args.media.now c.loop-m-test.true (sym c.index-media-m.is))
    c.in-Err.ensures c.loop-m.invariant

pub loop-m-preserved : goal.loop-m-preserved
loop-m-preserved c =
    kept_step (keyed_by_peer_line c.args.noise.now) c.loop-m.m _ (drop c.loop-m.m c.args.active.now) (drop (c.loop-m.m + 1) c.args.active.now)
    c.index-lines-m.result (drop c.loop-m.m c.args.lines.now) (drop (c.loop-m.m + 1) c.args.lines.now)
    c.index-media-m.result (drop c.loop-m.m c.args.media.now) (drop (c.loop-m.m + 1) c.args.media.now) c.loop-m.keyed.items c.push.new.self.items c.in-Ok.next _
    (split_read c.loop-m.m c.args.active.now (let a = c.loop-m-test.true in let b = c.requires.actives in omega (arith, a, b)))
    (split_at c.loop-m.m c.index-lines-m.result c.args.lines.now (let a = c.loop-m-test.true in let b = c.requires.lines in omega (arith, a, b)) (sym c.index-lines-m.is))
    (split_at c.loop-m.m c.index-media-m.result c.args.media.now c.loop-m-test.true (sym c.index-media-m.is))
    c.in-Ok.ensures c.in_ok-push-in-Ok.ensures.items c.loop-m.invariant

pub returns : goal.returns
returns c =
    kept_end (keyed_by_peer_line c.args.noise.now) c.loop-m.m (drop c.loop-m.m c.args.active.now) _ _ c.loop-m.keyed.items _
    (drop_of_length-le c.args.active.now (let a = c.loop-m-test.false in let b = c.requires.actives in omega (arith, a, b))) c.loop-m.invariant
    ∙ ap Ok (sym c.from_vec.ensures)
