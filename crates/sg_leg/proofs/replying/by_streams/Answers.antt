use Rattle.std.proofs.Common.{◌∙◌, ◌+◌, sym, ap, drop, Ok, arith}
use Rattle.std.proofs.Math.ListN.{drop_of_length-le}
use Rattle.sg_agreement.proofs.Walks.{split_at}
use Rattle.sg_agreement.specs.MessageAnswers.{over_active}
use Rattle.sg_leg.specs.Replying.{keyed_as}
use Rattle.sg_leg.proofs.Replied.{kept_step, kept_end, split_read}
use Rattle.sg_leg.proofs.replying.by_streams.Goals as goal

pub loop-m-preserved : goal.loop-m-preserved
loop-m-preserved c = (
  c.share_of-share.ensures.others,
  kept_step (λ k x n. Ok (keyed_as c.args.role x n)) c.loop-m.m _ (drop c.loop-m.m c.args.active.now) (drop (c.loop-m.m + 1) c.args.active.now) _
      (over_active c.args.side (drop c.loop-m.m c.args.offered.now) c.loop-m.left.now) (over_active c.args.side (drop (c.loop-m.m + 1) c.args.offered.now) c.share_of-share.result.others.now)
      c.index-answer-m.result (drop c.loop-m.m c.args.answer.now) (drop (c.loop-m.m + 1) c.args.answer.now) c.loop-m.keyed.items c.push.new.self.items c.by_streams_if-next.result _
      (split_read c.loop-m.m c.args.active.now (let a = c.loop-m-test.true in let b = c.requires.answers in let d = c.requires.actives in omega (arith, a, b, d)))
      (ap (λ l. over_active c.args.side l c.loop-m.left.now) (split_at c.loop-m.m c.index-offered-m.result c.args.offered.now (let a = c.loop-m-test.true in let b = c.requires.answers in omega (arith, a, b)) (sym c.index-offered-m.is))
      ∙ c.share_of-share.ensures.share (over_active c.args.side (drop (c.loop-m.m + 1) c.args.offered.now)))
      (split_at c.loop-m.m c.index-answer-m.result c.args.answer.now c.loop-m-test.true (sym c.index-answer-m.is))
      c.by_streams_if-next.ensures c.in_ok-push.ensures.items c.loop-m.invariant.1,
)

pub returns : goal.returns
returns c =
    kept_end (λ k x n. Ok (keyed_as c.args.role x n)) c.loop-m.m (drop c.loop-m.m c.args.active.now) _ _ c.loop-m.keyed.items _
    (drop_of_length-le c.args.active.now (let a = c.loop-m-test.false in let b = c.requires.answers in let d = c.requires.actives in omega (arith, a, b, d))) c.loop-m.invariant.1
    ∙ ap Ok (sym c.from_vec.ensures)
