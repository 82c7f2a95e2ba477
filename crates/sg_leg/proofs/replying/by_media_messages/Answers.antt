use Rattle.std.proofs.Common.{◌∙◌, ◌+◌, sym, ap, drop, map, Ok, arith}
use Rattle.std.proofs.Math.ListN.{drop_of_length-le}
use Rattle.sg_agreement.proofs.Walks.{split_at}
use Rattle.sg_agreement.specs.MessageAnswers.{keyed_by_message, own_streams}
use Rattle.sg_leg.specs.Replying.{HaveFewKeys}
use Rattle.sg_leg.proofs.Replied.{kept_step, kept_end, split_read, each_own, all_at}
use Rattle.sg_leg.proofs.replying.by_media_messages.Goals as goal

pub by_message_if-requires-clause-known : goal.by_message_if-requires-clause-known
by_message_if-requires-clause-known c =
    let p = each_own c.args.psks.now c.loop-m.m c.args.bundles.now c.requires.known.0 c.index-bundles-m.result (drop (c.loop-m.m + 1) c.args.bundles.now) c.requires.known.1
    (split_at c.loop-m.m c.index-bundles-m.result c.args.bundles.now (let a = c.loop-m-test.true in let b = c.requires.bundles in omega (arith, a, b)) (sym c.index-bundles-m.is)) in
    (p.0, p.2)

pub by_message_if-requires-clause-keys : goal.by_message_if-requires-clause-keys
by_message_if-requires-clause-keys c =
    all_at HaveFewKeys c.loop-m.m c.args.bundles.now c.index-bundles-m.result (drop (c.loop-m.m + 1) c.args.bundles.now) c.requires.keys
    (split_at c.loop-m.m c.index-bundles-m.result c.args.bundles.now (let a = c.loop-m-test.true in let b = c.requires.bundles in omega (arith, a, b)) (sym c.index-bundles-m.is))

pub loop-m-preserved : goal.loop-m-preserved
loop-m-preserved c = λ cs are.
    let p = each_own c.args.psks.now c.loop-m.m c.args.bundles.now cs c.index-bundles-m.result (drop (c.loop-m.m + 1) c.args.bundles.now) are
    (split_at c.loop-m.m c.index-bundles-m.result c.args.bundles.now (let a = c.loop-m-test.true in let b = c.requires.bundles in omega (arith, a, b)) (sym c.index-bundles-m.is)) in
    kept_step (λ k x n. Ok (keyed_by_message x n)) c.loop-m.m _ (drop c.loop-m.m c.args.active.now) (drop (c.loop-m.m + 1) c.args.active.now) (own_streams p.0)
    (drop c.loop-m.m (map own_streams cs)) (drop (c.loop-m.m + 1) (map own_streams cs))
    c.index-answer-m.result (drop c.loop-m.m c.args.answer.now) (drop (c.loop-m.m + 1) c.args.answer.now) c.loop-m.keyed.items c.push.new.self.items c.in_ok-next.next _
    (split_read c.loop-m.m c.args.active.now (let a = c.loop-m-test.true in let b = c.requires.actives in omega (arith, a, b)))
    p.1
    (split_at c.loop-m.m c.index-answer-m.result c.args.answer.now c.loop-m-test.true (sym c.index-answer-m.is))
    (c.in_ok-next.ensures p.0 p.2) c.in_ok-push.ensures.items (c.loop-m.invariant cs are)

pub returns : goal.returns
returns c = λ cs are.
    kept_end (λ k x n. Ok (keyed_by_message x n)) c.loop-m.m (drop c.loop-m.m c.args.active.now) _ _ c.loop-m.keyed.items _
    (drop_of_length-le c.args.active.now (let a = c.loop-m-test.false in let b = c.requires.actives in omega (arith, a, b))) (c.loop-m.invariant cs are)
    ∙ ap Ok (sym c.from_vec.ensures)
