use Rattle.std.proofs.Common.{refl, sym, length, arith}
use Rattle.std.proofs.lemmas.Grind.{common_steps}
use Rattle.std.proofs.lemmas.Option.{slice_get_read}
use Rattle.sg_agreement.proofs.Walks.{split_at}
use Rattle.sg_leg.proofs.Gives.{agreed_next}
use Rattle.sg_leg.proofs.answering.media_agreed.Goals as goal

pub agreed_if-next-requires-clause-offered : goal.agreed_if-next-requires-clause-offered
agreed_if-next-requires-clause-offered c = λ is.
    (c.requires.addressed c.loop-m.m _ _ _
    (slice_get_read c.args.offered.now (length c.args.offered.now) c.loop-m.m c.index-offered-m.result refl (let a = c.loop-m-test.true in let b = c.requires.keyed in omega (arith, a, b)) c.index-offered-m.is)
    (slice_get_read c.args.answered.now (length c.args.answered.now) c.loop-m.m c.index-answered-m.result refl (let a = c.loop-m-test.true in let b = c.requires.keyed in let d = c.requires.answers in omega (arith, a, b, d)) c.index-answered-m.is)
    (slice_get_read c.args.keyed.now (length c.args.keyed.now) c.loop-m.m c.index-keyed-m.result refl c.loop-m-test.true c.index-keyed-m.is) is).0

pub agreed_if-next-requires-clause-answered : goal.agreed_if-next-requires-clause-answered
agreed_if-next-requires-clause-answered c = λ is.
    (c.requires.addressed c.loop-m.m _ _ _
    (slice_get_read c.args.offered.now (length c.args.offered.now) c.loop-m.m c.index-offered-m.result refl (let a = c.loop-m-test.true in let b = c.requires.keyed in omega (arith, a, b)) c.index-offered-m.is)
    (slice_get_read c.args.answered.now (length c.args.answered.now) c.loop-m.m c.index-answered-m.result refl (let a = c.loop-m-test.true in let b = c.requires.keyed in let d = c.requires.answers in omega (arith, a, b, d)) c.index-answered-m.is)
    (slice_get_read c.args.keyed.now (length c.args.keyed.now) c.loop-m.m c.index-keyed-m.result refl c.loop-m-test.true c.index-keyed-m.is) is).1

pub loop-m-preserved : goal.loop-m-preserved
loop-m-preserved c =
    agreed_next c.args.side c.loop-m.m c.index-offered-m.result c.args.offered.now c.index-answered-m.result c.args.answered.now c.index-keyed-m.result c.args.keyed.now c.loop-m.media.items c.push.new.self.items c.agreed_if-next.result
    (split_at c.loop-m.m c.index-offered-m.result c.args.offered.now (let a = c.loop-m-test.true in let b = c.requires.keyed in omega (arith, a, b)) (sym c.index-offered-m.is))
    (split_at c.loop-m.m c.index-answered-m.result c.args.answered.now (let a = c.loop-m-test.true in let b = c.requires.keyed in let d = c.requires.answers in omega (arith, a, b, d)) (sym c.index-answered-m.is))
    (split_at c.loop-m.m c.index-keyed-m.result c.args.keyed.now c.loop-m-test.true (sym c.index-keyed-m.is))
    c.agreed_if-next.ensures c.in_ok-push.ensures.items c.loop-m.invariant

pub returns : goal.returns
returns c = grind (arith, common_steps)
