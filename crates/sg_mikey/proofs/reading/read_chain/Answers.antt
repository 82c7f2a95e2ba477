use Rattle.std.proofs.Common.{◌+◌, ◌∙◌, sym, length}
use Rattle.std.proofs.lemmas.Result.{err_from_is_err_and}
use Rattle.sg_mikey.specs.declared.chain.Stage.TheVariants.{BeforeTime}
use Rattle.sg_mikey.specs.Reading.{chain_at}
use Rattle.sg_mikey.proofs.Loops.{chain_goes_on, chain_ends, chain_misplaced, chain_over, chain_never_done}
use Rattle.sg_mikey.proofs.reading.read_chain.Goals as goal

pub returns-then-ends_at : goal.returns-then-ends_at
returns-then-ends_at c =
    rw c.from_vec.ensures
    (chain_over c.loop.payloads.items (length c.args.octets.now + 1) c.loop.counter c.args.kind c.loop.stage c.loop.next c.loop.rest.now (chain_at (length c.args.octets.now + 1) c.args.kind BeforeTime c.args.first c.args.octets.now)
    c.loop-test.true (sym c.ends_at.ensures ∙ c.if-ends_at.true) c.loop.invariant)

pub returns-in_default : goal.returns-in_default
returns-in_default c =
    rw c.halt.ensures
    (chain_misplaced c.loop.payloads.items (length c.args.octets.now + 1) c.loop.counter c.args.kind c.loop.stage c.loop.next c.loop.rest.now (chain_at (length c.args.octets.now + 1) c.args.kind BeforeTime c.args.first c.args.octets.now)
    c.loop-test.true (sym c.ends_at.ensures ∙ c.if-ends_at.false) (sym c.behind.ensures ∙ c.in_default.is) c.loop.invariant)

pub returns-in_err-payload : goal.returns-in_err-payload
returns-in_err-payload c =
    let p = err_from_is_err_and c.from_residual.result c.from_residual.ensures.1 in
    rw (p.1, p.2)
    (chain_ends c.in_err-payload.field-0.0 c.loop.payloads.items (length c.args.octets.now + 1) c.loop.counter c.args.kind c.loop.stage c.in-Some.behind c.loop.next c.loop.rest.now (chain_at (length c.args.octets.now + 1) c.args.kind BeforeTime c.args.first c.args.octets.now)
    c.loop-test.true (sym c.ends_at.ensures ∙ c.if-ends_at.false) (sym c.behind.ensures ∙ c.in-Some.is) c.in_err-payload.ensures c.loop.invariant)

pub loop-preserved : goal.loop-preserved
loop-preserved c =
    rw c.in_ok-push.ensures.items
    (chain_goes_on c.loop.payloads.items (length c.args.octets.now + 1) c.loop.counter c.args.kind c.loop.stage c.in-Some.behind c.loop.next c.in_ok-payload.number c.loop.rest.now c.in_ok-payload.after.now c.in_ok-payload.payload (chain_at (length c.args.octets.now + 1) c.args.kind BeforeTime c.args.first c.args.octets.now)
    c.loop-test.true (sym c.ends_at.ensures ∙ c.if-ends_at.false) (sym c.behind.ensures ∙ c.in-Some.is) c.in_ok-payload.ensures c.loop.invariant)

pub returns : goal.returns
returns c =
    rw c.cut.ensures
    (chain_never_done c.loop.payloads.items (length c.args.octets.now + 1) c.loop.counter c.args.kind c.loop.stage c.loop.next c.loop.rest.now (chain_at (length c.args.octets.now + 1) c.args.kind BeforeTime c.args.first c.args.octets.now) c.loop-test.false c.loop.invariant)
