use Rattle.std.proofs.Common.{◌≡◌, ◌+◌, ◌-◌, length, ◌∙◌, ap, arith}
use Rattle.std.proofs.lemmas.Result.{err_from_is_err_and}
use Rattle.sg_mikey.specs.Reading.{items_at}
use Rattle.sg_mikey.proofs.Loops.{items_go_on, items_end, items_filled, items_done}
use Rattle.sg_mikey.proofs.payloads.read_items.Goals as goal

pub returns-then-room-eq0 : goal.returns-then-room-eq0
returns-then-room-eq0 c =
    rw c.from_vec.ensures (items_filled c.loop.items.items c.args.size c.loop.counter c.loop.room c.loop.rest.now (items_at c.args.size c.args.size c.args.octets.now) c.loop-test.true c.if-room-eq0.true c.loop.invariant)

pub returns-in_err-item : goal.returns-in_err-item
returns-in_err-item c =
    let p = err_from_is_err_and c.from_residual.result c.from_residual.ensures.1 in
    rw (p.1, p.2) (items_end c.in_err-item.field-0.0 c.loop.items.items c.args.size c.loop.counter c.loop.room c.loop.rest.now (items_at c.args.size c.args.size c.args.octets.now) c.loop-test.true (omega arith) c.in_err-item.ensures c.loop.invariant)

pub loop-preserved : goal.loop-preserved
loop-preserved c =
    let room : c.saturating_sub-room.result ≡ c.loop.room - (2 + length c.in_ok-item.item.1) = c.saturating_sub-room.ensures ∙ ap (λ l. c.loop.room - (2 + length l)) c.as_slice.ensures in
    rw (c.in_ok-push.ensures.items, room)
    (items_go_on c.loop.items.items c.args.size c.loop.counter c.loop.room c.loop.rest.now c.in_ok-item.item c.in_ok-item.behind.now (items_at c.args.size c.args.size c.args.octets.now) c.loop-test.true (omega arith) c.in_ok-item.ensures c.loop.invariant)

pub returns : goal.returns
returns c =
    rw c.from_vec-2.ensures (items_done c.loop.items.items c.args.size c.loop.counter c.loop.room c.loop.rest.now (items_at c.args.size c.args.size c.args.octets.now) c.loop-test.false c.loop.invariant)
