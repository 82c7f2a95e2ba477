use Rattle.std.proofs.Common.{sym, arith}
use Rattle.sg_edge.proofs.Room.{room_for}
use Rattle.sg_edge.proofs.ports.Ports.join.Goals as goal

pub push_back_reserved-requires : goal.push_back_reserved-requires
push_back_reserved-requires c =
    let old = c.args.self.now in
    let fewer = room_for old.bound old.waiting.items c.args.port c.in-Some.bound.now old.marked (sym c.in-Some.ensures.value) c.if-not-bound.true in
    omega (arith, fewer, old.room)
