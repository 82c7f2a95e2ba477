use Rattle.std.proofs.Common.{◌≡◌, List, ℕ, map, take, Ok}
use Rattle.sg_relay.proofs.Common.{AreCarriedOut, Called, LinkCall, Wrote, act_of}
use Rattle.sg_relay.proofs.carrying_out.carry_out_all.Given as goal

abbrev pub invariant-loop-outcome : goal.invariant-loop-outcome
invariant-loop-outcome g l =
    ((calls : List LinkCall) × (out : List ℕ) × Called (g.L.Link.told l.fn.link) (g.L.Link.told l.link) calls × Wrote (g.K.Sink.written l.fn.sink) (g.K.Sink.written l.sink) out
    × AreCarriedOut (Ok tt) (map act_of (take l.outcome-index l.outcomes)) calls out)
    × (g.K.Sink.faults l.sink ≡ g.K.Sink.faults l.fn.sink) × (g.L.Link.faults l.link ≡ g.L.Link.faults l.fn.link)
