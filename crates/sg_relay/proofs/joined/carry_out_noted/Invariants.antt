use Rattle.std.proofs.Common.{◌≡◌, List, ℕ, take, Ok}
use Rattle.sg_relay.proofs.Common.{AreCarriedOut, Called, LinkCall, Wrote, acts_of_all, told_and_parted}
use Rattle.sg_relay.proofs.joined.carry_out_noted.Given as goal

abbrev pub invariant-loop-outcome : goal.invariant-loop-outcome
invariant-loop-outcome g l =
    ((calls : List LinkCall) × (out : List ℕ) × Called (g.L.Link.told l.fn.link) (g.L.Link.told l.link) calls × Wrote (g.K.Sink.written l.fn.sink) (g.K.Sink.written l.sink) out
    × AreCarriedOut (Ok tt) (acts_of_all (told_and_parted l.fn.switchboard.calls (take l.outcome-index l.outcomes)).told) calls out)
    × (l.switchboard ≡ record l.fn.switchboard { calls = (told_and_parted l.fn.switchboard.calls (take l.outcome-index l.outcomes)).calls })
    × (g.K.Sink.faults l.sink ≡ g.K.Sink.faults l.fn.sink) × (g.L.Link.faults l.link ≡ g.L.Link.faults l.fn.link)
