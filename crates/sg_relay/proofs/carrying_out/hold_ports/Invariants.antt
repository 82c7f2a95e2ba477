use Rattle.std.proofs.Common.{◌≡◌, List, map, Ok}
use Rattle.sg_relay.proofs.Common.{Called, IsHeld, LinkCall, hold, ports_from}
use Rattle.sg_relay.proofs.carrying_out.hold_ports.Given as goal

abbrev pub invariant-loop-i : goal.invariant-loop-i
invariant-loop-i g l =
    ((calls : List LinkCall) × Called (g.L.Link.told l.fn.link) (g.L.Link.told l.link) calls × IsHeld (Ok tt) (map (hold l.bound) (ports_from l.first l.i)) calls)
    × (g.L.Link.faults l.link ≡ g.L.Link.faults l.fn.link)
