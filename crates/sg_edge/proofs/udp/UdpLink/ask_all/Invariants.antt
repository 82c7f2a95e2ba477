use Rattle.std.proofs.Common.{◌≡◌, drop}
use Rattle.sg_edge.specs.Ports.{AreSame}
use Rattle.sg_edge.proofs.udp.UdpLink.ask_all.Given as goal

abbrev pub invariant-loop : goal.invariant-loop
invariant-loop g l =
    (l.self.faults ≡ l.fn.self.faults) × AreSame l.fn.self.ports.bound l.self.ports.bound
    × (l.self.ports.row ≡ l.fn.self.ports.row)
    × (l.self.ports.waiting.items ≡ drop l.counter l.fn.self.ports.waiting.items)
    × (l.self.counts ≡ l.fn.self.counts)
