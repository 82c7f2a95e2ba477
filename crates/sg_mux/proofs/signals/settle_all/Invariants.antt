use Rattle.std.proofs.Common.{◌≡◌, ◌++◌, map, take, drop}
use Rattle.sg_mux.specs.Muxed.{changed_at}
use Rattle.sg_mux.specs.Texts.{both}
use Rattle.sg_mux.proofs.signals.settle_all.Given as goal

abbrev pub invariant-loop-known : goal.invariant-loop-known
invariant-loop-known l = l.known-items ≡ map (changed_at l.id (λ k. record k { side = l.side; muxed = both l.ports k.offered })) (take l.known-index l.initial.known-items) ++ drop l.known-index l.initial.known-items
