use Rattle.std.proofs.Common.{◌≡◌, ◌++◌, map, take, drop}
use Rattle.sg_mux.specs.Muxed.{changed_at}
use Rattle.sg_mux.proofs.signals.offer_all.Given as goal

abbrev pub invariant-loop-known : goal.invariant-loop-known
invariant-loop-known l = l.known-items ≡ map (changed_at l.id (λ k. record k { offered = l.marks })) (take l.known-index l.initial.known-items) ++ drop l.known-index l.initial.known-items
