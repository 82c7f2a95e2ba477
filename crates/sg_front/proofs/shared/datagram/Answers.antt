use Rattle.std.proofs.Common.{ℕ, List, ap, sym, subst, ◌∙◌}
use Rattle.sg_call.specs.declared.handled.End.{End}
use Rattle.sg_front.proofs.Sharing.{shared_datagram}
use Rattle.sg_front.specs.Parts.{shared, sharing}
use Rattle.sg_front.specs.States.{IsHandled}
use Rattle.sg_gateway.specs.Octets.{as_octets}
use Rattle.sg_mux.specs.Legs.{arrived_port}
use Rattle.sg_front.proofs.shared.datagram.Goals as goal

pub returns : goal.returns
returns c = λ w stands.
    subst (λ (end : End). IsHandled (shared w c.args.mux.now) c.args.port c.args.from c.args.pad (record { pad = c.datagram-handled.result.pad; end = end }) (sharing c.datagram-handled.new.self c.args.mux.now))
    (sym c.departed.ensures)
    (shared_datagram c.args.mux.now w c.args.port c.arrived_port-at.result c.args.from c.args.pad c.datagram-handled.result c.datagram-handled.new.self
    (c.arrived_port-at.ensures ∙ ap (λ (d : List ℕ). arrived_port c.args.mux.now c.args.port (as_octets d).items) c.octets.ensures.same) (c.datagram-handled.ensures w stands))
