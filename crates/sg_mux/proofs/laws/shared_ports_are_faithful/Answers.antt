use Rattle.std.proofs.Common.{Bool, true, false, List}
use Rattle.sg_gateway.specs.Step.{Event}
use Rattle.sg_mux.proofs.Lines.{ReadIsSpelled}
use Rattle.sg_mux.proofs.Vias.{via_run}
use Rattle.sg_mux.specs.Via.{events_in, passages_in}
use Rattle.sg_passages.specs.Passages.{ArePassagesOf, plain_passages}
use Rattle.sg_mux.proofs.laws.shared_ports_are_faithful.Goals as goal

either : ReadIsSpelled → ((events : List Event) → ArePassagesOf events (plain_passages events)) → (muxes : Bool) (events : List Event)
    → ArePassagesOf (events_in muxes events) (passages_in muxes events)
either spelled plainly true events = via_run spelled events
either spelled plainly false events = plainly events

pub returns : goal.returns
returns c = either c.descriptions_have_one_value.ensures.takes c.a_plain_run_is_faithful.ensures
