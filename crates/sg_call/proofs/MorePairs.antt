-- A call stands for a call under more pre-shared pairs too.
use Rattle.std.proofs.Common.{List, ◌++◌}
use Rattle.sg_gateway.specs.World.{Call}
use Rattle.sg_leg.proofs.Grown.{stays_open}
use Rattle.sg_psk.specs.declared.pairs.Pair.{Pair}
use Rattle.sg_call.specs.Standing.{CallStandsFor}
use Rattle.sg_call.specs.States.{HasPairs, StateStandsFor}
use Rattle.sg_call.specs.Values.{CallValue}
use Rattle.sg_call.specs.declared.state.State.{State}
use Rattle.sg_call.specs.declared.state.State.TheVariants.{Idle, Offered, Live}

-- where an offer is open, the book has the pairs that it used
state_pairs : (pairs : List Pair) (st : State) (c : Call) → StateStandsFor pairs st c → HasPairs pairs st
state_pairs pairs (Idle slot) c h = tt
state_pairs pairs (Offered o) c h = (h.offer, h.is_open)
state_pairs pairs (Live l) c h = tt

pub has_pairs : (pairs : List Pair) (call : CallValue) (c : Call) → CallStandsFor pairs call c → HasPairs pairs call.state
has_pairs pairs call c h = state_pairs pairs call.state c h.state_stands

module _ (more pairs : List Pair) where
  state : (st : State) (c : Call) → StateStandsFor pairs st c → StateStandsFor (pairs ++ more) st c
  state (Idle slot) c h = h
  state (Offered o) c h = record {
    slot_is = h.slot_is;
    not_manual = h.not_manual;
    media_are = h.media_are;
    former_is = h.former_is;
    offer = h.offer;
    is_offer = h.is_offer;
    is_open = stays_open pairs more o h.offer h.is_open;
  }
  state (Live l) c h = h

  pub call_still : (call : CallValue) (c : Call) → CallStandsFor pairs call c → CallStandsFor (pairs ++ more) call c
  call_still call c h = record {
    id_is = h.id_is;
    slot_is = h.slot_is;
    media_are = h.media_are;
    few = h.few;
    new_is = h.new_is;
    sessions = h.sessions;
    state_stands = state call.state c h.state_stands;
    replaced_is = h.replaced_is;
    moment_is = h.moment_is;
  }
