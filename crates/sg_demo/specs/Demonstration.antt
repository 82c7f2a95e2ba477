-- The demonstration: calls that are keyed manually with drawn keys, and then rounds of drawn traffic.
use Rattle.std.specs.Prelude.{◌≡◌, ℕ, zero, suc, ◌+◌, List, [], ◌∷◌, ◌++◌, map, Option, Some, None}
use Rattle.rand_pcg.specs.Lcg.{Lcg}
use Rattle.sg_agreement.specs.Manual.{ManualCall}
use Rattle.sg_base.specs.Keys.{Master}
use Rattle.sg_gateway.specs.Events.{outcomes_from}
use Rattle.sg_gateway.specs.Runs.{world_after}
use Rattle.sg_gateway.specs.Signals.{Manual}
use Rattle.sg_gateway.specs.Step.{Event, Signalled}
use Rattle.sg_gateway.specs.World.{World, empty}
use Rattle.sg_outcome.specs.declared.outcomes.Outcome.{Outcome}
use Rattle.sg_outcome.specs.declared.outcomes.Outcome.TheVariants.{Made}
use Rattle.sg_table.specs.Standing.{TableStandsFor}
use Rattle.sg_table.specs.Values.{TableValue}
use Rattle.sg_demo.specs.Callers.{Caller, new_caller, plain_address, secure_address}
use Rattle.sg_demo.specs.Counting.{counted, none_counted}
use Rattle.sg_demo.specs.Turns.{Turns, event_of, origin_of, turns_of}
use Rattle.sg_demo.specs.Words.{key_drawn, started_by}
use Rattle.sg_demo.specs.declared.summary.Summary.{Summary}

-- The demonstration so far: its generator, the calls that were made, the gateway's events and the numbers.
pub record Demo : Type 0 where
  pub words : Lcg
  pub callers : List Caller
  pub events : List Event
  pub summary : Summary

-- the gateway's world so far
abbrev pub world_of : Demo → World
world_of d = world_after empty d.events

-- ---- the calls

abbrev pub manual_call : ℕ → Master → Master → ManualCall
manual_call number from_peer to_peer = record {
  id = record { 0 = number };
  secure = secure_address;
  plain = plain_address;
  roc = 0;
  window = 64;
  from_peer = from_peer;
  to_peer = to_peer;
}

abbrev pub called_by : ℕ → Master → Master → Event
called_by number from_peer to_peer = Signalled (Manual (manual_call number from_peer to_peer))

-- the slot of the call that is told of first, where it was made
abbrev pub slot_told : List Outcome → Option ℕ
slot_told [] = None
slot_told (Made call slot media ∷ told) = Some slot
slot_told (other ∷ told) = None

-- the demonstration with a call in this slot; where the call was refused it takes no part
abbrev pub with_caller : Option ℕ → ℕ → Master → Master → Demo → Demo
with_caller None number from_peer to_peer d = d
with_caller (Some slot) number from_peer to_peer d = record d {
  callers = d.callers ++ new_caller number slot from_peer to_peer ∷ [];
  summary = record d.summary { calls = d.summary.calls + 1 };
}

abbrev pub with_keys : ℕ → Master → Master → Lcg → Demo → Demo
with_keys number from_peer to_peer words d =
    let call = called_by number from_peer to_peer in
    let slot = slot_told (outcomes_from (world_of d) (call ∷ [])) in
    with_caller slot number from_peer to_peer (record d { words = words; events = d.events ++ call ∷ [] })

-- The call of this number draws the key of what its peer sends, then that of what its peer is sent, and is told.
unfoldable pub with_call : ℕ → Demo → Demo
with_call number d =
    let from_peer = key_drawn d.words in
    let to_peer = key_drawn from_peer.1 in
    with_keys number from_peer.0 to_peer.0 to_peer.1 d

-- the calls from 1 to this number
unfoldable pub calls_made : ℕ → ℕ → Demo
calls_made zero start = record { words = started_by start; callers = []; events = []; summary = none_counted }
calls_made (suc n) start = with_call (suc n) (calls_made n start)

-- ---- the rounds

-- what the gateway tells of what arrives, counted
abbrev pub after_turns : Turns → Demo → Demo
after_turns t d =
    let arrived = map event_of t.arrivals in
    let k = counted (map origin_of t.arrivals) (outcomes_from (world_of d) arrived) (record { callers = t.callers; summary = record d.summary { sealed = d.summary.sealed + t.sealed } }) in
    record { words = t.words; callers = k.callers; events = d.events ++ arrived; summary = k.summary }

-- each call has its turn; then what arrives is handled in order
unfoldable pub with_round : Demo → Demo
with_round d = after_turns (turns_of d.words d.callers) d

unfoldable pub with_rounds : ℕ → Demo → Demo
with_rounds zero d = d
with_rounds (suc n) d = with_round (with_rounds n d)

-- ---- the whole

unfoldable pub demo_of : ℕ → ℕ → Demo
demo_of calls start = with_rounds 320 (calls_made calls start)

-- the numbers of the demonstration of so many calls
abbrev pub demonstration : ℕ → ℕ → Summary
demonstration calls start = (demo_of calls start).summary

-- the gateway's events in it
abbrev pub events_shown : ℕ → ℕ → List Event
events_shown calls start = (demo_of calls start).events

-- the table has taken the first of these events, up to some of them
pub record HasTakenPrefix (table : TableValue) (events : List Event) : Type 0 where
  pub taken : List Event
  pub rest : List Event
  pub are : taken ++ rest ≡ events
  pub stands : TableStandsFor table (world_after empty taken)
