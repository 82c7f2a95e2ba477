-- When a leg is muxed, by what was told: of the call in its slot the offer that was accepted last before the answer that was
-- accepted last decides, and that answer.
use Rattle.std.specs.Prelude.{◌≡◌, ◌↔◌, ℕ, ◌<◌, Bool, true, false, List, [], ◌∷◌, ◌++◌, map, Option}
use Rattle.std.specs.List.{AllByRecursion, flat_map}
use Rattle.sg_agreement.specs.declared.ways.Way.{Way}
use Rattle.sg_base.specs.declared.addresses.CallId.{CallId}
use Rattle.sg_base.specs.declared.addresses.Side.{Side}
use Rattle.sg_gateway.specs.Runs.{Turn, turns}
use Rattle.sg_gateway.specs.Signals.{Tick, Psk, Manual, Offered, Answered, Reject, Bye}
use Rattle.sg_gateway.specs.Step.{Event, Signalled, Datagram}
use Rattle.sg_gateway.specs.World.{World, empty}
use Rattle.sg_outcome.specs.declared.outcomes.Outcome.{Outcome}
use Rattle.sg_outcome.specs.declared.outcomes.Outcome.TheVariants.{Made, Live, Sdp, Refused, Ended, Out, Dropped, Unsent}
use Rattle.sg_mux.specs.Legs.{is_muxed}
use Rattle.sg_mux.specs.Muxed.{nobody}
use Rattle.sg_mux.specs.Shares.{HasMuxLine, HasPort}
use Rattle.sg_mux.specs.Via.{events_via, muxing_after, stepped}
use Rattle.sg_mux.specs.declared.known.Known.{Known}

-- ---- what the table tells in a run, outcome by outcome

-- an event, and an outcome of it
pub record Telling : Type 0 where
  pub event : Event
  pub outcome : Outcome

abbrev pub tellings_of : Turn → List Telling
tellings_of t = map (λ o. record { event = t.event; outcome = o }) t.outcomes

abbrev pub tellings : List Event → List Telling
tellings events = flat_map tellings_of (turns (events_via events))

-- what is known after a run
abbrev pub known_from : World → List (Option Known) → List Event → List (Option Known)
known_from w calls [] = calls
known_from w calls (e ∷ es) = known_from (stepped w calls e).world (muxing_after w calls e).calls es

abbrev pub known_after : List Event → List (Option Known)
known_after events = known_from empty nobody events

-- ---- what an outcome says of a slot, or of a call

-- another call has the slot from here on, or none
abbrev pub ChangesSlot : ℕ → Outcome → Type 0
ChangesSlot slot (Made id at media) = at ≡ slot
ChangesSlot slot (Ended id at media why) = at ≡ slot
ChangesSlot slot other = ⊥

-- a text of the call is told: a signal of it with a text was accepted
abbrev pub TellsText : CallId → Outcome → Type 0
TellsText id (Sdp call side text) = call ≡ id
TellsText id other = ⊥

abbrev pub is_answer : Event → Bool
is_answer (Datagram port from octets) = false
is_answer (Signalled (Answered id noise text)) = true
is_answer (Signalled (Offered id way noise text)) = false
is_answer (Signalled (Tick now)) = false
is_answer (Signalled (Psk pair)) = false
is_answer (Signalled (Manual h)) = false
is_answer (Signalled (Reject id)) = false
is_answer (Signalled (Bye id)) = false

abbrev pub AcceptsAnswer : CallId → Telling → Type 0
AcceptsAnswer id t = TellsText id t.outcome × (is_answer t.event ≡ true)

abbrev pub AcceptsOffer : CallId → Telling → Type 0
AcceptsOffer id t = TellsText id t.outcome × (is_answer t.event ≡ false)

-- ---- the law

-- The call accepted an answer whose text goes to this side and gives the medium a port. It accepted no offer in between, and
-- no answer later.
pub record IsAnswered (told : List Telling) (id : CallId) (medium : ℕ) (side : Side) : Type 0 where
  pub between : List Telling
  pub after : List Telling
  pub answered : Telling
  pub told_are : told ≡ between ++ answered ∷ after
  pub text : List ℕ
  pub accepts : (answered.outcome ≡ Sdp id side text) × (is_answer answered.event ≡ true)
  pub port : HasPort text medium
  pub last_offer : AllByRecursion (λ t. ¬ AcceptsOffer id t) between
  pub last_answer : AllByRecursion (λ t. ¬ AcceptsAnswer id t) after

-- the call accepted an offer that has the line in this medium, and then that answer
pub record IsOffered (told : List Telling) (id : CallId) (medium : ℕ) (side : Side) : Type 0 where
  pub between : List Telling
  pub after : List Telling
  pub offered : Telling
  pub told_are : told ≡ between ++ offered ∷ after
  pub call : CallId
  pub way : Way
  pub noise : List ℕ
  pub text : List ℕ
  pub event_is : offered.event ≡ Signalled (Offered call way noise text)
  pub accepts : TellsText id offered.outcome
  pub line : HasMuxLine text medium
  pub answer : IsAnswered after id medium side

-- A call was made in the slot and is still there, and has that offer and that answer. The answer's text goes to the side that
-- offered.
pub record SharesPort (told : List Telling) (slot medium : ℕ) (side : Side) : Type 0 where
  pub before : List Telling
  pub after : List Telling
  pub made : Telling
  pub told_are : told ≡ before ++ made ∷ after
  pub id : CallId
  pub media : ℕ
  pub made_is : made.outcome ≡ Made id slot media
  pub stays : AllByRecursion (λ t. ¬ ChangesSlot slot t.outcome) after
  pub offer : IsOffered after id medium side

-- a leg of one of the 256 slots is muxed after a run exactly where what was told says so
abbrev pub LegsAreMuxed : List Event → Type 0
LegsAreMuxed events =
    (slot medium : ℕ) (side : Side) → slot < 256 → (is_muxed (known_after events) slot medium side ≡ true) ↔ SharesPort (tellings events) slot medium side

-- so after each event of a run
abbrev pub LegsAreMuxedThroughout : List Event → Type 0
LegsAreMuxedThroughout events = (before after : List Event) → events ≡ before ++ after → LegsAreMuxed before
