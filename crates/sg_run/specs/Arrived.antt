-- What a relay receives, and what it reads of the clock, as its events have it: each datagram that came, and each moment.
use Rattle.std.specs.Prelude.{◌≡◌, ℕ, ◌+◌, min, nat_lt, Bool, true, false, not, List, [], ◌∷◌, ◌++◌, filter, length, map, take}
use Rattle.std.specs.List.{flat_map}
use Rattle.sg_edge.specs.Links.{Came, Failing, LinkCall, Nothing, Received}
use Rattle.sg_edge.specs.Links as links
use Rattle.sg_gateway.specs.Octets.{as_octets}
use Rattle.sg_gateway.specs.Signals.{Tick}
use Rattle.sg_gateway.specs.Step.{Datagram, Event, Signalled}
use Rattle.sg_pairs.specs.Bridged.{Happens, Said}
use Rattle.sg_relay.specs.Asked.{receipts_in}
use Rattle.sg_trace.specs.Output.{IsPrefixOf}
use Rattle.sg_trace.specs.declared.status.Status.{Status}
use Rattle.sg_trace.specs.declared.status.Status.TheVariants.{Done, Link, NoMemory, Read, Script, Write}

-- ---- datagrams

-- the datagram that a receive gave: at its port, from its sender, with its octets
abbrev pub came : Received → List Event
came (Came port from octets) = Datagram port from (as_octets octets) ∷ []
came Nothing = []
came Failing = []

-- as a bridge has it
abbrev pub came_to_bridge : Received → List Said
came_to_bridge x = map Happens (came x)

-- Whenever a relay received, what came is next behind all that it had by then, once, and nothing is there where nothing came. All
-- that it has behind that it would have whatever else had come there, or nothing.
abbrev pub TakesAsReceived : {D : Type 0} → List LinkCall → (Received → List D) → (List Received → List D) → Type 0
TakesAsReceived {D} calls comes had_by =
    (before after : List LinkCall) (x : Received) → calls ≡ before ++ links.Receive x ∷ after
    → (rest : List D) × ((y : Received) → had_by (receipts_in before ++ y ∷ receipts_in after) ≡ had_by (receipts_in before) ++ (comes y ++ rest))

-- ---- moments

-- the moment of a tick
abbrev pub tick_in : Event → List ℕ
tick_in (Signalled (Tick moment)) = moment ∷ []
tick_in other = []

abbrev pub tick_said : Said → List ℕ
tick_said (Happens e) = tick_in e
tick_said other = []

-- those of events, and those of what a bridge's lines say
abbrev pub ticks_in : List Event → List ℕ
ticks_in events = flat_map tick_in events

abbrev pub ticks_said : List Said → List ℕ
ticks_said said = flat_map tick_said said

-- the numbers that are greater than all before them
abbrev pub rising : List ℕ → List ℕ
rising [] = []
rising (m ∷ ms) = m ∷ filter (nat_lt m) (rising ms)

-- the moments that readings of the clock are, of which each counts as 2,085,978,495,999 at most
abbrev pub moments_of : List ℕ → List ℕ
moments_of readings = rising (map (λ r. min r 2085978495999) readings)

-- At its end a relay's ticks are the moments of all its readings, or of the first of them where the outside failed or memory ran out.
abbrev pub HasTicked : Status → List ℕ → List ℕ → Type 0
HasTicked Read readings ticks = (taken : List ℕ) × IsPrefixOf taken readings × (ticks ≡ moments_of taken)
HasTicked Write readings ticks = (taken : List ℕ) × IsPrefixOf taken readings × (ticks ≡ moments_of taken)
HasTicked NoMemory readings ticks = (taken : List ℕ) × IsPrefixOf taken readings × (ticks ≡ moments_of taken)
HasTicked Link readings ticks = (taken : List ℕ) × IsPrefixOf taken readings × (ticks ≡ moments_of taken)
HasTicked other readings ticks = ticks ≡ moments_of readings

-- Whenever a relay received, its ticks were the moments of its readings up to there: one at its beginning, one before each earlier
-- receive, and one before this. So it is at its end.
pub record TicksAsRead (status : Status) (calls : List LinkCall) (readings : List ℕ) (ticks_by : List Received → List ℕ) : Type 0 where
  pub at_receives : (before after : List LinkCall) (x : Received) → calls ≡ before ++ links.Receive x ∷ after
      → ticks_by (receipts_in before) ≡ moments_of (take (length (receipts_in before) + 2) readings)
  pub at_end : HasTicked status readings (ticks_by (receipts_in calls))

-- ---- lines

abbrev pub is_tick : Event → Bool
is_tick (Signalled (Tick moment)) = true
is_tick other = false

abbrev pub says_tick : Said → Bool
says_tick (Happens e) = is_tick e
says_tick other = false

-- events but the ticks, and what a bridge's lines say but the ticks
abbrev pub without_ticks : List Event → List Event
without_ticks events = filter (λ e. not (is_tick e)) events

abbrev pub said_without_ticks : List Said → List Said
said_without_ticks said = filter (λ s. not (says_tick s)) said

-- as many receives, of which none gave anything
abbrev pub nothings : List Received → List Received
nothings receipts = map (λ x. Nothing) receipts

-- At its end a relay has handled all of these, or, where it came neither to the end of its script nor to a fault, the first of them.
abbrev pub HasPlayed : {D : Type 0} → Status → List D → List D → Type 0
HasPlayed Done had all = had ≡ all
HasPlayed (Script n fault) had all = had ≡ all
HasPlayed other had all = IsPrefixOf had all
