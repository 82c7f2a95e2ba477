-- The events of lines, and what they tell.
use Rattle.std.specs.Prelude.{ℕ, Bool, false, is_none, if◌then◌else◌, List, [], ◌∷◌, Option, Some, None}
use Rattle.std.specs.List.{flat_map}
use Rattle.sg_agreement.specs.declared.ways.Way.TheVariants.{FromSecure, SdesFromPlain, MikeyFromPlain}
use Rattle.sg_base.specs.declared.identities.Noise304.{Noise304}
use Rattle.sg_lines.specs.declared.lines.Line.{Line}
use Rattle.sg_lines.specs.declared.lines.Line.TheVariants as lines
use Rattle.sg_lines.specs.declared.lines.Signal as scripts
use Rattle.sg_lines.specs.declared.lines.Signal.TheVariants.{Tick, Psk, Manual, OfferSecure, OfferSdes, OfferMikey, Answer, Reject, Bye}
use Rattle.sg_outcome.specs.declared.outcomes.Outcome.{Outcome}
use Rattle.sg_psk.specs.Pairs.{pair_of}
use Rattle.sg_gateway.specs.Octets.{as_octets}
use Rattle.sg_gateway.specs.Runs.{turns_from}
use Rattle.sg_gateway.specs.Signals as signals
use Rattle.sg_gateway.specs.Step.{Event, Signalled, Datagram}
use Rattle.sg_gateway.specs.World.{World}

-- ---- signals

abbrev pub noise_octets : Option Noise304 → List ℕ
noise_octets None = []
noise_octets (Some noise) = noise.0

-- what a line's signal says
abbrev pub signal_of : scripts.Signal → signals.Signal
signal_of (Tick now) = signals.Tick now
signal_of (Psk own peer key) = signals.Psk (pair_of own peer key)
signal_of (Manual call secure plain roc window from_peer to_peer) =
    signals.Manual (record { id = call; secure = secure; plain = plain; roc = roc; window = window; from_peer = from_peer; to_peer = to_peer })
signal_of (OfferSecure call noise text) = signals.Offered call FromSecure (noise_octets noise) text
signal_of (OfferSdes call noise text) = signals.Offered call SdesFromPlain (noise_octets noise) text
signal_of (OfferMikey call peer noise text) = signals.Offered call (MikeyFromPlain peer) (noise_octets noise) text
signal_of (Answer call noise text) = signals.Answered call (noise_octets noise) text
signal_of (Reject call) = signals.Reject call
signal_of (Bye call) = signals.Bye call

-- its noise is to be drawn
abbrev pub signal_lacks_noise : scripts.Signal → Bool
signal_lacks_noise (Tick now) = false
signal_lacks_noise (Psk own peer key) = false
signal_lacks_noise (Manual call secure plain roc window from_peer to_peer) = false
signal_lacks_noise (OfferSecure call noise text) = is_none noise
signal_lacks_noise (OfferSdes call noise text) = is_none noise
signal_lacks_noise (OfferMikey call peer noise text) = is_none noise
signal_lacks_noise (Answer call noise text) = is_none noise
signal_lacks_noise (Reject call) = false
signal_lacks_noise (Bye call) = false

-- a signal is an event once its noise is there
abbrev pub events_of_signal : scripts.Signal → List Event
events_of_signal signal = if signal_lacks_noise signal then [] else Signalled (signal_of signal) ∷ []

-- ---- lines

-- the events of a line: none of a header; of a datagram with its moment a tick, and then the datagram
abbrev pub events_of : Line → List Event
events_of lines.Header = []
events_of lines.HeaderTwo = []
events_of (lines.Datagram port from octets) = Datagram port from (as_octets octets) ∷ []
events_of (lines.DatagramAt now port from octets) = Signalled (signals.Tick now) ∷ Datagram port from (as_octets octets) ∷ []
events_of (lines.Signal signal) = events_of_signal signal

-- what the events tell, from a world on
abbrev pub outcomes_from : World → List Event → List Outcome
outcomes_from w events = flat_map (λ t. t.outcomes) (turns_from w events)
