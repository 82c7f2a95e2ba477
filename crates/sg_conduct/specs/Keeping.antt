-- What a call keeps by whatever comes, and by a rejection, a tick and a packet alone; and which slot a new one gets.
use Rattle.std.specs.Prelude.{◌≡◌, ◌<◌, ℕ, List, [], Some, None}
use Rattle.std.specs.List.{All, AllByRecursion, Any}
use Rattle.sg_agreement.specs.Keying.{Offer}
use Rattle.sg_base.specs.declared.addresses.Address.{Address}
use Rattle.sg_base.specs.declared.addresses.CallId.{CallId}
use Rattle.sg_outcome.specs.declared.outcomes.Outcome.TheVariants.{Made}
use Rattle.sg_gateway.specs.Octets.{Octets}
use Rattle.sg_gateway.specs.Runs.{Turn, after_turn, turns}
use Rattle.sg_gateway.specs.Signals.{Tick, Reject}
use Rattle.sg_gateway.specs.Step.{Event, Datagram, Signalled}
use Rattle.sg_gateway.specs.World.{Call, call_of}

-- a call that is still there has its number, its slot and its media, whatever came
abbrev pub PlacesStay : Turn → Type 0
PlacesStay t =
    AllByRecursion (λ c. AllByRecursion (λ d. d.id ≡ c.id → (d.serial ≡ c.serial) × (d.slot ≡ c.slot) × (d.media ≡ c.media)) (after_turn t).calls) t.before.calls

-- A call that has had a generation goes on as it was where an offer of its is rejected (RFC 3264, 8): but without that offer, and as
-- last heard at this moment; and nothing is told.
abbrev pub LaterRejectionStays : Turn → Type 0
LaterRejectionStays t =
    (id : CallId) (c : Call) (o : Offer) → t.event ≡ Signalled (Reject id) → call_of t.before id ≡ Some c → c.offer ≡ Some o → ¬ c.generations ≡ 0
    → (t.outcomes ≡ []) × (call_of (after_turn t) id ≡ Some (record c { offer = None; moment = t.before.moment }))

-- a call that is told as made is there behind the turn in that slot, with so many media; and each lower slot was taken before it
abbrev pub MadeIsInLowest : Turn → Type 0
MadeIsInLowest t =
    (id : CallId) (slot media : ℕ) → Any (λ o. o ≡ Made id slot media) t.outcomes
    → Any (λ d. (d.id ≡ id) × (d.slot ≡ slot) × (d.media ≡ media)) (after_turn t).calls × ((n : ℕ) → n < slot → Any (λ c. c.slot ≡ n) t.before.calls)

-- each call after a tick was there before it, the same but for its sessions; which of those go `TicksKeep` says
abbrev pub TickKeepsPlaces : Turn → Type 0
TickKeepsPlaces t =
    (now : ℕ) → t.event ≡ Signalled (Tick now) → AllByRecursion (λ d. Any (λ c. d ≡ record c { sessions = d.sessions }) t.before.calls) (after_turn t).calls

-- each call after a datagram was there before it, the same but for what its sessions have done and when it was last heard
abbrev pub DatagramKeepsPlaces : Turn → Type 0
DatagramKeepsPlaces t =
    (port : ℕ) (from : Address) (octets : Octets) → t.event ≡ Datagram port from octets
    → AllByRecursion (λ d. Any (λ c. d ≡ record c { sessions = d.sessions; moment = d.moment }) t.before.calls) (after_turn t).calls

pub record CallsKeepPlaces (events : List Event) : Type 0 where
  pub stay : All PlacesStay (turns events)
  pub rejected : All LaterRejectionStays (turns events)
  pub made : All MadeIsInLowest (turns events)
  pub ticked : All TickKeepsPlaces (turns events)
  pub arrived : All DatagramKeepsPlaces (turns events)
