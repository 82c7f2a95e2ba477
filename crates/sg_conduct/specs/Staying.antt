-- A session stays open, but for what it has done: of all that comes, only a tick, an answer and a bye may take one away. What an
-- answer and a bye leave of other calls `OthersStay` says, and what a tick leaves `TicksKeep`.
use Rattle.std.specs.Prelude.{◌≡◌, ◌⊎◌, ◌↔◌, ◌<◌, ◌≤◌, ℕ, true, List, [], ◌∷◌, ◌++◌, length, Some, None}
use Rattle.std.specs.List.{All, AllByRecursion, Any}
use Rattle.sg_agreement.specs.Keying.{Offer}
use Rattle.sg_base.specs.declared.addresses.CallId.{CallId}
use Rattle.sg_base.specs.declared.faults.Refusal.TheVariants.{PskFull, PskKnown}
use Rattle.sg_outcome.specs.declared.outcomes.Outcome.TheVariants.{Refused, Ended}
use Rattle.sg_outcome.specs.declared.outcomes.Why.TheVariants as why
use Rattle.sg_psk.specs.declared.pairs.Pair.{Pair}
use Rattle.sg_session.specs.Session.{Session}
use Rattle.sg_gateway.specs.Lasting.{IsManualIn}
use Rattle.sg_gateway.specs.Runs.{Turn, after_turn, turns}
use Rattle.sg_gateway.specs.Signals.{Signal, Tick, Psk, Manual, Answered, Reject, Bye}
use Rattle.sg_gateway.specs.Step.{Event, Signalled}
use Rattle.sg_gateway.specs.World.{Call, World, call_of}

abbrev pub TakesSessions : Signal → Type 0
TakesSessions (Tick now) = Unit {0}
TakesSessions (Answered id noise text) = Unit {0}
TakesSessions (Bye id) = Unit {0}
TakesSessions other = ⊥

-- a call has it in this slot
abbrev pub IsStillOpen : Call → Session → World → Type 0
IsStillOpen c s w = Any (λ d. (d.slot ≡ c.slot) × Any (λ x. s ≡ record x { done = s.done }) d.sessions) w.calls

abbrev pub SessionsStay : Turn → Type 0
SessionsStay t =
    ((signal : Signal) → t.event ≡ Signalled signal → ¬ TakesSessions signal)
    → AllByRecursion (λ c. AllByRecursion (λ s. IsStillOpen c s (after_turn t)) c.sessions) t.before.calls

abbrev pub SessionsStayOpen : List Event → Type 0
SessionsStayOpen events = All SessionsStay (turns events)

-- ---- offers

abbrev pub MayChangeOffers : Signal → Type 0
MayChangeOffers (Psk pair) = ⊥
MayChangeOffers (Manual call) = ⊥
MayChangeOffers other = Unit {0}

-- A packet, a pre-shared key and a manual line leave each call its open offer. What a tick leaves `TicksKeep` says, what another
-- signal leaves of calls that it doesn't name `OthersStay`.
abbrev pub OpenOffersStay : Turn → Type 0
OpenOffersStay t =
    ((signal : Signal) → t.event ≡ Signalled signal → ¬ MayChangeOffers signal)
    → AllByRecursion (λ c. Any (λ d. (d.id ≡ c.id) × (d.offer ≡ c.offer)) (after_turn t).calls) t.before.calls

-- ---- what one kind of signal alone changes

-- only a tick that isn't before the last moment moves it
abbrev pub MomentStays : Turn → Type 0
MomentStays t = ((now : ℕ) → t.event ≡ Signalled (Tick now) → now < t.before.moment) → (after_turn t).moment ≡ t.before.moment

-- only a `psk` line changes the pre-shared keys
abbrev pub PairsStay : Turn → Type 0
PairsStay t = ((p : Pair) → ¬ t.event ≡ Signalled (Psk p)) → (after_turn t).books.pairs ≡ t.before.books.pairs

-- a key of its two names is among them
abbrev pub HasNames : List Pair → Pair → Type 0
HasNames pairs p = Any (λ q. (q.own ≡ p.own) × (q.peer ≡ p.peer)) pairs

-- It is refused where a key of its two names is held, or else 64 are; else it is held, behind all others, and nothing is told.
abbrev pub PskIsHeld : Turn → Type 0
PskIsHeld t =
    (p : Pair) → t.event ≡ Signalled (Psk p)
    → (HasNames t.before.books.pairs p × (t.outcomes ≡ Refused None PskKnown ∷ []))
    ⊎ ((¬ HasNames t.before.books.pairs p)
    × (((64 ≤ length t.before.books.pairs) × (t.outcomes ≡ Refused None PskFull ∷ []))
    ⊎ ((length t.before.books.pairs < 64) × (t.outcomes ≡ []) × ((after_turn t).books.pairs ≡ t.before.books.pairs ++ p ∷ []))))

-- before the turn the call was keyed manually
abbrev pub WasManual : Turn → Call → Type 0
WasManual t d = Any (λ c. (c.serial ≡ d.serial) × (c.manual ≡ true)) t.before.calls

-- the calls that are keyed manually are those that were so before the turn, and the one that is made in it by its line
abbrev pub MarksStay : Turn → Type 0
MarksStay t = AllByRecursion (λ d. (d.manual ≡ true) ↔ (WasManual t d ⊎ IsManualIn t d.id)) (after_turn t).calls

-- a call whose first offer is rejected ends, and is told so
abbrev pub RejectedFirstEnds : Turn → Type 0
RejectedFirstEnds t =
    (id : CallId) (c : Call) (o : Offer) → t.event ≡ Signalled (Reject id) → call_of t.before id ≡ Some c → c.offer ≡ Some o → c.generations ≡ 0
    → (t.outcomes ≡ Ended id c.slot c.media why.Rejected ∷ []) × (call_of (after_turn t) id ≡ None)

-- a call has a generation, or an open offer
abbrev pub HasBegun : Call → Type 0
HasBegun c = c.generations ≡ 0 → (o : Offer) × (c.offer ≡ Some o)
