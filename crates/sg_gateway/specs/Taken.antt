-- A signal that nothing speaks against is taken: an offer is open, a call that is keyed manually is live.
use Rattle.std.specs.Prelude.{◌≡◌, ℕ, ◌<◌, false, List, [], ◌∷◌, length, Some, None, Ok}
use Rattle.std.specs.List.{All}
use Rattle.sg_agreement.specs.Generations.{Generation, generation_of}
use Rattle.sg_agreement.specs.Manual.{ManualCall, manual_medium}
use Rattle.sg_agreement.specs.Offers.{AgreedOffer, agreed_offer}
use Rattle.sg_agreement.specs.Sides.{side_of, other_side}
use Rattle.sg_agreement.specs.declared.ways.Way.{Way}
use Rattle.sg_base.specs.declared.addresses.CallId.{CallId}
use Rattle.sg_outcome.specs.declared.outcomes.Outcome.TheVariants.{Made, Live, Sdp}
use Rattle.sg_gateway.specs.CallSignals.{at_hand}
use Rattle.sg_gateway.specs.Runs.{Turn, turns, after_turn}
use Rattle.sg_gateway.specs.Signals.{Manual, Offered, new_call}
use Rattle.sg_gateway.specs.Step.{Event, Signalled}
use Rattle.sg_gateway.specs.World.{Call, World, call_of}

-- the text is one on which the call agrees
abbrev pub IsAgreed : World → Call → Way → List ℕ → List ℕ → AgreedOffer → Type 0
IsAgreed w c way noise text a = agreed_offer (at_hand w.moment w.books c noise) way text ≡ Ok a

-- the call of this id has so many generations, this offer is open, and the world's moment is the call's own
pub record HasOpen (w : World) (id : CallId) (generations : ℕ) (a : AgreedOffer) : Type 0 where
  pub call : Call
  pub found : call_of w id ≡ Some call
  pub same : call.generations ≡ generations
  pub offer : call.offer ≡ Some a.offer
  pub heard : call.moment ≡ w.moment

-- An offer of a call that isn't there, on which a new call agrees, is open where fewer than 256 calls are there. It is
-- told with the call's slot and number of media, and its text goes to the other side.
abbrev pub NewOfferIsTaken : Turn → Type 0
NewOfferIsTaken t =
    (id : CallId) (way : Way) (noise text : List ℕ) (a : AgreedOffer) → t.event ≡ Signalled (Offered id way noise text)
    → call_of t.before id ≡ None → length t.before.calls < 256 → IsAgreed t.before (new_call t.before id) way noise text a
    → HasOpen (after_turn t) id 0 a × (t.outcomes ≡ Made id (new_call t.before id).slot a.media ∷ Sdp id (other_side (side_of way)) a.text ∷ [])

-- An offer of a call that is there, isn't keyed manually and has no open offer is open where the call agrees on it.
abbrev pub LaterOfferIsTaken : Turn → Type 0
LaterOfferIsTaken t =
    (id : CallId) (way : Way) (noise text : List ℕ) (c : Call) (a : AgreedOffer) → t.event ≡ Signalled (Offered id way noise text)
    → call_of t.before id ≡ Some c → c.manual ≡ false → c.offer ≡ None → IsAgreed t.before c way noise text a
    → HasOpen (after_turn t) id c.generations a × (t.outcomes ≡ Sdp id (other_side (side_of way)) a.text ∷ [])

abbrev pub OffersAreTaken : List Event → Type 0
OffersAreTaken events = All (λ t. NewOfferIsTaken t × LaterOfferIsTaken t) (turns events)

-- A call that is keyed manually is made and live, where its id is of no call, fewer than 256 calls are there and its keys
-- can come into use.
abbrev pub ManualCallIsTaken : Turn → Type 0
ManualCallIsTaken t =
    (h : ManualCall) (g : Generation) → t.event ≡ Signalled (Manual h) → call_of t.before h.id ≡ None → length t.before.calls < 256
    → generation_of t.before.made 0 t.before.books.ring (Some (manual_medium h) ∷ []) ≡ Ok g
    → (t.outcomes ≡ Made h.id (new_call t.before h.id).slot 1 ∷ Live h.id ∷ [])
    × ((d : Call) × (call_of (after_turn t) h.id ≡ Some d) × (d.generations ≡ 1) × (d.sessions ≡ g.sessions))

abbrev pub ManualCallsAreTaken : List Event → Type 0
ManualCallsAreTaken events = All ManualCallIsTaken (turns events)
