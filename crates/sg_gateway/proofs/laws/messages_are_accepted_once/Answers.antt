use Rattle.std.proofs.Common.{◌≡◌, Some, sym, subst}
use Rattle.sg_gateway.proofs.Common.{Call, Event, IsRefused, Offer, World, call_of, step, turn_of}
use Rattle.sg_gateway.proofs.Authentic.{offer_once}
use Rattle.sg_gateway.proofs.Forgotten.{event_grows}
use Rattle.sg_gateway.proofs.Reached.{at_each_turn}
use Rattle.sg_gateway.specs.Authentic.{AreAcceptedOnce, OfferIsAuthentic, NotesStay}
use Rattle.sg_gateway.proofs.laws.messages_are_accepted_once.Goals as goal

authentic_at : (w : World) (e : Event) → OfferIsAuthentic (turn_of w e)
authentic_at w e id way noise text same =
    subst (λ (e : Event). ¬ IsRefused (turn_of w e)
    → (call : Call) × (o : Offer) × (call_of (step w e).world id ≡ Some call) × (call.offer ≡ Some o) × AreAcceptedOnce w.books w.moment (step w e).world.books.noted o.description o.keying)
    (sym same) (λ free. let is = offer_once w id way noise text free in (is.0, is.1, is.2, is.3, is.4))

pub returns : goal.returns
returns c = at_each_turn (λ t. OfferIsAuthentic t × NotesStay t) (λ past w e kept. (authentic_at w e, (event_grows w kept.ring e).noted))
