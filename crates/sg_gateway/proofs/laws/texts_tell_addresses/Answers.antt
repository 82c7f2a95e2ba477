use Rattle.std.proofs.Common.{◌≡◌, ◌+◌, Some, Ok, sym, subst}
use Rattle.sg_gateway.proofs.Common.{Call, Event, IsRefused, Offer, World, call_of, description_of, each_weaker, side_of, step, turn_of}
use Rattle.sg_gateway.proofs.Addressed.{AreAddressed, answer_addresses}
use Rattle.sg_gateway.proofs.Authentic.{offer_once}
use Rattle.sg_gateway.proofs.Kept.{IsOffered}
use Rattle.sg_gateway.proofs.Reached.{at_each_turn}
use Rattle.sg_gateway.proofs.SaidByTexts.{readings_said}
use Rattle.sg_gateway.specs.Addressed.{OfferIsItsText, AnswerHasAddresses}
use Rattle.sg_gateway.proofs.laws.texts_tell_addresses.Goals as goal

text_at : (w : World) (e : Event) → OfferIsItsText (turn_of w e)
text_at w e id way noise text same =
    subst (λ (e : Event). ¬ IsRefused (turn_of w e)
    → (call : Call) × (o : Offer) × (call_of (step w e).world id ≡ Some call) × (call.offer ≡ Some o) × (o.side ≡ side_of way) × (description_of text ≡ Ok o.description))
    (sym same) (λ free. let is = offer_once w id way noise text free in (is.0, is.1, is.2, is.3, is.5.0, is.5.1))

pub returns-clause-offers : goal.returns-clause-offers
returns-clause-offers c = at_each_turn OfferIsItsText (λ past w e kept. text_at w e)

pub returns-clause-answers : goal.returns-clause-answers
returns-clause-answers c events = (
  readings_said c.descriptions_have_one_value.ensures.takes,
  at_each_turn AnswerHasAddresses (λ past w e kept id noise text call d o same is open_one. subst (λ (e : Event). call_of (step w e).world id ≡ Some d → d.generations ≡ call.generations + 1 → AreAddressed o text d) (sym same)
      (answer_addresses w (each_weaker _ (λ c. IsOffered c.offer) (λ c k. k.offered) w.calls kept.calls) id noise text call o is open_one d)) events,
)
