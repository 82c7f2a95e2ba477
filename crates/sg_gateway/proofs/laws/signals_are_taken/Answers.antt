use Rattle.std.proofs.Common.{◌≡◌, [], ◌∷◌, Some, sym, subst}
use Rattle.sg_outcome.specs.declared.outcomes.Outcome.TheVariants.{Made, Live, Sdp}
use Rattle.sg_gateway.proofs.Common.{Call, Event, World, call_of, new_call, other_side, side_of, step, turn_of}
use Rattle.sg_gateway.proofs.Reached.{at_each_turn}
use Rattle.sg_gateway.proofs.Taken.{new_offer_taken, later_offer_taken, manual_call_taken}
use Rattle.sg_gateway.specs.Taken.{HasOpen, NewOfferIsTaken, LaterOfferIsTaken, ManualCallIsTaken}
use Rattle.sg_gateway.proofs.laws.signals_are_taken.Goals as goal

offers_at : (w : World) (e : Event) → NewOfferIsTaken (turn_of w e) × LaterOfferIsTaken (turn_of w e)
offers_at w e = (
  λ id way noise text a same none room agreed.
      subst (λ (e : Event). HasOpen (step w e).world id 0 a × ((step w e).outcomes ≡ Made id (new_call w id).slot a.media ∷ Sdp id (other_side (side_of way)) a.text ∷ []))
      (sym same) (new_offer_taken w id way noise text a none room agreed),
  λ id way noise text call a same is by_offers closed agreed.
      subst (λ (e : Event). HasOpen (step w e).world id call.generations a × ((step w e).outcomes ≡ Sdp id (other_side (side_of way)) a.text ∷ []))
      (sym same) (later_offer_taken w id way noise text a call is by_offers closed agreed),
)

pub returns-clause-offers : goal.returns-clause-offers
returns-clause-offers c = at_each_turn (λ t. NewOfferIsTaken t × LaterOfferIsTaken t) (λ past w e kept. offers_at w e)

manual_at : (w : World) (e : Event) → ManualCallIsTaken (turn_of w e)
manual_at w e h g same none room agreed =
    subst (λ (e : Event). ((step w e).outcomes ≡ Made h.id (new_call w h.id).slot 1 ∷ Live h.id ∷ [])
    × ((d : Call) × (call_of (step w e).world h.id ≡ Some d) × (d.generations ≡ 1) × (d.sessions ≡ g.sessions)))
    (sym same) (manual_call_taken w h g none room agreed)

pub returns-clause-manual : goal.returns-clause-manual
returns-clause-manual c = at_each_turn ManualCallIsTaken (λ past w e kept. manual_at w e)
