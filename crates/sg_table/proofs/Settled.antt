-- What a call settles keeps its serial number and its slot.
use Rattle.std.proofs.Common.{◌≡◌, ℕ, true, not, List, [], ◌∷◌, Option, Some, None, Ok, refl, subst}
use Rattle.sg_agreement.specs.Answers.{agreed_answer}
use Rattle.sg_agreement.specs.Generations.{generation_of}
use Rattle.sg_agreement.specs.Keying.{Offer}
use Rattle.sg_agreement.specs.Media.{Medium}
use Rattle.sg_agreement.specs.Offers.{agreed_offer}
use Rattle.sg_agreement.specs.declared.ways.Way.{Way}
use Rattle.sg_base.specs.declared.faults.Refusal.TheVariants.{State}
use Rattle.sg_gateway.specs.CallSignals.{at_hand, has_begun, takes_offer, keyed_manually, offered_in, answered_to, answered_in}
use Rattle.sg_gateway.specs.Generations.{Settled, keyed}
use Rattle.sg_gateway.specs.World.{Books, Call}
use Rattle.sg_session.proofs.Inversions.{after_ok_is, stop_if_is, ok_is}

pub record IsSame (c : Call) (r : Settled) : Type 0 where
  pub serial : r.call.serial ≡ c.serial
  pub slot : r.call.slot ≡ c.slot

module _ (now : ℕ) (books : Books) where
  keyed_same : (c : Call) (text : List ℕ) (media : List (Option Medium)) (r : Settled) → keyed now books c text media ≡ Ok r → IsSame c r
  keyed_same c text media r e =
      let a = after_ok_is (generation_of c.serial c.generations books.ring media) _ r e in
      subst (IsSame c) (ok_is _ r a.2) (record { serial = refl; slot = refl })

  pub manual_same : (c : Call) (x : Medium) (r : Settled) → keyed_manually now books c x ≡ Ok r → IsSame c r
  manual_same c x r e =
      let d : Call = record c { media = 1; manual = true } in
      let a = stop_if_is (has_begun c) State (keyed now books d [] (Some x ∷ [])) r e in
      let is = keyed_same d [] (Some x ∷ []) r a.1 in
      record { serial = is.serial; slot = is.slot }

  pub offered_same : (c : Call) (way : Way) (noise text : List ℕ) (r : Settled) → offered_in now books c way noise text ≡ Ok r → IsSame c r
  offered_same c way noise text r e =
      let a = stop_if_is (not (takes_offer c)) State _ r e in
      let b = after_ok_is (agreed_offer (at_hand now books c noise) way text) _ r a.1 in
      subst (IsSame c) (ok_is _ r b.2) (record { serial = refl; slot = refl })

  pub answered_same : (c : Call) (noise text : List ℕ) (r : Settled) → answered_in now books c noise text ≡ Ok r → IsSame c r
  answered_same c noise text r e = go c.offer e
    where
      go : (o : Option Offer) → answered_to now books c noise text o ≡ Ok r → IsSame c r
      go None e = absurd cc
      go (Some o) e =
          let a = after_ok_is (agreed_answer c.slot o noise text) _ r e in
          keyed_same c a.0.text a.0.media r a.2
