-- An answer and the generation that it begins.
use Rattle.std.proofs.Common.{◌≡◌, ℕ, List, Option, Result, Ok, Err, refl, ap, ◌∙◌}
use Rattle.sg_agreement.specs.Answers.{AgreedAnswer, agreed_answer}
use Rattle.sg_agreement.specs.Generations.{Generation, generation_of}
use Rattle.sg_agreement.specs.Keying.{Offer}
use Rattle.sg_agreement.specs.Media.{Medium}
use Rattle.sg_base.specs.declared.faults.Fault.{Fault}
use Rattle.sg_base.specs.declared.faults.Fault.TheVariants.{Refused, NoMemory}
use Rattle.sg_base.specs.declared.faults.Refusal.{Refusal}
use Rattle.sg_session.specs.Ring.{Installed, RingKey}
use Rattle.sg_session.specs.Stages.{after_ok}
use Rattle.sg_leg.specs.Open.{IsGiven, IsRefusedBy, answered_with}
use Rattle.sg_leg.specs.Planned.{Planned}
use Rattle.sg_leg.specs.Standing.{Begins}

module _ (slot : ℕ) (o : Offer) (noise text : List ℕ) (call generation : ℕ) (old : List Installed) where
  answered_as : (r : Result AgreedAnswer Refusal) → agreed_answer slot o noise text ≡ r
      → answered_with slot o noise text call generation old ≡ after_ok r (λ a. after_ok (generation_of call generation old a.media) (λ g. Ok (a.text, g)))
  answered_as r e = ap (λ r. after_ok r (λ a. after_ok (generation_of call generation old a.media) (λ g. Ok (a.text, g)))) e

  module _ (out : List ℕ) (media : List (Option Medium)) (agreed : agreed_answer slot o noise text ≡ Ok (record { text = out; media = media })) where
    begun_as : (r : Result Generation Refusal) → generation_of call generation old media ≡ r → answered_with slot o noise text call generation old ≡ after_ok r (λ g. Ok (out, g))
    begun_as r e = answered_as (Ok (record { text = out; media = media })) agreed ∙ ap (λ r. after_ok r (λ g. Ok (out, g))) e

    pub given : (plan : List Planned) (ring : List RingKey) → Begins (Ok plan) ring (generation_of call generation old media) → IsGiven out plan ring (answered_with slot o noise text call generation old)
    given plan ring (g, is, begun) = ((out, g), begun_as (Ok g) is, refl, begun)

    pub not_given : (fault : Fault) (ring : List RingKey) → Begins (Err fault) ring (generation_of call generation old media) → IsRefusedBy fault (answered_with slot o noise text call generation old)
    not_given (Refused cause) ring e = begun_as (Err cause) e
    not_given NoMemory ring e = tt
