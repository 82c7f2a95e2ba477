use Rattle.std.proofs.Common.{◌≡◌, ◌++◌, drop, map}
use Rattle.sg_agreement.specs.CarriedTexts.{exchanged}
use Rattle.sg_sdp.specs.declared.medium.Medium as descriptions
use Rattle.sg_leg.proofs.answering.exchanged_profiles.Given as goal

abbrev pub invariant-loop-medium : goal.invariant-loop-medium
invariant-loop-medium l = l.profiles.items ++ map (λ (m : descriptions.Medium). exchanged m.profile) (drop l.medium-index l.media) ≡ map (λ (m : descriptions.Medium). exchanged m.profile) l.media
