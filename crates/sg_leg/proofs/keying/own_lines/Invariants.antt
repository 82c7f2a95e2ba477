use Rattle.std.proofs.Common.{◌≡◌, drop, length, Ok}
use Rattle.sg_base.specs.declared.addresses.Side.TheVariants.{Plain}
use Rattle.sg_sdes.specs.Answers.{offered_by}
use Rattle.sg_agreement.specs.EachMedium.{each_active}
use Rattle.sg_agreement.specs.Offers.{noise_of}
use Rattle.sg_agreement.specs.Walks.{prefixed}
use Rattle.sg_leg.proofs.keying.own_lines.Given as goal

abbrev pub invariant-loop-m : goal.invariant-loop-m
invariant-loop-m l = (length l.lines.items ≡ l.m) × (prefixed l.lines.items (each_active Plain (λ k m. Ok (offered_by (noise_of k l.noise))) l.m (drop l.m l.media)) ≡ each_active Plain (λ k m. Ok (offered_by (noise_of k l.noise))) 0 l.media)
