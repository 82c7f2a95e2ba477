use Rattle.std.proofs.Common.{◌≡◌, ◌≤◌, ℕ, List, Option, Some, drop, length, slice_get}
use Rattle.sg_leg.specs.declared.keying.Bundle as kept
use Rattle.sg_base.specs.declared.addresses.Side.TheVariants.{Secure}
use Rattle.sg_agreement.specs.Attributes.{mikey_value}
use Rattle.sg_agreement.specs.EachMedium.{each_active}
use Rattle.sg_agreement.specs.Messages.{AtHand, Bundle, bundle_in}
use Rattle.sg_agreement.specs.Walks.{prefixed}
use Rattle.sg_leg.specs.Messages.{IsAtHand}
use Rattle.sg_leg.specs.Open.{IsBundleIf}
use Rattle.sg_leg.specs.Pairs.{EachPair}
use Rattle.sg_leg.proofs.messages.bundles.Given as goal

abbrev pub invariant-loop-m : goal.invariant-loop-m
invariant-loop-m l =
    ((h : AtHand) → IsAtHand h l.now l.psks l.seen
    → (done : List (Option Bundle)) × EachPair (IsBundleIf l.psks) l.bundles.items done
    × (prefixed done (each_active Secure (λ k m. bundle_in h k 1 (mikey_value m.lines)) l.m (drop l.m l.media)) ≡ each_active Secure (λ k m. bundle_in h k 1 (mikey_value m.lines)) 0 l.media))
    × ((i : ℕ) (b : kept.Bundle) → slice_get l.bundles.items i ≡ Some (Some b) → length l.seen ≤ 1020) × (length l.bundles.items ≡ l.m)
