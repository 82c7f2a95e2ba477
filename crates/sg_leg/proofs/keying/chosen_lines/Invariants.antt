use Rattle.std.proofs.Common.{◌≡◌, drop}
use Rattle.sg_base.specs.declared.addresses.Side.TheVariants.{Secure}
use Rattle.sg_agreement.specs.EachMedium.{each_active}
use Rattle.sg_agreement.specs.Offers.{chosen_in}
use Rattle.sg_agreement.specs.Walks.{prefixed}
use Rattle.sg_leg.proofs.keying.chosen_lines.Given as goal

abbrev pub invariant-loop-m : goal.invariant-loop-m
invariant-loop-m l = prefixed l.lines.items (each_active Secure chosen_in l.m (drop l.m l.media)) ≡ each_active Secure chosen_in 0 l.media
