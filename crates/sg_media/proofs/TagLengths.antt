-- The octets of a suite's tag.
use Rattle.std.proofs.Common.{◌≡◌, true, refl}
use Rattle.sg_base.specs.declared.addresses.Kind.TheVariants.{Rtp}
use Rattle.sg_base.specs.Suites.{tag_len_of}
use Rattle.sg_base.specs.declared.suites.Suite.{Suite}
use Rattle.sg_base.specs.declared.suites.Suite.TheVariants.{Cm128Tag80, Cm128Tag32, Cm192Tag80, Cm192Tag32, Cm256Tag80, Cm256Tag32, Raw80}
use Rattle.sg_states.specs.Parts.{is_tag_len}

-- the tag of a suite is one that RTP may have
pub suite_tag : (suite : Suite) → is_tag_len Rtp (tag_len_of suite) ≡ true
suite_tag Cm128Tag80 = refl
suite_tag Cm128Tag32 = refl
suite_tag Cm192Tag80 = refl
suite_tag Cm192Tag32 = refl
suite_tag Cm256Tag80 = refl
suite_tag Cm256Tag32 = refl
suite_tag Raw80 = refl
