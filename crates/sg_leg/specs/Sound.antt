-- What sides can be made of.
use Rattle.std.specs.Prelude.{◌≡◌, ◌<◌, Option, Some}
use Rattle.sg_base.specs.declared.addresses.Address.{Address}
use Rattle.sg_base.specs.declared.addresses.Kind.TheVariants.{Rtp, Rtcp}
use Rattle.sg_keys.specs.declared.spec.SessionSpec.{SessionSpec}
use Rattle.sg_media.specs.Sides.{CanBeMade}

-- Sides can be made of all four, the first of each pair is of RTP, and a port follows the RTP port where there is
-- RTCP.
pub record AreSound (open_rtp : SessionSpec) (open_rtcp : Option SessionSpec) (seal_rtp : SessionSpec) (seal_rtcp : Option SessionSpec) (secure plain : Address) : Type 0 where
  pub opens : CanBeMade open_rtp
  pub opens_rtp : open_rtp.kind ≡ Rtp
  pub opens_rtcp : (spec : SessionSpec) → open_rtcp ≡ Some spec → CanBeMade spec × (plain.port < 65535)
  pub seals : CanBeMade seal_rtp
  pub seals_rtp : seal_rtp.kind ≡ Rtp
  pub seals_rtcp : (spec : SessionSpec) → seal_rtcp ≡ Some spec → CanBeMade spec × (secure.port < 65535)

-- A side can be made of it, and a port follows each RTP port where it is of RTCP.
pub record IsSound (spec : SessionSpec) (secure plain : Address) : Type 0 where
  pub can : CanBeMade spec
  pub next : spec.kind ≡ Rtcp → (secure.port < 65535) × (plain.port < 65535)
