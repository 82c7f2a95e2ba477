-- What the states show.
use Rattle.std.specs.Prelude.{ℕ, Bool, Option}
use Rattle.sg_base.specs.declared.addresses.Side.{Side}
use Rattle.sg_leg.specs.declared.keying.Keying.{Keying}
use Rattle.sg_sdp.specs.declared.sdp.Sdp.{Sdp}

-- a call under its generation: its slot, the number of its media, and whether it was keyed manually
pub record LiveValue : Type 0 where
  pub slot : ℕ
  pub media : ℕ
  pub manual : Bool

-- a call with an open offer: its slot, the generation that goes on where the offer is rejected, the side that
-- offered, what it described, and what is kept of its keying
pub record OfferedValue : Type 0 where
  pub slot : ℕ
  pub former : Option LiveValue
  pub side : Side
  pub description : Sdp
  pub keying : Keying
