-- A description by its stages.
use Rattle.std.proofs.Common.{◌≡◌, ℕ, List, Option, Result, Err, ap}
use Rattle.sg_agreement.specs.Described.{described, of_text}
use Rattle.sg_base.specs.declared.addresses.Side.{Side}
use Rattle.sg_base.specs.declared.faults.SdpFault.{SdpFault}
use Rattle.sg_sdp.specs.Reading.{description_of, Gives}
use Rattle.sg_sdp.specs.declared.faults.ReadSdpFault.{ReadSdpFault}
use Rattle.sg_sdp.specs.declared.faults.ReadSdpFault.TheVariants as errors
use Rattle.sg_sdp.specs.declared.sdp.Sdp.{Sdp}
use Rattle.sg_session.specs.Stages.{after_ok}
use Rattle.sg_leg.specs.Answering.{Tells}
use Rattle.sg_leg.specs.Texts.{checked, text_fault}

pub described_as : (side : Side) (count : Option ℕ) (text : List ℕ) (r : Result Sdp (ℕ × SdpFault)) → description_of text ≡ r → described side count text ≡ after_ok (of_text r) (checked side count)
unfolding described
described_as side count text r e = ap (λ r. after_ok (of_text r) (checked side count)) e

pub unread : (side : Side) (count : Option ℕ) (text : List ℕ) (f : ReadSdpFault) → Gives {X = Sdp} (Err f) (description_of text) → Tells (Err (text_fault f)) (described side count text)
unread side count text (errors.Sdp line fault) e = described_as side count text (Err (line, fault)) e
unread side count text errors.NoMemory e = tt
