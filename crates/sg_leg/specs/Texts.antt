-- Parts of the texts' definitions.
use Rattle.std.specs.Prelude.{ℕ, zero, suc, ◌+◌, List, [], ◌∷◌, ◌++◌, length, not, Option, Result, Ok}
use Rattle.std.specs.List.{list_any}
use Rattle.sg_agreement.specs.CarriedTexts.{with_media_lines}
use Rattle.sg_agreement.specs.Described.{with_addresses, unaddressed, is_other_count}
use Rattle.sg_agreement.specs.Sides.{is_active}
use Rattle.sg_base.specs.declared.addresses.Side.{Side}
use Rattle.sg_base.specs.declared.faults.Refusal.{Refusal}
use Rattle.sg_base.specs.declared.faults.Refusal.TheVariants as refusals
use Rattle.sg_base.specs.declared.faults.Fault.{Fault}
use Rattle.sg_base.specs.declared.faults.Fault.TheVariants.{Refused, NoMemory}
use Rattle.sg_sdp.specs.declared.faults.ReadSdpFault.{ReadSdpFault}
use Rattle.sg_sdp.specs.declared.faults.ReadSdpFault.TheVariants as errors
use Rattle.sg_sdp.specs.declared.medium.Medium as descriptions
use Rattle.sg_sdp.specs.declared.sdp.Sdp.{Sdp}
use Rattle.sg_session.specs.Stages.{after_ok, stop_if}

-- a description, once its text is read
abbrev pub checked : Side → Option ℕ → Sdp → Result Sdp Refusal
checked side count s =
    after_ok (with_addresses s (unaddressed side (length s.session + 1) s.media)) (λ s.
    stop_if (not (list_any (is_active side) s.media)) refusals.NoMedia
    (stop_if (is_other_count count (length s.media)) refusals.MediaCount
    (Ok s)))

-- a text's fault, as a refusal
abbrev pub text_fault : ReadSdpFault → Fault
text_fault (errors.Sdp line fault) = Refused (refusals.Sdp line fault)
text_fault errors.NoMemory = NoMemory

-- lines added to the medium at a position
abbrev pub with_lines_at : ℕ → List (List ℕ) → List descriptions.Medium → List descriptions.Medium
with_lines_at k lines [] = []
with_lines_at zero lines (m ∷ ms) = record m { lines = m.lines ++ lines } ∷ ms
with_lines_at (suc k) lines (m ∷ ms) = m ∷ with_lines_at k lines ms

-- lines added to the media from a position on
abbrev pub with_lines_from : ℕ → List (List (List ℕ)) → List descriptions.Medium → List descriptions.Medium
with_lines_from zero lines ms = with_media_lines ms lines
with_lines_from (suc k) lines [] = []
with_lines_from (suc k) lines (m ∷ ms) = m ∷ with_lines_from k lines ms
