-- What a side's text describes, or its first refusal.
use Rattle.std.specs.Prelude.{ℕ, ◌+◌, List, [], ◌∷◌, length, Bool, false, not, Option, Some, None, is_none, Result, Ok, Err, ◌==◌, ◌&&◌, if◌then◌else◌}
use Rattle.std.specs.List.{list_any}
use Rattle.sg_base.specs.declared.addresses.Side.{Side}
use Rattle.sg_base.specs.declared.faults.Refusal.{Refusal}
use Rattle.sg_base.specs.declared.faults.Refusal.TheVariants as refusals
use Rattle.sg_base.specs.declared.faults.SdpFault.{SdpFault}
use Rattle.sg_base.specs.declared.faults.SdpFault.TheVariants.{Address}
use Rattle.sg_sdp.specs.Reading.{description_of}
use Rattle.sg_sdp.specs.declared.medium.Medium as descriptions
use Rattle.sg_sdp.specs.declared.sdp.Sdp.{Sdp}
use Rattle.sg_session.specs.Stages.{after_ok, stop_if}
use Rattle.sg_agreement.specs.Sides.{is_active}

-- a text's first fault is a refusal
abbrev pub of_text : Result Sdp (ℕ × SdpFault) → Result Sdp Refusal
of_text (Ok s) = Ok s
of_text (Err fault) = Err (refusals.Sdp fault.0 fault.1)

abbrev pub lacks_address : Side → descriptions.Medium → Bool
lacks_address side m = is_active side m && is_none m.address

-- the number of the `m=` line of the first active medium without an address, where that of the first medium
-- is n
abbrev pub unaddressed : Side → ℕ → List descriptions.Medium → Option ℕ
unaddressed side n [] = None
unaddressed side n (m ∷ ms) = if lacks_address side m then Some n else unaddressed side (n + 1 + length m.lines) ms

-- that line is refused
abbrev pub with_addresses : Sdp → Option ℕ → Result Sdp Refusal
with_addresses s (Some n) = Err (refusals.Sdp n Address)
with_addresses s None = Ok s

-- another number of media than is asked for
abbrev pub is_other_count : Option ℕ → ℕ → Bool
is_other_count None count = false
is_other_count (Some n) count = not (count == n)

-- The text is a description, each active medium has an address (RFC 4566, 5.7), some medium is active, and
-- there are as many media as the call or the offer has, where it has any (RFC 3264, 6).
unfoldable pub described : Side → Option ℕ → List ℕ → Result Sdp Refusal
described side count text =
    after_ok (of_text (description_of text)) (λ s.
    after_ok (with_addresses s (unaddressed side (length s.session + 1) s.media)) (λ s.
    stop_if (not (list_any (is_active side) s.media)) refusals.NoMedia
    (stop_if (is_other_count count (length s.media)) refusals.MediaCount
    (Ok s))))
