-- What a text that is read as a description says of it, by the law of sg_sdp.
use Rattle.std.proofs.Common.{◌≡◌, ◌≤◌, ℕ, ltb, List, length, Ok}
use Rattle.std.proofs.lemmas.Bool.{ltb-false}
use Rattle.std.specs.List.{AllByRecursion}
use Rattle.sg_base.specs.declared.faults.SdpFault.TheVariants.{TooLong}
use Rattle.sg_sdp.specs.Descriptions.{IsSdp, IsShort, Spells, all_lines}
use Rattle.sg_sdp.specs.Reading.{description_of, description_within}
use Rattle.sg_sdp.specs.declared.sdp.Sdp.{Sdp}
use Rattle.sg_session.proofs.Inversions.{stop_if_is}

-- what is read of a text is spelled by it
abbrev pub Takes : Type 0
Takes = (most : ℕ) (text : List ℕ) (s : Sdp) → description_within most text ≡ Ok s → IsSdp s × Spells (all_lines s) text × AllByRecursion (IsShort most) (all_lines s)

pub whole : (text : List ℕ) (s : Sdp) → description_of text ≡ Ok s → (length text ≤ 16384) × (description_within 2048 text ≡ Ok s)
unfolding description_of
whole text s e =
    let p = stop_if_is (ltb 16384 (length text)) (0, TooLong) (description_within 2048 text) s e in
    (ltb-false _ _ p.0, p.1)
