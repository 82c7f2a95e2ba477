-- What the texts of an offer and an answer say of a medium (RFC 5761, 5.1.1).
use Rattle.std.specs.Prelude.{◌≡◌, ◌<◌, ℕ, List, ◌∷◌, ◌++◌, length, codes, Ok}
use Rattle.std.specs.List.{Any}
use Rattle.sg_sdp.specs.Reading.{description_of}
use Rattle.sg_sdp.specs.declared.medium.Medium.{Medium}
use Rattle.sg_sdp.specs.declared.sdp.Sdp.{Sdp}

-- the text is a description, and this is its medium of this number, from 0, of which there are up to four
pub record IsMediumOf (text : List ℕ) (medium : ℕ) (m : Medium) : Type 0 where
  pub description : Sdp
  pub is_one : description_of text ≡ Ok description
  pub before : List Medium
  pub after : List Medium
  pub media_are : description.media ≡ before ++ m ∷ after
  pub number : length before ≡ medium
  pub few : medium < 4

-- one of the medium's lines is `a=rtcp-mux`, and nothing more
abbrev pub HasMuxLine : List ℕ → ℕ → Type 0
HasMuxLine text medium = (m : Medium) × IsMediumOf text medium m × Any (λ line. line ≡ codes "a=rtcp-mux") m.lines

-- the medium isn't refused: its port is another than 0 (RFC 3264, 6)
abbrev pub HasPort : List ℕ → ℕ → Type 0
HasPort text medium = (m : Medium) × IsMediumOf text medium m × ¬ (m.port ≡ 0)
