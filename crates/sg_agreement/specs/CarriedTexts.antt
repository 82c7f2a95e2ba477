-- The text that the other side gets: the description carried over, with the gateway's own ports and lines.
use Rattle.std.specs.Prelude.{◌≡◌, ℕ, ◌+◌, ◌*◌, List, [], ◌∷◌, ◌++◌, Bool, false, if◌then◌else◌, codes}
use Rattle.std.specs.List.{AllByRecursion}
use Rattle.base64.specs.GeneralPurpose.{encode_of}
use Rattle.base64.specs.Engines.{standard}
use Rattle.sg_base.specs.Fields.{Lacks}
use Rattle.sg_base.specs.declared.addresses.Side.{Side}
use Rattle.sg_base.specs.declared.addresses.Side.TheVariants.{Secure, Plain}
use Rattle.sg_sdes.specs.CryptoText.{crypto_text}
use Rattle.sg_sdes.specs.declared.lines.CryptoLine.{CryptoLine}
use Rattle.sg_sdp.specs.Carrying.{carried, is_one_sided}
use Rattle.sg_sdp.specs.Descriptions.{all_lines, spelling}
use Rattle.sg_sdp.specs.declared.medium.Medium as descriptions
use Rattle.sg_sdp.specs.declared.medium.Profile.{Profile}
use Rattle.sg_sdp.specs.declared.medium.Profile.TheVariants.{Avp, Savp, Avpf, Savpf, Other}
use Rattle.sg_sdp.specs.declared.sdp.Sdp.{Sdp}

-- the profile of the other side that goes with one
abbrev pub exchanged : Profile → Profile
exchanged Avp = Savp
exchanged Savp = Avp
exchanged Avpf = Savpf
exchanged Savpf = Avpf
exchanged Other = Other

-- the gateway's RTP port of a medium towards a side, by the call's slot
abbrev pub rtp_port : ℕ → ℕ → Side → ℕ
rtp_port slot medium Secure = 20000 + 16 * slot + 4 * medium
rtp_port slot medium Plain = 20002 + 16 * slot + 4 * medium

-- The ports of media from this one on; a medium that isn't active has port 0 (RFC 3264, 6).
abbrev pub ports_from : ℕ → ℕ → Side → List Bool → List ℕ
ports_from slot medium side [] = []
ports_from slot medium side (active ∷ others) =
    (if active then rtp_port slot medium side else 0) ∷ ports_from slot (medium + 1) side others

-- a crypto attribute (RFC 4568, 9.1)
abbrev pub crypto_attribute : CryptoLine → List ℕ
crypto_attribute line = codes "a=crypto:" ++ crypto_text line

-- a key management attribute that carries a MIKEY message (RFC 4567, 3.1)
abbrev pub mikey_attribute : List ℕ → List ℕ
mikey_attribute octets = codes "a=key-mgmt:mikey " ++ encode_of standard octets

-- what the gateway adds: lines of the session part, and lines of each medium
pub record Added : Type 0 where
  pub session : List (List ℕ)
  pub media : List (List (List ℕ))

abbrev pub nothing : Added
nothing = record { session = []; media = [] }

abbrev pub with_media_lines : List descriptions.Medium → List (List (List ℕ)) → List descriptions.Medium
with_media_lines (m ∷ ms) (lines ∷ more) = record m { lines = m.lines ++ lines } ∷ with_media_lines ms more
with_media_lines ms more = ms

-- added lines stand last in their part
abbrev pub with_added : Added → Sdp → Sdp
with_added added s = record { session = s.session ++ added.session; media = with_media_lines s.media added.media }

unfoldable pub carried_text : List ℕ → List Profile → Added → Sdp → List ℕ
carried_text ports profiles added s = spelling (with_added added (carried ports profiles s))

-- no line ends within these octets: neither CR nor LF is among them
abbrev pub IsOneLine : List ℕ → Type 0
IsOneLine line = Lacks 10 line × Lacks 13 line

-- The text spells a description of which no attribute holds for one side alone, as those of keys do; and each of its lines is
-- one line of the text.
abbrev pub IsTwoSided : List ℕ → Type 0
IsTwoSided text = (s : Sdp) × (text ≡ spelling s) × AllByRecursion (λ line. is_one_sided line ≡ false) (all_lines s) × AllByRecursion IsOneLine (all_lines s)
