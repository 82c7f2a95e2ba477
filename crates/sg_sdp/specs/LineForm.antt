-- The form of one line of a session description, without its end (RFC 4566, 5).
use Rattle.std.specs.Prelude.{ℕ, ◌-◌, List, [], ◌∷◌, length, take, drop, Bool, false, not, Option, Some, None, nat_le, ◌==◌, ◌&&◌, if◌then◌else◌, slice_index, codes, nat_eq}
use Rattle.std.specs.List.{list_all, starts_with}
use Rattle.std.specs.Str.{bytes_eq}
use Rattle.sg_base.specs.Fields.{◌>>=◌, cut_at, four_at, number_at}
use Rattle.sg_sdp.specs.declared.form.MediaLine.{MediaLine}
use Rattle.sg_sdp.specs.declared.medium.Profile.{Profile}
use Rattle.sg_sdp.specs.declared.medium.Profile.TheVariants.{Avp, Savp, Avpf, Savpf, Other}

-- a line without the CR before its LF
unfoldable pub without_cr : List ℕ → List ℕ
without_cr raw = if slice_index raw (length raw - 1) == 13 then take (length raw - 1) raw else raw

-- an octet that ends no line: not NUL, LF or CR
abbrev pub is_inner : ℕ → Bool
is_inner c = not (c == 0) && not (c == 10) && not (c == 13)

-- a letter a to z, an equals sign, and octets that end no line
unfoldable pub has_form : List ℕ → Bool
has_form [] = false
has_form (a ∷ []) = false
has_form (a ∷ b ∷ rest) = nat_le 97 a && nat_le a 122 && (b == 61) && list_all is_inner rest

-- the line's letter
abbrev pub is_letter : ℕ → List ℕ → Bool
is_letter c line = slice_index line 0 == c

abbrev pub is_printing : ℕ → Bool
is_printing c = nat_le 33 c && nat_le c 126

-- one printing character or more, without spaces
unfoldable pub is_word : List ℕ → Bool
is_word text = not (length text == 0) && list_all is_printing text

-- the profile that a protocol word names (RFC 3551; RFC 3711, 12; RFC 4585; RFC 5124)
unfoldable pub profile_of : List ℕ → Profile
profile_of proto =
    if bytes_eq proto (codes "RTP/AVP") then Avp
    else if bytes_eq proto (codes "RTP/SAVP") then Savp
    else if bytes_eq proto (codes "RTP/AVPF") then Avpf
    else if bytes_eq proto (codes "RTP/SAVPF") then Savpf
    else Other

-- what stands behind `m=`, taken apart
pub record HeadParts : Type 0 where
  pub word : List ℕ
  pub port : ℕ
  pub proto : List ℕ
  pub formats : List ℕ

-- `<word> <port> <proto> <formats>`, behind `m=` (5.14)
unfoldable pub head_of : List ℕ → Option HeadParts
head_of text = do
  p ← cut_at 32 text
  q ← cut_at 32 p.1
  r ← cut_at 32 q.1
  port ← number_at 65535 q.0
  if is_word p.0 && is_word r.0 && not (length r.1 == 0) then Some (record { word = p.0; port = port; proto = r.0; formats = r.1 }) else None

-- `IN IP4` and four numbers, behind `c=` (5.7)
unfoldable pub connection_of : List ℕ → Option (List ℕ)
connection_of text = if starts_with nat_eq text (codes "IN IP4 ") then four_at (drop 7 text) else None

-- as the code holds it
abbrev pub view_head : MediaLine → HeadParts
view_head h = record { word = h.word.now; port = h.port; proto = h.proto.now; formats = h.formats.now }
