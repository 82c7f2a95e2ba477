-- The description that the other side gets.
use Rattle.std.specs.Prelude.{ℕ, List, [], ◌∷◌, drop, map, filter, Bool, not, None, if◌then◌else◌, ◌&&◌, nat_eq, codes}
use Rattle.std.specs.List.{list_any, starts_with}
use Rattle.std.specs.Option.{option_map_or}
use Rattle.std.specs.Str.{bytes_eq}
use Rattle.sg_base.specs.Fields.{cut_at}
use Rattle.sg_sdp.specs.declared.medium.Medium.{Medium}
use Rattle.sg_sdp.specs.declared.medium.Profile.{Profile}
use Rattle.sg_sdp.specs.declared.medium.Profile.TheVariants.{Avp, Savp, Avpf, Savpf, Other}
use Rattle.sg_sdp.specs.declared.sdp.Sdp.{Sdp}
use Rattle.sg_sdp.specs.Addresses.{addressed}
use Rattle.sg_sdp.specs.LineForm.{profile_of}

-- The attributes that hold for one side alone: keys (RFC 4568, 4567, 5763), the ports of RTCP (RFC 3605,
-- 5761) and ICE (RFC 8839, 8840).
abbrev pub one_sided : List (List ℕ)
one_sided =
    codes "crypto" ∷ codes "key-mgmt" ∷ codes "rtcp" ∷ codes "rtcp-mux" ∷ codes "candidate" ∷ codes "end-of-candidates" ∷
    codes "remote-candidates" ∷ codes "ice-ufrag" ∷ codes "ice-pwd" ∷ codes "ice-options" ∷ codes "ice-lite" ∷
    codes "fingerprint" ∷ codes "setup" ∷ []

-- an attribute's name: what stands before the first colon, or all of it (RFC 4566, 5.13)
unfoldable pub attribute_name : List ℕ → List ℕ
attribute_name attribute = option_map_or (λ parts. parts.0) (cut_at 58 attribute) attribute

unfoldable pub is_one_sided : List ℕ → Bool
is_one_sided line = starts_with nat_eq line (codes "a=") && list_any (λ name. bytes_eq name (attribute_name (drop 2 line))) one_sided

-- a `c=` line becomes the gateway's own
unfoldable pub carried_line : List ℕ → List ℕ
carried_line line = if starts_with nat_eq line (codes "c=") then codes "c=IN IP4 127.0.0.1" else line

-- the other lines stay in place
abbrev pub carried_lines : List (List ℕ) → List (List ℕ)
carried_lines lines = map carried_line (filter (λ line. not (is_one_sided line)) lines)

-- the protocol word of that profile; every other one stays
unfoldable pub carried_proto : Profile → List ℕ → List ℕ
carried_proto Avp proto = codes "RTP/AVP"
carried_proto Savp proto = codes "RTP/SAVP"
carried_proto Avpf proto = codes "RTP/AVPF"
carried_proto Savpf proto = codes "RTP/SAVPF"
carried_proto Other proto = proto

-- a medium at that port, of that profile, before its address
unfoldable pub carried_medium : ℕ → Profile → Medium → Medium
carried_medium port profile m = record {
  word = m.word;
  port = port;
  profile = profile_of (carried_proto profile m.proto);
  proto = carried_proto profile m.proto;
  formats = m.formats;
  address = None;
  lines = carried_lines m.lines;
}

-- each medium at its own port, of its own profile
abbrev pub carried_media : List ℕ → List Profile → List Medium → List Medium
carried_media (port ∷ ports) (profile ∷ profiles) (m ∷ ms) = carried_medium port profile m ∷ carried_media ports profiles ms
carried_media ports profiles ms = []

-- The carried description. Each medium's address is that of its carried `c=` lines.
abbrev pub carried : List ℕ → List Profile → Sdp → Sdp
carried ports profiles s =
    addressed (record { session = carried_lines s.session; media = carried_media ports profiles s.media })
