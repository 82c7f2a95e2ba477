-- The heads of RTP and RTCP packets.
use Rattle.std.specs.Prelude.{◌≡◌, ℕ, ◌+◌, ◌*◌, ◌/◌, ◌%◌, ◌≤◌, Bool, ◌==◌, not, nat_lt, if◌then◌else◌, List, length, slice_index, Result, Ok, Err}
use Rattle.sg_base.specs.declared.HeadFault.{HeadFault}
use Rattle.sg_base.specs.declared.HeadFault.TheVariants.{Short, Version, CsrcCut, ExtensionCut}
use Rattle.sg_rtp.specs.declared.heads.RtpHead.{RtpHead}
use Rattle.sg_rtp.specs.declared.heads.RtcpHead.{RtcpHead}
use Rattle.sg_rtp.specs.Fields.{u16_at, u32_at}

-- The fixed head of RTP (RFC 3550, 5.1), 12 octets, with a list of CC CSRCs of four octets each behind it:
--
--   | V: 2 bits | P | X | CC: 4 bits | M | PT: 7 bits | sequence number: 16 bits |
--   | timestamp: 32 bits                                                         |
--   | SSRC: 32 bits                                                              |
--   | CSRCs: 32 bits each                                                        |
--
-- Where X is set, the extension comes next (5.3.1), whose length counts its words of four octets:
--
--   | defined by profile: 16 bits | length: 16 bits |
--   | words: 32 bits each                           |

abbrev pub version_of : List ℕ → ℕ
version_of octets = slice_index octets 0 / 64

abbrev pub has_extension : List ℕ → Bool
has_extension octets = slice_index octets 0 / 16 % 2 == 1

abbrev pub csrc_count_of : List ℕ → ℕ
csrc_count_of octets = slice_index octets 0 % 16

-- how many octets the fixed head and the list have
abbrev pub listed_of : List ℕ → ℕ
listed_of octets = 12 + 4 * csrc_count_of octets

-- how many octets the extension has, with its own first four
abbrev pub extension_of : List ℕ → ℕ
extension_of octets = if has_extension octets then 4 + 4 * u16_at octets (listed_of octets + 2) else 0

-- Octets begin with this head.
pub record IsRtpHead (octets : List ℕ) (head : RtpHead) : Type 0 where
  pub long : 12 ≤ length octets
  pub version : version_of octets ≡ 2
  pub size : head.length ≡ listed_of octets + extension_of octets
  pub whole : head.length ≤ length octets
  pub number : head.seq ≡ u16_at octets 2
  pub source : head.ssrc ≡ u32_at octets 8

-- The head, or the first fault.
abbrev pub rtp_head : List ℕ → Result RtpHead HeadFault
rtp_head octets =
    if nat_lt (length octets) 12 then Err Short
    else if not (version_of octets == 2) then Err Version
    else if nat_lt (length octets) (listed_of octets) then Err CsrcCut
    else if nat_lt (length octets) (listed_of octets + extension_of octets) then Err ExtensionCut
    else Ok (record { length = listed_of octets + extension_of octets; seq = u16_at octets 2; ssrc = u32_at octets 8 })

-- The head of RTCP (RFC 3550, 6.1 and 6.4.1), 8 octets:
--
--   | V: 2 bits | P | RC: 5 bits | PT: 8 bits | length: 16 bits |
--   | SSRC of the sender: 32 bits                               |

pub record IsRtcpHead (octets : List ℕ) (head : RtcpHead) : Type 0 where
  pub long : 8 ≤ length octets
  pub version : version_of octets ≡ 2
  pub source : head.ssrc ≡ u32_at octets 4

-- The head, or the first fault.
abbrev pub rtcp_head : List ℕ → Result RtcpHead HeadFault
rtcp_head octets =
    if nat_lt (length octets) 8 then Err Short
    else if not (version_of octets == 2) then Err Version
    else Ok (record { ssrc = u32_at octets 4 })
