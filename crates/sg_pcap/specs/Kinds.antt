-- What an Ethernet frame is to the gateway, in the words of RFC 791 and RFC 768.
use Rattle.std.specs.Prelude.{◌≡◌, ◌⊎◌, ◌≤◌, ◌<◌, ℕ, ◌+◌, ◌*◌, List, ◌++◌, length}
use Rattle.sg_pcap.specs.Frames.{Framed, Passed, Skip, Datagram}
use Rattle.sg_pcap.specs.Written.{Ethernet, FitsEthernet, FitsIpv4, FitsUdp, Ipv4, Udp, ethernet_written, ipv4_written, udp_written}
use Rattle.sg_pcap.specs.declared.skips.SkipCause.TheVariants.{Fragment, CutShort, Malformed}

-- a header of version 4, which has the five words that each has at least and is inside its packet
pub record IsSound (h : Ipv4) : Type 0 where
  pub version : h.version ≡ 4
  pub words : 5 ≤ h.words
  pub inside : h.words * 4 ≤ h.total

-- no fragments follow, and none are before it
pub record IsWhole (h : Ipv4) : Type 0 where
  pub last : h.more_fragments ≡ 0
  pub first : h.offset ≡ 0

-- what UDP has in a packet from this source; octets behind the datagram count for nothing
pub data IsCarried (source : List ℕ) : List ℕ → Framed → Type 0 where
  Headless : (octets : List ℕ) → length octets < 8 → IsCarried source octets (Skip Malformed)
  TooShort : (u : Udp) (rest : List ℕ) → FitsUdp u → u.length < 8 → IsCarried source (udp_written u ++ rest) (Skip Malformed)
  TooLong : (u : Udp) (rest : List ℕ) → FitsUdp u → 8 + length rest < u.length → IsCarried source (udp_written u ++ rest) (Skip Malformed)
  Carried : (u : Udp) (held behind : List ℕ) → FitsUdp u → u.length ≡ 8 + length held
      → IsCarried source (udp_written u ++ held ++ behind) (Datagram u.destination (record { ip = source; port = u.source }) held)

-- what a packet with this header is, of which these octets behind the header's first twenty were captured
pub data IsPacket (h : Ipv4) : List ℕ → Framed → Type 0 where
  OtherVersion : (rest : List ℕ) → ¬ (h.version ≡ 4) → IsPacket h rest (Skip Malformed)
  ShortHeader : (rest : List ℕ) → h.version ≡ 4 → h.words < 5 → IsPacket h rest (Skip Malformed)
  ShortPacket : (rest : List ℕ) → h.version ≡ 4 → 5 ≤ h.words → h.total < h.words * 4 → IsPacket h rest (Skip Malformed)
  OtherProtocol : (rest : List ℕ) → IsSound h → ¬ (h.protocol ≡ 17) → IsPacket h rest Passed
  OfMore : (rest : List ℕ) → IsSound h → h.protocol ≡ 17 → h.more_fragments ≡ 1 → IsPacket h rest (Skip Fragment)
  Behind : (rest : List ℕ) → IsSound h → h.protocol ≡ 17 → ¬ (h.offset ≡ 0) → IsPacket h rest (Skip Fragment)
  Cut : (rest : List ℕ) → IsSound h → h.protocol ≡ 17 → IsWhole h → 20 + length rest < h.total → IsPacket h rest (Skip CutShort)
  Whole : (options payload padding : List ℕ) (m : Framed) → IsSound h → h.protocol ≡ 17 → IsWhole h → 20 + length options ≡ h.words * 4
      → h.words * 4 + length payload ≡ h.total → IsCarried h.source payload m → IsPacket h (options ++ payload ++ padding) m

-- What a frame is. The type of IPv4 is 0800, and the protocol of UDP 17.
pub data IsFrame : List ℕ → Framed → Type 0 where
  NoHeader : (octets : List ℕ) → length octets < 14 → IsFrame octets Passed
  OtherType : (e : Ethernet) (rest : List ℕ) → FitsEthernet e → ¬ (e.type ≡ 2048) → IsFrame (ethernet_written e ++ rest) Passed
  CutHeader : (e : Ethernet) (rest : List ℕ) → FitsEthernet e → e.type ≡ 2048 → length rest < 20 → IsFrame (ethernet_written e ++ rest) (Skip CutShort)
  OfPacket : (e : Ethernet) (h : Ipv4) (rest : List ℕ) (m : Framed) → FitsEthernet e → e.type ≡ 2048 → FitsIpv4 h → IsPacket h rest m
      → IsFrame (ethernet_written e ++ ipv4_written h ++ rest) m
