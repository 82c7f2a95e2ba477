-- Captures as they are written, by libpcap's page on its files, and Ethernet frames, by the figures of RFC 791 (3.1) and
-- RFC 768.
use Rattle.std.specs.Prelude.{◌≡◌, ◌≤◌, ◌<◌, ◌^◌, ℕ, ◌+◌, ◌*◌, ◌/◌, ◌%◌, Bool, true, if◌then◌else◌, List, [], ◌∷◌, ◌++◌, length}
use Rattle.std.specs.List.{flat_map}
use Rattle.sg_pcap.specs.Capture.{Captured}
use Rattle.sg_pcap.specs.declared.header.Form.{Form}

-- ---- numbers

-- a number of 16 bits in two octets: the highest first, or the lowest
abbrev pub two : Bool → ℕ → List ℕ
two big n = if big then n / 256 ∷ (n % 256 ∷ []) else n % 256 ∷ (n / 256 ∷ [])

-- one of 32 bits in four
abbrev pub four : Bool → ℕ → List ℕ
four big n = if big then two true (n / 65536) ++ two true (n % 65536) else two big (n % 65536) ++ two big (n / 65536)

-- ---- captures

-- what the header of a capture holds besides its magic number
pub record Header : Type 0 where
  pub major : ℕ
  pub minor : ℕ
  pub zone : ℕ
  pub accuracy : ℕ
  pub snapshot : ℕ
  pub link : ℕ

pub record FitsHeader (h : Header) : Type 0 where
  pub major : h.major < 2 ^ 16
  pub minor : h.minor < 2 ^ 16
  pub link : h.link < 2 ^ 32

-- a1b2c3d4 where fractions are microseconds, and a1b23c4d where they are nanoseconds
abbrev pub magic_of : Bool → ℕ
magic_of nano = if nano then 2712812621 else 2712847316

abbrev pub header_written : Form → Header → List ℕ
header_written form h =
    four form.big (magic_of form.nano) ++ two form.big h.major ++ two form.big h.minor ++ four form.big h.zone ++ four form.big h.accuracy
    ++ four form.big h.snapshot ++ four form.big h.link

-- a frame as it was taken: at this second since 1970-01-01 UTC and fraction of one, of a frame of so many octets
pub record Taken : Type 0 where
  pub seconds : ℕ
  pub fraction : ℕ
  pub original : ℕ
  pub frame : List ℕ

-- at most 262,144 octets of a frame are captured
pub record FitsTaken (t : Taken) : Type 0 where
  pub seconds : t.seconds < 2 ^ 32
  pub fraction : t.fraction < 2 ^ 32
  pub captured : length t.frame ≤ 262144

abbrev pub record_written : Form → Taken → List ℕ
record_written form t = four form.big t.seconds ++ four form.big t.fraction ++ four form.big (length t.frame) ++ four form.big t.original ++ t.frame

abbrev pub capture_written : Form → Header → List Taken → List ℕ
capture_written form h ts = header_written form h ++ flat_map (record_written form) ts

-- its moment in whole milliseconds
abbrev pub moment_taken : Form → Taken → Captured
moment_taken form t = record { millis = t.seconds * 1000 + (if form.nano then t.fraction / 1000000 else t.fraction / 1000); frame = t.frame }

-- ---- frames

-- Ethernet II: destination and source of 6 octets each, and the type of what is carried
pub record Ethernet : Type 0 where
  pub destination : List ℕ
  pub source : List ℕ
  pub type : ℕ

pub record FitsEthernet (e : Ethernet) : Type 0 where
  pub destination : length e.destination ≡ 6
  pub source : length e.source ≡ 6
  pub type : e.type < 2 ^ 16

abbrev pub ethernet_written : Ethernet → List ℕ
ethernet_written e = e.destination ++ e.source ++ two true e.type

-- IPv4, without options: `words` is the header's length in words of 4 octets, `total` the packet's in octets, and `offset`
-- the place of a fragment in its datagram
pub record Ipv4 : Type 0 where
  pub version : ℕ
  pub words : ℕ
  pub service : ℕ
  pub total : ℕ
  pub identification : ℕ
  pub reserved : ℕ
  pub dont_fragment : ℕ
  pub more_fragments : ℕ
  pub offset : ℕ
  pub time_to_live : ℕ
  pub protocol : ℕ
  pub checksum : ℕ
  pub source : List ℕ
  pub destination : List ℕ

pub record FitsIpv4 (h : Ipv4) : Type 0 where
  pub version : h.version < 2 ^ 4
  pub words : h.words < 2 ^ 4
  pub total : h.total < 2 ^ 16
  pub reserved : h.reserved < 2
  pub dont_fragment : h.dont_fragment < 2
  pub more_fragments : h.more_fragments < 2
  pub offset : h.offset < 2 ^ 13
  pub source : length h.source ≡ 4
  pub destination : length h.destination ≡ 4

abbrev pub ipv4_written : Ipv4 → List ℕ
ipv4_written h =
    ((h.version * 16 + h.words) ∷ (h.service ∷ [])) ++ two true h.total ++ two true h.identification
    ++ two true (h.reserved * 2 ^ 15 + h.dont_fragment * 2 ^ 14 + h.more_fragments * 2 ^ 13 + h.offset)
    ++ (h.time_to_live ∷ (h.protocol ∷ [])) ++ two true h.checksum ++ h.source ++ h.destination

-- UDP: `length` counts this header's 8 octets and the data
pub record Udp : Type 0 where
  pub source : ℕ
  pub destination : ℕ
  pub length : ℕ
  pub checksum : ℕ

pub record FitsUdp (u : Udp) : Type 0 where
  pub source : u.source < 2 ^ 16
  pub destination : u.destination < 2 ^ 16
  pub length : u.length < 2 ^ 16

abbrev pub udp_written : Udp → List ℕ
udp_written u = two true u.source ++ two true u.destination ++ two true u.length ++ two true u.checksum
