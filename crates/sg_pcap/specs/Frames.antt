-- Ethernet frames, and the UDP datagrams in them:
--
--   Ethernet II, 14 octets:     | destination: 6 octets | source: 6 octets | type: 16 bits |
--   IPv4 (RFC 791, 3.1), 20 octets and more:
--     | version: 4 bits | header length in words of 4 octets: 4 bits | service: 8 bits | total length: 16 bits |
--     | identification: 16 bits | flags: 3 bits | fragment offset: 13 bits                                     |
--     | time to live: 8 bits | protocol: 8 bits | checksum: 16 bits                                            |
--     | source: 32 bits                                                                                        |
--     | destination: 32 bits                                                                                   |
--   UDP (RFC 768), 8 octets:    | source port: 16 bits | destination port: 16 bits | length: 16 bits | checksum: 16 bits |
use Rattle.std.specs.Prelude.{ℕ, ◌+◌, ◌-◌, ◌*◌, ◌/◌, ◌%◌, true, Bool, ◌==◌, not, ◌||◌, nat_lt, if◌then◌else◌, List, [], ◌∷◌, length, take, drop, slice_index}
use Rattle.sg_base.specs.declared.addresses.Address.{Address}
use Rattle.sg_pcap.specs.Fields.{u16_by_order}
use Rattle.sg_pcap.specs.declared.frames.Frame as frames
use Rattle.sg_pcap.specs.declared.frames.Frame.TheVariants as variants
use Rattle.sg_pcap.specs.declared.skips.SkipCause.{SkipCause}
use Rattle.sg_pcap.specs.declared.skips.SkipCause.TheVariants.{Fragment, CutShort, Malformed}

-- what a frame is to the gateway: nothing; a datagram that can't be had; or one that comes to a port
pub data Framed : Type 0 where
  Passed : Framed
  Skip : SkipCause → Framed
  Datagram : ℕ → Address → List ℕ → Framed

-- the type of IPv4 is 0800
abbrev pub is_ipv4 : List ℕ → Bool
is_ipv4 frame = u16_by_order true frame 12 == 2048

abbrev pub ip_version_of : List ℕ → ℕ
ip_version_of frame = slice_index frame 14 / 16

-- the octets of the IPv4 header
abbrev pub header_length_of : List ℕ → ℕ
header_length_of frame = slice_index frame 14 % 16 * 4

-- the octets of the IPv4 packet, its header among them
abbrev pub total_length_of : List ℕ → ℕ
total_length_of frame = u16_by_order true frame 16

-- more fragments follow, or this is one that isn't the first
abbrev pub is_fragment : List ℕ → Bool
is_fragment frame = (u16_by_order true frame 20 / 8192 % 2 == 1) || not (u16_by_order true frame 20 % 8192 == 0)

-- the protocol of UDP is 17
abbrev pub is_udp : List ℕ → Bool
is_udp frame = slice_index frame 23 == 17

-- the address from which a datagram came, whose own header begins at this offset
abbrev pub sender_of : ℕ → List ℕ → Address
sender_of at frame = record {
  ip = slice_index frame 26 ∷ (slice_index frame 27 ∷ (slice_index frame 28 ∷ (slice_index frame 29 ∷ [])));
  port = u16_by_order true frame at;
}

-- the datagram whose header begins at this offset, in a payload of so many octets
abbrev pub datagram_in : ℕ → ℕ → List ℕ → Framed
datagram_in at payload frame =
    if nat_lt payload 8 then Skip Malformed
    else if nat_lt (u16_by_order true frame (at + 4)) 8 then Skip Malformed
    else if nat_lt payload (u16_by_order true frame (at + 4)) then Skip Malformed
    else Datagram (u16_by_order true frame (at + 2)) (sender_of at frame) (take (u16_by_order true frame (at + 4) - 8) (drop (at + 8) frame))

-- what a packet is whose IPv4 header is there
abbrev pub packet_in : List ℕ → Framed
packet_in frame =
    if not (ip_version_of frame == 4) then Skip Malformed
    else if nat_lt (header_length_of frame) 20 then Skip Malformed
    else if nat_lt (total_length_of frame) (header_length_of frame) then Skip Malformed
    else if not (is_udp frame) then Passed
    else if is_fragment frame then Skip Fragment
    else if nat_lt (length frame) (14 + total_length_of frame) then Skip CutShort
    else datagram_in (14 + header_length_of frame) (total_length_of frame - header_length_of frame) frame

-- What a frame is, by the first of these that holds. Checksums and the destination's address aren't looked at.
abbrev pub frame_of : List ℕ → Framed
frame_of frame =
    if nat_lt (length frame) 14 then Passed
    else if not (is_ipv4 frame) then Passed
    else if nat_lt (length frame) 34 then Skip CutShort
    else packet_in frame

-- a value as what it says
abbrev pub framed : frames.Frame → Framed
framed variants.Passed = Passed
framed (variants.Skip cause) = Skip cause
framed (variants.Datagram port from octets) = Datagram port from octets.now
