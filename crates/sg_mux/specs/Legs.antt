-- The leg to which a port belongs, and the ports of a leg that RTP and RTCP share (RFC 5761).
use Rattle.std.specs.Prelude.{ℕ, ◌-◌, ◌+◌, ◌/◌, ◌%◌, Bool, true, false, ◌&&◌, not, nat_le, nat_lt, ◌==◌, if◌then◌else◌, List, slice_index_or, Option, Some, None}
use Rattle.sg_base.specs.declared.addresses.Address.{Address}
use Rattle.sg_base.specs.declared.addresses.Side.{Side}
use Rattle.sg_base.specs.declared.addresses.Side.TheVariants.{Secure, Plain}
use Rattle.sg_passages.specs.Passages.{Leaving, straight}
use Rattle.sg_mux.specs.Texts.{mark}
use Rattle.sg_mux.specs.declared.known.Known.{Known}

-- ---- the plan of ports, read back: 16 to a slot, 4 to a medium, of which the first two are on the secure side

-- a port of one of 256 slots
abbrev pub is_port : ℕ → Bool
is_port port = nat_le 20000 port && nat_lt port 24096

abbrev pub slot_of : ℕ → ℕ
slot_of port = (port - 20000) / 16

abbrev pub medium_of : ℕ → ℕ
medium_of port = (port - 20000) % 16 / 4

abbrev pub side_of_port : ℕ → Side
side_of_port port = if nat_lt ((port - 20000) % 4) 2 then Secure else Plain

-- ---- muxed legs

abbrev pub same_side : Side → Side → Bool
same_side Secure Secure = true
same_side Plain Plain = true
same_side some other = false

-- the call muxes this medium on this side
abbrev pub muxes : Option Known → ℕ → Side → Bool
muxes None medium side = false
muxes (Some k) medium side = same_side k.side side && mark k.muxed medium

-- the leg is muxed, by what is known of the call in each slot
abbrev pub is_muxed : List (Option Known) → ℕ → ℕ → Side → Bool
is_muxed calls slot medium side = muxes (slice_index_or calls slot None) medium side

-- the leg of this port is muxed
abbrev pub is_muxed_at : List (Option Known) → ℕ → Bool
is_muxed_at calls port = is_port port && is_muxed calls (slot_of port) (medium_of port) (side_of_port port)

-- RTP comes to the first of a leg's two ports, and RTCP to the second
abbrev pub is_muxed_rtp : List (Option Known) → ℕ → Bool
is_muxed_rtp calls port = ((port - 20000) % 2 == 0) && is_muxed_at calls port

abbrev pub is_muxed_rtcp : List (Option Known) → ℕ → Bool
is_muxed_rtcp calls port = ((port - 20000) % 2 == 1) && is_muxed_at calls port

-- ---- what comes

-- RTCP, by its packet type: the second octet is 192 to 223 (RFC 5761, 4)
abbrev pub is_report : List ℕ → Bool
is_report octets = nat_le 192 (slice_index_or octets 1 0) && nat_le (slice_index_or octets 1 0) 223

-- RTCP that comes to the RTP port of a muxed leg has come to its RTCP port
abbrev pub arrived_port : List (Option Known) → ℕ → List ℕ → ℕ
arrived_port calls port octets = if is_muxed_rtp calls port && is_report octets then port + 1 else port

-- ---- what leaves

-- RTCP of a muxed leg leaves by the leg's RTP port, and to the peer's RTP port
abbrev pub leaves : List (Option Known) → ℕ → Address → Leaving
leaves calls port to =
    if is_muxed_rtcp calls port && not (to.port == 0)
    then record { port = port - 1; to = record { ip = to.ip; port = to.port - 1 } }
    else straight port to
