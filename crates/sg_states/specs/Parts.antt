-- The parts of a datagram that ends in an MKI of m octets and a tag of t octets (RFC 3711, 3.1 and 3.4),
-- as the definitions of opening have them.
use Rattle.std.specs.Prelude.{ℕ, ◌+◌, ◌-◌, ◌/◌, ◌%◌, ◌<◌, ◌≤◌, Bool, ◌==◌, ◌||◌, nat_lt, nat_le, List, ◌++◌, length, take, drop, Result}
use Rattle.sg_base.specs.Octets.{be, number_of, same_octets}
use Rattle.sg_base.specs.declared.addresses.Kind.{Kind}
use Rattle.sg_base.specs.declared.addresses.Kind.TheVariants.{Rtp, Rtcp}
use Rattle.sg_base.specs.declared.faults.DropCause.{DropCause}
use Rattle.sg_base.specs.declared.faults.DropCause.TheVariants.{Short}
use Rattle.sg_hmac.specs.Hmac.{hmac_sha1}
use Rattle.sg_rtp.specs.Heads.{rtp_head, rtcp_head}
use Rattle.sg_session.specs.Opening.{Head, of_rtp, of_rtcp}
use Rattle.sg_session.specs.Stages.{stop_if}

-- the octets of a tag: ten, or four of RTP (RFC 3711, 5.2; RFC 4568, 6.2)
abbrev pub is_tag_len : Kind → ℕ → Bool
is_tag_len Rtp n = (n == 10) || (n == 4)
is_tag_len Rtcp n = n == 10

-- all before the MKI
abbrev pub prefix_of : ℕ → ℕ → List ℕ → List ℕ
prefix_of m t d = take (length d - (m + t)) d

abbrev pub mki_of : ℕ → ℕ → List ℕ → List ℕ
mki_of m t d = take m (drop (length d - (m + t)) d)

abbrev pub tag_of : ℕ → List ℕ → List ℕ
tag_of t d = drop (length d - t) d

-- the octets between the packet and the MKI: of RTCP the index word
abbrev pub word_len : Kind → ℕ
word_len Rtp = 0
word_len Rtcp = 4

-- the part that was a packet
abbrev pub part_of : Kind → ℕ → ℕ → List ℕ → List ℕ
part_of Rtp m t d = prefix_of m t d
part_of Rtcp m t d = take (length d - ((m + t) + 4)) d

-- the number that the index word is
abbrev pub word_of : ℕ → ℕ → List ℕ → ℕ
word_of m t d = number_of (drop (length d - ((m + t) + 4)) (prefix_of m t d))

abbrev pub heading_of : Kind → Bool → ℕ → ℕ → List ℕ → Result Head DropCause
heading_of Rtp encrypts m t d = of_rtp encrypts (rtp_head (prefix_of m t d))
heading_of Rtcp encrypts m t d =
    of_rtcp (word_of m t d % 2147483648) (nat_le 2147483648 (word_of m t d)) (rtcp_head (part_of Rtcp m t d))

-- the head of the part that was a packet, or the first cause
abbrev pub heading : Kind → Bool → ℕ → ℕ → List ℕ → Result Head DropCause
heading kind encrypts m t d = stop_if (nat_lt (length d) (12 + (m + t))) Short (heading_of kind encrypts m t d)

-- the head of a plain packet
abbrev pub heading_out : Kind → Bool → List ℕ → Result Head DropCause
heading_out Rtp encrypts p = of_rtp encrypts (rtp_head p)
heading_out Rtcp encrypts p = of_rtcp 0 encrypts (rtcp_head p)

-- the head's number fits its kind
abbrev pub IsNumber : Kind → ℕ → Type 0
IsNumber Rtp n = n < 65536
IsNumber Rtcp n = n < 2147483648

-- head, word, MKI and tag lie in the datagram
pub record IsWhole (kind : Kind) (m t : ℕ) (d : List ℕ) (head : Head) : Type 0 where
  pub inside : head.size + (word_len kind + (m + t)) ≤ length d
  pub number : IsNumber kind head.number

-- what the tag covers
abbrev pub covered_by : Kind → ℕ → List ℕ → List ℕ
covered_by Rtp index c = c ++ be (index / 65536) 4
covered_by Rtcp index c = c

-- the tag of the datagram is that of its front at this index
abbrev pub tag_fits_at : Kind → ℕ → ℕ → ℕ → List ℕ → List ℕ → Bool
tag_fits_at kind m t index d auth = same_octets (tag_of t d) (take t (hmac_sha1 auth (covered_by kind index (prefix_of m t d))))
