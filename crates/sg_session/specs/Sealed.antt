-- Sealed packets (RFC 3711, 3.1 and 3.4).
use Rattle.std.specs.Prelude.{ℕ, ◌+◌, ◌-◌, ◌/◌, Bool, if◌then◌else◌, List, ◌++◌, length, take, drop, Result, Ok, Err}
use Rattle.sg_base.specs.Octets.{be, xor_octets}
use Rattle.sg_base.specs.declared.addresses.Kind.{Kind}
use Rattle.sg_base.specs.declared.addresses.Kind.TheVariants.{Rtp, Rtcp}
use Rattle.sg_base.specs.declared.faults.HeadFault.{HeadFault}
use Rattle.sg_base.specs.declared.keys.HalfKeys.{HalfKeys}
use Rattle.sg_hmac.specs.Hmac.{hmac_sha1}
use Rattle.sg_rtp.specs.declared.heads.RtpHead.{RtpHead}
use Rattle.sg_rtp.specs.Heads.{rtp_head}
use Rattle.sg_ctr.specs.Keystream.{keystream}

-- The octets behind the head, XORed with the packet's keystream where encryption is on (4.1). Twice done,
-- it gives the packet back.
abbrev pub crypted : Bool → HalfKeys → ℕ → ℕ → ℕ → List ℕ → List ℕ
crypted on half ssrc index size p =
    if on then take size p ++ xor_octets (drop size p) (keystream half.encrypt half.salt ssrc index (length p - size)) else p

-- the tag covers the packet and the rollover counter, as four octets (4.2)
abbrev pub rtp_tag : HalfKeys → ℕ → ℕ → List ℕ → List ℕ
rtp_tag half tag_len index c = take tag_len (hmac_sha1 half.auth (c ++ be (index / 65536) 4))

-- what was encrypted, the MKI and the tag (3.1)
abbrev pub tagged_rtp : HalfKeys → ℕ → ℕ → List ℕ → List ℕ → List ℕ
tagged_rtp half tag_len index mki c = c ++ (mki ++ rtp_tag half tag_len index c)

-- E as the highest bit and the 31 bits of the index (3.4)
abbrev pub index_word : Bool → ℕ → List ℕ
index_word on index = be ((if on then 2147483648 else 0) + index) 4

-- the tag covers the packet and the index word; it has ten octets in every suite (4.2; RFC 4568, 6.2)
abbrev pub rtcp_tag : HalfKeys → List ℕ → List ℕ
rtcp_tag half c = take 10 (hmac_sha1 half.auth c)

-- what was encrypted with its index word, the MKI and the tag (3.4)
abbrev pub tagged_rtcp : HalfKeys → List ℕ → List ℕ → List ℕ
tagged_rtcp half mki c = c ++ (mki ++ rtcp_tag half c)

-- the octets of a packet's head: those of RTP as its head tells, and eight of RTCP
abbrev pub size_of : Result RtpHead HeadFault → ℕ
size_of (Ok head) = head.length
size_of (Err fault) = 0

abbrev pub head_size : Kind → List ℕ → ℕ
head_size Rtp p = size_of (rtp_head p)
head_size Rtcp p = 8

-- the sealing of an RTP packet of this source under these keys, at this index
abbrev pub sealed_rtp : HalfKeys → Bool → ℕ → List ℕ → ℕ → ℕ → List ℕ → List ℕ
sealed_rtp half on tag_len mki ssrc index p = tagged_rtp half tag_len index mki (crypted on half ssrc index (head_size Rtp p) p)

-- the sealing of an RTCP packet
abbrev pub sealed_rtcp : HalfKeys → Bool → List ℕ → ℕ → ℕ → List ℕ → List ℕ
sealed_rtcp half on mki ssrc index p = tagged_rtcp half mki (crypted on half ssrc index (head_size Rtcp p) p ++ index_word on index)

-- the sealing of a packet of either kind
abbrev pub sealed_text : Kind → HalfKeys → Bool → ℕ → List ℕ → ℕ → ℕ → List ℕ → List ℕ
sealed_text Rtp half on tag_len mki ssrc index p = sealed_rtp half on tag_len mki ssrc index p
sealed_text Rtcp half on tag_len mki ssrc index p = sealed_rtcp half on mki ssrc index p
