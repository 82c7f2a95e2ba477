-- Opening a datagram (RFC 3711, 3.3 and 3.4), with every cause in its one order.
use Rattle.std.specs.Prelude.{ℕ, ◌+◌, ◌-◌, ◌/◌, ◌%◌, Bool, not, nat_lt, nat_le, if◌then◌else◌, List, [], ◌∷◌, ◌++◌, length, take, drop, Result, Ok, Err}
use Rattle.sg_base.specs.Octets.{be, same_octets, number_of}
use Rattle.sg_base.specs.declared.addresses.Kind.{Kind}
use Rattle.sg_base.specs.declared.addresses.Kind.TheVariants.{Rtp, Rtcp}
use Rattle.sg_base.specs.declared.faults.DropCause.{DropCause}
use Rattle.sg_base.specs.declared.faults.DropCause.TheVariants as cause
use Rattle.sg_base.specs.declared.faults.HeadFault.{HeadFault}
use Rattle.sg_base.specs.declared.faults.HeadFault.TheVariants as head_fault
use Rattle.sg_base.specs.declared.keys.HalfKeys.{HalfKeys}
use Rattle.sg_hmac.specs.Hmac.{hmac_sha1}
use Rattle.sg_session.specs.Halves.{half_of}
use Rattle.sg_session.specs.Sealed.{crypted}
use Rattle.sg_session.specs.Session.{Key, Done, Session, indices_of, index_in, count_of, is_live, admits, has_room}
use Rattle.sg_session.specs.Stages.{after_ok, stop_if}
use Rattle.sg_replay.specs.Freshness.{freshness}
use Rattle.sg_replay.specs.declared.seen.Freshness.{Freshness}
use Rattle.sg_replay.specs.declared.seen.Freshness.TheVariants.{New, Repeat, TooOld}
use Rattle.sg_rtp.specs.declared.heads.RtpHead.{RtpHead}
use Rattle.sg_rtp.specs.declared.heads.RtcpHead.{RtcpHead}
use Rattle.sg_rtp.specs.Heads.{rtp_head, rtcp_head}
use Rattle.sg_kdf.specs.SessionKeys.{session_keys}

-- A datagram is a packet, of RTCP its index word behind it, then an MKI and a tag. All keys of a session
-- have MKIs of one length.
abbrev pub mki_len_of : List Key → ℕ
mki_len_of [] = 0
mki_len_of (k ∷ ks) = length k.mki

abbrev pub mki_len : Session → ℕ
mki_len s = mki_len_of s.keys

-- the octets of MKI and tag
abbrev pub end_len : Session → ℕ
end_len s = mki_len s + s.tag_len

abbrev pub before_mki : Session → List ℕ → List ℕ
before_mki s d = take (length d - end_len s) d

abbrev pub mki_in : Session → List ℕ → List ℕ
mki_in s d = take (mki_len s) (drop (length d - end_len s) d)

abbrev pub tag_in : Session → List ℕ → List ℕ
tag_in s d = drop (length d - s.tag_len) d

-- the part of a datagram that was a packet
abbrev pub part_of_kind : Kind → Session → List ℕ → List ℕ
part_of_kind Rtp s d = before_mki s d
part_of_kind Rtcp s d = take (length d - (end_len s + 4)) d

abbrev pub packet_part : Session → List ℕ → List ℕ
packet_part s d = part_of_kind s.name.kind s d

-- the number that an RTCP datagram's index word is (3.4)
abbrev pub index_word_in : Session → List ℕ → ℕ
index_word_in s d = number_of (drop (length d - (end_len s + 4)) (before_mki s d))

-- What a packet's head says: its octets, its source, its number, which of RTCP is the index that the
-- datagram carries, and whether the rest is encrypted.
pub record Head : Type 0 where
  pub size : ℕ
  pub ssrc : ℕ
  pub number : ℕ
  pub encrypted : Bool

abbrev pub head_cause : HeadFault → DropCause
head_cause head_fault.Short = cause.Short
head_cause head_fault.Version = cause.Version
head_cause head_fault.CsrcCut = cause.CsrcCut
head_cause head_fault.ExtensionCut = cause.ExtensionCut

abbrev pub of_rtp : Bool → Result RtpHead HeadFault → Result Head DropCause
of_rtp encrypted (Err fault) = Err (head_cause fault)
of_rtp encrypted (Ok head) = Ok (record { size = head.length; ssrc = head.ssrc; number = head.seq; encrypted = encrypted })

abbrev pub of_rtcp : ℕ → Bool → Result RtcpHead HeadFault → Result Head DropCause
of_rtcp number encrypted (Err fault) = Err (head_cause fault)
of_rtcp number encrypted (Ok head) = Ok (record { size = 8; ssrc = head.ssrc; number = number; encrypted = encrypted })

-- RTP is encrypted as the session has it, RTCP as the datagram's own E says (3.4)
abbrev pub head_of_kind : Kind → Session → List ℕ → Result Head DropCause
head_of_kind Rtp s d = of_rtp s.encrypts (rtp_head (packet_part s d))
head_of_kind Rtcp s d = of_rtcp (index_word_in s d % 2147483648) (nat_le 2147483648 (index_word_in s d)) (rtcp_head (packet_part s d))

-- the head of the part that was a packet
abbrev pub head_in : Session → List ℕ → Result Head DropCause
head_in s d = stop_if (nat_lt (length d) (12 + end_len s)) cause.Short (head_of_kind s.name.kind s d)

-- the first key that has this MKI (3.1)
abbrev pub key_with : List Key → List ℕ → Result Key DropCause
key_with [] mki = Err cause.MkiUnknown
key_with (k ∷ ks) mki = if same_octets k.mki mki then Ok k else key_with ks mki

-- the index of a packet; an RTCP datagram carries its own (3.3.1, 3.4)
abbrev pub place_of_kind : Kind → Session → Head → Result ℕ DropCause
place_of_kind Rtp s h = index_in s h.ssrc h.number
place_of_kind Rtcp s h = Ok h.number

abbrev pub place_in : Session → Head → Result ℕ DropCause
place_in s h = place_of_kind s.name.kind s h

abbrev pub if_new : ℕ → Freshness → Result ℕ DropCause
if_new index New = Ok index
if_new index Repeat = Err cause.Repeat
if_new index TooOld = Err cause.TooOld

-- the index, where it is new to the session (3.3.2)
abbrev pub fresh_index : Session → ℕ → ℕ → Result ℕ DropCause
fresh_index s ssrc i = if_new i (freshness s.window (indices_of s.done ssrc) i)

-- what is to be compared by its tag
pub record Check : Type 0 where
  pub key : Key
  pub head : Head
  pub index : ℕ

-- the first cause before the tag, or what is to be compared
abbrev pub checked : Session → List ℕ → Result Check DropCause
checked s d =
    after_ok (head_in s d) (λ h.
    stop_if (not (admits s h.ssrc)) cause.SsrcUnknown
    (after_ok (key_with s.keys (mki_in s d)) (λ k.
    stop_if (not (is_live s k)) (cause.KeySpent k.number (count_of s k))
    (after_ok (place_in s h) (λ i.
    after_ok (fresh_index s h.ssrc i) (λ j.
    Ok (record { key = k; head = h; index = j })))))))

-- the session keys under which a key of the session serves it
abbrev pub half_in : Session → Key → HalfKeys
half_in s k = half_of s.name.kind (session_keys k.master)

-- what the tag covers: all before the MKI, and of RTP the rollover counter (4.2)
abbrev pub covered_of_kind : Kind → Session → Check → List ℕ → List ℕ
covered_of_kind Rtp s k d = before_mki s d ++ be (k.index / 65536) 4
covered_of_kind Rtcp s k d = before_mki s d

abbrev pub covered : Session → Check → List ℕ → List ℕ
covered s k d = covered_of_kind s.name.kind s k d

abbrev pub tag_fits : Session → Check → List ℕ → Bool
tag_fits s k d = same_octets (tag_in s d) (take s.tag_len (hmac_sha1 (half_in s k.key).auth (covered s k d)))

-- the packet that the datagram seals
abbrev pub packet_of : Session → Check → List ℕ → List ℕ
packet_of s k d = crypted k.head.encrypted (half_in s k.key) k.head.ssrc k.index k.head.size (packet_part s d)

-- what was opened or sealed, and the key
pub record Taken : Type 0 where
  pub key : Key
  pub done : Done

-- the entry of what is opened
abbrev pub taken_by : Session → List ℕ → Check → Taken
taken_by s d k = record {
  key = k.key;
  done = record { ssrc = k.head.ssrc; index = k.index; key = k.key.number; packet = packet_of s k d };
}

abbrev pub opened_if : Session → List ℕ → Check → Result Taken DropCause
opened_if s d k =
    stop_if (not (tag_fits s k d)) cause.BadTag
    (stop_if (not (has_room s k.head.ssrc)) cause.StreamsFull
    (Ok (taken_by s d k)))

-- the first cause that holds, or what is opened
abbrev pub opens : Session → List ℕ → Result Taken DropCause
opens s d = after_ok (checked s d) (opened_if s d)
