-- Packets that someone sealed, their texts in a session, and which of them are within its reach.
use Rattle.std.specs.Prelude.{◌≡◌, ℕ, ◌+◌, ◌/◌, ◌%◌, ◌<◌, ◌≤◌, Bool, true, false, List, [], ◌∷◌, ◌++◌, length, map, Option, Some, None, Ok}
use Rattle.std.specs.List.{All, AllByRecursion, Any}
use Rattle.sg_base.specs.Keys.{Master}
use Rattle.sg_base.specs.declared.addresses.Kind.{Kind}
use Rattle.sg_base.specs.declared.addresses.Kind.TheVariants.{Rtp, Rtcp}
use Rattle.sg_session.specs.Halves.{half_of}
use Rattle.sg_kdf.specs.SessionKeys.{is_raw}
use Rattle.sg_session.specs.Opening.{Taken, before_mki, tag_in}
use Rattle.sg_session.specs.Sealed.{sealed_text}
use Rattle.sg_session.specs.Session.{Key, Session, indices_of, highest_in, is_live, admits, has_room}
use Rattle.sg_replay.specs.Freshness.{freshness}
use Rattle.sg_replay.specs.declared.seen.Freshness.TheVariants.{New}
use Rattle.sg_rtp.specs.declared.heads.RtpHead.{RtpHead}
use Rattle.sg_rtp.specs.declared.heads.RtcpHead.{RtcpHead}
use Rattle.sg_rtp.specs.Heads.{rtp_head, rtcp_head}
use Rattle.sg_kdf.specs.SessionKeys.{session_keys}

-- a packet that someone sealed: under which master key, as which kind, of which source, at which index,
-- the plain packet, and of RTCP whether it was encrypted; no tag covers an MKI
pub record Sealed : Type 0 where
  pub master : Master
  pub kind : Kind
  pub ssrc : ℕ
  pub index : ℕ
  pub packet : List ℕ
  pub encrypted : Bool

-- the index has its bits, and the packet's head has the source and, of RTP, the index's lowest 16 bits
abbrev pub HasHeadAt : Kind → ℕ → ℕ → List ℕ → Type 0
HasHeadAt Rtp ssrc index p = (index < 281474976710656) × ((h : RtpHead) × (rtp_head p ≡ Ok h) × (h.ssrc ≡ ssrc) × (h.seq ≡ index % 65536))
HasHeadAt Rtcp ssrc index p = (index < 2147483648) × ((h : RtcpHead) × (rtcp_head p ≡ Ok h) × (h.ssrc ≡ ssrc))

abbrev pub HasHead : Kind → Sealed → Type 0
HasHead kind x = HasHeadAt kind x.ssrc x.index x.packet

abbrev pub IsSealed : Sealed → Type 0
IsSealed x = HasHead x.kind x

abbrev pub AreSealed : List Sealed → Type 0
AreSealed sealed = All IsSealed sealed

-- x was sealed under this key, of this kind, of this source and at this index
pub record IsAt (master : Master) (kind : Kind) (ssrc index : ℕ) (x : Sealed) : Type 0 where
  pub same_master : x.master ≡ master
  pub same_kind : x.kind ≡ kind
  pub same_ssrc : x.ssrc ≡ ssrc
  pub same_index : x.index ≡ index

-- RTP is encrypted by the session's choice, RTCP by the packet's own
abbrev pub choice_of : Kind → Session → Sealed → Bool
choice_of Rtp s x = s.encrypts
choice_of Rtcp s x = x.encrypted

-- the sealing of x in this session, with this MKI
abbrev pub text_in : Session → List ℕ → Sealed → List ℕ
text_in s mki x = sealed_text x.kind (half_of x.kind (session_keys x.master)) (choice_of x.kind s x) s.tag_len mki x.ssrc x.index x.packet

-- a datagram in all but its MKI
abbrev pub without_mki : Session → List ℕ → List ℕ
without_mki s d = before_mki s d ++ tag_in s d

-- An index is near where it is less than 2^15 ahead of the highest of its source; where nothing of the
-- source is done, where it lies in the block of the starting rollover.
abbrev pub IsNear : ℕ → ℕ → Option ℕ → Type 0
IsNear roc index None = index / 65536 ≡ roc
IsNear roc index (Some h) = index < h + 32768

-- an RTCP index is carried, and not estimated
abbrev pub IsNearIn : Kind → Session → Sealed → Type 0
IsNearIn Rtp s x = IsNear s.roc x.index (highest_in s x.ssrc)
IsNearIn Rtcp s x = Unit {0}

-- x is within reach of the session: its source is admitted with a free place, and its index is near and new
pub record IsWithinReach (s : Session) (x : Sealed) : Type 0 where
  pub admitted : admits s x.ssrc ≡ true
  pub room : has_room s x.ssrc ≡ true
  pub near : IsNearIn x.kind s x
  pub new : freshness s.window (indices_of s.done x.ssrc) x.index ≡ New

-- what a session has done once it has taken this packet under this key
abbrev pub taken_under : Key → ℕ → ℕ → List ℕ → Taken
taken_under k ssrc index p = record { key = k; done = record { ssrc = ssrc; index = index; key = k.number; packet = p } }

-- what a session has done once it has opened x under this key
abbrev pub taken_of : Key → Sealed → Taken
taken_of k x = taken_under k x.ssrc x.index x.packet

-- an index is next where it is one more than the highest of its source, and 0 where nothing of the source is done
abbrev pub IsNext : ℕ → Option ℕ → Type 0
IsNext index None = index ≡ 0
IsNext index (Some h) = index ≡ h + 1

-- an RTP packet is sealed at an index that is near and new; RTCP is counted
abbrev pub IsFree : Kind → Session → ℕ → ℕ → Type 0
IsFree Rtp s ssrc index = IsNear s.roc index (highest_in s ssrc) × (freshness s.window (indices_of s.done ssrc) index ≡ New)
IsFree Rtcp s ssrc index = IsNext index (highest_in s ssrc)

-- A packet can be sealed at this index of this source: its head says so, the source is admitted with a
-- free place, some key is live, and the index is free.
pub record CanBeSealed (s : Session) (ssrc index : ℕ) (p : List ℕ) : Type 0 where
  pub head : HasHeadAt s.name.kind ssrc index p
  pub admitted : admits s ssrc ≡ true
  pub room : has_room s ssrc ≡ true
  pub live : Any (λ k. is_live s k ≡ true) s.keys
  pub free : IsFree s.name.kind s ssrc index

-- all differ
abbrev pub AreDistinct : List (List ℕ) → Type 0
AreDistinct [] = Unit {0}
AreDistinct (x ∷ xs) = AllByRecursion (λ y. x ≡ y → ⊥) xs × AreDistinct xs

-- all have the length of the first
abbrev pub HaveOneLength : List (List ℕ) → Type 0
HaveOneLength [] = Unit {0}
HaveOneLength (x ∷ xs) = AllByRecursion (λ y. length y ≡ length x) xs

abbrev pub AreMkis : List (List ℕ) → Type 0
AreMkis xs = AreDistinct xs × HaveOneLength xs

-- a tag has ten octets at most, and that of RTCP has ten
abbrev pub HasTags : Kind → Session → Type 0
HasTags Rtp s = s.tag_len ≤ 10
HasTags Rtcp s = s.tag_len ≡ 10

-- A session as the gateway makes them: its keys' MKIs are distinct and of one length, its window is at
-- most 1,024 indices, its tags have their lengths, and no key of an encrypting session is raw.
pub record IsSound (s : Session) : Type 0 where
  pub mkis : AreMkis (map (λ k. k.mki) s.keys)
  pub window : s.window ≤ 1024
  pub tags : HasTags s.name.kind s
  pub secret : s.encrypts ≡ true → AllByRecursion (λ k. is_raw k.master.suite ≡ false) s.keys
