-- What a session shows of a datagram or packet that it doesn't take: that the cause holds, and none before it, by its octets and
-- by what is done. Of the definitions of opening and sealing it uses none.
use Rattle.std.specs.Prelude.{◌≡◌, ◌⊎◌, ◌<◌, ◌≤◌, ℕ, ◌+◌, ◌*◌, ◌/◌, ◌%◌, ◌^◌, ◌==◌, List, [], ◌∷◌, ◌++◌, length, take, count_by, slice_index}
use Rattle.std.specs.List.{AllByRecursion, Any}
use Rattle.sg_base.specs.Octets.{be, number_of}
use Rattle.sg_base.specs.declared.addresses.Kind.{Kind}
use Rattle.sg_base.specs.declared.addresses.Kind.TheVariants.{Rtp, Rtcp}
use Rattle.sg_base.specs.declared.faults.DropCause.{DropCause}
use Rattle.sg_base.specs.declared.faults.DropCause.TheVariants as causes
use Rattle.sg_hmac.specs.Hmac.{hmac_sha1}
use Rattle.sg_index.specs.Nearest.{IsBeforeFirst, IsNearest, IsSpent}
use Rattle.sg_kdf.specs.SessionKeys.{session_keys}
use Rattle.sg_rtp.specs.Fields.{u16_at, u32_at}
use Rattle.sg_session.specs.Halves.{half_of}
use Rattle.sg_session.specs.Session.{Key, Session}
use Rattle.sg_gateway.specs.Newness.{IsAdmittedBy, IsLiveIn, IsNewIn}
use Rattle.sg_conduct.specs.Place.{HasPlace}

-- ---- a packet's head (RFC 3550, 5.1, 5.3.1 and 6.4.1)

-- the octets of the least one
abbrev pub least : Kind → ℕ
least Rtp = 12
least Rtcp = 8

abbrev pub source_in : Kind → List ℕ → ℕ
source_in Rtp p = u32_at p 8
source_in Rtcp p = u32_at p 4

abbrev pub number_in : List ℕ → ℕ
number_in p = u16_at p 2

abbrev pub version_in : List ℕ → ℕ
version_in p = slice_index p 0 / 64

abbrev pub HasExtension : List ℕ → Type 0
HasExtension p = slice_index p 0 / 16 % 2 ≡ 1

-- where the list of contributing sources ends, and where an extension does
abbrev pub listed : List ℕ → ℕ
listed p = 12 + 4 * (slice_index p 0 % 16)

abbrev pub extended : List ℕ → ℕ
extended p = listed p + (4 + 4 * u16_at p (listed p + 2))

-- the head is whole
abbrev pub HasHead : Kind → List ℕ → Type 0
HasHead Rtp p = (version_in p ≡ 2) × (listed p ≤ length p) × (HasExtension p → extended p ≤ length p)
HasHead Rtcp p = (version_in p ≡ 2) × (least Rtcp ≤ length p)

-- and its source is admitted
abbrev pub IsAdmitted : Kind → Session → List ℕ → Type 0
IsAdmitted kind s p = HasHead kind p × IsAdmittedBy s.admit s.done (source_in kind p)

-- ---- a packet's index (RFC 3711, 3.3.1, 3.4 and appendix A)

abbrev pub IsDone : Session → ℕ → ℕ → Type 0
IsDone s ssrc i = Any (λ d. (d.ssrc ≡ ssrc) × (d.index ≡ i)) s.done

abbrev pub HasNothing : Session → ℕ → Type 0
HasNothing s ssrc = AllByRecursion (λ d. ¬ d.ssrc ≡ ssrc) s.done

abbrev pub IsHighest : Session → ℕ → ℕ → Type 0
IsHighest s ssrc h = IsDone s ssrc h × AllByRecursion (λ d. d.ssrc ≡ ssrc → d.index ≤ h) s.done

-- the index of this number: nearest to the highest of its source, or in the block of the starting rollover where nothing of the
-- source is done
abbrev pub IsEstimated : Session → ℕ → ℕ → ℕ → Type 0
IsEstimated s ssrc seq i =
    (i < 2 ^ 48) × (((h : ℕ) × IsHighest s ssrc h × IsNearest h seq i) ⊎ (HasNothing s ssrc × (i ≡ s.roc * 2 ^ 16 + seq)))

-- that of RTCP stands in the index word, behind E
abbrev pub IsIndexOf : Kind → Session → List ℕ → List ℕ → ℕ → Type 0
IsIndexOf Rtp s p word i = IsEstimated s (source_in Rtp p) (number_in p) i
IsIndexOf Rtcp s p word i = i ≡ number_of word % 2 ^ 31

-- something that is done of the source is a window or more ahead (3.3.2)
abbrev pub IsBehind : Session → ℕ → ℕ → Type 0
IsBehind s ssrc i = Any (λ d. (d.ssrc ≡ ssrc) × (i + s.window ≤ d.index)) s.done

-- nothing is
abbrev pub IsInWindow : Session → ℕ → ℕ → Type 0
IsInWindow s ssrc i = AllByRecursion (λ d. d.ssrc ≡ ssrc → d.index < i + s.window) s.done

-- the key has served its life (9.2), and has this number and this count
abbrev pub IsSpentAt : Session → ℕ → ℕ → Key → Type 0
IsSpentAt s number count k = (k.number ≡ number) × (count_by (λ d. d.key == k.number) s.done ≡ count) × (k.life ≤ count)

-- ---- what a packet shows, with its index word of RTCP: the first of these

abbrev pub HeadShows : Kind → Session → List ℕ → DropCause → Type 0
HeadShows kind s p causes.Version = ¬ version_in p ≡ 2
HeadShows kind s p causes.CsrcCut = (kind ≡ Rtp) × (version_in p ≡ 2) × (length p < listed p)
HeadShows kind s p causes.ExtensionCut = (kind ≡ Rtp) × (version_in p ≡ 2) × (listed p ≤ length p) × HasExtension p × (length p < extended p)
HeadShows kind s p causes.SsrcUnknown = HasHead kind p × (¬ IsAdmittedBy s.admit s.done (source_in kind p))
HeadShows kind s p other = ⊥

abbrev pub IndexShows : Kind → Session → List ℕ → List ℕ → DropCause → Type 0
IndexShows kind s p word causes.BeforeFirst = (kind ≡ Rtp) × ((h : ℕ) × IsHighest s (source_in kind p) h × IsBeforeFirst h (number_in p))
IndexShows kind s p word causes.IndexSpent =
    (kind ≡ Rtp)
    × (((h : ℕ) × IsHighest s (source_in kind p) h × IsSpent h (number_in p)) ⊎ (HasNothing s (source_in kind p) × (2 ^ 48 ≤ s.roc * 2 ^ 16 + number_in p)))
IndexShows kind s p word causes.TooOld = (i : ℕ) × IsIndexOf kind s p word i × IsBehind s (source_in kind p) i
IndexShows kind s p word causes.Repeat = (i : ℕ) × IsIndexOf kind s p word i × IsInWindow s (source_in kind p) i × IsDone s (source_in kind p) i
IndexShows kind s p word other = ⊥

-- ---- at a secure port (RFC 3711, 3.1, 3.4 and 4.2)

-- the octets of an index word
abbrev pub word_size : Kind → ℕ
word_size Rtp = 0
word_size Rtcp = 4

-- a datagram is a packet, of RTCP an index word, an MKI as long as those of the session's keys, and a tag
pub record Parts (kind : Kind) (s : Session) (d : List ℕ) : Type 0 where
  pub packet : List ℕ
  pub word : List ℕ
  pub mki : List ℕ
  pub tag : List ℕ
  pub whole : d ≡ packet ++ (word ++ (mki ++ tag))
  pub of_packet : least kind ≤ length packet
  pub of_word : length word ≡ word_size kind
  pub of_mki : AllByRecursion (λ k. length k.mki ≡ length mki) s.keys
  pub of_tag : length tag ≡ s.tag_len

-- what a tag covers: of RTP the rollover counter too
abbrev pub covered_at : Kind → List ℕ → List ℕ → ℕ → List ℕ
covered_at Rtp p word i = p ++ be (i / 2 ^ 16) 4
covered_at Rtcp p word i = p ++ word

abbrev pub tag_at : Kind → Session → Key → List ℕ → List ℕ → ℕ → List ℕ
tag_at kind s k p word i = take s.tag_len (hmac_sha1 (half_of kind (session_keys k.master)).auth (covered_at kind p word i))

-- a live key has the MKI that stands there
abbrev pub HasKey : Session → List ℕ → Type 0
HasKey s mki = Any (λ k. (k.mki ≡ mki) × IsLiveIn s k) s.keys

-- this holds of the tag of such a key at the packet's index, which is new
pub record IsTagged (kind : Kind) (s : Session) (p word mki : List ℕ) (HasTag : List ℕ → Type 0) : Type 0 where
  pub i : ℕ
  pub index : IsIndexOf kind s p word i
  pub new : IsNewIn s (source_in kind p) i
  pub tagged : Any (λ k. (k.mki ≡ mki) × IsLiveIn s k × HasTag (tag_at kind s k p word i)) s.keys

abbrev pub OpenedShows : Kind → Session → List ℕ → DropCause → Type 0
OpenedShows kind s d causes.Short = AllByRecursion (λ k. length d < least kind + word_size kind + (length k.mki + s.tag_len)) s.keys
OpenedShows kind s d causes.MkiUnknown = (r : Parts kind s d) × IsAdmitted kind s r.packet × AllByRecursion (λ k. ¬ k.mki ≡ r.mki) s.keys
OpenedShows kind s d (causes.KeySpent number count) = (r : Parts kind s d) × IsAdmitted kind s r.packet × Any (λ k. (k.mki ≡ r.mki) × IsSpentAt s number count k) s.keys
OpenedShows kind s d causes.BadTag = (r : Parts kind s d) × IsAdmitted kind s r.packet × IsTagged kind s r.packet r.word r.mki (λ tag. ¬ r.tag ≡ tag)
OpenedShows kind s d causes.StreamsFull =
    (r : Parts kind s d) × IsAdmitted kind s r.packet × IsTagged kind s r.packet r.word r.mki (λ tag. r.tag ≡ tag) × (¬ HasPlace s (source_in kind r.packet))
OpenedShows kind s d cause =
    (r : Parts kind s d) × (HeadShows kind s r.packet cause ⊎ (IsAdmitted kind s r.packet × HasKey s r.mki × IndexShows kind s r.packet r.word cause))

-- ---- at a plain port: RTCP is counted, in 31 bits (RFC 3711, 3.4)

-- the source of a whole packet is admitted, and has a place
abbrev pub IsPlaced : Kind → Session → List ℕ → Type 0
IsPlaced kind s p = IsAdmitted kind s p × HasPlace s (source_in kind p)

abbrev pub SealedShows : Kind → Session → List ℕ → DropCause → Type 0
SealedShows kind s p causes.Short = length p < least kind
SealedShows kind s p causes.StreamsFull = IsAdmitted kind s p × (¬ HasPlace s (source_in kind p))
SealedShows kind s p causes.MkiUnknown = IsPlaced kind s p × (s.keys ≡ [])
SealedShows kind s p (causes.KeySpent number count) =
    IsPlaced kind s p × ((earlier : List Key) × (last : Key) × (s.keys ≡ earlier ++ last ∷ []) × AllByRecursion (λ k. ¬ IsLiveIn s k) earlier × IsSpentAt s number count last)
SealedShows kind s p causes.RtcpIndexSpent =
    (kind ≡ Rtcp) × IsPlaced kind s p × Any (IsLiveIn s) s.keys × Any (λ d. (d.ssrc ≡ source_in kind p) × (2 ^ 31 ≤ d.index + 1)) s.done
SealedShows kind s p cause =
    (least kind ≤ length p) × (HeadShows kind s p cause ⊎ ((kind ≡ Rtp) × IsPlaced kind s p × Any (IsLiveIn s) s.keys × IndexShows kind s p [] cause))
