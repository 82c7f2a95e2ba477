-- What the states of opening show and know.
use Rattle.std.specs.Prelude.{◌≡◌, ℕ, ◌<◌, ◌≤◌, Bool, true, false, List, length, MatchResult, Result, Ok, Err, Some, slice_get}
use Rattle.sg_base.specs.declared.addresses.Kind.{Kind}
use Rattle.sg_base.specs.declared.faults.DropCause.{DropCause}
use Rattle.sg_base.specs.declared.keys.HalfKeys.{HalfKeys}
use Rattle.sg_keys.specs.Live.{Live}
use Rattle.sg_session.specs.Opening.{Head}
use Rattle.sg_session.specs.Sealed.{crypted}
use Rattle.sg_states.specs.Choosing.{chosen_for}
use Rattle.sg_states.specs.declared.inbound.Opened.{Opened}
use Rattle.sg_states.specs.Parts.{heading, mki_of, part_of, tag_fits_at, IsWhole}

-- a datagram with its head, and the lengths of its MKI and its tag
pub record Heading : Type 0 where
  pub pad : List ℕ
  pub kind : Kind
  pub mki_len : ℕ
  pub tag_len : ℕ
  pub head : Head

-- with its key: where it stands among the keys, and its number
pub record Keying : Type 0 where
  pub headed : Heading
  pub key : ℕ
  pub number : ℕ

-- with its index
pub record Placing : Type 0 where
  pub keyed : Keying
  pub index : ℕ

-- the parts lie in the datagram
pub record IsHeading (kind : Kind) (m t : ℕ) (d : List ℕ) (head : Head) : Type 0 where
  pub whole : IsWhole kind m t d head
  pub mki : m ≤ 128
  pub tag : t ≤ 20

-- the head that the datagram has
pub record IsHeaded (d : List ℕ) (kind : Kind) (encrypts : Bool) (m t : ℕ) (h : Heading) : Type 0 where
  pub same_pad : h.pad ≡ d
  pub same_kind : h.kind ≡ kind
  pub same_mki_len : h.mki_len ≡ m
  pub same_tag_len : h.tag_len ≡ t
  pub reads : heading kind encrypts m t d ≡ Ok h.head

-- the chosen key stands there, and has the number
pub record IsKeyed (h : Heading) (keys : List Live) (k : Keying) : Type 0 where
  pub same : k.headed ≡ h
  pub key : Live
  pub at : slice_get keys k.key ≡ Some key
  pub number : key.number ≡ k.number
  pub choice : chosen_for keys (mki_of h.mki_len h.tag_len h.pad) ≡ Ok key

-- the index that was found, or the cause
abbrev pub IsPlacedAs : {F : Type 0} → (F → DropCause) → Result ℕ DropCause → Result Placing (List ℕ × F) → Type 0
IsPlacedAs of r result = MatchResult result (λ p. r ≡ Ok p.index) (λ e. r ≡ Err (of e.1))

-- the test of a datagram's tag at its index, under a key
abbrev pub fits_under : Placing → Live → Bool
fits_under p key = tag_fits_at p.keyed.headed.kind p.keyed.headed.mki_len p.keyed.headed.tag_len p.index p.keyed.headed.pad key.half.auth

pub record IsVerified (p : Placing) (key : Live) (v : Placing) : Type 0 where
  pub same : v ≡ p
  pub fits : fits_under p key ≡ true

pub record IsUnverified (p : Placing) (key : Live) (pad : List ℕ) : Type 0 where
  pub same : pad ≡ p.keyed.headed.pad
  pub unfit : fits_under p key ≡ false

-- the packet of a datagram that is encrypted or not, at its index, under these keys
abbrev pub packet_at : Heading → Bool → HalfKeys → ℕ → List ℕ
packet_at h encrypted half index = crypted encrypted half h.head.ssrc index h.head.size (part_of h.kind h.mki_len h.tag_len h.pad)

-- the key that stands there has this number: the keys are those that it was chosen among
pub record IsKeyOf (keys : List Live) (at number : ℕ) : Type 0 where
  pub key : Live
  pub here : slice_get keys at ≡ Some key
  pub same : key.number ≡ number

-- and it may serve, and encrypts where that is wanted
pub record CanServe (keys : List Live) (at number : ℕ) (encrypted : Bool) : Type 0 where
  pub key : Live
  pub here : slice_get keys at ≡ Some key
  pub same : key.number ≡ number
  pub alive : key.count < key.life
  pub cipher : encrypted ≡ true → 0 < length key.half.encrypt

-- the packet that is opened
pub record IsOpened (p : Placing) (key : Live) (encrypted : Bool) (o : Opened) : Type 0 where
  pub packet : o.pad ≡ packet_at p.keyed.headed encrypted key.half p.index
  pub ssrc : o.ssrc ≡ p.keyed.headed.head.ssrc
  pub index : o.index ≡ p.index
  pub number : o.key ≡ key.number
