-- What the states of sealing show and know.
use Rattle.std.specs.Prelude.{◌≡◌, ℕ, ◌<◌, ◌≤◌, Bool, true, List, ◌++◌, length, MatchResult, Result, Ok, Err, Some, slice_get}
use Rattle.sg_base.specs.declared.addresses.Kind.{Kind}
use Rattle.sg_base.specs.declared.addresses.Kind.TheVariants.{Rtp, Rtcp}
use Rattle.sg_base.specs.declared.faults.DropCause.{DropCause}
use Rattle.sg_base.specs.declared.keys.HalfKeys.{HalfKeys}
use Rattle.sg_keys.specs.Live.{Live}
use Rattle.sg_session.specs.Opening.{Head}
use Rattle.sg_session.specs.Sealed.{crypted, index_word, tagged_rtp, tagged_rtcp}
use Rattle.sg_session.specs.Stages.{after_ok}
use Rattle.sg_states.specs.Choosing.{chosen_to_seal}
use Rattle.sg_states.specs.Parts.{heading_out, IsNumber}
use Rattle.sg_states.specs.declared.outbound.Sealed.{Sealed}

-- a plain packet with its head
pub record Outgoing : Type 0 where
  pub pad : List ℕ
  pub kind : Kind
  pub head : Head

-- with its key, where it stands and its number, and its index
pub record Numbering : Type 0 where
  pub headed : Outgoing
  pub key : ℕ
  pub number : ℕ
  pub index : ℕ

-- the head lies in the packet, and both fit a datagram
pub record IsOutgoing (p : List ℕ) (kind : Kind) (head : Head) : Type 0 where
  pub inside : head.size ≤ length p
  pub most : length p ≤ 4096
  pub number : IsNumber kind head.number

-- the head that the packet has
pub record IsOutHeaded (p : List ℕ) (kind : Kind) (encrypts : Bool) (h : Outgoing) : Type 0 where
  pub same_pad : h.pad ≡ p
  pub same_kind : h.kind ≡ kind
  pub reads : heading_out kind encrypts p ≡ Ok h.head

-- the chosen key stands there, and has the number
pub record IsNumbered (h : Outgoing) (keys : List Live) (n : Numbering) : Type 0 where
  pub same : n.headed ≡ h
  pub key : Live
  pub at : slice_get keys n.key ≡ Some key
  pub number : key.number ≡ n.number
  pub choice : chosen_to_seal keys ≡ Ok key

-- the index, where a key may serve, or the first cause
abbrev pub numbered : List Live → Result ℕ DropCause → Result ℕ DropCause
numbered keys r = after_ok (chosen_to_seal keys) (λ k. r)

-- the index that was taken, or the first cause
abbrev pub IsNumberedAs : {F : Type 0} → (F → DropCause) → List Live → Result ℕ DropCause → Result Numbering (List ℕ × F) → Type 0
IsNumberedAs of keys r result = MatchResult result (λ n. r ≡ Ok n.index) (λ e. numbered keys r ≡ Err (of e.1))

-- the key that stands there has this number, and encrypts where that is wanted
pub record CanSeal (keys : List Live) (at number : ℕ) (encrypted : Bool) : Type 0 where
  pub key : Live
  pub here : slice_get keys at ≡ Some key
  pub same : key.number ≡ number
  pub cipher : encrypted ≡ true → 0 < length key.half.encrypt

-- the packet with its keystream on it, where it is to be encrypted
abbrev pub encrypted_at : Outgoing → Bool → HalfKeys → ℕ → List ℕ
encrypted_at h encrypted half index = crypted encrypted half h.head.ssrc index h.head.size h.pad

abbrev pub closed : Kind → HalfKeys → Bool → ℕ → ℕ → List ℕ → List ℕ → List ℕ
closed Rtp half encrypted tag_len index mki c = tagged_rtp half tag_len index mki c
closed Rtcp half encrypted tag_len index mki c = tagged_rtcp half mki (c ++ index_word encrypted index)

-- the datagram of a packet that has its index
abbrev pub datagram_at : Numbering → Live → Bool → ℕ → List ℕ
datagram_at n key encrypted tag_len = closed n.headed.kind key.half encrypted tag_len n.index key.mki (encrypted_at n.headed encrypted key.half n.index)

-- the datagram that is sealed
pub record IsSealedOf (n : Numbering) (key : Live) (encrypted : Bool) (tag_len : ℕ) (o : Sealed) : Type 0 where
  pub text : o.pad ≡ datagram_at n key encrypted tag_len
  pub ssrc : o.ssrc ≡ n.headed.head.ssrc
  pub index : o.index ≡ n.index
  pub number : o.key ≡ key.number
