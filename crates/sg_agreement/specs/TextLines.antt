-- What is agreed by crypto lines stands in the texts (RFC 4568, 5.1, 6.1 and 6.3).
use Rattle.std.specs.Prelude.{◌≡◌, ◌⊎◌, ℕ, List, [], ◌∷◌, ◌++◌, map, not, Option, Some, None, Ok, min, max, codes}
use Rattle.std.specs.List.{AllByRecursion, Any}
use Rattle.sg_base.specs.Mkis.{MkiValue, mki_octets}
use Rattle.sg_base.specs.Suites.{tag_len_of}
use Rattle.sg_sdes.specs.CryptoOf.{crypto_of}
use Rattle.sg_sdes.specs.CryptoText.{crypto_text}
use Rattle.sg_sdes.specs.declared.lines.CryptoLine.{CryptoLine}
use Rattle.sg_sdp.specs.Descriptions.{spelling}
use Rattle.sg_sdp.specs.declared.medium.Medium as descriptions
use Rattle.sg_sdp.specs.declared.sdp.Sdp.{Sdp}
use Rattle.sg_base.specs.declared.sources.Admit.TheVariants as admit
use Rattle.sg_agreement.specs.Media.{Stream, Medium}

-- a key management attribute of the protocol `mikey` (RFC 4567, 3.1)
abbrev pub IsMessageLine : List ℕ → Type 0
IsMessageLine line = (rest : List ℕ) × ((line ≡ codes "a=key-mgmt:mikey") ⊎ (line ≡ codes "a=key-mgmt:mikey " ++ rest))

-- no line of the session part or of a medium is one: the secure side's offer is keyed by its crypto lines
pub record HasNoMessage (s : Sdp) : Type 0 where
  pub session : AllByRecursion (λ line. ¬ IsMessageLine line) s.session
  pub media : AllByRecursion (λ (m : descriptions.Medium). AllByRecursion (λ line. ¬ IsMessageLine line) m.lines) s.media

-- a crypto attribute of the medium is read as this line (9.1)
abbrev pub HasLine : descriptions.Medium → CryptoLine → Type 0
HasLine m l = Any (λ line. (value : List ℕ) × (line ≡ codes "a=crypto:" ++ value) × (crypto_of value ≡ Ok l)) m.lines

-- a crypto attribute of the medium spells this line
abbrev pub TellsLine : descriptions.Medium → CryptoLine → Type 0
TellsLine m l = Any (λ line. line ≡ codes "a=crypto:" ++ crypto_text l) m.lines

-- the octets of a key's MKI; it may have none (6.1)
abbrev pub identifier : Option MkiValue → List ℕ
identifier None = []
identifier (Some m) = mki_octets m

-- What a side sends that says this line: under its keys, with their MKIs and lives, from rollover 0 on, from any source,
-- with tags of its suite (6.1 and 6.4).
pub record IsUnder (s : Stream) (l : CryptoLine) : Type 0 where
  pub masters : map (λ k. k.master) s.keys ≡ map (λ k. k.key) l.keys
  pub mkis : map (λ k. k.mki) s.keys ≡ map (λ k. identifier k.mki) l.keys
  pub lives : map (λ k. k.life) s.keys ≡ map (λ k. k.lifetime) l.keys
  pub roc : s.roc ≡ 0
  pub sources : s.admit ≡ admit.Any
  pub tags : s.tag_len ≡ tag_len_of l.suite

-- the window of the line's parameter WSH, of 64 to 1,024, and 64 without one (6.3.7)
abbrev pub IsWindow : Option ℕ → ℕ → Type 0
IsWindow None window = window ≡ 64
IsWindow (Some size) window = window ≡ max 64 (min size 1024)

-- The peer sends under its line and the gateway under its own, in a window as the peer's line says; and both encrypt what the
-- peer's line doesn't say to be unencrypted (6.3.2).
pub record IsByLines (x : Medium) (peer own : CryptoLine) : Type 0 where
  pub opens : IsUnder x.from_peer peer
  pub seals : IsUnder x.to_peer own
  pub window : IsWindow peer.window x.window
  pub opens_rtp : x.from_peer.encrypts_rtp ≡ not peer.plain_rtp
  pub seals_rtp : x.to_peer.encrypts_rtp ≡ not peer.plain_rtp
  pub opens_rtcp : x.from_peer.encrypts_rtcp ≡ not peer.plain_rtcp
  pub seals_rtcp : x.to_peer.encrypts_rtcp ≡ not peer.plain_rtcp

-- a medium that is agreed is by a line of the peer's medium, and by a line of the same tag that the peer is told (5.1.2)
abbrev pub IsOfTexts : descriptions.Medium → descriptions.Medium → Option Medium → Type 0
IsOfTexts peers told None = Unit {0}
IsOfTexts peers told (Some x) =
    (peer : CryptoLine) × (own : CryptoLine) × HasLine peers peer × TellsLine told own × (own.tag ≡ peer.tag) × IsByLines x peer own

-- of media side by side: those that the peer describes, those that it is told, and those that are agreed
abbrev pub AreOfTexts : List descriptions.Medium → List descriptions.Medium → List (Option Medium) → Type 0
AreOfTexts [] [] [] = Unit {0}
AreOfTexts (p ∷ peers) (t ∷ told) (x ∷ agreed) = IsOfTexts p t x × AreOfTexts peers told agreed
AreOfTexts _ _ _ = ⊥

-- so of the media that the peer describes and of those of the text that it is told
abbrev pub StandInTexts : List descriptions.Medium → List ℕ → List (Option Medium) → Type 0
StandInTexts peers text agreed = (told : Sdp) × (text ≡ spelling told) × AreOfTexts peers told.media agreed
