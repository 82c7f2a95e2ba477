-- The two messages of a MIKEY exchange in the lines of texts, and the crypto sessions on which they agree (RFC 3830, 3.1, 4.1.3,
-- 5.2, 6.1.1 and 6.10.1; RFC 4567, 3.1).
use Rattle.std.specs.Prelude.{◌≡◌, ◌⊎◌, ℕ, ◌+◌, ◌*◌, ◌^◌, ◌≤◌, List, [], ◌∷◌, ◌++◌, length, take, map, filter, min, not, Some, ◌==◌, codes, decimal}
use Rattle.std.specs.List.{All, AllByRecursion, Any, find}
use Rattle.base64.specs.Engines.{standard}
use Rattle.base64.specs.GeneralPurpose.{encode_of}
use Rattle.sg_agreement.specs.Sides.{is_active}
use Rattle.sg_agreement.specs.TextLines.{IsMessageLine, identifier}
use Rattle.sg_base.specs.Keys.{Master}
use Rattle.sg_base.specs.Octets.{number_of}
use Rattle.sg_base.specs.Suites.{key_len_of, tag_len_of}
use Rattle.sg_base.specs.declared.addresses.Kind.{Kind}
use Rattle.sg_base.specs.declared.addresses.Kind.TheVariants.{Rtp, Rtcp}
use Rattle.sg_base.specs.declared.addresses.Side.{Side}
use Rattle.sg_base.specs.declared.sources.Admit.{Admit}
use Rattle.sg_base.specs.declared.sources.Admit.TheVariants as admit
use Rattle.sg_base.specs.declared.suites.Suite.{Suite}
use Rattle.sg_hmac.specs.Hmac.{hmac_sha1}
use Rattle.sg_hmac.specs.Labels.{authentication_key, traffic_key, traffic_salt}
use Rattle.sg_mikey.specs.declared.message.CsEntry.{CsEntry}
use Rattle.sg_mikey.specs.declared.message.Message.{Message}
use Rattle.sg_mikey.specs.declared.message.Tgk.{Tgk}
use Rattle.sg_mikey.specs.declared.policy.Policy.{Policy}
use Rattle.sg_psk.specs.Envelope.{before_mac}
use Rattle.sg_psk.specs.Parts.{closing_in, policies_in, random_in, stamp_in}
use Rattle.sg_sdes.specs.KeyTexts.{base64_at}
use Rattle.sg_sdp.specs.declared.medium.Medium as descriptions
use Rattle.sg_session.specs.Session.{Session}
use Rattle.sg_session.specs.declared.names.Direction.{Direction}
use Rattle.sg_session.specs.declared.names.Direction.TheVariants.{Opening, Sealing}

-- ---- a message in the lines of a text

-- the first of these lines that is a MIKEY attribute has this value
pub record IsFirst (lines : List (List ℕ)) (value : List ℕ) : Type 0 where
  pub before : List (List ℕ)
  pub behind : List (List ℕ)
  pub parts : lines ≡ before ++ (codes "a=key-mgmt:mikey " ++ value) ∷ behind
  pub none : AllByRecursion (λ line. ¬ IsMessageLine line) before

-- its value is read as these octets
abbrev pub Carries : List (List ℕ) → List ℕ → Type 0
Carries lines octets = (value : List ℕ) × IsFirst lines value × (base64_at value ≡ Some octets)

-- its value spells these octets in base64
abbrev pub Tells : List (List ℕ) → List ℕ → Type 0
Tells lines octets = IsFirst lines (encode_of standard octets)

-- The message of a responder, of the initiator's bundle: its MAC is the code under this key of all before it, the two names
-- and the initiator's stamp (5.2).
pub record IsResponse (initial : Message) (key initiator responder octets : List ℕ) (response : Message) : Type 0 where
  pub kind : response.kind ≡ 1
  pub csb : response.csb ≡ initial.csb
  pub code : (closing_in response.payloads).tag
      ≡ hmac_sha1 (authentication_key key initial.csb (random_in initial.payloads)) (before_mac octets ++ (initiator ++ (responder ++ stamp_in initial.payloads)))

-- ---- crypto sessions

-- They are numbered from 1 on, as they stand in a message's map.
abbrev pub IsEntryOf : List CsEntry → ℕ → CsEntry → Type 0
IsEntryOf entries number entry = (before behind : List CsEntry) × (entries ≡ before ++ entry ∷ behind) × (number ≡ length before + 1)

-- Of a medium, behind so many others: the initiator sends in the first of two, and the responder in the second. The gateway
-- opens what the peer sends, so that the peer is the initiator where that is what is opened.
abbrev pub session_of : Direction → Direction → ℕ → ℕ
session_of Opening Opening others = 2 * others + 1
session_of Opening Sealing others = 2 * others + 2
session_of Sealing Sealing others = 2 * others + 1
session_of Sealing Opening others = 2 * others + 2

-- the media that were active in the offer of this side, before the one of this number
abbrev pub others_before : Side → List descriptions.Medium → ℕ → ℕ
others_before side offered medium = length (filter (is_active side) (take medium offered))

-- What the items say of a type, in octets or in bits; where none is of that type, it is the default (6.10.1).
abbrev pub Says : List (ℕ × List ℕ) → ℕ → ℕ → ℕ → Type 0
Says items kind default value =
    (All (λ item. ¬ (item.0 ≡ kind)) items × (value ≡ default))
    ⊎ Any (λ item. (item.0 ≡ kind) × ((number_of item.1 ≡ value) ⊎ (number_of item.1 ≡ 8 * value))) items

-- the type of item that says whether this kind is encrypted, 0 for not: of SRTP 7 and of SRTCP 8
abbrev pub encryption_item : Kind → ℕ
encryption_item Rtp = 7
encryption_item Rtcp = 8

-- the master key that a TGK gives in a crypto session (4.1.3)
abbrev pub master_under : Message → ℕ → Suite → Tgk → Master
master_under m session suite tgk = record {
  suite = suite;
  key = traffic_key tgk.key session m.csb (random_in m.payloads) (key_len_of suite);
  salt = traffic_salt tgk.key session m.csb (random_in m.payloads);
}

-- the octets of a tag, 10 of RTCP's in every suite (RFC 3711, 5.2)
abbrev pub tag_octets : Kind → Suite → ℕ
tag_octets Rtp suite = tag_len_of suite
tag_octets Rtcp suite = 10

-- a key serves 2^31 SRTCP packets at most (RFC 3711, 9.2)
abbrev pub life_of : Kind → ℕ → ℕ
life_of Rtp life = life
life_of Rtcp life = min life 2147483648

-- a source that is known, or with 0 the first that comes
abbrev pub IsSource : ℕ → Admit → Type 0
IsSource ssrc admitted = ((ssrc ≡ 0) × (admitted ≡ admit.FirstSeen)) ⊎ ((¬ (ssrc ≡ 0)) × (admitted ≡ admit.One ssrc))

-- each side says in the map of its own message from what source and rollover on it sends
abbrev pub map_towards : Direction → List CsEntry → List CsEntry → List CsEntry
map_towards Opening peers own = peers
map_towards Sealing peers own = own

-- a source attribute of this SSRC, from 1 on, which ends the line or stands before a space (RFC 5576, 4.1)
abbrev pub NamesSource : List ℕ → ℕ → Type 0
NamesSource line ssrc =
    (¬ (ssrc ≡ 0)) × (ssrc ≤ 4294967295)
    × ((line ≡ codes "a=ssrc:" ++ decimal ssrc) ⊎ ((more : List ℕ) × (line ≡ codes "a=ssrc:" ++ (decimal ssrc ++ 32 ∷ more))))

-- the first source that these lines name, or 0 where they name none
abbrev pub IsFirstSource : List (List ℕ) → ℕ → Type 0
IsFirstSource [] ssrc = ssrc ≡ 0
IsFirstSource (line ∷ lines) ssrc = NamesSource line ssrc ⊎ (((other : ℕ) → ¬ NamesSource line other) × IsFirstSource lines ssrc)

-- The gateway says of itself the first source that the plain side's medium names, rollover 0, and the policy that the
-- initiator named.
abbrev pub IsOwnEntry : Direction → CsEntry → CsEntry → descriptions.Medium → Type 0
IsOwnEntry Opening initiators senders plain = Unit {0}
IsOwnEntry Sealing initiators senders plain = (senders.policy ≡ initiators.policy) × IsFirstSource plain.lines senders.ssrc × (senders.roc ≡ 0)

-- the gateway opens in a window of 64, and seals in one of 1,024
abbrev pub window_towards : Direction → ℕ
window_towards Opening = 64
window_towards Sealing = 1024

-- The session is the crypto session of this number: under the master keys that the TGKs of the initiator's message give in it,
-- with SPIs for MKIs, in a suite with the lengths of key and tag that the message's policy says, and encrypted unless that
-- says not to; from the source and the rollover on that its sender's map says.
pub record IsInCryptoSession (m : Message) (tgks : List Tgk) (peers own : List CsEntry) (number : ℕ) (plain : descriptions.Medium) (s : Session) : Type 0 where
  pub entry : CsEntry
  pub in_map : IsEntryOf m.map number entry
  pub policy : Policy
  pub named : find (λ (p : Policy). p.number == entry.policy) (policies_in m.payloads) ≡ Some policy
  pub suite : Suite
  pub key_len : Says policy.items 1 16 (key_len_of suite)
  pub tag_len : Says policy.items 11 10 (tag_len_of suite)
  pub masters : map (λ k. k.master) s.keys ≡ map (master_under m number suite) tgks
  pub mkis : map (λ k. k.mki) s.keys ≡ map (λ k. identifier k.spi) tgks
  pub lives : AllByRecursion (λ k. k.life ≡ life_of s.name.kind (2 ^ 48)) s.keys
  pub tags : s.tag_len ≡ tag_octets s.name.kind suite
  pub on : ℕ
  pub says_on : Says policy.items (encryption_item s.name.kind) 1 on
  pub encrypts : s.encrypts ≡ not (on == 0)
  pub senders : CsEntry
  pub in_senders : IsEntryOf (map_towards s.name.owner.direction peers own) number senders
  pub of_gateway : IsOwnEntry s.name.owner.direction entry senders plain
  pub rollover : s.roc ≡ senders.roc
  pub source : IsSource senders.ssrc s.admit
  pub window : s.window ≡ window_towards s.name.owner.direction
