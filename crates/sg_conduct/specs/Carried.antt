-- What is told of an offer is its description as it came, but for what holds for one side alone (RFC 3264, 5): its lines in their
-- order, each medium in its place under the other side's protocol word, at the gateway's own address and ports, and behind them
-- the lines that the gateway adds. That offer is open then.
use Rattle.std.specs.Prelude.{◌≡◌, ◌⊎◌, ℕ, ◌+◌, ◌*◌, ◌/◌, ◌%◌, ◌^◌, false, List, [], ◌∷◌, ◌++◌, length, map, take, drop, codes, Option, Some, None, Ok}
use Rattle.std.specs.List.{All, AllByRecursion, Any}
use Rattle.base64.specs.GeneralPurpose.{encode_of}
use Rattle.base64.specs.Engines.{standard}
use Rattle.sg_agreement.specs.Keying.{Keying, PeerLines, OwnLines, OwnMessage}
use Rattle.sg_agreement.specs.Sides.{other_side, side_of}
use Rattle.sg_agreement.specs.TextLines.{HasNoMessage}
use Rattle.sg_agreement.specs.declared.ways.Way.{Way}
use Rattle.sg_agreement.specs.declared.ways.Way.TheVariants.{FromSecure, SdesFromPlain, MikeyFromPlain}
use Rattle.sg_base.specs.Keys.{master_of}
use Rattle.sg_base.specs.Octets.{be}
use Rattle.sg_base.specs.declared.addresses.CallId.{CallId}
use Rattle.sg_base.specs.declared.addresses.Side.{Side}
use Rattle.sg_base.specs.declared.addresses.Side.TheVariants.{Secure, Plain}
use Rattle.sg_base.specs.declared.suites.Suite.{Suite}
use Rattle.sg_base.specs.declared.suites.Suite.TheVariants.{Cm128Tag80, Cm256Tag80}
use Rattle.sg_mikey.specs.declared.message.CsEntry.{CsEntry}
use Rattle.sg_outcome.specs.declared.outcomes.Outcome.TheVariants as outcomes
use Rattle.sg_psk.specs.Sending.{Sent}
use Rattle.sg_psk.specs.declared.pairs.Pair.{Pair}
use Rattle.sg_sdes.specs.CryptoOf.{crypto_of}
use Rattle.sg_sdes.specs.declared.lines.CryptoLine.{CryptoLine}
use Rattle.sg_sdp.specs.Descriptions.{spelling}
use Rattle.sg_sdp.specs.Reading.{description_of}
use Rattle.sg_sdp.specs.declared.medium.Medium as descriptions
use Rattle.sg_sdp.specs.declared.medium.Profile.{Profile}
use Rattle.sg_sdp.specs.declared.medium.Profile.TheVariants.{Avp, Savp, Avpf, Savpf, Other}
use Rattle.sg_sdp.specs.declared.sdp.Sdp.{Sdp}
use Rattle.sg_gateway.specs.CryptoSessions.{IsFirstSource}
use Rattle.sg_gateway.specs.Refusing.{IsRefused}
use Rattle.sg_gateway.specs.Runs.{Turn, turns, after_turn}
use Rattle.sg_gateway.specs.Signals.{Offered, new_call}
use Rattle.sg_gateway.specs.Step.{Event, Signalled}
use Rattle.sg_gateway.specs.World.{Call, World, call_of}
use Rattle.sg_conduct.specs.Drawn.{IsDrawn, noise_for}
use Rattle.sg_conduct.specs.Offers.{IsOpen}
use Rattle.sg_conduct.specs.OwnPayloads.{IsInitial}
use Rattle.sg_conduct.specs.OwnPorts.{port_towards}
use Rattle.sg_conduct.specs.Present.{TakesPart}

-- ---- lines

-- The attributes that hold for one side alone: keys (RFC 4568, 4567, 5763), the ports of RTCP (RFC 3605, 5761) and ICE (RFC 8839,
-- 8840).
abbrev pub of_one_side : List (List ℕ)
of_one_side =
    codes "crypto" ∷ codes "key-mgmt" ∷ codes "rtcp" ∷ codes "rtcp-mux" ∷ codes "candidate" ∷ codes "end-of-candidates" ∷
    codes "remote-candidates" ∷ codes "ice-ufrag" ∷ codes "ice-pwd" ∷ codes "ice-options" ∷ codes "ice-lite" ∷
    codes "fingerprint" ∷ codes "setup" ∷ []

-- the line is an attribute of this name, with a value or without one (RFC 4566, 5.13)
abbrev pub IsAttribute : List ℕ → List ℕ → Type 0
IsAttribute line name = (line ≡ codes "a=" ++ name) ⊎ ((value : List ℕ) × (line ≡ codes "a=" ++ (name ++ 58 ∷ value)))

abbrev pub HoldsForOneSide : List ℕ → Type 0
HoldsForOneSide line = Any (IsAttribute line) of_one_side

-- a `c=` line names the gateway's address, and every other line is told as it came
abbrev pub IsCarriedAs : List ℕ → List ℕ → Type 0
IsCarriedAs came told =
    ((address : List ℕ) × (came ≡ codes "c=" ++ address) × (told ≡ codes "c=IN IP4 127.0.0.1"))
    ⊎ (((address : List ℕ) → ¬ came ≡ codes "c=" ++ address) × (told ≡ came))

-- those that don't hold for one side alone are told, in their order, and behind them the lines that are added
abbrev pub AreCarried : List (List ℕ) → List (List ℕ) → List (List ℕ) → Type 0
AreCarried [] added told = told ≡ added
AreCarried (line ∷ came) added told =
    (HoldsForOneSide line × AreCarried came added told)
    ⊎ ((¬ HoldsForOneSide line) × ((first : List ℕ) × (rest : List (List ℕ)) × (told ≡ first ∷ rest) × IsCarriedAs line first × AreCarried came added rest))

-- ---- media

-- what there is of each medium of this side that takes part, from this number on; none of the others
abbrev pub IsOfMedium : {X : Type 0} → (ℕ → descriptions.Medium → X → Type 0) → Side → ℕ → descriptions.Medium → Option X → Type 0
IsOfMedium Is side number m (Some x) = TakesPart side m × Is number m x
IsOfMedium Is side number m None = ¬ TakesPart side m

abbrev pub AreOfMedia : {X : Type 0} → (ℕ → descriptions.Medium → X → Type 0) → Side → ℕ → List descriptions.Medium → List (Option X) → Type 0
AreOfMedia Is side number [] xs = xs ≡ []
AreOfMedia {X} Is side number (m ∷ ms) xs =
    (x : Option X) × (rest : List (Option X)) × (xs ≡ x ∷ rest) × IsOfMedium Is side number m x × AreOfMedia Is side (number + 1) ms rest

-- the protocol word of the other side that goes with one (RFC 3551; RFC 3711, 12; RFC 4585; RFC 5124)
abbrev pub other_word : Profile → List ℕ → List ℕ
other_word Avp word = codes "RTP/SAVP"
other_word Savp word = codes "RTP/AVP"
other_word Avpf word = codes "RTP/SAVPF"
other_word Savpf word = codes "RTP/AVPF"
other_word Other word = word

-- at the gateway's port of the slot and the number, or at port 0 where the medium takes no part (RFC 3264, 6)
abbrev pub IsAtPort : Side → ℕ → ℕ → descriptions.Medium → ℕ → Type 0
IsAtPort side slot number m port =
    (TakesPart side m × (port ≡ port_towards (other_side side) slot number)) ⊎ ((¬ TakesPart side m) × (port ≡ 0))

-- a medium of the offer of this side, as the other side is told of it
pub record IsCarriedMedium (side : Side) (slot number : ℕ) (added : List (List ℕ)) (came told : descriptions.Medium) : Type 0 where
  pub word : told.word ≡ came.word
  pub port : IsAtPort side slot number came told.port
  pub proto : told.proto ≡ other_word came.profile came.proto
  pub formats : told.formats ≡ came.formats
  pub lines : AreCarried came.lines added told.lines

-- ---- what the gateway adds

-- A crypto line of the gateway's: one key, without lifetime, MKI and parameters.
abbrev pub own_line : ℕ → Suite → List ℕ → CryptoLine
own_line tag suite octets = record {
  tag = tag;
  suite = suite;
  keys = record { key = master_of suite octets; lifetime = 2 ^ 48; mki = None } ∷ [];
  window = None;
  plain_rtp = false;
  plain_rtcp = false;
}

-- two of the noise of a medium: of AES with 128 bits and with 256 bits
abbrev pub lines_of : List ℕ → List CryptoLine
lines_of noise = own_line 1 Cm128Tag80 (take 30 noise) ∷ (own_line 2 Cm256Tag80 (take 46 (drop 30 noise)) ∷ [])

-- their attributes (RFC 4568, 9.1; RFC 6188, 4.1)
abbrev pub attributes_of : List ℕ → List (List ℕ)
attributes_of noise =
    (codes "a=crypto:1 AES_CM_128_HMAC_SHA1_80 inline:" ++ encode_of standard (take 30 noise))
    ∷ ((codes "a=crypto:2 AES_256_CM_HMAC_SHA1_80 inline:" ++ encode_of standard (take 46 (drop 30 noise))) ∷ [])

-- to a medium of this number: those two, where the plain side's offer is keyed by lines and the medium takes part
abbrev pub AddsToMedium : Way → List ℕ → ℕ → descriptions.Medium → List (List ℕ) → Type 0
AddsToMedium FromSecure noise number m added = added ≡ []
AddsToMedium SdesFromPlain noise number m added =
    (TakesPart Plain m × (added ≡ attributes_of (noise_for number noise))) ⊎ ((¬ TakesPart Plain m) × (added ≡ []))
AddsToMedium (MikeyFromPlain peer) noise number m added = added ≡ []

-- each medium in its place, from this number on
abbrev pub AreCarriedMedia : Way → ℕ → List ℕ → ℕ → List descriptions.Medium → List descriptions.Medium → Type 0
AreCarriedMedia way slot noise number [] told = told ≡ []
AreCarriedMedia way slot noise number (m ∷ ms) told =
    (first : descriptions.Medium) × (rest : List descriptions.Medium) × (told ≡ first ∷ rest)
    × ((added : List (List ℕ)) × AddsToMedium way noise number m added × IsCarriedMedium (side_of way) slot number added m first)
    × AreCarriedMedia way slot noise (number + 1) ms rest

-- the first of these pairs that is with the peer
abbrev pub IsFirstWith : List Pair → List ℕ → Pair → Type 0
IsFirstWith pairs peer pair = (before behind : List Pair) × (pairs ≡ before ++ pair ∷ behind) × AllByRecursion (λ p. ¬ p.peer ≡ peer) before

-- For each medium that takes part a crypto session of the gateway, from the source that the medium names first, and one of the peer,
-- whose source isn't known (RFC 3830, 6.1.1).
abbrev pub AreSessionsOf : List descriptions.Medium → List CsEntry → Type 0
AreSessionsOf [] entries = entries ≡ []
AreSessionsOf (m ∷ ms) entries =
    (TakesPart Plain m × ((ssrc : ℕ) × (rest : List CsEntry) × IsFirstSource m.lines ssrc
    × (entries ≡ record { policy = 0; ssrc = ssrc; roc = 0 } ∷ (record { policy = 0; ssrc = 0; roc = 0 } ∷ rest)) × AreSessionsOf ms rest))
    ⊎ ((¬ TakesPart Plain m) × AreSessionsOf ms entries)

-- the gateway's message to this peer, of the noise and the moment, whose stamp counts seconds since 1900 (RFC 3830, 6.6)
pub record IsOwnMessage (w : World) (peer noise : List ℕ) (s : Sdp) (sent : Sent) : Type 0 where
  pub drawn : IsDrawn w.books.pairs peer noise sent
  pub pair : IsFirstWith w.books.pairs peer sent.pair
  pub stamp : sent.stamp ≡ be (w.moment / 1000 + 2208988800) 4 ++ be ((w.moment % 1000) * 2 ^ 32 / 1000) 4
  pub spis : map (λ k. k.spi) sent.tgks ≡ None ∷ []
  pub sessions : AreSessionsOf s.media sent.map

-- to the session part: that message, where the plain side's offer is keyed by one (RFC 4567, 3.1)
abbrev pub AddsToSession : World → Way → List ℕ → Sdp → List (List ℕ) → Type 0
AddsToSession w FromSecure noise s added = added ≡ []
AddsToSession w SdesFromPlain noise s added = added ≡ []
AddsToSession w (MikeyFromPlain peer) noise s added =
    (sent : Sent) × IsOwnMessage w peer noise s sent
    × ((octets : List ℕ) × IsInitial sent octets × (added ≡ (codes "a=key-mgmt:mikey " ++ encode_of standard octets) ∷ []))

-- ---- the text

pub record IsToldForth (w : World) (slot : ℕ) (way : Way) (noise : List ℕ) (s : Sdp) (text : List ℕ) : Type 0 where
  pub told : Sdp
  pub spells : text ≡ spelling told
  pub added : List (List ℕ)
  pub adds : AddsToSession w way noise s added
  pub session : AreCarried s.session added told.session
  pub media : AreCarriedMedia way slot noise 0 s.media told.media

-- ---- the open offer

-- the first crypto attribute of these lines that is read says this line (RFC 4568, 5.1.2)
pub record IsFirstLine (lines : List (List ℕ)) (l : CryptoLine) : Type 0 where
  pub before : List (List ℕ)
  pub value : List ℕ
  pub behind : List (List ℕ)
  pub parts : lines ≡ before ++ (codes "a=crypto:" ++ value) ∷ behind
  pub read : crypto_of value ≡ Ok l
  pub none : AllByRecursion (λ line. (v : List ℕ) (other : CryptoLine) → line ≡ codes "a=crypto:" ++ v → ¬ crypto_of v ≡ Ok other) before

-- What is kept for the answer: the peer's line of each medium, where no line of the offer carries a message; the gateway's own lines;
-- or its own message. Of a peer's messages `OfferIsAuthentic` speaks.
abbrev pub IsKeyed : World → Way → List ℕ → Sdp → Keying → Type 0
IsKeyed w FromSecure noise s keying =
    HasNoMessage s → (ls : List (Option CryptoLine)) × (keying ≡ PeerLines ls) × AreOfMedia (λ number m l. IsFirstLine m.lines l) Secure 0 s.media ls
IsKeyed w SdesFromPlain noise s keying =
    (ls : List (Option (List CryptoLine))) × (keying ≡ OwnLines ls) × AreOfMedia (λ number m l. l ≡ lines_of (noise_for number noise)) Plain 0 s.media ls
IsKeyed w (MikeyFromPlain peer) noise s keying = (sent : Sent) × (keying ≡ OwnMessage sent) × IsOwnMessage w peer noise s sent

-- of the call of this id, in the world after it, with so many generations
abbrev pub IsOpenOffer : World → World → CallId → ℕ → Way → List ℕ → Sdp → Type 0
IsOpenOffer before after id generations way noise s = (is : IsOpen after id generations (side_of way) s) × IsKeyed before way noise s is.offer.keying

-- a call that wasn't there is told with its slot and the number of its media
abbrev pub OfferMakes : Turn → CallId → Way → List ℕ → Sdp → Type 0
OfferMakes t id way noise s =
    (call_of t.before id ≡ None) × IsOpenOffer t.before (after_turn t) id 0 way noise s
    × ((forth : List ℕ) × (t.outcomes ≡ outcomes.Made id (new_call t.before id).slot (length s.media) ∷ (outcomes.Sdp id (other_side (side_of way)) forth ∷ []))
    × IsToldForth t.before (new_call t.before id).slot way noise s forth)

-- in one that was there, not keyed manually and without an open offer, the text alone is told
abbrev pub OfferOpens : Turn → CallId → Way → List ℕ → Sdp → Type 0
OfferOpens t id way noise s =
    (c : Call) × (call_of t.before id ≡ Some c) × (c.manual ≡ false) × (c.offer ≡ None) × IsOpenOffer t.before (after_turn t) id c.generations way noise s
    × ((forth : List ℕ) × (t.outcomes ≡ outcomes.Sdp id (other_side (side_of way)) forth ∷ []) × IsToldForth t.before c.slot way noise s forth)

-- so each offer that isn't refused
abbrev pub OfferIsCarried : Turn → Type 0
OfferIsCarried t =
    (id : CallId) (way : Way) (noise text : List ℕ) → t.event ≡ Signalled (Offered id way noise text) → ¬ IsRefused t
    → (s : Sdp) × (description_of text ≡ Ok s) × (OfferMakes t id way noise s ⊎ OfferOpens t id way noise s)

abbrev pub OffersAreCarried : List Event → Type 0
OffersAreCarried events = All OfferIsCarried (turns events)
