-- The sessions of an answer are by the texts that came and by those that were told: under crypto lines of theirs (RFC 4568, 5.1),
-- or in the crypto sessions of the peer's MIKEY message or of the gateway's (RFC 3830, 6.1.1).
use Rattle.std.specs.Prelude.{◌≡◌, ℕ, ◌+◌, List, ◌∷◌, ◌++◌, map, not, Bool, Some, Ok}
use Rattle.std.specs.List.{All, Any}
use Rattle.sg_agreement.specs.Keying.{Offer}
use Rattle.sg_agreement.specs.Sides.{other_side, side_of}
use Rattle.sg_agreement.specs.TextLines.{HasNoMessage, HasLine, TellsLine, IsWindow, identifier}
use Rattle.sg_agreement.specs.declared.ways.Way.{Way}
use Rattle.sg_agreement.specs.declared.ways.Way.TheVariants.{FromSecure, SdesFromPlain, MikeyFromPlain}
use Rattle.sg_base.specs.declared.addresses.CallId.{CallId}
use Rattle.sg_base.specs.declared.addresses.Kind.{Kind}
use Rattle.sg_base.specs.declared.addresses.Kind.TheVariants.{Rtp, Rtcp}
use Rattle.sg_outcome.specs.declared.outcomes.Outcome.TheVariants as outcomes
use Rattle.sg_psk.specs.declared.pairs.Pair.{Pair}
use Rattle.sg_sdes.specs.declared.lines.CryptoLine.{CryptoLine}
use Rattle.sg_sdp.specs.Descriptions.{spelling}
use Rattle.sg_sdp.specs.Reading.{description_of}
use Rattle.sg_sdp.specs.declared.medium.Medium as descriptions
use Rattle.sg_sdp.specs.declared.sdp.Sdp.{Sdp}
use Rattle.sg_session.specs.Session.{Session}
use Rattle.sg_session.specs.declared.names.Direction.{Direction}
use Rattle.sg_session.specs.declared.names.Direction.TheVariants.{Opening, Sealing}
use Rattle.sg_base.specs.declared.sources.Admit.TheVariants as admit
use Rattle.sg_gateway.specs.Addressed.{IsMediumAt}
use Rattle.sg_gateway.specs.CryptoSessions.{life_of, tag_octets}
use Rattle.sg_gateway.specs.OwnMessages.{OwnMessage, PeersResponse, IsInOwnSession}
use Rattle.sg_gateway.specs.PeersMessages.{IsByPeersMessage}
use Rattle.sg_gateway.specs.Runs.{Turn, turns, after_turn}
use Rattle.sg_gateway.specs.Signals.{Offered, Answered}
use Rattle.sg_gateway.specs.Step.{Event, Signalled}
use Rattle.sg_gateway.specs.World.{Call, call_of}

-- ---- one session

-- what is opened is under the peer's line, and what is sealed under the gateway's
abbrev pub line_towards : Direction → CryptoLine → CryptoLine → CryptoLine
line_towards Opening peer own = peer
line_towards Sealing peer own = own

-- the line says that it is not encrypted (6.3.2)
abbrev pub is_plain : Kind → CryptoLine → Bool
is_plain Rtp line = line.plain_rtp
is_plain Rtcp line = line.plain_rtcp

-- the gateway opens in the window of the peer's line, and seals in one of 1,024
abbrev pub HasWindow : Direction → CryptoLine → ℕ → Type 0
HasWindow Opening peer window = IsWindow peer.window window
HasWindow Sealing peer window = window ≡ 1024

-- The session is under this line: its keys, their MKIs and lives, and tags of its suite, from rollover 0 on and from any
-- source. It encrypts where the peer's line doesn't say otherwise.
pub record IsUnderLine (s : Session) (peer line : CryptoLine) : Type 0 where
  pub masters : map (λ k. k.master) s.keys ≡ map (λ k. k.key) line.keys
  pub mkis : map (λ k. k.mki) s.keys ≡ map (λ k. identifier k.mki) line.keys
  pub lives : map (λ k. k.life) s.keys ≡ map (λ k. life_of s.name.kind k.lifetime) line.keys
  pub roc : s.roc ≡ 0
  pub sources : s.admit ≡ admit.Any
  pub tags : s.tag_len ≡ tag_octets s.name.kind line.suite
  pub window : HasWindow s.name.owner.direction peer s.window
  pub encrypts : s.encrypts ≡ not (is_plain s.name.kind peer)

-- by a line of the peer's medium, and by one of the same tag that the medium spells which the peer was told
pub record IsByLinesOf (peers told : descriptions.Medium) (s : Session) : Type 0 where
  pub peer : CryptoLine
  pub own : CryptoLine
  pub has : HasLine peers peer
  pub tells : TellsLine told own
  pub tag : own.tag ≡ peer.tag
  pub under : IsUnderLine s peer (line_towards s.name.owner.direction peer own)

-- so by the lines of its own medium
pub record HasItsLines (peers told : List descriptions.Medium) (s : Session) : Type 0 where
  pub of_peer : descriptions.Medium
  pub for_peer : descriptions.Medium
  pub in_peers : IsMediumAt peers s.name.owner.medium of_peer
  pub in_told : IsMediumAt told s.name.owner.medium for_peer
  pub by_lines : IsByLinesOf of_peer for_peer s

-- the sessions of the call's current generation, by what the peer describes and the text that it was told
abbrev pub HaveLines : List descriptions.Medium → List ℕ → Call → Type 0
HaveLines peers text d =
    (told : Sdp) × (text ≡ spelling told) × All (λ s. s.name.owner.generation + 1 ≡ d.generations → HasItsLines peers told.media s) d.sessions

-- ---- by messages

-- Each session of the call's current generation is by a message of the secure side's offer, and by the response in the text that
-- this side is told.
abbrev pub AreByPeersMessages : List Pair → Sdp → Sdp → List ℕ → Call → Type 0
AreByPeersMessages pairs offer answer text d =
    (told : Sdp) × (text ≡ spelling told) × All (λ s. s.name.owner.generation + 1 ≡ d.generations → IsByPeersMessage pairs offer answer told s) d.sessions

-- The text for the peer tells a message of the gateway's in its session part, that of the answer carries the response, and each
-- session of the call's current generation is by the two.
abbrev pub AreByOwnMessage : List Pair → List ℕ → Sdp → Sdp → List ℕ → Call → Type 0
AreByOwnMessage pairs peer offer answer text d =
    (told : Sdp) × (text ≡ spelling told) × (m : OwnMessage pairs peer told.session) × (r : PeersResponse m.message m.pair answer.session)
    × All (λ s. s.name.owner.generation + 1 ≡ d.generations → IsInOwnSession m.message m.key r.response offer s) d.sessions

-- ---- an answer

-- The open offer that an answer of this text closes was made in an earlier turn. What the two describe, the text that was told
-- of the offer for the other side, and that of the answer for the side that offered.
pub record Exchange (earlier : List Turn) (t : Turn) (id : CallId) (c : Call) (text : List ℕ) : Type 0 where
  pub of_offer : Turn
  pub was_earlier : Any (λ u. u ≡ of_offer) earlier
  pub way : Way
  pub noise : List ℕ
  pub offered : List ℕ
  pub event : of_offer.event ≡ Signalled (Offered id way noise offered)
  pub open_offer : Offer
  pub offer : Sdp
  pub in_offer : description_of offered ≡ Ok offer
  pub is_open : c.offer ≡ Some open_offer
  pub of_side : open_offer.side ≡ side_of way
  pub of_text : open_offer.description ≡ offer
  pub answer : Sdp
  pub in_answer : description_of text ≡ Ok answer
  pub forth : List ℕ
  pub tells_forth : Any (λ x. x ≡ outcomes.Sdp id (other_side (side_of way)) forth) of_offer.outcomes
  pub back : List ℕ
  pub tells_back : Any (λ x. x ≡ outcomes.Sdp id (side_of way) back) t.outcomes

-- By lines where the secure side offered without a MIKEY message, and else by its messages, under the keys that were held when it
-- offered; by lines where the gateway offered lines to it, and by the gateway's message where it offered one.
abbrev pub AreByTexts : List Pair → Way → Sdp → Sdp → List ℕ → List ℕ → Call → Type 0
AreByTexts pairs FromSecure offer answer forth back d = (HasNoMessage offer → HaveLines offer.media back d) × (¬ HasNoMessage offer → AreByPeersMessages pairs offer answer back d)
AreByTexts pairs SdesFromPlain offer answer forth back d = HaveLines answer.media forth d
AreByTexts pairs (MikeyFromPlain peer) offer answer forth back d = AreByOwnMessage pairs peer offer answer forth d

-- after an answer that makes a generation, each of its sessions is by the texts
abbrev pub AnswerIsByTexts : List Turn → Turn → Type 0
AnswerIsByTexts earlier t =
    (id : CallId) (noise text : List ℕ) (c d : Call) → t.event ≡ Signalled (Answered id noise text)
    → call_of t.before id ≡ Some c → call_of (after_turn t) id ≡ Some d → d.generations ≡ c.generations + 1
    → (x : Exchange earlier t id c text) × AreByTexts x.of_offer.before.books.pairs x.way x.offer x.answer x.forth x.back d

abbrev pub AnswersAreByTexts : List Event → Type 0
AnswersAreByTexts events = (earlier later : List Turn) (t : Turn) → turns events ≡ earlier ++ t ∷ later → AnswerIsByTexts earlier t
