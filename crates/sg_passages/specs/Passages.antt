-- What a run tells of its events: by which ports packets leave, and the outcomes as they are told.
use Rattle.std.specs.Prelude.{◌≡◌, ◌⊎◌, ℕ, ◌+◌, ◌-◌, ◌%◌, List, [], ◌∷◌, map, codes}
use Rattle.std.specs.List.{All, Any, slice_split}
use Rattle.sg_agreement.specs.declared.ways.Way.{Way}
use Rattle.sg_base.specs.declared.addresses.Address.{Address}
use Rattle.sg_base.specs.declared.addresses.CallId.{CallId}
use Rattle.sg_gateway.specs.PlainTexts.{ends_line}
use Rattle.sg_gateway.specs.Runs.{Turn, turns}
use Rattle.sg_gateway.specs.Signals.{Offered}
use Rattle.sg_gateway.specs.Step.{Event, Signalled}
use Rattle.sg_outcome.specs.declared.outcomes.Outcome.{Outcome}
use Rattle.sg_outcome.specs.declared.outcomes.Outcome.TheVariants.{Made, Live, Sdp, Refused, Ended, Out, Dropped, Unsent}

-- by which port of the gateway a packet leaves, and to which address
pub record Leaving : Type 0 where
  pub port : ℕ
  pub to : Address

-- where a packet leaves that a session puts out from a port to an address
abbrev pub Leaves : Type 0
Leaves = ℕ → Address → Leaving

abbrev pub straight : Leaves
straight port to = record { port = port; to = to }

-- One event of a run: its turn at the gateway, by which ports what that puts out leaves, and what is told of it.
pub record Passage : Type 0 where
  pub turn : Turn
  pub leaves : Leaves
  pub told : List Outcome

-- a packet that is put out, as it leaves
abbrev pub out_by : Leaves → ℕ → Address → List ℕ → Outcome
out_by leaves port to octets = Out (leaves port to).port (leaves port to).to octets

-- ---- faithful telling

-- the line by which a description says that RTP and RTCP share a medium's port (RFC 5761, 5.1.1)
abbrev pub mux_line : List ℕ
mux_line = codes "a=rtcp-mux"

-- wherever a reader takes lines to end, no line of the first text is lost, and each of the second is one of these, or that line
pub record AddsMuxLines (first text : List ℕ) : Type 0 where
  pub added : All (λ line. Any (λ l. l ≡ line) (slice_split ends_line first) ⊎ (line ≡ mux_line)) (slice_split ends_line text)
  pub kept : All (λ line. Any (λ l. l ≡ line) (slice_split ends_line text)) (slice_split ends_line first)

-- A leg has two ports: of RTP, and the next one of RTCP. What the second puts out leaves by the first, and to the port of
-- the same host before that to which it was put out.
pub record IsOneBefore (port : ℕ) (to : Address) (l : Leaving) : Type 0 where
  pub second : (port - 20000) % 2 ≡ 1
  pub first : l.port + 1 ≡ port
  pub host : l.to.ip ≡ to.ip
  pub before : l.to.port + 1 ≡ to.port

-- A leg shares its first port where all that its second one, which this is, puts out to a port but 0 leaves so.
abbrev pub SharesFirst : Leaves → ℕ → Type 0
SharesFirst leaves port = (to : Address) → ¬ to.port ≡ 0 → IsOneBefore port to (leaves port to)

-- The port to which a datagram came that the gateway takes at this one: the same, or the first of a leg that shares it, where
-- this is the second.
abbrev pub CameTo : Leaves → ℕ → ℕ → Type 0
CameTo leaves port came = (came ≡ port) ⊎ (SharesFirst leaves port × (came + 1 ≡ port))

-- What is told of an outcome: of a packet that it leaves; of a drop the cause, at the port to which its datagram came; of a
-- description a text to the same side, with no other line but that of RFC 5761; everything else as it is.
abbrev pub IsToldAs : Leaves → Outcome → Outcome → Type 0
IsToldAs leaves (Out port to octets) o = o ≡ out_by leaves port to octets
IsToldAs leaves (Dropped port cause) o = (came : ℕ) × (o ≡ Dropped came cause) × CameTo leaves port came
IsToldAs leaves (Sdp id side first) o = (text : List ℕ) × (o ≡ Sdp id side text) × AddsMuxLines first text
IsToldAs leaves (Made id slot media) o = o ≡ Made id slot media
IsToldAs leaves (Live id) o = o ≡ Live id
IsToldAs leaves (Refused id cause) o = o ≡ Refused id cause
IsToldAs leaves (Ended id slot media why) o = o ≡ Ended id slot media why
IsToldAs leaves (Unsent port to) o = o ≡ Unsent port to

-- one for each, in order
abbrev pub AreToldAs : Leaves → List Outcome → List Outcome → Type 0
AreToldAs leaves [] told = told ≡ []
AreToldAs leaves (o ∷ os) told = (t : Outcome) × (ts : List Outcome) × (told ≡ t ∷ ts) × IsToldAs leaves o t × AreToldAs leaves os ts

-- each packet leaves as it was put out; or so, where a leg's RTCP shares the port of its RTP (RFC 5761)
abbrev pub KeepsLegs : Leaves → Type 0
KeepsLegs leaves = (port : ℕ) (to : Address) → (leaves port to ≡ straight port to) ⊎ IsOneBefore port to (leaves port to)

-- what is told of an offer is told as it is
abbrev pub KeepsOffers : Passage → Type 0
KeepsOffers p = (id : CallId) (way : Way) (noise text : List ℕ) → p.turn.event ≡ Signalled (Offered id way noise text) → p.told ≡ p.turn.outcomes

pub record IsFaithful (p : Passage) : Type 0 where
  pub told : AreToldAs p.leaves p.turn.outcomes p.told
  pub legs : KeepsLegs p.leaves
  pub offers : KeepsOffers p

-- These are the passages of a run of the events.
pub record ArePassagesOf (events : List Event) (passages : List Passage) : Type 0 where
  pub turns_are : map (λ p. p.turn) passages ≡ turns events
  pub faithful : All IsFaithful passages

-- ---- a run that tells all as it is

abbrev pub plainly : Turn → Passage
plainly t = record { turn = t; leaves = straight; told = t.outcomes }

abbrev pub plain_passages : List Event → List Passage
plain_passages events = map plainly (turns events)
