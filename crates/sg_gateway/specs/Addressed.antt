-- The addresses of a session are those of its medium in the texts of the offer and of the answer.
use Rattle.std.specs.Prelude.{◌≡◌, ℕ, ◌+◌, ◌<◌, List, length, Some, Ok, slice_index_or}
use Rattle.std.specs.List.{All}
use Rattle.sg_agreement.specs.Keying.{Offer}
use Rattle.sg_agreement.specs.Sides.{side_of}
use Rattle.sg_agreement.specs.declared.ways.Way.{Way}
use Rattle.sg_base.specs.declared.addresses.Address.{Address}
use Rattle.sg_base.specs.declared.addresses.CallId.{CallId}
use Rattle.sg_base.specs.declared.addresses.Side.{Side}
use Rattle.sg_base.specs.declared.addresses.Side.TheVariants.{Secure, Plain}
use Rattle.sg_sdp.specs.Reading.{description_of}
use Rattle.sg_sdp.specs.declared.medium.Medium as descriptions
use Rattle.sg_sdp.specs.declared.sdp.Sdp.{Sdp}
use Rattle.sg_session.specs.Session.{Session}
use Rattle.sg_gateway.specs.Refusing.{IsRefused}
use Rattle.sg_gateway.specs.Runs.{Turn, turns, after_turn}
use Rattle.sg_gateway.specs.SaidByTexts.{ReadingsAreSaid}
use Rattle.sg_gateway.specs.Signals.{Offered, Answered}
use Rattle.sg_gateway.specs.Step.{Event, Signalled}
use Rattle.sg_gateway.specs.World.{Call, call_of}

-- the address and the port of a medium's description
pub record IsAddressOf (a : Address) (m : descriptions.Medium) : Type 0 where
  pub ip : m.address ≡ Some a.ip
  pub port : a.port ≡ m.port

-- The secure side's end and the plain side's are where these media say: of an offer from the secure side m is the secure
-- side's and n the plain side's, and of one from the plain side the other way round.
abbrev pub IsBetween : Side → descriptions.Medium → descriptions.Medium → Address → Address → Type 0
IsBetween Secure m n secure plain = IsAddressOf secure m × IsAddressOf plain n
IsBetween Plain m n secure plain = IsAddressOf secure n × IsAddressOf plain m

-- it is the medium of this number
abbrev pub IsMediumAt : List descriptions.Medium → ℕ → descriptions.Medium → Type 0
IsMediumAt ms k m = (k < length ms) × (slice_index_or ms k m ≡ m)

-- the session's two addresses are those of its medium in the offer of this side, and in the answer
pub record HasAddresses (side : Side) (offered answered : List descriptions.Medium) (s : Session) : Type 0 where
  pub of_offer : descriptions.Medium
  pub of_answer : descriptions.Medium
  pub in_offer : IsMediumAt offered s.name.owner.medium of_offer
  pub in_answer : IsMediumAt answered s.name.owner.medium of_answer
  pub between : IsBetween side of_offer of_answer s.secure s.plain

-- after an offer that isn't refused the call is there, and the open offer is what the text describes
abbrev pub OfferIsItsText : Turn → Type 0
OfferIsItsText t =
    (id : CallId) (way : Way) (noise text : List ℕ) → t.event ≡ Signalled (Offered id way noise text) → ¬ IsRefused t
    → (c : Call) × (o : Offer) × (call_of (after_turn t) id ≡ Some c) × (c.offer ≡ Some o) × (o.side ≡ side_of way) × (description_of text ≡ Ok o.description)

-- after an answer that makes a generation, each of its sessions has the addresses of its medium
abbrev pub AnswerHasAddresses : Turn → Type 0
AnswerHasAddresses t =
    (id : CallId) (noise text : List ℕ) (c d : Call) (o : Offer) → t.event ≡ Signalled (Answered id noise text)
    → call_of t.before id ≡ Some c → c.offer ≡ Some o → call_of (after_turn t) id ≡ Some d → d.generations ≡ c.generations + 1
    → (answer : Sdp) × (description_of text ≡ Ok answer)
    × All (λ s. s.name.owner.generation + 1 ≡ d.generations → HasAddresses o.side o.description.media answer.media s) d.sessions

abbrev pub OffersAreTheirTexts : List Event → Type 0
OffersAreTheirTexts events = All OfferIsItsText (turns events)

-- each answer so, and what is read of a text is said by it
abbrev pub AnswersHaveAddresses : List Event → Type 0
AnswersHaveAddresses events = ReadingsAreSaid × All AnswerHasAddresses (turns events)
