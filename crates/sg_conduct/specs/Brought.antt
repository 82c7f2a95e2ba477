-- The keys that an answer brings into use where it isn't refused: the master keys of the sessions that it gives its call.
use Rattle.std.specs.Prelude.{◌≡◌, ◌⊎◌, ◌<◌, ℕ, ◌+◌, List, [], map, Ok}
use Rattle.std.specs.List.{AllByRecursion, AllPairs, Any, flat_map}
use Rattle.sg_agreement.specs.Keying.{Offer}
use Rattle.sg_base.specs.Keys.{Master}
use Rattle.sg_base.specs.declared.addresses.CallId.{CallId}
use Rattle.sg_base.specs.declared.addresses.Kind.{Kind}
use Rattle.sg_base.specs.declared.addresses.Kind.TheVariants.{Rtp, Rtcp}
use Rattle.sg_sdp.specs.Reading.{description_of}
use Rattle.sg_sdp.specs.declared.sdp.Sdp.{Sdp}
use Rattle.sg_session.specs.Session.{Session}
use Rattle.sg_session.specs.declared.names.Direction.TheVariants.{Opening}
use Rattle.sg_gateway.specs.ByTexts.{AreByTexts}
use Rattle.sg_gateway.specs.Order.{DifferInName}
use Rattle.sg_gateway.specs.Runs.{Turn}
use Rattle.sg_gateway.specs.World.{Call}
use Rattle.sg_conduct.specs.CarriedBack.{IsToldBack}
use Rattle.sg_conduct.specs.Drawn.{AreDrawn, Opens}
use Rattle.sg_conduct.specs.Firsts.{AreByFirstLines}
use Rattle.sg_conduct.specs.Present.{IsOfPartners, MediaHaveSessions}

-- ---- the sessions

-- the session stands before the other: of an earlier medium, or of the same one, where what opens is before what seals
abbrev pub StandsBefore : Session → Session → Type 0
StandsBefore s t =
    (s.name.owner.medium < t.name.owner.medium)
    ⊎ ((s.name.owner.medium ≡ t.name.owner.medium) × (t.name.owner.direction ≡ Opening → s.name.owner.direction ≡ Opening))

-- The call's sessions are those of its current generation alone, no two of one name, in their order: those of each medium that
-- takes part in both texts, and of no other.
pub record IsOfAnswer (o : Offer) (answer : Sdp) (d : Call) : Type 0 where
  pub number : ℕ
  pub current : d.generations ≡ number + 1
  pub call : AllByRecursion (λ s. s.name.owner.call ≡ d.serial) d.sessions
  pub generation : AllByRecursion (λ s. s.name.owner.generation ≡ number) d.sessions
  pub names : AllPairs DifferInName d.sessions
  pub order : AllPairs StandsBefore d.sessions
  pub partners : AllByRecursion (IsOfPartners o.side o.description.media answer.media) d.sessions
  pub present : MediaHaveSessions o answer number d

-- its keys where it is of RTP; RTCP is under the same master keys (RFC 3711, 4.3.2)
abbrev pub keys_for : Kind → List Master → List Master
keys_for Rtp masters = masters
keys_for Rtcp masters = []

abbrev pub master_keys : List Session → List Master
master_keys sessions = flat_map (λ s. keys_for s.name.kind (map (λ k. k.master) s.keys)) sessions

-- ---- the keys

-- These are they, in their order: medium by medium, the peer's and behind them the gateway's. The sessions are keyed as those of
-- an answer that is taken: by the peer's first crypto line that is read and the gateway's that goes with it (RFC 4568, 5.1.2 and
-- 5.1.3), or under the TGKs of their MIKEY messages (RFC 3830, 4.1.3 and 6.1.1); and what the gateway makes is of the noise of
-- the two. The text `back` is one that could have been told of this answer.
pub record AreBrought (earlier : List Turn) (slot : ℕ) (id : CallId) (o : Offer) (noise text : List ℕ) (masters : List Master) : Type 0 where
  pub of_offer : Turn
  pub was_earlier : Any (λ u. u ≡ of_offer) earlier
  pub opens : Opens of_offer id o
  pub answer : Sdp
  pub in_answer : description_of text ≡ Ok answer
  pub back : List ℕ
  pub told : IsToldBack slot o noise answer back
  pub call : Call
  pub of_answer : IsOfAnswer o answer call
  pub by_texts : AreByTexts of_offer.before.books.pairs opens.way o.description answer opens.forth back call
  pub first : AreByFirstLines opens.way opens.drawn o.description noise answer call
  pub drawn : AreDrawn of_offer.before.books.pairs opens.way opens.drawn opens.forth o.description noise call
  pub are : masters ≡ master_keys call.sessions
