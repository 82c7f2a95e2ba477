-- The auditor's page, that sessions are there: after an answer that is told as live, the call's sessions of each medium that takes part in
-- its open offer and in the answer are open when the next thing comes.
use Rattle.std.specs.Prelude.{◌≡◌, ◌<◌, ℕ, List, [], ◌∷◌, ◌++◌, Ok}
use Rattle.std.specs.List.{AllByRecursion, Any}
use Rattle.sg_agreement.specs.Sides.{other_side, side_of}
use Rattle.sg_base.specs.declared.addresses.CallId.{CallId}
use Rattle.sg_base.specs.declared.addresses.Kind.{Kind}
use Rattle.sg_base.specs.declared.addresses.Kind.TheVariants.{Rtp, Rtcp}
use Rattle.sg_outcome.specs.declared.outcomes.Outcome.TheVariants.{Live}
use Rattle.sg_sdp.specs.Reading.{description_of}
use Rattle.sg_sdp.specs.declared.medium.Medium as descriptions
use Rattle.sg_sdp.specs.declared.sdp.Sdp.{Sdp}
use Rattle.sg_session.specs.declared.names.Direction.{Direction}
use Rattle.sg_session.specs.declared.names.Direction.TheVariants.{Opening, Sealing}
use Rattle.sg_gateway.specs.Addressed.{IsMediumAt}
use Rattle.sg_gateway.specs.Signals.{Answered}
use Rattle.sg_gateway.specs.Step.{Signalled}
use Rattle.sg_conduct.specs.Present.{TakesPart}
use Rattle.sg_audit.specs.Offers.{OpenOffer}
use Rattle.sg_audit.specs.Seen.{Open, Seen}

-- a session of this name is open, of the call of this id
abbrev pub IsOpen : List Open → CallId → ℕ → ℕ → ℕ → Direction → Kind → Type 0
IsOpen sessions id call generation medium direction kind =
    Any (λ o. (o.id ≡ id) × (o.name ≡ record { owner = record { call = call; medium = medium; generation = generation; direction = direction }; kind = kind })) sessions

-- RTP is opened and sealed, and RTCP too, unless a side has no port behind that of RTP (RFC 3550, 11)
pub record AreOpen (sessions : List Open) (id : CallId) (call generation medium : ℕ) (m n : descriptions.Medium) : Type 0 where
  pub opens : IsOpen sessions id call generation medium Opening Rtp
  pub seals : IsOpen sessions id call generation medium Sealing Rtp
  pub opens_rtcp : m.port < 65535 → n.port < 65535 → IsOpen sessions id call generation medium Opening Rtcp
  pub seals_rtcp : m.port < 65535 → n.port < 65535 → IsOpen sessions id call generation medium Sealing Rtcp

-- The answer of this text, which came in x, closes the call's open offer. What takes part in both is open in y, under one generation,
-- which is newer than those of the call's sessions that were open when the answer came.
pub record HasOpened (earlier : List Seen) (x y : Seen) (id : CallId) (text : List ℕ) : Type 0 where
  pub open_offer : OpenOffer earlier id
  pub answer : Sdp
  pub in_answer : description_of text ≡ Ok answer
  pub call : ℕ
  pub generation : ℕ
  pub newer : AllByRecursion (λ o. o.id ≡ id → (o.name.owner.call ≡ call) × (o.name.owner.generation < generation)) x.sessions
  pub are_open : (medium : ℕ) (m n : descriptions.Medium) → IsMediumAt open_offer.offer.media medium m → IsMediumAt answer.media medium n
      → TakesPart (side_of open_offer.way) m → TakesPart (other_side (side_of open_offer.way)) n → AreOpen y.sessions id call generation medium m n

abbrev pub OpensNext : List Seen → Seen → Seen → Type 0
OpensNext earlier x y =
    (id : CallId) (noise text : List ℕ) → x.came ≡ Signalled (Answered id noise text) → Any (λ z. z ≡ Live id) x.told → HasOpened earlier x y id text

abbrev pub SessionsAreOpenAfter : List Seen → List Seen → Type 0
SessionsAreOpenAfter earlier [] = Unit {0}
SessionsAreOpenAfter earlier (x ∷ []) = Unit {0}
SessionsAreOpenAfter earlier (x ∷ (y ∷ seen)) = OpensNext earlier x y × SessionsAreOpenAfter (earlier ++ x ∷ []) (y ∷ seen)

abbrev pub SessionsAreOpen : List Seen → Type 0
SessionsAreOpen seen = SessionsAreOpenAfter [] seen
