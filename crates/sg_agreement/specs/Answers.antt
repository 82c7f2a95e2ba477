-- What the answer to an open offer gives (RFC 3264, 6): its first refusal, or the text for the side that
-- offered and each medium that is agreed.
use Rattle.std.specs.Prelude.{ℕ, List, [], ◌∷◌, map, length, Bool, Option, Some, None, Result, Ok}
use Rattle.sg_base.specs.declared.faults.Refusal.{Refusal}
use Rattle.sg_sdp.specs.declared.medium.Medium as descriptions
use Rattle.sg_sdp.specs.declared.sdp.Sdp.{Sdp}
use Rattle.sg_session.specs.Stages.{after_ok}
use Rattle.sg_agreement.specs.Attributes.{mikey_value}
use Rattle.sg_agreement.specs.CarriedTexts.{ports_from, carried_text}
use Rattle.sg_agreement.specs.Described.{described}
use Rattle.sg_agreement.specs.EachMedium.{each_kept}
use Rattle.sg_agreement.specs.Keyed.{Keyed, media_agreed}
use Rattle.sg_agreement.specs.Keying.{Keying, PeerLines, OwnLines, PeerMessage, PeerMessages, OwnMessage, Offer}
use Rattle.sg_agreement.specs.LineAnswers.{keyed_by_peer_line, keyed_by_own_lines}
use Rattle.sg_agreement.specs.Media.{Medium}
use Rattle.sg_agreement.specs.MessageAnswers.{over_active, keyed_as_responder, keyed_as_initiator, response_line, own_streams, keyed_by_message, streams_answered}
use Rattle.sg_agreement.specs.Sides.{other_side, active_count, actives_after}

-- how each medium that is active after the answer is keyed, and the lines that the gateway adds to the
-- session part
pub record Answered : Type 0 where
  pub session : List (List ℕ)
  pub media : List (Option Keyed)

abbrev pub answered : List (List ℕ) → Result (List (Option Keyed)) Refusal → Result Answered Refusal
answered session media = after_ok media (λ media. Ok (record { session = session; media = media }))

-- by the offer, the answer's noise and description, and which media are active after it
abbrev pub answered_by : Offer → List ℕ → Sdp → List Bool → Keying → Result Answered Refusal
answered_by o noise s active (PeerLines lines) = answered [] (each_kept (keyed_by_peer_line noise) 0 active lines s.media)
answered_by o noise s active (OwnLines lines) = answered [] (each_kept keyed_by_own_lines 0 active lines s.media)
answered_by o noise s active (PeerMessage b) =
    answered (response_line o.side o.description.media s.media b.initial ∷ [])
    (each_kept (λ k streams n. Ok (keyed_as_responder [] streams n)) 0 active (over_active o.side o.description.media b.streams) s.media)
answered_by o noise s active (PeerMessages bundles) =
    answered [] (each_kept (λ k x n. Ok (keyed_by_message x n)) 0 active (map own_streams bundles) s.media)
answered_by o noise s active (OwnMessage sent) =
    after_ok (streams_answered sent (active_count o.side o.description.media) (mikey_value s.session)) (λ streams.
    answered [] (each_kept (λ k streams n. Ok (keyed_as_initiator streams)) 0 active (over_active o.side o.description.media streams) s.media))

abbrev pub lines_of : Option Keyed → List (List ℕ)
lines_of None = []
lines_of (Some k) = k.lines

-- each medium is carried at the gateway's port towards the side that offered, with the offer's profile
abbrev pub answered_text : ℕ → Offer → Sdp → List Bool → Answered → List ℕ
answered_text slot o s active a =
    carried_text (ports_from slot 0 o.side active) (map (λ (m : descriptions.Medium). m.profile) o.description.media)
    (record { session = a.session; media = map lines_of a.media }) s

-- what an answer gives that isn't refused: the text for the side that offered, and what is agreed of each medium
pub record AgreedAnswer : Type 0 where
  pub text : List ℕ
  pub media : List (Option Medium)

abbrev pub accepted_answer : ℕ → Offer → Sdp → List Bool → Answered → AgreedAnswer
accepted_answer slot o s active a = record {
  text = answered_text slot o s active a;
  media = media_agreed o.side o.description.media s.media a.media;
}

abbrev pub agreed_by : ℕ → Offer → List ℕ → Sdp → List Bool → Result AgreedAnswer Refusal
agreed_by slot o noise s active = after_ok (answered_by o noise s active o.keying) (λ a. Ok (accepted_answer slot o s active a))

-- of a call's slot, its open offer, the noise and the text of the other side
unfoldable pub agreed_answer : ℕ → Offer → List ℕ → List ℕ → Result AgreedAnswer Refusal
agreed_answer slot o noise text =
    after_ok (described (other_side o.side) (Some (length o.description.media)) text) (λ s.
    agreed_by slot o noise s (actives_after o.side o.description.media s.media))
