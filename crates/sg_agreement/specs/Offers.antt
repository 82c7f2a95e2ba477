-- What an offer gives (RFC 3264, 5): its first refusal, or the text for the other side and what is kept for
-- the answer.
use Rattle.std.specs.Prelude.{ℕ, ◌*◌, List, map, length, take, drop, Option, Some, None, Result, Ok, if◌then◌else◌}
use Rattle.sg_base.specs.declared.addresses.Side.TheVariants.{Secure, Plain}
use Rattle.sg_base.specs.declared.faults.Refusal.{Refusal}
use Rattle.sg_psk.specs.Pairs.{pair_with}
use Rattle.sg_psk.specs.Sending.{sent_under}
use Rattle.sg_psk.specs.declared.replays.Noted.{Noted}
use Rattle.sg_sdes.specs.Answers.{chosen_of, offered_by}
use Rattle.sg_sdes.specs.declared.lines.CryptoLine.{CryptoLine}
use Rattle.sg_sdp.specs.declared.medium.Medium as descriptions
use Rattle.sg_sdp.specs.declared.sdp.Sdp.{Sdp}
use Rattle.sg_session.specs.Stages.{after_ok}
use Rattle.sg_agreement.specs.declared.ways.Way.{Way}
use Rattle.sg_agreement.specs.declared.ways.Way.TheVariants.{FromSecure, SdesFromPlain, MikeyFromPlain}
use Rattle.sg_agreement.specs.Attributes.{crypto_values, has_message, mikey_value, ssrcs_of}
use Rattle.sg_agreement.specs.CarriedTexts.{exchanged, ports_from, carried_text}
use Rattle.sg_agreement.specs.Described.{described}
use Rattle.sg_agreement.specs.EachMedium.{each_active}
use Rattle.sg_agreement.specs.Keying.{Keying, PeerLines, OwnLines, PeerMessage, PeerMessages, OwnMessage, Offer, added_by, notes_of}
use Rattle.sg_agreement.specs.Messages.{AtHand, bundle_in}
use Rattle.sg_agreement.specs.Refusals.{of_sdes, of_psk}
use Rattle.sg_agreement.specs.Sides.{side_of, other_side, actives, active_count}

-- the first of a medium's lines that the gateway reads (RFC 4568, 5.1.2)
abbrev pub chosen_in : ℕ → descriptions.Medium → Result CryptoLine Refusal
chosen_in k m = of_sdes k (chosen_of (crypto_values m.lines))

-- the noise of the k-th medium
abbrev pub noise_of : ℕ → List ℕ → List ℕ
noise_of k noise = take 76 (drop (76 * k) noise)

-- the peer's message in the session part, which holds for all active media; without one, each active medium
-- has its own (RFC 4567, 3.1)
abbrev pub keying_by_messages : AtHand → Sdp → Option (List ℕ) → Result Keying Refusal
keying_by_messages h s (Some value) =
    after_ok (bundle_in h 255 (active_count Secure s.media) (Some value)) (λ bundle. Ok (PeerMessage bundle))
keying_by_messages h s None =
    after_ok (each_active Secure (λ k m. bundle_in h k 1 (mikey_value m.lines)) 0 s.media) (λ bundles. Ok (PeerMessages bundles))

-- An offer from the secure side that has a MIKEY message anywhere is keyed by MIKEY, and else by its crypto lines.
-- For an offer from the plain side the gateway's lines, or its message to that peer, are made of noise.
abbrev pub keying_of : AtHand → Sdp → Way → Result Keying Refusal
keying_of h s FromSecure =
    if has_message s then keying_by_messages h s (mikey_value s.session)
    else after_ok (each_active Secure chosen_in 0 s.media) (λ lines. Ok (PeerLines lines))
keying_of h s SdesFromPlain =
    after_ok (each_active Plain (λ k m. Ok (offered_by (noise_of k h.noise))) 0 s.media) (λ lines. Ok (OwnLines lines))
keying_of h s (MikeyFromPlain peer) =
    after_ok (of_psk 255 (sent_under h.now h.noise (ssrcs_of Plain s.media) (pair_with h.pairs peer))) (λ sent. Ok (OwnMessage sent))

-- what an offer gives that isn't refused: the text for the other side, the number of media, the open offer,
-- and the messages to be noted
pub record AgreedOffer : Type 0 where
  pub text : List ℕ
  pub media : ℕ
  pub offer : Offer
  pub noted : List Noted

-- each medium is carried at the gateway's port towards the other side, with that side's profile
abbrev pub offered_text : ℕ → Offer → List ℕ
offered_text slot o =
    carried_text (ports_from slot 0 (other_side o.side) (actives o.side o.description.media))
    (map (λ (m : descriptions.Medium). exchanged m.profile) o.description.media) (added_by o.keying) o.description

abbrev pub accepted_offer : ℕ → Offer → AgreedOffer
accepted_offer slot o = record {
  text = offered_text slot o;
  media = length o.description.media;
  offer = o;
  noted = notes_of o.keying;
}

unfoldable pub agreed_offer : AtHand → Way → List ℕ → Result AgreedOffer Refusal
agreed_offer h way text =
    after_ok (described (side_of way) h.media text) (λ s.
    after_ok (keying_of h s way) (λ keying.
    Ok (accepted_offer h.slot (record { side = side_of way; description = s; keying = keying }))))
