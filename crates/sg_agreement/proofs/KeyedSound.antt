-- What an accepted offer keeps is sound.
use Rattle.std.proofs.Common.{◌≡◌, ℕ, ◌+◌, Bool, true, false, cond, List, [], ◌∷◌, Option, Some, None, Result, Ok, Err, ap, subst}
use Rattle.std.specs.List.{AllByRecursion}
use Rattle.sg_base.specs.declared.addresses.Side.{Side}
use Rattle.sg_base.specs.declared.addresses.Side.TheVariants.{Secure, Plain}
use Rattle.sg_base.specs.declared.faults.Refusal.{Refusal}
use Rattle.sg_base.specs.declared.faults.SdesFault.{SdesFault}
use Rattle.sg_psk.specs.Pairs.{pair_with}
use Rattle.sg_psk.specs.Sending.{sent_under}
use Rattle.sg_sdes.specs.Answers.{chosen_of, offered_by}
use Rattle.sg_sdes.specs.declared.lines.CryptoLine.{CryptoLine}
use Rattle.sg_sdp.specs.declared.medium.Medium as descriptions
use Rattle.sg_sdp.specs.declared.sdp.Sdp.{Sdp}
use Rattle.sg_session.proofs.Inversions.{after_ok_is, ok_is}
use Rattle.sg_session.specs.Stages.{after_ok}
use Rattle.sg_agreement.proofs.FewMedia.{of_offer}
use Rattle.sg_agreement.proofs.LinesSound.{Valid, IsSoundLine, chosen_line, offered_lines}
use Rattle.sg_agreement.proofs.MessageKeys.{AreSoundTgks}
use Rattle.sg_agreement.proofs.MessageOctets.{Found}
use Rattle.sg_agreement.proofs.MessagesSound.{IsSoundBundle, bundle_sound, psk_is, sent_sound}
use Rattle.sg_agreement.specs.Attributes.{crypto_values, has_message, mikey_value, ssrcs_of}
use Rattle.sg_agreement.specs.EachMedium.{if_active, each_active}
use Rattle.sg_agreement.specs.Keying.{Keying, PeerLines, OwnLines, PeerMessage, PeerMessages, OwnMessage}
use Rattle.sg_agreement.specs.Messages.{AtHand, bundle_in}
use Rattle.sg_agreement.specs.Offers.{AgreedOffer, chosen_in, noise_of, keying_by_messages, keying_of, agreed_offer}
use Rattle.sg_agreement.specs.Refusals.{of_sdes, of_psk}
use Rattle.sg_agreement.specs.Sides.{is_active, active_count}
use Rattle.sg_agreement.specs.declared.ways.Way.{Way}
use Rattle.sg_agreement.specs.declared.ways.Way.TheVariants.{FromSecure, SdesFromPlain, MikeyFromPlain}

abbrev pub Sometimes : {X : Type 0} → (X → Type 0) → Option X → Type 0
Sometimes P None = Unit {0}
Sometimes P (Some x) = P x

abbrev pub IsSoundKeying : Keying → Type 0
IsSoundKeying (PeerLines ls) = AllByRecursion (Sometimes IsSoundLine) ls
IsSoundKeying (OwnLines ls) = AllByRecursion (Sometimes (AllByRecursion IsSoundLine)) ls
IsSoundKeying (PeerMessage b) = IsSoundBundle b
IsSoundKeying (PeerMessages bs) = AllByRecursion (Sometimes IsSoundBundle) bs
IsSoundKeying (OwnMessage s) = AreSoundTgks s.tgks

-- ---- active media

active_is : {X : Type 0} (P : X → Type 0) (b : Bool) (r : Result X Refusal) (o : Option X) → ((x : X) → r ≡ Ok x → P x) → if_active b r ≡ Ok o → Sometimes P o
active_is P false r o value e = subst (Sometimes P) (ok_is None o e) tt
active_is P true r o value e =
    let a = after_ok_is r (λ x. Ok (Some x)) o e in
    subst (Sometimes P) (ok_is (Some a.0) o a.2) (value a.0 a.1)

pub each_active_is : {X : Type 0} (P : X → Type 0) (side : Side) (value : ℕ → descriptions.Medium → Result X Refusal) → ((k : ℕ) (m : descriptions.Medium) (x : X) → value k m ≡ Ok x → P x)
    → (k : ℕ) (ms : List descriptions.Medium) (os : List (Option X)) → each_active side value k ms ≡ Ok os → AllByRecursion (Sometimes P) os
each_active_is P side value all k [] os e = subst (AllByRecursion (Sometimes P)) (ok_is [] os e) tt
each_active_is P side value all k (m ∷ ms) os e =
    let a = after_ok_is (if_active (is_active side m) (value k m)) _ os e in
    let b = after_ok_is (each_active side value (k + 1) ms) _ os a.2 in
    subst (AllByRecursion (Sometimes P)) (ok_is (a.0 ∷ b.0) os b.2)
    (active_is P (is_active side m) (value k m) a.0 (all k m) a.1, each_active_is P side value all (k + 1) ms b.0 b.1)

pub sdes_is : {X : Type 0} (k : ℕ) (r : Result X SdesFault) (x : X) → of_sdes k r ≡ Ok x → r ≡ Ok x
sdes_is k (Ok y) x e = let same : y ≡ x = cc in ap Ok same
sdes_is k (Err f) x e = absurd cc

chosen_sound : Valid → (k : ℕ) (m : descriptions.Medium) (l : CryptoLine) → chosen_in k m ≡ Ok l → IsSoundLine l
chosen_sound valid k m l e = chosen_line valid (crypto_values m.lines) l (sdes_is k (chosen_of (crypto_values m.lines)) l e)

-- ---- the keying

by_messages_sound : Found → (h : AtHand) (s : Sdp) (value : Option (List ℕ)) (k : Keying) → keying_by_messages h s value ≡ Ok k → IsSoundKeying k
by_messages_sound found h s (Some value) k e =
    let a = after_ok_is (bundle_in h 255 (active_count Secure s.media) (Some value)) _ k e in
    subst IsSoundKeying (ok_is (PeerMessage a.0) k a.2) (bundle_sound found h 255 (active_count Secure s.media) (Some value) a.0 a.1)
by_messages_sound found h s None k e =
    let a = after_ok_is (each_active Secure (λ k m. bundle_in h k 1 (mikey_value m.lines)) 0 s.media) _ k e in
    subst IsSoundKeying (ok_is (PeerMessages a.0) k a.2)
    (each_active_is IsSoundBundle Secure (λ k m. bundle_in h k 1 (mikey_value m.lines)) (λ k m b is. bundle_sound found h k 1 (mikey_value m.lines) b is) 0 s.media a.0 a.1)

keying_sound : Valid → Found → (h : AtHand) (s : Sdp) (way : Way) (k : Keying) → keying_of h s way ≡ Ok k → IsSoundKeying k
keying_sound valid found h s FromSecure k e = go (has_message s) e
  where
    go : (b : Bool) → cond b (keying_by_messages h s (mikey_value s.session)) (after_ok (each_active Secure chosen_in 0 s.media) (λ ls. Ok (PeerLines ls))) ≡ Ok k → IsSoundKeying k
    go true e = by_messages_sound found h s (mikey_value s.session) k e
    go false e =
        let a = after_ok_is (each_active Secure chosen_in 0 s.media) _ k e in
        subst IsSoundKeying (ok_is (PeerLines a.0) k a.2) (each_active_is IsSoundLine Secure chosen_in (chosen_sound valid) 0 s.media a.0 a.1)
keying_sound valid found h s SdesFromPlain k e =
    let a = after_ok_is (each_active Plain (λ k m. Ok (offered_by (noise_of k h.noise))) 0 s.media) _ k e in
    subst IsSoundKeying (ok_is (OwnLines a.0) k a.2)
    (each_active_is (AllByRecursion IsSoundLine) Plain (λ k m. Ok (offered_by (noise_of k h.noise)))
    (λ k m ls is. subst (AllByRecursion IsSoundLine) (ok_is (offered_by (noise_of k h.noise)) ls is) (offered_lines (noise_of k h.noise))) 0 s.media a.0 a.1)
keying_sound valid found h s (MikeyFromPlain peer) k e =
    let a = after_ok_is (of_psk 255 (sent_under h.now h.noise (ssrcs_of Plain s.media) (pair_with h.pairs peer))) _ k e in
    subst IsSoundKeying (ok_is (OwnMessage a.0) k a.2) (sent_sound h.now h.noise (ssrcs_of Plain s.media) (pair_with h.pairs peer) a.0 (psk_is 255 _ a.0 a.1))

pub offer_sound : Valid → Found → (h : AtHand) (way : Way) (text : List ℕ) (a : AgreedOffer) → agreed_offer h way text ≡ Ok a → IsSoundKeying a.offer.keying
offer_sound valid found h way text a e = of_offer (λ a. IsSoundKeying a.offer.keying) h way text a e (λ s k was is. keying_sound valid found h s way k is)
