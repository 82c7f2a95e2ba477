-- The gateway's own message serves its offer: it has two crypto sessions for each medium that is active, under its policy.
use Rattle.std.proofs.Common.{◌≡◌, ℕ, ◌*◌, Bool, true, false, cond, List, [], ◌∷◌, length, Option, Some, None, Ok, refl, ap, ◌∙◌, subst, arith}
use Rattle.std.proofs.lemmas.List.{length-map}
use Rattle.std.specs.List.{AllByRecursion, filter}
use Rattle.sg_agreement.proofs.MessagesSound.{psk_is}
use Rattle.sg_agreement.specs.Attributes.{has_message, mikey_value, own_ssrc, ssrcs_of}
use Rattle.sg_agreement.specs.Described.{described}
use Rattle.sg_agreement.specs.Keying.{Keying, PeerLines, OwnLines, PeerMessage, PeerMessages, OwnMessage, Offer}
use Rattle.sg_agreement.specs.Messages.{AtHand, Bundle, bundle_in}
use Rattle.sg_agreement.specs.Offers.{AgreedOffer, agreed_offer, chosen_in, keying_by_messages, keying_of, noise_of}
use Rattle.sg_agreement.specs.Sides.{active_count, is_active, side_of}
use Rattle.sg_csmap.specs.CryptoSessions.{streams_of}
use Rattle.sg_csmap.specs.Policies.{each_once, meaning, protection_of, said_by, value_of}
use Rattle.sg_base.specs.declared.suites.Suite.TheVariants.{Cm128Tag80}
use Rattle.sg_psk.specs.Policy.{own_policy}
use Rattle.sg_psk.specs.Sending.{Sent, entry_of, own_map, sent_of, sent_under}
use Rattle.sg_sdes.specs.Answers.{offered_by}
use Rattle.sg_sdp.specs.declared.medium.Medium as descriptions
use Rattle.sg_sdp.specs.declared.sdp.Sdp.{Sdp}
use Rattle.sg_gateway.proofs.Common.{CryptoLine, FromSecure, MikeyFromPlain, Pair, Plain, SdesFromPlain, Secure, StreamKeys, Way, after_ok, after_ok_is, each_active, of_psk, ok_is, pair_with}
use Rattle.sg_gateway.proofs.Kept.{WasOffered}
use Rattle.sg_conduct.proofs.Acceptable.{HasMeaning, streams_given}

-- both sides send in each active medium of this offer, where it is keyed by a message of the gateway's
abbrev pub Serves : Offer → Type 0
Serves o =
    (sent : Sent) → o.keying ≡ OwnMessage sent
    → (xs : List (StreamKeys × StreamKeys)) × (streams_of sent.csb sent.random sent.map (own_policy ∷ []) sent.tgks (active_count o.side o.description.media) ≡ Ok xs)

-- ---- the message

entry_means : (ssrc : ℕ) → HasMeaning (own_policy ∷ []) (entry_of 0 ssrc)
unfolding protection_of said_by meaning each_once value_of
entry_means ssrc = record { policy = own_policy; named = refl; protection = record { suite = Cm128Tag80; plain_rtp = false; plain_rtcp = false }; means = refl }

map_means : (ssrcs : List ℕ) → AllByRecursion (HasMeaning (own_policy ∷ [])) (own_map ssrcs)
unfolding own_map
map_means [] = tt
map_means (ssrc ∷ ssrcs) = (entry_means ssrc, (entry_means 0, map_means ssrcs))

map_long : (ssrcs : List ℕ) → length (own_map ssrcs) ≡ 2 * length ssrcs
unfolding own_map
map_long [] = refl
map_long (ssrc ∷ ssrcs) = let rest = map_long ssrcs in omega (arith, rest)

message_serves : (h : AtHand) (s : Sdp) (o : Option Pair) (sent : Sent) → sent_under h.now h.noise (ssrcs_of Plain s.media) o ≡ Ok sent
    → (xs : List (StreamKeys × StreamKeys)) × (streams_of sent.csb sent.random sent.map (own_policy ∷ []) sent.tgks (active_count Plain s.media) ≡ Ok xs)
message_serves h s None sent e = absurd cc
message_serves h s (Some pair) sent e =
    let w : Sent = sent_of pair h.now h.noise (ssrcs_of Plain s.media) in
    let actives : List descriptions.Medium = filter (is_active Plain) s.media in
    let long : length w.map ≡ 2 * active_count Plain s.media =
    map_long (ssrcs_of Plain s.media) ∙ ap (λ n. 2 * n) (length-map actives (λ (m : descriptions.Medium). own_ssrc m.lines)) in
    subst (λ (sent : Sent). (xs : List (StreamKeys × StreamKeys)) × (streams_of sent.csb sent.random sent.map (own_policy ∷ []) sent.tgks (active_count Plain s.media) ≡ Ok xs)) (ok_is w sent e)
    (streams_given w.csb w.random (own_policy ∷ []) w.tgks w.map (active_count Plain s.media) long (map_means (ssrcs_of Plain s.media)))

-- ---- the offer

of_lines : (ls : List (Option CryptoLine)) (sent : Sent) → PeerLines ls ≡ OwnMessage sent → ⊥
of_lines ls sent e = absurd cc

of_own_lines : (ls : List (Option (List CryptoLine))) (sent : Sent) → OwnLines ls ≡ OwnMessage sent → ⊥
of_own_lines ls sent e = absurd cc

of_message : (b : Bundle) (sent : Sent) → PeerMessage b ≡ OwnMessage sent → ⊥
of_message b sent e = absurd cc

of_messages : (bs : List (Option Bundle)) (sent : Sent) → PeerMessages bs ≡ OwnMessage sent → ⊥
of_messages bs sent e = absurd cc

same_message : (a b : Sent) → OwnMessage a ≡ OwnMessage b → a ≡ b
same_message a b e = cc

module _ (h : AtHand) (s : Sdp) where
  not_own : (value : Option (List ℕ)) (k : Keying) → keying_by_messages h s value ≡ Ok k → (sent : Sent) → ¬ k ≡ OwnMessage sent
  not_own (Some value) k e sent is = let a = after_ok_is (bundle_in h 255 (active_count Secure s.media) (Some value)) _ k e in of_message a.0 sent (ok_is (PeerMessage a.0) k a.2 ∙ is)
  not_own None k e sent is =
      let a = after_ok_is (each_active Secure (λ k m. bundle_in h k 1 (mikey_value m.lines)) 0 s.media) _ k e in of_messages a.0 sent (ok_is (PeerMessages a.0) k a.2 ∙ is)

  secure_not_own : (b : Bool) (k : Keying) → cond b (keying_by_messages h s (mikey_value s.session)) (after_ok (each_active Secure chosen_in 0 s.media) (λ ls. Ok (PeerLines ls))) ≡ Ok k
      → (sent : Sent) → ¬ k ≡ OwnMessage sent
  secure_not_own true k e sent is = not_own (mikey_value s.session) k e sent is
  secure_not_own false k e sent is = let a = after_ok_is (each_active Secure chosen_in 0 s.media) _ k e in of_lines a.0 sent (ok_is (PeerLines a.0) k a.2 ∙ is)

  keying_serves : (way : Way) (k : Keying) → keying_of h s way ≡ Ok k → Serves (record { side = side_of way; description = s; keying = k })
  keying_serves FromSecure k e sent is = absurd (secure_not_own (has_message s) k e sent is)
  keying_serves SdesFromPlain k e sent is =
      let a = after_ok_is (each_active Plain (λ k m. Ok (offered_by (noise_of k h.noise))) 0 s.media) _ k e in absurd (of_own_lines a.0 sent (ok_is (OwnLines a.0) k a.2 ∙ is))
  keying_serves (MikeyFromPlain peer) k e sent is =
      let a = after_ok_is (of_psk 255 (sent_under h.now h.noise (ssrcs_of Plain s.media) (pair_with h.pairs peer))) _ k e in
      message_serves h s (pair_with h.pairs peer) sent (psk_is 255 _ a.0 a.1 ∙ ap Ok (same_message a.0 sent (ok_is (OwnMessage a.0) k a.2 ∙ is)))

pub offer_serves : (o : Offer) → WasOffered o → Serves o
unfolding agreed_offer
offer_serves o was =
    let p = after_ok_is (described (side_of was.way) was.hand.media was.text) _ was.accepted was.agreed in
    let q = after_ok_is (keying_of was.hand p.0 was.way) _ was.accepted p.2 in
    let made : Offer = record { side = side_of was.way; description = p.0; keying = q.0 } in
    subst Serves (ap (λ (a : AgreedOffer). a.offer) (ok_is _ was.accepted q.2) ∙ was.same) (keying_serves was.hand p.0 was.way q.0 q.1)
