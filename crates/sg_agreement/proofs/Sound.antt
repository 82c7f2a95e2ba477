-- What an accepted answer agrees is sound, and nothing that holds for one side alone is carried to the plain side.
use Rattle.std.proofs.Common.{◌≡◌, ◌≤◌, ℕ, ◌+◌, Bool, true, false, List, [], ◌∷◌, map, Option, Some, None, Result, Ok, subst, arith, cond, ◌++◌, length, refl, sym, ap, ◌∙◌, append-nil}
use Rattle.std.specs.List.{AllByRecursion, flat_map}
use Rattle.std.specs.Option.{option_map}
use Rattle.sg_base.specs.declared.addresses.Side.{Side}
use Rattle.sg_base.specs.declared.addresses.Side.TheVariants.{Secure, Plain}
use Rattle.sg_base.specs.declared.faults.Refusal.{Refusal}
use Rattle.sg_csmap.specs.CryptoSessions.{streams_of}
use Rattle.sg_csmap.specs.declared.sessions.StreamKeys.{StreamKeys}
use Rattle.sg_mikey.specs.declared.message.CsEntry.{CsEntry}
use Rattle.sg_psk.specs.Accepting.{Accepted}
use Rattle.sg_psk.specs.Pairs.{pair_with}
use Rattle.sg_psk.specs.Policy.{own_policy}
use Rattle.sg_psk.specs.Sending.{Sent, response_of, sent_under}
use Rattle.sg_sdes.specs.Answers.{matched, offered_by}
use Rattle.sg_sdes.specs.declared.lines.CryptoLine.{CryptoLine}
use Rattle.sg_sdp.specs.Carrying.{carried, is_one_sided}
use Rattle.sg_sdp.specs.Descriptions.{all_lines, medium_line, medium_lines}
use Rattle.sg_sdp.specs.Reading.{description_of}
use Rattle.sg_sdp.specs.declared.medium.Medium as descriptions
use Rattle.sg_sdp.specs.declared.medium.Profile.{Profile}
use Rattle.sg_sdp.specs.declared.sdp.Sdp.{Sdp}
use Rattle.sg_session.proofs.Inversions.{after_ok_is, ok_is}
use Rattle.sg_session.proofs.Lists.{each_map}
use Rattle.sg_session.specs.Stages.{after_ok}
use Rattle.sg_agreement.proofs.FewMedia.{of_answer, described_is, of_offer}
use Rattle.sg_agreement.proofs.KeyedSound.{Sometimes, IsSoundKeying, sdes_is, offer_sound}
use Rattle.sg_agreement.proofs.LinesSound.{Valid, IsSoundLine, line_sound, line_stream, answer_line}
use Rattle.sg_agreement.proofs.MessageKeys.{AreSoundTgks}
use Rattle.sg_agreement.proofs.MessageOctets.{Found}
use Rattle.sg_agreement.proofs.MessagesSound.{IsSoundBundle, cs_is}
use Rattle.sg_agreement.proofs.OneLines.{carried_one}
use Rattle.sg_agreement.proofs.SessionsSound.{IsSoundPair, session_stream, other_source, streams_sound}
use Rattle.sg_agreement.proofs.TextLines.{matched_is}
use Rattle.sg_agreement.proofs.Texts.{Takes}
use Rattle.sg_agreement.specs.Answers.{Answered, answered, answered_by, AgreedAnswer, agreed_answer, lines_of}
use Rattle.sg_agreement.specs.Attributes.{crypto_values, first_of, mikey_value, own_ssrc, has_message, ssrcs_of}
use Rattle.sg_agreement.specs.CarriedTexts.{Added, nothing, with_media_lines, with_added, carried_text, IsOneLine, IsTwoSided}
use Rattle.sg_agreement.specs.EachMedium.{if_kept, each_kept, each_active}
use Rattle.sg_agreement.specs.Keyed.{Keyed, medium_agreed, media_agreed}
use Rattle.sg_agreement.specs.Keying.{Keying, PeerLines, OwnLines, PeerMessage, PeerMessages, OwnMessage, Offer, added_by}
use Rattle.sg_agreement.specs.LineAnswers.{keyed_by_peer_line, lines_matched, keyed_by_matched, keyed_by_own_lines}
use Rattle.sg_agreement.specs.MessageAnswers.{next_if, over_active, keyed_as_responder, keyed_as_initiator, first_streams, own_streams, keyed_by_message, responded, streams_answered}
use Rattle.sg_agreement.specs.Messages.{AtHand, Bundle, message_in, bundle_in}
use Rattle.sg_agreement.specs.Offers.{AgreedOffer, noise_of, agreed_offer, chosen_in, keying_by_messages, keying_of}
use Rattle.sg_agreement.specs.Refusals.{of_sdes, of_psk, of_cs}
use Rattle.sg_agreement.specs.Sides.{is_active, active_count, actives_after, side_of, other_side}
use Rattle.sg_agreement.specs.Sound.{IsSoundStream, IsSound, IsSoundMedium}
use Rattle.sg_agreement.specs.Streams.{window_of}
use Rattle.sg_agreement.specs.declared.ways.Way.{Way}
use Rattle.sg_agreement.specs.declared.ways.Way.TheVariants.{FromSecure, SdesFromPlain, MikeyFromPlain}

record IsSoundKeyed (k : Keyed) : Type 0 where
  from_peer : IsSoundStream k.from_peer
  to_peer : IsSoundStream k.to_peer
  least : 64 ≤ k.window
  most : k.window ≤ 1024

low_window : (o : Option ℕ) → window_of o ≤ 1024
low_window None = omega arith
low_window (Some n) = omega arith

high_window : (o : Option ℕ) → 64 ≤ window_of o
high_window None = omega arith
high_window (Some n) = omega arith

-- ---- the media that are active after the answer

kept_is : {X Y : Type 0} (P : X → Type 0) (Q : Y → Type 0) (b : Bool) (o : Option X) (value : X → Result Y Refusal) (y : Option Y) → ((x : X) (y : Y) → P x → value x ≡ Ok y → Q y)
    → Sometimes P o → if_kept b o value ≡ Ok y → Sometimes Q y
kept_is P Q false o value y all p e = subst (Sometimes Q) (ok_is None y e) tt
kept_is P Q true None value y all p e = subst (Sometimes Q) (ok_is None y e) tt
kept_is P Q true (Some x) value y all p e =
    let a = after_ok_is (value x) (λ y. Ok (Some y)) y e in
    subst (Sometimes Q) (ok_is (Some a.0) y a.2) (all x a.0 p a.1)

pub each_kept_is : {X Y : Type 0} (P : X → Type 0) (Q : Y → Type 0) (value : ℕ → X → descriptions.Medium → Result Y Refusal) → ((k : ℕ) (x : X) (n : descriptions.Medium) (y : Y) → P x → value k x n ≡ Ok y → Q y)
    → (k : ℕ) (active : List Bool) (xs : List (Option X)) (ns : List descriptions.Medium) (ys : List (Option Y)) → AllByRecursion (Sometimes P) xs → each_kept value k active xs ns ≡ Ok ys → AllByRecursion (Sometimes Q) ys
each_kept_is P Q value all k [] xs ns ys p e = subst (AllByRecursion (Sometimes Q)) (ok_is [] ys e) tt
each_kept_is P Q value all k (on ∷ active) [] ns ys p e = subst (AllByRecursion (Sometimes Q)) (ok_is [] ys e) tt
each_kept_is P Q value all k (on ∷ active) (x ∷ xs) [] ys p e = subst (AllByRecursion (Sometimes Q)) (ok_is [] ys e) tt
each_kept_is P Q value all k (on ∷ active) (x ∷ xs) (n ∷ ns) ys p e =
    let a = after_ok_is (if_kept on x (λ x. value k x n)) _ ys e in
    let b = after_ok_is (each_kept value (k + 1) active xs ns) _ ys a.2 in
    subst (AllByRecursion (Sometimes Q)) (ok_is (a.0 ∷ b.0) ys b.2)
    (kept_is P Q on x (λ x. value k x n) a.0 (λ x y. all k x n y) p.0 a.1, each_kept_is P Q value all (k + 1) active xs ns b.0 p.1 b.1)

abbrev AreSoundAnswered : Answered → Type 0
AreSoundAnswered a = AllByRecursion (Sometimes IsSoundKeyed) a.media

answered_is : (session : List (List ℕ)) (r : Result (List (Option Keyed)) Refusal) (a : Answered) → ((ks : List (Option Keyed)) → r ≡ Ok ks → AllByRecursion (Sometimes IsSoundKeyed) ks)
    → answered session r ≡ Ok a → AreSoundAnswered a
answered_is session r a all e =
    let p = after_ok_is r _ a e in
    subst AreSoundAnswered (ok_is _ a p.2) (all p.0 p.1)

-- ---- by crypto lines

peer_keyed : (noise : List ℕ) (k : ℕ) (peer : CryptoLine) (n : descriptions.Medium) (y : Keyed) → IsSoundLine peer → keyed_by_peer_line noise k peer n ≡ Ok y → IsSoundKeyed y
peer_keyed noise k peer n y is e = subst IsSoundKeyed (ok_is _ y e) (record {
  from_peer = line_stream peer peer is;
  to_peer = line_stream peer _ (answer_line peer (noise_of k noise) is);
  least = high_window peer.window;
  most = low_window peer.window;
})

abbrev AreSoundLines : CryptoLine × CryptoLine → Type 0
AreSoundLines p = IsSoundLine p.0 × IsSoundLine p.1

matched_sound : Valid → (offered : List CryptoLine) (value : List ℕ) (p : CryptoLine × CryptoLine) → AllByRecursion IsSoundLine offered → matched offered value ≡ Ok p → AreSoundLines p
matched_sound valid offered value p all e = let m = matched_is IsSoundLine offered value p all e in (m.1.0, line_sound p.1 (valid value p.1 m.0))

value_matched : Valid → (offered : List CryptoLine) (value : Option (List ℕ)) (p : CryptoLine × CryptoLine) → AllByRecursion IsSoundLine offered → lines_matched offered value ≡ Ok p → AreSoundLines p
value_matched valid offered None p all e = absurd cc
value_matched valid offered (Some value) p all e = matched_sound valid offered value p all e

own_keyed : Valid → (k : ℕ) (offered : List CryptoLine) (n : descriptions.Medium) (y : Keyed) → AllByRecursion IsSoundLine offered → keyed_by_own_lines k offered n ≡ Ok y → IsSoundKeyed y
own_keyed valid k offered n y all e =
    let a = after_ok_is (of_sdes k (lines_matched offered (first_of (crypto_values n.lines)))) _ y e in
    let are = value_matched valid offered (first_of (crypto_values n.lines)) a.0 all (sdes_is k _ a.0 a.1) in
    subst IsSoundKeyed (ok_is (keyed_by_matched a.0) y a.2) (record {
      from_peer = line_stream a.0.1 a.0.1 are.1;
      to_peer = line_stream a.0.1 a.0.0 are.0;
      least = high_window a.0.1.window;
      most = low_window a.0.1.window;
    })

-- ---- by messages

responder_keyed : (added : List (List ℕ)) (streams : StreamKeys × StreamKeys) (n : descriptions.Medium) → IsSoundPair streams → IsSoundKeyed (keyed_as_responder added streams n)
responder_keyed added streams n is = record {
  from_peer = session_stream streams.0 is.0;
  to_peer = session_stream _ (other_source (own_ssrc n.lines) 0 streams.1 is.1);
  least = omega arith;
  most = omega arith;
}

initiator_keyed : (streams : StreamKeys × StreamKeys) → IsSoundPair streams → IsSoundKeyed (keyed_as_initiator streams)
initiator_keyed streams is = record { from_peer = session_stream streams.1 is.1; to_peer = session_stream streams.0 is.0; least = omega arith; most = omega arith }

pub over_sound : {X : Type 0} (P : X → Type 0) (side : Side) (ms : List descriptions.Medium) (xs : List X) → AllByRecursion P xs → AllByRecursion (Sometimes P) (over_active side ms xs)
over_sound P side [] xs p = tt
over_sound {X = X} P side (m ∷ ms) xs p = go (λ xs p. over_sound P side ms xs p) (is_active side m) xs p
  where
    go : ((xs : List X) → AllByRecursion P xs → AllByRecursion (Sometimes P) (over_active side ms xs)) → (b : Bool) (xs : List X) → AllByRecursion P xs → AllByRecursion (Sometimes P) (next_if b xs (over_active side ms))
    go rest true (x ∷ xs) p = (p.0, rest xs p.1)
    go rest true [] p = (tt, rest [] tt)
    go rest false xs p = (tt, rest xs p)

abbrev IsSoundMessage : Accepted × (StreamKeys × StreamKeys) → Type 0
IsSoundMessage x = IsSoundPair x.1

own_sound_streams : (b : Option Bundle) → Sometimes IsSoundBundle b → Sometimes IsSoundMessage (own_streams b)
own_sound_streams None p = tt
own_sound_streams (Some b) p = go b.streams p
  where
    go : (ss : List (StreamKeys × StreamKeys)) → AllByRecursion IsSoundPair ss → Sometimes IsSoundMessage (option_map (λ streams. (b.initial, streams)) (first_streams ss))
    go [] p = tt
    go (s ∷ ss) p = p.0

responded_sound : (ss : List (StreamKeys × StreamKeys)) (map : List CsEntry) → AllByRecursion IsSoundPair ss → AllByRecursion IsSoundPair (responded ss map)
responded_sound [] map p = tt
responded_sound (s ∷ ss) [] p = tt
responded_sound (s ∷ ss) (i ∷ []) p = tt
responded_sound (s ∷ ss) (i ∷ r ∷ map) p = ((p.0.0, other_source r.ssrc r.roc s.1 p.0.1), responded_sound ss map p.1)

streams_answered_sound : (s : Sent) (count : ℕ) (value : Option (List ℕ)) (ss : List (StreamKeys × StreamKeys)) → AreSoundTgks s.tgks → streams_answered s count value ≡ Ok ss → AllByRecursion IsSoundPair ss
unfolding streams_answered
streams_answered_sound s count value ss tgks e =
    let a = after_ok_is (message_in 255 1 value) _ ss e in
    let b = after_ok_is (of_psk 255 (response_of a.0.0 a.0.1 s)) _ ss a.2 in
    let c = after_ok_is (of_cs 255 (streams_of s.csb s.random s.map (own_policy ∷ []) s.tgks count)) _ ss b.2 in
    subst (AllByRecursion IsSoundPair) (ok_is _ ss c.2) (responded_sound c.0 b.0 (streams_sound s.csb s.random (own_policy ∷ []) s.tgks tgks s.map count c.0 (cs_is 255 _ c.0 c.1)))

-- ---- the answer

answered_sound : Valid → (o : Offer) (noise : List ℕ) (s : Sdp) (active : List Bool) (k : Keying) (a : Answered) → IsSoundKeying k → answered_by o noise s active k ≡ Ok a → AreSoundAnswered a
answered_sound valid o noise s active (PeerLines ls) a is e =
    answered_is [] _ a (λ ks at. each_kept_is IsSoundLine IsSoundKeyed (keyed_by_peer_line noise) (λ k x n y p v. peer_keyed noise k x n y p v) 0 active ls s.media ks is at) e
answered_sound valid o noise s active (OwnLines ls) a is e =
    answered_is [] _ a (λ ks at. each_kept_is (AllByRecursion IsSoundLine) IsSoundKeyed keyed_by_own_lines (λ k x n y p v. own_keyed valid k x n y p v) 0 active ls s.media ks is at) e
answered_sound valid o noise s active (PeerMessage b) a is e =
    answered_is _ _ a (λ ks at. each_kept_is IsSoundPair IsSoundKeyed (λ k streams n. Ok (keyed_as_responder [] streams n))
    (λ k x n y p v. subst IsSoundKeyed (ok_is (keyed_as_responder [] x n) y v) (responder_keyed [] x n p)) 0 active (over_active o.side o.description.media b.streams) s.media ks
    (over_sound IsSoundPair o.side o.description.media b.streams is) at) e
answered_sound valid o noise s active (PeerMessages bs) a is e =
    answered_is [] _ a (λ ks at. each_kept_is IsSoundMessage IsSoundKeyed (λ k x n. Ok (keyed_by_message x n))
    (λ k x n y p v. subst IsSoundKeyed (ok_is (keyed_by_message x n) y v) (responder_keyed _ x.1 n p)) 0 active (map own_streams bs) s.media ks
    (each_map (Sometimes IsSoundBundle) (Sometimes IsSoundMessage) own_streams own_sound_streams bs is) at) e
answered_sound valid o noise s active (OwnMessage w) a is e =
    let count : ℕ = active_count o.side o.description.media in
    let p = after_ok_is (streams_answered w count (mikey_value s.session)) _ a e in
    answered_is [] _ a (λ ks at. each_kept_is IsSoundPair IsSoundKeyed (λ k streams n. Ok (keyed_as_initiator streams))
    (λ k x n y q v. subst IsSoundKeyed (ok_is (keyed_as_initiator x) y v) (initiator_keyed x q)) 0 active (over_active o.side o.description.media p.0) s.media ks
    (over_sound IsSoundPair o.side o.description.media p.0 (streams_answered_sound w count (mikey_value s.session) p.0 is p.1)) at) p.2

medium_is : (side : Side) (k : Keyed) (m n : descriptions.Medium) → IsSoundKeyed k → IsSound (medium_agreed side k m n)
medium_is Secure k m n is = record { from_peer = is.from_peer; to_peer = is.to_peer; least = is.least; most = is.most }
medium_is Plain k m n is = record { from_peer = is.from_peer; to_peer = is.to_peer; least = is.least; most = is.most }

media_are : (side : Side) (ms ns : List descriptions.Medium) (ks : List (Option Keyed)) → AllByRecursion (Sometimes IsSoundKeyed) ks → AllByRecursion IsSoundMedium (media_agreed side ms ns ks)
media_are side [] ns ks p = tt
media_are side (m ∷ ms) [] ks p = tt
media_are side (m ∷ ms) (n ∷ ns) [] p = tt
media_are side (m ∷ ms) (n ∷ ns) (None ∷ ks) p = (tt, media_are side ms ns ks p.1)
media_are side (m ∷ ms) (n ∷ ns) (Some k ∷ ks) p = (medium_is side k m n p.0, media_are side ms ns ks p.1)

abbrev AreSound : AgreedAnswer → Type 0
AreSound a = AllByRecursion IsSoundMedium a.media

answer_sound : Valid → (slot : ℕ) (o : Offer) (noise text : List ℕ) (a : AgreedAnswer) → IsSoundKeying o.keying → agreed_answer slot o noise text ≡ Ok a → AreSound a
answer_sound valid slot o noise text a is e = of_answer AreSound slot o noise text a e (λ s b was by.
    media_are o.side o.description.media s.media b.media (answered_sound valid o noise s (actives_after o.side o.description.media s.media) o.keying b is by))

pub media_sound : Valid → Found → (h : AtHand) (way : Way) (offered noise text : List ℕ) (slot : ℕ) (a : AgreedOffer) (g : AgreedAnswer)
    → agreed_offer h way offered ≡ Ok a → agreed_answer slot a.offer noise text ≡ Ok g → AllByRecursion IsSoundMedium g.media
media_sound valid found h way offered noise text slot a g made e = answer_sound valid slot a.offer noise text g (offer_sound valid found h way offered a made) e

-- ---- nothing that holds for one side alone is carried to the plain side

-- what sg_sdp's law says
abbrev pub TwoSided : Type 0
TwoSided = (ports : List ℕ) (profiles : List Profile) (s : Sdp) → AllByRecursion (λ line. is_one_sided line ≡ false) (all_lines (carried ports profiles s))

-- ---- nothing is added

abbrev IsEmpty : List (List ℕ) → Type 0
IsEmpty lines = lines ≡ []

same_media : (ms : List descriptions.Medium) (more : List (List (List ℕ))) → AllByRecursion IsEmpty more → flat_map medium_lines (with_media_lines ms more) ≡ flat_map medium_lines ms
same_media [] more p = refl
same_media (m ∷ ms) [] p = refl
same_media (m ∷ ms) (lines ∷ more) p =
    let own : m.lines ++ lines ≡ m.lines = ap (λ l. m.lines ++ l) p.0 ∙ append-nil m.lines in
    let rest = same_media ms more p.1 in
    λ i. (medium_line m ∷ own i) ++ rest i

same_all : (added : Added) (s : Sdp) → IsEmpty added.session → AllByRecursion IsEmpty added.media → all_lines (with_added added s) ≡ all_lines s
same_all added s none empty =
    let session : s.session ++ added.session ≡ s.session = ap (λ l. s.session ++ l) none ∙ append-nil s.session in
    let media = same_media s.media added.media empty in
    λ i. session i ++ media i

two_sided_text : TwoSided → Takes → (ports : List ℕ) (profiles : List Profile) (added : Added) (text : List ℕ) (s : Sdp) → description_of text ≡ Ok s
    → IsEmpty added.session → AllByRecursion IsEmpty added.media → IsTwoSided (carried_text ports profiles added s)
unfolding carried_text
two_sided_text two takes ports profiles added text s read none empty =
    let same = sym (same_all added (carried ports profiles s) none empty) in (
      with_added added (carried ports profiles s),
      refl,
      subst (λ (ls : List (List ℕ)). AllByRecursion (λ line. is_one_sided line ≡ false) ls) same (two ports profiles s),
      subst (λ (ls : List (List ℕ)). AllByRecursion IsOneLine ls) same (carried_one takes ports profiles text s read),
    )

-- ---- an offer from the secure side

by_messages_added : (h : AtHand) (s : Sdp) (value : Option (List ℕ)) (k : Keying) → keying_by_messages h s value ≡ Ok k → added_by k ≡ nothing
by_messages_added h s (Some value) k e =
    let a = after_ok_is (bundle_in h 255 (active_count Secure s.media) (Some value)) _ k e in
    ap added_by (sym (ok_is (PeerMessage a.0) k a.2))
by_messages_added h s None k e =
    let a = after_ok_is (each_active Secure (λ k m. bundle_in h k 1 (mikey_value m.lines)) 0 s.media) _ k e in
    ap added_by (sym (ok_is (PeerMessages a.0) k a.2))

secure_added : (h : AtHand) (s : Sdp) (k : Keying) → keying_of h s FromSecure ≡ Ok k → added_by k ≡ nothing
secure_added h s k e = go (has_message s) e
  where
    go : (b : Bool) → cond b (keying_by_messages h s (mikey_value s.session)) (after_ok (each_active Secure chosen_in 0 s.media) (λ ls. Ok (PeerLines ls))) ≡ Ok k → added_by k ≡ nothing
    go true e = by_messages_added h s (mikey_value s.session) k e
    go false e =
        let a = after_ok_is (each_active Secure chosen_in 0 s.media) _ k e in
        ap added_by (sym (ok_is (PeerLines a.0) k a.2))

abbrev AddsNothing : Added → Type 0
AddsNothing added = IsEmpty added.session × AllByRecursion IsEmpty added.media

pub offer_two_sided : TwoSided → Takes → (h : AtHand) (text : List ℕ) (a : AgreedOffer) → agreed_offer h FromSecure text ≡ Ok a → IsTwoSided a.text
offer_two_sided two takes h text a e = of_offer (λ a. IsTwoSided a.text) h FromSecure text a e (λ s k was is.
    let none : AddsNothing (added_by k) = subst AddsNothing (sym (secure_added h s k is)) (refl, tt) in
    two_sided_text two takes _ _ (added_by k) text s (described_is Secure h.media text s was) none.0 none.1)

-- ---- an answer to an offer from the plain side

-- keyed by what the gateway offers
abbrev IsOwn : Keying → Type 0
IsOwn (OwnLines ls) = Unit {0}
IsOwn (OwnMessage s) = Unit {0}
IsOwn other = ⊥

own_keying : (h : AtHand) (s : Sdp) (way : Way) (k : Keying) → side_of way ≡ Plain → keying_of h s way ≡ Ok k → IsOwn k
own_keying h s FromSecure k plain e = absurd cc
own_keying h s SdesFromPlain k plain e =
    let a = after_ok_is (each_active Plain (λ k m. Ok (offered_by (noise_of k h.noise))) 0 s.media) _ k e in
    subst IsOwn (ok_is (OwnLines a.0) k a.2) tt
own_keying h s (MikeyFromPlain peer) k plain e =
    let a = after_ok_is (of_psk 255 (sent_under h.now h.noise (ssrcs_of Plain s.media) (pair_with h.pairs peer))) _ k e in
    subst IsOwn (ok_is (OwnMessage a.0) k a.2) tt

own_offer : (h : AtHand) (way : Way) (text : List ℕ) (a : AgreedOffer) → side_of way ≡ Plain → agreed_offer h way text ≡ Ok a → IsOwn a.offer.keying
own_offer h way text a plain e = of_offer (λ a. IsOwn a.offer.keying) h way text a e (λ s k was is. own_keying h s way k plain is)

abbrev AddsNoLine : Keyed → Type 0
AddsNoLine k = IsEmpty k.lines

abbrev AddsNone : Answered → Type 0
AddsNone a = IsEmpty a.session × AllByRecursion (Sometimes AddsNoLine) a.media

any_of : {X : Type 0} (xs : List (Option X)) → AllByRecursion (Sometimes (λ (x : X). Unit {0})) xs
any_of [] = tt
any_of (None ∷ xs) = (tt, any_of xs)
any_of (Some x ∷ xs) = (tt, any_of xs)

own_lines_empty : (k : ℕ) (offered : List CryptoLine) (n : descriptions.Medium) (y : Keyed) → keyed_by_own_lines k offered n ≡ Ok y → AddsNoLine y
own_lines_empty k offered n y e =
    let a = after_ok_is (of_sdes k (lines_matched offered (first_of (crypto_values n.lines)))) _ y e in
    subst AddsNoLine (ok_is (keyed_by_matched a.0) y a.2) refl

answered_none : (o : Offer) (noise : List ℕ) (s : Sdp) (active : List Bool) (k : Keying) (a : Answered) → IsOwn k → answered_by o noise s active k ≡ Ok a → AddsNone a
answered_none o noise s active (PeerLines ls) a own e = absurd own
answered_none o noise s active (PeerMessage b) a own e = absurd own
answered_none o noise s active (PeerMessages bs) a own e = absurd own
answered_none o noise s active (OwnLines ls) a own e =
    let p = after_ok_is (each_kept keyed_by_own_lines 0 active ls s.media) _ a e in
    subst AddsNone (ok_is _ a p.2)
    (refl, each_kept_is (λ (x : List CryptoLine). Unit {0}) AddsNoLine keyed_by_own_lines (λ k x n y u v. own_lines_empty k x n y v) 0 active ls s.media p.0 (any_of ls) p.1)
answered_none o noise s active (OwnMessage w) a own e =
    let count : ℕ = active_count o.side o.description.media in
    let p = after_ok_is (streams_answered w count (mikey_value s.session)) _ a e in
    let over : List (Option (StreamKeys × StreamKeys)) = over_active o.side o.description.media p.0 in
    let q = after_ok_is (each_kept (λ k streams n. Ok (keyed_as_initiator streams)) 0 active over s.media) _ a p.2 in
    subst AddsNone (ok_is _ a q.2) (
      refl,
      each_kept_is (λ (x : StreamKeys × StreamKeys). Unit {0}) AddsNoLine (λ k streams n. Ok (keyed_as_initiator streams))
          (λ k x n y u v. subst AddsNoLine (ok_is (keyed_as_initiator x) y v) refl) 0 active over s.media q.0 (any_of over) q.1,
    )

no_lines : (ks : List (Option Keyed)) → AllByRecursion (Sometimes AddsNoLine) ks → AllByRecursion IsEmpty (map lines_of ks)
no_lines [] p = tt
no_lines (None ∷ ks) p = (refl, no_lines ks p.1)
no_lines (Some k ∷ ks) p = (p.0, no_lines ks p.1)

pub answer_two_sided : TwoSided → Takes → (h : AtHand) (way : Way) (offered noise text : List ℕ) (slot : ℕ) (a : AgreedOffer) (g : AgreedAnswer)
    → side_of way ≡ Plain → agreed_offer h way offered ≡ Ok a → agreed_answer slot a.offer noise text ≡ Ok g → IsTwoSided g.text
answer_two_sided two takes h way offered noise text slot a g plain made e = of_answer (λ g. IsTwoSided g.text) slot a.offer noise text g e (λ s b was is.
    let none = answered_none a.offer noise s (actives_after a.offer.side a.offer.description.media s.media) a.offer.keying b (own_offer h way offered a plain made) is in
    two_sided_text two takes _ _ (record { session = b.session; media = map lines_of b.media }) text s
    (described_is (other_side a.offer.side) (Some (length a.offer.description.media)) text s was) none.0 (no_lines b.media none.1))
