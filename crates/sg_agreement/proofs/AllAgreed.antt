-- A medium is agreed exactly where it is active in the offer and in the answer.
use Rattle.std.proofs.Common.{◌≡◌, ℕ, zero, suc, ◌+◌, ◌*◌, Bool, true, false, cond, not, ◌&&◌, eqb, List, [], ◌∷◌, length, map, Option, Some, None, is_some, Result, Ok, refl, sym, ap, ◌∙◌, subst, arith}
use Rattle.std.proofs.lemmas.Bool.{and_parts, eqb-true, not-false}
use Rattle.std.specs.List.{AllByRecursion, filter, list_any}
use Rattle.std.specs.Option.{option_map}
use Rattle.sg_base.specs.declared.addresses.Side.{Side}
use Rattle.sg_base.specs.declared.addresses.Side.TheVariants.{Secure, Plain}
use Rattle.sg_base.specs.declared.faults.CsFault.TheVariants.{CsCount, PolicyMissing}
use Rattle.sg_base.specs.declared.faults.PskFault.TheVariants.{Algorithm, BadMac, OtherSession}
use Rattle.sg_base.specs.declared.faults.Refusal.{Refusal}
use Rattle.sg_csmap.proofs.Loops.{is_there}
use Rattle.sg_csmap.specs.CryptoSessions.{lacks_policy, pair_in, pairs_from, streams_of}
use Rattle.sg_csmap.specs.declared.sessions.StreamKeys.{StreamKeys}
use Rattle.sg_mikey.specs.declared.message.CsEntry.{CsEntry}
use Rattle.sg_mikey.specs.declared.message.Message.{Message}
use Rattle.sg_mikey.specs.declared.message.Tgk.{Tgk}
use Rattle.sg_mikey.specs.declared.policy.Policy.{Policy}
use Rattle.sg_psk.specs.Accepting.{Accepted, initial_of}
use Rattle.sg_psk.specs.Pairs.{pair_with}
use Rattle.sg_psk.specs.Parts.{closing_in}
use Rattle.sg_psk.specs.Policy.{own_policy}
use Rattle.sg_psk.specs.Sending.{Sent, response_fits, response_of, sent_under}
use Rattle.sg_sdes.specs.Answers.{offered_by}
use Rattle.sg_sdp.specs.Reading.{description_of}
use Rattle.sg_sdp.specs.declared.medium.Medium as descriptions
use Rattle.sg_sdp.specs.declared.sdp.Sdp.{Sdp}
use Rattle.sg_session.proofs.Inversions.{after_ok_is, stop_if_is, ok_is}
use Rattle.sg_session.specs.Stages.{after_ok}
use Rattle.sg_agreement.proofs.FewMedia.{described_is, described_count, of_answer, of_offer}
use Rattle.sg_base.proofs.Cases.{and_then_some, map_some, some_is}
use Rattle.sg_agreement.proofs.KeyedSound.{Sometimes, each_active_is}
use Rattle.sg_agreement.proofs.MessagesSound.{psk_is, cs_is}
use Rattle.sg_agreement.specs.Answers.{Answered, answered_by, AgreedAnswer, agreed_answer}
use Rattle.sg_agreement.specs.Attributes.{has_message, mikey_value, ssrcs_of}
use Rattle.sg_agreement.specs.EachMedium.{if_active, each_active, if_kept, each_kept}
use Rattle.sg_agreement.specs.Keyed.{Keyed, medium_agreed, media_agreed}
use Rattle.sg_agreement.specs.Keying.{Keying, PeerLines, OwnLines, PeerMessage, PeerMessages, OwnMessage, Offer}
use Rattle.sg_agreement.specs.LineAnswers.{keyed_by_peer_line, keyed_by_own_lines}
use Rattle.sg_agreement.specs.Media.{Medium}
use Rattle.sg_agreement.specs.MessageAnswers.{next_if, over_active, keyed_as_responder, keyed_as_initiator, first_streams, own_streams, keyed_by_message, responded, streams_answered}
use Rattle.sg_agreement.specs.Messages.{AtHand, Bundle, bundle_in, message_in}
use Rattle.sg_agreement.specs.Offers.{AgreedOffer, chosen_in, noise_of, keying_by_messages, keying_of, agreed_offer}
use Rattle.sg_agreement.specs.Refusals.{of_psk, of_cs}
use Rattle.sg_agreement.specs.Sides.{side_of, other_side, is_active, actives, active_count, actives_after}
use Rattle.sg_agreement.specs.Sound.{AreAgreedWhereActive}
use Rattle.sg_agreement.specs.declared.ways.Way.{Way}
use Rattle.sg_agreement.specs.declared.ways.Way.TheVariants.{FromSecure, SdesFromPlain, MikeyFromPlain}

-- of each, whether it is there
abbrev pub there : {X : Type 0} → List (Option X) → List Bool
there xs = map is_some xs

-- ---- as many crypto sessions as media

module _ (csb : ℕ) (random : List ℕ) (policies : List Policy) (tgks : List Tgk) where
  pairs_long : (session count : ℕ) (map : List CsEntry) (ps : List (StreamKeys × StreamKeys)) → length map ≡ 2 * count → pairs_from csb random policies tgks session map ≡ Some ps → length ps ≡ count
  unfolding pairs_from
  pairs_long session count [] ps long e =
      let none = ap length (some_is [] ps e) in omega (arith, long, none)
  pairs_long session count (i ∷ []) ps long e = absurd (omega (arith, long))
  pairs_long session zero (i ∷ r ∷ map) ps long e = absurd (omega (arith, long))
  pairs_long session (suc count) (i ∷ r ∷ map) ps long e =
      let a = and_then_some (pair_in csb random policies tgks session i r) _ ps e in
      let b = map_some (pairs_from csb random policies tgks (session + 2) map) (λ pairs. a.0 ∷ pairs) ps a.2 in
      let rest = pairs_long (session + 2) count map b.0 (omega (arith, long)) b.1 in
      let whole = ap length b.2 in
      omega (arith, rest, whole)

  streams_long : (entries : List CsEntry) (count : ℕ) (ps : List (StreamKeys × StreamKeys)) → streams_of csb random entries policies tgks count ≡ Ok ps → (length entries ≡ 2 * count) × (length ps ≡ count)
  unfolding streams_of
  streams_long entries count ps e =
      let a = stop_if_is (not (eqb (length entries) (2 * count))) CsCount _ ps e in
      let b = stop_if_is (list_any (lacks_policy policies) entries) PolicyMissing _ ps a.1 in
      let long = eqb-true (length entries) (2 * count) (not-false _ a.0) in
      (long, pairs_long 1 count entries ps long (is_there (pairs_from csb random policies tgks 1 entries) ps b.1))

-- ---- what an offer keeps

active_there : {X : Type 0} (b : Bool) (r : Result X Refusal) (o : Option X) → if_active b r ≡ Ok o → is_some o ≡ b
active_there false r o e = ap is_some (sym (ok_is None o e))
active_there true r o e =
    let a = after_ok_is r (λ x. Ok (Some x)) o e in
    ap is_some (sym (ok_is (Some a.0) o a.2))

each_there : {X : Type 0} (side : Side) (value : ℕ → descriptions.Medium → Result X Refusal) (k : ℕ) (ms : List descriptions.Medium) (os : List (Option X))
    → each_active side value k ms ≡ Ok os → there os ≡ actives side ms
each_there side value k [] os e = ap there (sym (ok_is [] os e))
each_there side value k (m ∷ ms) os e =
    let a = after_ok_is (if_active (is_active side m) (value k m)) _ os e in
    let b = after_ok_is (each_active side value (k + 1) ms) _ os a.2 in
    let first = active_there (is_active side m) (value k m) a.0 a.1 in
    let rest = each_there side value (k + 1) ms b.0 b.1 in
    ap there (sym (ok_is (a.0 ∷ b.0) os b.2)) ∙ (λ i. first i ∷ rest i)

over_there : {X : Type 0} (side : Side) (ms : List descriptions.Medium) (xs : List X) → length xs ≡ active_count side ms → there (over_active side ms xs) ≡ actives side ms
over_there side [] xs e = refl
over_there {X = X} side (m ∷ ms) xs e = go (λ xs e. over_there side ms xs e) (is_active side m) xs e
  where
    go : ((xs : List X) → length xs ≡ active_count side ms → there (over_active side ms xs) ≡ actives side ms) → (b : Bool) (xs : List X)
        → length xs ≡ length (cond b (m ∷ filter (is_active side) ms) (filter (is_active side) ms)) → there (next_if b xs (over_active side ms)) ≡ b ∷ actives side ms
    go rest true [] e = absurd (omega (arith, e))
    go rest true (x ∷ xs) e = let more = rest xs (omega (arith, e)) in λ i. true ∷ more i
    go rest false xs e = let more = rest xs e in λ i. false ∷ more i

abbrev HasOne : Bundle → Type 0
HasOne b = length b.streams ≡ 1

own_there : (bs : List (Option Bundle)) → AllByRecursion (Sometimes HasOne) bs → there (map own_streams bs) ≡ there bs
own_there [] p = refl
own_there (None ∷ bs) p = let rest = own_there bs p.1 in λ i. false ∷ rest i
own_there (Some b ∷ bs) p = go b.streams p.0 (own_there bs p.1)
  where
    go : (ss : List (StreamKeys × StreamKeys)) → length ss ≡ 1 → there (map own_streams bs) ≡ there bs → is_some {T = Accepted × (StreamKeys × StreamKeys)} (option_map (λ streams. (b.initial, streams)) (first_streams ss)) ∷ there (map own_streams bs) ≡ true ∷ there bs
    go [] one rest = absurd (omega (arith, one))
    go (s ∷ ss) one rest = λ i. true ∷ rest i

bundle_long : (h : AtHand) (medium count : ℕ) (value : Option (List ℕ)) (b : Bundle) → bundle_in h medium count value ≡ Ok b → length b.streams ≡ count
unfolding bundle_in
bundle_long h medium count value b e =
    let p = after_ok_is (message_in medium 0 value) _ b e in
    let q = after_ok_is (of_psk medium (initial_of p.0.0 p.0.1 h.pairs h.noted h.now)) _ b p.2 in
    let a : Accepted = q.0 in
    let r = after_ok_is (of_cs medium (streams_of a.csb a.random a.map a.policies a.tgks count)) _ b q.2 in
    subst (λ (b : Bundle). length b.streams ≡ count) (ok_is _ b r.2) (streams_long a.csb a.random a.policies a.tgks a.map count r.0 (cs_is medium _ r.0 r.1)).1

abbrev pub IsWhole : Side → List descriptions.Medium → Keying → Type 0
IsWhole side ms (PeerLines ls) = there ls ≡ actives side ms
IsWhole side ms (OwnLines ls) = there ls ≡ actives side ms
IsWhole side ms (PeerMessage b) = length b.streams ≡ active_count side ms
IsWhole side ms (PeerMessages bs) = there (map own_streams bs) ≡ actives side ms
IsWhole side ms (OwnMessage s) = Unit {0}

by_messages_whole : (h : AtHand) (s : Sdp) (value : Option (List ℕ)) (k : Keying) → keying_by_messages h s value ≡ Ok k → IsWhole Secure s.media k
by_messages_whole h s (Some value) k e =
    let a = after_ok_is (bundle_in h 255 (active_count Secure s.media) (Some value)) _ k e in
    subst (IsWhole Secure s.media) (ok_is (PeerMessage a.0) k a.2) (bundle_long h 255 (active_count Secure s.media) (Some value) a.0 a.1)
by_messages_whole h s None k e =
    let a = after_ok_is (each_active Secure (λ k m. bundle_in h k 1 (mikey_value m.lines)) 0 s.media) _ k e in
    let one = each_active_is HasOne Secure (λ k m. bundle_in h k 1 (mikey_value m.lines)) (λ k m b is. bundle_long h k 1 (mikey_value m.lines) b is) 0 s.media a.0 a.1 in
    subst (IsWhole Secure s.media) (ok_is (PeerMessages a.0) k a.2) (own_there a.0 one ∙ each_there Secure (λ k m. bundle_in h k 1 (mikey_value m.lines)) 0 s.media a.0 a.1)

keying_whole : (h : AtHand) (s : Sdp) (way : Way) (k : Keying) → keying_of h s way ≡ Ok k → IsWhole (side_of way) s.media k
keying_whole h s FromSecure k e = go (has_message s) e
  where
    go : (b : Bool) → cond b (keying_by_messages h s (mikey_value s.session)) (after_ok (each_active Secure chosen_in 0 s.media) (λ ls. Ok (PeerLines ls))) ≡ Ok k → IsWhole Secure s.media k
    go true e = by_messages_whole h s (mikey_value s.session) k e
    go false e =
        let a = after_ok_is (each_active Secure chosen_in 0 s.media) _ k e in
        subst (IsWhole Secure s.media) (ok_is (PeerLines a.0) k a.2) (each_there Secure chosen_in 0 s.media a.0 a.1)
keying_whole h s SdesFromPlain k e =
    let a = after_ok_is (each_active Plain (λ k m. Ok (offered_by (noise_of k h.noise))) 0 s.media) _ k e in
    subst (IsWhole Plain s.media) (ok_is (OwnLines a.0) k a.2) (each_there Plain (λ k m. Ok (offered_by (noise_of k h.noise))) 0 s.media a.0 a.1)
keying_whole h s (MikeyFromPlain peer) k e =
    let a = after_ok_is (of_psk 255 (sent_under h.now h.noise (ssrcs_of Plain s.media) (pair_with h.pairs peer))) _ k e in
    subst (IsWhole Plain s.media) (ok_is (OwnMessage a.0) k a.2) tt

abbrev IsOfText : Way → List ℕ → AgreedOffer → Type 0
IsOfText way text a = (a.offer.side ≡ side_of way) × (description_of text ≡ Ok a.offer.description)

abbrev pub IsWholeOffer : AgreedOffer → Type 0
IsWholeOffer a = IsWhole a.offer.side a.offer.description.media a.offer.keying

pub offer_is : (h : AtHand) (way : Way) (text : List ℕ) (a : AgreedOffer) → agreed_offer h way text ≡ Ok a → (a.offer.side ≡ side_of way) × (description_of text ≡ Ok a.offer.description)
offer_is h way text a e = of_offer (IsOfText way text) h way text a e (λ s k was is. (refl, described_is (side_of way) h.media text s was))

pub offer_whole : (h : AtHand) (way : Way) (text : List ℕ) (a : AgreedOffer) → agreed_offer h way text ≡ Ok a → IsWholeOffer a
offer_whole h way text a e = of_offer IsWholeOffer h way text a e (λ s k was is. keying_whole h s way k is)

-- ---- what an answer keeps of it

kept_there : {X Y : Type 0} (p q : Bool) (x : Option X) (value : X → Result Y Refusal) (y : Option Y) → is_some x ≡ p → if_kept (p && q) x value ≡ Ok y → is_some y ≡ (p && q)
kept_there false q x value y is e = ap is_some (sym (ok_is None y e))
kept_there true false x value y is e = ap is_some (sym (ok_is None y e))
kept_there true true None value y is e = absurd cc
kept_there true true (Some x) value y is e =
    let a = after_ok_is (value x) (λ y. Ok (Some y)) y e in
    ap is_some (sym (ok_is (Some a.0) y a.2))

all_kept : {X Y : Type 0} (value : ℕ → X → descriptions.Medium → Result Y Refusal) (side : Side) (k : ℕ) (ms ns : List descriptions.Medium) (xs : List (Option X)) (ys : List (Option Y))
    → there xs ≡ actives side ms → each_kept value k (actives_after side ms ns) xs ns ≡ Ok ys → there ys ≡ actives_after side ms ns
all_kept value side k [] ns xs ys are e = ap there (sym (ok_is [] ys e))
all_kept value side k (m ∷ ms) [] xs ys are e = ap there (sym (ok_is [] ys e))
all_kept value side k (m ∷ ms) (n ∷ ns) [] ys are e = absurd cc
all_kept value side k (m ∷ ms) (n ∷ ns) (x ∷ xs) ys are e =
    let this : is_some x ≡ is_active side m = cc in
    let others : there xs ≡ actives side ms = cc in
    let on : Bool = is_active side m && is_active (other_side side) n in
    let a = after_ok_is (if_kept on x (λ x. value k x n)) _ ys e in
    let b = after_ok_is (each_kept value (k + 1) (actives_after side ms ns) xs ns) _ ys a.2 in
    let first = kept_there (is_active side m) (is_active (other_side side) n) x (λ x. value k x n) a.0 this a.1 in
    let rest = all_kept value side (k + 1) ms ns xs b.0 others b.1 in
    ap there (sym (ok_is (a.0 ∷ b.0) ys b.2)) ∙ (λ i. first i ∷ rest i)

response_long : (octets : List ℕ) (m : Message) (s : Sent) (entries : List CsEntry) → response_of octets m s ≡ Ok entries → length entries ≡ length s.map
unfolding response_of
response_long octets m s entries e =
    let a = stop_if_is (not (eqb (closing_in m.payloads).mac 1)) Algorithm _ entries e in
    let b = stop_if_is (not (response_fits octets m s)) BadMac _ entries a.1 in
    let c = stop_if_is (not (eqb m.csb s.csb && eqb (length m.map) (length s.map))) OtherSession (Ok m.map) entries b.1 in
    let d = and_parts (eqb m.csb s.csb) (eqb (length m.map) (length s.map)) (not-false _ c.0) in
    ap length (sym (ok_is m.map entries c.1)) ∙ eqb-true (length m.map) (length s.map) d.1

responded_long : (ss : List (StreamKeys × StreamKeys)) (entries : List CsEntry) → length entries ≡ 2 * length ss → length (responded ss entries) ≡ length ss
responded_long [] entries e = refl
responded_long (s ∷ ss) [] e = absurd (omega (arith, e))
responded_long (s ∷ ss) (i ∷ []) e = absurd (omega (arith, e))
responded_long (s ∷ ss) (i ∷ r ∷ entries) e = let rest = responded_long ss entries (omega (arith, e)) in omega (arith, rest)

answered_long : (s : Sent) (count : ℕ) (value : Option (List ℕ)) (ss : List (StreamKeys × StreamKeys)) → streams_answered s count value ≡ Ok ss → length ss ≡ count
unfolding streams_answered
answered_long s count value ss e =
    let a = after_ok_is (message_in 255 1 value) _ ss e in
    let b = after_ok_is (of_psk 255 (response_of a.0.0 a.0.1 s)) _ ss a.2 in
    let c = after_ok_is (of_cs 255 (streams_of s.csb s.random s.map (own_policy ∷ []) s.tgks count)) _ ss b.2 in
    let sent = streams_long s.csb s.random (own_policy ∷ []) s.tgks s.map count c.0 (cs_is 255 _ c.0 c.1) in
    let same = response_long a.0.0 a.0.1 s b.0 (psk_is 255 _ b.0 b.1) in
    let first = sent.0 in
    let long = sent.1 in
    let all = responded_long c.0 b.0 (omega (arith, same, first, long)) in
    ap length (sym (ok_is (responded c.0 b.0) ss c.2)) ∙ all ∙ long

abbrev pub AllThere : Offer → Sdp → Answered → Type 0
AllThere o s a = there a.media ≡ actives_after o.side o.description.media s.media

pub answered_all : (o : Offer) (noise : List ℕ) (s : Sdp) (k : Keying) (a : Answered) → IsWhole o.side o.description.media k
    → answered_by o noise s (actives_after o.side o.description.media s.media) k ≡ Ok a → AllThere o s a
answered_all o noise s (PeerLines ls) a is e =
    let p = after_ok_is (each_kept (keyed_by_peer_line noise) 0 (actives_after o.side o.description.media s.media) ls s.media) _ a e in
    subst (AllThere o s) (ok_is _ a p.2) (all_kept (keyed_by_peer_line noise) o.side 0 o.description.media s.media ls p.0 is p.1)
answered_all o noise s (OwnLines ls) a is e =
    let p = after_ok_is (each_kept keyed_by_own_lines 0 (actives_after o.side o.description.media s.media) ls s.media) _ a e in
    subst (AllThere o s) (ok_is _ a p.2) (all_kept keyed_by_own_lines o.side 0 o.description.media s.media ls p.0 is p.1)
answered_all o noise s (PeerMessage b) a is e =
    let over : List (Option (StreamKeys × StreamKeys)) = over_active o.side o.description.media b.streams in
    let p = after_ok_is (each_kept (λ k streams n. Ok (keyed_as_responder [] streams n)) 0 (actives_after o.side o.description.media s.media) over s.media) _ a e in
    subst (AllThere o s) (ok_is _ a p.2)
    (all_kept (λ k streams n. Ok (keyed_as_responder [] streams n)) o.side 0 o.description.media s.media over p.0 (over_there o.side o.description.media b.streams is) p.1)
answered_all o noise s (PeerMessages bs) a is e =
    let p = after_ok_is (each_kept (λ k x n. Ok (keyed_by_message x n)) 0 (actives_after o.side o.description.media s.media) (map own_streams bs) s.media) _ a e in
    subst (AllThere o s) (ok_is _ a p.2) (all_kept (λ k x n. Ok (keyed_by_message x n)) o.side 0 o.description.media s.media (map own_streams bs) p.0 is p.1)
answered_all o noise s (OwnMessage w) a is e =
    let count : ℕ = active_count o.side o.description.media in
    let p = after_ok_is (streams_answered w count (mikey_value s.session)) _ a e in
    let over : List (Option (StreamKeys × StreamKeys)) = over_active o.side o.description.media p.0 in
    let q = after_ok_is (each_kept (λ k streams n. Ok (keyed_as_initiator streams)) 0 (actives_after o.side o.description.media s.media) over s.media) _ a p.2 in
    subst (AllThere o s) (ok_is _ a q.2)
    (all_kept (λ k streams n. Ok (keyed_as_initiator streams)) o.side 0 o.description.media s.media over q.0
    (over_there o.side o.description.media p.0 (answered_long w count (mikey_value s.session) p.0 p.1)) q.1)

-- ---- the media

keyed_there : (side : Side) (m n : descriptions.Medium) (k : Option Keyed) → is_some (option_map (λ k. medium_agreed side k m n) k) ≡ is_some k
keyed_there side m n None = refl
keyed_there side m n (Some k) = refl

media_there : (side : Side) (ms ns : List descriptions.Medium) (ks : List (Option Keyed)) → there ks ≡ actives_after side ms ns → there (media_agreed side ms ns ks) ≡ actives_after side ms ns
media_there side [] ns ks are = refl
media_there side (m ∷ ms) [] ks are = refl
media_there side (m ∷ ms) (n ∷ ns) [] are = absurd cc
media_there side (m ∷ ms) (n ∷ ns) (k ∷ ks) are =
    let this : is_some k ≡ (is_active side m && is_active (other_side side) n) = cc in
    let others : there ks ≡ actives_after side ms ns = cc in
    let first = keyed_there side m n k ∙ this in
    let rest = media_there side ms ns ks others in
    λ i. first i ∷ rest i

where_active : (side : Side) (ms ns : List descriptions.Medium) (xs : List (Option Medium)) → length ns ≡ length ms → there xs ≡ actives_after side ms ns → AreAgreedWhereActive side ms ns xs
where_active side [] [] [] long are = tt
where_active side [] [] (x ∷ xs) long are = absurd cc
where_active side [] (n ∷ ns) xs long are = absurd (omega (arith, long))
where_active side (m ∷ ms) [] xs long are = absurd (omega (arith, long))
where_active side (m ∷ ms) (n ∷ ns) [] long are = absurd cc
where_active side (m ∷ ms) (n ∷ ns) (x ∷ xs) long are =
    let this : is_some x ≡ (is_active side m && is_active (other_side side) n) = cc in
    let others : there xs ≡ actives_after side ms ns = cc in
    (this, where_active side ms ns xs (omega (arith, long)) others)

abbrev IsAgreedOf : Offer → List ℕ → AgreedAnswer → Type 0
IsAgreedOf o text g = (s : Sdp) × (description_of text ≡ Ok s) × AreAgreedWhereActive o.side o.description.media s.media g.media

pub all_agreed : (h : AtHand) (way : Way) (offered noise text : List ℕ) (slot : ℕ) (a : AgreedOffer) (g : AgreedAnswer) → agreed_offer h way offered ≡ Ok a → agreed_answer slot a.offer noise text ≡ Ok g
    → (s : Sdp) × (description_of text ≡ Ok s) × AreAgreedWhereActive a.offer.side a.offer.description.media s.media g.media
all_agreed h way offered noise text slot a g made e =
    let o : Offer = a.offer in
    let count : ℕ = length o.description.media in
    of_answer (IsAgreedOf o text) slot o noise text g e (λ s b was is. (
      s,
      described_is (other_side o.side) (Some count) text s was,
      where_active o.side o.description.media s.media _ (described_count (other_side o.side) count text s was)
          (media_there o.side o.description.media s.media b.media (answered_all o noise s o.keying b (offer_whole h way offered a made) is)),
    ))
