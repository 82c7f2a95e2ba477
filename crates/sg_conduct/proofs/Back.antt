-- An answer that isn't refused is told as it came.
use Rattle.std.proofs.Common.{◌≡◌, inl, inr, ℕ, zero, suc, ◌+◌, ◌*◌, Bool, true, false, cond, ◌&&◌, List, [], ◌∷◌, ◌++◌, length, map, Option, Some, None, Result, Ok, refl, sym, ap, ◌∙◌, subst, arith}
use Rattle.std.proofs.lemmas.Bool.{and_from, and_parts, false≢true, or_parts}
use Rattle.std.specs.List.{AllByRecursion, Any, cons_option, filter_map, list_any}
use Rattle.std.specs.Option.{is_some, option_map}
use Rattle.sg_psk.specs.Accepting.{Accepted}
use Rattle.sg_psk.specs.Sending.{response_octets, sent_under}
use Rattle.sg_outcome.specs.declared.outcomes.Outcome.{Outcome}
use Rattle.sg_outcome.specs.declared.outcomes.Outcome.TheVariants.{Live, Sdp}
use Rattle.sg_sdes.specs.Answers.{answer_by, offered_by}
use Rattle.sg_sdp.specs.Addresses.{first_address, with_address}
use Rattle.sg_sdp.specs.Carrying.{carried, carried_lines, carried_media, carried_medium, carried_proto}
use Rattle.sg_sdp.specs.declared.medium.Medium as descriptions
use Rattle.sg_sdp.specs.declared.medium.Profile.TheVariants.{Avp, Savp, Avpf, Savpf, Other}
use Rattle.sg_sdp.specs.declared.sdp.Sdp as sdp
use Rattle.sg_agreement.proofs.TextLines.{first_is, has_none, mikey_is}
use Rattle.sg_agreement.specs.Answers as answers
use Rattle.sg_agreement.specs.Answers.{answered_by, AgreedAnswer, accepted_answer, agreed_answer, lines_of}
use Rattle.sg_agreement.specs.Attributes.{crypto_values, first_of, has_message, mikey_rest, mikey_value, own_ssrc, ssrcs_of}
use Rattle.sg_agreement.specs.CarriedTexts.{carried_text, ports_from, rtp_port, with_added, with_media_lines}
use Rattle.sg_agreement.specs.Described.{described}
use Rattle.sg_agreement.specs.Keying.{Keying, PeerLines, OwnLines, PeerMessage, PeerMessages, OwnMessage, Offer}
use Rattle.sg_agreement.specs.LineAnswers.{keyed_by_answer, keyed_by_matched, keyed_by_own_lines, keyed_by_peer_line, lines_matched}
use Rattle.sg_agreement.specs.MessageAnswers.{keyed_as_initiator, keyed_as_responder, keyed_by_message, over_active, own_streams, response_line, streams_answered}
use Rattle.sg_agreement.specs.Messages.{Bundle, bundle_in}
use Rattle.sg_agreement.specs.Offers.{AgreedOffer, agreed_offer, chosen_in, keying_by_messages, keying_of, noise_of}
use Rattle.sg_agreement.specs.Sides.{active_count, actives_after, is_active, other_side, side_of}
use Rattle.sg_agreement.specs.Sound.{AreAgreedWhereActive}
use Rattle.sg_agreement.specs.TextLines.{HasNoMessage, IsMessageLine}
use Rattle.sg_gateway.proofs.Common.{Answer, AtHand, Call, CallId, CryptoLine, Event, FromSecure, IsMediumAt, IsRefusal, Keyed, MikeyFromPlain, Plain, Profile, Refusal, SdesFromPlain, Secure, Side, StreamKeys, Way, World}
use Rattle.sg_gateway.proofs.Common.{after_ok, after_ok_is, answer_to, any_here, any_weaker, call_of, described_is, description_of, each_active, each_kept, if_kept, media_agreed, medium_agreed, none_some, of_psk, of_sdes, ok_is, pair_with, same_id, some_is, step, turn_of}
use Rattle.sg_gateway.proofs.Agreements.{Agreements}
use Rattle.sg_gateway.proofs.Kept.{IsOffered, WasOffered}
use Rattle.sg_gateway.proofs.Signals.{found}
use Rattle.sg_gateway.proofs.StepCases.{answer_of}
use Rattle.sg_gateway.specs.Signals.{Answered}
use Rattle.sg_conduct.proofs.Carried.{lines_carried}
use Rattle.sg_conduct.proofs.Drawn.{AllAt, any_at, each_active_at, each_kept_at, kept_some, rest_at, some_at, this_at}
use Rattle.sg_conduct.proofs.FirstLines.{IsFirstAt, Placed, active_placed, at_head, at_rest, at_start}
use Rattle.sg_conduct.proofs.Forth.{first_line}
use Rattle.sg_conduct.proofs.Offers.{active_takes}
use Rattle.sg_conduct.proofs.OwnPayloads.{HasOneMedium, IsOfBundle, bundle_long, bundles_at, one_answered, response_is, sessions_answered}
use Rattle.sg_conduct.proofs.Present.{agreed_active, takes_active}
use Rattle.sg_conduct.specs.Carried.{IsFirstLine}
use Rattle.sg_conduct.specs.CarriedBack.{AddsBack, AddsToAnswer, AddsWhereBoth, AnswerIsCarried, AreAnsweredMedia, HaveNoMessage, IsAnsweredMedium, IsAtPortOfBoth, IsToldBack, offered_word}
use Rattle.sg_conduct.specs.OwnPayloads.{IsResponse}
use Rattle.sg_conduct.specs.OwnPorts.{port_towards}
use Rattle.sg_conduct.specs.Present.{TakesPart}

-- ---- messages

has_line : (ls : List (List ℕ)) (value : List ℕ) → mikey_value ls ≡ Some value → Any IsMessageLine ls
unfolding mikey_value
has_line ls value e = any_weaker (λ line. mikey_rest line ≡ Some value) IsMessageLine (λ line is. mikey_is line value is) ls (first_is mikey_rest ls value e)

no_line : (l : List ℕ) → mikey_rest l ≡ None → IsMessageLine l → ⊥
no_line l e (rest, inl is) = let some : mikey_rest l ≡ Some [] = ap mikey_rest is in none_some [] (sym e ∙ some)
no_line l e (rest, inr is) = let some : mikey_rest l ≡ Some (32 ∷ rest) = ap mikey_rest is in none_some (32 ∷ rest) (sym e ∙ some)

no_lines : (ls : List (List ℕ)) → first_of (filter_map mikey_rest ls) ≡ None → HaveNoMessage ls
no_lines [] e = tt
no_lines (l ∷ ls) e = go (no_lines ls) (mikey_rest l) refl e
  where
    go : (first_of (filter_map mikey_rest ls) ≡ None → HaveNoMessage ls) → (o : Option (List ℕ)) → mikey_rest l ≡ o → first_of (cons_option o (filter_map mikey_rest ls)) ≡ None → HaveNoMessage (l ∷ ls)
    go rest None is e = (no_line l is, rest e)
    go rest (Some v) is e = absurd cc

no_value : (ls : List (List ℕ)) → (o : Option (List ℕ)) → mikey_value ls ≡ o → is_some o ≡ false → HaveNoMessage ls
unfolding mikey_value
no_value ls None e none = no_lines ls e
no_value ls (Some x) e none = absurd (false≢true (sym none))

no_media : (ms : List descriptions.Medium) → list_any (λ (m : descriptions.Medium). is_some (mikey_value m.lines)) ms ≡ false → AllByRecursion (λ (m : descriptions.Medium). HaveNoMessage m.lines) ms
no_media [] e = tt
no_media (m ∷ ms) e = let p = or_parts (is_some (mikey_value m.lines)) _ e in (no_value m.lines (mikey_value m.lines) refl p.0, no_media ms p.1)

lacks_message : (s : sdp.Sdp) → has_message s ≡ false → HasNoMessage s
lacks_message s e =
    let p = or_parts (is_some (mikey_value s.session)) _ e in
    record { session = no_value s.session (mikey_value s.session) refl p.0; media = no_media s.media p.1 }

-- ---- how the offer is keyed

abbrev IsKeyedAs : Side → sdp.Sdp → Keying → Type 0
IsKeyedAs side s (PeerLines ls) = (side ≡ Secure) × HasNoMessage s × AllAt (IsFirstAt s.media) 0 ls
IsKeyedAs side s (PeerMessage b) = (side ≡ Secure) × Any IsMessageLine s.session × (length b.initial.map ≡ 2 * active_count Secure s.media)
IsKeyedAs side s (PeerMessages bs) = (side ≡ Secure) × HaveNoMessage s.session × (¬ HasNoMessage s) × AllAt HasOneMedium 0 bs
IsKeyedAs side s other = side ≡ Plain

by_messages : (h : AtHand) (s : sdp.Sdp) → has_message s ≡ true → (value : Option (List ℕ)) → mikey_value s.session ≡ value → (k : Keying) → keying_by_messages h s value ≡ Ok k → IsKeyedAs Secure s k
by_messages h s has (Some value) at k e =
    let a = after_ok_is (bundle_in h 255 (active_count Secure s.media) (Some value)) _ k e in subst (IsKeyedAs Secure s) (ok_is (PeerMessage a.0) k a.2)
    (refl, has_line s.session value at, bundle_long h 255 (active_count Secure s.media) (Some value) a.0 a.1)
by_messages h s has None at k e =
    let a = after_ok_is (each_active Secure (λ k m. bundle_in h k 1 (mikey_value m.lines)) 0 s.media) _ k e in
    subst (IsKeyedAs Secure s) (ok_is (PeerMessages a.0) k a.2) (
      refl,
      no_value s.session None at refl,
      (λ none. false≢true (sym (has_none s none) ∙ has)),
      each_active_at HasOneMedium Secure (λ k m. bundle_in h k 1 (mikey_value m.lines)) (λ k m b is. bundle_long h k 1 (mikey_value m.lines) b is) 0 s.media a.0 a.1,
    )

keyed_as : (h : AtHand) (s : sdp.Sdp) (way : Way) (k : Keying) → keying_of h s way ≡ Ok k → IsKeyedAs (side_of way) s k
keyed_as h s FromSecure k e = go (has_message s) refl e
  where
    go : (b : Bool) → has_message s ≡ b → cond b (keying_by_messages h s (mikey_value s.session)) (after_ok (each_active Secure chosen_in 0 s.media) (λ ls. Ok (PeerLines ls))) ≡ Ok k → IsKeyedAs Secure s k
    go true has e = by_messages h s has (mikey_value s.session) refl k e
    go false none e =
        let a = after_ok_is (each_active Secure chosen_in 0 s.media) _ k e in
        subst (IsKeyedAs Secure s) (ok_is (PeerLines a.0) k a.2)
        (refl, lacks_message s none, active_placed s.media (IsFirstAt s.media) Secure chosen_in (λ k m l at chosen. (m, at, first_line k m l chosen)) 0 s.media a.0 (at_start s.media) a.1)
keyed_as h s SdesFromPlain k e = let a = after_ok_is (each_active Plain (λ k m. Ok (offered_by (noise_of k h.noise))) 0 s.media) _ k e in subst (IsKeyedAs Plain s) (ok_is (OwnLines a.0) k a.2) refl
keyed_as h s (MikeyFromPlain peer) k e =
    let a = after_ok_is (of_psk 255 (sent_under h.now h.noise (ssrcs_of Plain s.media) (pair_with h.pairs peer))) _ k e in subst (IsKeyedAs Plain s) (ok_is (OwnMessage a.0) k a.2) refl

offer_keyed : (o : Offer) → WasOffered o → IsKeyedAs o.side o.description o.keying
unfolding agreed_offer
offer_keyed o was =
    let p = after_ok_is (described (side_of was.way) was.hand.media was.text) _ was.accepted was.agreed in
    let q = after_ok_is (keying_of was.hand p.0 was.way) _ was.accepted p.2 in
    subst (λ (o : Offer). IsKeyedAs o.side o.description o.keying) (ap (λ (a : AgreedOffer). a.offer) (ok_is _ was.accepted q.2) ∙ was.same) (keyed_as was.hand p.0 was.way q.0 q.1)

-- ---- what is added

-- there is one medium of a number
one_medium : (ms : List descriptions.Medium) (k : ℕ) (a b : descriptions.Medium) → IsMediumAt ms k a → IsMediumAt ms k b → a ≡ b
one_medium [] k a b of_a of_b = absurd (let lt = of_a.0 in omega (arith, lt))
one_medium (m ∷ ms) zero a b of_a of_b = sym of_a.1 ∙ of_b.1
one_medium (m ∷ ms) (suc k) a b of_a of_b = one_medium ms k a b ((let lt = of_a.0 in omega (arith, lt)), of_a.1) ((let lt = of_b.0 in omega (arith, lt)), of_b.1)

-- what was kept of the medium of a number, and the answer's medium of that number
kept_placed : {X Y : Type 0} (all : List descriptions.Medium) (Q : ℕ → X → Type 0) (P : ℕ → Y → Type 0) (value : ℕ → X → descriptions.Medium → Result Y Refusal)
    → ((k : ℕ) (x : X) (n : descriptions.Medium) (y : Y) → IsMediumAt all k n → Q k x → value k x n ≡ Ok y → P k y)
    → (k : ℕ) (active : List Bool) (xs : List (Option X)) (ns : List descriptions.Medium) (ys : List (Option Y)) → Placed all k ns → AllAt Q k xs → each_kept value k active xs ns ≡ Ok ys → AllAt P k ys
kept_placed all Q P value each k [] xs ns ys placed kept e = subst (AllAt P k) (ok_is [] ys e) tt
kept_placed all Q P value each k (on ∷ active) [] ns ys placed kept e = subst (AllAt P k) (ok_is [] ys e) tt
kept_placed all Q P value each k (on ∷ active) (x ∷ xs) [] ys placed kept e = subst (AllAt P k) (ok_is [] ys e) tt
kept_placed all Q P value each k (on ∷ active) (x ∷ xs) (n ∷ ns) ys placed kept e =
    let a = after_ok_is (if_kept on x (λ x. value k x n)) _ ys e in
    let b = after_ok_is (each_kept value (k + 1) active xs ns) _ ys a.2 in
    subst (AllAt P k) (ok_is (a.0 ∷ b.0) ys b.2)
    (some_at P k a.0 b.0
    (λ y is. let s = kept_some on x (λ x. value k x n) y (a.1 ∙ ap Ok is) in each k s.0 n y (at_head all k n ns placed) (this_at Q k x xs kept s.0 s.1) s.2)
    (kept_placed all Q P value each (k + 1) active xs ns b.0 (at_rest all k n ns placed) (rest_at Q k x xs kept) b.1))

-- to the media of this number of the offer and of the answer
module _ (o : Offer) (answer : sdp.Sdp) (noise : List ℕ) where
  abbrev Adds : ℕ → Keyed → Type 0
  Adds k y = (m n : descriptions.Medium) → IsMediumAt o.description.media k m → IsMediumAt answer.media k n → TakesPart o.side m → AddsBack o.side o noise k m n y.lines

  abbrev AnswerAdds : answers.Answered → Type 0
  AnswerAdds a = AddsToAnswer o.side o answer a.session × AllAt Adds 0 a.media

  of_secure : o.side ≡ Secure → (k : ℕ) (lines : List (List ℕ)) (m n : descriptions.Medium) → AddsBack Secure o noise k m n lines → AddsBack o.side o noise k m n lines
  of_secure is k lines m n adds = subst (λ side. AddsBack side o noise k m n lines) (sym is) adds

  of_plain : o.side ≡ Plain → (k : ℕ) (m n : descriptions.Medium) → AddsBack o.side o noise k m n []
  of_plain is k m n = subst (λ side. AddsBack side o noise k m n []) (sym is) refl

  session_of_secure : o.side ≡ Secure → (added : List (List ℕ)) → AddsToAnswer Secure o answer added → AddsToAnswer o.side o answer added
  session_of_secure is added adds = subst (λ side. AddsToAnswer side o answer added) (sym is) adds

  session_of_plain : o.side ≡ Plain → AddsToAnswer o.side o answer []
  session_of_plain is = subst (λ side. AddsToAnswer side o answer []) (sym is) refl

  own_lines_add : o.side ≡ Plain → (k : ℕ) (offered : List CryptoLine) (n : descriptions.Medium) (y : Keyed) → keyed_by_own_lines k offered n ≡ Ok y → Adds k y
  own_lines_add is k offered n y e =
      let a = after_ok_is (of_sdes k (lines_matched offered (first_of (crypto_values n.lines)))) _ y e in
      subst (Adds k) (ok_is (keyed_by_matched a.0) y a.2) (λ m n at there takes. of_plain is k m n)

  peers_line_adds : o.side ≡ Secure → HasNoMessage o.description → (k : ℕ) (peer : CryptoLine) (n : descriptions.Medium) (y : Keyed) → IsFirstAt o.description.media k peer → keyed_by_peer_line noise k peer n ≡ Ok y → Adds k y
  peers_line_adds is none k peer n y first e =
      subst (Adds k) (ok_is (keyed_by_answer peer (answer_by peer (noise_of k noise))) y e) (λ m n at there takes.
      of_secure is k _ m n (inl (none, (peer, subst (λ (m : descriptions.Medium). IsFirstLine m.lines peer) (one_medium o.description.media k first.0 m first.1 at) first.2, refl))))

  part_adds : o.side ≡ Secure → Any IsMessageLine o.description.session → (b : Bundle) → o.keying ≡ PeerMessage b → length b.initial.map ≡ 2 * active_count Secure o.description.media
      → AddsToAnswer o.side o answer (response_line o.side o.description.media answer.media b.initial ∷ [])
  part_adds is has b keyed long =
      subst (λ side. AddsToAnswer side o answer (response_line side o.description.media answer.media b.initial ∷ [])) (sym is)
      (inl (has, (b, keyed, (_, response_is b.initial o.description.media answer.media _ (sessions_answered o.description.media answer.media b.initial.map long), refl))))

  own_adds : o.side ≡ Secure → HaveNoMessage o.description.session → (¬ HasNoMessage o.description) → (bs : List (Option Bundle)) → o.keying ≡ PeerMessages bs
      → (k : ℕ) (x : Accepted × (StreamKeys × StreamKeys)) (n : descriptions.Medium) → IsMediumAt answer.media k n → IsOfBundle bs k x → Adds k (keyed_by_message x n)
  own_adds is none has bs keyed k x n at (b, (before, behind, parts, number), initial, long) m there in_offer in_answer takes =
      subst (λ (there : descriptions.Medium). AddsBack o.side o noise k m there (keyed_by_message x n).lines) (one_medium answer.media k n there at in_answer)
      (of_secure is k _ m n (inr (inr (
        none,
        has,
        (
          b,
          (before, behind, keyed ∙ ap PeerMessages parts, number),
          (
            response_octets x.0 (own_ssrc n.lines ∷ []),
            subst (λ (a : Accepted). IsResponse a (m ∷ []) (n ∷ []) (response_octets x.0 (own_ssrc n.lines ∷ []))) (sym initial)
                (response_is x.0 (m ∷ []) (n ∷ []) (own_ssrc n.lines ∷ []) (one_answered m n x.0.map (subst (λ side. TakesPart side m) is takes) long)),
            refl,
          ),
        ),
      ))))

  answer_adds : (active : List Bool) (k : Keying) (a : answers.Answered) → o.keying ≡ k → IsKeyedAs o.side o.description k → answered_by o noise answer active k ≡ Ok a → AnswerAdds a
  answer_adds active (PeerLines ls) a is keyed e =
      let p = after_ok_is (each_kept (keyed_by_peer_line noise) 0 active ls answer.media) _ a e in
      subst AnswerAdds (ok_is _ a p.2) (
        session_of_secure keyed.0 [] (inr (keyed.1.session, refl)),
        each_kept_at (IsFirstAt o.description.media) Adds (keyed_by_peer_line noise) (λ k x n y u v. peers_line_adds keyed.0 keyed.1 k x n y u v) 0 active ls answer.media p.0 keyed.2 p.1,
      )
  answer_adds active (OwnLines ls) a is keyed e =
      let p = after_ok_is (each_kept keyed_by_own_lines 0 active ls answer.media) _ a e in
      subst AnswerAdds (ok_is _ a p.2)
      (session_of_plain keyed, each_kept_at (λ k (x : List CryptoLine). Unit {0}) Adds keyed_by_own_lines (λ k x n y u v. own_lines_add keyed k x n y v) 0 active ls answer.media p.0 (any_at 0 ls) p.1)
  answer_adds active (PeerMessage b) a is keyed e =
      let over : List (Option (StreamKeys × StreamKeys)) = over_active o.side o.description.media b.streams in
      let p = after_ok_is (each_kept (λ k streams n. Ok (keyed_as_responder [] streams n)) 0 active over answer.media) _ a e in
      subst AnswerAdds (ok_is _ a p.2) (
        part_adds keyed.0 keyed.1 b is keyed.2,
        each_kept_at (λ k (x : StreamKeys × StreamKeys). Unit {0}) Adds (λ k streams n. Ok (keyed_as_responder [] streams n))
            (λ k x n y u v. subst (Adds k) (ok_is (keyed_as_responder [] x n) y v) (λ m n at there takes. of_secure keyed.0 k [] m n (inr (inl (keyed.1, refl)))))
            0 active over answer.media p.0 (any_at 0 over) p.1,
      )
  answer_adds active (PeerMessages bs) a is keyed e =
      let p = after_ok_is (each_kept (λ k x n. Ok (keyed_by_message x n)) 0 active (map own_streams bs) answer.media) _ a e in
      subst AnswerAdds (ok_is _ a p.2) (
        session_of_secure keyed.0 [] (inr (keyed.1, refl)),
        kept_placed answer.media (IsOfBundle bs) Adds (λ k x n. Ok (keyed_by_message x n))
            (λ k x n y at of v. subst (Adds k) (ok_is (keyed_by_message x n) y v) (own_adds keyed.0 keyed.1 keyed.2 bs is k x n at of))
            0 active (map own_streams bs) answer.media p.0 (at_start answer.media) (bundles_at bs [] bs refl keyed.3) p.1,
      )
  answer_adds active (OwnMessage w) a is keyed e =
      let count : ℕ = active_count o.side o.description.media in
      let p = after_ok_is (streams_answered w count (mikey_value answer.session)) _ a e in
      let over : List (Option (StreamKeys × StreamKeys)) = over_active o.side o.description.media p.0 in
      let q = after_ok_is (each_kept (λ k streams n. Ok (keyed_as_initiator streams)) 0 active over answer.media) _ a p.2 in
      subst AnswerAdds (ok_is _ a q.2) (
        session_of_plain keyed,
        each_kept_at (λ k (x : StreamKeys × StreamKeys). Unit {0}) Adds (λ k streams n. Ok (keyed_as_initiator streams))
            (λ k x n y u v. subst (Adds k) (ok_is (keyed_as_initiator x) y v) (λ m n at there takes. of_plain keyed k m n)) 0 active over answer.media q.0 (any_at 0 over) q.1,
      )

-- ---- media

proto_is : (p : Profile) (proto : List ℕ) → carried_proto p proto ≡ offered_word p proto
unfolding carried_proto
proto_is Avp proto = refl
proto_is Savp proto = refl
proto_is Avpf proto = refl
proto_is Savpf proto = refl
proto_is Other proto = refl

towards : (side : Side) (slot number : ℕ) → rtp_port slot number side ≡ port_towards side slot number
towards Secure slot number = refl
towards Plain slot number = refl

port_is : (side : Side) (slot number : ℕ) (m n : descriptions.Medium) → IsAtPortOfBoth side slot number m n (cond (is_active side m && is_active (other_side side) n) (rtp_port slot number side) 0)
port_is side slot number m n = go (is_active side m && is_active (other_side side) n) refl
  where
    go : (b : Bool) → (is_active side m && is_active (other_side side) n) ≡ b → IsAtPortOfBoth side slot number m n (cond b (rtp_port slot number side) 0)
    go false is = inr ((λ both. false≢true (sym is ∙ and_from (is_active side m) (is_active (other_side side) n) (takes_active side m both.0) (takes_active (other_side side) n both.1))), refl)
    go true is =
        let p = and_parts (is_active side m) (is_active (other_side side) n) is in
        inl ((active_takes side m p.0, active_takes (other_side side) n p.1), towards side slot number)

module _ (o : Offer) (answer : sdp.Sdp) (noise : List ℕ) (slot : ℕ) (f : Option (List ℕ)) where
  abbrev side : Side
  side = o.side

  one : (number : ℕ) (m n : descriptions.Medium) (lines : List (List ℕ))
      → IsAnsweredMedium side slot number lines m n
      (record (with_address f (carried_medium (cond (is_active side m && is_active (other_side side) n) (rtp_port slot number side) 0) m.profile n)) { lines = carried_lines n.lines ++ lines })
  unfolding carried_medium
  one number m n lines = record {
    word = refl;
    port = port_is side slot number m n;
    proto = proto_is m.profile n.proto;
    formats = refl;
    lines = lines_carried n.lines lines;
  }

  -- what takes part in both is keyed, and nothing else
  adds : (number : ℕ) (m n : descriptions.Medium) (y : Option Keyed) → is_some (option_map (λ k. medium_agreed side k m n) y) ≡ (is_active side m && is_active (other_side side) n)
      → ((x : Keyed) → y ≡ Some x → TakesPart side m → AddsBack side o noise number m n x.lines) → AddsWhereBoth side o noise number m n (lines_of y)
  adds number m n None is each = inr ((λ both. false≢true (is ∙ and_from (is_active side m) (is_active (other_side side) n) (takes_active side m both.0) (takes_active (other_side side) n both.1))), refl)
  adds number m n (Some x) is each =
      let p = and_parts (is_active side m) (is_active (other_side side) n) (sym is) in
      let takes = active_takes side m p.0 in
      inl ((takes, active_takes (other_side side) n p.1), each x refl takes)

  media_back : (number : ℕ) (ms ns : List descriptions.Medium) (ys : List (Option Keyed)) → Placed o.description.media number ms → Placed answer.media number ns
      → AreAgreedWhereActive side ms ns (media_agreed side ms ns ys) → AllAt (Adds o answer noise) number ys → AreAnsweredMedia side o noise slot number ms ns
      (with_media_lines (map (with_address f) (carried_media (ports_from slot number side (actives_after side ms ns)) (map (λ (m : descriptions.Medium). m.profile) ms) ns)) (map lines_of ys))
  unfolding carried_medium
  media_back number [] [] [] placed there are each = refl
  media_back number [] [] (y ∷ ys) placed there are each = refl
  media_back number [] (n ∷ ns) ys placed there are each = absurd are
  media_back number (m ∷ ms) [] ys placed there are each = absurd are
  media_back number (m ∷ ms) (n ∷ ns) [] placed there are each = absurd are
  media_back number (m ∷ ms) (n ∷ ns) (y ∷ ys) placed there are each = (
    _,
    _,
    refl,
    (
      lines_of y,
      adds number m n y are.0 (λ x is. this_at (Adds o answer noise) number y ys each x is m n (at_head o.description.media number m ms placed) (at_head answer.media number n ns there)),
      one number m n (lines_of y),
    ),
    media_back (number + 1) ms ns ys (at_rest o.description.media number m ms placed) (at_rest answer.media number n ns there) are.1 (rest_at (Adds o answer noise) number y ys each),
  )

-- ---- the text

pub told_back : Agreements → (slot : ℕ) (o : Offer) (noise text : List ℕ) (g : AgreedAnswer) → WasOffered o → agreed_answer slot o noise text ≡ Ok g
    → (answer : sdp.Sdp) × (description_of text ≡ Ok answer) × IsToldBack slot o noise answer g.text
unfolding agreed_answer carried_text
told_back laws slot o noise text g was e =
    let ms : List descriptions.Medium = o.description.media in
    let p = after_ok_is (described (other_side o.side) (Some (length ms)) text) _ g e in
    let active : List Bool = actives_after o.side ms p.0.media in
    let q = after_ok_is (answered_by o noise p.0 active o.keying) _ g p.2 in
    let same : accepted_answer slot o p.0 active q.0 ≡ g = ok_is (accepted_answer slot o p.0 active q.0) g q.2 in
    let added = answer_adds o p.0 noise active o.keying q.0 refl (offer_keyed o was) q.1 in
    let read : description_of text ≡ Ok p.0 = described_is (other_side o.side) (Some (length ms)) text p.0 p.1 in
    let are : AreAgreedWhereActive o.side ms p.0.media (media_agreed o.side ms p.0.media q.0.media) =
    subst (λ (g : AgreedAnswer). AreAgreedWhereActive o.side ms p.0.media g.media) (sym same) (agreed_active laws slot o noise text g p.0 was e read) in (
      p.0,
      read,
      subst (λ (g : AgreedAnswer). IsToldBack slot o noise p.0 g.text) same (record {
        told = with_added (record { session = q.0.session; media = map lines_of q.0.media }) (carried (ports_from slot 0 o.side active) (map (λ (m : descriptions.Medium). m.profile) ms) p.0);
        spells = refl;
        added = q.0.session;
        adds = added.0;
        session = lines_carried p.0.session q.0.session;
        media = media_back o p.0 noise slot (first_address (carried_lines p.0.session)) 0 ms p.0.media q.0.media (at_start ms) (at_start p.0.media) are added.1;
      }),
    )

-- ---- a turn

module _ (laws : Agreements) (w : World) (offered_are : AllByRecursion (λ c. IsOffered c.offer) w.calls) (id : CallId) (noise text : List ℕ) (c : Call) (o : Offer) (at : call_of w id ≡ Some c) (is_open : c.offer ≡ Some o) where
  abbrev Told : List Outcome → Offer → Type 0
  Told os x =
      (answer : sdp.Sdp) × (description_of text ≡ Ok answer) × ((back : List ℕ) × (os ≡ Sdp id x.side back ∷ (Live id ∷ [])) × IsToldBack c.slot x noise answer back)

  abbrev Tells : Answer → Type 0
  Tells a = ¬ Any IsRefusal a.outcomes → Told a.outcomes o

  was : WasOffered o
  was = subst IsOffered is_open (found (λ c. IsOffered c.offer) (λ x. same_id x.id id) w.calls c at offered_are)

  answer_told : Tells (answer_to w (Answered id noise text))
  answer_told = answer_of w id noise text c Tells (λ cause free. absurd (free (any_here IsRefusal _ [] tt)))
      (λ p offered g agreed ring installs free.
      let same : p ≡ o = some_is p o (sym offered ∙ is_open) in
      let b = told_back laws c.slot p noise text g (subst WasOffered (sym same) was) agreed in
      subst (λ (x : Offer). Told (Sdp id p.side g.text ∷ (Live id ∷ [])) x) same (b.0, b.1, (g.text, refl, b.2))) at

pub answer_carried : Agreements → (w : World) → AllByRecursion (λ c. IsOffered c.offer) w.calls → (e : Event) → AnswerIsCarried (turn_of w e)
answer_carried laws w offered_are e id noise text c o is at is_open =
    subst (λ (e : Event). ¬ Any IsRefusal (step w e).outcomes → Told laws w offered_are id noise text c o at is_open (step w e).outcomes o) (sym is)
    (answer_told laws w offered_are id noise text c o at is_open)
