-- What the gateway's own message keys is under the key that it carries, in the crypto sessions of its medium, and the response to
-- it is authentic.
use Rattle.std.proofs.Common.{◌≡◌, ℕ, ◌+◌, Bool, true, false, cond, not, ◌&&◌, eqb, eqb-true, List, [], ◌∷◌, length, map, Option, Some, None, Ok, refl, sym, ap, ◌∙◌, subst}
use Rattle.std.proofs.lemmas.Bool.{and_parts, false≢true, not-false}
use Rattle.sg_agreement.proofs.MessagesSound.{cs_is, psk_is}
use Rattle.sg_agreement.specs.Answers.{Answered, AgreedAnswer, accepted_answer, agreed_answer, answered_by}
use Rattle.sg_agreement.specs.Attributes.{mikey_octets, mikey_value, own_ssrc, ssrcs_of}
use Rattle.sg_agreement.specs.CarriedTexts.{carried_text, exchanged, ports_from, with_added}
use Rattle.sg_agreement.specs.Described.{described}
use Rattle.sg_agreement.specs.Keying as keying
use Rattle.sg_agreement.specs.MessageAnswers.{keyed_as_initiator, over_active, responded, streams_answered}
use Rattle.sg_agreement.specs.Messages.{AtHand, message_in}
use Rattle.sg_agreement.specs.Offers.{AgreedOffer, accepted_offer, agreed_offer, keying_of}
use Rattle.sg_agreement.specs.Sides.{active_count, actives, actives_after, is_active}
use Rattle.sg_base.specs.declared.faults.PskFault.TheVariants.{Algorithm, BadMac, OtherSession}
use Rattle.sg_csmap.specs.CryptoSessions.{streams_of}
use Rattle.sg_mikey.specs.Reading as messages
use Rattle.sg_psk.specs.Ends.{initial_sent}
use Rattle.sg_psk.specs.Envelope.{mac_of}
use Rattle.sg_psk.specs.Parts.{closing_in, policies_in, random_in, stamp_in}
use Rattle.sg_psk.specs.Policy.{own_policy}
use Rattle.sg_psk.specs.Sending.{Sent, initial_octets, key_of, one_key, own_map, response_fits, response_of, sent_of, sent_under}
use Rattle.sg_sdp.specs.Carrying.{carried}
use Rattle.sg_sdp.specs.Descriptions.{spelling}
use Rattle.sg_sdp.specs.declared.medium.Medium as descriptions
use Rattle.sg_sdp.specs.declared.sdp.Sdp.{Sdp}
use Rattle.sg_gateway.proofs.Common.{Any, CsEntry, Keyed, Medium, Message, MikeyFromPlain, Pair, Plain, Profile, Sealing, Secure, StreamKeys, Tgk, after_ok_is}
use Rattle.sg_gateway.proofs.Common.{described_is, description_of, each_kept, filter, is_with, media_agreed, of_cs, of_message, of_psk, ok_is, pair_with}
use Rattle.sg_gateway.proofs.Common.{same_octets_is, stop_if_is}
use Rattle.sg_gateway.proofs.Authentic.{message_read, find_any}
use Rattle.sg_gateway.proofs.CryptoSessions.{AreOffered, IsMediumIn, IsOffered, IsResponded, PairsFrom, RespondedFrom, all_offered, all_responded, as_initiator, streams_sent}
use Rattle.sg_gateway.proofs.MediaOver.{MediaFrom, SaidFrom, media_over}
use Rattle.sg_gateway.proofs.MessageSessions.{IsOfMessage}
use Rattle.sg_gateway.proofs.PeersMessages.{first_told, octets_carried, own_message, own_streams_of}
use Rattle.sg_gateway.specs.OwnMessages.{OwnMessage, PeersResponse}

-- ---- the response

module _ (lines : List (List ℕ)) where
  abbrev Reads : List ℕ × Message → Type 0
  Reads r = (mikey_octets (mikey_value lines) ≡ Some r.0) × (messages.message_of r.0 ≡ Ok r.1) × (r.1.kind ≡ 1)

  -- what is accepted as the response to the message, with its map
  responds : (w : Sent) (r : List ℕ × Message) (entries : List CsEntry) → Reads r → response_of r.0 r.1 w ≡ Ok entries
      → (p : PeersResponse (initial_sent w) w.pair lines) × (p.response.map ≡ entries)
  unfolding response_of response_fits mac_of random_in stamp_in
  responds w r entries reads e =
      let a = stop_if_is (not (eqb (closing_in r.1.payloads).mac 1)) Algorithm _ entries e in
      let b = stop_if_is (not (response_fits r.0 r.1 w)) BadMac _ entries a.1 in
      let c = stop_if_is (not (eqb r.1.csb w.csb && eqb (length r.1.map) (length w.map))) OtherSession (Ok r.1.map) entries b.1 in
      let d = and_parts (eqb r.1.csb w.csb) (eqb (length r.1.map) (length w.map)) (not-false _ c.0) in (
        record {
          octets = r.0;
          carried = octets_carried lines r.0 reads.0;
          response = r.1;
          read = reads.1;
          answers = record { kind = reads.2; csb = eqb-true r.1.csb w.csb d.0; code = same_octets_is _ _ (not-false _ b.0) };
          as_many = eqb-true (length r.1.map) (length w.map) d.1;
        },
        ok_is r.1.map entries c.1,
      )

-- ---- what is agreed of each medium

-- the sources that the message names are those of the offer's media
offers_said : (entries : List CsEntry) (others : ℕ) (ms ns : List descriptions.Medium) → AreOffered entries others (ssrcs_of Plain ms)
    → SaidFrom Plain (λ others o n. IsOffered entries others (own_ssrc o.lines)) others ms ns
offers_said entries others [] ns are = tt
offers_said entries others (o ∷ ms) [] are = tt
offers_said entries others (o ∷ ms) (n ∷ ns) are = go (λ others are. offers_said entries others ms ns are) (is_active Plain o) are
  where
    Rest : ℕ → Type 0
    Rest others = SaidFrom Plain (λ others o n. IsOffered entries others (own_ssrc o.lines)) others ms ns

    actives_of : List descriptions.Medium
    actives_of = filter (is_active Plain) ms

    go : ((others : ℕ) → AreOffered entries others (ssrcs_of Plain ms) → Rest others) → (b : Bool)
        → AreOffered entries others (map (λ (m : descriptions.Medium). own_ssrc m.lines) (cond b (o ∷ actives_of) actives_of))
        → (b ≡ true → IsOffered entries others (own_ssrc o.lines)) × Rest (cond b (others + 1) others)
    go rest true are = ((λ e. are.0), rest (others + 1) are.1)
    go rest false are = ((λ e. absurd (false≢true e)), rest others are)

-- the streams of the answer, by the message and the response of this map
module _ (w : Sent) where
  abbrev sent_message : Message
  sent_message = initial_sent w

  streams_are : (lines : List (List ℕ)) (count : ℕ) (ss : List (StreamKeys × StreamKeys)) → streams_answered w count (mikey_value lines) ≡ Ok ss
      → (p : PeersResponse sent_message w.pair lines) × RespondedFrom sent_message w.tgks p.response.map 0 ss
  unfolding streams_answered
  streams_are lines count ss e =
      let a = after_ok_is (message_in 255 1 (mikey_value lines)) _ ss e in
      let b = after_ok_is (of_psk 255 (response_of a.0.0 a.0.1 w)) _ ss a.2 in
      let c = after_ok_is (of_cs 255 (streams_of w.csb w.random w.map (own_policy ∷ []) w.tgks count)) _ ss b.2 in
      let p = responds lines w a.0 b.0 (message_read 255 1 (mikey_value lines) a.0 a.1) (psk_is 255 (response_of a.0.0 a.0.1 w) b.0 b.1) in
      let pairs : PairsFrom sent_message w.tgks 0 c.0 =
      streams_sent sent_message w.tgks count c.0 (own_streams_of w count ∙ cs_is 255 (streams_of w.csb w.random w.map (own_policy ∷ []) w.tgks count) c.0 c.1) in
      let same : responded c.0 p.0.response.map ≡ ss = ap (responded c.0) p.1 ∙ ok_is _ ss c.2 in
      (p.0, subst (RespondedFrom sent_message w.tgks p.0.response.map 0) same (all_responded sent_message w.tgks p.0.response.map c.0 pairs))

  media_are : (peers : List CsEntry) (ms ns : List descriptions.Medium) (ss : List (StreamKeys × StreamKeys)) → w.map ≡ own_map (ssrcs_of Plain ms) → w.tgks ≡ one_key (key_of w.tgks)
      → RespondedFrom sent_message w.tgks peers 0 ss → (ys : List (Option Keyed))
      → each_kept (λ k streams n. Ok (keyed_as_initiator streams)) 0 (actives_after Plain ms ns) (over_active Plain ms ss) ns ≡ Ok ys
      → MediaFrom Plain (IsOfMessage sent_message (key_of w.tgks) peers) 0 ms ns ns (media_agreed Plain ms ns ys)
  media_are peers ms ns ss entries one are ys e =
      subst (λ (tgks : List Tgk). MediaFrom Plain (λ others o n t x. IsMediumIn sent_message tgks peers w.map o Sealing others x) 0 ms ns ns (media_agreed Plain ms ns ys)) one
      (media_over Plain (IsResponded sent_message w.tgks peers) (λ p n. keyed_as_initiator p) (λ others o n. IsOffered w.map others (own_ssrc o.lines))
      (λ others o n t x. IsMediumIn sent_message w.tgks peers w.map o Sealing others x)
      (λ others o n t p is said. as_initiator sent_message w.tgks peers others o n p is said)
      0 0 ms ns ss ys are (offers_said w.map 0 ms ns (all_offered w.map (ssrcs_of Plain ms) entries)) e)

-- ---- the offer and the answer

-- of each medium that is agreed, by the gateway's message in what the peer is told, and by the response in its answer
pub record IsByMessageOf (pairs : List Pair) (peer : List ℕ) (offer answer told : Sdp) (xs : List (Option Medium)) : Type 0 where
  pub message : OwnMessage pairs peer told.session
  pub response : PeersResponse message.message message.pair answer.session
  pub policies : policies_in message.message.payloads ≡ own_policy ∷ []
  pub agreed : MediaFrom Plain (IsOfMessage message.message message.key response.response.map) 0 offer.media answer.media answer.media xs

-- the pair is one that is held with the peer
sent_is : (pairs : List Pair) (peer : List ℕ) (now : ℕ) (noise ssrcs : List ℕ) (o : Option Pair) (w : Sent) → pair_with pairs peer ≡ o → sent_under now noise ssrcs o ≡ Ok w
    → (pair : Pair) × Any (λ p. p ≡ pair) pairs × (pair.peer ≡ peer) × (sent_of pair now noise ssrcs ≡ w)
sent_is pairs peer now noise ssrcs None w at e = absurd cc
sent_is pairs peer now noise ssrcs (Some pair) w at e =
    let f = find_any (is_with peer) pairs pair at in
    (pair, f.0, same_octets_is pair.peer peer f.1, ok_is (sent_of pair now noise ssrcs) w e)

own_policies : (w : Sent) → policies_in (initial_sent w).payloads ≡ own_policy ∷ []
unfolding policies_in
own_policies w = refl

-- what the two messages say, of this message as it is told
abbrev Is : Sdp → Sdp → List (Option Medium) → Message → Pair → List ℕ → Type 0
Is offer answer xs message pair key =
    (p : PeersResponse message pair answer.session) × MediaFrom Plain (IsOfMessage message key p.response.map) 0 offer.media answer.media answer.media xs

by_told : (pairs : List Pair) (peer : List ℕ) (offer answer told : Sdp) (xs : List (Option Medium)) (w : Sent) (m : OwnMessage pairs peer told.session) → m.message ≡ initial_sent w
    → m.pair ≡ w.pair → m.key ≡ key_of w.tgks → Is offer answer xs (initial_sent w) w.pair (key_of w.tgks) → IsByMessageOf pairs peer offer answer told xs
by_told pairs peer offer answer told xs w m of_message of_pair of_key p =
    let is : Is offer answer xs m.message m.pair m.key =
    subst (λ message. Is offer answer xs message m.pair m.key) (sym of_message)
    (subst (λ pair. Is offer answer xs (initial_sent w) pair m.key) (sym of_pair) (subst (λ key. Is offer answer xs (initial_sent w) w.pair key) (sym of_key) p)) in
    record { message = m; response = is.0; policies = ap (λ (m : Message). policies_in m.payloads) of_message ∙ own_policies w; agreed = is.1 }

-- by the two texts and the two descriptions
abbrev pub IsByOwnMessage : AtHand → List ℕ → List ℕ → Sdp → List ℕ → List (Option Medium) → Type 0
IsByOwnMessage h peer text offer answer xs =
    (s : Sdp) × (description_of answer ≡ Ok s) × (told : Sdp) × (text ≡ spelling told) × IsByMessageOf h.pairs peer offer s told xs

by_sent : (h : AtHand) (peer : List ℕ) (s : Sdp) (pair : Pair) (slot : ℕ) (noise answer : List ℕ) (g : AgreedAnswer) → Any (λ p. p ≡ pair) h.pairs → pair.peer ≡ peer
    → (let w : Sent = sent_of pair h.now h.noise (ssrcs_of Plain s.media) in
    let o : keying.Offer = record { side = Plain; description = s; keying = keying.OwnMessage w } in
    agreed_answer slot o noise answer ≡ Ok g → IsByOwnMessage h peer (accepted_offer h.slot o).text s answer g.media)
unfolding agreed_answer carried_text
by_sent h peer s pair slot noise answer g held of_peer e =
    let w : Sent = sent_of pair h.now h.noise (ssrcs_of Plain s.media) in
    let o : keying.Offer = record { side = Plain; description = s; keying = keying.OwnMessage w } in
    let p = after_ok_is (described Secure (Some (length s.media)) answer) _ g e in
    let active : List Bool = actives_after Plain s.media p.0.media in
    let q = after_ok_is (answered_by o noise p.0 active (keying.OwnMessage w)) _ g p.2 in
    let r = after_ok_is (streams_answered w (active_count Plain s.media) (mikey_value p.0.session)) _ q.0 q.1 in
    let t = after_ok_is (each_kept (λ k streams n. Ok (keyed_as_initiator streams)) 0 active (over_active Plain s.media r.0) p.0.media) _ q.0 r.2 in
    let streams = streams_are w p.0.session (active_count Plain s.media) r.0 r.1 in
    let agreed = media_are w streams.0.response.map s.media p.0.media r.0 refl refl streams.1 t.0 t.1 in
    let profiles : List Profile = map (λ (m : descriptions.Medium). exchanged m.profile) s.media in
    let told : Sdp = with_added (keying.added_by (keying.OwnMessage w)) (carried (ports_from h.slot 0 Secure (actives Plain s.media)) profiles s) in
    let answered : Answered = record { session = []; media = t.0 } in
    let same = ap (accepted_answer slot o p.0 active) (ok_is answered q.0 t.2) ∙ ok_is (accepted_answer slot o p.0 active q.0) g q.2 in
    let m = own_message h.pairs peer told.session w held of_peer (first_told s.session (initial_octets w)) in (
      p.0,
      described_is Secure (Some (length s.media)) answer p.0 p.1,
      told,
      refl,
      subst (λ (g : AgreedAnswer). IsByMessageOf h.pairs peer s p.0 told g.media) same
          (by_told h.pairs peer s p.0 told (media_agreed Plain s.media p.0.media t.0) w m.0 m.1 m.2 m.3 (streams.0, agreed)),
    )

pub by_own_message : (h : AtHand) (peer offered noise answer : List ℕ) (slot : ℕ) (a : AgreedOffer) (g : AgreedAnswer) → agreed_offer h (MikeyFromPlain peer) offered ≡ Ok a
    → agreed_answer slot a.offer noise answer ≡ Ok g → IsByOwnMessage h peer a.text a.offer.description answer g.media
unfolding agreed_offer
by_own_message h peer offered noise answer slot a g made e =
    let p = after_ok_is (described Plain h.media offered) _ a made in
    let q = after_ok_is (keying_of h p.0 (MikeyFromPlain peer)) _ a p.2 in
    let r = after_ok_is (of_psk 255 (sent_under h.now h.noise (ssrcs_of Plain p.0.media) (pair_with h.pairs peer))) _ q.0 q.1 in
    let w = sent_is h.pairs peer h.now h.noise (ssrcs_of Plain p.0.media) (pair_with h.pairs peer) r.0 refl (psk_is 255 (sent_under h.now h.noise (ssrcs_of Plain p.0.media) (pair_with h.pairs peer)) r.0 r.1) in
    let accepts : Sent → AgreedOffer = λ w. accepted_offer h.slot (record { side = Plain; description = p.0; keying = keying.OwnMessage w }) in
    let same : accepts (sent_of w.0 h.now h.noise (ssrcs_of Plain p.0.media)) ≡ a =
    ap accepts w.3 ∙ ap (λ k. accepted_offer h.slot (record { side = Plain; description = p.0; keying = k })) (ok_is (keying.OwnMessage r.0) q.0 r.2) ∙ ok_is _ a q.2 in
    subst (λ (a : AgreedOffer). IsByOwnMessage h peer a.text a.offer.description answer g.media) same
    (by_sent h peer p.0 w.0 slot noise answer g w.1 w.2 (ap (λ (a : AgreedOffer). agreed_answer slot a.offer noise answer) same ∙ e))
