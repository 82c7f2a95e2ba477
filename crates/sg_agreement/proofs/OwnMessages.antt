-- What the gateway's own message keys encrypts, and the response to it is authentic.
use Rattle.std.proofs.Common.{◌≡◌, ℕ, ◌+◌, ◌*◌, Bool, true, false, cond, not, ◌&&◌, eqb, List, [], ◌∷◌, length, map, Option, Some, None, Ok, refl, sym, ap, ◌∙◌, subst}
use Rattle.std.proofs.lemmas.Bool.{and_parts, eqb-true, not-false}
use Rattle.std.specs.List.{AllByRecursion}
use Rattle.sg_base.proofs.Cases.{and_then_some, none_some, some_is}
use Rattle.sg_base.proofs.SameOctets.{same_octets_is}
use Rattle.sg_base.specs.Keys.{Master}
use Rattle.sg_base.specs.Mkis.{MkiValue}
use Rattle.sg_base.specs.declared.addresses.Side.TheVariants.{Secure, Plain}
use Rattle.sg_base.specs.declared.faults.PskFault.TheVariants.{Algorithm, BadMac, OtherSession}
use Rattle.sg_base.specs.declared.suites.Suite.TheVariants.{Cm128Tag80}
use Rattle.sg_csmap.specs.CryptoSessions.{keys_in, master_in, policy_at, stream_in, stream_keys, streams_of}
use Rattle.sg_csmap.specs.Policies.{each_once, meaning, protection_of, said_by, value_of}
use Rattle.sg_csmap.specs.declared.policies.Protection.{Protection}
use Rattle.sg_csmap.specs.declared.sessions.StreamKeys.{StreamKeys}
use Rattle.sg_mikey.specs.declared.message.CsEntry.{CsEntry}
use Rattle.sg_mikey.specs.declared.message.Message.{Message}
use Rattle.sg_mikey.specs.declared.message.Tgk.{Tgk}
use Rattle.sg_mikey.specs.declared.policy.Policy.{Policy}
use Rattle.sg_psk.specs.Envelope.{mac_of}
use Rattle.sg_psk.specs.Pairs.{pair_with}
use Rattle.sg_psk.specs.Parts.{closing_in}
use Rattle.sg_psk.specs.Policy.{own_policy}
use Rattle.sg_psk.specs.Sending.{Sent, initial_octets, response_fits, response_of, sent_under}
use Rattle.sg_sdp.specs.Carrying.{carried}
use Rattle.sg_sdp.specs.Reading.{description_of}
use Rattle.sg_sdp.specs.declared.medium.Medium as descriptions
use Rattle.sg_sdp.specs.declared.medium.Profile.{Profile}
use Rattle.sg_sdp.specs.declared.sdp.Sdp.{Sdp}
use Rattle.sg_session.proofs.Inversions.{after_ok_is, ok_is, stop_if_is}
use Rattle.sg_session.proofs.Lists.{any_here}
use Rattle.sg_agreement.proofs.FewMedia.{described_is, of_answer, of_offer}
use Rattle.sg_agreement.proofs.KeyedSound.{Sometimes}
use Rattle.sg_agreement.proofs.MessagesSound.{IsRead, cs_is, psk_is, read_is}
use Rattle.sg_agreement.proofs.SessionsSound.{IsPairOf, streams_each}
use Rattle.sg_agreement.proofs.Sound.{each_kept_is, over_sound}
use Rattle.sg_agreement.proofs.TextLines.{any_behind}
use Rattle.sg_agreement.specs.Answers.{Answered, AgreedAnswer, accepted_answer, agreed_answer}
use Rattle.sg_agreement.specs.Attributes.{mikey_value, ssrcs_of}
use Rattle.sg_agreement.specs.CarriedTexts.{carried_text, exchanged, mikey_attribute, ports_from, with_added}
use Rattle.sg_agreement.specs.EachMedium.{each_kept}
use Rattle.sg_agreement.specs.Keyed.{Keyed, media_agreed, medium_agreed}
use Rattle.sg_agreement.specs.Keying.{OwnMessage, Offer, added_by}
use Rattle.sg_agreement.specs.Media.{Medium}
use Rattle.sg_agreement.specs.MessageAnswers.{keyed_as_initiator, over_active, responded, streams_answered}
use Rattle.sg_agreement.specs.Messages.{AtHand, message_in}
use Rattle.sg_agreement.specs.Offers.{AgreedOffer, accepted_offer, agreed_offer}
use Rattle.sg_agreement.specs.OwnMessages.{TellsMessage, IsResponseTo, IsInSession, IsByOwnMessage, AreByOwnMessage, AreByMessageOf}
use Rattle.sg_agreement.specs.Refusals.{of_cs, of_psk}
use Rattle.sg_agreement.specs.Sides.{active_count, actives, actives_after}
use Rattle.sg_agreement.specs.Streams.{session_key, stream_of_session}
use Rattle.sg_agreement.specs.declared.ways.Way.TheVariants.{MikeyFromPlain}

-- ---- the gateway's policy

own_protection : protection_of own_policy ≡ Some (record { suite = Cm128Tag80; plain_rtp = false; plain_rtcp = false })
unfolding protection_of said_by meaning each_once value_of
own_protection = refl

module _ (sent : Sent) where
  -- what is sent in a crypto session of the message
  record IsOwnStream (session : ℕ) (s : StreamKeys) : Type 0 where
    keys : s.keys ≡ keys_in sent.csb sent.random session Cm128Tag80 sent.tgks
    rtp : s.plain_rtp ≡ false
    rtcp : s.plain_rtcp ≡ false

  policy_is : (entry : CsEntry) (p : Policy) → policy_at (own_policy ∷ []) entry ≡ Some p → p ≡ own_policy
  policy_is entry p e = go (eqb 0 entry.policy) e
    where
      go : (b : Bool) → cond b (Some own_policy) None ≡ Some p → p ≡ own_policy
      go true e = sym (some_is own_policy p e)
      go false e = absurd (none_some p e)

  stream_own : (session : ℕ) (entry : CsEntry) (s : StreamKeys) → stream_in sent.csb sent.random (own_policy ∷ []) sent.tgks session entry ≡ Some s → IsOwnStream session s
  unfolding stream_in
  stream_own session entry s e =
      let a = and_then_some (policy_at (own_policy ∷ []) entry) _ s e in
      let b = and_then_some (protection_of a.0) _ s a.2 in
      let same : record { suite = Cm128Tag80; plain_rtp = false; plain_rtcp = false } ≡ b.0 = some_is _ b.0 (sym own_protection ∙ (ap protection_of (sym (policy_is entry a.0 a.1)) ∙ b.1)) in
      subst (IsOwnStream session) (some_is (stream_keys sent.csb sent.random sent.tgks session entry b.0) s b.2)
      (subst (λ (p : Protection). IsOwnStream session (stream_keys sent.csb sent.random sent.tgks session entry p)) same (record { keys = refl; rtp = refl; rtcp = refl }))

  -- the gateway sends in one crypto session and the peer in the next
  abbrev IsOwnPair : StreamKeys × StreamKeys → Type 0
  IsOwnPair = IsPairOf IsOwnStream

  responded_own : (ss : List (StreamKeys × StreamKeys)) (map : List CsEntry) → AllByRecursion IsOwnPair ss → AllByRecursion IsOwnPair (responded ss map)
  responded_own [] map p = tt
  responded_own (s ∷ ss) [] p = tt
  responded_own (s ∷ ss) (i ∷ []) p = tt
  responded_own (s ∷ ss) (i ∷ r ∷ map) p =
      ((p.0.0, p.0.1, record { keys = p.0.2.keys; rtp = p.0.2.rtp; rtcp = p.0.2.rtcp }), responded_own ss map p.1)

  -- ---- the response

  responds : (lines : List (List ℕ)) (r : List ℕ × Message) (map : List CsEntry) → IsRead 1 (mikey_value lines) r → response_of r.0 r.1 sent ≡ Ok map → IsResponseTo sent lines
  unfolding response_of response_fits mac_of
  responds lines r map read e =
      let a = stop_if_is (not (eqb (closing_in r.1.payloads).mac 1)) Algorithm _ map e in
      let b = stop_if_is (not (response_fits r.0 r.1 sent)) BadMac _ map a.1 in
      let c = stop_if_is (not (eqb r.1.csb sent.csb && eqb (length r.1.map) (length sent.map))) OtherSession (Ok r.1.map) map b.1 in
      let d = and_parts (eqb r.1.csb sent.csb) (eqb (length r.1.map) (length sent.map)) (not-false _ c.0) in
      record {
        octets = r.0;
        carried = read.0;
        message = r.1;
        read = read.1.0;
        kind = read.1.1;
        csb = eqb-true r.1.csb sent.csb d.0;
        as_many = eqb-true (length r.1.map) (length sent.map) d.1;
        code = same_octets_is _ _ (not-false _ b.0);
      }

  answered_own : (lines : List (List ℕ)) (count : ℕ) (ss : List (StreamKeys × StreamKeys)) → streams_answered sent count (mikey_value lines) ≡ Ok ss → IsResponseTo sent lines × AllByRecursion IsOwnPair ss
  unfolding streams_answered
  answered_own lines count ss e =
      let a = after_ok_is (message_in 255 1 (mikey_value lines)) _ ss e in
      let b = after_ok_is (of_psk 255 (response_of a.0.0 a.0.1 sent)) _ ss a.2 in
      let c = after_ok_is (of_cs 255 (streams_of sent.csb sent.random sent.map (own_policy ∷ []) sent.tgks count)) _ ss b.2 in (
        responds lines a.0 b.0 (read_is 255 1 (mikey_value lines) a.0 a.1) (psk_is 255 (response_of a.0.0 a.0.1 sent) b.0 b.1),
        subst (AllByRecursion IsOwnPair) (ok_is _ ss c.2)
            (responded_own c.0 b.0 (streams_each sent.csb sent.random (own_policy ∷ []) sent.tgks IsOwnStream stream_own sent.map count c.0 (cs_is 255 (streams_of sent.csb sent.random sent.map (own_policy ∷ []) sent.tgks count) c.0 c.1))),
      )

  -- ---- what is agreed

  masters_are : (session : ℕ) (tgks : List Tgk)
      → map (λ k. k.master) (map session_key (keys_in sent.csb sent.random session Cm128Tag80 tgks)) ≡ map (λ k. master_in sent.csb sent.random session Cm128Tag80 k.key) tgks
  masters_are session [] = refl
  masters_are session (k ∷ ks) = ap (λ ms. master_in sent.csb sent.random session Cm128Tag80 k.key ∷ ms) (masters_are session ks)

  stream_is : (session : ℕ) (s : StreamKeys) → IsOwnStream session s → IsInSession sent session (stream_of_session s)
  stream_is session s is = ap (λ (ks : List (Option MkiValue × Master)). map (λ k. k.master) (map session_key ks)) is.keys ∙ masters_are session sent.tgks

  medium_own : (k : Keyed) (m n : descriptions.Medium) (p : StreamKeys × StreamKeys) → IsOwnPair p → keyed_as_initiator p ≡ k → IsByOwnMessage sent (medium_agreed Plain k m n)
  medium_own k m n p is same = subst (λ (k : Keyed). IsByOwnMessage sent (medium_agreed Plain k m n)) same (record {
    number = is.0;
    seals = stream_is (2 * is.0 + 1) p.0 is.1;
    opens = stream_is (2 * is.0 + 2) p.1 is.2;
    seals_rtp = ap not is.1.rtp;
    seals_rtcp = ap not is.1.rtcp;
    opens_rtp = ap not is.2.rtp;
    opens_rtcp = ap not is.2.rtcp;
  })

  -- a medium's keys are those of such a pair
  abbrev IsOwnKeyed : Keyed → Type 0
  IsOwnKeyed k = (p : StreamKeys × StreamKeys) × IsOwnPair p × (keyed_as_initiator p ≡ k)

  media_own : (ms ns : List descriptions.Medium) (ks : List (Option Keyed)) → AllByRecursion (Sometimes IsOwnKeyed) ks → AreByOwnMessage sent (media_agreed Plain ms ns ks)
  media_own [] ns ks p = tt
  media_own (m ∷ ms) [] ks p = tt
  media_own (m ∷ ms) (n ∷ ns) [] p = tt
  media_own (m ∷ ms) (n ∷ ns) (None ∷ ks) p = ((λ y e. absurd (none_some y e)), media_own ms ns ks p.1)
  media_own (m ∷ ms) (n ∷ ns) (Some k ∷ ks) p =
      ((λ y e. subst (IsByOwnMessage sent) (some_is (medium_agreed Plain k m n) y e) (medium_own k m n p.0.0 p.0.1 p.0.2)), media_own ms ns ks p.1)

-- ---- the offer and the answer

abbrev IsAnswered : List ℕ → List ℕ → List (Option Medium) → Type 0
IsAnswered text answer media = (s : Sdp) × (description_of answer ≡ Ok s) × AreByMessageOf text s media

pub tells_message : (slot : ℕ) (s : Sdp) (sent : Sent) → TellsMessage (accepted_offer slot (record { side = Plain; description = s; keying = OwnMessage sent })).text sent
unfolding carried_text
tells_message slot s sent =
    let profiles : List Profile = map (λ (m : descriptions.Medium). exchanged m.profile) s.media in
    let text : Sdp = carried (ports_from slot 0 Secure (actives Plain s.media)) profiles s in
    (with_added (added_by (OwnMessage sent)) text, refl, any_behind _ text.session (mikey_attribute (initial_octets sent) ∷ []) (any_here _ (mikey_attribute (initial_octets sent)) [] refl))

by_sent : (text : List ℕ) (s : Sdp) (sent : Sent) (slot : ℕ) (noise answer : List ℕ) (g : AgreedAnswer) → TellsMessage text sent
    → agreed_answer slot (record { side = Plain; description = s; keying = OwnMessage sent }) noise answer ≡ Ok g → IsAnswered text answer g.media
by_sent text s sent slot noise answer g tells e =
    let o : Offer = record { side = Plain; description = s; keying = OwnMessage sent } in
    of_answer (λ g. IsAnswered text answer g.media) slot o noise answer g e (λ n b was by.
    let active : List Bool = actives_after Plain s.media n.media in
    let r = after_ok_is (streams_answered sent (active_count Plain s.media) (mikey_value n.session)) _ b by in
    let over : List (Option (StreamKeys × StreamKeys)) = over_active Plain s.media r.0 in
    let t = after_ok_is (each_kept (λ k streams n. Ok (keyed_as_initiator streams)) 0 active over n.media) _ b r.2 in
    let own = answered_own sent n.session (active_count Plain s.media) r.0 r.1 in
    let keyed = each_kept_is (IsOwnPair sent) (IsOwnKeyed sent) (λ k streams n. Ok (keyed_as_initiator streams)) (λ k x n y pair v. (x, pair, ok_is (keyed_as_initiator x) y v)) 0 active over n.media t.0
    (over_sound (IsOwnPair sent) Plain s.media r.0 own.1) t.1 in
    subst (λ (b : Answered). IsAnswered text answer (accepted_answer slot o n active b).media) (ok_is _ b t.2)
    (n, described_is Secure (Some (length s.media)) answer n was, record { sent = sent; tells = tells; responds = own.0; agreed = media_own sent s.media n.media t.0 keyed }))

pub by_own_message : (h : AtHand) (peer offered noise answer : List ℕ) (slot : ℕ) (a : AgreedOffer) (g : AgreedAnswer) → agreed_offer h (MikeyFromPlain peer) offered ≡ Ok a
    → agreed_answer slot a.offer noise answer ≡ Ok g → (s : Sdp) × (description_of answer ≡ Ok s) × AreByMessageOf a.text s g.media
by_own_message h peer offered noise answer slot a g made = of_offer (λ a. agreed_answer slot a.offer noise answer ≡ Ok g → IsAnswered a.text answer g.media) h (MikeyFromPlain peer) offered a made (λ s k was is.
    let r = after_ok_is (of_psk 255 (sent_under h.now h.noise (ssrcs_of Plain s.media) (pair_with h.pairs peer))) _ k is in
    subst (λ k. let o : Offer = record { side = Plain; description = s; keying = k } in agreed_answer slot o noise answer ≡ Ok g → IsAnswered (accepted_offer h.slot o).text answer g.media)
    (ok_is (OwnMessage r.0) k r.2) (by_sent _ s r.0 slot noise answer g (tells_message h.slot s r.0)))
