-- The gateway's own messages have the payloads that they are to have.
use Rattle.std.proofs.Common.{◌≡◌, inl, inr, ℕ, ◌+◌, ◌*◌, Bool, true, false, cond, not, eqb, eqb-true, List, [], ◌∷◌, ◌++◌, length, map, take, drop, Option, Some, None, Ok, refl, sym, ap, ◌∙◌, subst, arith, append_assoc, length-append}
use Rattle.std.proofs.lemmas.Bool.{false≢true, not-false}
use Rattle.std.specs.List.{filter}
use Rattle.std.specs.Option.{option_map}
use Rattle.sg_agreement.proofs.MessagesSound.{cs_is}
use Rattle.sg_agreement.specs.Attributes.{own_ssrc}
use Rattle.sg_agreement.specs.MessageAnswers.{first_streams, own_streams, ssrcs_answered}
use Rattle.sg_agreement.specs.Messages.{AtHand, Bundle, bundle_in, message_in}
use Rattle.sg_base.specs.declared.faults.CsFault.TheVariants.{CsCount}
use Rattle.sg_csmap.specs.CryptoSessions.{streams_of}
use Rattle.sg_hmac.specs.Hmac.{hmac_sha1}
use Rattle.sg_hmac.specs.Labels.{authentication_key}
use Rattle.sg_mikey.specs.declared.message.CsEntry.{CsEntry}
use Rattle.sg_psk.proofs.ExchangeLaws.{initial_before, initial_spelled, response_before, response_spelled}
use Rattle.sg_psk.specs.Accepting.{Accepted, initial_of}
use Rattle.sg_psk.specs.Envelope.{mac_of, response_covers}
use Rattle.sg_psk.specs.Sending.{Sent, answered_map, initial_octets, initial_start, response_octets, response_start, sent_of}
use Rattle.sg_sdp.specs.declared.medium.Medium as descriptions
use Rattle.sg_gateway.proofs.Common.{Pair, Secure, StreamKeys, after_ok_is, is_active, of_cs, of_psk, ok_is, some_is, stop_if_is}
use Rattle.sg_gateway.proofs.Sources.{first_source}
use Rattle.sg_conduct.proofs.Drawn.{AllAt, rest_at, some_at, this_at}
use Rattle.sg_conduct.proofs.Offers.{active_takes}
use Rattle.sg_conduct.proofs.Present.{takes_active}
use Rattle.sg_conduct.specs.OwnPayloads.{AreAnsweredSessions, IsInitial, IsResponse}
use Rattle.sg_conduct.specs.Present.{TakesPart}

-- ---- as the initiator

pub initial_is : (pair : Pair) (now : ℕ) (noise ssrcs : List ℕ) → IsInitial (sent_of pair now noise ssrcs) (initial_octets (sent_of pair now noise ssrcs))
unfolding mac_of
initial_is pair now noise ssrcs =
    let w : Sent = sent_of pair now noise ssrcs in
    record {
      key = take 16 (drop 20 noise);
      alone = refl;
      tag = mac_of w.pair.key w.csb w.random (initial_start w);
      spelled = initial_spelled w;
      code = ap (hmac_sha1 (authentication_key w.pair.key w.csb w.random)) (sym (initial_before w));
    }

-- ---- as the responder

none_answered : (came : List CsEntry) → answered_map came [] ≡ []
unfolding answered_map
none_answered [] = refl
none_answered (i ∷ []) = refl
none_answered (i ∷ r ∷ came) = refl

pub sessions_answered : (ms ns : List descriptions.Medium) (came : List CsEntry) → length came ≡ 2 * length (filter (is_active Secure) ms) → AreAnsweredSessions ms ns came (answered_map came (ssrcs_answered Secure ms ns))
unfolding answered_map
sessions_answered [] ns came long = none_answered came
sessions_answered (m ∷ ms) [] came long = none_answered came
sessions_answered (m ∷ ms) (n ∷ ns) came long = go (is_active Secure m) refl (sessions_answered ms ns) came long
  where
    go : (b : Bool) → is_active Secure m ≡ b
        → ((came : List CsEntry) → length came ≡ 2 * length (filter (is_active Secure) ms) → AreAnsweredSessions ms ns came (answered_map came (ssrcs_answered Secure ms ns)))
        → (came : List CsEntry) → length came ≡ 2 * length (cond b (m ∷ filter (is_active Secure) ms) (filter (is_active Secure) ms))
        → AreAnsweredSessions (m ∷ ms) (n ∷ ns) came (answered_map came (cond b (own_ssrc n.lines ∷ ssrcs_answered Secure ms ns) (ssrcs_answered Secure ms ns)))
    go true is rest [] long = absurd (omega (arith, long))
    go true is rest (i ∷ []) long = absurd (omega (arith, long))
    go true is rest (i ∷ r ∷ more) long = inl (
      active_takes Secure m is,
      (i, r, own_ssrc n.lines, more, answered_map more (ssrcs_answered Secure ms ns), refl, first_source n.lines, refl, rest more (omega (arith, long))),
    )
    go false is rest came long = inr ((λ takes. false≢true (sym is ∙ takes_active Secure m takes)), rest came long)

-- of one medium
pub one_answered : (m n : descriptions.Medium) (came : List CsEntry) → TakesPart Secure m → length came ≡ 2 → AreAnsweredSessions (m ∷ []) (n ∷ []) came (answered_map came (own_ssrc n.lines ∷ []))
unfolding answered_map
one_answered m n [] takes long = absurd (omega (arith, long))
one_answered m n (i ∷ []) takes long = absurd (omega (arith, long))
one_answered m n (i ∷ r ∷ []) takes long = inl (takes, (i, r, own_ssrc n.lines, [], [], refl, first_source n.lines, refl, refl))
one_answered m n (i ∷ r ∷ x ∷ more) takes long = absurd (omega (arith, long))

pub response_is : (a : Accepted) (ms ns : List descriptions.Medium) (ssrcs : List ℕ) → AreAnsweredSessions ms ns a.map (answered_map a.map ssrcs) → IsResponse a ms ns (response_octets a ssrcs)
unfolding mac_of
response_is a ms ns ssrcs are = record {
  entries = answered_map a.map ssrcs;
  sessions = are;
  tag = mac_of a.pair.key a.csb a.random (response_covers (response_start a ssrcs) a.pair.peer a.pair.own a.stamp);
  spelled = response_spelled a ssrcs;
  code = ap (λ start. hmac_sha1 (authentication_key a.pair.key a.csb a.random) (start ++ (a.pair.peer ++ (a.pair.own ++ a.stamp)))) (sym (response_before a ssrcs));
}

-- ---- the messages that are answered

pub bundle_long : (h : AtHand) (medium count : ℕ) (value : Option (List ℕ)) (b : Bundle) → bundle_in h medium count value ≡ Ok b → length b.initial.map ≡ 2 * count
unfolding bundle_in streams_of
bundle_long h medium count value b e =
    let p = after_ok_is (message_in medium 0 value) _ b e in
    let q = after_ok_is (of_psk medium (initial_of p.0.0 p.0.1 h.pairs h.noted h.now)) _ b p.2 in
    let r = after_ok_is (of_cs medium (streams_of q.0.csb q.0.random q.0.map q.0.policies q.0.tgks count)) _ b q.2 in
    let s = stop_if_is (not (eqb (length q.0.map) (2 * count))) CsCount _ r.0 (cs_is medium _ r.0 r.1) in
    subst (λ (b : Bundle). length b.initial.map ≡ 2 * count) (ok_is _ b r.2) (eqb-true (length q.0.map) (2 * count) (not-false _ s.0))

abbrev pub HasOneMedium : ℕ → Bundle → Type 0
HasOneMedium k b = length b.initial.map ≡ 2

-- the message of the medium of this number
abbrev pub IsOfBundle : List (Option Bundle) → ℕ → Accepted × (StreamKeys × StreamKeys) → Type 0
IsOfBundle all k x = (b : Bundle) × ((before behind : List (Option Bundle)) × (all ≡ before ++ Some b ∷ behind) × (k ≡ length before)) × (b.initial ≡ x.0) × (length x.0.map ≡ 2)

first_of_bundle : (b : Bundle) (o : Option (StreamKeys × StreamKeys)) (x : Accepted × (StreamKeys × StreamKeys)) → option_map (λ (streams : StreamKeys × StreamKeys). (b.initial, streams)) o ≡ Some x → b.initial ≡ x.0
first_of_bundle b None x e = absurd cc
first_of_bundle b (Some y) x e = ap (λ (p : Accepted × (StreamKeys × StreamKeys)). p.0) (some_is (b.initial, y) x e)

this_bundle : (all before behind : List (Option Bundle)) (o : Option Bundle) → all ≡ before ++ o ∷ behind → ((b : Bundle) → o ≡ Some b → length b.initial.map ≡ 2)
    → (x : Accepted × (StreamKeys × StreamKeys)) → own_streams o ≡ Some x → IsOfBundle all (length before) x
this_bundle all before behind None parts long x e = absurd cc
this_bundle all before behind (Some b) parts long x e =
    let same : b.initial ≡ x.0 = first_of_bundle b (first_streams b.streams) x e in
    (b, (before, behind, parts, refl), same, subst (λ (a : Accepted). length a.map ≡ 2) same (long b refl))

pub bundles_at : (all before bs : List (Option Bundle)) → all ≡ before ++ bs → AllAt HasOneMedium (length before) bs → AllAt (IsOfBundle all) (length before) (map own_streams bs)
bundles_at all before [] parts long = tt
bundles_at all before (o ∷ bs) parts long =
    let next : length (before ++ o ∷ []) ≡ length before + 1 = length-append before (o ∷ []) in
    some_at (IsOfBundle all) (length before) (own_streams o) (map own_streams bs)
    (this_bundle all before bs o parts (this_at HasOneMedium (length before) o bs long))
    (subst (λ k. AllAt (IsOfBundle all) k (map own_streams bs)) next
    (bundles_at all (before ++ o ∷ []) bs (parts ∙ sym (append_assoc before (o ∷ []) bs)) (subst (λ k. AllAt HasOneMedium k bs) (sym next) (rest_at HasOneMedium (length before) o bs long))))
