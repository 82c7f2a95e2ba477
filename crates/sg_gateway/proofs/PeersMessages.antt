-- What the peer's own MIKEY message keys is under the keys that it carries, in the crypto sessions of its medium, and the peer is
-- told the response to it.
use Rattle.std.proofs.Common.{◌≡◌, ◌⊎◌, inl, inr, ℕ, ◌+◌, Bool, true, false, cond, not, ◌&&◌, eqb-true, List, [], ◌∷◌, ◌++◌, length, map, codes, Option, Some, None, Result, Ok, refl, sym, ap, ◌∙◌, subst}
use Rattle.std.proofs.lemmas.Bool.{or_parts, false≢true, not-false}
use Rattle.std.specs.List.{AllByRecursion, cons_option, filter, filter_map, list_any, starts_with, Any}
use Rattle.std.specs.Prelude.{nat_eq}
use Rattle.std.specs.Option.{is_some, option_map}
use Rattle.sg_agreement.proofs.MessagesSound.{cs_is, psk_is}
use Rattle.sg_agreement.proofs.TextLines.{behind_is, kept_some, active_some}
use Rattle.sg_agreement.specs.Answers.{Answered, AgreedAnswer, accepted_answer, agreed_answer, answered_by, lines_of}
use Rattle.sg_agreement.specs.Attributes.{behind, ends_word, first_of, has_message, mikey_octets, mikey_rest, mikey_value, octets_behind, own_ssrc}
use Rattle.sg_agreement.specs.CarriedTexts.{carried_text, mikey_attribute, ports_from, rtp_port, with_added, with_media_lines}
use Rattle.sg_agreement.specs.Described.{described}
use Rattle.sg_agreement.specs.MessageAnswers.{first_streams, keyed_as_responder, keyed_by_message, over_active, own_streams, ssrcs_answered}
use Rattle.sg_agreement.specs.Messages.{AtHand, Bundle, bundle_in, message_in}
use Rattle.sg_agreement.specs.Offers.{AgreedOffer, agreed_offer, chosen_in, keying_by_messages, keying_of}
use Rattle.sg_agreement.specs.TextLines.{IsMessageLine, HasNoMessage}
use Rattle.sg_base.proofs.Cases.{and_then_some, guarded, map_some, none_some, some_is}
use Rattle.sg_base.specs.Fields.{cut_at}
use Rattle.sg_base.specs.declared.faults.PskFault.TheVariants.{Algorithm, BadMac}
use Rattle.sg_csmap.specs.CryptoSessions.{streams_of}
use Rattle.sg_mikey.specs.Reading as messages
use Rattle.sg_psk.specs.Accepting.{Accepted, accepted_with, fault_of, initial_fits, initial_of, is_served, keys_in}
use Rattle.sg_psk.specs.Envelope.{mac_of}
use Rattle.sg_psk.specs.Parts.{closing_in, names_in, policies_in, random_in, stamp_in}
use Rattle.sg_psk.specs.Sending.{response_octets, Sent, answered_map, initial_octets, key_of}
use Rattle.sg_psk.specs.declared.replays.Noted.{Noted}
use Rattle.sg_sdp.specs.Addresses.{with_address}
use Rattle.sg_sdp.specs.Carrying.{attribute_name, carried, carried_line, carried_lines, carried_media, carried_medium, is_one_sided}
use Rattle.sg_sdp.specs.Descriptions.{spelling}
use Rattle.sg_sdp.specs.declared.medium.Medium as descriptions
use Rattle.sg_sdp.specs.declared.sdp.Sdp.{Sdp}
use Rattle.sg_gateway.proofs.Common.{CsEntry, FromSecure, Keyed, Keying, Medium, Message, Offer, Opening, Pair, PeerLines, PeerMessage, PeerMessages, Plain}
use Rattle.sg_gateway.proofs.Common.{Refusal, Secure, StreamKeys, Tgk, active_count, actives_after, after_ok, after_ok_is, described_is, description_of}
use Rattle.sg_gateway.proofs.Common.{each_active, each_kept, if_active, if_kept, is_active, media_agreed, medium_agreed, of_cs, of_psk, ok_is, same_octets_is}
use Rattle.sg_gateway.proofs.Authentic.{initial_parts, message_read, none_unless, pair_is}
use Rattle.sg_gateway.proofs.CryptoSessions.{AreAnswered, IsAnswered, IsMediumIn, IsPair, PairsFrom, all_answered, as_responder, streams_sent}
use Rattle.sg_gateway.proofs.MediaOver.{MediaFrom, SaidFrom, media_over}
use Rattle.sg_gateway.proofs.PlainTexts.{no_key_line}
use Rattle.sg_gateway.specs.CryptoSessions.{Carries, Tells}
use Rattle.sg_gateway.specs.PeersMessages.{OwnResponse, PeersMessage}
use Rattle.sg_gateway.specs.PlainTexts.{IsKeyLine}
use Rattle.sg_hmac.specs.Hmac.{hmac_sha1}
use Rattle.sg_hmac.specs.Labels.{authentication_key}
use Rattle.sg_psk.proofs.ExchangeLaws.{initial_before, initial_spelled, response_before, response_spelled}
use Rattle.sg_psk.specs.Ends.{initial_sent, response_sent}
use Rattle.sg_psk.specs.Policy.{own_policy}
use Rattle.sg_gateway.specs.OwnMessages.{OwnMessage}

-- ---- the messages that the gateway tells are spelled with their MACs: what stands before a MAC doesn't depend on it

-- ---- the initiator's message

-- what is told of it, and that it is this message
pub own_message : (pairs : List Pair) (peer : List ℕ) (lines : List (List ℕ)) (w : Sent) → Any (λ p. p ≡ w.pair) pairs → w.pair.peer ≡ peer → Tells lines (initial_octets w)
    → (m : OwnMessage pairs peer lines) × (m.message ≡ initial_sent w) × (m.pair ≡ w.pair) × (m.key ≡ key_of w.tgks)
unfolding random_in stamp_in names_in closing_in mac_of
own_message pairs peer lines w held of_peer told = (
  record {
    octets = initial_octets w;
    told = told;
    message = initial_sent w;
    spelled = initial_spelled w;
    kind = refl;
    pair = w.pair;
    held = held;
    of_peer = of_peer;
    names = refl;
    code = ap (λ start. hmac_sha1 (authentication_key w.pair.key w.csb w.random) start) (sym (initial_before w));
    key = key_of w.tgks;
    keys = refl;
  },
  refl,
  refl,
  refl,
)

-- its crypto sessions are those that the gateway keeps of it
pub own_streams_of : (w : Sent) (count : ℕ)
    → streams_of (initial_sent w).csb (random_in (initial_sent w).payloads) (initial_sent w).map (policies_in (initial_sent w).payloads) w.tgks count
    ≡ streams_of w.csb w.random w.map (own_policy ∷ []) w.tgks count
unfolding random_in policies_in
own_streams_of w count = refl

-- ---- the response

-- what is told of it, and its map
pub own_response : (m : Message) (pair : Pair) (tgks : List Tgk) (lines : List (List ℕ)) (ssrcs : List ℕ) → Tells lines (response_octets (accepted_with m pair tgks) ssrcs)
    → (r : OwnResponse m pair lines) × (r.response.map ≡ answered_map m.map ssrcs)
unfolding random_in stamp_in names_in closing_in mac_of
own_response m pair tgks lines ssrcs told =
    let i : Accepted = accepted_with m pair tgks in (
      record {
        octets = response_octets i ssrcs;
        told = told;
        response = response_sent i ssrcs;
        spelled = response_spelled i ssrcs;
        answers = record {
          kind = refl;
          csb = refl;
          code = ap (λ start. hmac_sha1 (authentication_key pair.key m.csb (random_in m.payloads)) (start ++ (pair.peer ++ (pair.own ++ stamp_in m.payloads)))) (sym (response_before i ssrcs));
        };
        stamp = refl;
        names = refl;
      },
      refl,
    )

-- ---- the attribute

no_line : (l : List ℕ) → mikey_rest l ≡ None → IsMessageLine l → ⊥
no_line l e (rest, inl is) = let some : mikey_rest l ≡ Some [] = ap mikey_rest is in none_some [] (sym e ∙ some)
no_line l e (rest, inr is) = let some : mikey_rest l ≡ Some (32 ∷ rest) = ap mikey_rest is in none_some (32 ∷ rest) (sym e ∙ some)

-- the first line that is kept, behind lines none of which is a MIKEY attribute
record IsFirstKept (lines : List (List ℕ)) (value : List ℕ) : Type 0 where
  before : List (List ℕ)
  line : List ℕ
  behind_it : List (List ℕ)
  parts : lines ≡ before ++ line ∷ behind_it
  none : AllByRecursion (λ line. ¬ IsMessageLine line) before
  kept : mikey_rest line ≡ Some value

first_kept : (ls : List (List ℕ)) (value : List ℕ) → first_of (filter_map mikey_rest ls) ≡ Some value → IsFirstKept ls value
first_kept [] value e = absurd cc
first_kept (l ∷ ls) value e = go (first_kept ls value) (mikey_rest l) refl e
  where
    go : (first_of (filter_map mikey_rest ls) ≡ Some value → IsFirstKept ls value) → (o : Option (List ℕ)) → mikey_rest l ≡ o → first_of (cons_option o (filter_map mikey_rest ls)) ≡ Some value → IsFirstKept (l ∷ ls) value
    go rest None is e =
        let r = rest e in
        record { before = l ∷ r.before; line = r.line; behind_it = r.behind_it; parts = ap (λ (ls : List (List ℕ)). l ∷ ls) r.parts; none = (no_line l is, r.none); kept = r.kept }
    go rest (Some v) is e = record { before = []; line = l; behind_it = ls; parts = refl; none = tt; kept = is ∙ e }

pub octets_carried : (lines : List (List ℕ)) (octets : List ℕ) → mikey_octets (mikey_value lines) ≡ Some octets → Carries lines octets
unfolding mikey_octets mikey_value
octets_carried lines octets e =
    let a = and_then_some (first_of (filter_map mikey_rest lines)) octets_behind octets e in
    of_first a.0 (first_kept lines a.0 a.1) a.2
  where
    go : (before behind_it : List (List ℕ)) (line rest : List ℕ) → lines ≡ before ++ line ∷ behind_it → AllByRecursion (λ line. ¬ IsMessageLine line) before
        → line ≡ codes "a=key-mgmt:mikey" ++ rest → ends_word rest ≡ true → octets_behind rest ≡ Some octets → Carries lines octets
    go before behind_it line [] parts none is ends e = absurd cc
    go before behind_it line (x ∷ text) parts none is ends e =
        let whole : line ≡ codes "a=key-mgmt:mikey " ++ text = is ∙ ap (λ x. codes "a=key-mgmt:mikey" ++ (x ∷ text)) (eqb-true x 32 ends) in
        (text, record { before = before; behind = behind_it; parts = parts ∙ ap (λ (line : List ℕ). before ++ line ∷ behind_it) whole; none = none }, e)

    of_first : (value : List ℕ) → IsFirstKept lines value → octets_behind value ≡ Some octets → Carries lines octets
    of_first value first e =
        let b = and_then_some (behind (codes "a=key-mgmt:mikey") first.line) _ value first.kept in
        let c = guarded (ends_word b.0) b.0 value b.2 in
        go first.before first.behind_it first.line value first.parts first.none (behind_is (codes "a=key-mgmt:mikey") first.line b.0 b.1 ∙ ap (λ rest. codes "a=key-mgmt:mikey" ++ rest) c.1) (subst (λ rest. ends_word rest ≡ true) c.1 c.0) e

none_kept : (l : List ℕ) (ls : List (List ℕ)) → first_of (filter_map mikey_rest (l ∷ ls)) ≡ None → (mikey_rest l ≡ None) × (first_of (filter_map mikey_rest ls) ≡ None)
none_kept l ls e = go (mikey_rest l) refl e
  where
    go : (o : Option (List ℕ)) → mikey_rest l ≡ o → first_of (cons_option o (filter_map mikey_rest ls)) ≡ None → (mikey_rest l ≡ None) × (first_of (filter_map mikey_rest ls) ≡ None)
    go None is e = (is, e)
    go (Some v) is e = absurd cc

no_lines : (ls : List (List ℕ)) → first_of (filter_map mikey_rest ls) ≡ None → AllByRecursion (λ line. ¬ IsMessageLine line) ls
no_lines [] e = tt
no_lines (l ∷ ls) e = let p = none_kept l ls e in (no_line l p.0, no_lines ls p.1)

no_value : (ls : List (List ℕ)) → mikey_value ls ≡ None → AllByRecursion (λ line. ¬ IsMessageLine line) ls
unfolding mikey_value
no_value ls e = no_lines ls e

is_none : (o : Option (List ℕ)) → is_some o ≡ false → o ≡ None
is_none None e = refl
is_none (Some x) e = absurd cc

no_media : (ms : List descriptions.Medium) → list_any (λ (m : descriptions.Medium). is_some (mikey_value m.lines)) ms ≡ false
    → AllByRecursion (λ (m : descriptions.Medium). AllByRecursion (λ line. ¬ IsMessageLine line) m.lines) ms
no_media [] e = tt
no_media (m ∷ ms) e = let p = or_parts (is_some (mikey_value m.lines)) _ e in (no_value m.lines (is_none (mikey_value m.lines) p.0), no_media ms p.1)

has_none : (s : Sdp) → has_message s ≡ false → HasNoMessage s
has_none s e =
    let p = or_parts (is_some (mikey_value s.session)) _ e in
    record { session = no_value s.session (is_none (mikey_value s.session) p.0); media = no_media s.media p.1 }

-- ---- the message

-- what is read of these lines, and what its keys give in each of its media
module _ (pairs : List Pair) (lines : List (List ℕ)) where
  initial_is : (octets : List ℕ) (m : Message) (noted : List Noted) (now : ℕ) (a : Accepted) → mikey_octets (mikey_value lines) ≡ Some octets → messages.message_of octets ≡ Ok m → m.kind ≡ 0
      → initial_of octets m pairs noted now ≡ Ok a → (p : PeersMessage pairs lines) × (accepted_with p.message p.pair p.tgks ≡ a)
  unfolding initial_of keys_in fault_of initial_fits mac_of
  initial_is octets m noted now a carried read kind e =
      let i = initial_parts octets m pairs noted now a e in
      let p = pair_is pairs (names_in m.payloads) i.0 i.1 in
      let served = none_unless (not (is_served (closing_in m.payloads))) Algorithm _ i.2 in
      let mac = none_unless (not (initial_fits octets m i.0)) BadMac _ served.1 in
      (record { octets = octets; carried = octets_carried lines octets carried; message = m; read = read; kind = kind; pair = i.0; held = p.0; names = p.1; code = same_octets_is _ _ (not-false _ mac.0); tgks = i.3; keys = i.4 }, i.5)

-- ---- what is told

message_key : (line : List ℕ) → IsMessageLine line → IsKeyLine line
message_key line (rest, inl is) = (codes "mikey", inr is)
message_key line (rest, inr is) = (codes "mikey " ++ rest, inr is)

gateways_two : is_one_sided (codes "c=IN IP4 127.0.0.1") ≡ false
unfolding is_one_sided attribute_name cut_at
gateways_two = refl

-- no line that is carried is a MIKEY attribute
none_carried : (ls : List (List ℕ)) → AllByRecursion (λ line. ¬ IsMessageLine line) (carried_lines ls)
unfolding carried_line
none_carried [] = tt
none_carried (l ∷ ls) = go (is_one_sided l) refl (none_carried ls)
  where
    Rest : Type 0
    Rest = AllByRecursion (λ line. ¬ IsMessageLine line) (carried_lines ls)

    its_own : (b : Bool) → is_one_sided l ≡ false → IsMessageLine (cond b (codes "c=IN IP4 127.0.0.1") l) → ⊥
    its_own true two is = no_key_line (codes "c=IN IP4 127.0.0.1") gateways_two (message_key _ is)
    its_own false two is = no_key_line l two (message_key l is)

    go : (b : Bool) → is_one_sided l ≡ b → Rest → AllByRecursion (λ line. ¬ IsMessageLine line) (map carried_line (cond (not b) (l ∷ filter (λ line. not (is_one_sided line)) ls) (filter (λ line. not (is_one_sided line)) ls)))
    go true is rest = rest
    go false is rest = (its_own (starts_with nat_eq l (codes "c=")) is, rest)

-- the gateway's message behind carried lines is the first
pub first_told : (ls : List (List ℕ)) (octets : List ℕ) → Tells (carried_lines ls ++ mikey_attribute octets ∷ []) octets
first_told ls octets = record { before = carried_lines ls; behind = []; parts = refl; none = none_carried ls }

-- a message of these lines, and what both sides send in each medium that it covers
record IsBundleOf (pairs : List Pair) (lines : List (List ℕ)) (b : Bundle) : Type 0 where
  message : PeersMessage pairs lines
  initial : accepted_with message.message message.pair message.tgks ≡ b.initial
  sent : PairsFrom message.message message.tgks 0 b.streams

bundle_is : (h : AtHand) (medium count : ℕ) (lines : List (List ℕ)) (value : Option (List ℕ)) (b : Bundle) → mikey_value lines ≡ value → bundle_in h medium count value ≡ Ok b
    → IsBundleOf h.pairs lines b
unfolding bundle_in
bundle_is h medium count lines value b is e =
    let p = after_ok_is (message_in medium 0 value) _ b e in
    let q = after_ok_is (of_psk medium (initial_of p.0.0 p.0.1 h.pairs h.noted h.now)) _ b p.2 in
    let r = after_ok_is (of_cs medium (streams_of q.0.csb q.0.random q.0.map q.0.policies q.0.tgks count)) _ b q.2 in
    let m = message_read medium 0 value p.0 p.1 in
    let i = initial_is h.pairs lines p.0.0 p.0.1 h.noted h.now q.0 (ap mikey_octets is ∙ m.0) m.1 m.2 (psk_is medium _ q.0 q.1) in
    let streams : streams_of i.0.message.csb (random_in i.0.message.payloads) i.0.message.map (policies_in i.0.message.payloads) i.0.tgks count ≡ Ok r.0 =
    ap (λ (a : Accepted). streams_of a.csb a.random a.map a.policies a.tgks count) i.1 ∙ cs_is medium _ r.0 r.1 in
    subst (IsBundleOf h.pairs lines) (ok_is _ b r.2) (record { message = i.0; initial = i.1; sent = streams_sent i.0.message i.0.tgks count r.0 streams })

-- ---- by a message of the session part

abbrev pub IsOfPart : {pairs : List Pair} {lines told : List (List ℕ)} → (i : PeersMessage pairs lines) → OwnResponse i.message i.pair told
    → ℕ → descriptions.Medium → descriptions.Medium → descriptions.Medium → Medium → Type 0
IsOfPart i r others o n t x = IsMediumIn i.message i.tgks i.message.map r.response.map n Opening others x

-- the sources that a response names are those of the answer's media
answers_said : (entries own : List CsEntry) (others : ℕ) (ms ns : List descriptions.Medium) → AreAnswered entries own others (ssrcs_answered Secure ms ns)
    → SaidFrom Secure (λ others o n. IsAnswered entries own others (own_ssrc n.lines)) others ms ns
answers_said entries own others [] ns are = tt
answers_said entries own others (o ∷ ms) [] are = tt
answers_said entries own others (o ∷ ms) (n ∷ ns) are = go (λ others are. answers_said entries own others ms ns are) (is_active Secure o) are
  where
    Rest : ℕ → Type 0
    Rest others = SaidFrom Secure (λ others o n. IsAnswered entries own others (own_ssrc n.lines)) others ms ns

    go : ((others : ℕ) → AreAnswered entries own others (ssrcs_answered Secure ms ns) → Rest others) → (b : Bool)
        → AreAnswered entries own others (cond b (own_ssrc n.lines ∷ ssrcs_answered Secure ms ns) (ssrcs_answered Secure ms ns))
        → (b ≡ true → IsAnswered entries own others (own_ssrc n.lines)) × Rest (cond b (others + 1) others)
    go rest true are = ((λ e. are.0), rest (others + 1) are.1)
    go rest false are = ((λ e. absurd (false≢true e)), rest others are)

-- ---- by messages of the media

-- the medium with these lines behind its own
abbrev with_lines : descriptions.Medium → List (List ℕ) → descriptions.Medium
with_lines m lines = record m { lines = m.lines ++ lines }

module _ (h : AtHand) where
  abbrev pub IsOfOwn : ℕ → descriptions.Medium → descriptions.Medium → descriptions.Medium → Medium → Type 0
  IsOfOwn others o n t x =
      (i : PeersMessage h.pairs o.lines) × (r : OwnResponse i.message i.pair t.lines) × IsMediumIn i.message i.tgks i.message.map r.response.map n Opening 0 x

  abbrev of_medium : ℕ → descriptions.Medium → Result Bundle Refusal
  of_medium k m = bundle_in h k 1 (mikey_value m.lines)

  abbrev by_message : ℕ → Accepted × (StreamKeys × StreamKeys) → descriptions.Medium → Result Keyed Refusal
  by_message k x n = Ok (keyed_by_message x n)

  -- what both sides send in the first medium of a bundle
  first_pair : (b : Bundle) (o : descriptions.Medium) (x : Accepted × (StreamKeys × StreamKeys)) (is : IsBundleOf h.pairs o.lines b) → own_streams (Some b) ≡ Some x
      → (accepted_with is.message.message is.message.pair is.message.tgks ≡ x.0) × IsPair is.message.message is.message.tgks 0 x.1
  first_pair b o x is e =
      let a = map_some (first_streams b.streams) (λ streams. (b.initial, streams)) x e in (
        is.initial ∙ ap (λ (x : Accepted × (StreamKeys × StreamKeys)). x.0) a.2,
        subst (IsPair is.message.message is.message.tgks 0) (ap (λ (x : Accepted × (StreamKeys × StreamKeys)). x.1) a.2) (first b.streams is.sent a.0 a.1),
      )
    where
      first : (ss : List (StreamKeys × StreamKeys)) → PairsFrom is.message.message is.message.tgks 0 ss → (s : StreamKeys × StreamKeys) → first_streams ss ≡ Some s → IsPair is.message.message is.message.tgks 0 s
      first [] are s e = absurd cc
      first (t ∷ ss) are s e = subst (IsPair is.message.message is.message.tgks 0) (some_is t s e) are.0

module _ (h : AtHand) (f : Option (List ℕ)) where
  -- the media of the text for the peer
  abbrev told_media : ℕ → ℕ → List descriptions.Medium → List descriptions.Medium → List (Option Keyed) → List descriptions.Medium
  told_media slot k ms ns ys =
      with_media_lines (map (with_address f) (carried_media (ports_from slot k Secure (actives_after Secure ms ns)) (map (λ (m : descriptions.Medium). m.profile) ms) ns)) (map lines_of ys)

  -- a medium and what the peer is told of it
  abbrev IsToldOf : ℕ → descriptions.Medium → descriptions.Medium → ℕ → Keyed → Type 0
  IsToldOf others o n port y = IsOfOwn h others o n (with_lines (with_address f (carried_medium port o.profile n)) y.lines) (medium_agreed Secure y o n)

  by_bundle : (others : ℕ) (o n : descriptions.Medium) (port : ℕ) (i : PeersMessage h.pairs o.lines) (p : StreamKeys × StreamKeys) → IsPair i.message i.tgks 0 p
      → IsToldOf others o n port (keyed_by_message (accepted_with i.message i.pair i.tgks, p) n)
  unfolding carried_medium
  by_bundle others o n port i p is =
      let ssrcs : List ℕ = own_ssrc n.lines ∷ [] in
      let octets : List ℕ = response_octets (accepted_with i.message i.pair i.tgks) ssrcs in
      let r = own_response i.message i.pair i.tgks (carried_lines n.lines ++ mikey_attribute octets ∷ []) ssrcs (first_told n.lines octets) in
      let answered = all_answered i.message.map r.0.response.map ssrcs r.1 in
      (i, r.0, as_responder i.message i.tgks r.0.response.map 0 (mikey_attribute octets ∷ []) o n p is answered.0)

  one_own : (others k : ℕ) (o n : descriptions.Medium) (port : ℕ) (active on : Bool) (b : Option Bundle) (y : Option Keyed) (x : Medium) → if_active active (of_medium h k o) ≡ Ok b
      → if_kept on (own_streams b) (λ x. by_message h k x n) ≡ Ok y → option_map (λ k. medium_agreed Secure k o n) y ≡ Some x
      → IsOfOwn h others o n (with_lines (with_address f (carried_medium port o.profile n)) (lines_of y)) x
  one_own others k o n port active on b None x e made g = absurd cc
  one_own others k o n port active on None (Some y) x e made g = let v = kept_some on None (λ x. by_message h k x n) y made in absurd (none_some v.0 v.1)
  one_own others k o n port active on (Some b) (Some y) x e made g =
      let v = kept_some on (own_streams (Some b)) (λ x. by_message h k x n) y made in
      let is = bundle_is h k 1 o.lines (mikey_value o.lines) b refl (active_some active (of_medium h k o) b e) in
      let p = first_pair h b o v.0 is v.1 in
      let same : keyed_by_message (accepted_with is.message.message is.message.pair is.message.tgks, v.0.1) n ≡ y =
      ap (λ (a : Accepted). keyed_by_message (a, v.0.1) n) p.0 ∙ ok_is (keyed_by_message v.0 n) y v.2 in
      subst (λ (x : Medium). IsOfOwn h others o n (with_lines (with_address f (carried_medium port o.profile n)) y.lines) x) (some_is (medium_agreed Secure y o n) x g)
      (subst (IsToldOf others o n port) same (by_bundle others o n port is.message v.0.1 p.1))

  media_own : (slot others k : ℕ) (ms ns : List descriptions.Medium) (bs : List (Option Bundle)) (ys : List (Option Keyed)) → each_active Secure (of_medium h) k ms ≡ Ok bs
      → each_kept (by_message h) k (actives_after Secure ms ns) (map own_streams bs) ns ≡ Ok ys → MediaFrom Secure (IsOfOwn h) others ms ns (told_media slot k ms ns ys) (media_agreed Secure ms ns ys)
  media_own slot others k [] ns bs ys e made = tt
  media_own slot others k (o ∷ ms) [] bs ys e made = tt
  media_own slot others k (o ∷ ms) (n ∷ ns) bs ys e made =
      let a = after_ok_is (if_active (is_active Secure o) (of_medium h k o)) _ bs e in
      let b = after_ok_is (each_active Secure (of_medium h) (k + 1) ms) _ bs a.2 in
      let same : a.0 ∷ b.0 ≡ bs = ok_is (a.0 ∷ b.0) bs b.2 in
      let on : Bool = is_active Secure o && is_active Plain n in
      let port : ℕ = cond on (rtp_port slot k Secure) 0 in
      let g : each_kept (by_message h) k (actives_after Secure (o ∷ ms) (n ∷ ns)) (own_streams a.0 ∷ map own_streams b.0) (n ∷ ns) ≡ Ok ys =
      ap (λ (bs : List (Option Bundle)). each_kept (by_message h) k (actives_after Secure (o ∷ ms) (n ∷ ns)) (map own_streams bs) (n ∷ ns)) same ∙ made in
      let c = after_ok_is (if_kept on (own_streams a.0) (λ x. by_message h k x n)) _ ys g in
      let d = after_ok_is (each_kept (by_message h) (k + 1) (actives_after Secure ms ns) (map own_streams b.0) ns) _ ys c.2 in
      subst (λ (ys : List (Option Keyed)). MediaFrom Secure (IsOfOwn h) others (o ∷ ms) (n ∷ ns) (told_media slot k (o ∷ ms) (n ∷ ns) ys) (media_agreed Secure (o ∷ ms) (n ∷ ns) ys)) (ok_is (c.0 ∷ d.0) ys d.2)
      ((λ x i. one_own others k o n port (is_active Secure o) on a.0 c.0 x a.1 c.1 i), media_own slot (cond (is_active Secure o) (others + 1) others) (k + 1) ms ns b.0 d.0 b.1 d.1)

-- ---- the offer and the answer

-- the description that the peer is told of the answer
abbrev told_to : ℕ → Sdp → Sdp → Answered → Sdp
told_to slot offer answer a =
    with_added (record { session = a.session; media = map lines_of a.media })
    (carried (ports_from slot 0 Secure (actives_after Secure offer.media answer.media)) (map (λ (m : descriptions.Medium). m.profile) offer.media) answer)

-- of each medium that is agreed, by what message
abbrev AreByMessage : AtHand → Sdp → Sdp → Sdp → List (Option Medium) → Type 0
AreByMessage h offer answer told xs =
    ((i : PeersMessage h.pairs offer.session) × (r : OwnResponse i.message i.pair told.session) × MediaFrom Secure (IsOfPart i r) 0 offer.media answer.media answer.media xs)
    ⊎ (AllByRecursion (λ line. ¬ IsMessageLine line) offer.session × MediaFrom Secure (IsOfOwn h) 0 offer.media answer.media told.media xs)

by_keying : (h : AtHand) (slot : ℕ) (offer answer : Sdp) (value : Option (List ℕ)) (keying : Keying) (noise : List ℕ) (a : Answered) → mikey_value offer.session ≡ value
    → keying_by_messages h offer value ≡ Ok keying
    → answered_by (record { side = Secure; description = offer; keying = keying }) noise answer (actives_after Secure offer.media answer.media) keying ≡ Ok a
    → AreByMessage h offer answer (told_to slot offer answer a) (media_agreed Secure offer.media answer.media a.media)
by_keying h slot offer answer (Some value) keying noise a is e f =
    let p = after_ok_is (bundle_in h 255 (active_count Secure offer.media) (Some value)) _ keying e in
    let b = bundle_is h 255 (active_count Secure offer.media) offer.session (Some value) p.0 is p.1 in
    let i : PeersMessage h.pairs offer.session = b.message in
    let ssrcs : List ℕ = ssrcs_answered Secure offer.media answer.media in
    let initial : Accepted = accepted_with i.message i.pair i.tgks in
    let line : List ℕ = mikey_attribute (response_octets initial ssrcs) in
    let g : answered_by (record { side = Secure; description = offer; keying = PeerMessage p.0 }) noise answer (actives_after Secure offer.media answer.media) (PeerMessage p.0) ≡ Ok a =
    ap (λ (k : Keying). answered_by (record { side = Secure; description = offer; keying = k }) noise answer (actives_after Secure offer.media answer.media) k) (ok_is (PeerMessage p.0) keying p.2) ∙ f in
    let q = after_ok_is (each_kept (λ k streams n. Ok (keyed_as_responder [] streams n)) 0 (actives_after Secure offer.media answer.media) (over_active Secure offer.media p.0.streams) answer.media) _ a g in
    let r = own_response i.message i.pair i.tgks (carried_lines answer.session ++ line ∷ []) ssrcs (first_told answer.session (response_octets initial ssrcs)) in
    let said = answers_said i.message.map r.0.response.map 0 offer.media answer.media (all_answered i.message.map r.0.response.map ssrcs r.1) in
    let agreed : MediaFrom Secure (IsOfPart i r.0) 0 offer.media answer.media answer.media (media_agreed Secure offer.media answer.media q.0) = (
    media_over Secure (IsPair i.message i.tgks) (λ p n. keyed_as_responder [] p n) (λ others o n. IsAnswered i.message.map r.0.response.map others (own_ssrc n.lines)) (IsOfPart i r.0)
    (λ others o n t p is said. as_responder i.message i.tgks r.0.response.map others [] o n p is said)
    0 0 offer.media answer.media p.0.streams q.0 b.sent said q.1
    ) in
    let same : record { session = line ∷ []; media = q.0 } ≡ a =
    ap (λ (initial : Accepted). record { session = mikey_attribute (response_octets initial ssrcs) ∷ []; media = q.0 }) b.initial ∙ ok_is _ a q.2 in
    subst (λ (a : Answered). AreByMessage h offer answer (told_to slot offer answer a) (media_agreed Secure offer.media answer.media a.media)) same (inl (i, r.0, agreed))
by_keying h slot offer answer None keying noise a is e f =
    let p = after_ok_is (each_active Secure (λ k m. bundle_in h k 1 (mikey_value m.lines)) 0 offer.media) _ keying e in
    let g : answered_by (record { side = Secure; description = offer; keying = PeerMessages p.0 }) noise answer (actives_after Secure offer.media answer.media) (PeerMessages p.0) ≡ Ok a =
    ap (λ (k : Keying). answered_by (record { side = Secure; description = offer; keying = k }) noise answer (actives_after Secure offer.media answer.media) k) (ok_is (PeerMessages p.0) keying p.2) ∙ f in
    let q = after_ok_is (each_kept (λ k x n. Ok (keyed_by_message x n)) 0 (actives_after Secure offer.media answer.media) (map own_streams p.0) answer.media) _ a g in
    subst (λ (a : Answered). AreByMessage h offer answer (told_to slot offer answer a) (media_agreed Secure offer.media answer.media a.media)) (ok_is _ a q.2)
    (inr (no_value offer.session is, media_own h _ slot 0 0 offer.media answer.media p.0 q.0 p.1 q.1))

abbrev pub IsByMessageOf : AtHand → Sdp → List ℕ → AgreedAnswer → Type 0
IsByMessageOf h offer text g = (s : Sdp) × (description_of text ≡ Ok s) × (told : Sdp) × (g.text ≡ spelling told) × AreByMessage h offer s told g.media

pub by_peers_message : (h : AtHand) (offered noise text : List ℕ) (slot : ℕ) (a : AgreedOffer) (g : AgreedAnswer) → agreed_offer h FromSecure offered ≡ Ok a → ¬ HasNoMessage a.offer.description
    → agreed_answer slot a.offer noise text ≡ Ok g → IsByMessageOf h a.offer.description text g
unfolding agreed_offer agreed_answer carried_text
by_peers_message h offered noise text slot a g made some e = go made some e
  where
    of_answer : (offer : Sdp) (keying : Keying) → keying_of h offer FromSecure ≡ Ok keying → ¬ HasNoMessage offer
        → agreed_answer slot (record { side = Secure; description = offer; keying = keying }) noise text ≡ Ok g → IsByMessageOf h offer text g
    of_answer offer keying k some e =
        let o : Offer = record { side = Secure; description = offer; keying = keying } in
        let p = after_ok_is (described Plain (Some (length offer.media)) text) _ g e in
        let active : List Bool = actives_after Secure offer.media p.0.media in
        let q = after_ok_is (answered_by o noise p.0 active keying) _ g p.2 in
        let by : keying_by_messages h offer (mikey_value offer.session) ≡ Ok keying = with_message (has_message offer) refl k in (
          p.0,
          described_is Plain (Some (length offer.media)) text p.0 p.1,
          told_to slot offer p.0 q.0,
          ap (λ (g : AgreedAnswer). g.text) (sym (ok_is (accepted_answer slot o p.0 active q.0) g q.2)),
          subst (λ (g : AgreedAnswer). AreByMessage h offer p.0 (told_to slot offer p.0 q.0) g.media) (ok_is (accepted_answer slot o p.0 active q.0) g q.2)
              (by_keying h slot offer p.0 (mikey_value offer.session) keying noise q.0 refl by q.1),
        )
      where
        with_message : (b : Bool) → has_message offer ≡ b → cond b (keying_by_messages h offer (mikey_value offer.session)) (after_ok (each_active Secure chosen_in 0 offer.media) (λ ls. Ok (PeerLines ls))) ≡ Ok keying
            → keying_by_messages h offer (mikey_value offer.session) ≡ Ok keying
        with_message true is k = k
        with_message false is k = absurd (some (has_none offer is))

    go : agreed_offer h FromSecure offered ≡ Ok a → ¬ HasNoMessage a.offer.description → agreed_answer slot a.offer noise text ≡ Ok g → IsByMessageOf h a.offer.description text g
    go made some e =
        let p = after_ok_is (described Secure h.media offered) _ a made in
        let q = after_ok_is (keying_of h p.0 FromSecure) _ a p.2 in
        let o : Offer = record { side = Secure; description = p.0; keying = q.0 } in
        let same : o ≡ a.offer = ap (λ (a : AgreedOffer). a.offer) (ok_is _ a q.2) in
        subst (λ (o : Offer). IsByMessageOf h o.description text g) same
        (of_answer p.0 q.0 q.1 (subst (λ (o : Offer). ¬ HasNoMessage o.description) (sym same) some) (subst (λ (o : Offer). agreed_answer slot o noise text ≡ Ok g) (sym same) e))
