-- What refuses an answer shows in its text, its message or the ring.
use Rattle.std.proofs.Common.{◌≡◌, ◌⊎◌, inl, inr, ℕ, suc, ◌+◌, ◌*◌, ◌≤◌, Bool, true, false, cond, not, ◌&&◌, eqb, ltb, ltb-true, List, [], ◌∷◌, ◌++◌, length, map, codes, Option, Some, None, Result, Ok, Err, refl, sym, ap, ◌∙◌, subst, arith, append_assoc, append-nil, length-append}
use Rattle.std.proofs.lemmas.Bool.{and_from, and_parts, eq-eqb, eqb-false, eqb-true, false≢true, not-false, not-true, or_parts}
use Rattle.std.proofs.lemmas.List.{length-map, map-append}
use Rattle.std.proofs.lemmas.List.Folds.{Any-from_list_any}
use Rattle.std.proofs.lemmas.List.Elements.{recursion_from_All}
use Rattle.std.proofs.lemmas.Slice.Eq.{bytes_eq-Decides}
use Rattle.std.specs.Prelude.{◌||◌}
use Rattle.std.specs.List.{AllByRecursion, Any, filter_map, find, list_any}
use Rattle.std.specs.Option.{is_none}
use Rattle.sg_agreement.proofs.KeyedSound.{sdes_is}
use Rattle.sg_agreement.proofs.MessagesSound.{psk_is}
use Rattle.sg_agreement.proofs.TextLines.{bind_is}
use Rattle.sg_agreement.specs.Answers.{Answered as Keyings, AgreedAnswer, agreed_answer, answered_by}
use Rattle.sg_agreement.specs.Attributes.{behind, crypto_values, first_of, mikey_octets, mikey_value}
use Rattle.sg_agreement.specs.Described.{described, is_other_count, of_text, unaddressed, with_addresses}
use Rattle.sg_agreement.specs.Generations.{generation_of, keys_from, owned, owner_at}
use Rattle.sg_agreement.specs.Keying.{Keying, PeerLines, OwnLines, PeerMessage, PeerMessages, OwnMessage, Offer}
use Rattle.sg_agreement.specs.LineAnswers.{keyed_by_own_lines, keyed_by_peer_line, lines_matched}
use Rattle.sg_agreement.specs.MessageAnswers.{keyed_as_initiator, keyed_as_responder, keyed_by_message, over_active, own_streams, streams_answered}
use Rattle.sg_agreement.specs.Messages.{message_in}
use Rattle.sg_agreement.specs.Sound.{IsSoundMedium}
use Rattle.sg_agreement.specs.Keyed.{Keyed}
use Rattle.sg_base.proofs.SameOctets.{same_octets_is}
use Rattle.sg_base.specs.SuiteNames.{suite_name}
use Rattle.sg_base.specs.declared.faults.MikeyFault.TheVariants.{DataType}
use Rattle.sg_base.specs.declared.faults.PskFault.{PskFault}
use Rattle.sg_base.specs.declared.faults.PskFault.TheVariants.{BadMac, Algorithm, OtherSession}
use Rattle.sg_base.specs.declared.faults.Refusal.TheVariants as causes
use Rattle.sg_base.specs.declared.faults.SdesFault.{SdesFault}
use Rattle.sg_base.specs.declared.faults.SdesFault.TheVariants.{NoLine, Tag, Suite}
use Rattle.sg_base.specs.declared.faults.SdpFault.{SdpFault}
use Rattle.sg_base.specs.declared.faults.SdpFault.TheVariants.{Address}
use Rattle.sg_csmap.specs.CryptoSessions.{streams_of}
use Rattle.sg_mikey.specs.Reading.{Place, message_of}
use Rattle.sg_outcome.specs.declared.outcomes.Outcome.TheVariants.{Live, Refused, Sdp}
use Rattle.sg_psk.specs.Envelope.{mac_of}
use Rattle.sg_psk.specs.Parts.{closing_in}
use Rattle.sg_psk.specs.Policy.{own_policy}
use Rattle.sg_psk.specs.Sending.{Sent, response_fits, response_of}
use Rattle.sg_sdes.specs.Answers.{matched, same_suite}
use Rattle.sg_sdes.specs.CryptoOf.{crypto_of}
use Rattle.sg_sdes.specs.Keys as lines
use Rattle.sg_sdp.specs.declared.medium.Medium as descriptions
use Rattle.sg_sdp.specs.declared.sdp.Sdp as sdp
use Rattle.sg_session.specs.Ring.{Installed, derived, first_clash_by, install, key_of, keys_clash, same_secret, with_key_by, with_keys_by}
use Rattle.sg_session.specs.Stages.{after_ok, stop_if}
use Rattle.sg_gateway.proofs.Common.{AgreedKey, Call, CallId, CryptoLine, CsEntry, IsRefusal, Master, Medium, Message, Opening, Owner, Refusal, Sealing, Side, World}
use Rattle.sg_gateway.proofs.Common.{active_count, actives_after, after_ok_is, any_cases, any_none, any_weaker, call_of}
use Rattle.sg_gateway.proofs.Common.{description_of, each_kept, if_kept, is_active, none_some, of_cs, of_message, of_psk, of_sdes, ok_is, or_refusal}
use Rattle.sg_gateway.proofs.Common.{Event, Turn, empty, other_side, same_octets, same_octets_true, some_is, step, stop_if_is, turn_of}
use Rattle.sg_gateway.proofs.Agreements.{Agreements, answer_media}
use Rattle.sg_gateway.proofs.Kept.{WasOffered}
use Rattle.sg_gateway.proofs.PeersMessages.{octets_carried}
use Rattle.sg_gateway.proofs.TurnByTurn.{kept_before}
use Rattle.sg_gateway.specs.CallSignals.{answered_to}
use Rattle.sg_gateway.specs.CryptoSessions.{Carries}
use Rattle.sg_gateway.specs.Generations.{Settled, keyed}
use Rattle.sg_gateway.specs.Runs.{turns}
use Rattle.sg_gateway.specs.Signals.{Answer, Answered, answer_to, answered as answers, in_old, offering_side, tells_answer}
use Rattle.sg_conduct.proofs.Acceptable.{octets_are}
use Rattle.sg_conduct.proofs.Brought.{keys_brought}
use Rattle.sg_conduct.proofs.FirstLines.{first_value}
use Rattle.sg_conduct.proofs.Firsts.{suite_is}
use Rattle.sg_conduct.proofs.Manual.{apart_is, secret}
use Rattle.sg_conduct.proofs.Offers.{active_takes}
use Rattle.sg_conduct.proofs.Opened.{OpenedBy, WereOpened, event_opened, was_offered, was_opened}
use Rattle.sg_conduct.proofs.Present.{takes_active}
use Rattle.sg_conduct.proofs.Serving.{Serves, offer_serves}
use Rattle.sg_conduct.specs.Brought.{AreBrought}
use Rattle.sg_conduct.specs.Causes.{ComeIntoUse, FitsOffer, HasResponseCode, HasTag, IsFull, IsKeyed, IsKeyedBy, IsNotTo, IsOfAlgorithm, IsOfBundle, IsOfNone, IsReused, IsReusedAt, IsToRespond, LacksAddress, LacksLine}
use Rattle.sg_conduct.specs.Causes.{NameLines, NamesLine, RefusedAnswerShowsCause, Shows, ShowsFault, ShowsNoLine, Stays}
use Rattle.sg_conduct.specs.Manual.{AreApart, IsApartInItself}
use Rattle.sg_conduct.specs.Offers.{Describes}
use Rattle.sg_conduct.specs.Present.{TakesPart}

-- ---- stages that refuse

pub after_ok_err : {X Y E : Type 0} (r : Result X E) (f : X → Result Y E) (c : E) → after_ok r f ≡ Err c → (r ≡ Err c) ⊎ ((x : X) × (r ≡ Ok x) × (f x ≡ Err c))
after_ok_err (Ok x) f c e = inr (x, refl, e)
after_ok_err (Err d) f c e = let same : d ≡ c = cc in inl (ap Err same)

pub stop_if_err : {X E : Type 0} (b : Bool) (c d : E) (r : Result X E) → stop_if b c r ≡ Err d → ((b ≡ true) × (c ≡ d)) ⊎ ((b ≡ false) × (r ≡ Err d))
stop_if_err true c d r e = inl (refl, cc)
stop_if_err false c d r e = inr (refl, e)

pub ok_err : {X E : Type 0} (x : X) (c : E) → (let r : Result X E = Ok x in r ≡ Err c) → ⊥
ok_err x c e = absurd cc

pub err_is : {X E : Type 0} (c d : E) → (let r : Result X E = Err c in r ≡ Err d) → c ≡ d
err_is c d e = cc

-- ---- the text

lacks_at : (side : Side) (n : ℕ) (ms : List descriptions.Medium) (k : ℕ) → unaddressed side n ms ≡ Some k → LacksAddress side n ms k
lacks_at side n [] k e = absurd cc
lacks_at side n (m ∷ ms) k e = go (lacks_at side (n + 1 + length m.lines) ms k) (is_active side m) refl m.address refl e
  where
    go : (unaddressed side (n + 1 + length m.lines) ms ≡ Some k → LacksAddress side (n + 1 + length m.lines) ms k) → (b : Bool) → is_active side m ≡ b → (a : Option (List ℕ)) → m.address ≡ a
        → cond (b && is_none a) (Some n) (unaddressed side (n + 1 + length m.lines) ms) ≡ Some k → LacksAddress side n (m ∷ ms) k
    go rest true is None at e = inl (active_takes side m is, at, sym (some_is n k e))
    go rest true is (Some x) at e = inr ((λ takes. (x, at)), rest e)
    go rest false is a at e = inr ((λ takes. absurd (false≢true (sym is ∙ takes_active side m takes))), rest e)

none_take : (side : Side) (ms : List descriptions.Medium) → list_any (is_active side) ms ≡ false → AllByRecursion (λ m. ¬ TakesPart side m) ms
none_take side [] e = tt
none_take side (m ∷ ms) e =
    let p = or_parts (is_active side m) (list_any (is_active side) ms) e in
    ((λ takes. false≢true (sym p.0 ∙ takes_active side m takes)), none_take side ms p.1)

all_addressed : (side : Side) (n : ℕ) (ms : List descriptions.Medium) → unaddressed side n ms ≡ None → AllByRecursion (λ m. TakesPart side m → (ip : List ℕ) × (m.address ≡ Some ip)) ms
all_addressed side n [] e = tt
all_addressed side n (m ∷ ms) e = go (all_addressed side (n + 1 + length m.lines) ms) (is_active side m) refl m.address refl e
  where
    Has : descriptions.Medium → Type 0
    Has m = TakesPart side m → (ip : List ℕ) × (m.address ≡ Some ip)

    go : (unaddressed side (n + 1 + length m.lines) ms ≡ None → AllByRecursion Has ms) → (b : Bool) → is_active side m ≡ b → (a : Option (List ℕ)) → m.address ≡ a
        → cond (b && is_none a) (Some n) (unaddressed side (n + 1 + length m.lines) ms) ≡ None → AllByRecursion Has (m ∷ ms)
    go rest true is None at e = absurd cc
    go rest true is (Some ip) at e = ((λ takes. (ip, at)), rest e)
    go rest false is a at e = ((λ takes. absurd (false≢true (sym is ∙ takes_active side m takes))), rest e)

describes : (side : Side) (text : List ℕ) (s : sdp.Sdp) → description_of text ≡ Ok s → not (list_any (is_active side) s.media) ≡ false → unaddressed side (length s.session + 1) s.media ≡ None → Describes side text s
describes side text s read some addressed = record {
  read = read;
  some = any_weaker (λ m. is_active side m ≡ true) (TakesPart side) (active_takes side) s.media (Any-from_list_any (is_active side) s.media (not-false _ some));
  addressed = all_addressed side (length s.session + 1) s.media addressed;
}

same_text : (s t : sdp.Sdp) (n : Option ℕ) → with_addresses s n ≡ Ok t → s ≡ t
same_text s t None e = cc
same_text s t (Some n) e = absurd cc

no_fault : (s t : sdp.Sdp) (n : Option ℕ) → with_addresses s n ≡ Ok t → n ≡ None
no_fault s t None e = refl
no_fault s t (Some n) e = absurd cc

read_text : (r : Result sdp.Sdp (ℕ × SdpFault)) (s : sdp.Sdp) → of_text r ≡ Ok s → r ≡ Ok s
read_text (Ok t) s e = let same : t ≡ s = cc in ap Ok same
read_text (Err fault) s e = absurd cc

-- why a text of this side, of so many media where a number is asked for, describes nothing
module _ (side : Side) (count : Option ℕ) (text : List ℕ) (Cause : Refusal → Type 0) (faulty : (line : ℕ) (fault : SdpFault) → ShowsFault side text line fault → Cause (causes.Sdp line fault))
    (idle : (s : sdp.Sdp) → description_of text ≡ Ok s → AllByRecursion (λ m. ¬ TakesPart side m) s.media → Cause causes.NoMedia)
    (miscounts : (s : sdp.Sdp) → Describes side text s → (n : ℕ) → count ≡ Some n → ¬ length s.media ≡ n → Cause causes.MediaCount) where
  text_shows : (r : Result sdp.Sdp (ℕ × SdpFault)) → description_of text ≡ r → (cause : Refusal) → of_text r ≡ Err cause → Cause cause
  text_shows (Ok s) is cause e = absurd (ok_err s cause e)
  text_shows (Err fault) is cause e = subst Cause (err_is (causes.Sdp fault.0 fault.1) cause e) (faulty fault.0 fault.1 (inl is))

  addresses_show : (s : sdp.Sdp) → description_of text ≡ Ok s → (n : Option ℕ) → unaddressed side (length s.session + 1) s.media ≡ n → (cause : Refusal) → with_addresses s n ≡ Err cause → Cause cause
  addresses_show s read None is cause e = absurd (ok_err s cause e)
  addresses_show s read (Some n) is cause e = subst Cause (err_is (causes.Sdp n Address) cause e) (faulty n Address (inr (s, read, refl, lacks_at side (length s.session + 1) s.media n is)))

  count_shows : (s : sdp.Sdp) → Describes side text s → (o : Option ℕ) → count ≡ o → is_other_count o (length s.media) ≡ true → Cause causes.MediaCount
  count_shows s read None is other = absurd (false≢true other)
  count_shows s read (Some n) is other = miscounts s read n is (eqb-false (length s.media) n (not-true (eqb (length s.media) n) other))

  pub text_refused : (cause : Refusal) → described side count text ≡ Err cause → Cause cause
  unfolding described
  text_refused cause e = elim (after_ok_err (of_text (description_of text)) _ cause e) [
    | inl fails ↦ text_shows (description_of text) refl cause fails
    | inr x ↦
        let s : sdp.Sdp = x.0 in
        let read = read_text (description_of text) s x.1 in
        elim (after_ok_err (with_addresses s (unaddressed side (length s.session + 1) s.media)) _ cause x.2) [
          | inl fails ↦ addresses_show s read (unaddressed side (length s.session + 1) s.media) refl cause fails
          | inr y ↦
              let t : sdp.Sdp = y.0 in
              let here : description_of text ≡ Ok t = read ∙ ap Ok (same_text s t (unaddressed side (length s.session + 1) s.media) y.1) in
              elim (stop_if_err (not (list_any (is_active side) t.media)) causes.NoMedia cause _ y.2) [
                | inl none ↦ subst Cause none.1 (idle t here (none_take side t.media (not-true (list_any (is_active side) t.media) none.0)))
                | inr some ↦ elim (stop_if_err (is_other_count count (length t.media)) causes.MediaCount cause _ some.1) [
                  | inl other ↦ subst Cause other.1 (count_shows t (describes side text t here some.0 (ap (λ s. unaddressed side (length s.session + 1) s.media) (sym (same_text s t _ y.1)) ∙ no_fault s t _ y.1)) count refl other.0)
                  | inr same ↦ absurd (ok_err t cause same.1)
                ]
              ]
        ]
  ]

pub text_describes : (side : Side) (count : Option ℕ) (text : List ℕ) (s : sdp.Sdp) → described side count text ≡ Ok s → Describes side text s
unfolding described
text_describes side count text s e =
    let a = after_ok_is (of_text (description_of text)) _ s e in
    let b = after_ok_is (with_addresses a.0 (unaddressed side (length a.0.session + 1) a.0.media)) _ s a.2 in
    let c = stop_if_is (not (list_any (is_active side) b.0.media)) causes.NoMedia _ s b.2 in
    let d = stop_if_is (is_other_count count (length b.0.media)) causes.MediaCount (Ok b.0) s c.1 in
    let same : a.0 ≡ b.0 = same_text a.0 b.0 _ b.1 in
    subst (Describes side text) (ok_is b.0 s d.1) (describes side text b.0 (read_text (description_of text) a.0 a.1 ∙ ap Ok same) c.0 (ap (λ s. unaddressed side (length s.session + 1) s.media) (sym same) ∙ no_fault a.0 b.0 _ b.1))

pub text_counts : (side : Side) (count : Option ℕ) (text : List ℕ) (s : sdp.Sdp) → described side count text ≡ Ok s → is_other_count count (length s.media) ≡ false
unfolding described
text_counts side count text s e =
    let a = after_ok_is (of_text (description_of text)) _ s e in
    let b = after_ok_is (with_addresses a.0 (unaddressed side (length a.0.session + 1) a.0.media)) _ s a.2 in
    let c = stop_if_is (not (list_any (is_active side) b.0.media)) causes.NoMedia _ s b.2 in
    let d = stop_if_is (is_other_count count (length b.0.media)) causes.MediaCount (Ok b.0) s c.1 in
    subst (λ (s : sdp.Sdp). is_other_count count (length s.media) ≡ false) (ok_is b.0 s d.1) d.0

description_shows : (ring : List Installed) (Brings : List Master → Type 0) (o : Offer) (text : List ℕ) (cause : Refusal) → described (other_side o.side) (Some (length o.description.media)) text ≡ Err cause → Shows ring Brings o text cause
description_shows ring Brings o text = text_refused (other_side o.side) (Some (length o.description.media)) text (Shows ring Brings o text) (λ line fault is. is) (λ s read none. (s, read, none))
    (λ s describes n is other. (s, describes, (λ same. other (same ∙ some_is (length o.description.media) n is))))

fits_offer : (o : Offer) (text : List ℕ) (s : sdp.Sdp) → described (other_side o.side) (Some (length o.description.media)) text ≡ Ok s → FitsOffer o text s
fits_offer o text s e = (
  text_describes (other_side o.side) (Some (length o.description.media)) text s e,
  eqb-true (length s.media) (length o.description.media) (not-false (eqb (length s.media) (length o.description.media)) (text_counts (other_side o.side) (Some (length o.description.media)) text s e)),
)

-- ---- each medium

kept_err : {X Y : Type 0} (b : Bool) (x : X) (f : X → Result Y Refusal) (c : Refusal) → if_kept b (Some x) f ≡ Err c → (b ≡ true) × (f x ≡ Err c)
kept_err false x f c e = absurd (ok_err _ c e)
kept_err true x f c e = elim (after_ok_err (f x) _ c e) [
  | inl fails ↦ (refl, fails)
  | inr y ↦ absurd (ok_err _ c y.2)
]

kept_ok : {X Y : Type 0} (b : Bool) (x : X) (f : X → Result Y Refusal) (y : Option Y) → if_kept b (Some x) f ≡ Ok y → b ≡ true → (z : Y) × (f x ≡ Ok z)
kept_ok false x f y e is = absurd (false≢true is)
kept_ok true x f y e is = let a = after_ok_is (f x) _ y e in (a.0, a.1)

none_kept : {X Y : Type 0} (b : Bool) (f : X → Result Y Refusal) (c : Refusal) → if_kept b None f ≡ Err c → ⊥
none_kept false f c e = ok_err _ c e
none_kept true f c e = ok_err _ c e

-- where no value is refused, none is
module _ {X Y : Type 0} (value : ℕ → X → descriptions.Medium → Result Y Refusal) (never : (k : ℕ) (x : X) (n : descriptions.Medium) (c : Refusal) → value k x n ≡ Err c → ⊥) where
  one_kept : (k : ℕ) (n : descriptions.Medium) (b : Bool) (x : Option X) (c : Refusal) → if_kept b x (λ x. value k x n) ≡ Err c → ⊥
  one_kept k n b None c e = none_kept b (λ x. value k x n) c e
  one_kept k n b (Some x) c e = never k x n c (kept_err b x (λ x. value k x n) c e).1

  all_kept : (k : ℕ) (active : List Bool) (xs : List (Option X)) (ns : List descriptions.Medium) (c : Refusal) → each_kept value k active xs ns ≡ Err c → ⊥
  all_kept k [] xs ns c e = ok_err _ c e
  all_kept k (b ∷ active) [] ns c e = ok_err _ c e
  all_kept k (b ∷ active) (x ∷ xs) [] c e = ok_err _ c e
  all_kept k (b ∷ active) (x ∷ xs) (n ∷ ns) c e = elim (after_ok_err (if_kept b x (λ x. value k x n)) _ c e) [
    | inl fails ↦ one_kept k n b x c fails
    | inr y ↦ elim (after_ok_err (each_kept value (k + 1) active xs ns) _ c y.2) [
      | inl later ↦ all_kept (k + 1) active xs ns c later
      | inr z ↦ ok_err _ c z.2
    ]
  ]

-- ---- crypto lines

fault_is : {A B : Type 0} (r : Result A SdesFault) (f : A → Result B SdesFault) (c : SdesFault) → lines.◌>>=◌ r f ≡ Err c → (r ≡ Err c) ⊎ ((x : A) × (r ≡ Ok x) × (f x ≡ Err c))
fault_is (Ok x) f c e = inr (x, refl, e)
fault_is (Err d) f c e = let same : d ≡ c = cc in inl (ap Err same)

none_with : (tag : ℕ) (offered : List CryptoLine) → find (λ l. eqb l.tag tag) offered ≡ None → AllByRecursion (λ (x : CryptoLine). ¬ x.tag ≡ tag) offered
none_with tag [] e = tt
none_with tag (l ∷ ls) e = go (none_with tag ls) (eqb l.tag tag) refl e
  where
    go : (find (λ l. eqb l.tag tag) ls ≡ None → AllByRecursion (λ (x : CryptoLine). ¬ x.tag ≡ tag) ls) → (b : Bool) → eqb l.tag tag ≡ b → cond b (Some l) (find (λ l. eqb l.tag tag) ls) ≡ None
        → AllByRecursion (λ (x : CryptoLine). ¬ x.tag ≡ tag) (l ∷ ls)
    go rest true is e = absurd cc
    go rest false is e = (eqb-false l.tag tag is, rest e)

first_with : (tag : ℕ) (offered : List CryptoLine) (x : CryptoLine) → find (λ l. eqb l.tag tag) offered ≡ Some x → HasTag offered tag x
first_with tag [] x e = absurd cc
first_with tag (l ∷ ls) x e = go (first_with tag ls x) (eqb l.tag tag) refl e
  where
    go : (find (λ l. eqb l.tag tag) ls ≡ Some x → HasTag ls tag x) → (b : Bool) → eqb l.tag tag ≡ b → cond b (Some l) (find (λ l. eqb l.tag tag) ls) ≡ Some x → HasTag (l ∷ ls) tag x
    go rest true is e = subst (HasTag (l ∷ ls) tag) (some_is l x e) ([], ls, refl, eqb-true l.tag tag is, tt)
    go rest false is e = let r = rest e in (l ∷ r.0, r.1, ap (λ (ls : List CryptoLine). l ∷ ls) r.2, r.3, (eqb-false l.tag tag is, r.4))

other_suite : (x : CryptoLine) (peer : CryptoLine) → same_suite x.suite peer.suite ≡ false → ¬ x.suite ≡ peer.suite
other_suite x peer other same = false≢true (sym other ∙ (bytes_eq-Decides (suite_name x.suite) (suite_name peer.suite)).1 (ap suite_name same))

suite_shows : (offered : List CryptoLine) (own peer : CryptoLine) (b : Bool) (c : SdesFault) → same_suite own.suite peer.suite ≡ b → find (λ l. eqb l.tag peer.tag) offered ≡ Some own
    → (let r : Result (CryptoLine × CryptoLine) SdesFault = cond b (Ok (own, peer)) (Err Suite) in r ≡ Err c) → IsOfNone offered peer c
suite_shows offered own peer true c is at e = absurd cc
suite_shows offered own peer false c is at e = inr (sym (err_is {X = CryptoLine × CryptoLine} Suite c e), (own, first_with peer.tag offered own at, other_suite own peer is))

tag_shows : (offered : List CryptoLine) (peer : CryptoLine) (o : Option CryptoLine) (c : SdesFault) → find (λ l. eqb l.tag peer.tag) offered ≡ o
    → lines.◌>>=◌ (lines.or_fault Tag o) (λ own. let r : Result (CryptoLine × CryptoLine) SdesFault = cond (same_suite own.suite peer.suite) (Ok (own, peer)) (Err Suite) in r) ≡ Err c → IsOfNone offered peer c
tag_shows offered peer None c at e = inl (sym (err_is {X = CryptoLine × CryptoLine} Tag c e), none_with peer.tag offered at)
tag_shows offered peer (Some own) c at e = suite_shows offered own peer (same_suite own.suite peer.suite) c refl at e

value_shows : (offered : List CryptoLine) (value : List ℕ) (c : SdesFault) → matched offered value ≡ Err c → (crypto_of value ≡ Err c) ⊎ ((l : CryptoLine) × (crypto_of value ≡ Ok l) × IsOfNone offered l c)
unfolding matched
value_shows offered value c e = elim (fault_is (crypto_of value) _ c e) [
  | inl fails ↦ inl fails
  | inr x ↦ inr (x.0, x.1, tag_shows offered x.0 (find (λ l. eqb l.tag x.0.tag) offered) c refl x.2)
]

line_shows : (offered : List CryptoLine) (ls : List (List ℕ)) (c : SdesFault) → lines_matched offered (first_of (crypto_values ls)) ≡ Err c → ShowsNoLine offered ls c
unfolding crypto_values
line_shows offered ls c e = elim (first_value ls (first_of (filter_map (behind (codes "a=crypto:")) ls)) refl) [
  | inl none ↦ inl (none.0, sym (err_is {X = CryptoLine × CryptoLine} NoLine c (ap (lines_matched offered) (sym none.1) ∙ e)))
  | inr x ↦ inr (x.0, x.1, value_shows offered x.0 c (ap (lines_matched offered) (sym x.2) ∙ e))
]

tag_named : (offered : List CryptoLine) (peer : CryptoLine) (o : Option CryptoLine) (p : CryptoLine × CryptoLine) → find (λ l. eqb l.tag peer.tag) offered ≡ o
    → lines.◌>>=◌ (lines.or_fault Tag o) (λ own. let r : Result (CryptoLine × CryptoLine) SdesFault = cond (same_suite own.suite peer.suite) (Ok (own, peer)) (Err Suite) in r) ≡ Ok p
    → (x : CryptoLine) × HasTag offered peer.tag x × (x.suite ≡ peer.suite)
tag_named offered peer None p at e = absurd cc
tag_named offered peer (Some own) p at e = (own, first_with peer.tag offered own at, go (same_suite own.suite peer.suite) refl e)
  where
    go : (b : Bool) → same_suite own.suite peer.suite ≡ b → (let r : Result (CryptoLine × CryptoLine) SdesFault = cond b (Ok (own, peer)) (Err Suite) in r ≡ Ok p) → own.suite ≡ peer.suite
    go true is e = suite_is own.suite peer.suite is
    go false is e = absurd cc

value_named : (offered : List CryptoLine) (value : List ℕ) (p : CryptoLine × CryptoLine) → matched offered value ≡ Ok p → (l x : CryptoLine) × (crypto_of value ≡ Ok l) × HasTag offered l.tag x × (x.suite ≡ l.suite)
unfolding matched
value_named offered value p e =
    let a = bind_is (crypto_of value) _ p e in
    let b = tag_named offered a.0 (find (λ l. eqb l.tag a.0.tag) offered) p refl a.2 in
    (a.0, b.0, a.1, b.1, b.2)

line_named : (offered : List CryptoLine) (ls : List (List ℕ)) (p : CryptoLine × CryptoLine) → lines_matched offered (first_of (crypto_values ls)) ≡ Ok p → NamesLine offered ls
unfolding crypto_values
line_named offered ls p e = elim (first_value ls (first_of (filter_map (behind (codes "a=crypto:")) ls)) refl) [
  | inl none ↦ absurd (no_line (ap (lines_matched offered) (sym none.1) ∙ e))
  | inr x ↦ (x.0, x.1, value_named offered x.0 p (ap (lines_matched offered) (sym x.2) ∙ e))
]
  where
    no_line : lines_matched offered None ≡ Ok p → ⊥
    no_line e = absurd cc

pub sdes_err : {X : Type 0} (k : ℕ) (r : Result X SdesFault) (c : Refusal) → of_sdes k r ≡ Err c → (fault : SdesFault) × (r ≡ Err fault) × (causes.Sdes k fault ≡ c)
sdes_err k (Ok x) c e = absurd (ok_err x c e)
sdes_err {X} k (Err fault) c e = (fault, refl, err_is {X = X} (causes.Sdes k fault) c e)

pub psk_err : {X : Type 0} (k : ℕ) (r : Result X PskFault) (c : Refusal) → of_psk k r ≡ Err c → (fault : PskFault) × (r ≡ Err fault) × (causes.Psk k fault ≡ c)
psk_err k (Ok x) c e = absurd (ok_err x c e)
psk_err {X} k (Err fault) c e = (fault, refl, err_is {X = X} (causes.Psk k fault) c e)

pub message_err : (k : ℕ) (r : Result Message Place) (c : Refusal) → of_message k r ≡ Err c → (place : Place) × (r ≡ Err place) × (causes.Mikey k place.offset place.fault ≡ c)
message_err k (Ok x) c e = absurd (ok_err x c e)
message_err k (Err place) c e = (place, refl, err_is {X = Message} (causes.Mikey k place.offset place.fault) c e)

pub message_ok : (k : ℕ) (r : Result Message Place) (m : Message) → of_message k r ≡ Ok m → r ≡ Ok m
message_ok k (Ok x) m e = let same : x ≡ m = cc in ap Ok same
message_ok k (Err place) m e = absurd cc

pub octets_err : {X : Type 0} (cause : Refusal) (o : Option X) (c : Refusal) → or_refusal cause o ≡ Err c → (o ≡ None) × (cause ≡ c)
octets_err {X} cause None c e = (refl, err_is {X = X} cause c e)
octets_err cause (Some x) c e = absurd (ok_err x c e)

pub octets_ok : {X : Type 0} (cause : Refusal) (o : Option X) (x : X) → or_refusal cause o ≡ Ok x → o ≡ Some x
octets_ok cause None x e = absurd cc
octets_ok cause (Some y) x e = let same : y ≡ x = cc in ap Some same

-- ---- the media's lines

abbrev Lacks : Side → ℕ → List descriptions.Medium → List (Option (List CryptoLine)) → List descriptions.Medium → Refusal → Type 0
Lacks side k ms ls ns c = (medium : ℕ) × (fault : SdesFault) × (causes.Sdes medium fault ≡ c) × LacksLine side k ms ls ns medium fault

module _ (side : Side) where
  this_lacks : (k : ℕ) (m : descriptions.Medium) (offered : List CryptoLine) (n : descriptions.Medium) (c : Refusal) → if_kept (is_active side m && is_active (other_side side) n) (Some offered) (λ x. keyed_by_own_lines k x n) ≡ Err c
      → (fault : SdesFault) × (causes.Sdes k fault ≡ c) × Stays side m n × ShowsNoLine offered n.lines fault
  this_lacks k m offered n c e =
      let b = kept_err (is_active side m && is_active (other_side side) n) offered (λ x. keyed_by_own_lines k x n) c e in
      let p = and_parts (is_active side m) (is_active (other_side side) n) b.0 in
      elim (after_ok_err (of_sdes k (lines_matched offered (first_of (crypto_values n.lines)))) _ c b.1) [
        | inl fails ↦
            let f = sdes_err k (lines_matched offered (first_of (crypto_values n.lines))) c fails in
            (f.0, f.2, (active_takes side m p.0, active_takes (other_side side) n p.1), line_shows offered n.lines f.0 f.1)
        | inr x ↦ absurd (ok_err _ c x.2)
      ]

  this_names : (k : ℕ) (m : descriptions.Medium) (offered : List CryptoLine) (n : descriptions.Medium) (y : Option Keyed) → if_kept (is_active side m && is_active (other_side side) n) (Some offered) (λ x. keyed_by_own_lines k x n) ≡ Ok y
      → Stays side m n → NamesLine offered n.lines
  this_names k m offered n y e stays =
      let b = kept_ok (is_active side m && is_active (other_side side) n) offered (λ x. keyed_by_own_lines k x n) y e (and_from _ _ (takes_active side m stays.0) (takes_active (other_side side) n stays.1)) in
      let a = after_ok_is (of_sdes k (lines_matched offered (first_of (crypto_values n.lines)))) _ b.0 b.1 in
      line_named offered n.lines a.0 (sdes_is k (lines_matched offered (first_of (crypto_values n.lines))) a.0 a.1)

  lacks_line : (k : ℕ) (ms : List descriptions.Medium) (ls : List (Option (List CryptoLine))) (ns : List descriptions.Medium) (c : Refusal) → each_kept keyed_by_own_lines k (actives_after side ms ns) ls ns ≡ Err c → Lacks side k ms ls ns c
  lacks_line k [] ls ns c e = absurd (ok_err _ c e)
  lacks_line k (m ∷ ms) ls [] c e = absurd (ok_err _ c e)
  lacks_line k (m ∷ ms) [] (n ∷ ns) c e = absurd (ok_err _ c e)
  lacks_line k (m ∷ ms) (None ∷ ls) (n ∷ ns) c e =
      elim (after_ok_err (if_kept (is_active side m && is_active (other_side side) n) None (λ x. keyed_by_own_lines k x n)) _ c e) [
        | inl fails ↦ absurd (none_kept _ (λ x. keyed_by_own_lines k x n) c fails)
        | inr y ↦ elim (after_ok_err (each_kept keyed_by_own_lines (k + 1) (actives_after side ms ns) ls ns) _ c y.2) [
          | inl later ↦ lacks_line (k + 1) ms ls ns c later
          | inr z ↦ absurd (ok_err _ c z.2)
        ]
      ]
  lacks_line k (m ∷ ms) (Some offered ∷ ls) (n ∷ ns) c e =
      elim (after_ok_err (if_kept (is_active side m && is_active (other_side side) n) (Some offered) (λ x. keyed_by_own_lines k x n)) _ c e) [
        | inl fails ↦ let t = this_lacks k m offered n c fails in (k, t.0, t.1, inl (t.2, refl, t.3))
        | inr y ↦ elim (after_ok_err (each_kept keyed_by_own_lines (k + 1) (actives_after side ms ns) ls ns) _ c y.2) [
          | inl later ↦ let r = lacks_line (k + 1) ms ls ns c later in (r.0, r.1, r.2, inr (this_names k m offered n y.0 y.1, r.3))
          | inr z ↦ absurd (ok_err _ c z.2)
        ]
      ]

  name_lines : (k : ℕ) (ms : List descriptions.Medium) (ls : List (Option (List CryptoLine))) (ns : List descriptions.Medium) (ys : List (Option Keyed)) → each_kept keyed_by_own_lines k (actives_after side ms ns) ls ns ≡ Ok ys → NameLines side ms ls ns
  name_lines k [] ls ns ys e = tt
  name_lines k (m ∷ ms) [] ns ys e = tt
  name_lines k (m ∷ ms) (None ∷ ls) [] ys e = tt
  name_lines k (m ∷ ms) (Some offered ∷ ls) [] ys e = tt
  name_lines k (m ∷ ms) (x ∷ ls) (n ∷ ns) ys e =
      let a = after_ok_is (if_kept (is_active side m && is_active (other_side side) n) x (λ x. keyed_by_own_lines k x n)) _ ys e in
      let b = after_ok_is (each_kept keyed_by_own_lines (k + 1) (actives_after side ms ns) ls ns) _ ys a.2 in
      go x a.0 a.1 (name_lines (k + 1) ms ls ns b.0 b.1)
    where
      go : (x : Option (List CryptoLine)) (y : Option Keyed) → if_kept (is_active side m && is_active (other_side side) n) x (λ x. keyed_by_own_lines k x n) ≡ Ok y → NameLines side ms ls ns → NameLines side (m ∷ ms) (x ∷ ls) (n ∷ ns)
      go None y e rest = rest
      go (Some offered) y e rest = (this_names k m offered n y e, rest)

-- ---- a response

three : (a b c : Bool) (r : List CsEntry) (d : PskFault) → cond (not a) (Err Algorithm) (cond (not b) (Err BadMac) (cond (not c) (Err OtherSession) (Ok r))) ≡ Err d
    → ((d ≡ Algorithm) × (a ≡ false)) ⊎ (((d ≡ BadMac) × (a ≡ true) × (b ≡ false)) ⊎ ((d ≡ OtherSession) × (a ≡ true) × (b ≡ true) × (c ≡ false)))
three false b c r d e = inl (sym (err_is {X = List CsEntry} Algorithm d e), refl)
three true false c r d e = inr (inl (sym (err_is {X = List CsEntry} BadMac d e), refl, refl))
three true true false r d e = inr (inr (sym (err_is {X = List CsEntry} OtherSession d e), refl, refl, refl))
three true true true r d e = absurd (ok_err r d e)

all_three : (a b c : Bool) (r s : List CsEntry) → (let x : Result (List CsEntry) PskFault = cond (not a) (Err Algorithm) (cond (not b) (Err BadMac) (cond (not c) (Err OtherSession) (Ok r))) in x ≡ Ok s) → (a ≡ true) × (b ≡ true) × (c ≡ true)
all_three false b c r s e = absurd cc
all_three true false c r s e = absurd cc
all_three true true false r s e = absurd cc
all_three true true true r s e = (refl, refl, refl)

module _ (octets : List ℕ) (m : Message) (sent : Sent) where
  coded : response_fits octets m sent ≡ true → HasResponseCode sent octets m
  unfolding response_fits mac_of
  coded e = same_octets_is (closing_in m.payloads).tag _ e

  not_coded : response_fits octets m sent ≡ false → ¬ HasResponseCode sent octets m
  unfolding response_fits mac_of
  not_coded e same = false≢true (sym e ∙ same_octets_true (closing_in m.payloads).tag _ same)

  response_shows : (d : PskFault) → response_of octets m sent ≡ Err d → IsNotTo sent octets m d
  unfolding response_of
  response_shows d e = elim (three (eqb (closing_in m.payloads).mac 1) (response_fits octets m sent) (eqb m.csb sent.csb && eqb (length m.map) (length sent.map)) m.map d e) [
    | inl a ↦ inl (a.0, eqb-false (closing_in m.payloads).mac 1 a.1)
    | inr more ↦ elim more [
      | inl b ↦ inr (inl (b.0, eqb-true (closing_in m.payloads).mac 1 b.1, not_coded b.2))
      | inr c ↦ inr (inr (
        c.0,
        eqb-true (closing_in m.payloads).mac 1 c.1,
        coded c.2,
        (λ same. false≢true (sym c.3 ∙ and_from (eqb m.csb sent.csb) _ (eq-eqb m.csb sent.csb same.0) (eq-eqb (length m.map) (length sent.map) same.1))),
      ))
    ]
  ]

  response_is : (entries : List CsEntry) → response_of octets m sent ≡ Ok entries → IsOfAlgorithm m × HasResponseCode sent octets m × IsOfBundle sent m
  unfolding response_of
  response_is entries e =
      let a = all_three (eqb (closing_in m.payloads).mac 1) (response_fits octets m sent) (eqb m.csb sent.csb && eqb (length m.map) (length sent.map)) m.map entries e in
      let p = and_parts (eqb m.csb sent.csb) (eqb (length m.map) (length sent.map)) a.2 in
      (eqb-true (closing_in m.payloads).mac 1 a.0, coded a.1, (eqb-true m.csb sent.csb p.0, eqb-true (length m.map) (length sent.map) p.1))

record IsMessageIn (value : Option (List ℕ)) (octets : List ℕ) (m : Message) : Type 0 where
  octets_are : mikey_octets value ≡ Some octets
  read : message_of octets ≡ Ok m
  kind : m.kind ≡ 1

message_in_is : (value : Option (List ℕ)) (r : List ℕ × Message) → message_in 255 1 value ≡ Ok r → IsMessageIn value r.0 r.1
unfolding message_in
message_in_is value r e =
    let a = after_ok_is (or_refusal (causes.KeyMgmt 255) (mikey_octets value)) _ r e in
    let b = after_ok_is (of_message 255 (message_of a.0)) _ r a.2 in
    let c = stop_if_is (not (eqb b.0.kind 1)) (causes.Mikey 255 1 DataType) _ r b.2 in
    subst (λ (r : List ℕ × Message). IsMessageIn value r.0 r.1) (ok_is (a.0, b.0) r c.1)
    (record { octets_are = octets_ok (causes.KeyMgmt 255) (mikey_octets value) a.0 a.1; read = message_ok 255 (message_of a.0) b.0 b.1; kind = eqb-true b.0.kind 1 (not-false (eqb b.0.kind 1) c.0) })

-- ---- how the answer is keyed

module _ (ring : List Installed) (Brings : List Master → Type 0) (o : Offer) (serves : Serves o) (text : List ℕ) (s : sdp.Sdp) (fits : FitsOffer o text s) where
  abbrev IsCause : Refusal → Type 0
  IsCause cause = Shows ring Brings o text cause

  module _ (sent : Sent) (keying : o.keying ≡ OwnMessage sent) where
    responds : IsToRespond o text 255
    responds = record { answer = s; fits = fits; sent = sent; keying = keying; session = refl }

    no_message : (c : Refusal) → message_in 255 1 (mikey_value s.session) ≡ Err c → IsCause c
    unfolding message_in responds
    no_message c e = elim (after_ok_err (or_refusal (causes.KeyMgmt 255) (mikey_octets (mikey_value s.session))) _ c e) [
      | inl fails ↦
          let f = octets_err (causes.KeyMgmt 255) (mikey_octets (mikey_value s.session)) c fails in
          subst IsCause f.1 (responds, (λ octets carries. none_some octets (sym f.0 ∙ octets_are s.session octets carries)))
      | inr x ↦
          let carried : Carries s.session x.0 = octets_carried s.session x.0 (octets_ok (causes.KeyMgmt 255) (mikey_octets (mikey_value s.session)) x.0 x.1) in
          elim (after_ok_err (of_message 255 (message_of x.0)) _ c x.2) [
            | inl fails ↦ let f = message_err 255 (message_of x.0) c fails in subst IsCause f.2 (responds, x.0, carried, inl (f.0, f.1, refl, refl))
            | inr y ↦ elim (stop_if_err (not (eqb y.0.kind 1)) (causes.Mikey 255 1 DataType) c _ y.2) [
              | inl other ↦ subst IsCause other.1 (responds, x.0, carried, inr (y.0, message_ok 255 (message_of x.0) y.0 y.1, eqb-false y.0.kind 1 (not-true (eqb y.0.kind 1) other.0), refl, refl))
              | inr same ↦ absurd (ok_err _ c same.1)
            ]
          ]
    ]

    abbrev count : ℕ
    count = active_count o.side o.description.media

    streams_show : (c : Refusal) → streams_answered sent count (mikey_value s.session) ≡ Err c → IsCause c
    unfolding streams_answered responds
    streams_show c e = elim (after_ok_err (message_in 255 1 (mikey_value s.session)) _ c e) [
      | inl fails ↦ no_message c fails
      | inr x ↦
          let is = message_in_is (mikey_value s.session) x.0 x.1 in
          elim (after_ok_err (of_psk 255 (response_of x.0.0 x.0.1 sent)) _ c x.2) [
            | inl fails ↦
                let f = psk_err 255 (response_of x.0.0 x.0.1 sent) c fails in
                subst IsCause f.2 (responds, x.0.0, x.0.1, octets_carried s.session x.0.0 is.octets_are, is.read, is.kind, response_shows x.0.0 x.0.1 sent f.0 f.1)
            | inr y ↦ elim (after_ok_err (of_cs 255 (streams_of sent.csb sent.random sent.map (own_policy ∷ []) sent.tgks count)) _ c y.2) [
              | inl fails ↦ let is = serves sent keying in absurd (ok_err is.0 c (sym (ap (of_cs 255) is.1) ∙ fails))
              | inr z ↦ absurd (ok_err _ c z.2)
            ]
          ]
    ]

  abbrev active : List Bool
  active = actives_after o.side o.description.media s.media

  keying_shows : (noise : List ℕ) (k : Keying) → o.keying ≡ k → (c : Refusal) → answered_by o noise s active k ≡ Err c → IsCause c
  keying_shows noise (PeerLines ls) keying c e = elim (after_ok_err (each_kept (keyed_by_peer_line noise) 0 active ls s.media) _ c e) [
    | inl fails ↦ absurd (all_kept (keyed_by_peer_line noise) (λ k x n c e. ok_err _ c e) 0 active ls s.media c fails)
    | inr x ↦ absurd (ok_err _ c x.2)
  ]
  keying_shows noise (OwnLines ls) keying c e = elim (after_ok_err (each_kept keyed_by_own_lines 0 active ls s.media) _ c e) [
    | inl fails ↦ let l = lacks_line o.side 0 o.description.media ls s.media c fails in subst IsCause l.2 (s, fits, (ls, keying, l.3))
    | inr x ↦ absurd (ok_err _ c x.2)
  ]
  keying_shows noise (PeerMessage b) keying c e =
      elim (after_ok_err (each_kept (λ k streams n. Ok (keyed_as_responder [] streams n)) 0 active (over_active o.side o.description.media b.streams) s.media) _ c e) [
        | inl fails ↦ absurd (all_kept (λ k streams n. Ok (keyed_as_responder [] streams n)) (λ k x n c e. ok_err _ c e) 0 active (over_active o.side o.description.media b.streams) s.media c fails)
        | inr x ↦ absurd (ok_err _ c x.2)
      ]
  keying_shows noise (PeerMessages bs) keying c e =
      elim (after_ok_err (each_kept (λ k x n. Ok (keyed_by_message x n)) 0 active (map own_streams bs) s.media) _ c e) [
        | inl fails ↦ absurd (all_kept (λ k x n. Ok (keyed_by_message x n)) (λ k x n c e. ok_err _ c e) 0 active (map own_streams bs) s.media c fails)
        | inr x ↦ absurd (ok_err _ c x.2)
      ]
  keying_shows noise (OwnMessage sent) keying c e = elim (after_ok_err (streams_answered sent (active_count o.side o.description.media) (mikey_value s.session)) _ c e) [
    | inl fails ↦ streams_show sent keying c fails
    | inr x ↦ elim (after_ok_err (each_kept (λ k streams n. Ok (keyed_as_initiator streams)) 0 active (over_active o.side o.description.media x.0) s.media) _ c x.2) [
      | inl fails ↦ absurd (all_kept (λ k streams n. Ok (keyed_as_initiator streams)) (λ k x n c e. ok_err _ c e) 0 active (over_active o.side o.description.media x.0) s.media c fails)
      | inr y ↦ absurd (ok_err _ c y.2)
    ]
  ]

keying_is : (o : Offer) (s : sdp.Sdp) (noise : List ℕ) (k : Keying) (a : Keyings) → answered_by o noise s (actives_after o.side o.description.media s.media) k ≡ Ok a → IsKeyedBy o s k
unfolding streams_answered
keying_is o s noise (PeerLines ls) a e = tt
keying_is o s noise (OwnLines ls) a e = let x = after_ok_is (each_kept keyed_by_own_lines 0 (actives_after o.side o.description.media s.media) ls s.media) _ a e in name_lines o.side 0 o.description.media ls s.media x.0 x.1
keying_is o s noise (PeerMessage b) a e = tt
keying_is o s noise (PeerMessages bs) a e = tt
keying_is o s noise (OwnMessage sent) a e =
    let x = after_ok_is (streams_answered sent (active_count o.side o.description.media) (mikey_value s.session)) _ a e in
    let y = after_ok_is (message_in 255 1 (mikey_value s.session)) _ x.0 x.1 in
    let is = message_in_is (mikey_value s.session) y.0 y.1 in
    let z = after_ok_is (of_psk 255 (response_of y.0.0 y.0.1 sent)) _ x.0 y.2 in
    let r = response_is y.0.0 y.0.1 sent z.0 (psk_is 255 (response_of y.0.0 y.0.1 sent) z.0 z.1) in
    (y.0.0, y.0.1, octets_carried s.session y.0.0 is.octets_are, is.read, is.kind, r.0, r.1, r.2)

answer_shows : (ring : List Installed) (Brings : List Master → Type 0) (slot : ℕ) (o : Offer) → Serves o → (noise text : List ℕ) (c : Refusal) → agreed_answer slot o noise text ≡ Err c → Shows ring Brings o text c
unfolding agreed_answer
answer_shows ring Brings slot o serves noise text c e = elim (after_ok_err (described (other_side o.side) (Some (length o.description.media)) text) _ c e) [
  | inl fails ↦ description_shows ring Brings o text c fails
  | inr x ↦ elim (after_ok_err (answered_by o noise x.0 (actives_after o.side o.description.media x.0.media) o.keying) _ c x.2) [
    | inl fails ↦ keying_shows ring Brings o serves text x.0 (fits_offer o text x.0 x.1) noise o.keying refl c fails
    | inr y ↦ absurd (ok_err _ c y.2)
  ]
]

answer_keyed : (slot : ℕ) (o : Offer) (noise text : List ℕ) (g : AgreedAnswer) → agreed_answer slot o noise text ≡ Ok g → IsKeyed o text
unfolding agreed_answer
answer_keyed slot o noise text g e =
    let x = after_ok_is (described (other_side o.side) (Some (length o.description.media)) text) _ g e in
    let y = after_ok_is (answered_by o noise x.0 (actives_after o.side o.description.media x.0.media) o.keying) _ g x.2 in
    (x.0, fits_offer o text x.0 x.1, keying_is o x.0 noise o.keying y.0 y.1)

-- ---- the ring

secret_is : (x y : List ℕ) → same_secret x y ≡ false → x ≡ y → x ≡ []
secret_is [] y e same = refl
secret_is (x ∷ xs) y e same = absurd (false≢true (sym e ∙ same_octets_true (x ∷ xs) y same))

apart_of : (a b : Master) → keys_clash (derived a) (derived b) ≡ false → AreApart a b
apart_of a b e =
    let p = or_parts (same_octets a.key b.key) _ e in
    let q = or_parts (same_secret (derived a).rtp (derived b).rtp || same_secret (derived a).rtp (derived b).rtcp) _ p.1 in
    let r = or_parts (same_secret (derived a).rtp (derived b).rtp) _ q.0 in
    let s = or_parts (same_secret (derived a).rtcp (derived b).rtp) _ q.1 in
    record {
      masters = λ same. false≢true (sym p.0 ∙ same_octets_true a.key b.key same);
      ciphers = ((secret_is _ _ r.0, (secret_is _ _ r.1, tt)), ((secret_is _ _ s.0, (secret_is _ _ s.1, tt)), tt));
    }

abbrev Clashes : ℕ → List Installed → Master → Option ℕ → Type 0
Clashes n ring m None = AllByRecursion (λ r. AreApart r.master m) ring
Clashes n ring m (Some x) = (before behind : List Installed) × (r : Installed) × (ring ≡ before ++ r ∷ behind) × (x ≡ n + length before) × AllByRecursion (λ r. AreApart r.master m) before × (¬ AreApart r.master m)

clashes : (n : ℕ) (ring : List Installed) (m : Master) (o : Option ℕ) → first_clash_by key_of n ring (derived m) ≡ o → Clashes n ring m o
clashes n [] m None e = tt
clashes n [] m (Some x) e = absurd cc
clashes n (r ∷ rs) m o e = go (clashes (n + 1) rs m) (keys_clash (derived r.master) (derived m)) refl o e
  where
    go : ((o : Option ℕ) → first_clash_by key_of (n + 1) rs (derived m) ≡ o → Clashes (n + 1) rs m o) → (b : Bool) → keys_clash (derived r.master) (derived m) ≡ b
        → (o : Option ℕ) → cond b (Some n) (first_clash_by key_of (n + 1) rs (derived m)) ≡ o → Clashes n (r ∷ rs) m o
    go rest true is None e = absurd cc
    go rest true is (Some x) e = ([], rs, r, refl, (let same = some_is n x e in omega (arith, same)), tt, (λ apart. false≢true (sym (apart_is r.master m apart) ∙ is)))
    go rest false is None e = (apart_of r.master m is, rest None e)
    go rest false is (Some x) e = let c = rest (Some x) e in (r ∷ c.0, c.1, c.2, ap (λ (l : List Installed). r ∷ l) c.3, (let at = c.4 in omega (arith, at)), (apart_of r.master m is, c.5), c.6)

one_reused : (ring : List Installed) (k : Installed) (o : Option ℕ) → Clashes 0 ring k.master o → (c : Refusal) → with_key_by key_of ring k o ≡ Err c
    → (number : ℕ) × (causes.KeyReused number ≡ c) × IsReusedAt ring k.master number
one_reused ring k (Some n) at c e = (n, err_is {X = List Installed} (causes.KeyReused n) c e, inl (at.0, at.1, at.2, at.3, (let place = at.4 in omega (arith, place)), at.5, at.6))
one_reused ring k None at c e = elim (stop_if_err (same_secret (derived k.master).rtp (derived k.master).rtcp) (causes.KeyReused (length ring)) c _ e) [
  | inl own ↦ (length ring, own.1, inr (refl, at, (λ apart. false≢true (sym (secret _ _ apart) ∙ own.0))))
  | inr fails ↦ absurd (ok_err _ c fails.1)
]

record IsOneMore (ring : List Installed) (k : Installed) (more : List Installed) : Type 0 where
  is : ring ++ k ∷ [] ≡ more
  apart : AllByRecursion (λ r. AreApart r.master k.master) ring
  own : IsApartInItself k.master

one_more : (ring : List Installed) (k : Installed) (o : Option ℕ) → Clashes 0 ring k.master o → (more : List Installed) → with_key_by key_of ring k o ≡ Ok more → IsOneMore ring k more
one_more ring k (Some n) at more e = absurd cc
one_more ring k None at more e =
    let a = stop_if_is (same_secret (derived k.master).rtp (derived k.master).rtcp) (causes.KeyReused (length ring)) _ more e in
    record { is = ok_is (ring ++ k ∷ []) more a.1; apart = at; own = secret_is _ _ a.0 }

record StopsAt (ring ks : List Installed) (c : Refusal) : Type 0 where
  new : List Installed
  key : Installed
  later : List Installed
  parts : ks ≡ new ++ key ∷ later
  come : ComeIntoUse ring new
  number : ℕ
  is : causes.KeyReused number ≡ c
  at : IsReusedAt (ring ++ new) key.master number

stops_at : (ring ks : List Installed) (c : Refusal) → with_keys_by key_of ring ks ≡ Err c → StopsAt ring ks c
stops_at ring [] c e = absurd (ok_err ring c e)
stops_at ring (k ∷ ks) c e =
    let found = clashes 0 ring k.master (first_clash_by key_of 0 ring (key_of k)) refl in
    elim (after_ok_err (with_key_by key_of ring k (first_clash_by key_of 0 ring (key_of k))) _ c e) [
      | inl fails ↦
          let r = one_reused ring k (first_clash_by key_of 0 ring (key_of k)) found c fails in
          record { new = []; key = k; later = ks; parts = refl; come = tt; number = r.0; is = r.1; at = subst (λ keys. IsReusedAt keys k.master r.0) (sym (append-nil ring)) r.2 }
      | inr x ↦
          let m = one_more ring k (first_clash_by key_of 0 ring (key_of k)) found x.0 x.1 in
          let rest = stops_at (ring ++ k ∷ []) ks c (ap (λ ring. with_keys_by key_of ring ks) m.is ∙ x.2) in
          record {
            new = k ∷ rest.new;
            key = rest.key;
            later = rest.later;
            parts = ap (λ (l : List Installed). k ∷ l) rest.parts;
            come = (m.apart, m.own, rest.come);
            number = rest.number;
            is = rest.is;
            at = subst (λ keys. IsReusedAt keys rest.key.master rest.number) (append_assoc ring (k ∷ []) rest.new) rest.at;
          }
    ]

all_in : (ring ks more : List Installed) → with_keys_by key_of ring ks ≡ Ok more → ComeIntoUse ring ks × (ring ++ ks ≡ more)
all_in ring [] more e = (tt, append-nil ring ∙ ok_is ring more e)
all_in ring (k ∷ ks) more e =
    let found = clashes 0 ring k.master (first_clash_by key_of 0 ring (key_of k)) refl in
    let x = after_ok_is (with_key_by key_of ring k (first_clash_by key_of 0 ring (key_of k))) _ more e in
    let m = one_more ring k (first_clash_by key_of 0 ring (key_of k)) found x.0 x.1 in
    let rest = all_in (ring ++ k ∷ []) ks more (ap (λ ring. with_keys_by key_of ring ks) m.is ∙ x.2) in
    ((m.apart, m.own, rest.0), sym (append_assoc ring (k ∷ []) ks) ∙ rest.1)

-- ---- how many keys

long_owned : (owner : Owner) (ks : List AgreedKey) → length (owned owner ks) ≡ length ks
long_owned owner [] = refl
long_owned owner (k ∷ ks) = ap suc (long_owned owner ks)

keys_few : (call generation m : ℕ) (xs : List (Option Medium)) → AllByRecursion IsSoundMedium xs → length (keys_from call generation m xs) ≤ 16 * length xs
keys_few call generation m [] all = omega arith
keys_few call generation m (None ∷ xs) all = let rest = keys_few call generation (m + 1) xs all.1 in omega (arith, rest)
keys_few call generation m (Some x ∷ xs) all =
    let rest = keys_few call generation (m + 1) xs all.1 in
    let a = long_owned (owner_at call generation m Opening) x.from_peer.keys in
    let b = long_owned (owner_at call generation m Sealing) x.to_peer.keys in
    let p = all.0.from_peer.few in
    let q = all.0.to_peer.few in
    let whole = length-append (owned (owner_at call generation m Opening) x.from_peer.keys) (owned (owner_at call generation m Sealing) x.to_peer.keys ++ keys_from call generation (m + 1) xs) in
    let part = length-append (owned (owner_at call generation m Sealing) x.to_peer.keys) (keys_from call generation (m + 1) xs) in
    omega (arith, rest, a, b, p, q, whole, part)

pub ring_refuses : (ring : List Installed) (Brings : List Master → Type 0) (Cause : Refusal → Type 0) → ((number : ℕ) → IsReused ring Brings number → Cause (causes.KeyReused number)) → (IsFull ring Brings → Cause causes.RingFull)
    → (ks : List Installed) → Brings (map (λ k. k.master) ks) → length ks ≤ 64 → (c : Refusal) → install ring ks ≡ Err c → Cause c
ring_refuses ring Brings Cause reused full ks brings few c e = elim (after_ok_err (with_keys_by key_of ring ks) _ c e) [
  | inl fails ↦
      let at = stops_at ring ks c fails in
      let long = ap (λ (l : List Installed). length l) at.parts ∙ length-append at.new (at.key ∷ at.later) in
      subst Cause at.is (reused at.number (record {
        new = at.new;
        key = at.key.master;
        later = map (λ k. k.master) at.later;
        brings = subst Brings (ap (map (λ k. k.master)) at.parts ∙ map-append (λ k. k.master) at.new (at.key ∷ at.later)) brings;
        few = (let same = length-map at.later (λ k. k.master) in omega (arith, few, long, same));
        come = at.come;
        reused = at.at;
      }))
  | inr x ↦
      let all = all_in ring ks x.0 x.1 in
      let long = ap (λ (l : List Installed). length l) (sym all.1) ∙ length-append ring ks in
      elim (stop_if_err (ltb 65536 (length x.0)) causes.RingFull c _ x.2) [
        | inl over ↦ subst Cause over.1 (full (ks, brings, few, all.0, (let lt = ltb-true 65536 (length x.0) over.0 in omega (arith, lt, long))))
        | inr fails ↦ absurd (ok_err _ c fails.1)
      ]
]

-- ---- a turn

module _ (laws : Agreements) (ts : List Turn) (w : World) (opened : WereOpened ts w) (id : CallId) (noise text : List ℕ) (c : Call) (o : Offer) (at : call_of w id ≡ Some c) (open_one : c.offer ≡ Some o) where
  by : Any (OpenedBy id o) ts
  by = was_opened ts w opened id c o at open_one

  was : WasOffered o
  was = was_offered id o by.1 by.4

  keys_are_few : (g : AgreedAnswer) → agreed_answer c.slot o noise text ≡ Ok g → length (keys_from c.serial c.generations 0 g.media) ≤ 64
  keys_are_few g e =
      let sound = recursion_from_All IsSoundMedium g.media (laws.sound was.hand was.way was.text noise text c.slot was.accepted g was.agreed (ap (λ (o : Offer). agreed_answer c.slot o noise text) was.same ∙ e)) in
      let keys = keys_few c.serial c.generations 0 g.media sound in
      let media = answer_media laws c.slot o noise text g was e in
      let offered = ap (λ (o : Offer). length o.description.media) (sym was.same) ∙ laws.described was.hand was.way was.text was.accepted was.agreed in
      let few = laws.few was.hand was.way was.text was.accepted was.agreed in
      omega (arith, keys, media, offered, few)

  keyed_one : (g : AgreedAnswer) → agreed_answer c.slot o noise text ≡ Ok g → IsKeyed o text
  keyed_one g e = answer_keyed c.slot o noise text g e

  abbrev Showing : Refusal → Type 0
  Showing = Shows w.books.ring (AreBrought ts c.slot id o noise text) o text

  refused_shows : (cause : Refusal) → answered_to w.moment w.books c noise text (Some o) ≡ Err cause → Showing cause
  refused_shows cause e = elim (after_ok_err (agreed_answer c.slot o noise text) (λ a. keyed w.moment w.books c a.text a.media) cause e) [
    | inl fails ↦ answer_shows w.books.ring (AreBrought ts c.slot id o noise text) c.slot o (offer_serves o was) noise text cause fails
    | inr g ↦ elim (after_ok_err (generation_of c.serial c.generations w.books.ring g.0.media) _ cause g.2) [
      | inl fails ↦ elim (after_ok_err (install w.books.ring (keys_from c.serial c.generations 0 g.0.media)) _ cause fails) [
        | inl full ↦ ring_refuses w.books.ring (AreBrought ts c.slot id o noise text) Showing (λ number is. (keyed_one g.0 g.1, is)) (λ is. (keyed_one g.0 g.1, is)) (keys_from c.serial c.generations 0 g.0.media) (keys_brought laws ts id o noise text c by g.0 g.1) (keys_are_few g.0 g.1) cause full
        | inr x ↦ absurd (ok_err _ cause x.2)
      ]
      | inr x ↦ absurd (ok_err _ cause x.2)
    ]
  ]

  abbrev Told : Answer → Type 0
  Told a = Any IsRefusal a.outcomes → (cause : Refusal) × (a.outcomes ≡ Refused (Some id) cause ∷ []) × Showing cause

  settled_shows : (side : Side) (q : Result Settled Refusal) → answered_to w.moment w.books c noise text (Some o) ≡ q → Told (in_old w id (tells_answer id side) q)
  settled_shows side (Err d) e any = (d, refl, refused_shows d e)
  settled_shows side (Ok r) e any = elim (any_cases IsRefusal (Sdp id side r.text) (Live id ∷ []) any) [
    | inl here ↦ absurd here
    | inr more ↦ elim (any_cases IsRefusal (Live id) [] more) [
      | inl here ↦ absurd here
      | inr none ↦ absurd (any_none IsRefusal none)
    ]
  ]

  refusal_shows : Told (answer_to w (Answered id noise text))
  refusal_shows =
      subst (λ x. Told (answers w id noise text x)) (sym at)
      (subst (λ x. Told (in_old w id (tells_answer id (offering_side c.offer)) (answered_to w.moment w.books c noise text x))) (sym open_one)
      (settled_shows (offering_side c.offer) (answered_to w.moment w.books c noise text (Some o)) refl))

-- ---- a run

turn_shows : Agreements → (ts : List Turn) (w : World) → WereOpened ts w → (e : Event) → RefusedAnswerShowsCause ts (turn_of w e)
turn_shows laws ts w opened e id noise text c o same at open_one =
    subst (λ (e : Event). Any IsRefusal (step w e).outcomes → (cause : Refusal) × ((step w e).outcomes ≡ Refused (Some id) cause ∷ []) × Shows w.books.ring (AreBrought ts c.slot id o noise text) o text cause) (sym same)
    (refusal_shows laws ts w opened id noise text c o at open_one)

pub refused_show : Agreements → (events : List Event) (earlier later : List Turn) (t : Turn) → turns events ≡ earlier ++ t ∷ later → RefusedAnswerShowsCause earlier t
refused_show laws events = kept_before WereOpened event_opened RefusedAnswerShowsCause (turn_shows laws) [] empty events tt
