-- A leg is muxed exactly where the offer accepted last before the answer accepted last says so, and that answer.
use Rattle.std.proofs.Common.{◌≡◌, ◌⊎◌, inl, inr, ℕ, Bool, true, false, cond, eqb, List, [], ◌∷◌, ◌++◌, Option, Some, None, refl, sym, ap, ◌∙◌, subst}
use Rattle.std.specs.Prelude.{◌↔◌, ◌&&◌}
use Rattle.std.specs.List.{AllByRecursion, slice_get}
use Rattle.std.proofs.lemmas.Bool.{and_parts, eq-eqb, eqb-true, false≢true}
use Rattle.sg_agreement.specs.declared.ways.Way.{Way}
use Rattle.sg_base.specs.declared.addresses.CallId.{CallId}
use Rattle.sg_base.specs.declared.addresses.Side.{Side}
use Rattle.sg_base.specs.declared.addresses.Side.TheVariants.{Secure, Plain}
use Rattle.sg_gateway.specs.Signals.{Offered, Answered}
use Rattle.sg_gateway.specs.Step.{Event, Signalled, Datagram}
use Rattle.sg_gateway.specs.World.{same_id}
use Rattle.sg_outcome.specs.declared.outcomes.Outcome.{Outcome}
use Rattle.sg_outcome.specs.declared.outcomes.Why.{Why}
use Rattle.sg_outcome.specs.declared.outcomes.Outcome.TheVariants.{Made, Sdp, Ended}
use Rattle.sg_sdp.specs.Reading.{description_of}
use Rattle.sg_mux.proofs.Lines.{first_of, rest_of}
use Rattle.sg_mux.proofs.Marks.{both_marked, line_from, line_to, mark_of, marked, none_marked, port_from, port_to}
use Rattle.sg_mux.specs.Latest.{AcceptsAnswer, AcceptsOffer, ChangesSlot, IsAnswered, IsOffered, SharesPort, Telling, TellsText, is_answer}
use Rattle.sg_mux.specs.Legs.{muxes, same_side}
use Rattle.sg_mux.specs.Muxed.{agreed, changed_at, fresh}
use Rattle.sg_mux.specs.Texts.{answers_port, at_places, both, has_media_port, is_such, mark, media_read, no_marks, offers_mux}
use Rattle.sg_mux.specs.declared.known.Known.{Known}

-- ---- what is known of a slot's call after an outcome

abbrev pub marks_of : Event → List Bool
marks_of (Signalled (Offered id way noise text)) = offers_mux text
marks_of (Datagram port from octets) = no_marks
marks_of (Signalled other) = no_marks

abbrev pub change_by : Event → Side → List ℕ → Known → Known
change_by e side text k = cond (is_answer e) (record k { side = side; muxed = agreed text k.offered }) (record k { offered = marks_of e })

abbrev pub said_of : ℕ → Event → Outcome → Option Known → Option Known
said_of slot e (Made id at media) known = cond (eqb at slot) (Some (fresh id)) known
said_of slot e (Ended id at media why) known = cond (eqb at slot) None known
said_of slot e (Sdp id side text) known = changed_at id (change_by e side text) known
said_of slot e other known = known

abbrev pub said : ℕ → Option Known → List Telling → Option Known
said slot known [] = known
said slot known (t ∷ ts) = said slot (said_of slot t.event t.outcome known) ts

pub said_append : (slot : ℕ) (known : Option Known) (ts us : List Telling) → said slot known (ts ++ us) ≡ said slot (said slot known ts) us
said_append slot known [] us = refl
said_append slot known (t ∷ ts) us = said_append slot (said_of slot t.event t.outcome known) ts us

pub same : (a b : CallId) → same_id a b ≡ true → a ≡ b
same a b e = ap (λ n. record { 0 = n }) (eqb-true a.0 b.0 e)

side_is : (a b : Side) → same_side a b ≡ true → a ≡ b
side_is Secure Secure e = refl
side_is Plain Plain e = refl
side_is Secure Plain e = absurd cc
side_is Plain Secure e = absurd cc

-- ---- from what is known to what was told

-- a telling more in front of others
answered_more : (t : Telling) (ts : List Telling) (id : CallId) (medium : ℕ) (side : Side) → ¬ AcceptsOffer id t → IsAnswered ts id medium side → IsAnswered (t ∷ ts) id medium side
answered_more t ts id medium side never is = record {
  between = t ∷ is.between;
  after = is.after;
  answered = is.answered;
  told_are = ap (λ (l : List Telling). t ∷ l) is.told_are;
  text = is.text;
  accepts = is.accepts;
  port = is.port;
  last_offer = (never, is.last_offer);
  last_answer = is.last_answer;
}

offered_more : (t : Telling) (ts : List Telling) (id : CallId) (medium : ℕ) (side : Side) → IsOffered ts id medium side → IsOffered (t ∷ ts) id medium side
offered_more t ts id medium side is = record {
  between = t ∷ is.between;
  after = is.after;
  offered = is.offered;
  told_are = ap (λ (l : List Telling). t ∷ l) is.told_are;
  call = is.call;
  way = is.way;
  noise = is.noise;
  text = is.text;
  event_is = is.event_is;
  accepts = is.accepts;
  line = is.line;
  answer = is.answer;
}

shares_more : (t : Telling) (ts : List Telling) (slot medium : ℕ) (side : Side) → SharesPort ts slot medium side → SharesPort (t ∷ ts) slot medium side
shares_more t ts slot medium side is = record {
  before = t ∷ is.before;
  after = is.after;
  made = is.made;
  told_are = ap (λ (l : List Telling). t ∷ l) is.told_are;
  id = is.id;
  media = is.media;
  made_is = is.made_is;
  stays = is.stays;
  offer = is.offer;
}

module _ (slot medium : ℕ) (side : Side) where
  abbrev Stays : List Telling → Type 0
  Stays ts = AllByRecursion (λ t. ¬ ChangesSlot slot t.outcome) ts

  -- what is told later of a call of which this is known
  abbrev Later : Known → List Telling → Type 0
  Later k ts =
      IsOffered ts k.id medium side
      ⊎ (((mark k.offered medium ≡ true) × IsAnswered ts k.id medium side)
      ⊎ ((muxes (Some k) medium side ≡ true) × AllByRecursion (λ t. ¬ AcceptsAnswer k.id t) ts))

  abbrev Reached : Option Known → List Telling → Type 0
  Reached None ts = SharesPort ts slot medium side
  Reached (Some k) ts = SharesPort ts slot medium side ⊎ (Stays ts × Later k ts)

  shared : (known : Option Known) (ts : List Telling) → SharesPort ts slot medium side → Reached known ts
  shared None ts is = is
  shared (Some k) ts is = inl is

  -- it is no text of that call
  abbrev IsOther : Option Known → Outcome → Type 0
  IsOther None o = Unit {0}
  IsOther (Some k) o = ¬ TellsText k.id o

  -- a telling that says nothing of the slot, nor of its call
  passed : (known : Option Known) (t : Telling) (ts : List Telling) → ¬ ChangesSlot slot t.outcome → IsOther known t.outcome → Reached known ts → Reached known (t ∷ ts)
  passed None t ts never none is = shares_more t ts slot medium side is
  passed (Some k) t ts never none (inl is) = inl (shares_more t ts slot medium side is)
  passed (Some k) t ts never none (inr (stays, inl is)) = inr ((never, stays), inl (offered_more t ts k.id medium side is))
  passed (Some k) t ts never none (inr (stays, inr (inl (line, is)))) = inr ((never, stays), inr (inl (line, answered_more t ts k.id medium side (λ a. none a.0) is)))
  passed (Some k) t ts never none (inr (stays, inr (inr (muxed, last)))) = inr ((never, stays), inr (inr (muxed, ((λ a. none a.0), last))))

  -- a call that is made
  made_here : (t : Telling) (ts : List Telling) (id : CallId) (media : ℕ) → t.outcome ≡ Made id slot media → Reached (Some (fresh id)) ts → SharesPort (t ∷ ts) slot medium side
  made_here t ts id media is (inl shares) = shares_more t ts slot medium side shares
  made_here t ts id media is (inr (stays, inl offer)) = record { before = []; after = ts; made = t; told_are = refl; id = id; media = media; made_is = is; stays = stays; offer = offer }
  made_here t ts id media is (inr (stays, inr (inl (line, answer)))) = absurd (none_marked medium line)
  made_here t ts id media is (inr (stays, inr (inr (muxed, last)))) = absurd (none_marked medium (and_parts _ _ muxed).1)

  -- a text of the call
  answer_here : (k : Known) (e : Event) (s : Side) (text : List ℕ) (ts : List Telling) → is_answer e ≡ true → Reached (Some (record k { side = s; muxed = agreed text k.offered })) ts
      → Reached (Some k) (record { event = e; outcome = Sdp k.id s text } ∷ ts)
  answer_here k e s text ts is (inl shares) = inl (shares_more _ ts slot medium side shares)
  answer_here k e s text ts is (inr (stays, inl offer)) = inr (((λ h. h), stays), inl (offered_more _ ts k.id medium side offer))
  answer_here k e s text ts is (inr (stays, inr (inl (line, answer)))) =
      inr (((λ h. h), stays), inr (inl (line, answered_more _ ts k.id medium side (λ a. false≢true (sym a.1 ∙ is)) answer)))
  answer_here k e s text ts is (inr (stays, inr (inr (muxed, last)))) =
      let parts = and_parts (same_side s side) (mark (agreed text k.offered) medium) muxed in
      let marks = both_marked (answers_port text) k.offered medium parts.1 in
      inr (
        ((λ h. h), stays),
        inr (inl (
          marks.1,
          record {
            between = [];
            after = ts;
            answered = record { event = e; outcome = Sdp k.id s text };
            told_are = refl;
            text = text;
            accepts = (ap (λ s. Sdp k.id s text) (side_is s side parts.0), is);
            port = port_from text medium marks.0;
            last_offer = tt;
            last_answer = last;
          },
        )),
      )

  offer_here : (k : Known) (e : Event) (s : Side) (text : List ℕ) (ts : List Telling) → is_answer e ≡ false → Reached (Some (record k { offered = marks_of e })) ts
      → Reached (Some k) (record { event = e; outcome = Sdp k.id s text } ∷ ts)
  offer_here k e s text ts is (inl shares) = inl (shares_more _ ts slot medium side shares)
  offer_here k e s text ts is (inr (stays, inl offer)) = inr (((λ h. h), stays), inl (offered_more _ ts k.id medium side offer))
  offer_here k e s text ts is (inr (stays, inr (inr (muxed, last)))) = inr (((λ h. h), stays), inr (inr (muxed, ((λ a. false≢true (sym is ∙ a.1)), last))))
  offer_here k (Signalled (Offered call way noise offer)) s text ts is (inr (stays, inr (inl (line, answer)))) = inr (
    ((λ h. h), stays),
    inl (record {
      between = [];
      after = ts;
      offered = record { event = Signalled (Offered call way noise offer); outcome = Sdp k.id s text };
      told_are = refl;
      call = call;
      way = way;
      noise = noise;
      text = offer;
      event_is = refl;
      accepts = refl;
      line = line_from offer medium line;
      answer = answer;
    }),
  )
  offer_here k (Signalled (Answered id noise t)) s text ts is (inr (stays, inr (inl (line, answer)))) = absurd cc
  offer_here k (Datagram port from octets) s text ts is (inr (stays, inr (inl (line, answer)))) = absurd (none_marked medium line)
  offer_here k (Signalled other) s text ts is (inr (stays, inr (inl (line, answer)))) = absurd (none_marked medium line)

  text_here : (k : Known) (e : Event) (id : CallId) (s : Side) (text : List ℕ) (ts : List Telling) (mine answer : Bool) → same_id k.id id ≡ mine → is_answer e ≡ answer
      → Reached (Some (cond mine (cond answer (record k { side = s; muxed = agreed text k.offered }) (record k { offered = marks_of e })) k)) ts
      → Reached (Some k) (record { event = e; outcome = Sdp id s text } ∷ ts)
  text_here k e id s text ts false answer other is reached =
      passed (Some k) (record { event = e; outcome = Sdp id s text }) ts (λ h. h)
      (λ tells. false≢true (sym other ∙ eq-eqb k.id.0 id.0 (ap (λ (i : CallId). i.0) (sym tells)))) reached
  text_here k e id s text ts true true mine is reached =
      subst (λ (i : CallId). Reached (Some k) (record { event = e; outcome = Sdp i s text } ∷ ts)) (same k.id id mine) (answer_here k e s text ts is reached)
  text_here k e id s text ts true false mine is reached =
      subst (λ (i : CallId). Reached (Some k) (record { event = e; outcome = Sdp i s text } ∷ ts)) (same k.id id mine) (offer_here k e s text ts is reached)

  quiet : (known : Option Known) (o : Outcome) → ((id : CallId) → ¬ TellsText id o) → IsOther known o
  quiet None o none = tt
  quiet (Some k) o none = none k.id

  -- a call is made in the slot, or in another
  made_at : (known : Option Known) (e : Event) (id : CallId) (at media : ℕ) (ts : List Telling) (b : Bool) → eqb at slot ≡ b → Reached (cond b (Some (fresh id)) known) ts
      → Reached known (record { event = e; outcome = Made id at media } ∷ ts)
  made_at known e id at media ts true here reached =
      shared known _ (made_here (record { event = e; outcome = Made id at media }) ts id media (ap (λ n. Made id n media) (eqb-true at slot here)) reached)
  made_at known e id at media ts false there reached =
      passed known (record { event = e; outcome = Made id at media }) ts (λ is. false≢true (sym there ∙ eq-eqb at slot is)) (quiet known (Made id at media) (λ i never. never)) reached

  ended_at : (known : Option Known) (e : Event) (id : CallId) (at media : ℕ) (why : Why) (ts : List Telling) (b : Bool) → eqb at slot ≡ b → Reached (cond b None known) ts
      → Reached known (record { event = e; outcome = Ended id at media why } ∷ ts)
  ended_at known e id at media why ts true here reached = shared known _ (shares_more _ ts slot medium side reached)
  ended_at known e id at media why ts false there reached =
      passed known (record { event = e; outcome = Ended id at media why }) ts (λ is. false≢true (sym there ∙ eq-eqb at slot is)) (quiet known (Ended id at media why) (λ i never. never)) reached

  back : (known : Option Known) (e : Event) (o : Outcome) (ts : List Telling) → Reached (said_of slot e o known) ts → Reached known (record { event = e; outcome = o } ∷ ts)
  back known e (Made id at media) ts reached = made_at known e id at media ts (eqb at slot) refl reached
  back known e (Ended id at media why) ts reached = ended_at known e id at media why ts (eqb at slot) refl reached
  back None e (Sdp id s text) ts reached = shares_more _ ts slot medium side reached
  back (Some k) e (Sdp id s text) ts reached = text_here k e id s text ts (same_id k.id id) (is_answer e) refl refl reached
  back known e other ts reached = passed known (record { event = e; outcome = other }) ts (λ h. h) (quiet known other (λ i never. never)) reached

  reached_by : (known : Option Known) (ts : List Telling) → muxes (said slot known ts) medium side ≡ true → Reached known ts
  reached_by None [] is = absurd cc
  reached_by (Some k) [] is = inr (tt, inr (inr (is, tt)))
  reached_by known (t ∷ ts) is = back known t.event t.outcome ts (reached_by (said_of slot t.event t.outcome known) ts is)

-- ---- from what was told to what is known

-- a call is known of which that holds
abbrev Holds : (Known → Type 0) → Option Known → Type 0
Holds P None = ⊥
Holds P (Some k) = P k

module _ (slot : ℕ) (P : Known → Type 0) (Q : Telling → Type 0) (step : (k : Known) (t : Telling) → P k → Q t → Holds P (said_of slot t.event t.outcome (Some k))) where
  keeps : (known : Option Known) (ts : List Telling) → Holds P known → AllByRecursion Q ts → Holds P (said slot known ts)
  keeps known [] holds each = holds
  keeps None (t ∷ ts) holds each = absurd holds
  keeps (Some k) (t ∷ ts) holds each = keeps (said_of slot t.event t.outcome (Some k)) ts (step k t holds each.0) each.1

if_other : (P : Known → Type 0) (b : Bool) (x : Option Known) (k : Known) → P k → (b ≡ true → ⊥) → Holds P (cond b x (Some k))
if_other P true x k is never = absurd (never refl)
if_other P false x k is never = is

and_each : {X : Type 0} (P Q : X → Type 0) (xs : List X) → AllByRecursion P xs → AllByRecursion Q xs → AllByRecursion (λ x. P x × Q x) xs
and_each P Q [] p q = tt
and_each P Q (x ∷ xs) p q = ((p.0, q.0), and_each P Q xs p.1 q.1)

marked_both : (test : ℕ → Bool) (others : List Bool) (medium : ℕ) → mark (at_places test) medium ≡ true → mark others medium ≡ true → mark (both (at_places test) others) medium ≡ true
marked_both test others medium e f = mark_of (λ medium. mark (at_places test) medium && mark others medium) medium (marked test medium e).0 (rw (e, f) refl)

pub its_side : (s : Side) → same_side s s ≡ true
its_side Secure = refl
its_side Plain = refl

module _ (slot medium : ℕ) (side : Side) (id : CallId) where
  -- the call is there; its offer has the line; it muxes the medium
  abbrev IsThere : Known → Type 0
  IsThere k = k.id ≡ id

  abbrev HasLine : Known → Type 0
  HasLine k = (k.id ≡ id) × (mark k.offered medium ≡ true)

  abbrev Muxes : Known → Type 0
  Muxes k = (k.id ≡ id) × (muxes (Some k) medium side ≡ true)

  -- a text of this call, or of another
  module _ (P : Known → Type 0) (k : Known) (e : Event) (i : CallId) (s : Side) (text : List ℕ) where
    abbrev Settled : Known
    Settled = record k { side = s; muxed = agreed text k.offered }

    abbrev Noted : Known
    Noted = record k { offered = marks_of e }

    by_text : (mine answer : Bool) → same_id k.id i ≡ mine → is_answer e ≡ answer → P k → ((k.id ≡ i) → is_answer e ≡ true → P Settled)
        → ((k.id ≡ i) → is_answer e ≡ false → P Noted) → P (cond mine (cond answer Settled Noted) k)
    by_text false answer other is p settles notes = p
    by_text true true mine is p settles notes = settles (same k.id i mine) is
    by_text true false mine is p settles notes = notes (same k.id i mine) is

  keeps_there : (k : Known) (e : Event) (o : Outcome) → IsThere k → ¬ ChangesSlot slot o → Holds IsThere (said_of slot e o (Some k))
  keeps_there k e (Made i at media) is never = if_other IsThere (eqb at slot) _ k is (λ here. never (eqb-true at slot here))
  keeps_there k e (Ended i at media why) is never = if_other IsThere (eqb at slot) _ k is (λ here. never (eqb-true at slot here))
  keeps_there k e (Sdp i s text) is never = by_text IsThere k e i s text (same_id k.id i) (is_answer e) refl refl is (λ mine a. is) (λ mine a. is)
  keeps_there k e other is never = is

  keeps_line : (k : Known) (e : Event) (o : Outcome) → HasLine k → (¬ ChangesSlot slot o) × (¬ AcceptsOffer id (record { event = e; outcome = o })) → Holds HasLine (said_of slot e o (Some k))
  keeps_line k e (Made i at media) is never = if_other HasLine (eqb at slot) _ k is (λ here. never.0 (eqb-true at slot here))
  keeps_line k e (Ended i at media why) is never = if_other HasLine (eqb at slot) _ k is (λ here. never.0 (eqb-true at slot here))
  keeps_line k e (Sdp i s text) is never = by_text HasLine k e i s text (same_id k.id i) (is_answer e) refl refl is (λ mine a. is) (λ mine a. absurd (never.1 (sym mine ∙ is.0, a)))
  keeps_line k e other is never = is

  keeps_muxed : (k : Known) (e : Event) (o : Outcome) → Muxes k → (¬ ChangesSlot slot o) × (¬ AcceptsAnswer id (record { event = e; outcome = o })) → Holds Muxes (said_of slot e o (Some k))
  keeps_muxed k e (Made i at media) is never = if_other Muxes (eqb at slot) _ k is (λ here. never.0 (eqb-true at slot here))
  keeps_muxed k e (Ended i at media why) is never = if_other Muxes (eqb at slot) _ k is (λ here. never.0 (eqb-true at slot here))
  keeps_muxed k e (Sdp i s text) is never = by_text Muxes k e i s text (same_id k.id i) (is_answer e) refl refl is (λ mine a. absurd (never.1 (sym mine ∙ is.0, a))) (λ mine a. is)
  keeps_muxed k e other is never = is

  -- the offer, and the answer
  takes_offer : (k : Known) (e : Event) (o : Outcome) (call : CallId) (way : Way) (noise text : List ℕ) → IsThere k → e ≡ Signalled (Offered call way noise text) → TellsText id o
      → mark (offers_mux text) medium ≡ true → Holds HasLine (said_of slot e o (Some k))
  takes_offer k e (Sdp i s t) call way noise text is event tells line =
      subst (λ (e : Event). Holds HasLine (said_of slot e (Sdp i s t) (Some k))) (sym event)
      (rw (eq-eqb k.id.0 i.0 (ap (λ (i : CallId). i.0) (is ∙ sym tells))) (is, line))
  takes_offer k e (Made i at media) call way noise text is event tells line = absurd tells
  takes_offer k e other call way noise text is event tells line = absurd tells

  takes_answer : (k : Known) (e : Event) (text : List ℕ) → HasLine k → is_answer e ≡ true → mark (answers_port text) medium ≡ true
      → Holds Muxes (said_of slot e (Sdp id side text) (Some k))
  takes_answer k e text is event port =
      rw (eq-eqb k.id.0 id.0 (ap (λ (i : CallId). i.0) is.0), event)
      (is.0, rw (its_side side) (marked_both (λ place. is_such has_media_port (slice_get (media_read (description_of text)) place)) k.offered medium port is.1))

  abbrev Stay : Telling → Type 0
  Stay t = ¬ ChangesSlot slot t.outcome

  after_answer : (known : Option Known) (ts : List Telling) → Holds HasLine known → AllByRecursion Stay ts → IsAnswered ts id medium side → Holds Muxes (said slot known ts)
  after_answer known ts holds stays is =
      let split = subst (AllByRecursion Stay) is.told_are stays in
      let later = rest_of Stay is.between (is.answered ∷ is.after) split in
      let before = keeps slot HasLine (λ t. Stay t × (¬ AcceptsOffer id t)) (λ k t p q. keeps_line k t.event t.outcome p q) known is.between holds
      (and_each Stay (λ t. ¬ AcceptsOffer id t) is.between (first_of Stay is.between (is.answered ∷ is.after) split) is.last_offer) in
      subst (λ (ts : List Telling). Holds Muxes (said slot known ts)) (sym is.told_are)
      (subst (Holds Muxes) (sym (said_append slot known is.between (is.answered ∷ is.after)))
      (keeps slot Muxes (λ t. Stay t × (¬ AcceptsAnswer id t)) (λ k t p q. keeps_muxed k t.event t.outcome p q) _ is.after (at_answer (said slot known is.between) before)
      (and_each Stay (λ t. ¬ AcceptsAnswer id t) is.after later.1 is.last_answer)))
    where
      at_answer : (known : Option Known) → Holds HasLine known → Holds Muxes (said_of slot is.answered.event is.answered.outcome known)
      at_answer None holds = absurd holds
      at_answer (Some k) holds = subst (λ (o : Outcome). Holds Muxes (said_of slot is.answered.event o (Some k))) (sym is.accepts.0) (takes_answer k is.answered.event is.text holds is.accepts.1 (port_to is.text medium is.port))

  after_offer : (known : Option Known) (ts : List Telling) → Holds IsThere known → AllByRecursion Stay ts → IsOffered ts id medium side → Holds Muxes (said slot known ts)
  after_offer known ts holds stays is =
      let split = subst (AllByRecursion Stay) is.told_are stays in
      let later = rest_of Stay is.between (is.offered ∷ is.after) split in
      let before = keeps slot IsThere Stay (λ k t p q. keeps_there k t.event t.outcome p q) known is.between holds (first_of Stay is.between (is.offered ∷ is.after) split) in
      subst (λ (ts : List Telling). Holds Muxes (said slot known ts)) (sym is.told_are)
      (subst (Holds Muxes) (sym (said_append slot known is.between (is.offered ∷ is.after)))
      (after_answer _ is.after (at_offer (said slot known is.between) before) later.1 is.answer))
    where
      at_offer : (known : Option Known) → Holds IsThere known → Holds HasLine (said_of slot is.offered.event is.offered.outcome known)
      at_offer None holds = absurd holds
      at_offer (Some k) holds = takes_offer k is.offered.event is.offered.outcome is.call is.way is.noise is.text holds is.event_is is.accepts (line_to is.text medium is.line)

muxed_if : (medium : ℕ) (side : Side) (id : CallId) (known : Option Known) → Holds (λ k. (k.id ≡ id) × (muxes (Some k) medium side ≡ true)) known → muxes known medium side ≡ true
muxed_if medium side id None holds = absurd holds
muxed_if medium side id (Some k) holds = holds.1

muxed_by : (slot medium : ℕ) (side : Side) (known : Option Known) (ts : List Telling) → SharesPort ts slot medium side → muxes (said slot known ts) medium side ≡ true
muxed_by slot medium side known ts is =
    let made : said_of slot is.made.event is.made.outcome (said slot known is.before) ≡ Some (fresh is.id) =
    ap (λ (o : Outcome). said_of slot is.made.event o (said slot known is.before)) is.made_is ∙ (rw (eq-eqb slot slot refl) refl) in
    ap (λ (ts : List Telling). muxes (said slot known ts) medium side) is.told_are
    ∙ ap (λ (k : Option Known). muxes k medium side) (said_append slot known is.before (is.made ∷ is.after) ∙ ap (λ (k : Option Known). said slot k is.after) made)
    ∙ muxed_if medium side is.id _ (after_offer slot medium side is.id (Some (fresh is.id)) is.after refl is.stays is.offer)

-- what is known of a slot says that a leg is muxed, exactly where what was told does
pub decided : (slot medium : ℕ) (side : Side) (ts : List Telling) → (muxes (said slot None ts) medium side ≡ true) ↔ SharesPort ts slot medium side
decided slot medium side ts = (reached_by slot medium side None ts, muxed_by slot medium side None ts)
