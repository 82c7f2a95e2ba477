-- An open offer was made in an earlier turn, and the sessions of its answer are by the texts.
use Rattle.std.proofs.Common.{◌≡◌, inl, inr, ℕ, ◌+◌, not, List, [], ◌∷◌, ◌++◌, length, Option, Some, Ok, refl, sym, ap, ◌∙◌, subst, arith, eqb}
use Rattle.sg_agreement.proofs.AllAgreed.{all_agreed, offer_is}
use Rattle.sg_agreement.proofs.TextLines.{from_plain, from_secure}
use Rattle.sg_agreement.specs.TextLines.{StandInTexts}
use Rattle.sg_outcome.specs.declared.outcomes.Outcome.TheVariants.{Sdp, Live}
use Rattle.sg_sdp.specs.declared.medium.Medium as descriptions
use Rattle.sg_sdp.specs.declared.sdp.Sdp as sdp
use Rattle.sg_gateway.proofs.Common.{AgreedAnswer, AgreedOffer, All, All-from_recursion, AllByRecursion, Any, AtHand, Call, CallId, Datagram, Event, FromSecure}
use Rattle.sg_gateway.proofs.Common.{Installed, Medium, MikeyFromPlain, Offer, Outcome, Pair, SdesFromPlain, Session, Side, Signalled, Turn, Way, World}
use Rattle.sg_gateway.proofs.Common.{agreed_answer, agreed_offer, any_here, any_there, at_hand, both, call_at_tick, call_of, description_of, drops_earlier}
use Rattle.sg_gateway.proofs.Common.{each_filter, each_map, each_weaker, empty, filter, has_port, is_idle, none_some, ok_is, other_side, same_id, sessions_from}
use Rattle.sg_gateway.proofs.Common.{side_of, some_is, step, turn_of, without_call, without_earlier}
use Rattle.sg_gateway.proofs.CarriedOut.{found_with, id_found, stays, of_generation}
pub use Rattle.sg_gateway.proofs.CarriedOut.{same_call_id}
use Rattle.sg_gateway.proofs.LineSessions.{all_lined}
use Rattle.sg_gateway.proofs.Lists.{any_last, any_first}
use Rattle.sg_gateway.proofs.MessageSessions.{by_message, by_own, by_part}
use Rattle.sg_gateway.proofs.OwnMessages.{by_own_message}
use Rattle.sg_gateway.proofs.PeersMessages.{by_peers_message}
use Rattle.sg_gateway.proofs.Signals.{each_and_call, each_with_call, found}
use Rattle.sg_gateway.proofs.StepCases.{each_signal, renewed_by, answer_of, settled_offer, each_datagram}
use Rattle.sg_gateway.proofs.TurnByTurn.{kept_before}
use Rattle.sg_gateway.specs.ByTexts.{AnswerIsByTexts, AnswersAreByTexts, AreByOwnMessage, AreByTexts, Exchange, HasItsLines, HaveLines}
use Rattle.sg_gateway.specs.OwnMessages.{IsInOwnSession}
use Rattle.sg_gateway.specs.PeersMessages.{IsByPeersMessage}
use Rattle.sg_gateway.specs.Signals.{Offered, Answered, Answer, answer_to, new_call, Signal}

-- in this turn the offer was made
pub record MadeBy (id : CallId) (o : Offer) (u : Turn) : Type 0 where
  pub way : Way
  pub noise : List ℕ
  pub text : List ℕ
  pub hand : AtHand
  pub drawn : hand.noise ≡ noise
  pub pairs : hand.pairs ≡ u.before.books.pairs
  pub accepted : AgreedOffer
  pub agreed : agreed_offer hand way text ≡ Ok accepted
  pub same : accepted.offer ≡ o
  pub event : u.event ≡ Signalled (Offered id way noise text)
  pub tells : Any (λ x. x ≡ Sdp id (other_side (side_of way)) accepted.text) u.outcomes

-- the call's open offer was made in one of these turns
abbrev pub WasMade : List Turn → Call → Type 0
WasMade ts c = (o : Offer) → c.offer ≡ Some o → Any (MadeBy c.id o) ts

abbrev pub WereMade : List Turn → World → Type 0
WereMade ts w = AllByRecursion (WasMade ts) w.calls

-- ---- an event

module _ (ts : List Turn) (w : World) (made : WereMade ts w) (e : Event) where
  abbrev Now : List Turn
  Now = ts ++ turn_of w e ∷ []

  still : AllByRecursion (WasMade Now) w.calls
  still = each_weaker (WasMade ts) (WasMade Now) (λ c was o open_one. any_first (MadeBy c.id o) ts (turn_of w e ∷ []) (was o open_one)) w.calls made

  goes : (c : Call) → AllByRecursion (WasMade Now) (without_call c.serial w.calls)
  goes c = each_filter (WasMade Now) (λ x. not (eqb x.serial c.serial)) w.calls still

  -- an offer that is taken is made in this turn
  offer_made : (id : CallId) (c : Call) (way : Way) (noise text : List ℕ) → e ≡ Signalled (Offered id way noise text) → c.id ≡ id
      → (a : AgreedOffer) → agreed_offer (at_hand w.moment w.books c noise) way text ≡ Ok a
      → Any (λ x. x ≡ Sdp id (other_side (side_of way)) a.text) (step w e).outcomes → WasMade Now (settled_offer w.moment w.books c a).call
  offer_made id c way noise text same own a agreed tells o open_one =
      subst (λ i. Any (MadeBy i o) Now) (sym own) (any_last (MadeBy id o) ts (turn_of w e) (record {
        way = way;
        noise = noise;
        text = text;
        hand = at_hand w.moment w.books c noise;
        drawn = refl;
        pairs = refl;
        accepted = a;
        agreed = agreed;
        same = some_is a.offer o open_one;
        event = same;
        tells = tells;
      }))

module _ (ts : List Turn) (w : World) (made : WereMade ts w) (signal : Signal) where
  abbrev event : Event
  event = Signalled signal

  -- what is told of the signal
  told : (a : Answer) → answer_to w signal ≡ a → (o : Outcome) → Any (λ x. x ≡ o) a.outcomes → Any (λ x. x ≡ o) (step w event).outcomes
  told a same o there = subst (λ (a : Answer). Any (λ x. x ≡ o) a.outcomes) (sym same) there

  signal_made : WereMade (Now ts w made event) (answer_to w signal).world
  signal_made = each_signal w (λ s a. s ≡ signal → answer_to w signal ≡ a → WereMade (Now ts w made event) a.world) (record {
    refuses = λ s id cause this same. still ts w made event;
    ticks = λ now on this same. each_map (WasMade (Now ts w made event)) (WasMade (Now ts w made event)) (call_at_tick now)
        (λ c is. both (WasMade (Now ts w made event)) (drops_earlier now c) (without_earlier c) c is is)
        (filter (λ c. not (is_idle now c)) w.calls) (each_filter (WasMade (Now ts w made event)) (λ c. not (is_idle now c)) w.calls (still ts w made event));
    pairs = λ p this same. still ts w made event;
    keys = λ h none room ring is this same. each_and_call (WasMade (Now ts w made event)) _ w.calls (λ o is_open. absurd (none_some o is_open)) (still ts w made event);
    begins = λ id way noise text none room a agreed this same. each_and_call (WasMade (Now ts w made event)) _ w.calls
        (offer_made ts w made event id (new_call w id) way noise text (ap (λ s. Signalled s) (sym this)) refl a agreed
        (told _ same (Sdp id (other_side (side_of way)) a.text) (any_there _ _ (Sdp id (other_side (side_of way)) a.text ∷ []) (any_here _ (Sdp id (other_side (side_of way)) a.text) [] refl))))
        (still ts w made event);
    offers = λ id way noise text c at a agreed this same. each_with_call (WasMade (Now ts w made event)) _ w.calls
        (offer_made ts w made event id c way noise text (ap (λ s. Signalled s) (sym this)) (same_call_id id c w.calls at) a agreed
        (told _ same (Sdp id (other_side (side_of way)) a.text) (any_here _ (Sdp id (other_side (side_of way)) a.text) [] refl)))
        (still ts w made event);
    answers = λ id noise text c at o open_one g agreed ring is this same. each_with_call (WasMade (Now ts w made event)) _ w.calls (λ o is_open. absurd (none_some o is_open)) (still ts w made event);
    rejects = λ id c at none this same. goes ts w made event c;
    closes = λ id c at this same. each_with_call (WasMade (Now ts w made event)) _ w.calls (λ o is_open. absurd (none_some o is_open)) (still ts w made event);
    leaves = λ id c at this same. goes ts w made event c;
  }) signal refl refl

-- the open offers after an event were made in its turn or in one before it
pub event_made : (ts : List Turn) (w : World) → WereMade ts w → (e : Event) → WereMade (ts ++ turn_of w e ∷ []) (step w e).world
event_made ts w made (Signalled signal) = signal_made ts w made signal
event_made ts w made (Datagram port from d) =
    let e : Event = Datagram port from d in
    each_datagram w port (λ h. WereMade (Now ts w made e) h.world) (record {
      drops = λ cause. still ts w made e;
      puts = λ c at s t octets held. each_with_call (WasMade (Now ts w made e)) _ w.calls (found (WasMade (Now ts w made e)) (has_port port) w.calls c at (still ts w made e)) (still ts w made e);
    }) from d.items

-- ---- an answer

current_have : (c d : Call) (new : List Session) (P : Session → Type 0) → d.sessions ≡ new ++ filter (stays c) c.sessions → d.generations ≡ c.generations + 1 → AllByRecursion P new
    → All (λ s. s.name.owner.generation + 1 ≡ d.generations → P s) d.sessions
current_have c d new P sessions generations are = All-from_recursion _ d.sessions (of_generation c d new P sessions generations are)

have_lines : (c d : Call) (number : ℕ) (peers : List descriptions.Medium) (text : List ℕ) (media : List (Option Medium)) → StandInTexts peers text media
    → d.sessions ≡ sessions_from c.serial c.generations 0 number media ++ filter (stays c) c.sessions → d.generations ≡ c.generations + 1 → HaveLines peers text d
have_lines c d number peers text media stand sessions generations = (
  stand.0,
  stand.1,
  current_have c d (sessions_from c.serial c.generations 0 number media) (HasItsLines peers stand.0.media) sessions generations (all_lined c.serial c.generations number peers stand.0.media media stand.2),
)

-- by the way of the offer
pub by_way : (way : Way) (hand : AtHand) (offered noise text : List ℕ) (c d : Call) (number : ℕ) (answer : sdp.Sdp) (a : AgreedOffer) (g : AgreedAnswer)
    → agreed_offer hand way offered ≡ Ok a → agreed_answer c.slot a.offer noise text ≡ Ok g → description_of text ≡ Ok answer
    → d.sessions ≡ sessions_from c.serial c.generations 0 number g.media ++ filter (stays c) c.sessions → d.generations ≡ c.generations + 1
    → AreByTexts hand.pairs way a.offer.description answer a.text g.text d
by_way FromSecure hand offered noise text c d number answer a g agreed e of_text sessions generations = (
  (λ none. have_lines c d number a.offer.description.media g.text g.media (from_secure hand offered noise text c.slot a g agreed none e) sessions generations),
  (λ some.
      let is = by_peers_message hand offered noise text c.slot a g agreed some e in
      let same : is.0 ≡ answer = ok_is is.0 answer (sym is.1 ∙ of_text) in
      let by : AllByRecursion (IsByPeersMessage hand.pairs a.offer.description is.0 is.2) (sessions_from c.serial c.generations 0 number g.media) = elim is.4 [
        | inl part ↦ by_part hand a.offer.description is.0 is.2 part.0 part.1 c.serial c.generations number g.media part.2
        | inr own ↦ by_own hand a.offer.description is.0 is.2 own.0 c.serial c.generations number g.media own.1
      ] in (
        is.2,
        is.3,
        current_have c d (sessions_from c.serial c.generations 0 number g.media) (IsByPeersMessage hand.pairs a.offer.description answer is.2) sessions generations
            (subst (λ (answer : sdp.Sdp). AllByRecursion (IsByPeersMessage hand.pairs a.offer.description answer is.2) (sessions_from c.serial c.generations 0 number g.media)) same by),
      )),
)
by_way SdesFromPlain hand offered noise text c d number answer a g agreed e of_text sessions generations =
    let is = from_plain hand offered noise text c.slot a g agreed e in
    let same : is.0 ≡ answer = ok_is is.0 answer (sym is.1 ∙ of_text) in
    subst (λ (answer : sdp.Sdp). HaveLines answer.media a.text d) same (have_lines c d number is.0.media a.text g.media is.2 sessions generations)
by_way (MikeyFromPlain peer) hand offered noise text c d number answer a g agreed e of_text sessions generations =
    let is = by_own_message hand peer offered noise text c.slot a g agreed e in
    let same : is.0 ≡ answer = ok_is is.0 answer (sym is.1 ∙ of_text) in
    let by = is.4 in
    subst (λ (answer : sdp.Sdp). AreByOwnMessage hand.pairs peer a.offer.description answer a.text d) same (
      is.2,
      is.3,
      by.message,
      by.response,
      current_have c d (sessions_from c.serial c.generations 0 number g.media) (IsInOwnSession by.message.message by.message.key by.response.response a.offer.description) sessions generations
          (by_message by.message.message by.policies by.message.key by.response.response a.offer.description is.0 c.serial c.generations number g.media by.agreed),
    )

module _ (ts : List Turn) (w : World) (made : WereMade ts w) (id : CallId) (noise text : List ℕ) (c : Call) (at : call_of w id ≡ Some c) where
  abbrev answering : Event
  answering = Signalled (Answered id noise text)

  abbrev IsByTexts : Call → Type 0
  IsByTexts d = (x : Exchange ts (turn_of w answering) id c text) × AreByTexts x.of_offer.before.books.pairs x.way x.offer x.answer x.forth x.back d

  texts_are : (o : Offer) (g : AgreedAnswer) (ring : List Installed) → c.offer ≡ Some o → agreed_answer c.slot o noise text ≡ Ok g → (u : Turn) → Any (λ x. x ≡ u) ts → MadeBy id o u
      → Any (λ x. x ≡ Sdp id o.side g.text) (step w answering).outcomes → IsByTexts (renewed_by w.moment w.books c g.text g.media ring).call
  texts_are o g ring open_one is u earlier by tells =
      let agreed = ap (λ (o : Offer). agreed_answer c.slot o noise text) by.same ∙ is in
      let of_answer = all_agreed by.hand by.way by.text noise text c.slot by.accepted g by.agreed agreed in
      let of_offer = offer_is by.hand by.way by.text by.accepted by.agreed in
      let side : o.side ≡ side_of by.way = ap (λ (o : Offer). o.side) (sym by.same) ∙ of_offer.0 in (
        record {
          of_offer = u;
          was_earlier = earlier;
          way = by.way;
          noise = by.noise;
          offered = by.text;
          event = by.event;
          offer = by.accepted.offer.description;
          in_offer = of_offer.1;
          open_offer = o;
          is_open = open_one;
          of_side = side;
          of_text = ap (λ (o : Offer). o.description) (sym by.same);
          answer = of_answer.0;
          in_answer = of_answer.1;
          forth = by.accepted.text;
          tells_forth = by.tells;
          back = g.text;
          tells_back = subst (λ (side : Side). Any (λ x. x ≡ Sdp id side g.text) (step w answering).outcomes) side tells;
        },
        subst (λ (pairs : List Pair). AreByTexts pairs by.way by.accepted.offer.description of_answer.0 by.accepted.text g.text (renewed_by w.moment w.books c g.text g.media ring).call) by.pairs
            (by_way by.way by.hand by.text noise text c (renewed_by w.moment w.books c g.text g.media ring).call (length w.books.ring) of_answer.0 by.accepted g by.agreed agreed of_answer.1 refl refl),
      )

  answer_texts : (d : Call) → call_of (step w answering).world id ≡ Some d → d.generations ≡ c.generations + 1 → IsByTexts d
  answer_texts d now more = answer_of w id noise text c (λ a. answer_to w (Answered id noise text) ≡ a → call_of a.world id ≡ Some d → IsByTexts d)
      (λ cause told now. let same = ap (λ (x : Call). x.generations) (some_is c d (sym at ∙ now)) in absurd (omega (arith, same, more)))
      (λ o is_open g agreed ring is told now.
      let e : Call = (renewed_by w.moment w.books c g.text g.media ring).call in
      let here = found_with id c e w.calls refl (id_found id c w.calls at) at in
      let was = subst (λ i. Any (MadeBy i o) ts) (same_call_id id c w.calls at) (found (WasMade ts) (λ x. same_id x.id id) w.calls c at made o is_open) in
      let tells = subst (λ (a : Answer). Any (λ x. x ≡ Sdp id o.side g.text) a.outcomes) (sym told) (any_here _ (Sdp id o.side g.text) (Live id ∷ []) refl) in
      subst IsByTexts (some_is e d (sym here ∙ now)) (texts_are o g ring is_open agreed was.1 (was.0, was.1, was.2, was.3, refl) was.4 tells))
      at refl now

-- ---- a run

turn_texts : (ts : List Turn) (w : World) → WereMade ts w → (e : Event) → AnswerIsByTexts ts (turn_of w e)
turn_texts ts w made e id noise text c d same at =
    subst (λ (e : Event). call_of (step w e).world id ≡ Some d → d.generations ≡ c.generations + 1
    → (x : Exchange ts (turn_of w e) id c text) × AreByTexts x.of_offer.before.books.pairs x.way x.offer x.answer x.forth x.back d)
    (sym same) (answer_texts ts w made id noise text c at d)

pub answers_by_texts : (events : List Event) → AnswersAreByTexts events
answers_by_texts events = kept_before WereMade event_made AnswerIsByTexts turn_texts [] empty events tt
