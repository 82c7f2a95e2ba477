-- The call's open offer was made in an earlier turn, and behind that turn it was the call's.
use Rattle.std.proofs.Common.{◌≡◌, ℕ, not, List, [], ◌∷◌, ◌++◌, Some, Ok, refl, sym, ap, ◌∙◌, subst, eqb}
use Rattle.std.specs.List.{AllByRecursion, Any, filter}
use Rattle.sg_agreement.specs.Offers.{AgreedOffer, agreed_offer}
use Rattle.sg_outcome.specs.declared.outcomes.Outcome.TheVariants.{Sdp}
use Rattle.sg_gateway.proofs.Common.{Call, CallId, Datagram, Event, Offer, Side, Signalled}
use Rattle.sg_gateway.proofs.Common.{Turn, Way, World, after_turn, any_here, any_there, at_hand, both, call_at_tick, call_of, drops_earlier}
use Rattle.sg_gateway.proofs.Common.{each_filter, each_map, each_weaker, has_port, is_idle, none_some, offer_is, other_side, same_id}
use Rattle.sg_gateway.proofs.Common.{side_of, some_is, step, turn_of, without_call, without_earlier}
use Rattle.sg_gateway.proofs.ByTexts.{MadeBy, same_call_id}
use Rattle.sg_gateway.proofs.CarriedOut.{found_with, id_found}
use Rattle.sg_gateway.proofs.Kept.{WasOffered}
use Rattle.sg_gateway.proofs.Lists.{any_first, any_last}
use Rattle.sg_gateway.proofs.Signals.{each_and_call, each_with_call, found}
use Rattle.sg_gateway.proofs.StepCases.{each_datagram, each_signal, settled_offer}
use Rattle.sg_gateway.proofs.Taken.{found_new, same_id_itself}
use Rattle.sg_gateway.specs.Signals.{Answer, Offered, Signal, answer_to, new_call}
use Rattle.sg_conduct.specs.Drawn.{Opens}

-- it was made in this turn, and behind it is open
abbrev pub OpenedBy : CallId → Offer → Turn → Type 0
OpenedBy id o u = MadeBy id o u × (d : Call) × (call_of (after_turn u) id ≡ Some d) × (d.offer ≡ Some o)

abbrev WasOpened : List Turn → Call → Type 0
WasOpened ts c = (o : Offer) → c.offer ≡ Some o → Any (OpenedBy c.id o) ts

abbrev pub WereOpened : List Turn → World → Type 0
WereOpened ts w = AllByRecursion (WasOpened ts) w.calls

module _ (ts : List Turn) (w : World) (opened : WereOpened ts w) (e : Event) where
  abbrev Now : List Turn
  Now = ts ++ turn_of w e ∷ []

  still : AllByRecursion (WasOpened Now) w.calls
  still = each_weaker (WasOpened ts) (WasOpened Now) (λ c was o open_one. any_first (OpenedBy c.id o) ts (turn_of w e ∷ []) (was o open_one)) w.calls opened

  goes : (c : Call) → AllByRecursion (WasOpened Now) (without_call c.serial w.calls)
  goes c = each_filter (WasOpened Now) (λ x. not (eqb x.serial c.serial)) w.calls still

  -- an offer that is taken
  offer_opened : (id : CallId) (c : Call) (way : Way) (noise text : List ℕ) → e ≡ Signalled (Offered id way noise text) → c.id ≡ id
      → (a : AgreedOffer) → agreed_offer (at_hand w.moment w.books c noise) way text ≡ Ok a
      → call_of (step w e).world id ≡ Some (settled_offer w.moment w.books c a).call
      → Any (λ x. x ≡ Sdp id (other_side (side_of way)) a.text) (step w e).outcomes → WasOpened Now (settled_offer w.moment w.books c a).call
  offer_opened id c way noise text same own a agreed there tells o open_one =
      subst (λ i. Any (OpenedBy i o) Now) (sym own) (any_last (OpenedBy id o) ts (turn_of w e) (
        record {
          way = way;
          noise = noise;
          text = text;
          hand = at_hand w.moment w.books c noise;
          drawn = refl;
          pairs = refl;
          accepted = a;
          agreed = agreed;
          same = some_is a.offer o open_one;
          event = same;
          tells = tells;
        },
        (settled_offer w.moment w.books c a).call,
        there,
        open_one,
      ))

module _ (ts : List Turn) (w : World) (opened : WereOpened ts w) (signal : Signal) where
  abbrev event : Event
  event = Signalled signal

  -- what is told of the signal, and what it leaves
  told : (a : Answer) → answer_to w signal ≡ a → (o : _) → Any (λ x. x ≡ o) a.outcomes → Any (λ x. x ≡ o) (step w event).outcomes
  told a same o there = subst (λ (a : Answer). Any (λ x. x ≡ o) a.outcomes) (sym same) there

  left : (a : Answer) → answer_to w signal ≡ a → (id : CallId) (d : Call) → call_of a.world id ≡ Some d → call_of (step w event).world id ≡ Some d
  left a same id d there = subst (λ (a : Answer). call_of a.world id ≡ Some d) (sym same) there

  signal_opened : WereOpened (Now ts w opened event) (answer_to w signal).world
  signal_opened = each_signal w (λ s a. s ≡ signal → answer_to w signal ≡ a → WereOpened (Now ts w opened event) a.world) (record {
    refuses = λ s id cause this same. still ts w opened event;
    ticks = λ now on this same. each_map (WasOpened (Now ts w opened event)) (WasOpened (Now ts w opened event)) (call_at_tick now)
        (λ c is. both (WasOpened (Now ts w opened event)) (drops_earlier now c) (without_earlier c) c is is)
        (filter (λ c. not (is_idle now c)) w.calls) (each_filter (WasOpened (Now ts w opened event)) (λ c. not (is_idle now c)) w.calls (still ts w opened event));
    pairs = λ p this same. still ts w opened event;
    keys = λ h none room ring is this same. each_and_call (WasOpened (Now ts w opened event)) _ w.calls (λ o is_open. absurd (none_some o is_open)) (still ts w opened event);
    begins = λ id way noise text none room a agreed this same. each_and_call (WasOpened (Now ts w opened event)) _ w.calls
        (offer_opened ts w opened event id (new_call w id) way noise text (ap (λ s. Signalled s) (sym this)) refl a agreed
        (left _ same id _ (found_new (λ c. same_id c.id id) (settled_offer w.moment w.books (new_call w id) a).call w.calls (same_id_itself id) none))
        (told _ same (Sdp id (other_side (side_of way)) a.text) (any_there _ _ (Sdp id (other_side (side_of way)) a.text ∷ []) (any_here _ (Sdp id (other_side (side_of way)) a.text) [] refl))))
        (still ts w opened event);
    offers = λ id way noise text c at a agreed this same. each_with_call (WasOpened (Now ts w opened event)) _ w.calls
        (offer_opened ts w opened event id c way noise text (ap (λ s. Signalled s) (sym this)) (same_call_id id c w.calls at) a agreed
        (left _ same id _ (found_with id c (settled_offer w.moment w.books c a).call w.calls refl (id_found id c w.calls at) at))
        (told _ same (Sdp id (other_side (side_of way)) a.text) (any_here _ (Sdp id (other_side (side_of way)) a.text) [] refl)))
        (still ts w opened event);
    answers = λ id noise text c at o open_one g agreed ring is this same. each_with_call (WasOpened (Now ts w opened event)) _ w.calls (λ o is_open. absurd (none_some o is_open)) (still ts w opened event);
    rejects = λ id c at none this same. goes ts w opened event c;
    closes = λ id c at this same. each_with_call (WasOpened (Now ts w opened event)) _ w.calls (λ o is_open. absurd (none_some o is_open)) (still ts w opened event);
    leaves = λ id c at this same. goes ts w opened event c;
  }) signal refl refl

pub event_opened : (ts : List Turn) (w : World) → WereOpened ts w → (e : Event) → WereOpened (ts ++ turn_of w e ∷ []) (step w e).world
event_opened ts w opened (Signalled signal) = signal_opened ts w opened signal
event_opened ts w opened (Datagram port from d) =
    let e : Event = Datagram port from d in
    each_datagram w port (λ h. WereOpened (Now ts w opened e) h.world) (record {
      drops = λ cause. still ts w opened e;
      puts = λ c at s t octets held. each_with_call (WasOpened (Now ts w opened e)) _ w.calls (found (WasOpened (Now ts w opened e)) (has_port port) w.calls c at (still ts w opened e)) (still ts w opened e);
    }) from d.items

pub was_opened : (ts : List Turn) (w : World) → WereOpened ts w → (id : CallId) (c : Call) (o : Offer) → call_of w id ≡ Some c → c.offer ≡ Some o → Any (OpenedBy id o) ts
was_opened ts w opened id c o at open_one = subst (λ i. Any (OpenedBy i o) ts) (same_call_id id c w.calls at) (found (WasOpened ts) (λ x. same_id x.id id) w.calls c at opened o open_one)

pub was_offered : (id : CallId) (o : Offer) (u : Turn) → OpenedBy id o u → WasOffered o
was_offered id o u by = record { hand = by.0.hand; way = by.0.way; text = by.0.text; accepted = by.0.accepted; agreed = by.0.agreed; same = by.0.same }

-- what is told of it, and behind which turn it is open
unfoldable pub opens_it : (id : CallId) (o : Offer) (u : Turn) → OpenedBy id o u → Opens u id o
opens_it id o u by =
    let made : MadeBy id o u = by.0 in
    let of_offer = offer_is made.hand made.way made.text made.accepted made.agreed in
    let side : o.side ≡ side_of made.way = ap (λ (o : Offer). o.side) (sym made.same) ∙ of_offer.0 in
    record {
      way = made.way;
      drawn = made.noise;
      text = made.text;
      event = made.event;
      side = side;
      described = of_offer.1 ∙ ap (λ (o : Offer). Ok o.description) made.same;
      forth = made.accepted.text;
      tells_forth = subst (λ (side : Side). Any (λ x. x ≡ Sdp id (other_side side) made.accepted.text) u.outcomes) (sym side) made.tells;
      call = by.1;
      found = by.2;
      is_open = by.3;
    }
