-- What a run tells whose legs share ports, and what is known of its calls.
use Rattle.std.proofs.Common.{◌≡◌, ◌⊎◌, inl, inr, ℕ, zero, suc, ◌+◌, ◌-◌, ◌%◌, Bool, true, false, cond, not, List, [], ◌∷◌, map, Option, refl, ap, arith, eqb, leb, ltb, ◌<◌, ◌≤◌, set, length, get_or, Some, None, Result, Ok, Err, sym, subst, ◌∙◌}
use Rattle.std.proofs.lemmas.Bool.{and_from, and_parts, eqb-true, eq-eqb, false≢true, le-leb, le-ltb, leb-true, lt-ltb, ltb-false, ltb-true, ne_eqb}
use Rattle.std.proofs.lemmas.List.{get_or-map, get_or-replicate, get_or-set_other, get_or-set_same, length-map, length-set}
use Rattle.std.proofs.lemmas.List.Elements.{All-from_recursion}
use Rattle.std.specs.List.{AllByRecursion, flat_map, list_any}
use Rattle.std.specs.Prelude.{◌&&◌}
use Rattle.sg_base.specs.declared.addresses.Address.{Address}
use Rattle.sg_base.specs.declared.addresses.CallId.{CallId}
use Rattle.sg_base.specs.declared.addresses.Side.{Side}
use Rattle.sg_base.specs.declared.addresses.Side.TheVariants.{Secure, Plain}
use Rattle.sg_base.specs.declared.faults.Refusal.{Refusal}
use Rattle.sg_gateway.specs.CallSignals.{answered_in}
use Rattle.sg_gateway.specs.Datagrams.{Given, Drops, Puts, arrived_at, arrived_in, given_to}
use Rattle.sg_gateway.specs.Generations.{Settled}
use Rattle.sg_gateway.specs.Ports.{call_at}
use Rattle.sg_gateway.specs.Runs.{turn_of, turns_from}
use Rattle.sg_gateway.specs.Signals.{Signal, Offered, Answered, Tick, Psk, Manual, Reject, Bye, in_old, offering_side, tells_answer}
use Rattle.sg_gateway.specs.Signals as signals
use Rattle.sg_gateway.specs.Step.{Event, Signalled, Datagram}
use Rattle.sg_gateway.specs.World.{World, empty, Call, call_of}
use Rattle.sg_outcome.specs.declared.outcomes.Outcome.{Outcome}
use Rattle.sg_outcome.specs.declared.outcomes.Outcome.TheVariants.{Sdp, Dropped, Made, Ended}
use Rattle.sg_passages.proofs.Plainly.{all_as_they_are}
use Rattle.sg_passages.specs.Passages.{ArePassagesOf, AreToldAs, CameTo, IsFaithful, IsOneBefore, IsToldAs, KeepsLegs, KeepsOffers, Leaving, SharesFirst, straight}
use Rattle.sg_mux.proofs.Latest.{change_by, marks_of, said, said_append, said_of}
use Rattle.sg_mux.proofs.Lines.{ReadIsSpelled, adds_lines, same_lines}
use Rattle.sg_mux.specs.Latest.{Telling, is_answer, known_after, known_from, tellings, tellings_of}
use Rattle.sg_mux.specs.Legs.{arrived_port, is_muxed, is_muxed_at, is_muxed_rtcp, is_muxed_rtp, is_port, is_report, leaves, medium_of, side_of_port, slot_of}
use Rattle.sg_mux.specs.Muxed.{agreed, settled_answer, nobody, offered_by, settled, signalled, changed_at, fresh, noted, noted_all, is_text}
use Rattle.sg_mux.specs.Via.{events_from, events_via, muxing_after, passage_at, passages_from, passages_via, stepped, told_at, via, muxing_at}
use Rattle.sg_mux.specs.declared.known.Known.{Known}

-- ---- legs

-- the second port of a leg, and a port that isn't 0, with the ones before
second_port : (port : ℕ) → (port - 20000) % 2 ≡ 1 → port - 1 + 1 ≡ port
second_port port odd = omega (arith, odd)

some_port : (port : ℕ) (none : Bool) → eqb port 0 ≡ none → not none ≡ true → port - 1 + 1 ≡ port
some_port port true is some = absurd cc
some_port zero false is some = absurd cc
some_port (suc port) false is some = omega arith

module _ (calls : List (Option Known)) (port : ℕ) (to : Address) where
  abbrev Shared : Bool
  Shared = is_muxed_rtcp calls port && not (eqb to.port 0)

  abbrev by : Bool → Leaving
  by b = cond b (record { port = port - 1; to = record { ip = to.ip; port = to.port - 1 } }) (straight port to)

  lowers : Shared ≡ true → IsOneBefore port to (by true)
  lowers is =
      let parts = and_parts (is_muxed_rtcp calls port) (not (eqb to.port 0)) is in
      let odd = eqb-true _ _ (and_parts (eqb ((port - 20000) % 2) 1) (is_muxed_at calls port) parts.0).0 in
      record { second = odd; first = second_port port odd; host = refl; before = some_port to.port (eqb to.port 0) refl parts.1 }

  keeps : (b : Bool) → Shared ≡ b → (by b ≡ straight port to) ⊎ IsOneBefore port to (by b)
  keeps false is = inl refl
  keeps true is = inr (lowers is)

legs : (calls : List (Option Known)) → KeepsLegs (leaves calls)
legs calls port to = keeps calls port to (Shared calls port to) refl

straight_legs : KeepsLegs straight
straight_legs port to = inl refl

-- ---- the port to which a datagram came

side_next : (port : ℕ) → (port - 20000) % 2 ≡ 0 → 20000 ≤ port → (b : Bool) → ltb ((port - 20000) % 4) 2 ≡ b → ltb ((port + 1 - 20000) % 4) 2 ≡ b
side_next port even low true is = let less = ltb-true ((port - 20000) % 4) 2 is in lt-ltb ((port + 1 - 20000) % 4) 2 (omega (arith, even, low, less))
side_next port even low false is = let more = ltb-false ((port - 20000) % 4) 2 is in le-ltb ((port + 1 - 20000) % 4) 2 (omega (arith, even, low, more))

second_muxed : (calls : List (Option Known)) (port : ℕ) → is_muxed_rtp calls port ≡ true → is_muxed_rtcp calls (port + 1) ≡ true
second_muxed calls port is =
    let parts = and_parts (eqb ((port - 20000) % 2) 0) (is_muxed_at calls port) is in
    let even = eqb-true ((port - 20000) % 2) 0 parts.0 in
    let leg = and_parts (is_port port) (is_muxed calls (slot_of port) (medium_of port) (side_of_port port)) parts.1 in
    let bounds = and_parts (leb 20000 port) (ltb port 24096) leg.0 in
    let low = leb-true 20000 port bounds.0 in
    let high = ltb-true port 24096 bounds.1 in
    let slot : slot_of (port + 1) ≡ slot_of port = omega (arith, even, low) in
    let medium : medium_of (port + 1) ≡ medium_of port = omega (arith, even, low) in
    let side = side_next port even low (ltb ((port - 20000) % 4) 2) refl in
    and_from (eqb ((port + 1 - 20000) % 2) 1) (is_muxed_at calls (port + 1)) (eq-eqb ((port + 1 - 20000) % 2) 1 (omega (arith, even, low)))
    (and_from (is_port (port + 1)) (is_muxed calls (slot_of (port + 1)) (medium_of (port + 1)) (side_of_port (port + 1)))
    (and_from (leb 20000 (port + 1)) (ltb (port + 1) 24096) (le-leb 20000 (port + 1) (omega (arith, low))) (lt-ltb (port + 1) 24096 (omega (arith, even, low, high))))
    ((λ i. is_muxed calls (slot i) (medium i) (cond (side i) Secure Plain)) ∙ leg.1))

shares_first : (calls : List (Option Known)) (port : ℕ) → is_muxed_rtp calls port ≡ true → SharesFirst (leaves calls) (port + 1)
shares_first calls port is to some =
    let shared : Shared calls (port + 1) to ≡ true = and_from (is_muxed_rtcp calls (port + 1)) (not (eqb to.port 0)) (second_muxed calls port is) (ap not (ne_eqb to.port 0 some)) in
    subst (λ b. IsOneBefore (port + 1) to (by calls (port + 1) to b)) (sym shared) (lowers calls (port + 1) to shared)

came_to : (calls : List (Option Known)) (port : ℕ) (octets : List ℕ) → CameTo (leaves calls) (arrived_port calls port octets) port
came_to calls port octets = go (is_muxed_rtp calls port && is_report octets) refl
  where
    go : (b : Bool) → (is_muxed_rtp calls port && is_report octets) ≡ b → CameTo (leaves calls) (cond b (port + 1) port) port
    go true is = inr (shares_first calls port (and_parts (is_muxed_rtp calls port) (is_report octets) is).0, refl)
    go false is = inl refl

-- ---- what a datagram gives, as it is told

-- a drop is at this port
abbrev DropsAt : ℕ → Outcome → Type 0
DropsAt at (Dropped port cause) = port ≡ at
DropsAt at other = Unit {0}

given_at : (w : World) (at : ℕ) (g : Given) → AllByRecursion (DropsAt at) (given_to w at g).outcomes
given_at w at (Drops cause) = (refl, tt)
given_at w at (Puts p) = (tt, tt)

drops_at : (w : World) (at : ℕ) (from : Address) (d : List ℕ) (c : Option Call) → AllByRecursion (DropsAt at) (arrived_at w at from d c).outcomes
drops_at w at from d None = (refl, tt)
drops_at w at from d (Some c) = given_at w at (arrived_in w.moment at from d c)

module _ (calls : List (Option Known)) (port at : ℕ) (came : CameTo (leaves calls) at port) where
  datagram_told : (o : Outcome) → DropsAt at o → IsToldAs (leaves calls) o (told_at calls port o)
  datagram_told (Dropped p cause) is = (port, refl, subst (λ p. CameTo (leaves calls) p port) (sym is) came)
  datagram_told (Sdp id side text) is = (text, refl, same_lines text)
  datagram_told other is = refl

  all_told : (os : List Outcome) → AllByRecursion (DropsAt at) os → AreToldAs (leaves calls) os (map (told_at calls port) os)
  all_told [] are = refl
  all_told (o ∷ os) are = (told_at calls port o, map (told_at calls port) os, refl, datagram_told o are.0, all_told os are.1)

-- ---- what a signal gives

module _ (spelled : ReadIsSpelled) where
  settled_told : (calls : List (Option Known)) (o : Outcome) → IsToldAs straight o (settled calls o).told
  settled_told calls (Sdp id side text) = (_, refl, adds_lines spelled text (agreed text (offered_by id calls)))
  settled_told calls (Dropped port cause) = (port, refl, inl refl)
  settled_told calls other = refl

  answered_told : (calls : List (Option Known)) (os : List Outcome) → AreToldAs straight os (settled_answer calls os).told
  answered_told calls [] = refl
  answered_told calls (o ∷ os) = ((settled calls o).told, os, refl, settled_told calls o, all_as_they_are os)

  signal_told : (signal : Signal) (calls : List (Option Known)) (os : List Outcome) → AreToldAs straight os (signalled signal calls os).told
  signal_told (Answered id noise text) calls os = answered_told calls os
  signal_told other calls os = all_as_they_are os

-- ---- offers

offers_stay : (w : World) (calls : List (Option Known)) (signal : Signal) → KeepsOffers (passage_at w calls (Signalled signal))
offers_stay w calls (Answered id noise text) i way n t is = absurd cc
offers_stay w calls (Offered id way noise text) i way' n t is = refl
offers_stay w calls other i way n t is = refl

-- ---- a run

module _ (spelled : ReadIsSpelled) where
  faithful_at : (w : World) (calls : List (Option Known)) (e : Event) → IsFaithful (passage_at w calls e)
  faithful_at w calls (Signalled signal) = record {
    told = signal_told spelled signal calls (stepped w calls (Signalled signal)).outcomes;
    legs = straight_legs;
    offers = offers_stay w calls signal;
  }
  faithful_at w calls (Datagram port from octets) = record {
    told =
        let at : ℕ = arrived_port calls port octets.items in
        all_told calls port at (came_to calls port octets.items) (stepped w calls (Datagram port from octets)).outcomes (drops_at w at from octets.items (call_at w at));
    legs = legs calls;
    offers = λ id way noise text is. absurd cc;
  }

  all_faithful : (w : World) (calls : List (Option Known)) (es : List Event) → AllByRecursion IsFaithful (passages_from w calls es)
  all_faithful w calls [] = tt
  all_faithful w calls (e ∷ es) = (faithful_at w calls e, all_faithful (stepped w calls e).world (muxing_after w calls e).calls es)

turns_again : (w : World) (calls : List (Option Known)) (es : List Event) → map (λ p. p.turn) (passages_from w calls es) ≡ turns_from w (events_from w calls es)
turns_again w calls [] = refl
turns_again w calls (e ∷ es) = ap (λ ts. turn_of w (via calls e) ∷ ts) (turns_again (stepped w calls e).world (muxing_after w calls e).calls es)

pub via_run : ReadIsSpelled → (events : List Event) → ArePassagesOf (events_via events) (passages_via events)
via_run spelled events = record {
  turns_are = turns_again empty nobody events;
  faithful = All-from_recursion IsFaithful _ (all_faithful spelled empty nobody events);
}

-- ---- what is known of a slot's call after a run is what the table told of it

-- ---- how many slots there are

noted_count : (marks : List Bool) (calls : List (Option Known)) (o : Outcome) → length (noted marks calls o) ≡ length calls
noted_count marks calls (Made id at media) = length-set calls at (Some (fresh id))
noted_count marks calls (Ended id at media why) = length-set calls at None
noted_count marks calls (Sdp id side text) = length-map calls _
noted_count marks calls other = refl

all_count : (marks : List Bool) (calls : List (Option Known)) (os : List Outcome) → length (noted_all marks calls os) ≡ length calls
all_count marks calls [] = refl
all_count marks calls (o ∷ os) = all_count marks (noted marks calls o) os ∙ noted_count marks calls o

answered_count : (calls : List (Option Known)) (os : List Outcome) → length (settled_answer calls os).calls ≡ length calls
answered_count calls (Sdp id side text ∷ os) = length-map calls _
answered_count calls other = refl

event_count : (calls : List (Option Known)) (e : Event) (os : List Outcome) → length (muxing_at calls e os).calls ≡ length calls
event_count calls (Datagram port from octets) os = refl
event_count calls (Signalled (Answered id noise text)) os = answered_count calls os
event_count calls (Signalled other) os = all_count _ calls os

module _ (slot : ℕ) where
  abbrev At : List (Option Known) → Option Known
  At calls = get_or calls slot None

  abbrev telling : Event → Outcome → Telling
  telling e o = record { event = e; outcome = o }

  set_at : (calls : List (Option Known)) (at : ℕ) (k : Option Known) (b : Bool) → eqb at slot ≡ b → slot < length calls → At (set calls at k) ≡ cond b k (At calls)
  set_at calls at k true here within = ap (λ i. At (set calls i k)) (eqb-true at slot here) ∙ get_or-set_same calls slot k None within
  set_at calls at k false there within = get_or-set_other calls at slot k None (λ is. false≢true (sym there ∙ eq-eqb at slot (sym is)))

  -- ---- a signal that is no answer

  offer_noted : (e : Event) (id : CallId) (side : Side) (text : List ℕ) (known : Option Known) → is_answer e ≡ false
      → changed_at id (λ k. record k { offered = marks_of e }) known ≡ changed_at id (change_by e side text) known
  offer_noted e id side text None is = refl
  offer_noted e id side text (Some k) is =
      ap (λ b. Some (cond (eqb k.id.0 id.0) (cond b (record k { side = side; muxed = agreed text k.offered }) (record k { offered = marks_of e })) k)) (sym is)

  one_noted : (e : Event) (calls : List (Option Known)) (o : Outcome) → is_answer e ≡ false → slot < length calls → At (noted (marks_of e) calls o) ≡ said_of slot e o (At calls)
  one_noted e calls (Made id at media) is within = set_at calls at (Some (fresh id)) (eqb at slot) refl within
  one_noted e calls (Ended id at media why) is within = set_at calls at None (eqb at slot) refl within
  one_noted e calls (Sdp id side text) is within = get_or-map _ calls slot None None within ∙ offer_noted e id side text (At calls) is
  one_noted e calls other is within = refl

  each_noted : (e : Event) (calls : List (Option Known)) (os : List Outcome) → is_answer e ≡ false → slot < length calls
      → At (noted_all (marks_of e) calls os) ≡ said slot (At calls) (map (telling e) os)
  each_noted e calls [] is within = refl
  each_noted e calls (o ∷ os) is within =
      each_noted e (noted (marks_of e) calls o) os is (omega (arith, noted_count (marks_of e) calls o, within))
      ∙ ap (λ (k : Option Known). said slot k (map (telling e) os)) (one_noted e calls o is within)

  -- ---- an answer, and a datagram

  module _ (w : World) (calls : List (Option Known)) (within : slot < length calls) where
    settles : (id : CallId) (noise text : List ℕ) (side : Side) (q : Result Settled Refusal)
        → At (settled_answer calls (in_old w id (tells_answer id side) q).outcomes).calls
        ≡ said slot (At calls) (map (telling (Signalled (Answered id noise text))) (in_old w id (tells_answer id side) q).outcomes)
    settles id noise text side (Err cause) = refl
    settles id noise text side (Ok r) = get_or-map _ calls slot None None within

    answer_settles : (id : CallId) (noise text : List ℕ) (c : Option Call)
        → At (settled_answer calls (signals.answered w id noise text c).outcomes).calls
        ≡ said slot (At calls) (map (telling (Signalled (Answered id noise text))) (signals.answered w id noise text c).outcomes)
    answer_settles id noise text None = refl
    answer_settles id noise text (Some c) = settles id noise text (offering_side c.offer) (answered_in w.moment w.books c noise text)

    gives : (e : Event) (port : ℕ) (g : Given) → At calls ≡ said slot (At calls) (map (telling e) (given_to w port g).outcomes)
    gives e port (Drops cause) = refl
    gives e port (Puts p) = refl

    arrives : (e : Event) (port : ℕ) (from : Address) (d : List ℕ) (c : Option Call) → At calls ≡ said slot (At calls) (map (telling e) (arrived_at w port from d c).outcomes)
    arrives e port from d None = refl
    arrives e port from d (Some c) = gives e port (arrived_in w.moment port from d c)

    one_event : (e : Event) → At (muxing_after w calls e).calls ≡ said slot (At calls) (tellings_of (turn_of w (via calls e)))
    one_event (Datagram port from octets) = arrives _ _ from octets.items (call_at w _)
    one_event (Signalled (Answered id noise text)) = answer_settles id noise text (call_of w id)
    one_event (Signalled other) = each_noted (Signalled other) calls (stepped w calls (Signalled other)).outcomes refl within

  all_events : (w : World) (calls : List (Option Known)) (es : List Event) → slot < length calls
      → At (known_from w calls es) ≡ said slot (At calls) (flat_map tellings_of (turns_from w (events_from w calls es)))
  all_events w calls [] within = refl
  all_events w calls (e ∷ es) within =
      all_events (stepped w calls e).world (muxing_after w calls e).calls es (omega (arith, event_count calls e (stepped w calls e).outcomes, within))
      ∙ ap (λ (k : Option Known). said slot k (flat_map tellings_of (turns_from (stepped w calls e).world (events_from (stepped w calls e).world (muxing_after w calls e).calls es)))) (one_event w calls within e)
      ∙ sym (said_append slot (At calls) (tellings_of (turn_of w (via calls e))) _)

  pub known_of : (events : List Event) → slot < 256 → At (known_after events) ≡ said slot None (tellings events)
  known_of events within = all_events empty nobody events within ∙ ap (λ (k : Option Known). said slot k (tellings events)) (get_or-replicate 256 slot None None within)

-- ---- what is noted of outcomes among which is no text

-- the marks of an offer change nothing that tells no text
pub no_text : (some others : List Bool) (calls : List (Option Known)) (os : List Outcome) → list_any is_text os ≡ false → noted_all some calls os ≡ noted_all others calls os
no_text some others calls [] none = refl
no_text some others calls (Sdp id side text ∷ os) none = absurd cc
no_text some others calls (other ∷ os) none = no_text some others (noted some calls other) os none
