-- By which ports what comes to a leg that shares its port is taken, and what leaves goes.
use Rattle.std.proofs.Common.{◌≡◌, ℕ, ◌+◌, ◌-◌, ◌*◌, ◌<◌, ◌≤◌, Bool, true, false, cond, not, eqb, ltb, leb, List, [], ◌∷◌, ◌++◌, map, Option, refl, sym, ap, ◌∙◌, subst, arith}
use Rattle.std.specs.Prelude.{◌&&◌, ◌%◌}
use Rattle.std.proofs.lemmas.Bool.{and_parts, and_from, cond-true, cond-false, eq-eqb, eqb-true, false≢true, le-leb, le-ltb, leb-true, lt-ltb, ltb-false, ltb-true, ne_eqb}
use Rattle.sg_base.specs.declared.addresses.Address.{Address}
use Rattle.sg_base.specs.declared.addresses.Side.{Side}
use Rattle.sg_base.specs.declared.addresses.Side.TheVariants.{Secure, Plain}
use Rattle.sg_base.specs.declared.faults.DropCause.{DropCause}
use Rattle.sg_gateway.specs.Octets.{Octets}
use Rattle.sg_gateway.specs.Step.{Event, Datagram}
use Rattle.sg_gateway.specs.World.{World, empty}
use Rattle.sg_outcome.specs.declared.outcomes.Outcome.{Outcome}
use Rattle.sg_outcome.specs.declared.outcomes.Outcome.TheVariants.{Dropped}
use Rattle.sg_passages.specs.Passages.{Leaving, Passage, straight}
use Rattle.sg_mux.specs.Latest.{LegsAreMuxed, Telling, known_after, known_from, tellings}
use Rattle.sg_mux.specs.Legs.{arrived_port, is_muxed, is_muxed_at, is_muxed_rtcp, is_muxed_rtp, is_port, is_report, leaves, medium_of, side_of_port, slot_of}
use Rattle.sg_mux.specs.Muxed.{nobody}
use Rattle.sg_mux.specs.Sharing.{IsReport, IsShared, IsTakenAt, LeavesBy, SharesAsTold, rtp_port_of}
use Rattle.sg_mux.specs.Via.{events_from, muxing_after, passage_at, passages_from, stepped, told_at, via}
use Rattle.sg_mux.specs.declared.known.Known.{Known}

-- ---- the plan of ports

module _ (slot medium place : ℕ) (slots : slot < 256) (media : medium < 4) (places : place < 2) where
  -- a port of the medium, by its leg and its place in it
  module _ (leg port : ℕ) (is : port ≡ 20000 + 16 * slot + 4 * medium + leg) (four : leg < 4) where
    slot_is : slot_of port ≡ slot
    slot_is = omega (arith, is, media, four)

    medium_is : medium_of port ≡ medium
    medium_is = omega (arith, is, media, four)

    port_is : is_port port ≡ true
    port_is = and_from (leb 20000 port) (ltb port 24096) (le-leb 20000 port (omega (arith, is))) (lt-ltb port 24096 (omega (arith, is, slots, media, four)))

    at : (calls : List (Option Known)) (side : Side) → side_of_port port ≡ side → is_muxed_at calls port ≡ is_muxed calls slot medium side
    at calls side of = λ i. (port_is i && is_muxed calls (slot_is i) (medium_is i) (of i))

  side_secure : side_of_port (20000 + 16 * slot + 4 * medium + place) ≡ Secure
  side_secure = cond-true (ltb ((20000 + 16 * slot + 4 * medium + place - 20000) % 4) 2) _ _ (lt-ltb ((20000 + 16 * slot + 4 * medium + place - 20000) % 4) 2 (omega (arith, places)))

  side_plain : side_of_port (20000 + 16 * slot + 4 * medium + 2 + place) ≡ Plain
  side_plain = cond-false (ltb ((20000 + 16 * slot + 4 * medium + 2 + place - 20000) % 4) 2) _ _ (le-ltb ((20000 + 16 * slot + 4 * medium + 2 + place - 20000) % 4) 2 (omega (arith, places)))

  -- the leg of a port by its plan
  at_leg : (calls : List (Option Known)) (side : Side) → is_muxed_at calls (rtp_port_of slot medium side + place) ≡ is_muxed calls slot medium side
  at_leg calls Secure = at place (20000 + 16 * slot + 4 * medium + place) refl (omega (arith, places)) calls Secure side_secure
  at_leg calls Plain = at (2 + place) (20000 + 16 * slot + 4 * medium + 2 + place) (omega arith) (omega (arith, places)) calls Plain side_plain

  -- its place is that in the leg
  place_of : (side : Side) → (rtp_port_of slot medium side + place - 20000) % 2 ≡ place
  place_of Secure = omega (arith, places)
  place_of Plain = omega (arith, places)

module _ (port : ℕ) where
  rebuilt : (b : Bool) → ltb ((port - 20000) % 4) 2 ≡ b → 20000 ≤ port → port ≡ rtp_port_of (slot_of port) (medium_of port) (cond b Secure Plain) + (port - 20000) % 2
  rebuilt true is least = let less = ltb-true ((port - 20000) % 4) 2 is in omega (arith, less, least)
  rebuilt false is least = let more = ltb-false ((port - 20000) % 4) 2 is in omega (arith, more, least)

  ports : is_port port ≡ true → (20000 ≤ port) × (port < 24096)
  ports is = let parts = and_parts (leb 20000 port) (ltb port 24096) is in (leb-true 20000 port parts.0, ltb-true port 24096 parts.1)

-- ---- legs that share, by what was told

module _ (before : List Event) (decided : LegsAreMuxed before) where
  abbrev known : List (Option Known)
  known = known_after before

  abbrev told : List Telling
  told = tellings before

  muxed_at : (port : ℕ) → IsShared told port → (place : ℕ) → place < 2 → is_muxed_at known (port + place) ≡ true
  muxed_at port is place few =
      ap (λ (p : ℕ). is_muxed_at known (p + place)) is.is ∙ at_leg is.slot is.medium place is.slots is.media few known is.side
      ∙ (decided is.slot is.medium is.side is.slots).1 is.shares

  its_place : (port : ℕ) → IsShared told port → (place : ℕ) → place < 2 → (port + place - 20000) % 2 ≡ place
  its_place port is place few = ap (λ (p : ℕ). (p + place - 20000) % 2) is.is ∙ place_of is.slot is.medium place is.slots is.media few is.side

  -- the first port of the leg of a port that is muxed
  shared_by : (port first : ℕ) → port ≡ first + (port - 20000) % 2 → is_muxed_at known port ≡ true → IsShared told first
  shared_by port first is muxed =
      let parts = and_parts (is_port port) (is_muxed known (slot_of port) (medium_of port) (side_of_port port)) muxed in
      let bounds = ports port parts.0 in
      let least = bounds.0 in
      let most = bounds.1 in
      let slots : slot_of port < 256 = omega (arith, least, most) in
      let built = rebuilt port (ltb ((port - 20000) % 4) 2) refl least in
      record {
        slot = slot_of port;
        medium = medium_of port;
        side = side_of_port port;
        slots = slots;
        media = omega arith;
        is = same_front first (rtp_port_of (slot_of port) (medium_of port) (side_of_port port)) ((port - 20000) % 2) (sym is ∙ built);
        shares = (decided (slot_of port) (medium_of port) (side_of_port port) slots).0 parts.1;
      }
    where
      same_front : (a b c : ℕ) → a + c ≡ b + c → a ≡ b
      same_front a b c is = omega (arith, is)

  rtp_shared : (port : ℕ) → is_muxed_rtp known port ≡ true → IsShared told port
  rtp_shared port is =
      let parts = and_parts (eqb ((port - 20000) % 2) 0) (is_muxed_at known port) is in
      let even = eqb-true ((port - 20000) % 2) 0 parts.0 in
      shared_by port port (omega (arith, even)) parts.1

  shared_rtp : (port : ℕ) → IsShared told port → is_muxed_rtp known port ≡ true
  shared_rtp port is =
      let same : port + 0 ≡ port = omega arith in
      subst (λ (p : ℕ). is_muxed_rtp known p ≡ true) same
      (and_from (eqb ((port + 0 - 20000) % 2) 0) (is_muxed_at known (port + 0)) (eq-eqb ((port + 0 - 20000) % 2) 0 (its_place port is 0 (omega arith))) (muxed_at port is 0 (omega arith)))

  rtcp_shared : (port : ℕ) → is_muxed_rtcp known port ≡ true → (rtp : ℕ) × IsShared told rtp × (port ≡ rtp + 1)
  rtcp_shared port is =
      let parts = and_parts (eqb ((port - 20000) % 2) 1) (is_muxed_at known port) is in
      let odd = eqb-true ((port - 20000) % 2) 1 parts.0 in
      let before_it : port ≡ port - 1 + 1 = omega (arith, odd) in
      (port - 1, shared_by port (port - 1) (omega (arith, odd)) parts.1, before_it)

  shared_rtcp : (rtp : ℕ) → IsShared told rtp → is_muxed_rtcp known (rtp + 1) ≡ true
  shared_rtcp rtp is =
      and_from (eqb ((rtp + 1 - 20000) % 2) 1) (is_muxed_at known (rtp + 1)) (eq-eqb ((rtp + 1 - 20000) % 2) 1 (its_place rtp is 1 (omega arith))) (muxed_at rtp is 1 (omega arith))

  -- ---- what comes

  report_is : (octets : List ℕ) → is_report octets ≡ true → IsReport octets
  report_is [] is = absurd cc
  report_is (x ∷ []) is = absurd cc
  report_is (x ∷ y ∷ rest) is =
      let parts = and_parts (leb 192 y) (leb y 223) is in
      record { first = x; type = y; rest = rest; is = refl; least = leb-true 192 y parts.0; most = leb-true y 223 parts.1 }

  is_report_by : (octets : List ℕ) → IsReport octets → is_report octets ≡ true
  is_report_by octets is = ap is_report is.is ∙ and_from (leb 192 is.type) (leb is.type 223) (le-leb 192 is.type is.least) (le-leb is.type 223 is.most)

  taken_at : (port : ℕ) (octets : List ℕ) → IsTakenAt told port octets (arrived_port known port octets)
  taken_at port octets = record {
    shared = λ shared report. cond-true (is_muxed_rtp known port && is_report octets) _ _ (and_from (is_muxed_rtp known port) (is_report octets) (shared_rtp port shared) (is_report_by octets report));
    other = λ none. by_bit none (is_muxed_rtp known port && is_report octets) refl;
  }
    where
      by_bit : ¬ (IsShared told port × IsReport octets) → (b : Bool) → (is_muxed_rtp known port && is_report octets) ≡ b → arrived_port known port octets ≡ port
      by_bit none true is = (let parts = and_parts (is_muxed_rtp known port) (is_report octets) is in absurd (none (rtp_shared port parts.0, report_is octets parts.1)))
      by_bit none false is = cond-false (is_muxed_rtp known port && is_report octets) _ _ is

  -- ---- what leaves

  abbrev lower : ℕ → Address → Leaving
  lower port to = record { port = port - 1; to = record { ip = to.ip; port = to.port - 1 } }

  leaves_by : (port : ℕ) (to : Address) → LeavesBy told port to (leaves known port to)
  leaves_by port to = record {
    shared = λ rtp shared is some. cond-true (is_muxed_rtcp known port && not (eqb to.port 0)) (lower port to) (straight port to)
        (and_from (is_muxed_rtcp known port) (not (eqb to.port 0)) (ap (is_muxed_rtcp known) is ∙ shared_rtcp rtp shared) (ap not (ne_eqb to.port 0 some)))
        ∙ (let first : port - 1 ≡ rtp = omega (arith, is) in λ i. record { port = first i; to = record { ip = to.ip; port = to.port - 1 } });
    other = λ none. by_bit none (is_muxed_rtcp known port && not (eqb to.port 0)) refl;
  }
    where
      by_bit : ¬ ((rtp : ℕ) × IsShared told rtp × (port ≡ rtp + 1) × ¬ (to.port ≡ 0)) → (b : Bool) → (is_muxed_rtcp known port && not (eqb to.port 0)) ≡ b → leaves known port to ≡ straight port to
      by_bit none true is = (
          let parts = and_parts (is_muxed_rtcp known port) (not (eqb to.port 0)) is in
          let shared = rtcp_shared port parts.0 in
          absurd (none (shared.0, shared.1, shared.2, λ zero_is. false≢true (sym (ap not (eq-eqb to.port 0 zero_is)) ∙ parts.1))))
      by_bit none false is = cond-false (is_muxed_rtcp known port && not (eqb to.port 0)) (lower port to) (straight port to) is

-- ---- the next datagram of a run

abbrev pub world_from : World → List (Option Known) → List Event → World
world_from w calls [] = w
world_from w calls (e ∷ es) = world_from (stepped w calls e).world (muxing_after w calls e).calls es

next_event : (w : World) (calls : List (Option Known)) (es : List Event) (e : Event) → events_from w calls (es ++ e ∷ []) ≡ events_from w calls es ++ via (known_from w calls es) e ∷ []
next_event w calls [] e = refl
next_event w calls (x ∷ es) e = ap (λ (l : List Event). via calls x ∷ l) (next_event (stepped w calls x).world (muxing_after w calls x).calls es e)

pub next_passage : (w : World) (calls : List (Option Known)) (es : List Event) (e : Event)
    → passages_from w calls (es ++ e ∷ []) ≡ passages_from w calls es ++ passage_at (world_from w calls es) (known_from w calls es) e ∷ []
next_passage w calls [] e = refl
next_passage w calls (x ∷ es) e = ap (λ (l : List Passage). passage_at w calls x ∷ l) (next_passage (stepped w calls x).world (muxing_after w calls x).calls es e)

-- what is told as a drop is so at the port to which the datagram came
told_here : (calls : List (Option Known)) (port : ℕ) (os : List Outcome) (told : ℕ) (cause : DropCause) → map (told_at calls port) os ≡ Dropped told cause ∷ [] → told ≡ port
told_here calls port (Dropped p c ∷ os) told cause is = cc
told_here calls port other told cause is = absurd cc

pub shares_as_told : ((events : List Event) → LegsAreMuxed events) → (before : List Event) (port : ℕ) (from : Address) (octets : Octets) → SharesAsTold before port from octets
shares_as_told decided before port from octets = record {
  at = arrived_port (known_after before) port octets.items;
  taken = taken_at before (decided before) port octets.items;
  comes = next_event empty nobody before (Datagram port from octets);
  passage = passage_at (world_from empty nobody before) (known_after before) (Datagram port from octets);
  passes = next_passage empty nobody before (Datagram port from octets);
  leaves = leaves_by before (decided before);
  drops = told_here (known_after before) port (stepped (world_from empty nobody before) (known_after before) (Datagram port from octets)).outcomes;
}
