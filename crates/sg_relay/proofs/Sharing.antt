-- What is told of an event asks for what its outcomes ask for, and a packet that leaves by the port that its leg shares
-- leaves by another port of its call: so after each event the ports that are held are those of the calls that are there.
use Rattle.std.proofs.Common.{◌≡◌, inl, inr, ℕ, ◌-◌, ◌%◌, Bool, true, false, cond, not, ◌&&◌, eqb, List, [], ◌∷◌, ◌++◌, map, Option, Some, None, refl, sym, ap, ◌∙◌, subst, arith}
use Rattle.sg_front.specs.States.{State, comes, muxing, next, start, state_after, told_from}
use Rattle.sg_mux.specs.Legs.{arrived_port, is_muxed_at, is_muxed_rtcp, leaves}
use Rattle.sg_mux.specs.Muxed.{settled_answer, settled, signalled}
use Rattle.sg_mux.specs.Via.{events_in, outcomes_in, told_at}
use Rattle.sg_mux.specs.declared.known.Known.{Known}
use Rattle.sg_outcome.specs.declared.outcomes.Outcome.TheVariants as outcomes
use Rattle.sg_passages.specs.Passages.{Leaving, straight}
use Rattle.sg_relay.specs.Plain as plain
use Rattle.sg_relay.proofs.Common.{Address, AllByRecursion, Answered, AreOfCalls, Ask, Call, Datagram, Drops, EachFits, Event, Given, IsOrderly, Outcome}
use Rattle.sg_relay.proofs.Common.{PortsAreOfCalls, Puts, Signal, Signalled, World, and_parts, answer_to, arrived_at, arrived_in, asks_of, call_at, empty}
use Rattle.sg_relay.proofs.Common.{eqb-true, flat_map, given_to, has_port, held_after, or_cases, or_left, or_right, step, told_in, world_after, world_in}
use Rattle.sg_relay.proofs.Accounts.{Accounts, Begun, HasFew, event_accounts}
use Rattle.sg_relay.proofs.Asks.{asked_by, asks_of_acts}
use Rattle.sg_relay.proofs.CallPorts.{any_of_calls, has_within, of_any, of_calls, within}
use Rattle.sg_relay.proofs.Deeds.{flat_append}
use Rattle.sg_relay.proofs.Held.{AreFit, after, each_fits, fit_append, fit_same, held-append}

-- ---- signals: a text asks for nothing, whatever lines it has

settled_asks : (calls : List (Option Known)) (o : Outcome) → asked_by (settled calls o).told ≡ asked_by o
settled_asks calls (outcomes.Made id slot media) = refl
settled_asks calls other = refl

answered_asks : (calls : List (Option Known)) (os : List Outcome) → flat_map asked_by (settled_answer calls os).told ≡ flat_map asked_by os
answered_asks calls [] = refl
answered_asks calls (o ∷ os) = ap (λ (l : List Ask). l ++ flat_map asked_by os) (settled_asks calls o)

signalled_asks : (signal : Signal) (calls : List (Option Known)) (os : List Outcome) → flat_map asked_by (signalled signal calls os).told ≡ flat_map asked_by os
signalled_asks (Answered id noise text) calls os = answered_asks calls os
signalled_asks other calls os = refl

-- ---- datagrams: a packet leaves by a port of its call

-- a port of RTCP is the second of two of its call
before_rtcp : (known : List (Option Known)) (port : ℕ) (c : Call) → is_muxed_rtcp known port ≡ true → has_port port c ≡ true → has_port (port - 1) c ≡ true
before_rtcp known port c muxed has =
    let odd : (port - 20000) % 2 ≡ 1 = eqb-true _ _ (and_parts (eqb ((port - 20000) % 2) 1) (is_muxed_at known port) muxed).0 in
    let at = within port c has in
    has_within (port - 1) c (omega (arith, odd, at.0)) (omega (arith, at.1))

leaves_call : (known : List (Option Known)) (port : ℕ) (to : Address) (c : Call) → has_port port c ≡ true → has_port (leaves known port to).port c ≡ true
leaves_call known port to c has = go (is_muxed_rtcp known port && not (eqb to.port 0)) refl
  where
    left : Bool → Leaving
    left b = cond b (record { port = port - 1; to = record { ip = to.ip; port = to.port - 1 } }) (straight port to)

    go : (b : Bool) → is_muxed_rtcp known port && not (eqb to.port 0) ≡ b → has_port (left b).port c ≡ true
    go true is = before_rtcp known port c (and_parts (is_muxed_rtcp known port) (not (eqb to.port 0)) is).0 has
    go false is = has

leaves_calls : (known : List (Option Known)) (port : ℕ) (to : Address) (cs : List Call) → of_calls port cs ≡ true → of_calls (leaves known port to).port cs ≡ true
leaves_calls known port to [] has = has
leaves_calls known port to (c ∷ cs) has = elim (or_cases (has_port port c) (of_calls port cs) has) [
  | inl here ↦ or_left _ _ (leaves_call known port to c here)
  | inr there ↦ or_right _ _ (leaves_calls known port to cs there)
]

given_told : (known : List (Option Known)) (port : ℕ) (w : World) (at : ℕ) (g : Given) → Accounts w (given_to w at g).outcomes (given_to w at g).world
    → Accounts w (map (told_at known port) (given_to w at g).outcomes) (given_to w at g).world
given_told known port w at (Drops cause) accounts = record { fit = accounts.fit; held = accounts.held; begun = accounts.begun }
given_told known port w at (Puts p) accounts = record { fit = (leaves_calls known p.port p.to w.calls accounts.fit.0, tt); held = accounts.held; begun = accounts.begun }

arrived_told : (known : List (Option Known)) (port : ℕ) (w : World) (at : ℕ) (from : Address) (d : List ℕ) (o : Option Call) → Accounts w (arrived_at w at from d o).outcomes (arrived_at w at from d o).world
    → Accounts w (map (told_at known port) (arrived_at w at from d o).outcomes) (arrived_at w at from d o).world
arrived_told known port w at from d None accounts = record { fit = accounts.fit; held = accounts.held; begun = accounts.begun }
arrived_told known port w at from d (Some c) accounts = given_told known port w at (arrived_in w.moment at from d c) accounts

-- ---- one event, and all

told_accounts : (muxes : Bool) (known : List (Option Known)) (w : World) (e : Event) → Accounts w (step w (comes muxes known e)).outcomes (step w (comes muxes known e)).world
    → Accounts w (muxing muxes known e (step w (comes muxes known e)).outcomes).told (step w (comes muxes known e)).world
told_accounts false known w e accounts = accounts
told_accounts true known w (Signalled signal) accounts =
    let same = signalled_asks signal known (answer_to w signal).outcomes in
    record {
      fit = subst (AreFit (λ port. of_calls port w.calls)) (sym same) accounts.fit;
      held = λ port. ap (held_after port (of_calls port w.calls)) same ∙ accounts.held port;
      begun = accounts.begun;
    }
told_accounts true known w (Datagram port from octets) accounts =
    let at : ℕ = arrived_port known port octets.items in
    arrived_told known port w at from octets.items (call_at w at) accounts

abbrev asks_from : State → List Event → List Ask
asks_from state es = flat_map asked_by (told_from state es)

all_account : HasFew → (state : State) → ((es : List Event) → IsOrderly (state_after state es).world) → AllByRecursion Begun state.world.calls → (es : List Event)
    → AreFit (λ port. of_calls port state.world.calls) (asks_from state es) × ((port : ℕ) → held_after port (of_calls port state.world.calls) (asks_from state es) ≡ of_calls port (state_after state es).world.calls)
all_account few state orderly begun [] = (tt, λ port. refl)
all_account few state orderly begun (e ∷ es) =
    let event : Event = comes state.muxes state.calls e in
    let now = told_accounts state.muxes state.calls state.world e (event_accounts few state.world (orderly []) begun event (orderly (e ∷ []))) in
    let more = all_account few (next state e) (λ es. orderly (e ∷ es)) now.begun es in
    let told : List Outcome = (muxing state.muxes state.calls e (step state.world event).outcomes).told in
    let first : List Ask = flat_map asked_by told in
    let rest : List Ask = asks_from (next state e) es in
    let held : ℕ → Bool = λ port. of_calls port state.world.calls in
    let both : asks_from state (e ∷ es) ≡ first ++ rest = flat_append asked_by told (told_from (next state e) es) in (
      subst (AreFit held) (sym both) (fit_append held first rest now.fit (fit_same (λ port. of_calls port (next state e).world.calls) (after held first) rest (λ port. sym (now.held port)) more.0)),
      λ port. ap (held_after port (held port)) both ∙ held-append port (held port) first rest ∙ ap (λ b. held_after port b rest) (now.held port) ∙ more.1 port,
    )

pub ports_of_run : HasFew → ((es : List Event) → IsOrderly (world_after empty es)) → (muxes : Bool) (es : List Event) → PortsAreOfCalls (plain.acts muxes es) (plain.world muxes es)
ports_of_run few orderly muxes es =
    let all = all_account few (start muxes) (λ es. subst IsOrderly (sym (world_in muxes es)) (orderly (events_in muxes es))) tt es in
    let same : asks_from (start muxes) es ≡ flat_map asks_of (plain.acts muxes es) = ap (flat_map asked_by) (told_in muxes es) ∙ sym (asks_of_acts (outcomes_in muxes es)) in record {
      ports = subst (λ asks. AreOfCalls asks (plain.world muxes es)) same
          (subst (AreOfCalls (asks_from (start muxes) es)) (world_in muxes es)
          (record { held = λ port is. any_of_calls port _ (sym (all.1 port) ∙ is); all = λ port a. all.1 port ∙ of_any port _ a }));
      each = subst EachFits same (each_fits (asks_from (start muxes) es) all.0);
    }
