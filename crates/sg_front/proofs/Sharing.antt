-- What a table gives, as a front tells it whose legs may share their ports.
use Rattle.std.proofs.Common.{◌≡◌, ℕ, false, cond, List, [], ◌∷◌, ◌++◌, map, take, drop, length, Option, Some, None, Result, Ok, Err, refl, sym, ap, ◌∙◌, subst, inl, inr}
use Rattle.std.specs.Prelude.{◌⊎◌, OnOk, OnErr, is_some, unwrap_or}
use Rattle.std.proofs.Math.Seq.{take-append_seam}
use Rattle.std.proofs.lemmas.List.{append-nil}
use Rattle.sg_base.specs.declared.addresses.Address.{Address}
use Rattle.sg_call.specs.declared.handled.End.{End}
use Rattle.sg_call.specs.declared.handled.End.TheVariants as ends
use Rattle.sg_call.specs.declared.handled.Handled.{Handled}
use Rattle.sg_front.proofs.Runs.{unshared_after, unshared_told}
use Rattle.sg_front.specs.Parts.{departed, shared, sharing}
use Rattle.sg_front.specs.States.{FrontStandsFor, FrontValue, IsBatched, IsHandled, IsTakenUntold, IsTold, IsUntold, State, state_after, unshared}
use Rattle.sg_gateway.specs.Datagrams.{Given, Drops, Puts, arrived_at, arrived_in, given_to}
use Rattle.sg_gateway.specs.Events.{events_of_signal, outcomes_from, signal_lacks_noise, signal_of}
use Rattle.sg_gateway.specs.Octets.{Octets, as_octets}
use Rattle.sg_gateway.specs.Ports.{call_at}
use Rattle.sg_gateway.specs.Runs.{world_after}
use Rattle.sg_gateway.specs.Signals.{Signal, Tick, Psk, Manual, Offered, Answered, Reject, Bye}
use Rattle.sg_gateway.specs.Step.{Event, Datagram, Signalled, step}
use Rattle.sg_gateway.specs.World.{Call, World}
use Rattle.sg_lines.specs.declared.lines.Signal as lines
use Rattle.sg_mux.specs.Legs.{arrived_port}
use Rattle.sg_mux.specs.Muxed.{nobody, signalled}
use Rattle.sg_mux.specs.Via.{told_at}
use Rattle.sg_mux.specs.declared.known.Known.{Known}
use Rattle.sg_outcome.specs.declared.outcomes.Outcome.{Outcome}
use Rattle.sg_table.specs.Batches as batches
use Rattle.sg_table.specs.Batches.{arrived}
use Rattle.sg_table.specs.Handling as handling
use Rattle.sg_table.specs.Handling.{IsBack, outcome_by}
use Rattle.sg_table.specs.Standing.{TableStandsFor}
use Rattle.sg_table.specs.Telling as tables
use Rattle.sg_table.specs.Values.{TableValue}
use Rattle.sg_table.specs.declared.arrival.Arrival.{Arrival}

-- ---- a front by its parts

abbrev pub front_of : TableValue → Option (List (Option Known)) → FrontValue
front_of table mux = record { table = table; muxes = is_some mux; calls = unwrap_or mux nobody }

module _ (P : FrontValue → State → Type 0) (front : FrontValue) (table new : TableValue) (mux : Option (List (Option Known))) (is : front_of table mux ≡ front) (s : State) (stands : FrontStandsFor front s) where
  here : FrontStandsFor (front_of table mux) s
  here = subst (λ front. FrontStandsFor front s) (sym is) stands

  -- where no leg may share its ports
  pub by_unshared : mux ≡ None → ((w : World) → TableStandsFor table w → P (front_of new None) (unshared w)) → P (front_of new mux) s
  by_unshared none holds =
      let at : FrontStandsFor (front_of table None) s = subst (λ mux. FrontStandsFor (front_of table mux) s) none here in
      let same : s ≡ unshared s.world = λ i. record { muxes = at.muxes i; world = s.world; calls = at.calls i } in
      subst (λ mux. P (front_of new mux) s) (sym none) (subst (P (front_of new None)) (sym same) (holds s.world at.world))

  -- where legs may
  pub by_shared : (calls now : List (Option Known)) → mux ≡ Some calls → ((w : World) → TableStandsFor table w → P (sharing new now) (shared w calls)) → P (front_of new (Some now)) s
  by_shared calls now some holds =
      let at : FrontStandsFor (front_of table (Some calls)) s = subst (λ mux. FrontStandsFor (front_of table mux) s) some here in
      let same : s ≡ shared s.world calls = λ i. record { muxes = at.muxes i; world = s.world; calls = at.calls i } in
      subst (P (front_of new (Some now))) (sym same) (holds s.world at.world)

  -- and what is known of them stays
  pub by_same : (calls : List (Option Known)) → mux ≡ Some calls → ((w : World) → TableStandsFor table w → P (sharing new calls) (shared w calls)) → P (front_of new mux) s
  by_same calls some holds = subst (λ mux. P (front_of new mux) s) (sym some) (by_shared calls calls some holds)

-- a fact of a result, by another
pub on_ok : {X E : Type 0} (P Q : Type 0) (r : Result X E) → (P → Q) → OnOk r P → OnOk r Q
on_ok P Q (Ok x) f p = f p
on_ok P Q (Err e) f p = tt

pub on_err : {X E : Type 0} (P Q : Type 0) (r : Result X E) → (P → Q) → OnErr r P → OnErr r Q
on_err P Q (Ok x) f p = tt
on_err P Q (Err e) f p = f p

pub on_both_err : {X E : Type 0} (P Q R : Type 0) (r : Result X E) → (P → Q → R) → OnErr r P → OnErr r Q → OnErr r R
on_both_err P Q R (Ok x) f p q = tt
on_both_err P Q R (Err e) f p q = f p q

-- ---- where memory was wanting

module _ (front : FrontValue) (table new : TableValue) (mux : Option (List (Option Known))) (is : front_of table mux ≡ front) where
  -- the world of the front is the table's
  pub its_world : (s : State) → FrontStandsFor front s → TableStandsFor table s.world
  its_world s stands = subst (λ (f : FrontValue). TableStandsFor f.table s.world) (sym is) stands.world

  pub as_it_was : new ≡ table → front_of new mux ≡ front
  as_it_was same = ap (λ t. front_of t mux) same ∙ is

  pub kept_or_untold : (calls now : List (Option Known)) (es : List Event) → mux ≡ Some calls → now ≡ calls → (new ≡ table) ⊎ ((w : World) → TableStandsFor table w → IsUntold new w es)
      → (front_of new (Some now) ≡ front) ⊎ IsTakenUntold front (front_of new (Some now)) es
  kept_or_untold calls now es some known either =
      let was : sharing table calls ≡ front = ap (front_of table) (sym some) ∙ is in
      elim either [
        | inl same ↦ inl ((λ i. sharing (same i) (known i)) ∙ was)
        | inr untold ↦ inr (record {
          muxes = ap (λ (f : FrontValue). f.muxes) (sym was);
          known = ap (sharing new) known ∙ ap (λ (f : FrontValue). record f { table = new }) was;
          untold = λ s stands. untold s.world (its_world s stands);
        })
      ]

-- ---- where no leg may share its ports

module _ (table : TableValue) (w : World) where
  after : (es : List Event) → TableStandsFor table (world_after w es) → FrontStandsFor (front_of table None) (state_after (unshared w) es)
  after es stands = subst (FrontStandsFor (front_of table None)) (sym (unshared_after w es)) (record { muxes = refl; calls = refl; world = stands })

  pub unshared_step : (told : List Outcome) (es : List Event) → tables.IsTold told table w es → IsTold told (front_of table None) (unshared w) es
  unshared_step told es is = (is.0 ∙ sym (unshared_told w es), after es is.1)

  pub unshared_datagram : (port : ℕ) (from : Address) (octets : List ℕ) (handled : Handled) → handling.IsHandled w port from octets handled table
      → IsHandled (unshared w) port from octets handled (front_of table None)
  unshared_datagram port from octets handled is = record {
    told = is.told ∙ sym (unshared_told w (Datagram port from (as_octets octets) ∷ []));
    back = is.back;
    stands = after (Datagram port from (as_octets octets) ∷ []) is.stands;
  }

  pub unshared_batch : (came news : List Arrival) → batches.IsBatched w came news table → IsBatched (unshared w) came news (front_of table None)
  unshared_batch came news is = record { told = is.told ∙ sym (unshared_told w (map arrived came)); stands = after (map arrived came) is.stands }

-- ---- a signal

pub shared_step : (calls : List (Option Known)) (w : World) (signal : Signal) (table : TableValue) (told : List Outcome) → told ≡ outcomes_from w (Signalled signal ∷ [])
    → TableStandsFor table (world_after w (Signalled signal ∷ []))
    → IsTold (signalled signal calls told).told (sharing table (signalled signal calls told).calls) (shared w calls) (Signalled signal ∷ [])
shared_step calls w signal table told is stands =
    let same : told ≡ (step w (Signalled signal)).outcomes = is ∙ append-nil (step w (Signalled signal)).outcomes in
    subst (λ (told : List Outcome). IsTold (signalled signal calls told).told (sharing table (signalled signal calls told).calls) (shared w calls) (Signalled signal ∷ [])) (sym same)
    (sym (append-nil (signalled signal calls (step w (Signalled signal)).outcomes).told), record { muxes = refl; calls = refl; world = stands })

told_count : (signal : Signal) (calls : List (Option Known)) (os : List Outcome) → length (signalled signal calls os).told ≡ length os
told_count (Answered id noise text) calls [] = refl
told_count (Answered id noise text) calls (o ∷ os) = refl
told_count other calls os = refl

-- the same of a line's signal, where the mux has changed outcomes in their place
pub line_step : (calls now : List (Option Known)) (w : World) (line : lines.Signal) (table : TableValue) (told slice outs : List Outcome) → signal_lacks_noise line ≡ false
    → tables.IsTold told table w (events_of_signal line) → slice ≡ told → now ≡ (signalled (signal_of line) calls slice).calls → outs ≡ (signalled (signal_of line) calls slice).told
    → IsTold (take (length told) (outs ++ drop (length outs) told)) (sharing table now) (shared w calls) (events_of_signal line)
line_step calls now w line table told slice outs noise is same now_is outs_is =
    let signal : Signal = signal_of line in
    let events : events_of_signal line ≡ Signalled signal ∷ [] = ap (λ lacks. cond lacks [] (Signalled signal ∷ [])) noise in
    let table_is = subst (λ (es : List Event). tables.IsTold told table w es) events is in
    let outs_are : outs ≡ (signalled signal calls told).told = outs_is ∙ ap (λ (os : List Outcome). (signalled signal calls os).told) same in
    let in_place : take (length told) (outs ++ drop (length outs) told) ≡ (signalled signal calls told).told =
    ap (λ n. take n (outs ++ drop (length outs) told)) (sym (ap (λ (os : List Outcome). length os) outs_are ∙ told_count signal calls told)) ∙ take-append_seam outs (drop (length outs) told) ∙ outs_are in
    subst (IsTold (take (length told) (outs ++ drop (length outs) told)) (sharing table now) (shared w calls)) (sym events)
    (subst (λ (k : List (Option Known)). IsTold (take (length told) (outs ++ drop (length outs) told)) (sharing table k) (shared w calls) (Signalled signal ∷ []))
    (sym (now_is ∙ ap (λ (os : List Outcome). (signalled signal calls os).calls) same))
    (subst (λ (os : List Outcome). IsTold os (sharing table (signalled signal calls told).calls) (shared w calls) (Signalled signal ∷ [])) (sym in_place)
    (shared_step calls w signal table told table_is.0 table_is.1)))

-- ---- a datagram

pub end_told : (calls : List (Option Known)) (port at : ℕ) (octets : List ℕ) (end : End) → outcome_by port octets (departed calls end) ≡ told_at calls port (outcome_by at octets end)
end_told calls port at octets (ends.Out by to) = refl
end_told calls port at octets (ends.Dropped cause) = refl

still_back : (calls : List (Option Known)) (octets pad : List ℕ) (end : End) → IsBack octets pad end → IsBack octets pad (departed calls end)
still_back calls octets pad (ends.Out by to) back = tt
still_back calls octets pad (ends.Dropped cause) back = back

pub shared_datagram : (calls : List (Option Known)) (w : World) (port at : ℕ) (from : Address) (octets : List ℕ) (handled : Handled) (table : TableValue)
    → at ≡ arrived_port calls port (as_octets octets).items → handling.IsHandled w at from octets handled table
    → IsHandled (shared w calls) port from octets (record { pad = handled.pad; end = departed calls handled.end }) (sharing table calls)
shared_datagram calls w port at from octets handled table at_is is =
    let comes : ℕ = arrived_port calls port (as_octets octets).items in
    let outcomes : outcome_by at handled.pad handled.end ∷ [] ≡ (step w (Datagram comes from (as_octets octets))).outcomes =
    is.told ∙ append-nil (step w (Datagram at from (as_octets octets))).outcomes ∙ ap (λ n. (step w (Datagram n from (as_octets octets))).outcomes) at_is in
    record {
      told = ap (λ (o : Outcome). o ∷ []) (end_told calls port at handled.pad handled.end) ∙ ap (λ (os : List Outcome). map (told_at calls port) os) outcomes ∙ sym (append-nil (map (told_at calls port) (step w (Datagram comes from (as_octets octets))).outcomes));
      back = still_back calls octets handled.pad handled.end is.back;
      stands = record {
        muxes = refl;
        calls = refl;
        world = subst (λ n. TableStandsFor table (step w (Datagram n from (as_octets octets))).world) at_is is.stands;
      };
    }

-- a datagram tells one outcome
pub one_told : (w : World) (port : ℕ) (from : Address) (octets : Octets) → (o : Outcome) × ((step w (Datagram port from octets)).outcomes ≡ o ∷ [])
one_told w port from octets = at (call_at w port)
  where
    given : (g : Given) → (o : Outcome) × ((given_to w port g).outcomes ≡ o ∷ [])
    given (Drops cause) = (_, refl)
    given (Puts p) = (_, refl)

    at : (c : Option Call) → (o : Outcome) × ((arrived_at w port from octets.items c).outcomes ≡ o ∷ [])
    at None = (_, refl)
    at (Some c) = given (arrived_in w.moment port from octets.items c)
