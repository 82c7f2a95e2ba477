-- A tick to the last moment tells nothing and leaves the state as it is.
use Rattle.std.proofs.Common.{◌≡◌, ℕ, Bool, true, false, List, [], ◌∷◌, ◌++◌, map, Option, refl, sym, ap, ◌∙◌, subst}
use Rattle.std.proofs.lemmas.List.{append-nil}
use Rattle.sg_front.proofs.Sequences.{world_came}
use Rattle.sg_front.specs.States.{FrontStandsFor, FrontValue, State, came_from, comes, muxing_next, next, state_after, told_from}
use Rattle.sg_base.specs.declared.addresses.Address.{Address}
use Rattle.sg_gateway.proofs.Rested.{are_rested, arrived_moment, tick_again}
use Rattle.sg_gateway.specs.Datagrams.{Happening}
use Rattle.sg_gateway.specs.Octets.{Octets, as_octets}
use Rattle.sg_gateway.specs.Runs.{world_after}
use Rattle.sg_gateway.specs.Signals.{Tick}
use Rattle.sg_gateway.specs.Step.{Event, Datagram, Signalled, step}
use Rattle.sg_gateway.specs.World.{World, empty}
use Rattle.sg_mux.specs.Legs.{arrived_port}
use Rattle.sg_mux.specs.Muxed.{signalled}
use Rattle.sg_mux.specs.declared.known.Known.{Known}
use Rattle.sg_table.specs.Batches.{arrived, octets_of}
use Rattle.sg_table.specs.declared.arrival.Arrival.{Arrival}

-- ---- worlds of runs

-- some events, from the empty world on, leave the state's world
abbrev pub IsOfRun : State → Type 0
IsOfRun s = (history : List Event) × (s.world ≡ world_after empty history)

after_behind : (w : World) (es fs : List Event) → world_after (world_after w es) fs ≡ world_after w (es ++ fs)
after_behind w [] fs = refl
after_behind w (e ∷ es) fs = after_behind (step w e).world es fs

pub of_run_after : (s : State) (es : List Event) → IsOfRun s → IsOfRun (state_after s es)
of_run_after s es run = (
  run.0 ++ came_from s es,
  world_came s es ∙ ap (λ (w : World). world_after w (came_from s es)) run.1 ∙ after_behind empty run.0 (came_from s es),
)

pub of_run : (front : FrontValue) (s : State) → FrontStandsFor front s → IsOfRun s
of_run front s stands = (stands.world.history, stands.world.is_after)

-- ---- ticks

module _ (w : World) (calls : List (Option Known)) (now : ℕ) (again : step w (Signalled (Tick now)) ≡ record { outcomes = []; entries = []; world = w }) where
  tick_told : (muxes : Bool) → (muxing_next (record { muxes = muxes; world = w; calls = calls }) (Signalled (Tick now))).told ≡ []
  tick_told false = ap (λ (h : Happening). h.outcomes) again
  tick_told true = ap (λ (h : Happening). h.outcomes) again

  tick_next : (muxes : Bool) → next (record { muxes = muxes; world = w; calls = calls }) (Signalled (Tick now)) ≡ record { muxes = muxes; world = w; calls = calls }
  tick_next false = ap (λ (h : Happening). record { muxes = false; world = h.world; calls = calls }) again
  tick_next true = ap (λ (h : Happening). record { muxes = true; world = h.world; calls = (signalled (Tick now) calls h.outcomes).calls }) again

-- a tick to the last moment
pub record IsQuiet (s : State) (now : ℕ) : Type 0 where
  pub told : told_from s (Signalled (Tick now) ∷ []) ≡ []
  pub left : state_after s (Signalled (Tick now) ∷ []) ≡ s

pub is_quiet : (s : State) (now : ℕ) → IsOfRun s → s.world.moment ≡ now → IsQuiet s now
is_quiet s now run at =
    let in_run : step s.world (Signalled (Tick s.world.moment)) ≡ record { outcomes = []; entries = []; world = s.world } =
    subst (λ (w : World). step w (Signalled (Tick w.moment)) ≡ record { outcomes = []; entries = []; world = w }) (sym run.1) (tick_again (world_after empty run.0) (are_rested run.0)) in
    let again : step s.world (Signalled (Tick now)) ≡ record { outcomes = []; entries = []; world = s.world } =
    subst (λ (n : ℕ). step s.world (Signalled (Tick n)) ≡ record { outcomes = []; entries = []; world = s.world }) at in_run in
    record {
      told = append-nil (muxing_next s (Signalled (Tick now))).told ∙ tick_told s.world s.calls now again s.muxes;
      left = tick_next s.world s.calls now again s.muxes;
    }

-- ---- datagrams

-- a datagram comes as one
comes_datagram : (muxes : Bool) (calls : List (Option Known)) (port : ℕ) (from : Address) (octets : Octets) → (at : ℕ) × (comes muxes calls (Datagram port from octets) ≡ Datagram at from octets)
comes_datagram false calls port from octets = (port, refl)
comes_datagram true calls port from octets = (arrived_port calls port octets.items, refl)

-- and leaves the moment as it is
pub arrivals_moment : (s : State) (ds : List Arrival) → (state_after s (map arrived ds)).world.moment ≡ s.world.moment
arrivals_moment s [] = refl
arrivals_moment s (d ∷ ds) =
    let octets = as_octets (octets_of d.pad) in
    let at = comes_datagram s.muxes s.calls d.port d.from octets in
    arrivals_moment (next s (arrived d)) ds ∙ arrived_moment s.world (comes s.muxes s.calls (arrived d)) at.0 d.from octets at.1
