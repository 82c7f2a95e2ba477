-- From the start on, a state goes through the run that the definitions of shared ports say.
use Rattle.std.proofs.Common.{◌≡◌, Bool, true, false, List, [], ◌∷◌, ◌++◌, Option, refl, ap, ◌∙◌}
use Rattle.std.specs.List.{flat_map}
use Rattle.sg_front.proofs.Sequences.{world_came}
use Rattle.sg_front.specs.States.{State, came_from, start, state_after, told_from, unshared}
use Rattle.sg_gateway.specs.Events.{outcomes_from}
use Rattle.sg_gateway.specs.Runs.{world_after}
use Rattle.sg_gateway.specs.Step.{Event, step}
use Rattle.sg_gateway.specs.World.{World, empty}
use Rattle.sg_mux.specs.Muxed.{nobody}
use Rattle.sg_mux.specs.Via.{events_from, events_in, muxing_after, outcomes_in, passages_from, stepped, via}
use Rattle.sg_mux.specs.declared.known.Known.{Known}
use Rattle.sg_outcome.specs.declared.outcomes.Outcome.{Outcome}

-- ---- where no leg may share its ports

pub unshared_told : (w : World) (es : List Event) → told_from (unshared w) es ≡ outcomes_from w es
unshared_told w [] = refl
unshared_told w (e ∷ es) = ap (λ (l : List Outcome). (step w e).outcomes ++ l) (unshared_told (step w e).world es)

pub unshared_after : (w : World) (es : List Event) → state_after (unshared w) es ≡ unshared (world_after w es)
unshared_after w [] = refl
unshared_after w (e ∷ es) = unshared_after (step w e).world es

unshared_came : (w : World) (es : List Event) → came_from (unshared w) es ≡ es
unshared_came w [] = refl
unshared_came w (e ∷ es) = ap (λ (l : List Event). e ∷ l) (unshared_came (step w e).world es)

-- ---- where legs may

abbrev shared : World → List (Option Known) → State
shared w calls = record { muxes = true; world = w; calls = calls }

shared_told : (w : World) (calls : List (Option Known)) (es : List Event) → told_from (shared w calls) es ≡ flat_map (λ p. p.told) (passages_from w calls es)
shared_told w calls [] = refl
shared_told w calls (e ∷ es) = ap (λ (l : List Outcome). (muxing_after w calls e).told ++ l) (shared_told (stepped w calls e).world (muxing_after w calls e).calls es)

shared_came : (w : World) (calls : List (Option Known)) (es : List Event) → came_from (shared w calls) es ≡ events_from w calls es
shared_came w calls [] = refl
shared_came w calls (e ∷ es) = ap (λ (l : List Event). via calls e ∷ l) (shared_came (stepped w calls e).world (muxing_after w calls e).calls es)

-- ---- from the start on

pub told_in : (muxes : Bool) (events : List Event) → told_from (start muxes) events ≡ outcomes_in muxes events
told_in false events = unshared_told empty events
told_in true events = shared_told empty nobody events

pub came_in : (muxes : Bool) (events : List Event) → came_from (start muxes) events ≡ events_in muxes events
came_in false events = unshared_came empty events
came_in true events = shared_came empty nobody events

pub world_in : (muxes : Bool) (events : List Event) → (state_after (start muxes) events).world ≡ world_after empty (events_in muxes events)
world_in muxes events = world_came (start muxes) events ∙ ap (world_after empty) (came_in muxes events)
