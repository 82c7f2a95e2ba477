-- Batches one after the other.
use Rattle.std.proofs.Common.{◌≡◌, List, [], ◌∷◌, ◌++◌, map, flat_map, refl, sym, ap, ap₂, ◌∙◌, subst}
use Rattle.std.proofs.lemmas.Grind.{flat_map-append}
use Rattle.std.proofs.lemmas.List.{map-append}
use Rattle.std.specs.List.{AllByRecursion}
use Rattle.sg_gateway.specs.Events.{outcomes_from}
use Rattle.sg_gateway.specs.Runs.{Turn, turns_from, turn_of, world_after}
use Rattle.sg_gateway.specs.Step.{Event, step}
use Rattle.sg_gateway.specs.World.{World}
use Rattle.sg_table.specs.Batches.{IsBatched, answered, arrived, handled_at, told_by, told_of, with_handled}
use Rattle.sg_table.specs.Values.{TableValue}
use Rattle.sg_table.specs.declared.arrival.Arrival.{Arrival}
use Rattle.sg_demo.specs.Rounds.{arrival_of}
use Rattle.sg_demo.specs.Standing.{IsHandled}
use Rattle.sg_demo.specs.Turns.{Arriving, event_of}

turns_from-append : (w : World) (es fs : List Event) → turns_from w (es ++ fs) ≡ turns_from w es ++ turns_from (world_after w es) fs
turns_from-append w [] fs = refl
turns_from-append w (e ∷ es) fs = ap (λ (l : List Turn). turn_of w e ∷ l) (turns_from-append (step w e).world es fs)

pub world_after-append : (w : World) (es fs : List Event) → world_after w (es ++ fs) ≡ world_after (world_after w es) fs
world_after-append w [] fs = refl
world_after-append w (e ∷ es) fs = world_after-append (step w e).world es fs

pub outcomes_from-append : (w : World) (es fs : List Event) → outcomes_from w (es ++ fs) ≡ outcomes_from w es ++ outcomes_from (world_after w es) fs
outcomes_from-append w es fs = ap (flat_map (λ (t : Turn). t.outcomes)) (turns_from-append w es fs) ∙ flat_map-append (λ (t : Turn). t.outcomes) (turns_from w es) (turns_from (world_after w es) fs)

answered-append : (w : World) (xs ys : List Arrival) → answered w (xs ++ ys) ≡ answered w xs ++ answered (world_after w (map arrived xs)) ys
answered-append w [] ys = refl
answered-append w (x ∷ xs) ys = ap (λ (l : List Arrival). with_handled x (handled_at w x) ∷ l) (answered-append (step w (arrived x)).world xs ys)

told_of-append : (xs ys : List Arrival) → told_of (xs ++ ys) ≡ told_of xs ++ told_of ys
told_of-append xs ys = flat_map-append (λ (a : Arrival). told_by a.port a.pad a.end) xs ys

-- two batches are one of both
pub batched_both : (w : World) (xs xs' ys ys' : List Arrival) (t u : TableValue) → IsBatched w xs xs' t → IsBatched (world_after w (map arrived xs)) ys ys' u → IsBatched w (xs ++ ys) (xs' ++ ys') u
batched_both w xs xs' ys ys' t u a b = record {
  are = ap₂ ◌++◌ a.are b.are ∙ sym (answered-append w xs ys);
  told = told_of-append xs' ys' ∙ ap₂ ◌++◌ a.told b.told ∙ sym (outcomes_from-append w (map arrived xs) (map arrived ys)) ∙ ap (outcomes_from w) (sym (map-append arrived xs ys));
  stands = subst (λ v. Rattle.sg_table.specs.Standing.TableStandsFor u v) (sym (world_after-append w (map arrived xs) (map arrived ys)) ∙ ap (world_after w) (sym (map-append arrived xs ys))) b.stands;
}

-- what was answered has its pad and its end
pub answered_handled : (w : World) (xs : List Arrival) → AllByRecursion IsHandled (answered w xs)
answered_handled w [] = tt
answered_handled w (x ∷ xs) = (record { pad = (handled_at w x).pad; has_pad = refl; end = (handled_at w x).end; has_end = refl }, answered_handled (step w (arrived x)).world xs)

-- what arrives, as events
pub events_are : (xs : List Arriving) → map arrived (map arrival_of xs) ≡ map event_of xs
events_are [] = refl
events_are (x ∷ xs) = ap (λ (l : List Event). event_of x ∷ l) (events_are xs)
