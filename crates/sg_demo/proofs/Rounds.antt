-- A demonstration after one round more.
use Rattle.std.proofs.Common.{◌≡◌, ◌+◌, List, ◌++◌, map, sym, ap, ◌∙◌, subst}
use Rattle.std.specs.List.{AllZip, AllByRecursion}
use Rattle.sg_gateway.specs.Events.{outcomes_from}
use Rattle.sg_gateway.specs.Runs.{world_after}
use Rattle.sg_gateway.specs.Step.{Event}
use Rattle.sg_gateway.specs.World.{World, empty}
use Rattle.sg_outcome.specs.declared.outcomes.Outcome.{Outcome}
use Rattle.sg_table.specs.Batches.{IsBatched, arrived, told_of}
use Rattle.sg_table.specs.Standing.{TableStandsFor}
use Rattle.sg_table.specs.Values.{TableValue}
use Rattle.sg_table.specs.declared.arrival.Arrival.{Arrival}
use Rattle.sg_demo.specs.Counting.{Count, counted}
use Rattle.sg_demo.specs.Demonstration as demo
use Rattle.sg_demo.specs.Demonstration.{world_of, with_round}
use Rattle.sg_demo.specs.Going.{DemoStandsFor}
use Rattle.sg_demo.specs.Rounds.{arrival_of}
use Rattle.sg_demo.specs.Standing.{CallerStandsFor, CountStands, IsHandled}
use Rattle.sg_demo.specs.Turns.{Turns, event_of, origin_of, turns_of}
use Rattle.sg_demo.specs.declared.state.Demo.{Demo}
use Rattle.sg_demo.specs.declared.origin.Origin.{Origin}
use Rattle.sg_demo.specs.declared.summary.Summary.{Summary}
use Rattle.sg_demo.proofs.Batching.{world_after-append, events_are, answered_handled}

-- the round's outcomes, counted
counts_are : (w : World) (t : Turns) (before summary : Summary) (origins : List Origin) (arrivals arrivals' : List Arrival) (table : TableValue)
    → origins ≡ map origin_of t.arrivals → arrivals ≡ map arrival_of t.arrivals → summary ≡ before → IsBatched w arrivals arrivals' table
    → counted origins (told_of arrivals') (record { callers = t.callers; summary = summary })
    ≡ counted (map origin_of t.arrivals) (outcomes_from w (map event_of t.arrivals)) (record { callers = t.callers; summary = before })
counts_are w t before summary origins arrivals arrivals' table origins_are arrivals_are summary_is batched =
    let told : told_of arrivals' ≡ outcomes_from w (map event_of t.arrivals) =
    batched.told ∙ ap (λ (l : List Arrival). outcomes_from w (map arrived l)) arrivals_are ∙ ap (λ (l : List Event). outcomes_from w l) (events_are t.arrivals) in
    ap (λ (l : List Origin). counted l (told_of arrivals') (record { callers = t.callers; summary = summary })) origins_are
    ∙ ap (λ (l : List Outcome). counted (map origin_of t.arrivals) l (record { callers = t.callers; summary = summary })) told
    ∙ ap (λ (s : Summary). counted (map origin_of t.arrivals) (outcomes_from w (map event_of t.arrivals)) (record { callers = t.callers; summary = s })) summary_is

pub round_goes : (new : Demo) (table : TableValue) (d : demo.Demo) (summary : Summary) (origins : List Origin) (arrivals arrivals' : List Arrival)
    → new.words ≡ (turns_of d.words d.callers).words
    → origins ≡ map origin_of (turns_of d.words d.callers).arrivals
    → arrivals ≡ map arrival_of (turns_of d.words d.callers).arrivals
    → summary ≡ record d.summary { sealed = d.summary.sealed + (turns_of d.words d.callers).sealed }
    → IsBatched (world_of d) arrivals arrivals' table
    → CountStands new.callers.items new.summary (counted origins (told_of arrivals') (record { callers = (turns_of d.words d.callers).callers; summary = summary }))
    → DemoStandsFor new table (with_round d)
unfolding with_round
round_goes new table d summary origins arrivals arrivals' words_are origins_are arrivals_are summary_is batched count =
    let t = turns_of d.words d.callers in
    let same = counts_are (world_of d) t (record d.summary { sealed = d.summary.sealed + t.sealed }) summary origins arrivals arrivals' table origins_are arrivals_are summary_is batched in
    let world : world_after (world_of d) (map arrived arrivals) ≡ world_after empty (d.events ++ map event_of t.arrivals) =
    ap (λ (l : List Arrival). world_after (world_of d) (map arrived l)) arrivals_are ∙ ap (λ (l : List Event). world_after (world_of d) l) (events_are t.arrivals) ∙ sym (world_after-append empty d.events (map event_of t.arrivals)) in
    record {
      words = words_are;
      callers = subst (λ (k : Count). AllZip CallerStandsFor new.callers.items k.callers) same count.each;
      summary = count.same ∙ ap (λ (k : Count). k.summary) same;
      taken = subst (λ (v : World). TableStandsFor table v) world batched.stands;
    }

-- the arrivals of a batch are handled
pub batch_handled : (w : World) (old new : List Arrival) (table : TableValue) → IsBatched w old new table → AllByRecursion IsHandled new
batch_handled w old new table batched = subst (λ (l : List Arrival). AllByRecursion IsHandled l) (sym batched.are) (answered_handled w old)

-- the table after a round
pub round_taken : (table : TableValue) (d : demo.Demo) (arrivals arrivals' : List Arrival) → arrivals ≡ map arrival_of (turns_of d.words d.callers).arrivals → IsBatched (world_of d) arrivals arrivals' table
    → TableStandsFor table (world_of (with_round d))
unfolding with_round
round_taken table d arrivals arrivals' arrivals_are batched =
    let t = turns_of d.words d.callers in
    subst (λ (v : World). TableStandsFor table v)
    (ap (λ (l : List Arrival). world_after (world_of d) (map arrived l)) arrivals_are ∙ ap (λ (l : List Event). world_after (world_of d) l) (events_are t.arrivals) ∙ sym (world_after-append empty d.events (map event_of t.arrivals))) batched.stands
