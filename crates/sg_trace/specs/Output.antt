-- What is written of outcomes.
use Rattle.std.specs.Prelude.{◌≡◌, ℕ, List, ◌++◌, Result, Ok, Err}
use Rattle.std.specs.List.{flat_map}
use Rattle.sg_trace.specs.declared.status.Status.{Status}
use Rattle.sg_trace.specs.declared.status.Status.TheVariants.{Write, NoMemory}
use Rattle.sg_edge.specs.Told.{Tally, Wrote}
use Rattle.sg_gateway.specs.Events.{outcomes_from}
use Rattle.sg_gateway.specs.Runs.{outcomes}
use Rattle.sg_gateway.specs.Step.{Event}
use Rattle.sg_gateway.specs.World.{World}
use Rattle.sg_outcome.specs.declared.outcomes.Outcome.{Outcome}
use Rattle.sg_outcome.specs.OutcomeText.{outcome_line}

-- the lines of outcomes, joined
abbrev pub text : List Outcome → List ℕ
text told = flat_map outcome_line told

-- what the events tell
abbrev pub output : List Event → List ℕ
output events = text (outcomes events)

-- what they tell from a world on
abbrev pub output_from : World → List Event → List ℕ
output_from w events = text (outcomes_from w events)

abbrev pub IsPrefixOf : {X : Type 0} → List X → List X → Type 0
IsPrefixOf {X} prefix all = (rest : List X) × (all ≡ prefix ++ rest)

-- a prefix of the octets was written
abbrev pub WrotePrefix : Tally → Tally → List ℕ → Type 0
WrotePrefix written written' octets = (prefix : List ℕ) × IsPrefixOf prefix octets × Wrote written written' prefix

-- The octets were written, or a prefix of them.
abbrev pub IsWritten : Result (Unit {0}) Status → Tally → Tally → List ℕ → Type 0
IsWritten (Ok u) written written' octets = Wrote written written' octets
IsWritten (Err Write) written written' octets = WrotePrefix written written' octets
IsWritten (Err NoMemory) written written' octets = WrotePrefix written written' octets
IsWritten (Err other) written written' octets = ⊥
