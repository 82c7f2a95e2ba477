-- Other orders of a batch, by the steps of the gateway: what an arrival ends with depends on those at the ports of its
-- own call alone, and on their order.
use Rattle.std.specs.Prelude.{◌≡◌, ℕ, Bool, false, List, [], ◌∷◌, ◌++◌, map, filter, All, Option, Some, None, is_none, IsPermutation}
use Rattle.sg_call.specs.declared.handled.End.{End}
use Rattle.sg_gateway.specs.Ports.{call_at, has_port}
use Rattle.sg_gateway.specs.Runs.{turns_from, world_after}
use Rattle.sg_gateway.specs.Step.{Event, Signalled, Datagram, step}
use Rattle.sg_gateway.specs.World.{Call, World}
use Rattle.sg_outcome.specs.declared.outcomes.Outcome.{Outcome}
use Rattle.sg_table.specs.Batches.{arrived, octets_of, told_by}
use Rattle.sg_table.specs.Handling.{IsBack}
use Rattle.sg_table.specs.Standing.{TableStandsFor}
use Rattle.sg_table.specs.Values.{TableValue}
use Rattle.sg_table.specs.declared.arrival.Arrival.{Arrival}

-- the arrivals at a call's ports
abbrev pub at_call : Call → List Arrival → List Arrival
at_call c arrivals = filter (λ a. has_port a.port c) arrivals

-- those at no call's ports
abbrev pub at_no_call : World → List Arrival → List Arrival
at_no_call w arrivals = filter (λ a. is_none (call_at w a.port)) arrivals

-- ---- one arrival

-- those at the ports of this call; none where no call is there
abbrev pub at_its_call : Option Call → List Arrival → List Arrival
at_its_call None arrivals = []
at_its_call (Some c) arrivals = at_call c arrivals

-- those at the ports of the call that has this one
abbrev pub of_call_at : World → ℕ → List Arrival → List Arrival
of_call_at w port arrivals = at_its_call (call_at w port) arrivals

-- an arrival tells after others what it tells after those at the ports of its own call alone
abbrev pub OnlyItsOwnCount : World → Type 0
OnlyItsOwnCount w = (before : List Arrival) (a : Arrival)
    → (step (world_after w (map arrived before)) (arrived a)).outcomes ≡ (step (world_after w (map arrived (of_call_at w a.port before))) (arrived a)).outcomes

-- it has an end and a pad, which holds its octets where it was dropped
abbrev pub IsGivenBack : List ℕ → Option (List ℕ) → Option End → Type 0
IsGivenBack octets (Some pad) (Some end) = IsBack octets pad end
IsGivenBack octets (Some pad) None = ⊥
IsGivenBack octets None end = ⊥

-- an arrival before and after: it tells what its datagram tells in this world, and is what it was besides
pub record HasEnded (w : World) (a b : Arrival) : Type 0 where
  pub port : b.port ≡ a.port
  pub from : b.from ≡ a.from
  pub told : told_by b.port b.pad b.end ≡ (step w (arrived a)).outcomes
  pub back : IsGivenBack (octets_of a.pad) b.pad b.end

-- behind these, each has ended as if only those at the ports of its own call had come before it
abbrev pub HaveEndedAlone : World → List Arrival → List Arrival → List Arrival → Type 0
HaveEndedAlone w before [] [] = Unit {0}
HaveEndedAlone w before (a ∷ old) (b ∷ new) = HasEnded (world_after w (map arrived (of_call_at w a.port before))) a b × HaveEndedAlone w (before ++ a ∷ []) old new
HaveEndedAlone w before [] (b ∷ new) = ⊥
HaveEndedAlone w before (a ∷ old) [] = ⊥

-- ---- other orders

-- Two lists have the same arrivals, and each call's stand in the same order in both; those at no call's ports may
-- stand in any.
pub record AgreeByCall (w : World) (some others : List Arrival) : Type 0 where
  pub calls : All (λ c. at_call c some ≡ at_call c others) w.calls
  pub no_call : IsPermutation (at_no_call w some) (at_no_call w others)

-- a datagram came to such a port
abbrev pub comes_to : (ℕ → Bool) → Event → Bool
comes_to test (Signalled signal) = false
comes_to test (Datagram port from octets) = test port

-- all come one at a time, in order: what each of those tells whose port is such
abbrev pub told_where : (ℕ → Bool) → World → List Arrival → List (List Outcome)
told_where test w arrivals = map (λ t. t.outcomes) (filter (λ t. comes_to test t.event) (turns_from w (map arrived arrivals)))

-- what each of those at the call's ports tells
abbrev pub told_at_call : World → Call → List Arrival → List (List Outcome)
told_at_call w c arrivals = told_where (λ port. has_port port c) w arrivals

-- what each of those at no call's ports tells
abbrev pub told_at_no_call : World → List Arrival → List (List Outcome)
told_at_no_call w arrivals = told_where (λ port. is_none (call_at w port)) w arrivals

-- in every order that keeps each call's own, each tells the same, and the world after them is the same
pub record TellTheSame (w : World) (some others : List Arrival) : Type 0 where
  pub calls : All (λ c. told_at_call w c some ≡ told_at_call w c others) w.calls
  pub no_call : IsPermutation (told_at_no_call w some) (told_at_no_call w others)
  pub world : world_after w (map arrived some) ≡ world_after w (map arrived others)

abbrev pub SameInEveryOrder : World → Type 0
SameInEveryOrder w = (some others : List Arrival) → AgreeByCall w some others → TellTheSame w some others

-- what each of these has told
abbrev pub told_each : List Arrival → List (List Outcome)
told_each arrivals = map (λ a. told_by a.port a.pad a.end) arrivals

-- each has told what it tells in that other order, and the table stands for the world after it
pub record HaveToldAs (w : World) (others new : List Arrival) (table : TableValue) : Type 0 where
  pub calls : All (λ c. told_each (at_call c new) ≡ told_at_call w c others) w.calls
  pub no_call : IsPermutation (told_each (at_no_call w new)) (told_at_no_call w others)
  pub stands : TableStandsFor table (world_after w (map arrived others))

-- the same where the other order keeps each call's own
abbrev pub IsBatchedAs : World → List Arrival → List Arrival → List Arrival → TableValue → Type 0
IsBatchedAs w others old new table = AgreeByCall w old others → HaveToldAs w others new table
