use Rattle.std.proofs.Common.{◌≡◌, ℕ, ◌+◌, List, length}
use Rattle.std.specs.List.{AllZip, AllByRecursion}
use Rattle.sg_table.specs.Batches.{told_of}
use Rattle.sg_demo.specs.Callers as demo
use Rattle.sg_demo.specs.Counting.{counted}
use Rattle.sg_demo.specs.Standing.{CallerStandsFor, IsHandled, IsWithin}
use Rattle.sg_demo.proofs.Counts.{IsCounting}
use Rattle.sg_demo.proofs.counting.count_all.Given as goal

abbrev pub invariant-loop-place : goal.invariant-loop-place
invariant-loop-place l =
    ((cs : List demo.Caller) → AllZip CallerStandsFor l.fn.callers cs → AllByRecursion IsHandled l.arrivals
    → IsCounting l.origins l.arrivals (counted l.origins (told_of l.arrivals) (record { callers = cs; summary = l.fn.summary })) l.callers l.summary l.place)
    × ((n : ℕ) → IsWithin n l.fn.summary → IsWithin (n + l.place) l.summary) × (length l.callers ≡ length l.fn.callers)
