use Rattle.std.proofs.Common.{◌+◌, ◌*◌, ◌≤◌, vec_len}
use Rattle.sg_demo.specs.Demonstration.{calls_made, with_rounds}
use Rattle.sg_demo.specs.Going.{DemoStandsFor}
use Rattle.sg_demo.specs.Standing.{IsWithin}
use Rattle.sg_demo.proofs.demonstration.gated_traffic.Given as goal

abbrev pub invariant-loop-number : goal.invariant-loop-number
invariant-loop-number g l = DemoStandsFor l.demo l.table (calls_made l.number l.start) × (vec_len l.demo.callers ≤ l.number) × IsWithin l.number l.demo.summary

abbrev pub invariant-loop-count : goal.invariant-loop-count
invariant-loop-count g l = DemoStandsFor l.demo l.table (with_rounds l._count (calls_made l.calls l.start)) × (vec_len l.demo.callers ≤ 256) × IsWithin (256 + 1024 * l._count) l.demo.summary
