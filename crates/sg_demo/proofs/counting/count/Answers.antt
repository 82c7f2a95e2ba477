use Rattle.std.proofs.Common.{◌≡◌, ℕ, List, Option, sym, ap, ◌∙◌, subst}
use Rattle.sg_outcome.specs.declared.outcomes.Outcome.{Outcome}
use Rattle.sg_table.specs.Batches.{octets_of}
use Rattle.sg_table.specs.Handling.{outcome_by}
use Rattle.sg_call.specs.declared.handled.End.{End}
use Rattle.sg_demo.specs.Counting.{counted_of, plain_counted}
use Rattle.sg_demo.specs.Standing.{CountStands, told_as, told_of_end}
use Rattle.sg_demo.specs.declared.origin.Origin.{Origin}
use Rattle.sg_demo.proofs.Acting.{on_ok}
use Rattle.sg_demo.proofs.counting.count.Goals as goal

pub returns-in-Plain-clause-counted : goal.returns-in-Plain-clause-counted
returns-in-Plain-clause-counted c =
    let a = c.args.arrival.now in
    let told : told_as a ≡ outcome_by a.port c.in-Some-Some.pad c.in-Some-Some.end =
    ap (λ (p : Option (List ℕ)). told_of_end a.port (octets_of p) a.end) c.in-Some-Some.is-0 ∙ ap (λ (x : Option End). told_of_end a.port c.in-Some-Some.pad x) c.in-Some-Some.is-1 in
    on_ok c.count_plain.result c.count_plain.ensures.counted (λ counts cs stands handled.
    subst (λ (o : Origin). CountStands c.count_plain.new.callers c.count_plain.new.summary (counted_of o (told_as a) (record { callers = cs; summary = c.args.summary.now }))) (sym c.in-Plain.is)
    (subst (λ (t : Outcome). CountStands c.count_plain.new.callers c.count_plain.new.summary (plain_counted c.in-Plain.position t (record { callers = cs; summary = c.args.summary.now }))) (sym told) (counts cs a.port stands)))
