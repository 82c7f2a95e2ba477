use Rattle.std.proofs.Common.{◌≡◌, ◌+◌, ◌*◌, ◌^◌, ℕ, ap, ◌∙◌, subst, arith}
use Rattle.sg_table.specs.Standing.{TableStandsFor}
use Rattle.sg_demo.specs.Demonstration.{Demo, calls_made, with_rounds, world_of}
use Rattle.sg_demo.specs.Going.{DemoStandsFor}
use Rattle.sg_demo.proofs.Acting.{on_err}
use Rattle.sg_demo.proofs.Prefixes.{call_in_whole, called_is, no_rounds, round_in_whole, round_is, whole_is}
use Rattle.sg_demo.proofs.Within.{more_within}
use Rattle.sg_demo.proofs.demonstration.gated_traffic.Goals as goal

pub loop-number-init : goal.loop-number-init
loop-number-init g c = (c.new-demo.ensures.stands c.args.table.now c.requires.empty, omega (arith, c.new-demo.ensures.size), c.new-demo.ensures.within)

pub call-requires : goal.call-requires
call-requires g c = record { within = omega (arith, c.loop-number.invariant.2.calls, c.loop-number-test.true, c.requires.most) }

pub returns-in_err-call-clause-failed : goal.returns-in_err-call-clause-failed
returns-in_err-call-clause-failed g c =
    on_err c.from_residual.result
    (call_in_whole c.call.new.table c.loop-number.number (c.from.result + 1) c.args.calls c.args.start (ap (λ (n : ℕ). n + 1) c.from.ensures) c.loop-number-test.true
    (c.in_err-call.ensures.failed (calls_made c.loop-number.number c.args.start) c.loop-number.invariant.0))

pub loop-number-preserved : goal.loop-number-preserved
loop-number-preserved g c = (
  subst (λ (d : Demo). DemoStandsFor c.call.new.self c.call.new.table d) (called_is c.loop-number.number (c.from.result + 1) c.args.start (ap (λ (n : ℕ). n + 1) c.from.ensures))
      (c.in_ok-call.ensures.called (calls_made c.loop-number.number c.args.start) c.loop-number.invariant.0),
  omega (arith, c.loop-number.invariant.1, c.call.ensures.size),
  c.call.ensures.within c.loop-number.number c.loop-number.invariant.2,
)

pub loop-count-init : goal.loop-count-init
loop-count-init g c =
    let all : c.loop-number.number ≡ c.args.calls = omega (arith, c.loop-number-test.false, c.loop-number.auto.number-end) in (
      subst (λ (d : Demo). DemoStandsFor c.loop-number.demo c.loop-number.table d) (no_rounds c.loop-number.number c.args.calls c.args.start all) c.loop-number.invariant.0,
      omega (arith, c.loop-number.invariant.1, all, c.requires.most),
      more_within c.loop-number.number (256 + 1024 * 0) c.loop-number.demo.summary (omega (arith, all, c.requires.most)) c.loop-number.invariant.2,
    )

pub round-requires-clause-few : goal.round-requires-clause-few
round-requires-clause-few g c = λ lifetimes outlive. c.loop-count.invariant.1

pub round-requires-clause-within : goal.round-requires-clause-within
round-requires-clause-within g c = λ lifetimes outlive. more_within (256 + 1024 * c.loop-count._count) (2 ^ 61) c.loop-count.demo.summary (omega (arith, c.loop-count-test.true)) c.loop-count.invariant.2

pub returns-in_err-round-clause-failed : goal.returns-in_err-round-clause-failed
returns-in_err-round-clause-failed g c =
    on_err c.from_residual-in_err-round.result
    (round_in_whole c.round.new.table c.loop-count._count c.args.calls c.args.start c.loop-count-test.true
    (c.in_err-round.ensures.failed (with_rounds c.loop-count._count (calls_made c.args.calls c.args.start)) c.loop-count.invariant.0))

pub loop-count-preserved : goal.loop-count-preserved
loop-count-preserved g c = (
  subst (λ (d : Demo). DemoStandsFor c.round.new.self c.round.new.table d) (round_is c.loop-count._count (calls_made c.args.calls c.args.start))
      (c.in_ok-round.ensures.round (with_rounds c.loop-count._count (calls_made c.args.calls c.args.start)) c.loop-count.invariant.0),
  omega (arith, c.loop-count.invariant.1, c.round.ensures.size),
  more_within (256 + 1024 * c.loop-count._count + 1024) (256 + 1024 * (c.loop-count._count + 1)) _ (omega arith) (c.round.ensures.within (256 + 1024 * c.loop-count._count) c.loop-count.invariant.2),
)

pub returns-clause-summary : goal.returns-clause-summary
returns-clause-summary g c =
    let all : c.loop-count._count ≡ 320 = omega (arith, c.loop-count-test.false, c.loop-count.auto._count-end) in
    c.loop-count.invariant.0.summary ∙ ap (λ (d : Demo). d.summary) (whole_is c.loop-count._count c.args.calls c.args.start all)

pub returns-clause-table : goal.returns-clause-table
returns-clause-table g c =
    let all : c.loop-count._count ≡ 320 = omega (arith, c.loop-count-test.false, c.loop-count.auto._count-end) in
    subst (λ (d : Demo). TableStandsFor c.loop-count.table (world_of d)) (whole_is c.loop-count._count c.args.calls c.args.start all) c.loop-count.invariant.0.taken
