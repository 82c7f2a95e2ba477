use Rattle.std.proofs.Common.{◌+◌, ◌^◌, get_or, refl, ◌∙◌, arith}
use Rattle.sg_demo.specs.declared.origin.Origin.TheVariants.{Peer}
use Rattle.sg_demo.proofs.Counts.{counting_ends, counting_goes}
use Rattle.sg_demo.proofs.Within.{more_within}
use Rattle.sg_demo.proofs.counting.count_all.Goals as goal

pub count-requires : goal.count-requires
count-requires c = record {
  within = more_within (2 ^ 62 + c.loop-place.place) (2 ^ 63) c.loop-place.summary (omega (arith, c.min-place-end.ensures, c.loop-place-test.true, c.requires.few)) (c.loop-place.invariant.1 (2 ^ 62) c.requires.within);
}

pub returns-in_err-count-clause-within : goal.returns-in_err-count-clause-within
returns-in_err-count-clause-within c = λ n w.
    more_within (n + c.loop-place.place + 1) (n + 512) c.count.new.summary (omega (arith, c.min-place-end.ensures, c.loop-place-test.true, c.requires.few))
    (c.count.ensures.within (n + c.loop-place.place) (c.loop-place.invariant.1 n w))

pub loop-place-preserved : goal.loop-place-preserved
loop-place-preserved c =
    let origins = c.args.origins.now in
    let place = c.loop-place.place in (
      λ cs stands handled.
          counting_goes origins c.args.arrivals.now _ c.loop-place.callers c.count.new.callers c.loop-place.summary c.count.new.summary place (get_or origins place Peer) Peer c.index-arrivals-place.result
          (omega (arith, c.min-place-end.ensures, c.loop-place-test.true)) (omega (arith, c.min-place-end.ensures, c.loop-place-test.true)) refl c.index-arrivals-place.is c.in_ok-count.ensures.counted
          (c.loop-place.invariant.0 cs stands handled),
      λ n w. more_within (n + place + 1) (n + (place + 1)) c.count.new.summary (omega arith) (c.count.ensures.within (n + place) (c.loop-place.invariant.1 n w)),
      c.count.ensures.size ∙ c.loop-place.invariant.2,
    )

pub returns-clause-counted : goal.returns-clause-counted
returns-clause-counted c = λ cs stands handled.
    counting_ends c.args.origins.now c.args.arrivals.now _ c.loop-place.callers c.loop-place.summary c.loop-place.place (omega (arith, c.min-place-end.ensures, c.loop-place-test.false)) (c.loop-place.invariant.0 cs stands handled)

pub returns-clause-within : goal.returns-clause-within
returns-clause-within c = λ n w.
    more_within (n + c.loop-place.place) (n + 512) c.loop-place.summary (omega (arith, c.min-place-end.ensures, c.loop-place.auto.place-end, c.requires.few)) (c.loop-place.invariant.1 n w)
