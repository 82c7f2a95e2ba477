use Rattle.std.proofs.Common.{drop, map, sym, ◌+◌, ◌∙◌, arith}
use Rattle.std.proofs.Math.ListN.{drop_of_length-le}
use Rattle.std.specs.Vec.{vec_len}
use Rattle.sg_agreement.proofs.Walks.{split_at}
use Rattle.sg_keys.specs.Reused.{given}
use Rattle.sg_leg.specs.Planned.{planned_sides}
use Rattle.sg_leg.proofs.Planning.{keys_next, will_be_all, will_next}
use Rattle.sg_leg.proofs.settling.prepare.Goals as goal

pub loop-m-preserved : goal.loop-m-preserved
loop-m-preserved c =
    let is = split_at c.loop-m.m c.index-media-m.result c.args.media.now c.loop-m-test.true (sym c.index-media-m.is) in
    let later = drop (c.loop-m.m + 1) c.args.media.now in (
      keys_next c.index-media-m.result _ later (map given c.loop-m.keys.items) (map given c.add.new.keys.items) _ is c.in_ok-add.ensures.given c.loop-m.invariant.0,
      will_next c.loop-m.m c.args.first c.args.media.now _ later c.index-media-m.result (planned_sides c.loop-m.sides.items) (planned_sides c.add.new.sides.items) (vec_len c.loop-m.keys) (vec_len c.add.new.keys)
          is c.loop-m.invariant.1 c.in_ok-add.ensures.next,
      (let a = c.loop-m.invariant.2 in let b = c.in_ok-add.ensures.four in omega (arith, a, b)),
      c.in_ok-add.ensures.capacity ∙ c.loop-m.invariant.3,
      (let a = c.loop-m.invariant.4 in let b = c.in_ok-add.ensures.few in omega (arith, a, b)),
    )

pub returns-clause-planned : goal.returns-clause-planned
returns-clause-planned c = λ call generation.
    will_be_all c.loop-m.m c.args.first c.args.media.now (planned_sides c.loop-m.sides.items) (vec_len c.loop-m.keys) (drop c.loop-m.m c.args.media.now)
    (drop_of_length-le c.args.media.now c.loop-m-test.false) c.loop-m.invariant.1 call generation
