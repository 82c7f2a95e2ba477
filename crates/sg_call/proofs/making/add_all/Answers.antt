use Rattle.std.proofs.Common.{◌≡◌, ◌+◌, ◌∙◌, length, ◌++◌, ◌∷◌, [], arith}
use Rattle.sg_call.proofs.AddedRoutes.{adds_next, length_push}
use Rattle.sg_call.proofs.making.add_all.Goals as goal

pub loop-side-preserved : goal.loop-side-preserved
loop-side-preserved c =
    let more : length (c.loop-side.yielded ++ c.in-Some.side ∷ []) ≡ length c.loop-side.yielded + 1 = length_push c.loop-side.yielded c.in-Some.side in
    let one = c.add_side.ensures.one in
    let before = c.loop-side.invariant.1 in (
      adds_next c.args.slot c.loop-side.yielded c.in-Some.side c.args.routes.now.items c.loop-side.routes.items c.add_side.new.routes.items c.loop-side.invariant.0 c.add_side.ensures.adds,
      omega (arith, one, before, more),
      c.add_side.ensures.capacity ∙ c.loop-side.invariant.2,
    )
