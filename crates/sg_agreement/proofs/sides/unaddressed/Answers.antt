use Rattle.std.proofs.Common.{◌+◌, length, refl, sym, ap, ◌∙◌, subst, arith, drop_of_length-le}
use Rattle.sg_agreement.specs.Described.{unaddressed}
use Rattle.sg_agreement.proofs.Walks.{IsLeft, room, found, further}
use Rattle.sg_agreement.proofs.sides.unaddressed.Goals as goal

pub loop-medium-init : goal.loop-medium-init
loop-medium-init c = record { same = refl; fits = c.requires }

pub returns-then-lacks_address : goal.returns-then-lacks_address
returns-then-lacks_address c =
    found c.args.side c.args.first c.args.media.now c.loop-medium.line c.loop-medium.medium-index c.medium-item.result c.loop-medium.invariant c.loop-medium-test.true c.medium-item.is
    (sym c.lacks_address.ensures ∙ c.if-lacks_address.true)

pub overflow_cast-line : goal.overflow_cast-line
overflow_cast-line c =
    let low = room c.args.side c.args.first c.args.media.now c.loop-medium.line c.loop-medium.medium-index c.medium-item.result c.loop-medium.invariant c.loop-medium-test.true c.medium-item.is in
    let same = ap length c.as_slice.ensures in omega (arith, low, same)

pub overflow_add-line : goal.overflow_add-line
overflow_add-line c =
    let low = room c.args.side c.args.first c.args.media.now c.loop-medium.line c.loop-medium.medium-index c.medium-item.result c.loop-medium.invariant c.loop-medium-test.true c.medium-item.is in
    let same = ap length c.as_slice.ensures in omega (arith, low, same)

pub overflow_add-line-in-loop-medium : goal.overflow_add-line-in-loop-medium
overflow_add-line-in-loop-medium c =
    let low = room c.args.side c.args.first c.args.media.now c.loop-medium.line c.loop-medium.medium-index c.medium-item.result c.loop-medium.invariant c.loop-medium-test.true c.medium-item.is in
    let same = ap length c.as_slice.ensures in omega (arith, low, same)

pub loop-medium-preserved : goal.loop-medium-preserved
loop-medium-preserved c =
    subst (λ n. IsLeft c.args.side c.args.first c.args.media.now (c.loop-medium.line + (1 + n)) (c.loop-medium.medium-index + 1)) (sym (ap length c.as_slice.ensures))
    (further c.args.side c.args.first c.args.media.now c.loop-medium.line c.loop-medium.medium-index c.medium-item.result c.loop-medium.invariant c.loop-medium-test.true c.medium-item.is
    (sym c.lacks_address.ensures ∙ c.if-lacks_address.false))

pub returns : goal.returns
returns c =
    ap (unaddressed c.args.side c.loop-medium.line) (sym (drop_of_length-le c.args.media.now c.loop-medium-test.false)) ∙ c.loop-medium.invariant.same
