use Rattle.std.proofs.Common.{◌+◌, sym, subst, drop, arith}
use Rattle.std.proofs.Math.ListN.{drop_of_length-le}
use Rattle.sg_agreement.proofs.Walks.{split_at}
use Rattle.sg_leg.specs.Open.{IsBundleIf}
use Rattle.sg_leg.specs.Pairs.{EachPair}
use Rattle.sg_leg.proofs.NotedMessages.{notes_step, notes_end}
use Rattle.sg_leg.proofs.noting.note_bundles.Goals as goal

pub loop-bundle-preserved : goal.loop-bundle-preserved
loop-bundle-preserved c = (
  (λ pairs cs each.
      let p = c.loop-bundle.invariant.0 pairs cs each in
      notes_step pairs c.bundle-item.result (drop (c.loop-bundle.bundle-index + 1) c.args.bundles.now) p.0 c.loop-bundle.seen c.note_if.new.seen _
      (subst (λ l. EachPair (IsBundleIf pairs) l p.0) (split_at c.loop-bundle.bundle-index c.bundle-item.result c.args.bundles.now c.loop-bundle-test.true (sym c.bundle-item.is)) p.1)
      (c.note_if.ensures.notes pairs) p.2),
  (let a = c.loop-bundle.invariant.1 in let b = c.note_if.ensures.most in omega (arith, a, b)),
)

pub returns : goal.returns
returns c = λ pairs cs each.
    let p = c.loop-bundle.invariant.0 pairs cs each in
    notes_end pairs p.0 c.loop-bundle.seen _ (subst (λ l. EachPair (IsBundleIf pairs) l p.0) (drop_of_length-le c.args.bundles.now c.loop-bundle-test.false) p.1) p.2
