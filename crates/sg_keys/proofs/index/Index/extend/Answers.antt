use Rattle.std.proofs.Common.{arith, sym, ◌∙◌, refl, ◌<◌, length}
use Rattle.sg_base.specs.Octets.{same_octets}
use Rattle.sg_keys.specs.Indexed.{octets_of}
use Rattle.sg_keys.proofs.Indexing.{one_more, on_ok}
use Rattle.sg_keys.proofs.index.Index.extend.Goals as goal

pub loop-i-preserved : goal.loop-i-preserved
loop-i-preserved c =
    let inside : c.loop-i.i < length c.args.list.now = omega (arith, c.loop-i-test.true, c.loop-i.auto.i, c.loop-i.auto.i-end) in
    let told = on_ok c.keep_first.result _ (sym c.is_err.ensures.value ∙ c.if-is_err.false) c.keep_first.ensures.ok in (
      refl,
      record {
        part = c.loop-i.invariant.1.part;
        within = omega (arith, inside);
        finds = λ any. told any ∙ rw (c.part-octets.ensures, c.loop-i.invariant.1.part, c.loop-i.invariant.1.finds any, c.loop-i.invariant.0) (sym (one_more (λ r. same_octets (octets_of c.args.self.now.part r) any) c.loop-i.i c.args.list.now c.index-list-i.result inside c.index-list-i.is));
      },
    )
