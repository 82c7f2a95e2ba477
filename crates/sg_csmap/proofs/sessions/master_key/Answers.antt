use Rattle.std.proofs.Common.{◌≡◌, ◌+◌, ◌-◌, ◌∙◌, arith, refl, replicate}
use Rattle.sg_csmap.proofs.Masters.{master_is}
use Rattle.sg_csmap.proofs.sessions.master_key.Goals as goal

pub returns : goal.returns
returns c =
    let fourteen : c.key_len-count.result + 14 - c.key_len-count.result ≡ 14 = omega arith in
    c.in-Some.ensures.value
    ∙ master_is c.args.suite c.args.csb c.args.session c.args.random.now c.args.tgk.now (replicate 46 0) c.labelled_key.new.part c.labelled_key-2.new.part
    c.key_len-count.result (c.key_len-count.result + 14 - c.key_len-count.result)
    c.key_len-count.ensures.value c.key_len-count.ensures.most refl fourteen c.labelled_key.auto.part c.labelled_key-2.auto.part c.labelled_key.ensures c.labelled_key-2.ensures
