use Rattle.sg_sdes.proofs.PrintLaws.{pushed_keys}
use Rattle.sg_sdes.proofs.printing.push_keys.Goals as goal

pub returns-in_ok-push_others-in-len1-up : goal.returns-in_ok-push_others-in-len1-up
returns-in_ok-push_others-in-len1-up c =
    pushed_keys c.args.keys.now c.first-item.result c.args.out.now.items _ _ c.in-len1-up.len_at_least c.first-item.is c.in_ok-push_inline-in-len1-up.ensures
    c.in_ok-push_others-in-len1-up.ensures
