use Rattle.std.proofs.Common.{◌≡◌, ◌++◌, ◌-◌, length, drop, replicate}
use Rattle.std.proofs.lemmas.List.{drop-replicate}
use Rattle.sg_hmac.proofs.hmac.filled_up.Goals as goal

pub returns : goal.returns
returns c =
    let rest : drop (length c.args.key.now) (replicate 64 0) ≡ replicate (64 - length c.args.key.now) 0 = drop-replicate (length c.args.key.now) 64 0 in
    let prefix : c.copy_from_slice.new.self ≡ c.args.key.now = c.copy_from_slice.ensures.after in
    (λ i. prefix i ++ rest i)
