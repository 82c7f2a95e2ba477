use Rattle.std.proofs.Common.{◌∙◌, sym, replicate}
use Rattle.sg_kdf.proofs.KdfLemmas.{raw_auth_is}
use Rattle.sg_kdf.proofs.raw_half.Goals as goal

pub returns : goal.returns
returns c =
    let auth = c.copy_from_slice.ensures.after ∙ sym (raw_auth_is c.args.key.now c.requires (λ i. (c.type_inv.key i).fits)) in
    λ p. record { encrypt = c.new.ensures p; auth = auth p; salt = replicate 14 0 }
