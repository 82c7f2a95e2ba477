use Rattle.std.proofs.Common.{◌++◌, ap, ◌∙◌}
use Rattle.sg_hmac.specs.Hmac.{hmac_sha1, padded_key}
use Rattle.sha1.specs.Sha1.{sha1}
use Rattle.sg_hmac.proofs.hmac.Mac.finish.Goals as goal

pub returns : goal.returns
unfolding hmac_sha1
returns c = λ key text is.
    c.finalize.ensures _ (c.update.ensures _ is.outer)
    ∙ ap (λ d. sha1 (padded_key 0x5c key ++ d)) (c.finalize-digest.ensures _ is.inner)
