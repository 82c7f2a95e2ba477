use Rattle.std.proofs.Common.{◌∙◌, ap}
use Rattle.sg_kdf.proofs.KdfLemmas.{labelled_value, labelled_value_is}
use Rattle.sg_kdf.proofs.label.initial_value.Goals as goal

pub returns-clause-value : goal.returns-clause-value
returns-clause-value c =
    ap (labelled_value c.args.label) c.copy_from_slice.ensures.after
    ∙ labelled_value_is c.args.salt.now c.args.label c.requires (λ i. (c.type_inv.salt i).fits) c.ranges.label.fits
