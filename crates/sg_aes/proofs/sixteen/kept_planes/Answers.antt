use Rattle.std.proofs.Common.{◌∙◌, ap, length, arith}
use Rattle.std.proofs.lemmas.List.{length-append}
use Rattle.sg_aes.proofs.PlaneLemmas.{planes_by_rule, key_octets}
use Rattle.sg_aes.proofs.sixteen.kept_planes.Goals as goal

pub returns : goal.returns
returns c =
    let key = c.args.key in
    let sixteen = c.fits-key.0 in
    let long = ap length c.doubled.ensures.value ∙ length-append key key ∙ omega (arith, sixteen) in
    planes_by_rule (λ p j hp hj. key_octets key c.doubled.result c.args.constant p j sixteen c.doubled.ensures.value long hp hj) c.planes_of-x.ensures
