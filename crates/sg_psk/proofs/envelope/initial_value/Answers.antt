use Rattle.std.proofs.Common.{◌≡◌, ◌*◌, ◌^◌, ◌∷◌, [], ◌++◌, ◌∙◌, ap, arith, length, slice_index_or}
use Rattle.sg_base.specs.Octets.{number_of, xor_octets}
use Rattle.sg_psk.proofs.Literals.{eight, fourteen, shifted}
use Rattle.sg_psk.proofs.envelope.initial_value.Goals as goal

pub returns-clause-value : goal.returns-clause-value
returns-clause-value c =
    let size : length c.xored.result ≡ 14 = omega arith in
    let stamp : length c.args.stamp.now ≡ 8 = omega arith in
    ap (λ t. number_of (t ++ 0 ∷ 0 ∷ [])) (fourteen c.xored.result size)
    ∙ shifted c.xored.result
    ∙ ap (λ t. number_of t * 2 ^ 16) (c.xored.ensures
    ∙ (λ i. xor_octets (c.labelled_key.ensures i) (0 ∷ 0 ∷ slice_index_or (c.octets_of_u32.ensures i) 0 0 ∷ slice_index_or (c.octets_of_u32.ensures i) 1 0 ∷ slice_index_or (c.octets_of_u32.ensures i) 2 0 ∷ slice_index_or (c.octets_of_u32.ensures i) 3 0 ∷ eight c.args.stamp.now stamp i)))
