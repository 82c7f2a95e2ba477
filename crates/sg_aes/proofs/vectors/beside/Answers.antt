use Rattle.std.proofs.Common.{◌∙◌, ap, take, drop}
use Rattle.sg_aes.proofs.PairLemmas.{first_of_both, second_of_both}
use Rattle.sg_aes.proofs.vectors.beside.Goals as goal

pub returns : goal.returns
returns c = record {
  first = ap (take 16) c.joined.ensures ∙ first_of_both c.args.one.now c.args.other.now c.told-one;
  second = ap (drop 16) c.joined.ensures ∙ second_of_both c.args.one.now c.args.other.now c.told-one;
}
