use Rattle.std.proofs.Common.{◌*◌, ◌+◌, ◌∙◌, arith}
use Rattle.std.proofs.lemmas.List.{length-set}
use Rattle.sg_base.proofs.DigitLemmas.{lower_at, one_more, octets_are}
use Rattle.sg_base.proofs.digits.write_octets.Goals as goal

pub digit_value-high-requires : goal.digit_value-high-requires
digit_value-high-requires c = lower_at c.args.text.now (2 * c.pairs.i) c.requires.digits (omega (arith, c.requires.pairs))

pub digit_value-low-requires : goal.digit_value-low-requires
digit_value-low-requires c = lower_at c.args.text.now (2 * c.pairs.i + 1) c.requires.digits (omega (arith, c.requires.pairs))

pub pairs-preserved : goal.pairs-preserved
pairs-preserved c = record {
  long = length-set c.pairs.octets c.pairs.i _ ∙ c.pairs.invariant.long;
  each = one_more c.args.text.now c.pairs.octets c.pairs.i c.digit_value-high.result c.digit_value-low.result (omega (arith, c.pairs.invariant.long)) c.pairs.invariant.each c.digit_value-high.ensures.value c.digit_value-low.ensures.value;
}

pub returns : goal.returns
returns c =
    octets_are c.args.text.now c.pairs.octets c.requires.digits (omega (arith, c.requires.pairs, c.pairs.invariant.long))
    (λ k lt. c.pairs.invariant.each k (omega (arith, c.pairs.invariant.long)))
