use Rattle.std.proofs.Common.{◌∙◌, ap, sym, arith}
use Rattle.sg_base.specs.Octets.{number_from}
use Rattle.sg_psk.proofs.KeyLemmas.{fits_still, no_octets}
use Rattle.sg_psk.proofs.key_data.wide_number.Goals as goal

pub returns : goal.returns
returns c =
    fits_still c.loop-rest.number c.args.octets.now c.loop-rest.invariant.1
    (ap (number_from c.loop-rest.number) (sym (no_octets c.loop-rest.rest.now (omega (arith, c.in_default.len_below)))) ∙ c.loop-rest.invariant.0)
