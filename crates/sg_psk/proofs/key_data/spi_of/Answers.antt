use Rattle.std.proofs.Common.{arith}
use Rattle.sg_psk.proofs.KeyLemmas.{spi_is, spi_wide}
use Rattle.sg_psk.proofs.key_data.spi_of.Goals as goal

pub returns-in-Some : goal.returns-in-Some
returns-in-Some c =
    spi_is c.args.octets.now c.in-Some.value c.new.result (λ i. omega (arith, c.type_inv.octets i)) (omega arith) (omega arith) c.in-Some.ensures c.new.ensures.valid c.new.ensures.value

pub returns-in-None : goal.returns-in-None
returns-in-None c = spi_wide c.args.octets.now c.in-None.ensures
