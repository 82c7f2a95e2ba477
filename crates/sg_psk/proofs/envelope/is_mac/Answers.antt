use Rattle.std.proofs.Common.{arith}
use Rattle.sg_psk.proofs.MacLemmas.{whole_tag, other_size}
use Rattle.sg_psk.proofs.envelope.is_mac.Goals as goal

pub returns-then-tag-eq-MAC_LEN : goal.returns-then-tag-eq-MAC_LEN
returns-then-tag-eq-MAC_LEN c = whole_tag c.tag_fits.result c.args.tag.now c.args.mac.now (omega arith) c.tag_fits.ensures

pub returns-else-tag-eq-MAC_LEN : goal.returns-else-tag-eq-MAC_LEN
returns-else-tag-eq-MAC_LEN c = other_size c.args.tag.now c.args.mac.now (omega arith) (λ e. omega (arith, e))
