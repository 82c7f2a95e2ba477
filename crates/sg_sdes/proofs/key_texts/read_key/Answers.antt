use Rattle.std.proofs.Common.{sym, arith}
use Rattle.sg_sdes.proofs.Base64Laws.{too_long}
use Rattle.sg_sdes.proofs.key_texts.read_key.Goals as goal

pub returns-then-text-gt64 : goal.returns-then-text-gt64
returns-then-text-gt64 c = sym (too_long c.args.suite c.args.text.now (λ i. omega (arith, c.type_inv.text i)) c.if-text-gt64.true)
