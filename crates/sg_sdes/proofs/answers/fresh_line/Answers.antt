use Rattle.std.proofs.Common.{arith}
use Rattle.sg_sdes.proofs.AnswerLaws.{fresh_valid}
use Rattle.sg_sdes.proofs.answers.fresh_line.Goals as goal

pub returns-clause-valid : goal.returns-clause-valid
returns-clause-valid c = λ small other.
    rw (c.one.ensures, c.fresh_key.ensures)
    (fresh_valid c.args.tag c.args.suite c.args.octets.now c.args.plain_rtp c.args.plain_rtcp small other (λ i. let fits = c.type_inv.octets i in omega (arith, fits)) c.requires)
