use Rattle.std.proofs.Common.{arith}
use Rattle.std.proofs.lemmas.Grind.{common_steps}
use Rattle.sg_states.proofs.Tags.{tag_within}
use Rattle.sg_states.proofs.outbound.Numbered.seal.Goals as goal

pub close_rtp-requires-clause-tag : goal.close_rtp-requires-clause-tag
close_rtp-requires-clause-tag c = tag_within _ _ c.requires.tag

pub returns : goal.returns
returns c = λ key here. grind (arith, common_steps)
