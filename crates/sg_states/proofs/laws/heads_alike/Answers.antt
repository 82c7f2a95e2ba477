use Rattle.sg_states.proofs.Encrypting.{heading_own, heading_out_with, heading_with}
use Rattle.sg_states.proofs.laws.heads_alike.Goals as goal

pub returns-clause-rtp : goal.returns-clause-rtp
returns-clause-rtp c = heading_with

pub returns-clause-rtcp : goal.returns-clause-rtcp
returns-clause-rtcp c = heading_own

pub returns-clause-out : goal.returns-clause-out
returns-clause-out c = heading_out_with
