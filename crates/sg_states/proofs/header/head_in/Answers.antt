use Rattle.std.proofs.Common.{◌+◌, ◌≤◌, length, arith}
use Rattle.std.proofs.lemmas.Grind.{common_steps}
use Rattle.sg_states.specs.Headers.{head_of}
use Rattle.sg_states.proofs.Words.{word_reads, heading_rtcp}
use Rattle.sg_states.proofs.header.head_in.Goals as goal

pub returns-in-Ok-rtcp_head-clause-head : goal.returns-in-Ok-rtcp_head-clause-head
returns-in-Ok-rtcp_head-clause-head c =
    let long : 12 + (c.args.mki_len + c.args.tag_len) ≤ length c.args.octets.now = omega arith in
    heading_rtcp c.args.kind c.args.encrypts c.args.mki_len c.args.tag_len c.args.octets.now c.read_u32-word.result (head_of c.in-Ok-rtcp_head.head) c.in-Rtcp.is long
    (word_reads c.args.mki_len c.args.tag_len c.args.octets.now c.read_u32-word.result long c.read_u32-word.ensures) c.in-Ok-rtcp_head.ensures.head

pub returns-in-Ok-clause-head : goal.returns-in-Ok-clause-head
returns-in-Ok-clause-head c = grind (arith, common_steps)

pub returns-in-Ok-rtcp_head-clause-whole : goal.returns-in-Ok-rtcp_head-clause-whole
returns-in-Ok-rtcp_head-clause-whole c = grind (arith, common_steps)
