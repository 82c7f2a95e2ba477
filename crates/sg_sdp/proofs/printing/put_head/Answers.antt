use Rattle.std.proofs.Common.{◌∙◌}
use Rattle.std.specs.Fmt.{decimal}
use Rattle.sg_sdp.proofs.Prints.{head_put}
use Rattle.sg_sdp.proofs.printing.put_head.Goals as goal

pub returns : goal.returns
returns c = head_put c.args.out.now.items c.args.medium.now.word (decimal c.args.medium.now.port) c.args.medium.now.proto c.args.medium.now.formats _ _ _ _ _ _ _ _ _ _ _ _ _
    c.in_ok-extend_from_slice.ensures.items c.in_ok-extend_from_slice-2.ensures.items c.in_ok-push.ensures.items c.in_ok-extend_from_slice-3.ensures.items c.in_ok-push-2.ensures.items
    c.in_ok-extend_from_slice-4.ensures.items c.in_ok-push-3.ensures.items c.in_ok-extend_from_slice-5.ensures.items c.in_ok-extend_from_slice-6.ensures.items
    c.as_slice.ensures (c.as_bytes.ensures.value ∙ c.format.ensures.text) c.as_slice-2.ensures c.as_slice-3.ensures
