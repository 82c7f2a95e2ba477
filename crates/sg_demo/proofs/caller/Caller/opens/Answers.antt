use Rattle.std.proofs.Common.{◌∙◌, ap, is_ok}
use Rattle.sg_session.specs.Opening.{opens}
use Rattle.sg_demo.proofs.Sealing.{opened_ok}
use Rattle.sg_demo.proofs.caller.Caller.opens.Goals as goal

pub returns : goal.returns
returns c = λ d stands. (
  c.is_ok.ensures.value ∙ ap is_ok (c.receive.ensures.answer d.opening stands.opening) ∙ opened_ok d.opening.name.kind c.args.pad (opens d.opening c.args.pad),
  record {
    ssrc = stands.ssrc;
    slot = stands.slot;
    sealing = stands.sealing;
    opening = c.receive.ensures.after d.opening stands.opening;
    next = stands.next;
    next_plain = stands.next_plain;
    last = stands.last;
  },
)
