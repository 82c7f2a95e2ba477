use Rattle.std.proofs.Common.{◌≡◌, Result, Ok, Err, Some, ◌∙◌, ap, subst}
use Rattle.sg_base.specs.declared.faults.DropCause.{DropCause}
use Rattle.sg_media.specs.Answers.{sealed_of}
use Rattle.sg_media.specs.Sides.{StandsFor}
use Rattle.sg_session.specs.OneSession.{after}
use Rattle.sg_session.specs.Opening.{Taken}
use Rattle.sg_demo.specs.Callers.{next_sealed}
use Rattle.sg_demo.proofs.Numbers.{one_more}
use Rattle.sg_demo.proofs.Sealing.{is_next, sealed_gives, refused_gives}
use Rattle.sg_demo.proofs.caller.Caller.seal_next.Goals as goal

pub returns-in-Ok : goal.returns-in-Ok
returns-in-Ok c = λ d stands.
    let is = is_next c.args.self.now d c.in_ok-pad.pad stands c.in_ok-pad.ensures.packet in
    let answer = subst (λ (r : Result Taken DropCause). Ok c.in-Ok.field-0 ≡ sealed_of d.sealing c.in_ok-pad.pad r) is (c.in-Ok.ensures.answer d.sealing stands.sealing) in
    let gives = sealed_gives d.sealing c.in_ok-pad.pad c.in-Ok.field-0 d.last (next_sealed d) answer in (
      gives.0,
      record {
        ssrc = stands.ssrc;
        slot = stands.slot;
        sealing = subst (λ (r : Result Taken DropCause). StandsFor c.send.new.self (after d.sealing r)) is (c.in-Ok.ensures.after d.sealing stands.sealing);
        opening = stands.opening;
        next = one_more d.next c.args.self.now.next stands.next;
        next_plain = stands.next_plain;
        last = ap Some (c.in_ok-filled-in-Ok.ensures ∙ c.octets.ensures.same) ∙ gives.1;
      },
    )

pub returns : goal.returns
returns c = λ d stands.
    let is = is_next c.args.self.now d c.in_ok-pad.pad stands c.in_ok-pad.ensures.packet in
    let answer = subst (λ (r : Result Taken DropCause). Err c.in-Err.field-0 ≡ sealed_of d.sealing c.in_ok-pad.pad r) is (c.in-Err.ensures.answer d.sealing stands.sealing) in
    let gives = refused_gives d.sealing c.in_ok-pad.pad c.in-Err.field-0 d.last (next_sealed d) answer in (
      gives.0,
      record {
        ssrc = stands.ssrc;
        slot = stands.slot;
        sealing = subst (λ (r : Result Taken DropCause). StandsFor c.send.new.self (after d.sealing r)) is (c.in-Err.ensures.after d.sealing stands.sealing);
        opening = stands.opening;
        next = one_more d.next c.args.self.now.next stands.next;
        next_plain = stands.next_plain;
        last = stands.last ∙ gives.1;
      },
    )
