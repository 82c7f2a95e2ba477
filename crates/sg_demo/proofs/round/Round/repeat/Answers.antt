use Rattle.std.proofs.Common.{ap, Some, sym, ◌∙◌}
use Rattle.sg_demo.proofs.Acting.{on_ok, pushes_sent, sends_last}
use Rattle.sg_demo.proofs.round.Round.repeat.Goals as goal

pub returns-in_ok-pad-in-Some-clause-gathered : goal.returns-in_ok-pad-in-Some-clause-gathered
returns-in_ok-pad-in-Some-clause-gathered c =
    on_ok c.push.result c.push.ensures.gathered (λ pushes. sends_last c.args.caller.now c.args.self.now c.push.new.self c.in_ok-pad-in-Some.pad
    (ap Some (c.in_ok-pad-in-Some.ensures ∙ c.octets.ensures.same) ∙ sym c.in-Some.is)
    (pushes_sent c.args.caller.now c.args.self.now c.push.new.self c.secure_port.result c.in_ok-pad-in-Some.pad c.secure_port.ensures pushes))
