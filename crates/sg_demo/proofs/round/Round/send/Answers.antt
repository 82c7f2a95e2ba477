use Rattle.std.proofs.Common.{ℕ, List, Option, option_to_list, sym, subst}
use Rattle.sg_demo.proofs.Acting.{Sends, on_ok, pushes_sent}
use Rattle.sg_demo.proofs.round.Round.send.Goals as goal

pub returns-in-Some-clause-gathered : goal.returns-in-Some-clause-gathered
returns-in-Some-clause-gathered c =
    on_ok c.push.result c.push.ensures.gathered (λ pushes.
    subst (λ (o : Option (List ℕ)). Sends c.args.caller.now c.args.self.now c.push.new.self (option_to_list o)) (sym c.in-Some.is)
    (pushes_sent c.args.caller.now c.args.self.now c.push.new.self c.secure_port.result c.in-Some.pad c.secure_port.ensures pushes))
