use Rattle.std.proofs.Common.{sym, subst, ◌∙◌}
use Rattle.sg_agreement.specs.Attributes.{mikey_value}
use Rattle.sg_leg.specs.Answering.{Tells}
use Rattle.sg_leg.proofs.Read.{none_there, there_is}
use Rattle.sg_leg.proofs.messages.message_in.Goals as goal

pub returns-in-None-clause-message : goal.returns-in-None-clause-message
returns-in-None-clause-message c = none_there c.args.medium c.args.kind (mikey_value c.args.lines.now) (sym c.in-Ok.ensures ∙ c.in-None.is)

pub returns-in-Some-clause-message : goal.returns-in-Some-clause-message
returns-in-Some-clause-message c =
    subst (λ r. Tells c.read_of.result r) (there_is c.args.medium c.args.kind (mikey_value c.args.lines.now) c.in-Some.octets (sym c.in-Ok.ensures ∙ c.in-Some.is)) c.read_of.ensures.message
