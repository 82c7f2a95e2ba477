use Rattle.std.proofs.Common.{sym, subst, ap, ◌∙◌, Err, List, ℕ}
use Rattle.sg_mikey.specs.Reading.{Answers, message_of}
use Rattle.sg_mikey.specs.declared.message.Message.{Message}
use Rattle.sg_leg.specs.Answering.{Tells}
use Rattle.sg_leg.specs.Messages.{read_of}
use Rattle.sg_leg.proofs.Read.{read_ok, read_other, unread}
use Rattle.sg_leg.proofs.messages.read_of.Goals as goal

pub returns-in-Ok-of_kind-clause-message : goal.returns-in-Ok-of_kind-clause-message
returns-in-Ok-of_kind-clause-message c =
    read_ok c.args.medium c.args.kind c.args.octets c.in-Ok.message c.in-Ok-of_kind.message (ap message_of (sym c.as_slice-2.ensures) ∙ c.in-Ok.ensures.first_fault) (sym c.in-Ok-of_kind.ensures)

pub returns-in-Err-of_kind-clause-message : goal.returns-in-Err-of_kind-clause-message
returns-in-Err-of_kind-clause-message c =
    read_other c.args.medium c.args.kind c.args.octets c.in-Ok.message c.in-Err-of_kind.fault (ap message_of (sym c.as_slice-2.ensures) ∙ c.in-Ok.ensures.first_fault) (sym c.in-Err-of_kind.ensures)

pub returns-in-Err-clause-message : goal.returns-in-Err-clause-message
returns-in-Err-clause-message c =
    subst (λ f. Tells {X = List ℕ × Message} (Err f) (read_of c.args.medium c.args.kind c.args.octets)) (sym c.message_fault.ensures)
    (unread c.args.medium c.args.kind c.args.octets c.in-Err.fault (subst (λ o. Answers (Err c.in-Err.fault) (message_of o)) c.as_slice-2.ensures c.in-Err.ensures.first_fault))
