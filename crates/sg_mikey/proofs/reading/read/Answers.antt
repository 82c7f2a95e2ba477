use Rattle.std.proofs.Common.{◌≡◌, ℕ, length, Result, Err, ap, sym, ◌∙◌, arith}
use Rattle.sg_mikey.specs.declared.message.Message.{Message}
use Rattle.sg_mikey.specs.Reading.{message_of, placed, whole_at, Place}
use Rattle.sg_mikey.proofs.MessageLaws.{found, message_again}
use Rattle.sg_mikey.proofs.reading.read.Goals as goal

abbrev halted : Place → Result Message Place
halted p = Err p

pub returns-in-Ok-clause-found : goal.returns-in-Ok-clause-found
returns-in-Ok-clause-found c =
    found c.args.octets.now c.in-Ok.message (λ i. omega (arith, c.type_inv.octets i)) (ap (placed (length c.args.octets.now)) c.in-Ok.ensures)

pub returns-in-Ok-clause-only : goal.returns-in-Ok-clause-only
returns-in-Ok-clause-only c = λ m is e.
    sym (ap message_of e ∙ message_again m is) ∙ ap (placed (length c.args.octets.now)) c.in-Ok.ensures

pub returns-in-Err-At-clause-only : goal.returns-in-Err-At-clause-only
returns-in-Err-At-clause-only c = λ m is e.
    let fails : whole_at c.args.octets.now ≡ Err c.in-Err-At.stop = rw c.in-Err-At.field-0-is at c.in-Err-At.ensures in
    sym (ap message_of e ∙ message_again m is)
    ∙ ap (placed (length c.args.octets.now)) fails
    ∙ ap (λ (n : ℕ). halted (record { offset = n; fault = c.in-Err-At.stop.fault })) (sym c.saturating_sub.ensures)
