use Rattle.std.proofs.Common.{◌≡◌, ◌∙◌, sym, ap, Some, get_or}
use Rattle.std.proofs.Math.ListN.{set}
use Rattle.sg_base.specs.declared.faults.DropCause.TheVariants.{PortUnused}
use Rattle.sg_call.specs.declared.handled.End.TheVariants.{Dropped}
use Rattle.sg_table.proofs.Slots.{none_changed, one_changed, taken_none, taken_some}
use Rattle.sg_table.specs.Batches.{octets_of}
use Rattle.sg_table.specs.Parts.{pushed, waiting_of, handed}
use Rattle.sg_table.proofs.batch.hand_out.Goals as goal

pub returns-in-None-clause-calls : goal.returns-in-None-clause-calls
returns-in-None-clause-calls c = sym (none_changed c.args.arrival.now.port (pushed (waiting_of c.args.number c.args.now c.args.arrival.now)) c.args.calls.now (sym c.place.ensures ∙ c.in-None.is))

pub returns-in-None-clause-arrival : goal.returns-in-None-clause-arrival
returns-in-None-clause-arrival c =
    (λ i. record c.args.arrival.now { pad = sym (sym c.take.ensures.value ∙ c.in-Some.is) i; end = Some (Dropped PortUnused) })
    ∙ sym (ap (λ b. handed b c.args.arrival.now) (taken_none c.args.arrival.now.port c.args.calls.now (sym c.place.ensures ∙ c.in-None.is)))

pub returns-in-Some-place-clause-calls : goal.returns-in-Some-place-clause-calls
returns-in-Some-place-clause-calls c =
    let (lt, made, has) = one_changed c.args.arrival.now.port (pushed (waiting_of c.args.number c.args.now c.args.arrival.now)) c.index-calls-i.result c.in-Some-place.i c.args.calls.now c.requires.rising
    (sym c.place.ensures ∙ c.in-Some-place.is) in
    let octets : octets_of c.args.arrival.now.pad ≡ c.in-Some.pad = ap octets_of (sym c.take.ensures.value ∙ c.in-Some.is) in
    ap (set c.args.calls.now c.in-Some-place.i) (c.push.ensures ∙ (λ i. pushed (record { number = c.args.number; port = c.args.arrival.now.port; from = c.args.arrival.now.from; octets = sym octets i; now = c.args.now })
    (get_or c.args.calls.now c.in-Some-place.i c.index-calls-i.result))) ∙ sym made

pub returns-in-Some-place-clause-arrival : goal.returns-in-Some-place-clause-arrival
returns-in-Some-place-clause-arrival c =
    (λ i. record c.args.arrival.now { pad = c.take.ensures.after i })
    ∙ sym (ap (λ b. handed b c.args.arrival.now) (taken_some c.args.arrival.now.port c.in-Some-place.i c.args.calls.now (sym c.place.ensures ∙ c.in-Some-place.is)))
