use Rattle.std.proofs.Common.{◌∙◌, sym, ap}
use Rattle.std.proofs.Math.ListN.{set}
use Rattle.sg_table.proofs.Slots.{none_changed, one_changed, first_at, none_at}
use Rattle.sg_table.specs.Parts.{popped, first_handled, given_back}
use Rattle.sg_table.proofs.batch.take_back.Goals as goal

pub returns-in-Some-pop-clause-calls : goal.returns-in-Some-pop-clause-calls
returns-in-Some-pop-clause-calls c =
    let (lt, made, has) = one_changed c.args.arrival.now.port popped c.index-calls-i.result c.in-Some.i c.args.calls.now c.requires.rising (sym c.place.ensures ∙ c.in-Some.is) in
    ap (set c.args.calls.now c.in-Some.i) c.pop.ensures.rest ∙ sym made

pub returns-in-Some-pop-clause-arrival : goal.returns-in-Some-pop-clause-arrival
returns-in-Some-pop-clause-arrival c =
    sym (ap (given_back c.args.arrival.now) (first_at c.args.arrival.now.port c.in-Some.i c.index-calls-i.result c.args.calls.now (sym c.place.ensures ∙ c.in-Some.is) ∙ ap first_handled c.in-Some-pop.ensures.first))

pub returns-in_default-pop-clause-calls : goal.returns-in_default-pop-clause-calls
returns-in_default-pop-clause-calls c =
    let (lt, made, has) = one_changed c.args.arrival.now.port popped c.index-calls-i.result c.in-Some.i c.args.calls.now c.requires.rising (sym c.place.ensures ∙ c.in-Some.is) in
    ap (set c.args.calls.now c.in-Some.i) c.pop.ensures.rest ∙ sym made

pub returns-in_default-pop-clause-arrival : goal.returns-in_default-pop-clause-arrival
returns-in_default-pop-clause-arrival c =
    sym (ap (given_back c.args.arrival.now) (first_at c.args.arrival.now.port c.in-Some.i c.index-calls-i.result c.args.calls.now (sym c.place.ensures ∙ c.in-Some.is) ∙ ap first_handled c.in_default-pop.ensures.first))

pub returns-in_default-clause-calls : goal.returns-in_default-clause-calls
returns-in_default-clause-calls c = sym (none_changed c.args.arrival.now.port popped c.args.calls.now (sym c.place.ensures ∙ c.in_default.is))

pub returns-in_default-clause-arrival : goal.returns-in_default-clause-arrival
returns-in_default-clause-arrival c = sym (ap (given_back c.args.arrival.now) (none_at c.args.arrival.now.port c.args.calls.now (sym c.place.ensures ∙ c.in_default.is)))
