use Rattle.std.proofs.Common.{◌∙◌, sym, ap, Some, None, true, false, get_or}
use Rattle.sg_table.proofs.Slots.{no_slot, no_call, tested}
use Rattle.sg_table.specs.Values.{has_call_port}
use Rattle.sg_table.proofs.ports.place.Goals as goal

pub returns-in-None : goal.returns-in-None
returns-in-None c = sym (no_slot c.args.port c.args.calls.now c.requires.rising (sym c.slot_at.ensures.value ∙ c.in-None.is))

pub returns-in-None-places : goal.returns-in-None-places
returns-in-None-places c =
    sym (no_call c.args.port c.args.calls.now c.requires.rising c.in-Some.slot (sym c.slot_at.ensures.value ∙ c.in-Some.is) (sym (c.requires.indexed.at c.in-Some.slot _ c.in-Some.ensures.within) ∙ c.in-None-places.is))

pub returns-then-has_port : goal.returns-then-has_port
returns-then-has_port c =
    ap (λ n. Some n) c.from-then-has_port.ensures
    ∙ sym (tested c.args.port c.args.calls.now c.requires.rising c.in-Some.slot c.in-Some-places.i true (sym c.slot_at.ensures.value ∙ c.in-Some.is)
    (sym (c.requires.indexed.at c.in-Some.slot None c.in-Some.ensures.within) ∙ c.in-Some-places.is)
    (λ d. c.if-has_port.ensures d ∙ ap (λ n. has_call_port c.args.port (get_or c.args.calls.now n d)) c.from.ensures))

pub returns-else-has_port : goal.returns-else-has_port
returns-else-has_port c =
    sym (tested c.args.port c.args.calls.now c.requires.rising c.in-Some.slot c.in-Some-places.i false (sym c.slot_at.ensures.value ∙ c.in-Some.is)
    (sym (c.requires.indexed.at c.in-Some.slot None c.in-Some.ensures.within) ∙ c.in-Some-places.is)
    (λ d. c.if-has_port.ensures d ∙ ap (λ n. has_call_port c.args.port (get_or c.args.calls.now n d)) c.from.ensures))
