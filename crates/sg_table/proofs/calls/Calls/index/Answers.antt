use Rattle.std.proofs.Common.{◌≡◌, ◌<◌, ◌≤◌, ◌+◌, ◌∙◌, sym, ap, subst, List, length, get_or, Some}
use Rattle.std.proofs.Math.ListN.{set}
use Rattle.sg_call.specs.Values.{CallValue}
use Rattle.sg_table.proofs.Indexed.{AreWritten, call_written, all_written}
use Rattle.sg_table.specs.Values.{TableValue, shapes_of}
use Rattle.sg_table.proofs.calls.Calls.index.Goals as goal

pub loop-i-preserved : goal.loop-i-preserved
loop-i-preserved c =
    let at : c.deref-call-items.result.now ≡ c.args.self.now.calls = c.deref-call-items.ensures.value ∙ ap (λ (v : TableValue). v.calls) c.self.view_is in
    let all : length c.loop-i.places ≡ 256 = c.loop-i.auto.places ∙ c.fill.ensures.len ∙ c.requires.all in
    subst (λ n. AreWritten (set c.loop-i.places n (Some c.loop-i.i)) (c.loop-i.i + 1) (shapes_of c.args.self.now.calls)) (sym (c.from.ensures ∙ c.slot.ensures))
    (call_written c.loop-i.places c.loop-i.i c.args.self.now.calls c.call-item.result all c.requires.rising (subst (λ (l : List CallValue). c.loop-i.i < length l) at c.loop-i-test.true)
    (c.call-item.is ∙ ap (λ l. get_or l c.loop-i.i c.call-item.result) at) c.loop-i.invariant)

pub returns : goal.returns
returns c =
    let at : c.deref-call-items.result.now ≡ c.args.self.now.calls = c.deref-call-items.ensures.value ∙ ap (λ (v : TableValue). v.calls) c.self.view_is in
    let all : length c.loop-i.places ≡ 256 = c.loop-i.auto.places ∙ c.fill.ensures.len ∙ c.requires.all in
    all_written c.loop-i.places c.loop-i.i c.args.self.now.calls all (subst (λ (l : List CallValue). length l ≤ c.loop-i.i) at c.loop-i-test.false) c.loop-i.invariant
