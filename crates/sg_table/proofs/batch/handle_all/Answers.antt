use Rattle.std.proofs.Common.{◌∙◌, sym, ap, subst}
use Rattle.std.proofs.lemmas.List.Elements.{recursion_from_All}
use Rattle.std.specs.Prelude.{IsSome}
use Rattle.sg_call.specs.Drained.{IsDrained}
use Rattle.sg_table.proofs.Batching.{have_octets, have_room, drained_shapes, ready, batched}
use Rattle.sg_table.proofs.Delivering.{turns_of}
use Rattle.sg_table.proofs.Pairing.{pairs_from_each}
use Rattle.sg_table.specs.Parts.{all_handed}
use Rattle.sg_table.specs.Values.{AreRising, AreIndexed}
use Rattle.sg_table.proofs.batch.handle_all.Goals as goal

pub share_out-requires-clause-quiet : goal.share_out-requires-clause-quiet
share_out-requires-clause-quiet g c = have_room c.args.calls.now c.requires.quiet

pub gather-requires-clause-indexed : goal.gather-requires-clause-indexed
gather-requires-clause-indexed g c = subst (AreIndexed c.args.places.now) (sym (drained_shapes c.share_out.new.calls c.drain_all.new.lanes (pairs_from_each IsDrained c.share_out.new.calls c.drain_all.new.lanes c.drain_all.ensures.size c.drain_all.ensures.each) ∙ c.share_out.ensures.shapes)) c.requires.indexed

pub gather-requires-clause-rising : goal.gather-requires-clause-rising
gather-requires-clause-rising g c = subst AreRising (sym (drained_shapes c.share_out.new.calls c.drain_all.new.lanes (pairs_from_each IsDrained c.share_out.new.calls c.drain_all.new.lanes c.drain_all.ensures.size c.drain_all.ensures.each) ∙ c.share_out.ensures.shapes)) c.requires.rising

pub returns-clause-batched : goal.returns-clause-batched
returns-clause-batched g c books w s =
    batched c.args.now c.args.calls.now books w s c.args.arrivals.now c.share_out.new.calls c.drain_all.new.lanes c.gather.new.calls c.gather.new.arrivals (turns_of c.each_call_by_itself.ensures.calls _ w s)
    (c.share_out.ensures.ready w (ready c.args.now c.args.calls.now books w s c.args.arrivals.now)) (pairs_from_each IsDrained c.share_out.new.calls c.drain_all.new.lanes c.drain_all.ensures.size c.drain_all.ensures.each)
    (have_octets c.args.arrivals.now (recursion_from_All (λ a. IsSome a.pad) c.args.arrivals.now c.requires.pads) c.share_out.ensures.octets)
    (c.gather.ensures.gathered w c.args.arrivals.now
    (c.share_out.ensures.handed ∙ ap (λ s. all_handed s c.args.arrivals.now) (sym (drained_shapes c.share_out.new.calls c.drain_all.new.lanes (pairs_from_each IsDrained c.share_out.new.calls c.drain_all.new.lanes c.drain_all.ensures.size c.drain_all.ensures.each) ∙ c.share_out.ensures.shapes))))

pub returns-clause-shapes : goal.returns-clause-shapes
returns-clause-shapes g c = c.gather.ensures.shapes ∙ drained_shapes c.share_out.new.calls c.drain_all.new.lanes (pairs_from_each IsDrained c.share_out.new.calls c.drain_all.new.lanes c.drain_all.ensures.size c.drain_all.ensures.each) ∙ c.share_out.ensures.shapes
