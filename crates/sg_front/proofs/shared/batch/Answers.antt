use Rattle.std.proofs.Common.{ℕ, List, drop, length, replicate, sym, subst, ap, ◌∙◌}
use Rattle.std.specs.Prelude.{All, IsSome}
use Rattle.std.proofs.lemmas.List.Elements.{All-map}
use Rattle.sg_front.proofs.Batches.{shared_batch}
use Rattle.sg_front.specs.Parts.{all_given_back, shared, sharing, taken}
use Rattle.sg_front.specs.States.{IsBatched}
use Rattle.sg_table.specs.Batches as tables
use Rattle.sg_table.specs.declared.arrival.Arrival.{Arrival}
use Rattle.sg_front.proofs.shared.batch.Goals as goal

pub batch-requires-clause-pads : goal.batch-requires-clause-pads
batch-requires-clause-pads g c κs within =
    subst (All (λ a. IsSome a.pad)) (sym c.take_all.ensures) (All-map (λ a. IsSome a.pad) (taken c.args.mux.now) c.args.arrivals.now c.requires.pads)

pub returns : goal.returns
returns g c = λ w stands.
    let came = c.args.arrivals.now in
    let batched = subst (λ (l : List Arrival). tables.IsBatched w l c.batch.new.arrivals c.batch.new.self) c.take_all.ensures (c.batch.ensures.batched w stands) in
    subst (λ (l : List Arrival). IsBatched (shared w c.args.mux.now) came l (sharing c.batch.new.self c.args.mux.now))
    (sym (c.give_back_all.ensures ∙ ap (λ (ports : List ℕ). all_given_back c.args.mux.now ports c.batch.new.arrivals) c.ports_of-ports.ensures))
    (shared_batch c.args.mux.now w came c.batch.new.arrivals (drop (length came) (replicate 256 0)) c.batch.new.self batched)
