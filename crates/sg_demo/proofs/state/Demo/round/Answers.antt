use Rattle.std.proofs.Common.{◌≡◌, ◌+◌, ℕ, List, sym, ap, ◌∙◌, subst, arith}
use Rattle.std.proofs.lemmas.List.{with_items_is}
use Rattle.std.specs.List.{AllZip, AllByRecursion}
use Rattle.std.specs.Vec.{with_items}
use Rattle.rand_pcg.specs.Lcg.{Lcg}
use Rattle.sg_table.specs.Batches.{IsBatched, told_of}
use Rattle.sg_table.specs.declared.arrival.Arrival.{Arrival}
use Rattle.sg_demo.specs.Counting.{counted}
use Rattle.sg_demo.specs.Demonstration.{with_round, world_of}
use Rattle.sg_demo.specs.Rounds.{HasGathered}
use Rattle.sg_demo.specs.Standing.{CallerStandsFor, CountStands, IsHandled}
use Rattle.sg_demo.specs.Turns.{turns_of}
use Rattle.sg_demo.specs.declared.caller.Caller.{Caller}
use Rattle.sg_demo.specs.declared.state.Demo as declared
use Rattle.sg_demo.specs.declared.summary.Summary.{Summary}
use Rattle.sg_demo.proofs.Acting.{on_err, on_ok}
use Rattle.sg_demo.proofs.Prefixes.{prefix_whole, round_prefix, taken_so_far}
use Rattle.sg_demo.proofs.Rounds.{batch_handled, round_goes, round_taken}
use Rattle.sg_demo.proofs.Within.{more_within, within_sealed}
use Rattle.sg_demo.proofs.state.Demo.round.Goals as goal

pub returns-in_err-round-clause-failed : goal.returns-in_err-round-clause-failed
returns-in_err-round-clause-failed g c = on_err c.from_residual.result (λ d stands. taken_so_far c.args.table.now d.events _ stands.taken (round_prefix d))

pub returns-clause-round : goal.returns-clause-round
returns-clause-round g c =
    on_ok c.count_all.result c.count_all.ensures.counted (λ counts d stands.
    let self = c.args.self.now in
    let round = c.in_ok-round.round in
    let t = turns_of d.words d.callers in
    let turns : (c.take_turns.new.words ≡ t.words) × AllZip CallerStandsFor c.take_turns.new.callers t.callers × HasGathered round t.sealed t.arrivals =
    subst (λ (g : Lcg). (c.take_turns.new.words ≡ (turns_of g d.callers).words) × AllZip CallerStandsFor c.take_turns.new.callers (turns_of g d.callers).callers × HasGathered round (turns_of g d.callers).sealed (turns_of g d.callers).arrivals) stands.words
    (c.in_ok-round.ensures.turns d.callers (subst (λ (l : List Caller). AllZip CallerStandsFor l d.callers) (sym c.deref_mut.ensures.value) stands.callers)) in
    let batched : IsBatched (world_of d) c.deref_mut-2.result.now c.handle.new.arrivals c.handle.new.table = c.handle.ensures.handled (world_of d) stands.taken in
    let items1 : (with_items self.callers c.take_turns.new.callers).items ≡ c.take_turns.new.callers =
    with_items_is self.callers c.take_turns.new.callers (c.take_turns.ensures.size ∙ c.deref_mut.ensures.len) in
    let items2 : c.deref-2.result.now ≡ c.handle.new.arrivals =
    c.deref-2.ensures.value ∙ with_items_is round.arrivals c.handle.new.arrivals (c.handle.auto.arrivals ∙ c.deref_mut-2.ensures.len) in
    let items3 : (with_items (with_items self.callers c.take_turns.new.callers) c.count_all.new.callers).items ≡ c.count_all.new.callers =
    with_items_is (with_items self.callers c.take_turns.new.callers) c.count_all.new.callers (c.count_all.ensures.size ∙ c.deref_mut-3.ensures.len) in
    let before : Summary = record self.summary { sealed = self.summary.sealed + round.sealed } in
    let summary_is : before ≡ record d.summary { sealed = d.summary.sealed + t.sealed } =
    ap (λ (s : Summary). record s { sealed = s.sealed + round.sealed }) stands.summary ∙ ap (λ (n : ℕ). record d.summary { sealed = d.summary.sealed + n }) turns.2.count in
    let here : CountStands c.count_all.new.callers c.count_all.new.summary (counted c.deref.result.now (told_of c.deref-2.result.now) (record { callers = t.callers; summary = before })) =
    counts t.callers (subst (λ (l : List Caller). AllZip CallerStandsFor l t.callers) (sym (c.deref_mut-3.ensures.value ∙ items1)) turns.1)
    (subst (λ (l : List Arrival). AllByRecursion IsHandled l) (sym items2) (batch_handled (world_of d) c.deref_mut-2.result.now c.handle.new.arrivals c.handle.new.table batched)) in
    let new : declared.Demo = record { words = c.take_turns.new.words; callers = with_items (with_items self.callers c.take_turns.new.callers) c.count_all.new.callers; summary = c.count_all.new.summary } in
    let there : CountStands new.callers.items new.summary (counted c.deref.result.now (told_of c.handle.new.arrivals) (record { callers = t.callers; summary = before })) =
    subst (λ (l : List Arrival). CountStands new.callers.items new.summary (counted c.deref.result.now (told_of l) (record { callers = t.callers; summary = before }))) items2
    (subst (λ (l : List Caller). CountStands l new.summary (counted c.deref.result.now (told_of c.deref-2.result.now) (record { callers = t.callers; summary = before }))) (sym items3) here) in
    round_goes new c.handle.new.table d before c.deref.result.now c.deref_mut-2.result.now c.handle.new.arrivals turns.0 (c.deref.ensures.value ∙ turns.2.sources) (c.deref_mut-2.ensures.value ∙ turns.2.datagrams) summary_is batched there)

pub returns-clause-failed : goal.returns-clause-failed
returns-clause-failed g c =
    on_err c.count_all.result (λ d stands.
    let self = c.args.self.now in
    let round = c.in_ok-round.round in
    let t = turns_of d.words d.callers in
    let turns : (c.take_turns.new.words ≡ t.words) × AllZip CallerStandsFor c.take_turns.new.callers t.callers × HasGathered round t.sealed t.arrivals =
    subst (λ (g : Lcg). (c.take_turns.new.words ≡ (turns_of g d.callers).words) × AllZip CallerStandsFor c.take_turns.new.callers (turns_of g d.callers).callers × HasGathered round (turns_of g d.callers).sealed (turns_of g d.callers).arrivals) stands.words
    (c.in_ok-round.ensures.turns d.callers (subst (λ (l : List Caller). AllZip CallerStandsFor l d.callers) (sym c.deref_mut.ensures.value) stands.callers)) in
    let batched : IsBatched (world_of d) c.deref_mut-2.result.now c.handle.new.arrivals c.handle.new.table = c.handle.ensures.handled (world_of d) stands.taken in
    taken_so_far c.handle.new.table (with_round d).events (with_round d).events (round_taken c.handle.new.table d c.deref_mut-2.result.now c.handle.new.arrivals (c.deref_mut-2.ensures.value ∙ turns.2.datagrams) batched) (prefix_whole (with_round d).events))

pub returns-clause-within : goal.returns-clause-within
returns-clause-within g c = λ n w.
    more_within (n + 512 + 512) (n + 1024) c.count_all.new.summary (omega arith)
    (c.count_all.ensures.within (n + 512) (within_sealed n c.in_ok-round.round.sealed c.args.self.now.summary c.in_ok-round.ensures.small.few_sealed w))
