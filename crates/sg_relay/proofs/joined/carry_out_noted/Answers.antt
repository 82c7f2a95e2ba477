use Rattle.std.proofs.Common.{◌≡◌, ℕ, List, [], ◌++◌, take, refl, sym, ap, subst, ◌∙◌, Ok, Err}
use Rattle.sg_relay.proofs.Common.{Act, AreCarriedOut, Following, Members, Outcome, SwitchboardValue, act_of_bridge, acts_next, acts_of_all, after_outcome}
use Rattle.sg_relay.proofs.Common.{all_told, called_more, called_none, map-append, more_calls, more_told, take_all, told_and_parted, told_next, wrote_more}
use Rattle.sg_relay.proofs.Common.{wrote_none}
use Rattle.sg_relay.proofs.Deeds.{done_none, told_longer, told_more}
use Rattle.sg_relay.proofs.joined.carry_out_noted.Goals as goal

pub loop-outcome-init : goal.loop-outcome-init
loop-outcome-init g c = (([], [], called_none _, wrote_none _, (done_none, tt, refl)), refl, refl, refl)

pub loop-outcome-preserved : goal.loop-outcome-preserved
loop-outcome-preserved g c =
    let so_far = c.loop-outcome.invariant.0 in
    let calls : Members = c.args.switchboard.now.calls in
    let os : List Outcome = c.args.outcomes.now in
    let i : ℕ = c.loop-outcome.outcome-index in
    let o : Outcome = c.outcome-item.result in
    let before : Following = told_and_parted calls (take i os) in
    let known : c.loop-outcome.switchboard.calls ≡ before.calls = ap (λ (s : SwitchboardValue). s.calls) c.loop-outcome.invariant.1 in
    let done = c.in-Ok.ensures.done in (
      (
        so_far.0 ++ done.0,
        so_far.1 ++ done.1,
        called_more _ _ _ so_far.0 done.0 so_far.2 done.2,
        wrote_more _ _ _ so_far.1 done.1 so_far.3 done.3,
        subst (λ (l : List Act). AreCarriedOut (Ok tt) l (so_far.0 ++ done.0) (so_far.1 ++ done.1))
            (sym (ap acts_of_all (more_told calls os i o c.loop-outcome-test.true c.outcome-item.is) ∙ map-append act_of_bridge before.told (told_next before.calls o)))
            (told_more (Ok tt) (acts_of_all before.told) (acts_next before.calls o) so_far.0 done.0 so_far.1 done.1 so_far.4
            (subst (λ (m : Members). AreCarriedOut (Ok tt) (acts_next m o) done.0 done.1) known done.4)),
      ),
      c.in-Ok.ensures.noted ∙ (λ i'. record (c.loop-outcome.invariant.1 i') { calls = (after_outcome (known i') o).calls })
          ∙ ap (λ (m : Members). let s : SwitchboardValue = record c.args.switchboard.now { calls = m } in s) (sym (more_calls calls os i o c.loop-outcome-test.true c.outcome-item.is)),
      c.in-Ok.ensures.write ∙ c.loop-outcome.invariant.2,
      c.in-Ok.ensures.link ∙ c.loop-outcome.invariant.3,
    )

pub returns-in-Err-clause-done : goal.returns-in-Err-clause-done
returns-in-Err-clause-done g c =
    let so_far = c.loop-outcome.invariant.0 in
    let calls : Members = c.args.switchboard.now.calls in
    let os : List Outcome = c.args.outcomes.now in
    let i : ℕ = c.loop-outcome.outcome-index in
    let o : Outcome = c.outcome-item.result in
    let before : Following = told_and_parted calls (take i os) in
    let known : c.loop-outcome.switchboard.calls ≡ before.calls = ap (λ (s : SwitchboardValue). s.calls) c.loop-outcome.invariant.1 in
    let all = all_told calls os i o c.loop-outcome-test.true c.outcome-item.is in
    let done = c.in-Err.ensures.done in (
      so_far.0 ++ done.0,
      so_far.1 ++ done.1,
      called_more _ _ _ so_far.0 done.0 so_far.2 done.2,
      wrote_more _ _ _ so_far.1 done.1 so_far.3 done.3,
      subst (λ (l : List Act). AreCarriedOut (Err c.in-Err.status) l (so_far.0 ++ done.0) (so_far.1 ++ done.1))
          (sym (ap acts_of_all all.1 ∙ map-append act_of_bridge before.told (told_next before.calls o ++ all.0) ∙ ap (λ (l : List Act). acts_of_all before.told ++ l) (map-append act_of_bridge (told_next before.calls o) all.0)))
          (told_more (Err c.in-Err.status) (acts_of_all before.told) (acts_next before.calls o ++ acts_of_all all.0) so_far.0 done.0 so_far.1 done.1 so_far.4
          (told_longer c.in-Err.status (acts_next before.calls o) (acts_of_all all.0) done.0 done.1 (subst (λ (m : Members). AreCarriedOut (Err c.in-Err.status) (acts_next m o) done.0 done.1) known done.4))),
    )

pub returns-clause-done : goal.returns-clause-done
returns-clause-done g c =
    let so_far = c.loop-outcome.invariant.0 in
    let all : take c.loop-outcome.outcome-index c.args.outcomes.now ≡ c.args.outcomes.now = take_all c.loop-outcome.outcome-index c.args.outcomes.now c.loop-outcome-test.false in (
      so_far.0,
      so_far.1,
      so_far.2,
      so_far.3,
      subst (λ (l : List Outcome). AreCarriedOut (Ok tt) (acts_of_all (told_and_parted c.args.switchboard.now.calls l).told) so_far.0 so_far.1) all so_far.4,
    )
