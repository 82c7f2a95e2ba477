use Rattle.std.proofs.Common.{rules, ◌≡◌, ◌+◌, ℕ, List, [], ◌∷◌, ◌++◌, map, take, drop, refl, sym, ap, subst, ◌∙◌, take-append-drop, Ok, Err}
use Rattle.sg_relay.proofs.Common.{Act, AreCarriedOut, Outcome, act_of, called_more, called_none, map-append, take_all, wrote_more, wrote_none}
use Rattle.sg_relay.proofs.Deeds.{done_none, next_told, told_longer, told_more}
use Rattle.sg_relay.proofs.carrying_out.carry_out_all.Goals as goal

pub loop-outcome-init : goal.loop-outcome-init
loop-outcome-init g c = (([], [], called_none _, wrote_none _, (done_none, tt, refl)), search rules, search rules)

pub loop-outcome-preserved : goal.loop-outcome-preserved
loop-outcome-preserved g c =
    let so_far = c.loop-outcome.invariant.0 in
    let os : List Outcome = c.args.outcomes.now in
    let i : ℕ = c.loop-outcome.outcome-index in
    let o : Outcome = c.outcome-item.result in
    let done = c.in-Ok.ensures.done in (
      (
        so_far.0 ++ done.0,
        so_far.1 ++ done.1,
        called_more _ _ _ so_far.0 done.0 so_far.2 done.2,
        wrote_more _ _ _ so_far.1 done.1 so_far.3 done.3,
        subst (λ (l : List Act). AreCarriedOut (Ok tt) l (so_far.0 ++ done.0) (so_far.1 ++ done.1)) (sym (next_told os i o c.loop-outcome-test.true c.outcome-item.is))
            (told_more (Ok tt) (map act_of (take i os)) (act_of o ∷ []) so_far.0 done.0 so_far.1 done.1 so_far.4 done.4),
      ),
      c.in-Ok.ensures.write ∙ c.loop-outcome.invariant.1,
      c.in-Ok.ensures.link ∙ c.loop-outcome.invariant.2,
    )

pub returns-in-Err-clause-done : goal.returns-in-Err-clause-done
returns-in-Err-clause-done g c =
    let so_far = c.loop-outcome.invariant.0 in
    let os : List Outcome = c.args.outcomes.now in
    let i : ℕ = c.loop-outcome.outcome-index in
    let o : Outcome = c.outcome-item.result in
    let done = c.in-Err.ensures.done in (
      so_far.0 ++ done.0,
      so_far.1 ++ done.1,
      called_more _ _ _ so_far.0 done.0 so_far.2 done.2,
      wrote_more _ _ _ so_far.1 done.1 so_far.3 done.3,
      subst (λ (l : List Act). AreCarriedOut (Err c.in-Err.status) l (so_far.0 ++ done.0) (so_far.1 ++ done.1)) (sym (map-append act_of (take (i + 1) os) (drop (i + 1) os)) ∙ ap (map act_of) (take-append-drop (i + 1) os))
          (told_longer c.in-Err.status (map act_of (take (i + 1) os)) (map act_of (drop (i + 1) os)) (so_far.0 ++ done.0) (so_far.1 ++ done.1)
          (subst (λ (l : List Act). AreCarriedOut (Err c.in-Err.status) l (so_far.0 ++ done.0) (so_far.1 ++ done.1)) (sym (next_told os i o c.loop-outcome-test.true c.outcome-item.is))
          (told_more (Err c.in-Err.status) (map act_of (take i os)) (act_of o ∷ []) so_far.0 done.0 so_far.1 done.1 so_far.4 done.4))),
    )

pub returns-clause-done : goal.returns-clause-done
returns-clause-done g c =
    let so_far = c.loop-outcome.invariant.0 in
    let os : List Outcome = c.args.outcomes.now in
    let i : ℕ = c.loop-outcome.outcome-index in
    let all : take i os ≡ os = take_all i os c.loop-outcome-test.false in
    (so_far.0, so_far.1, so_far.2, so_far.3, subst (λ (l : List Act). AreCarriedOut (Ok tt) l so_far.0 so_far.1) (ap (map act_of) all) so_far.4)
