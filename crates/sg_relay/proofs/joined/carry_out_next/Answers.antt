use Rattle.std.proofs.Common.{[], ◌∷◌, ◌++◌, Option, sym, subst, ◌∙◌, option_to_list}
use Rattle.sg_relay.proofs.Common.{AreCarriedOut, BridgeOutcome, act_of, act_of_bridge, acts_of_all, after_outcome, called_more, wrote_more}
use Rattle.sg_relay.proofs.Deeds.{told_longer, told_more}
use Rattle.sg_relay.proofs.joined.carry_out_next.Goals as goal

pub returns-in-Err-clause-done : goal.returns-in-Err-clause-done
returns-in-Err-clause-done g c =
    let told = c.in-Err.ensures.done in (
      told.0,
      told.1,
      told.2,
      told.3,
      told_longer c.in-Err.status (act_of c.args.outcome.now ∷ []) (acts_of_all (option_to_list (after_outcome c.args.switchboard.now.calls c.args.outcome.now).parted)) told.0 told.1 told.4,
    )

pub returns-in-Some-clause-done : goal.returns-in-Some-clause-done
returns-in-Some-clause-done g c =
    let told = c.in-Ok.ensures.done in
    let more = c.carry_out_bridge.ensures.done in (
      told.0 ++ more.0,
      told.1 ++ more.1,
      called_more _ _ _ told.0 more.0 told.2 more.2,
      wrote_more _ _ _ told.1 more.1 told.3 more.3,
      subst (λ (p : Option BridgeOutcome). AreCarriedOut c.carry_out_bridge.result (act_of c.args.outcome.now ∷ acts_of_all (option_to_list p)) (told.0 ++ more.0) (told.1 ++ more.1)) (sym c.in-Some.is ∙ c.note.ensures.parted)
          (told_more c.carry_out_bridge.result (act_of c.args.outcome.now ∷ []) (act_of_bridge c.in-Some.parted ∷ []) told.0 more.0 told.1 more.1 told.4 more.4),
    )
