use Rattle.std.proofs.Common.{[], ◌∷◌, sym, subst}
use Rattle.sg_relay.proofs.Common.{AreCarriedOut, act_of_bridge, outcome_by}
use Rattle.sg_relay.proofs.joined.put_out.Goals as goal
use Rattle.sg_switchboard.specs.declared.switched.SwitchedEnd.{SwitchedEnd}

pub returns-in-Lost-clause-done : goal.returns-in-Lost-clause-done
returns-in-Lost-clause-done g c =
    let told = c.carry_out_bridge.ensures.done in (
      told.0,
      told.1,
      told.2,
      told.3,
      subst (λ (end : SwitchedEnd). AreCarriedOut c.carry_out_bridge.result (act_of_bridge (outcome_by c.args.switched.now.pad end) ∷ []) told.0 told.1) (sym c.in-Lost.is) told.4,
    )
