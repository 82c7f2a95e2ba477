use Rattle.sg_states.proofs.outbound.Headed.spend.Goals as goal

pub returns-clause-spent : goal.returns-clause-spent
returns-clause-spent c = c.spend.ensures _ c.key.ensures
