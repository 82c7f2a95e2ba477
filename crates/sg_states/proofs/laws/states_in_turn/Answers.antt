use Rattle.std.proofs.Common.{◌<◌, subst, sym}
use Rattle.std.proofs.lemmas.List.{length-map}
use Rattle.sg_keys.specs.Stands.{live_key}
use Rattle.sg_states.proofs.OpeningLaw.{opening_is}
use Rattle.sg_states.proofs.SealingLaw.{sealing_is}
use Rattle.sg_states.proofs.laws.states_in_turn.Goals as goal

pub returns-clause-opening : goal.returns-clause-opening
returns-clause-opening c = opening_is

pub returns-clause-sealing : goal.returns-clause-sealing
returns-clause-sealing c = λ s p some. sealing_is s p (subst (λ n. 0 < n) (sym (length-map s.keys (live_key s))) some)
