use Rattle.std.proofs.Common.{◌≡◌}
use Rattle.std.specs.Prelude.{option_map}
use Rattle.sg_sdes.specs.Parameters.{parameters_from, unsaid}
use Rattle.sg_sdes.specs.Words.{words_behind}
use Rattle.sg_sdes.proofs.WordLaws.{left}
use Rattle.sg_sdes.proofs.parameters.read_parameters.Given as goal

abbrev pub invariant-loop-rest : goal.invariant-loop-rest
invariant-loop-rest l = parameters_from l.said (words_behind (option_map (λ rest. rest.now) l.rest)) ≡ parameters_from unsaid (words_behind (option_map (λ rest. rest.now) l.text))

abbrev pub decreases-loop-rest : goal.decreases-loop-rest
decreases-loop-rest l = left l.rest
