use Rattle.sg_index.proofs.NearestFaults.{first_found, first_from, spent_found, spent_from}
use Rattle.sg_index.proofs.laws.nearest_law.Goals as goal

pub returns-clause-before_first : goal.returns-clause-before_first
returns-clause-before_first c = λ h seq p. (first_found h seq p, λ (n, near, below). first_from h seq n near below)

pub returns-clause-spent : goal.returns-clause-spent
returns-clause-spent c = λ h seq p. (spent_found h seq p, λ (n, near, above). spent_from h seq n near above)
