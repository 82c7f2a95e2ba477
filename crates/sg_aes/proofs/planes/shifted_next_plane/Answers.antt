use Rattle.std.proofs.Common.{refl}
use Rattle.sg_aes.specs.Planes.{next_rows}
use Rattle.sg_aes.proofs.PlaneLemmas.{moved}
use Rattle.sg_aes.proofs.planes.shifted_next_plane.Goals as goal

pub returns : goal.returns
returns c = λ v b h. moved next_rows refl refl h refl
