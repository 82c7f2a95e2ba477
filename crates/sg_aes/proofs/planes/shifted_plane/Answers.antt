use Rattle.std.proofs.Common.{refl}
use Rattle.sg_aes.specs.Planes.{rows}
use Rattle.sg_aes.proofs.PlaneLemmas.{moved}
use Rattle.sg_aes.proofs.planes.shifted_plane.Goals as goal

pub returns : goal.returns
returns c = λ v b h. moved rows refl refl h refl
