use Rattle.std.proofs.Common.{refl}
use Rattle.sg_aes.specs.Planes.{half_turned}
use Rattle.sg_aes.proofs.PlaneLemmas.{moved}
use Rattle.sg_aes.proofs.planes.turned_plane.Goals as goal

pub returns : goal.returns
returns c = λ v b h. moved half_turned refl refl h refl
