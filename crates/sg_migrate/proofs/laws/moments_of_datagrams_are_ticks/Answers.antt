use Rattle.std.proofs.Common.{refl}
use Rattle.sg_migrate.proofs.laws.moments_of_datagrams_are_ticks.Goals as goal

pub returns : goal.returns
returns c = λ moment port from octets. refl
