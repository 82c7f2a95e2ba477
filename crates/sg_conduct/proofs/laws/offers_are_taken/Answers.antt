use Rattle.std.proofs.Common.{get_or}
use Rattle.sg_gateway.specs.Runs.{turns}
use Rattle.sg_conduct.proofs.Offers.{offer_taken}
use Rattle.sg_conduct.proofs.laws.offers_are_taken.Goals as goal

pub returns : goal.returns
returns c = λ events i t lt. offer_taken (get_or (turns events) i t) (c.signals_are_taken.ensures.offers events i t lt)
