use Rattle.std.proofs.Common.{ap, ◌∙◌, ℕ, List, Option, get_or}
use Rattle.sg_sdp.specs.Addresses.{with_address, first_address}
use Rattle.std.specs.Option.{option_or}
use Rattle.sg_sdp.proofs.MediaLoops.{fills}
use Rattle.sg_sdp.proofs.addresses.address_all.Goals as goal

pub loop-medium-preserved : goal.loop-medium-preserved
loop-medium-preserved c = let h = c.or-medium.ensures in let k = c.first_address.ensures in let m = c.as_slice.ensures in fills (with_address c.args.session) _ c.loop-medium.medium-items c.loop-medium.medium-index c.medium-item.result _ c.loop-medium-test.true c.loop-medium.invariant (ap (λ (a : Option (List ℕ)). record (get_or c.loop-medium.medium-items c.loop-medium.medium-index c.medium-item.result) { address = a }) (h ∙ ap (λ (a : Option (List ℕ)). option_or a c.args.session) (k ∙ ap first_address m)))
