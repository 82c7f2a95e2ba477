use Rattle.std.proofs.Common.{ap, ◌∙◌}
use Rattle.sg_base.specs.Octets.{same_octets}
use Rattle.sg_keys.specs.Live.{Live}
use Rattle.sg_keys.proofs.MkiTests.{pointwise_is}
use Rattle.sg_keys.proofs.prepared_key.PreparedKey.has_mki.Goals as goal

pub returns : goal.returns
returns c =
    c.eq.ensures
    ∙ pointwise_is c.as_slice.result.now c.args.mki.now
    ∙ ap (λ xs. same_octets xs c.args.mki.now) (c.as_slice.ensures.value ∙ c.self.invariant.same_mki)
    ∙ ap (λ (k : Live). same_octets k.mki c.args.mki.now) c.self.view_is
