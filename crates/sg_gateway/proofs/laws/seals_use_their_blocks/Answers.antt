use Rattle.std.proofs.Common.{get_or}
use Rattle.sg_gateway.proofs.UnderBlocks.{seal_uses_its_blocks}
use Rattle.sg_gateway.specs.Runs.{turns}
use Rattle.sg_gateway.proofs.laws.seals_use_their_blocks.Goals as goal

pub returns : goal.returns
returns c = λ events i t lt j e lt' sealing on.
    seal_uses_its_blocks (get_or (turns events) i t) (get_or (get_or (turns events) i t).entries j e) (c.what_is_sealed_goes_out.ensures.each events i t lt j e lt' sealing) on
