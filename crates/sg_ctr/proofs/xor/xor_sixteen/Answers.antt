use Rattle.std.proofs.Common.{ℕ, ◌*◌, subst}
use Rattle.sg_ctr.specs.Xor.{XorsOnto, block_octet}
use Rattle.sg_ctr.proofs.XorLemmas.{sixteen_xored}
use Rattle.sg_ctr.proofs.xor.xor_sixteen.Goals as goal

pub returns : goal.returns
returns c = λ counter held.
    sixteen_xored c.args.schedule.now counter c.args.number c.numbered.result c.sixteen-blocks.result c.args.part.now c.xor_blocks.new.part held c.requires.multiple
    (c.numbered.ensures counter held) c.sixteen-blocks.ensures
    (subst (λ (n : ℕ). XorsOnto c.args.part.now c.xor_blocks.new.part (16 * n) 256 (block_octet c.sixteen-blocks.result)) c.from.ensures c.xor_blocks.ensures)
