use Rattle.std.proofs.Common.{◌≡◌, ℕ, ◌*◌, ◌+◌, arith, refl, subst}
use Rattle.sg_ctr.specs.Xor.{XorsOnto, block_octet}
use Rattle.sg_ctr.proofs.XorLemmas.{both_xored, octet_of_blocks}
use Rattle.sg_ctr.proofs.xor.xor_blocks.Goals as goal

pub pieces-preserved : goal.pieces-preserved
pieces-preserved c =
    let bs = c.args.blocks.now in
    let j = c.pieces.j in
    both_xored c.args.part.now c.pieces.part c.xor_blocks_of_two.new.part (block_octet bs) _ c.args.at (32 * j) (c.args.at + 32 * j) 32 _ refl (omega arith)
    c.pieces.invariant c.xor_blocks_of_two.ensures.sum (λ k h. octet_of_blocks bs j k c.xor_blocks_of_two.ensures.long h)

pub returns : goal.returns
returns c =
    let e : 32 * c.pieces.j ≡ 256 = omega arith in
    subst (λ (n : ℕ). XorsOnto c.args.part.now c.pieces.part c.args.at n (block_octet c.args.blocks.now)) e c.pieces.invariant
