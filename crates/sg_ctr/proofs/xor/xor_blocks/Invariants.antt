use Rattle.std.proofs.Common.{◌*◌}
use Rattle.sg_ctr.specs.Xor.{XorsOnto, block_octet}
use Rattle.sg_ctr.proofs.xor.xor_blocks.Given as goal

abbrev pub invariant-pieces : goal.invariant-pieces
invariant-pieces l = XorsOnto l.initial.part l.part l.at (32 * l.j) (block_octet l.blocks)
