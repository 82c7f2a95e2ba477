use Rattle.std.proofs.Common.{◌≡◌, ◌*◌, length}
use Rattle.sg_demo.specs.Words.{octets_drawn}
use Rattle.sg_demo.proofs.words.draw_octets.Given as goal

abbrev pub invariant-loop-count : goal.invariant-loop-count
invariant-loop-count l = (l.octets.items ≡ (octets_drawn l._count l.fn.words).0) × (l.words ≡ (octets_drawn l._count l.fn.words).1) × (length l.octets.items ≡ 4 * l._count)
