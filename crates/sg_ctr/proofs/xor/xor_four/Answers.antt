use Rattle.std.proofs.Common.{◌≡◌, ℕ, ◌*◌, ◌+◌, ◌-◌, ap, arith, subst, slice_index}
use Rattle.sg_ctr.specs.Xor.{XorsOnto, stream_octet}
use Rattle.sg_ctr.proofs.XorLemmas.{both_xored, pair_xored}
use Rattle.sg_ctr.proofs.xor.xor_four.Goals as goal

pub returns-then-count-lt32 : goal.returns-then-count-lt32
returns-then-count-lt32 c = λ counter held.
    pair_xored c.args.schedule.now counter c.args.number c.args.count c.counters.result c.pairs.result.0 c.args.part.now c.xor_onto.new.part (omega arith)
    (c.counters.ensures counter held) c.pairs.ensures.one
    (subst (λ (n : ℕ). XorsOnto c.args.part.now c.xor_onto.new.part (16 * n) c.args.count (slice_index c.pairs.result.0)) c.from-at.ensures c.xor_onto.ensures)

pub returns-else-count-lt32 : goal.returns-else-count-lt32
returns-else-count-lt32 c = λ counter held.
    let key = c.args.schedule.now in
    let n = c.args.number in
    let count = c.args.count in
    let old = c.args.part.now in
    let mid = c.xor_whole.new.part in
    let new = c.xor_onto-else-count-lt32.new.part in
    let place : 16 * c.from-at.result + 32 ≡ 16 * (n + 2) = omega (arith, c.from-at.ensures) in
    let left =
    pair_xored key counter n 32 c.counters.result c.pairs.result.0 old mid (omega arith) (c.counters.ensures counter held) c.pairs.ensures.one
    (subst (λ (m : ℕ). XorsOnto old mid (16 * m) 32 (slice_index c.pairs.result.0)) c.from-at.ensures c.xor_whole.ensures) in
    let right =
    pair_xored key counter (n + 2) (count - 32) c.counters-2.result c.pairs.result.1 mid new (omega arith) (c.counters-2.ensures counter held) c.pairs.ensures.other
    (subst (λ (m : ℕ). XorsOnto mid new m (count - 32) (slice_index c.pairs.result.1)) place c.xor_onto-else-count-lt32.ensures) in
    both_xored old mid new (λ k. stream_octet key counter (16 * n + k)) (λ k. stream_octet key counter (16 * (n + 2) + k)) (16 * n) 32 (16 * (n + 2)) (count - 32) count (omega arith) (omega arith)
    left right (λ k lt. let e : 16 * (n + 2) + k ≡ 16 * n + (32 + k) = omega arith in ap (stream_octet key counter) e)
