use Rattle.std.proofs.Common.{◌≡◌, ℕ, ◌*◌, ◌+◌, ap, arith, subst}
use Rattle.sg_ctr.specs.Xor.{XorsOnto, stream_octet}
use Rattle.sg_ctr.proofs.XorLemmas.{both_xored, none_xored}
use Rattle.sg_ctr.proofs.xor.xor_sixteens.Goals as goal

pub sixteens-init : goal.sixteens-init
sixteens-init c = λ counter held. none_xored c.args.part.now 0 (stream_octet c.args.schedule.now counter)

pub sixteens-preserved : goal.sixteens-preserved
sixteens-preserved c = λ counter held.
    let key = c.args.schedule.now in
    let i = c.sixteens.i in
    both_xored c.args.part.now c.sixteens.part c.xor_sixteen.new.part (stream_octet key counter) _ 0 (256 * i) (16 * (16 * i)) 256 _ (omega arith) (omega arith)
    (c.sixteens.invariant counter held) (c.xor_sixteen.ensures counter held) (λ k h. let place : 16 * (16 * i) + k ≡ 256 * i + k = omega arith in ap (stream_octet key counter) place)

pub returns : goal.returns
returns c = λ counter held.
    let e : 256 * c.sixteens.i ≡ 256 * c.args.count = omega arith in
    subst (λ (n : ℕ). XorsOnto c.args.part.now c.sixteens.part 0 n (stream_octet c.args.schedule.now counter)) e (c.sixteens.invariant counter held)
