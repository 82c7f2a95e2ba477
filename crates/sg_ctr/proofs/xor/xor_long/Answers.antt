use Rattle.std.proofs.Common.{◌≡◌, ℕ, ◌*◌, arith, subst}
use Rattle.sg_ctr.specs.Xor.{XorsOnto, stream_octet}
use Rattle.sg_ctr.proofs.XorLemmas.{none_xored}
use Rattle.sg_ctr.proofs.xor.xor_long.Goals as goal

pub returns-else-count-gt0 : goal.returns-else-count-gt0
returns-else-count-gt0 c = λ counter held.
    let part = c.args.part.now in
    let f = stream_octet c.args.schedule.now counter in
    let e : 0 ≡ 256 * c.args.count = omega arith in
    subst (λ (n : ℕ). XorsOnto part part 0 n f) e (none_xored part 0 f)
