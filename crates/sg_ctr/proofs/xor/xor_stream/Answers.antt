use Rattle.std.proofs.Common.{◌≡◌, ℕ, ◌*◌, ◌+◌, ◌-◌, ◌/◌, arith, refl, length, ap, subst}
use Rattle.sg_ctr.specs.Xor.{CountsFrom, XorsOnto, stream_octet}
use Rattle.sg_ctr.proofs.XorLemmas.{both_xored, xored_whole}
use Rattle.sg_ctr.proofs.xor.xor_stream.Goals as goal

pub fours-init : goal.fours-init
fours-init c =
    let sixteens = length c.args.part.now / 256 in
    let held : CountsFrom c.octets_of-first.result c.args.counter = record { octets = c.octets_of-first.ensures; fits = c.ranges.counter.fits; from_zero = c.requires.counter } in
    let place : 256 * sixteens ≡ 64 * (4 * sixteens) = omega arith in
    subst (λ (n : ℕ). XorsOnto c.args.part.now c.xor_long.new.part 0 n (stream_octet c.args.schedule.now c.args.counter)) place (c.xor_long.ensures c.args.counter held)

pub fours-preserved : goal.fours-preserved
fours-preserved c =
    let key = c.args.schedule.now in
    let counter = c.args.counter in
    let i = c.fours.i in
    let held : CountsFrom c.octets_of-first.result counter = record { octets = c.octets_of-first.ensures; fits = c.ranges.counter.fits; from_zero = c.requires.counter } in
    both_xored c.args.part.now c.fours.part c.xor_four.new.part (stream_octet key counter) _ 0 (64 * i) (16 * (4 * i)) 64 _ (omega arith) (omega arith)
    c.fours.invariant (c.xor_four.ensures counter held) (λ k h. let place : 16 * (4 * i) + k ≡ 64 * i + k = omega arith in ap (stream_octet key counter) place)

pub returns-then-left-gt32 : goal.returns-then-left-gt32
returns-then-left-gt32 c =
    let key = c.args.schedule.now in
    let counter = c.args.counter in
    let i = c.fours.i in
    let len = length c.args.part.now in
    let held : CountsFrom c.octets_of-first.result counter = record { octets = c.octets_of-first.ensures; fits = c.ranges.counter.fits; from_zero = c.requires.counter } in
    xored_whole key counter c.args.part.now c.xor_four-then-left-gt32.new.part len
    (both_xored c.args.part.now c.fours.part c.xor_four-then-left-gt32.new.part (stream_octet key counter) _ 0 (64 * i) (16 * (4 * (len / 64))) (len - 64 * (len / 64)) len (omega arith) (omega arith)
    c.fours.invariant (c.xor_four-then-left-gt32.ensures counter held) (λ k h. let place : 16 * (4 * (len / 64)) + k ≡ 64 * i + k = omega arith in ap (stream_octet key counter) place))
    refl

pub returns-then-left-gt0 : goal.returns-then-left-gt0
returns-then-left-gt0 c =
    let key = c.args.schedule.now in
    let counter = c.args.counter in
    let i = c.fours.i in
    let len = length c.args.part.now in
    let held : CountsFrom c.octets_of-first.result counter = record { octets = c.octets_of-first.ensures; fits = c.ranges.counter.fits; from_zero = c.requires.counter } in
    xored_whole key counter c.args.part.now c.xor_two.new.part len
    (both_xored c.args.part.now c.fours.part c.xor_two.new.part (stream_octet key counter) _ 0 (64 * i) (16 * (4 * (len / 64))) (len - 64 * (len / 64)) len (omega arith) (omega arith)
    c.fours.invariant (c.xor_two.ensures counter held) (λ k h. let place : 16 * (4 * (len / 64)) + k ≡ 64 * i + k = omega arith in ap (stream_octet key counter) place))
    refl

pub returns-else-left-gt0 : goal.returns-else-left-gt0
returns-else-left-gt0 c = xored_whole c.args.schedule.now c.args.counter c.args.part.now c.fours.part (64 * c.fours.i) c.fours.invariant (omega arith)
