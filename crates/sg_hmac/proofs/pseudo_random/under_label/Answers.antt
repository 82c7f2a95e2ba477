use Rattle.std.proofs.Common.{rules, ◌≡◌, ◌+◌, ◌-◌, ◌/◌, ◌++◌, length, ap, ◌∙◌, arith, replicate}
use Rattle.sg_base.specs.Octets.{xor_octets}
use Rattle.sg_hmac.specs.Prf.{blocks_of, expanded, mikey_prf, under_blocks}
use Rattle.sg_hmac.proofs.PrfLemmas.{first_block, next_block, last_block, onto_length}
use Rattle.sg_hmac.proofs.pseudo_random.under_label.Goals as goal

pub loop-init : goal.loop-init
unfolding mikey_prf
loop-init c =
    let label = c.args.head.now ++ c.args.tail.now in
    let n = length c.args.part.now in
    let count : c.div_ceil-end.result - 0 ≡ (length c.args.secret.now + 31) / 32 = omega (arith, c.div_ceil-end.ensures) in
    let zeros : c.fill.new.self ≡ replicate n 0 = c.fill.ensures.after (search rules) in (
      c.fill.ensures.len,
      first_block (blocks_of (c.div_ceil-end.result - 0) c.args.secret.now) label c.fill.new.self n zeros
          ∙ ap (λ m. under_blocks (blocks_of m c.args.secret.now) label n) count,
    )

pub loop-preserved : goal.loop-preserved
loop-preserved c =
    let label = c.args.head.now ++ c.args.tail.now in
    let onto = c.expand_onto.ensures ∙ ap (λ n. xor_octets c.loop.part (expanded c.split_at.result.0.now label n)) c.loop.invariant.0 in (
      ap length onto ∙ onto_length c.split_at.result.0.now label c.loop.part (length c.args.part.now) (omega (arith, c.loop.invariant.0)) ∙ c.loop.invariant.0,
      next_block c.div_ceil-end.result c.loop.counter c.min.result (length c.args.part.now) c.loop.rest.now c.split_at.result.0.now c.split_at.result.1.now
          c.loop.part c.expand_onto.new.part label _ c.loop-test.true (omega arith) (λ lt. omega (arith, lt)) c.split_at.ensures.front c.split_at.ensures.back
          onto c.loop.invariant.1,
    )

pub returns : goal.returns
returns c =
    last_block (c.div_ceil-end.result - c.loop.counter) (length c.args.part.now) c.loop.rest.now c.loop.part (c.args.head.now ++ c.args.tail.now) _
    (omega (arith, c.loop-test.false)) c.loop.invariant.0 c.loop.invariant.1
