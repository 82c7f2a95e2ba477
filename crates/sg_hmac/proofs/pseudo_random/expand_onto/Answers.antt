use Rattle.std.proofs.Common.{◌≡◌, ◌+◌, ◌*◌, ◌-◌, ◌++◌, [], ap, ◌∙◌, arith, take, drop, append-nil, append_assoc}
use Rattle.sg_base.specs.Octets.{xor_octets}
use Rattle.sg_hmac.specs.Hmac.{hmac_sha1}
use Rattle.sg_hmac.specs.Prf.{joined_macs}
use Rattle.sg_hmac.proofs.PrfLemmas.{piece_more, pieces_done, joined_size, one_joined, one_chained}
use Rattle.sg_hmac.proofs.pseudo_random.expand_onto.Goals as goal

pub loop-i-preserved : goal.loop-i-preserved
loop-i-preserved c =
    let i = c.loop-i.i in
    let xs = c.args.part.now in
    let secret = c.args.secret.now in
    let label = c.args.head.now ++ c.args.tail.now in
    let mac =
    c.mac_over-mac.ensures secret c.new-key.ensures
    ∙ ap (hmac_sha1 secret) (append_assoc c.loop-i.chain c.args.head.now c.args.tail.now)
    ∙ ap (λ t. hmac_sha1 secret (t ++ (c.args.head.now ++ c.args.tail.now))) c.loop-i.invariant.1 in
    let next : 20 * i + 20 ≡ 20 * (i + 1) = omega arith in (
      piece_more xs c.loop-i.part (joined_macs secret label i) c.mac_over-mac.result c.xor_onto.new.part (20 * i) (c.min.result - 20 * i)
          (omega arith) (joined_size secret label i) (omega arith) (omega arith) (omega arith) (λ lt. omega (arith, lt)) c.loop-i.invariant.0 c.xor_onto.ensures
          ∙ ap (λ t. xor_octets (take (20 * i + 20) xs) t ++ drop (20 * i + 20) xs) (one_joined secret label c.mac_over-mac.result i mac)
          ∙ ap (λ n. xor_octets (take n xs) (joined_macs secret label (i + 1)) ++ drop n xs) next,
      one_chained secret label c.mac_over-chain-in-loop-i.result i
          (c.mac_over-chain-in-loop-i.ensures secret c.new-key.ensures
          ∙ ap (hmac_sha1 secret) (append-nil (c.loop-i.chain ++ []) ∙ append-nil c.loop-i.chain ∙ c.loop-i.invariant.1)),
    )

pub returns : goal.returns
returns c =
    c.loop-i.invariant.0
    ∙ pieces_done c.args.secret.now (c.args.head.now ++ c.args.tail.now) c.args.part.now c.loop-i.i (omega arith)
