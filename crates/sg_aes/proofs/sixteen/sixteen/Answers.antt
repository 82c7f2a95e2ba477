use Rattle.std.proofs.Common.{ℕ, List, ◌≡◌, ◌-◌, ◌+◌, ◌*◌, ◌/◌, ◌%◌, ap, arith, subst, bit_xor}
use Rattle.std.specs.Prelude.{slice_index}
use Rattle.sg_aes.specs.State.{last_round}
use Rattle.sg_aes.specs.Cipher.{rounds}
use Rattle.sg_aes.specs.KeyExpansion.{round_key}
use Rattle.sg_aes.specs.Planes.{HasPlanes, number_at, octet_at, key_at}
use Rattle.sg_aes.specs.Numbered.{numbered}
use Rattle.sg_aes.proofs.CipherLemmas.{rounds_state, last_state}
use Rattle.sg_aes.proofs.KeyLemmas.{rounds_next}
use Rattle.sg_aes.proofs.PlaneLemmas.{planes_by_rule, first_octets, numbered_state}
use Rattle.sg_aes.proofs.sixteen.sixteen.Goals as goal

pub rounds-init : goal.rounds-init
rounds-init c = λ w held hk.
    let both : List ℕ = c.doubled.result in
    let v : ℕ → ℕ → ℕ = λ p j. slice_index both p in
    let k : ℕ → ℕ → ℕ = λ p j. bit_xor (slice_index (round_key w 0) (p % 16)) 0 in
    planes_by_rule (λ p j hp hj. first_octets w c.args.base.now both p j c.told-base c.doubled.ensures.value hp hj)
    (c.added-x.ensures (λ p j. bit_xor (v p j) (number_at p j)) k (c.added-counted.ensures v number_at c.planes_of-plain.ensures c.numbers.ensures) (c.plane_key-first.ensures k held.first))

pub rounds-preserved : goal.rounds-preserved
rounds-preserved c = λ w held hk.
    let r = c.rounds.r in
    let s : ℕ → List ℕ = λ n. rounds w (r - 1) (numbered c.args.base.now n) in
    planes_by_rule (λ p j hp hj. ap (λ xs. slice_index xs (p % 16)) (rounds_next w r (numbered c.args.base.now (8 * (p / 16) + j)) (omega arith)))
    (c.round-x.ensures s (round_key w r) (λ n. rounds_state w hk (numbered c.args.base.now n) (numbered_state c.args.base.now n c.fits-base) (r - 1)) (hk r)
    (c.rounds.invariant w held hk) (c.plane_key-key.ensures (key_at (round_key w r)) (held.others r (omega arith) (omega arith))))

pub returns : goal.returns
returns c = λ w held hk.
    let last = c.args.last in
    let k : List ℕ = round_key w last in
    let s : ℕ → List ℕ = λ n. rounds w (last - 1) (numbered c.args.base.now n) in
    let e : c.rounds.r ≡ last = omega arith in
    let x = subst (λ (r : ℕ). HasPlanes (octet_at (λ n. rounds w (r - 1) (numbered c.args.base.now n))) c.rounds.x) e (c.rounds.invariant w held hk) in
    let made = c.last_round.ensures s k (λ n. rounds_state w hk (numbered c.args.base.now n) (numbered_state c.args.base.now n c.fits-base) (last - 1)) (hk last)
    x (c.plane_key-last_key.ensures (key_at k) (held.others last (omega arith) (omega arith))) in
    c.blocks_of.ensures (λ n. last_round (s n) k) (λ n. last_state (s n) k (hk last)) made
