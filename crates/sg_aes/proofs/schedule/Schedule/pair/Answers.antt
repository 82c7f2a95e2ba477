use Rattle.std.proofs.Common.{ℕ, List, ◌∙◌, ◌-◌, ap, ap₂, refl, arith, map, ◌++◌, take, drop}
use Rattle.sg_aes.specs.KeyExpansion.{round_keys, round_key}
use Rattle.sg_aes.specs.Cipher.{rounds}
use Rattle.sg_aes.specs.Lanes.{key_nibbles}
use Rattle.sg_aes.proofs.CipherLemmas.{round_key_state}
use Rattle.sg_aes.proofs.PairLemmas.{both_as}
use Rattle.sg_aes.proofs.KeyLemmas.{key_is, key_count, rounds_next, first_key, aes_encrypt_is}
use Rattle.sg_aes.proofs.schedule.Schedule.pair.Goals as goal

pub rounds-init : goal.rounds-init
rounds-init c =
    let w = round_keys c.args.self.now in
    let key = c.round_key.ensures ∙ key_is c.self.inside.key_words c.args.self.now c.self.inside.words 0 c.self.invariant.expanded c.self.view_is (omega arith) in
    let at = λ (block : List ℕ). first_key w block _ key in
    both_as (at (take 16 c.args.blocks)) (at (drop 16 c.args.blocks)) c.keyed-both.ensures

pub rounds-preserved : goal.rounds-preserved
rounds-preserved c =
    let w = round_keys c.args.self.now in
    let r = c.rounds.r in
    let z = round_key_state c.args.self.now r in
    let kept = c.kept_key.ensures ∙ c.self.invariant.are_kept r (omega arith) (omega arith) ∙ ap (map key_nibbles) (key_is c.self.inside.key_words c.args.self.now c.self.inside.words r c.self.invariant.expanded c.self.view_is (omega arith)) in
    let key = c.doubled.ensures.value ∙ ap₂ (λ a b. a ++ b) kept kept in
    let a = take 16 c.args.blocks in
    let b = drop 16 c.args.blocks in
    let on = λ (block : List ℕ). rounds_next w r block (omega arith) in
    both_as (on a) (on b) (c.round-both.ensures (rounds w (r - 1) a) (rounds w (r - 1) b) (round_key w r) c.rounds.invariant z key)

pub returns : goal.returns
returns c =
    let n = c.self.inside.key_words in
    let w = round_keys c.args.self.now in
    let m = c.round_count-last.result in
    let count = key_count n c.args.self.now c.self.inside.words c.self.invariant.expanded c.self.view_is in
    let key = c.round_key-2.ensures ∙ key_is n c.args.self.now c.self.inside.words m c.self.invariant.expanded c.self.view_is (omega arith) in
    let at = λ (block : List ℕ). rounds w (c.rounds.r - 1) block in
    let whole = λ (block : List ℕ). aes_encrypt_is c.args.self.now block (at block) _ n m c.rounds.r count c.round_count-last.ensures (omega arith) refl key in
    let a = take 16 c.args.blocks in
    let b = drop 16 c.args.blocks in
    c.last_round.ensures (at a) (at b) c.rounds.invariant ∙ ap₂ (λ x y. x ++ y) (whole a) (whole b)
