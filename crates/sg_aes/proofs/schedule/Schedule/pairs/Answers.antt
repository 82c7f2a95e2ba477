use Rattle.std.proofs.Common.{ℕ, List, ◌∙◌, ◌-◌, ap, ap₂, refl, arith, map, ◌++◌, take, drop}
use Rattle.sg_aes.specs.KeyExpansion.{round_keys, round_key}
use Rattle.sg_aes.specs.Cipher.{rounds}
use Rattle.sg_aes.specs.Lanes.{key_nibbles}
use Rattle.sg_aes.proofs.CipherLemmas.{round_key_state}
use Rattle.sg_aes.proofs.PairLemmas.{both_as}
use Rattle.sg_aes.proofs.KeyLemmas.{key_is, key_count, rounds_next, first_key, aes_encrypt_is}
use Rattle.sg_aes.proofs.schedule.Schedule.pairs.Goals as goal

pub rounds-init : goal.rounds-init
rounds-init c =
    let w = round_keys c.args.self.now in
    let key = c.round_key-first.ensures ∙ key_is c.self.inside.key_words c.args.self.now c.self.inside.words 0 c.self.invariant.expanded c.self.view_is (omega arith) in
    let at = λ (block : List ℕ). first_key w block _ key in
    record {
      left = both_as (at (take 16 c.args.one)) (at (drop 16 c.args.one)) c.keyed-left.ensures;
      right = both_as (at (take 16 c.args.other)) (at (drop 16 c.args.other)) c.keyed-right.ensures;
    }

pub rounds-preserved : goal.rounds-preserved
rounds-preserved c =
    let w = round_keys c.args.self.now in
    let r = c.rounds.r in
    let i = c.rounds.invariant in
    let z = round_key_state c.args.self.now r in
    let kept = c.kept_key.ensures ∙ c.self.invariant.are_kept r (omega arith) (omega arith) ∙ ap (map key_nibbles) (key_is c.self.inside.key_words c.args.self.now c.self.inside.words r c.self.invariant.expanded c.self.view_is (omega arith)) in
    let key = c.doubled-key.ensures.value ∙ ap₂ (λ a b. a ++ b) kept kept in
    let at = λ (block : List ℕ). rounds w (r - 1) block in
    let on = λ (block : List ℕ). rounds_next w r block (omega arith) in
    let a = take 16 c.args.one in
    let b = drop 16 c.args.one in
    let d = take 16 c.args.other in
    let e = drop 16 c.args.other in
    record {
      left = both_as (on a) (on b) (c.round-left.ensures (at a) (at b) (round_key w r) i.left z key);
      right = both_as (on d) (on e) (c.round-right.ensures (at d) (at e) (round_key w r) i.right z key);
    }

pub returns : goal.returns
returns c =
    let i = c.rounds.invariant in
    let n = c.self.inside.key_words in
    let w = round_keys c.args.self.now in
    let m = c.round_count-last.result in
    let count = key_count n c.args.self.now c.self.inside.words c.self.invariant.expanded c.self.view_is in
    let key = c.round_key-key.ensures ∙ key_is n c.args.self.now c.self.inside.words m c.self.invariant.expanded c.self.view_is (omega arith) in
    let at = λ (block : List ℕ). rounds w (c.rounds.r - 1) block in
    let whole = λ (block : List ℕ). aes_encrypt_is c.args.self.now block (at block) _ n m c.rounds.r count c.round_count-last.ensures (omega arith) refl key in
    let a = take 16 c.args.one in
    let b = drop 16 c.args.one in
    let d = take 16 c.args.other in
    let e = drop 16 c.args.other in
    record {
      one = c.last_round.ensures (at a) (at b) i.left ∙ ap₂ (λ x y. x ++ y) (whole a) (whole b);
      other = c.last_round-2.ensures (at d) (at e) i.right ∙ ap₂ (λ x y. x ++ y) (whole d) (whole e);
    }
