use Rattle.std.proofs.Common.{ℕ, ◌≡◌, ◌-◌, ◌+◌, ◌/◌, ◌∙◌, arith, length, map, refl, subst}
use Rattle.std.specs.List.{range_with_len}
use Rattle.sg_aes.specs.Cipher.{rounds}
use Rattle.sg_aes.specs.KeyExpansion.{round_keys, round_key}
use Rattle.sg_aes.specs.Numbered.{numbered}
use Rattle.sg_aes.specs.Planes.{AreKeyPlanes}
use Rattle.sg_aes.proofs.CipherLemmas.{round_key_state}
use Rattle.sg_aes.proofs.KeyLemmas.{key_count, aes_encrypt_is}
use Rattle.sg_aes.proofs.schedule.Schedule.sixteen.Goals as goal

pub returns : goal.returns
returns c =
    let key = c.args.self.now in
    let n = c.self.inside.key_words in
    let w = round_keys key in
    let last = c.round_count.result in
    let base = c.args.base.now in
    let count = key_count n key c.self.inside.words c.self.invariant.expanded c.self.view_is in
    let e : length key / 4 + 7 ≡ last + 1 = omega (arith, count, c.round_count.ensures) in
    let planes = subst (λ (k : ℕ). AreKeyPlanes w c.args.planes.now k) e c.requires in
    let same = λ (j : ℕ). aes_encrypt_is key (numbered base j) (rounds w (last - 1) (numbered base j)) (round_key w last) n last last count c.round_count.ensures refl refl refl in
    c.sixteen.ensures w planes (round_key_state key) ∙ (λ i. map (λ j. same j i) (range_with_len 0 16))
