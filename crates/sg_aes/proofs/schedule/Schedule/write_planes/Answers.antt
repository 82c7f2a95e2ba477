use Rattle.std.proofs.Common.{ℕ, ◌≡◌, ◌+◌, ◌/◌, arith, length, subst}
use Rattle.sg_aes.specs.KeyExpansion.{round_keys}
use Rattle.sg_aes.specs.Planes.{AreKeyPlanes}
use Rattle.sg_aes.proofs.KeyLemmas.{key_is, key_count}
use Rattle.sg_aes.proofs.PlaneLemmas.{planes_of_key}
use Rattle.sg_aes.proofs.schedule.Schedule.write_planes.Goals as goal

pub returns : goal.returns
returns c =
    let key = c.args.self.now in
    let n = c.self.inside.key_words in
    let words = c.self.inside.words in
    let count = key_count n key words c.self.invariant.expanded c.self.view_is in
    let m : ℕ = c.round_count.result + 1 in
    let e : m ≡ length key / 4 + 7 = omega (arith, count, c.round_count.ensures) in
    subst (λ (k : ℕ). AreKeyPlanes (round_keys key) c.write_key_planes.new.kept k) e
    (planes_of_key words (round_keys key) c.write_key_planes.new.kept m (omega arith) (λ r lt. key_is n key words r c.self.invariant.expanded c.self.view_is (omega (arith, lt, c.round_count.ensures))) c.write_key_planes.ensures)
