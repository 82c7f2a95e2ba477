use Rattle.std.proofs.Common.{ℕ, bit_xor}
use Rattle.std.specs.Prelude.{slice_index}
use Rattle.std.proofs.lemmas.Nat.{xor_of_8}
use Rattle.sg_aes.specs.Field.{times_x}
use Rattle.sg_aes.specs.Planes.{octet_at, key_at, rows, next_rows, half_turned, without_constant}
use Rattle.sg_aes.proofs.PlaneLemmas.{octets_small, boxed_small, planes_by_rule, round_octets}
use Rattle.sg_aes.proofs.planes.round.Goals as goal

pub returns : goal.returns
returns c = λ s k hs hk hx hkey.
    let v : ℕ → ℕ → ℕ = octet_at s in
    let u : ℕ → ℕ → ℕ = λ p j. without_constant (v p j) in
    let boxed = c.boxed-s.ensures v (octets_small s hs) hx in
    let next = c.shifted_next-b.ensures u boxed in
    let un : ℕ → ℕ → ℕ = λ p j. u (slice_index next_rows p) j in
    let ur : ℕ → ℕ → ℕ = λ p j. u (slice_index rows p) j in
    let t : ℕ → ℕ → ℕ = λ p j. bit_xor (ur p j) (un p j) in
    let two = c.added-t.ensures ur un (c.shifted.ensures u boxed) next in
    let small = λ (p j : ℕ). xor_of_8 (ur p j) (un p j) (boxed_small s (slice_index rows p) j) (boxed_small s (slice_index next_rows p) j) in
    let turned = c.turned.ensures t two in
    let th : ℕ → ℕ → ℕ = λ p j. t (slice_index half_turned p) j in
    let a = c.added.ensures th un turned next in
    let ta : ℕ → ℕ → ℕ = λ p j. bit_xor (th p j) (un p j) in
    let d = c.doubled.ensures t small two in
    let td : ℕ → ℕ → ℕ = λ p j. times_x (t p j) in
    let b = c.added-2.ensures ta td a d in
    let tb : ℕ → ℕ → ℕ = λ p j. bit_xor (ta p j) (td p j) in
    planes_by_rule (round_octets s k) (c.added-3.ensures tb (key_at k) b hkey)
