-- The numbers of two and of four octets, as they are read.
use Rattle.std.proofs.Common.{◌≡◌, ℕ, zero, suc, ◌+◌, ◌≤◌, List, [], ◌∷◌, length, take, drop, arith}
use Rattle.sg_base.specs.Octets.{number_of}
use Rattle.sg_rtp.specs.Fields.{u16_at, u32_at}

pub u16_is : (o : List ℕ) (at : ℕ) → at + 2 ≤ length o → number_of (take 2 (drop at o)) ≡ u16_at o at
u16_is [] at h = absurd (omega arith)
u16_is (a ∷ []) zero h = absurd (omega arith)
u16_is (a ∷ b ∷ o) zero h = omega arith
u16_is (a ∷ o) (suc at) h = let e : suc at + 1 ≡ suc (at + 1) = omega arith in rw e (u16_is o at (omega (arith, h)))

pub u32_is : (o : List ℕ) (at : ℕ) → at + 4 ≤ length o → number_of (take 4 (drop at o)) ≡ u32_at o at
u32_is [] at h = absurd (omega arith)
u32_is (a ∷ []) zero h = absurd (omega arith)
u32_is (a ∷ b ∷ []) zero h = absurd (omega arith)
u32_is (a ∷ b ∷ c ∷ []) zero h = absurd (omega arith)
u32_is (a ∷ b ∷ c ∷ d ∷ o) zero h = omega arith
u32_is (a ∷ o) (suc at) h =
    let e : suc at + 1 ≡ suc (at + 1) = omega arith in
    let f : suc at + 2 ≡ suc (at + 2) = omega arith in
    let g : suc (at + 2) + 1 ≡ suc (at + 2 + 1) = omega arith in
    rw (e, f, g) (u32_is o at (omega (arith, h)))
