use Rattle.std.proofs.Common.{◌∷◌, [], ℕ, arith, refl}
use Rattle.std.specs.Int.{bit_at}
use Rattle.sg_aes.specs.Planes.{AreBits, above, below, octet_at}
use Rattle.sg_aes.proofs.PlaneLemmas.{octets_small}
use Rattle.sg_aes.proofs.SwapLemmas.{octets_told, states_beside}
use Rattle.sg_aes.proofs.sixteen.blocks_of.Goals as goal

pub returns : goal.returns
returns c = λ s hs h.
    let v : ℕ → ℕ → ℕ = octet_at s in
    let small = octets_small s hs in
    let f : ℕ → ℕ → ℕ → ℕ = λ b p i. bit_at (v p i) b in
    let h0 : AreBits (f 0) c.args.x.p0 = (h.bit0.long, h.bit0.bits) in
    let h1 : AreBits (f 1) c.args.x.p1 = (h.bit1.long, h.bit1.bits) in
    let h2 : AreBits (f 2) c.args.x.p2 = (h.bit2.long, h.bit2.bits) in
    let h3 : AreBits (f 3) c.args.x.p3 = (h.bit3.long, h.bit3.bits) in
    let h4 : AreBits (f 4) c.args.x.p4 = (h.bit4.long, h.bit4.bits) in
    let h5 : AreBits (f 5) c.args.x.p5 = (h.bit5.long, h.bit5.bits) in
    let h6 : AreBits (f 6) c.args.x.p6 = (h.bit6.long, h.bit6.bits) in
    let h7 : AreBits (f 7) c.args.x.p7 = (h.bit7.long, h.bit7.bits) in
    let a01 = c.swapped_1.ensures.exchanged (f 0) (f 1) h0 h1 in
    let a23 = c.swapped_1-2.ensures.exchanged (f 2) (f 3) h2 h3 in
    let a45 = c.swapped_1-3.ensures.exchanged (f 4) (f 5) h4 h5 in
    let a67 = c.swapped_1-4.ensures.exchanged (f 6) (f 7) h6 h7 in
    let b02 = c.swapped_2.ensures.exchanged (below 1 (f 0) (f 1)) (below 1 (f 2) (f 3)) a01.0 a23.0 in
    let b13 = c.swapped_2-2.ensures.exchanged (above 1 (f 0) (f 1)) (above 1 (f 2) (f 3)) a01.1 a23.1 in
    let b46 = c.swapped_2-3.ensures.exchanged (below 1 (f 4) (f 5)) (below 1 (f 6) (f 7)) a45.0 a67.0 in
    let b57 = c.swapped_2-4.ensures.exchanged (above 1 (f 4) (f 5)) (above 1 (f 6) (f 7)) a45.1 a67.1 in
    let d0 = c.swapped_4.ensures.exchanged (below 2 (below 1 (f 0) (f 1)) (below 1 (f 2) (f 3))) (below 2 (below 1 (f 4) (f 5)) (below 1 (f 6) (f 7))) b02.0 b46.0 in
    let d1 = c.swapped_4-2.ensures.exchanged (below 2 (above 1 (f 0) (f 1)) (above 1 (f 2) (f 3))) (below 2 (above 1 (f 4) (f 5)) (above 1 (f 6) (f 7))) b13.0 b57.0 in
    let d2 = c.swapped_4-3.ensures.exchanged (above 2 (below 1 (f 0) (f 1)) (below 1 (f 2) (f 3))) (above 2 (below 1 (f 4) (f 5)) (below 1 (f 6) (f 7))) b02.1 b46.1 in
    let d3 = c.swapped_4-4.ensures.exchanged (above 2 (above 1 (f 0) (f 1)) (above 1 (f 2) (f 3))) (above 2 (above 1 (f 4) (f 5)) (above 1 (f 6) (f 7))) b13.1 b57.1 in
    let x0 = octets_told (below 4 (below 2 (below 1 (f 0) (f 1)) (below 1 (f 2) (f 3))) (below 2 (below 1 (f 4) (f 5)) (below 1 (f 6) (f 7)))) (λ p. v p 0) c.swapped_4.result.0 (λ p hp. (c.swapped_4.ensures.octets p hp).0) (λ p. small p 0) (λ p. refl) d0.0 in
    let e0 = c.halves.ensures (s 0) (s 8) (hs 0).sixteen (hs 8).sixteen (states_beside s 0 c.swapped_4.result.0 hs (omega arith) x0) in
    let x1 = octets_told (below 4 (below 2 (above 1 (f 0) (f 1)) (above 1 (f 2) (f 3))) (below 2 (above 1 (f 4) (f 5)) (above 1 (f 6) (f 7)))) (λ p. v p 1) c.swapped_4-2.result.0 (λ p hp. (c.swapped_4-2.ensures.octets p hp).0) (λ p. small p 1) (λ p. refl) d1.0 in
    let e1 = c.halves-2.ensures (s 1) (s 9) (hs 1).sixteen (hs 9).sixteen (states_beside s 1 c.swapped_4-2.result.0 hs (omega arith) x1) in
    let x2 = octets_told (below 4 (above 2 (below 1 (f 0) (f 1)) (below 1 (f 2) (f 3))) (above 2 (below 1 (f 4) (f 5)) (below 1 (f 6) (f 7)))) (λ p. v p 2) c.swapped_4-3.result.0 (λ p hp. (c.swapped_4-3.ensures.octets p hp).0) (λ p. small p 2) (λ p. refl) d2.0 in
    let e2 = c.halves-3.ensures (s 2) (s 10) (hs 2).sixteen (hs 10).sixteen (states_beside s 2 c.swapped_4-3.result.0 hs (omega arith) x2) in
    let x3 = octets_told (below 4 (above 2 (above 1 (f 0) (f 1)) (above 1 (f 2) (f 3))) (above 2 (above 1 (f 4) (f 5)) (above 1 (f 6) (f 7)))) (λ p. v p 3) c.swapped_4-4.result.0 (λ p hp. (c.swapped_4-4.ensures.octets p hp).0) (λ p. small p 3) (λ p. refl) d3.0 in
    let e3 = c.halves-4.ensures (s 3) (s 11) (hs 3).sixteen (hs 11).sixteen (states_beside s 3 c.swapped_4-4.result.0 hs (omega arith) x3) in
    let x4 = octets_told (above 4 (below 2 (below 1 (f 0) (f 1)) (below 1 (f 2) (f 3))) (below 2 (below 1 (f 4) (f 5)) (below 1 (f 6) (f 7)))) (λ p. v p 4) c.swapped_4.result.1 (λ p hp. (c.swapped_4.ensures.octets p hp).1) (λ p. small p 4) (λ p. refl) d0.1 in
    let e4 = c.halves-5.ensures (s 4) (s 12) (hs 4).sixteen (hs 12).sixteen (states_beside s 4 c.swapped_4.result.1 hs (omega arith) x4) in
    let x5 = octets_told (above 4 (below 2 (above 1 (f 0) (f 1)) (above 1 (f 2) (f 3))) (below 2 (above 1 (f 4) (f 5)) (above 1 (f 6) (f 7)))) (λ p. v p 5) c.swapped_4-2.result.1 (λ p hp. (c.swapped_4-2.ensures.octets p hp).1) (λ p. small p 5) (λ p. refl) d1.1 in
    let e5 = c.halves-6.ensures (s 5) (s 13) (hs 5).sixteen (hs 13).sixteen (states_beside s 5 c.swapped_4-2.result.1 hs (omega arith) x5) in
    let x6 = octets_told (above 4 (above 2 (below 1 (f 0) (f 1)) (below 1 (f 2) (f 3))) (above 2 (below 1 (f 4) (f 5)) (below 1 (f 6) (f 7)))) (λ p. v p 6) c.swapped_4-3.result.1 (λ p hp. (c.swapped_4-3.ensures.octets p hp).1) (λ p. small p 6) (λ p. refl) d2.1 in
    let e6 = c.halves-7.ensures (s 6) (s 14) (hs 6).sixteen (hs 14).sixteen (states_beside s 6 c.swapped_4-3.result.1 hs (omega arith) x6) in
    let x7 = octets_told (above 4 (above 2 (above 1 (f 0) (f 1)) (above 1 (f 2) (f 3))) (above 2 (above 1 (f 4) (f 5)) (above 1 (f 6) (f 7)))) (λ p. v p 7) c.swapped_4-4.result.1 (λ p hp. (c.swapped_4-4.ensures.octets p hp).1) (λ p. small p 7) (λ p. refl) d3.1 in
    let e7 = c.halves-8.ensures (s 7) (s 15) (hs 7).sixteen (hs 15).sixteen (states_beside s 7 c.swapped_4-4.result.1 hs (omega arith) x7) in
    λ p. e0.0 p ∷ e1.0 p ∷ e2.0 p ∷ e3.0 p ∷ e4.0 p ∷ e5.0 p ∷ e6.0 p ∷ e7.0 p ∷ e0.1 p ∷ e1.1 p ∷ e2.1 p ∷ e3.1 p ∷ e4.1 p ∷ e5.1 p ∷ e6.1 p ∷ e7.1 p ∷ []
