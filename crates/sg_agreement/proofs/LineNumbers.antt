-- The line of a medium is one of the text's, of which there are no more than octets.
use Rattle.std.proofs.Common.{◌≡◌, ◌⊎◌, inl, inr, ◌≤◌, ℕ, suc, ◌+◌, Bool, true, false, cond, ◌&&◌, List, [], ◌∷◌, ◌++◌, length, Some, is_none, Ok, ap, arith, length-append}
use Rattle.std.specs.List.{flat_map}
use Rattle.sg_base.specs.declared.addresses.Side.{Side}
use Rattle.sg_sdp.specs.Descriptions.{Spells, all_lines, medium_lines}
use Rattle.sg_sdp.specs.Reading.{description_of}
use Rattle.sg_sdp.specs.declared.medium.Medium as descriptions
use Rattle.sg_sdp.specs.declared.sdp.Sdp.{Sdp}
use Rattle.sg_agreement.proofs.Texts.{Takes, whole}
use Rattle.sg_agreement.specs.Described.{unaddressed}
use Rattle.sg_agreement.specs.Sides.{is_active}

spelled_long : (ls : List (List ℕ)) (text : List ℕ) → Spells ls text → length ls ≤ length text
spelled_long [] text s = omega arith
spelled_long (l ∷ ls) text s = go (spelled_long ls s.0 s.2) s.1
  where
    go : length ls ≤ length s.0 → ((text ≡ l ++ 13 ∷ 10 ∷ s.0) ⊎ (text ≡ l ++ 10 ∷ s.0)) → suc (length ls) ≤ length text
    go rest (inl e) = let size = ap length e in let parts = length-append l (13 ∷ 10 ∷ s.0) in omega (arith, size, parts, rest)
    go rest (inr e) = let size = ap length e in let parts = length-append l (10 ∷ s.0) in omega (arith, size, parts, rest)

unaddressed_low : (side : Side) (n : ℕ) (ms : List descriptions.Medium) (k : ℕ) → unaddressed side n ms ≡ Some k → suc k ≤ n + length (flat_map medium_lines ms)
unaddressed_low side n [] k e = absurd cc
unaddressed_low side n (m ∷ ms) k e = go (λ is. unaddressed_low side (n + 1 + length m.lines) ms k is) (is_active side m && is_none m.address) e
  where
    size : length (flat_map medium_lines (m ∷ ms)) ≡ suc (length m.lines) + length (flat_map medium_lines ms)
    size = length-append (medium_lines m) (flat_map medium_lines ms)

    go : (unaddressed side (n + 1 + length m.lines) ms ≡ Some k → suc k ≤ n + 1 + length m.lines + length (flat_map medium_lines ms)) → (b : Bool)
        → cond b (Some n) (unaddressed side (n + 1 + length m.lines) ms) ≡ Some k → suc k ≤ n + length (flat_map medium_lines (m ∷ ms))
    go rest true e = let same : n ≡ k = cc in omega (arith, same, size)
    go rest false e = let low = rest e in omega (arith, low, size)

pub line_fits : Takes → (side : Side) (text : List ℕ) (s : Sdp) (n : ℕ) → description_of text ≡ Ok s → unaddressed side (length s.session + 1) s.media ≡ Some n → n ≤ 16384
line_fits takes side text s n e is =
    let within = whole text s e in
    let read = takes 2048 text s within.1 in
    let long = spelled_long (all_lines s) text read.1 in
    let size = length-append s.session (flat_map medium_lines s.media) in
    let low = unaddressed_low side (length s.session + 1) s.media n is in
    let most = within.0 in
    omega (arith, long, size, low, most)

-- the lines of a description are no more than the octets of its text
pub lines_fit : (s : Sdp) (text : List ℕ) → Spells (all_lines s) text → length text ≤ 16384 → length s.session + 1 + length (flat_map medium_lines s.media) ≤ 16385
lines_fit s text spelled most =
    let long = spelled_long (all_lines s) text spelled in
    let size = length-append s.session (flat_map medium_lines s.media) in
    omega (arith, long, size, most)
