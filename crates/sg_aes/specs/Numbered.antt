-- Blocks that differ in a number.
use Rattle.std.specs.Prelude.{ℕ, ◌%◌, List, bit_xor, slice_index, ◌==◌, if◌then◌else◌}
use Rattle.sg_aes.specs.State.{state_by}

-- a block with a number put onto its last octet by XOR
abbrev pub numbered : List ℕ → ℕ → List ℕ
numbered base n = state_by (λ i. bit_xor (slice_index base i) (if i == 15 then n % 256 else 0))
