-- The index of a packet, which carries only its last 16 bits (RFC 3711, 3.3.1 and appendix A).
use Rattle.std.specs.Prelude.{◌≡◌, ℕ, ◌+◌, ◌-◌, ◌*◌, ◌/◌, ◌%◌, ◌^◌, ◌<◌, ◌≤◌, nat_lt, nat_le, if◌then◌else◌, Result, Ok, Err}
use Rattle.sg_base.specs.declared.IndexFault.{IndexFault}
use Rattle.sg_base.specs.declared.IndexFault.TheVariants.{BeforeFirst, IndexSpent}

-- how far apart two numbers are
abbrev pub apart : ℕ → ℕ → ℕ
apart a b = (a - b) + (b - a)

-- n has the packet's number and is nearest to the highest index h: at most half a turn of 2^16 away, and where two
-- are, each just half a turn away, the one with h's rollover.
pub record IsNearest (h seq n : ℕ) : Type 0 where
  pub number : n % 2 ^ 16 ≡ seq
  pub near : apart h n ≤ 2 ^ 15
  pub tie : apart h n ≡ 2 ^ 15 → n / 2 ^ 16 ≡ h / 2 ^ 16

-- the nearest index is below 0; a turn higher it is a number too
abbrev pub IsBeforeFirst : ℕ → ℕ → Type 0
IsBeforeFirst h seq = (n : ℕ) × IsNearest (h + 2 ^ 16) seq n × (n < 2 ^ 16)

-- the nearest index has more than 48 bits
abbrev pub IsSpent : ℕ → ℕ → Type 0
IsSpent h seq = (n : ℕ) × IsNearest h seq n × (2 ^ 48 ≤ n)

-- an index has 48 bits
abbrev pub within_life : ℕ → Result ℕ IndexFault
within_life n = if nat_lt n (2 ^ 48) then Ok n else Err IndexSpent

-- The nearest index: under h's rollover where that is near enough, else under the next or the one before.
abbrev pub nearest_index : ℕ → ℕ → Result ℕ IndexFault
nearest_index h seq =
    let same = h / 2 ^ 16 * 2 ^ 16 + seq in
    if nat_le (apart h same) (2 ^ 15) then within_life same
    else if nat_lt same h then within_life (same + 2 ^ 16)
    else if nat_lt same (2 ^ 16) then Err BeforeFirst
    else within_life (same - 2 ^ 16)
