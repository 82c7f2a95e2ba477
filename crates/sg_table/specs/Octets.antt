-- Octets.
use Rattle.std.specs.Prelude.{◌≡◌, ℕ, ◌%◌, List, map}

-- each is below 256
abbrev pub AreOctets : List ℕ → Type 0
AreOctets d = map (λ x. x % 256) d ≡ d
