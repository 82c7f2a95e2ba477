-- Words on lists of octets.
use Rattle.std.specs.Prelude.{ℕ, zero, suc, ◌+◌, ◌*◌, ◌/◌, ◌%◌, Bool, true, false, List, [], ◌∷◌, ◌++◌, ◌==◌, ◌&&◌, bit_xor}

-- two lists of octets are the same
abbrev pub same_octets : List ℕ → List ℕ → Bool
same_octets [] [] = true
same_octets [] (y ∷ ys) = false
same_octets (x ∷ xs) [] = false
same_octets (x ∷ xs) (y ∷ ys) = (x == y) && same_octets xs ys

-- the number n as l octets, the highest first
abbrev pub be : ℕ → ℕ → List ℕ
be n zero = []
be n (suc l) = be (n / 256) l ++ (n % 256) ∷ []

abbrev pub number_from : ℕ → List ℕ → ℕ
number_from n [] = n
number_from n (x ∷ xs) = number_from (256 * n + x) xs

-- the number that octets stand for, the highest first
abbrev pub number_of : List ℕ → ℕ
number_of xs = number_from 0 xs

-- octet by octet, as far as both lists go
abbrev pub xor_octets : List ℕ → List ℕ → List ℕ
xor_octets [] ys = []
xor_octets (x ∷ xs) [] = []
xor_octets (x ∷ xs) (y ∷ ys) = bit_xor x y ∷ xor_octets xs ys
