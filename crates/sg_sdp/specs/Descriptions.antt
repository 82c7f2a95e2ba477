-- Session descriptions and the texts that spell them (RFC 4566, 5 and 9).
use Rattle.std.specs.Prelude.{◌≡◌, ℕ, ◌≤◌, ◌<◌, ◌⊎◌, List, [], ◌∷◌, ◌++◌, length, drop, true, false, is_some, decimal, codes}
use Rattle.std.specs.List.{flat_map, list_all, AllByRecursion}
use Rattle.sg_sdp.specs.declared.medium.Medium.{Medium}
use Rattle.sg_sdp.specs.declared.sdp.Sdp.{Sdp}
use Rattle.sg_sdp.specs.LineForm.{has_form, is_inner, is_letter, is_word, profile_of, connection_of}
use Rattle.sg_sdp.specs.Addresses.{first_address, medium_address}

-- the `m=` line of a medium (5.14)
abbrev pub medium_line : Medium → List ℕ
medium_line m = codes "m=" ++ (m.word ++ 32 ∷ (decimal m.port ++ 32 ∷ (m.proto ++ 32 ∷ m.formats)))

abbrev pub medium_lines : Medium → List (List ℕ)
medium_lines m = medium_line m ∷ m.lines

-- all lines in place
abbrev pub all_lines : Sdp → List (List ℕ)
all_lines s = s.session ++ flat_map medium_lines s.media

-- the text is these lines, each ended by CR LF or LF (5)
abbrev pub Spells : List (List ℕ) → List ℕ → Type 0
Spells [] text = text ≡ []
Spells (l ∷ ls) text = (rest : List ℕ) × ((text ≡ l ++ 13 ∷ 10 ∷ rest) ⊎ (text ≡ l ++ 10 ∷ rest)) × Spells ls rest

-- the one printed spelling: each line ended by CR LF
abbrev pub ended : List ℕ → List ℕ
ended l = l ++ 13 ∷ 10 ∷ []

abbrev pub spelling : Sdp → List ℕ
spelling s = flat_map ended (all_lines s)

-- ---- what a description is

-- a line that a list keeps: it has the form, is no `m=` line, and where it is a `c=` line, has an address
pub record IsKept (l : List ℕ) : Type 0 where
  pub form : has_form l ≡ true
  pub no_medium : is_letter 109 l ≡ false
  pub address : is_letter 99 l ≡ true → is_some (connection_of (drop 2 l)) ≡ true

pub record IsMedium (m : Medium) : Type 0 where
  pub word : is_word m.word ≡ true
  pub port : m.port ≤ 65535
  pub proto : is_word m.proto ≡ true
  pub profile : m.profile ≡ profile_of m.proto
  pub formats : 0 < length m.formats
  pub inner : list_all is_inner m.formats ≡ true
  pub lines : AllByRecursion IsKept m.lines

-- `v=0`, an `o=` line and an `s=` line come first
abbrev pub HasPrefix : List (List ℕ) → Type 0
HasPrefix (version ∷ origin ∷ name ∷ rest) = (version ≡ codes "v=0") × (is_letter 111 origin ≡ true) × (is_letter 115 name ≡ true)
HasPrefix _ = ⊥

-- a medium has its address: that of its own first `c=` line, else of the session part's first
abbrev pub IsAddressed : List (List ℕ) → Medium → Type 0
IsAddressed session m = m.address ≡ medium_address (first_address session) m.lines

pub record IsSdp (s : Sdp) : Type 0 where
  pub prefix : HasPrefix s.session
  pub session : AllByRecursion IsKept s.session
  pub media : AllByRecursion IsMedium s.media
  pub few : length s.media ≤ 4
  pub addresses : AllByRecursion (IsAddressed s.session) s.media

-- ---- the limits of what is read

abbrev pub IsShort : ℕ → List ℕ → Type 0
IsShort most line = length line ≤ most

-- at most 2,048 octets in a line, which don't count its end, and 16,384 in the text, which count all
pub record IsWithinLimits (s : Sdp) (text : List ℕ) : Type 0 where
  pub short : AllByRecursion (IsShort 2048) (all_lines s)
  pub whole : length text ≤ 16384
