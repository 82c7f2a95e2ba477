-- Words with one or more spaces between them (RFC 4568, section 9.1).
use Rattle.std.specs.Prelude.{ℕ, List, [], ◌∷◌, Bool, false, Option, Some, None, ◌==◌, ◌&&◌, if◌then◌else◌}
use Rattle.std.specs.List.{slice_split, slice_index_or}

abbrev pub begins_with_space : List ℕ → Bool
begins_with_space [] = false
begins_with_space (x ∷ xs) = x == 32

-- several spaces are one: a space before another space is left out
abbrev pub single_spaced : List ℕ → List ℕ
single_spaced [] = []
single_spaced (x ∷ xs) = if x == 32 && begins_with_space xs then single_spaced xs else x ∷ single_spaced xs

-- The words of a text. A space at the beginning or at the end has an empty word beyond it.
unfoldable pub words_of : List ℕ → List (List ℕ)
words_of text = slice_split (λ x. x == 32) (single_spaced text)

-- the words of the rest of a text, where there is a rest
abbrev pub words_behind : Option (List ℕ) → List (List ℕ)
words_behind None = []
words_behind (Some rest) = words_of rest

-- a word that isn't there reads as an empty one
abbrev pub word_at : List (List ℕ) → ℕ → List ℕ
word_at words place = slice_index_or words place []

-- the text behind the spaces at its beginning
abbrev pub without_spaces : List ℕ → List ℕ
without_spaces [] = []
without_spaces (x ∷ xs) = if x == 32 then without_spaces xs else x ∷ xs
