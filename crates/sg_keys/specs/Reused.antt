-- Keys that are reused.
use Rattle.std.specs.Prelude.{◌≡◌, ℕ, Bool, if◌then◌else◌, List, [], ◌∷◌, ◌++◌, length, Option, Some, None}
use Rattle.std.specs.Option.{option_or}
use Rattle.sg_base.specs.Keys.{Master}
use Rattle.sg_base.specs.declared.keys.SessionKeys.{SessionKeys}
use Rattle.sg_kdf.specs.SessionKeys.{session_keys}
use Rattle.sg_session.specs.Ring.{RingKey, with_session_keys, first_clash_by, key_clashes_with_itself}

-- a key with the session keys that are given beside it
abbrev pub given : Master × SessionKeys → RingKey
given k = with_session_keys k.0 k.1

-- the least number, from n on, of a key that clashes with this one
abbrev pub first_from : ℕ → List RingKey → RingKey → Option ℕ
first_from = first_clash_by (λ r. r)

abbrev pub own_if : Bool → ℕ → Option ℕ
own_if itself own = if itself then Some own else None

-- the number told of a key that would stand behind these
abbrev pub reused_number : List RingKey → RingKey → Option ℕ
reused_number before k = option_or (first_from 0 before k) (own_if (key_clashes_with_itself k) (length before))

-- the number told of the first of the keys that clashes with one before it or with itself
abbrev pub reused : List RingKey → List RingKey → Option ℕ
reused before [] = None
reused before (k ∷ ks) = option_or (reused_number before k) (reused (before ++ k ∷ []) ks)
