-- Pre-shared keys, and the messages that were accepted under them (RFC 3830, 3.1, 5.4 and 6.7).
use Rattle.std.specs.Prelude.{◌≡◌, ◌<◌, Some, length, slice_get, ℕ, List, [], ◌∷◌, ◌++◌, Bool, Option, None, ◌==◌, ◌&&◌, if◌then◌else◌}
use Rattle.std.specs.List.{find, list_any}
use Rattle.sg_base.specs.Octets.{same_octets}
use Rattle.sg_psk.specs.declared.pairs.Pair.{Pair}
use Rattle.sg_psk.specs.declared.replays.Noted.{Noted}

abbrev pub pair_of : List ℕ → List ℕ → List ℕ → Pair
pair_of own peer key = record { own = own; peer = peer; key = key }

abbrev pub is_with : List ℕ → Pair → Bool
is_with peer p = same_octets p.peer peer

abbrev pub is_of : List ℕ → List ℕ → Pair → Bool
is_of own peer p = same_octets p.own own && is_with peer p

-- the pair of these two names is there
abbrev pub has_pair : List Pair → List ℕ → List ℕ → Bool
has_pair pairs own peer = list_any (is_of own peer) pairs

-- the first pair with a peer
abbrev pub pair_with : List Pair → List ℕ → Option Pair
pair_with pairs peer = find (is_with peer) pairs

-- The pair of a message by its names: the first is the initiator's, and the second, where there is one, is
-- the responder's own (6.7).
abbrev pub pair_named : List Pair → List (List ℕ) → Option Pair
pair_named pairs [] = None
pair_named pairs (peer ∷ []) = pair_with pairs peer
pair_named pairs (peer ∷ own ∷ names) = find (is_of own peer) pairs

-- the pair at that position, where there is one
abbrev pub IsAt : List Pair → Option ℕ → Option Pair → Type 0
IsAt pairs None found = found ≡ None
IsAt pairs (Some place) found = (place < length pairs) × (found ≡ slice_get pairs place)

abbrev pub note : List ℕ → ℕ → List ℕ → Noted
note peer csb stamp = record { peer = peer; csb = csb; stamp = stamp }

-- one message
abbrev pub is_same : Noted → Noted → Bool
is_same a b = same_octets a.peer b.peer && (a.csb == b.csb) && same_octets a.stamp b.stamp

-- the message was accepted before
abbrev pub is_noted : List Noted → Noted → Bool
is_noted noted n = list_any (is_same n) noted

-- one that is there isn't added a second time
abbrev pub with_note : List Noted → Noted → List Noted
with_note noted n = if is_noted noted n then noted else noted ++ n ∷ []
