-- How octets are written part by part.
use Rattle.std.proofs.Common.{◌≡◌, ◌<◌, ◌+◌, ℕ, List, [], ◌∷◌, ◌++◌, length, take, drop, get_or, Err, refl, sym, ap, ◌∙◌, append_assoc, flat_map}
use Rattle.sg_trace.proofs.Common.{IsPrefixOf, IsWritten, NoMemory, Status, Tally, Write, Wrote, WrotePrefix, append-nil, flat_map-append, take-append-drop}
use Rattle.sg_trace.proofs.Common.{take_more, wrote_more, wrote_none}

-- ---- prefixes

pub prefix_all : {X : Type 0} (all : List X) → IsPrefixOf all all
prefix_all all = ([], sym (append-nil all))

pub prefix_longer : {X : Type 0} (a all more : List X) → IsPrefixOf a all → IsPrefixOf a (all ++ more)
prefix_longer a all more prefix = (prefix.0 ++ more, ap (λ l. l ++ more) prefix.1 ∙ append_assoc a prefix.0 more)

-- nothing is a prefix of all
pub none_written : (a : Tally) (octets : List ℕ) → WrotePrefix a a octets
none_written a octets = ([], (octets, refl), wrote_none a)

-- a front behind what was written
pub prefix_behind : (a b c : Tally) (before octets behind : List ℕ) → Wrote a b before → WrotePrefix b c octets → WrotePrefix a c (before ++ (octets ++ behind))
prefix_behind a b c before octets behind wrote prefix = (
  before ++ prefix.0,
  (
    prefix.1.0 ++ behind,
    ap (λ (l : List ℕ). before ++ (l ++ behind)) prefix.1.1 ∙ ap (λ (l : List ℕ). before ++ l) (append_assoc prefix.0 prefix.1.0 behind) ∙ sym (append_assoc before prefix.0 (prefix.1.0 ++ behind)),
  ),
  wrote_more a b c before prefix.0 wrote prefix.2,
)

-- what was written by an error is a front
pub written_prefix : (status : Status) (a b : Tally) (octets : List ℕ) → IsWritten (Err status) a b octets → WrotePrefix a b octets
written_prefix Write a b octets is = is
written_prefix NoMemory a b octets is = is
written_prefix other a b octets is = absurd is

-- and so it is of more octets, behind others
pub written_behind : (status : Status) (a b c : Tally) (before octets behind : List ℕ) → Wrote a b before → IsWritten (Err status) b c octets
    → IsWritten (Err status) a c (before ++ (octets ++ behind))
written_behind Write a b c before octets behind wrote is = prefix_behind a b c before octets behind wrote is
written_behind NoMemory a b c before octets behind wrote is = prefix_behind a b c before octets behind wrote is
written_behind other a b c before octets behind wrote is = absurd is

-- ---- the texts of a list, one by one

module _ {A : Type 0} (text_of : A → List ℕ) (xs : List A) (i : ℕ) (x : A) (within : i < length xs) (is : x ≡ get_or xs i x) where
  -- the text of one more
  pub next_text : flat_map text_of (take (i + 1) xs) ≡ flat_map text_of (take i xs) ++ text_of x
  next_text =
      ap (flat_map text_of) (take_more xs i x within ∙ ap (λ y. take i xs ++ y ∷ []) (sym is))
      ∙ flat_map-append text_of (take i xs) (x ∷ []) ∙ ap (λ (l : List ℕ). flat_map text_of (take i xs) ++ l) (append-nil (text_of x))

  -- the text of all, by that of one
  pub all_text : flat_map text_of xs ≡ flat_map text_of (take i xs) ++ (text_of x ++ flat_map text_of (drop (i + 1) xs))
  all_text =
      ap (flat_map text_of) (sym (take-append-drop (i + 1) xs)) ∙ flat_map-append text_of (take (i + 1) xs) (drop (i + 1) xs)
      ∙ ap (λ (l : List ℕ). l ++ flat_map text_of (drop (i + 1) xs)) next_text
      ∙ append_assoc (flat_map text_of (take i xs)) (text_of x) (flat_map text_of (drop (i + 1) xs))
