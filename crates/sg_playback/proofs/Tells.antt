-- The texts of what is told, one by one.
use Rattle.std.proofs.Common.{◌≡◌, ◌<◌, ◌+◌, ℕ, List, [], ◌∷◌, ◌++◌, length, take, drop, get_or, Err, refl, sym, ◌∙◌, subst, flat_map, append-nil}
use Rattle.sg_trace.proofs.Writings.{all_text, next_text, written_behind}
use Rattle.sg_playback.proofs.Common.{Arrival, IsWritten, Status, Tally, Wrote, flat_map-append, outcome_line, text, told_by, told_of, wrote_more}

-- what a list of parts writes, part by part
module _ {A : Type 0} (text_of : A → List ℕ) (xs : List A) (i : ℕ) (x : A) (within : i < length xs) (is : x ≡ get_or xs i x) (a b c : Tally)
    (wrote : Wrote a b (flat_map text_of (take i xs))) where
  pub more_written : Wrote b c (text_of x) → Wrote a c (flat_map text_of (take (i + 1) xs))
  more_written next = subst (Wrote a c) (sym (next_text text_of xs i x within is)) (wrote_more a b c (flat_map text_of (take i xs)) (text_of x) wrote next)

  pub part_written : (status : Status) → IsWritten (Err status) b c (text_of x) → IsWritten (Err status) a c (flat_map text_of xs)
  part_written status next =
      subst (IsWritten (Err status) a c) (sym (all_text text_of xs i x within is)) (written_behind status a b c (flat_map text_of (take i xs)) (text_of x) (flat_map text_of (drop (i + 1) xs)) wrote next)

abbrev pub text_at : Arrival → List ℕ
text_at arrival = text (told_of (arrival ∷ []))

pub text_of_ends : (arrivals : List Arrival) → text (told_of arrivals) ≡ flat_map text_at arrivals
text_of_ends [] = refl
text_of_ends (a ∷ more) =
    flat_map-append outcome_line (told_by a.port a.pad a.end) (told_of more)
    ∙ (λ i. text (sym (append-nil (told_by a.port a.pad a.end)) i) ++ text_of_ends more i)
