-- A line more of a medium.
use Rattle.std.proofs.Common.{◌≡◌, ℕ, zero, suc, ◌<◌, List, [], ◌∷◌, ◌++◌, length, get_or, refl, ap, ◌∙◌, arith}
use Rattle.std.proofs.lemmas.List.{length-set}
use Rattle.std.specs.List.{refill}
use Rattle.std.specs.Prelude.{slice_index_or, slice_set}
use Rattle.sg_base.proofs.Lists.{refill_same}
use Rattle.sg_sdp.specs.declared.medium.Medium.{Medium}
use Rattle.sg_sdp.specs.Parts.{with_line_at}

set_line : (ms : List Medium) (i : ℕ) (d : Medium) (line : List ℕ) → i < length ms
    → slice_set ms i (record (get_or ms i d) { lines = (get_or ms i d).lines ++ line ∷ [] }) ≡ with_line_at i line ms
unfolding with_line_at
set_line [] i d line inside = absurd (omega arith)
set_line (m ∷ ms) zero d line inside = refl
set_line (m ∷ ms) (suc i) d line inside = ap (λ (l : List Medium). m ∷ l) (set_line ms i d line (omega arith))

-- as the code writes it, into the media that it borrowed
pub lent_is : (ms lent : List Medium) (i : ℕ) (d : Medium) (line : List ℕ) (longer : List (List ℕ)) → i < length ms → lent ≡ ms → longer ≡ (slice_index_or lent i d).lines ++ line ∷ []
    → refill (length ms) ms (slice_set lent i (record (slice_index_or lent i d) { lines = longer })) ≡ with_line_at i line ms
lent_is ms lent i d line longer inside same long =
    refill_same (length ms) ms (slice_set lent i (record (slice_index_or lent i d) { lines = longer })) (length-set lent i (record (slice_index_or lent i d) { lines = longer }) ∙ ap length same)
    ∙ rw long (rw same (set_line ms i d line inside))
