-- The index of a packet's number.
use Rattle.std.proofs.Common.{◌≡◌, ℕ, ◌+◌, false, [], Option, Some, None, refl, arith, ap, sym, ◌∙◌}
use Rattle.std.proofs.lemmas.Bool.{lt-leb}
use Rattle.sg_replay.specs.Freshness.{freshness, highest_of, is_behind, is_in}
use Rattle.sg_replay.specs.Marks.{Marks}
use Rattle.sg_replay.specs.Seen.{freshness_at}
use Rattle.sg_replay.specs.declared.seen.Freshness.TheVariants.{New}
use Rattle.sg_replay.proofs.DoneLists.{highest_of-none, is_in-above_highest}
use Rattle.sg_replay.proofs.MarkLists.{freshness_stands}
use Rattle.sg_states.specs.StreamValues.{StandsForSome}

-- the first index is new where nothing is done
pub new_at_first : (highest : Option ℕ) (seen : Marks) → StandsForSome highest seen → highest ≡ None → freshness_at seen 0 ≡ New
new_at_first highest seen s e =
    let none : s.indices ≡ [] = highest_of-none s.indices (sym (s.same_highest) ∙ e) in
    freshness_stands seen s.window s.indices 0 s.same_seen ∙ ap (λ is. freshness s.window is 0) none

-- and the one after the highest always
pub new_after : (highest : Option ℕ) (seen : Marks) (h : ℕ) → StandsForSome highest seen → highest ≡ Some h → freshness_at seen (h + 1) ≡ New
new_after highest seen h s e =
    let top : highest_of s.indices ≡ Some h = sym (s.same_highest) ∙ e in
    let ahead : is_behind s.window (highest_of s.indices) (h + 1) ≡ false = ap (λ o. is_behind s.window o (h + 1)) top ∙ lt-leb (h + 1 + s.window) h (omega arith) in
    let absent : is_in s.indices (h + 1) ≡ false = is_in-above_highest s.indices h (h + 1) top (omega arith) in
    freshness_stands seen s.window s.indices (h + 1) s.same_seen ∙ rw (ahead, absent) refl
