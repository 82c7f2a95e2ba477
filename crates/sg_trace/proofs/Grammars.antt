-- The trace of a script in the grammar comes to no fault.
use Rattle.std.proofs.Common.{◌≡◌, ◌⊎◌, ◌+◌, ℕ, Bool, true, false, List, [], ◌∷◌, ◌++◌, length, Option, Some, None, Result, Ok, Err, refl, sym, ap, ◌∙◌, subst, inl, inr, IfSome, cond, append-nil}
use Rattle.sg_base.specs.declared.faults.ScriptFault.TheVariants.{Unended}
use Rattle.sg_trace.proofs.Common.{AtCapture, AtEnd, AtFault, Command, Later, Line, Outside, Replays, ScriptFault, Supplied, Tally, TookIn, after_line}
use Rattle.sg_trace.proofs.Common.{begins_capture, handled_as, line_at, lines_of, replayed, stopped, supplied, trace_from, version_after}
use Rattle.sg_trace.specs.Grammar.{IsScript, fault_after, fault_from}

-- what follows tells no such fault
abbrev Spares : Later → ℕ → ScriptFault → Type 0
Spares later n f = (top : ℕ) (o : Outside) → (later top o).stop ≡ AtFault n f → ⊥

module _ (n : ℕ) (f : ScriptFault) where
  in_line : (s : Option Supplied) (later : Later) → Spares later n f → (top : ℕ) (o : Outside) → (handled_as s later top o).stop ≡ AtFault n f → ⊥
  in_line None later none top o is = absurd cc
  in_line (Some s) later none top o is = none top (record o { draws = s.draws }) is

  in_lines : (k : Command) (version m at : ℕ) (ls : List (List ℕ)) → (fault_from k version m at ls ≡ Some (n, f) → ⊥) → (top : ℕ) (o : Outside) → (trace_from k version m at ls top o).stop ≡ AtFault n f → ⊥
  in_lines k version m at [] none top o is = absurd cc
  in_lines k version m at (l ∷ ls) none top o is = by_test (begins_capture k m at l) (line_at version m at l) (λ v none. in_lines k v (m + 1) (at + length l) ls none) none is
    where
      by_line : (r : Result Line ScriptFault) → ((v : ℕ) → (fault_from k v (m + 1) (at + length l) ls ≡ Some (n, f) → ⊥) → Spares (trace_from k v (m + 1) (at + length l) ls) n f)
          → (fault_after version m r (λ v. fault_from k v (m + 1) (at + length l) ls) ≡ Some (n, f) → ⊥)
          → (after_line k version m r (λ v. trace_from k v (m + 1) (at + length l) ls) top o).stop ≡ AtFault n f → ⊥
      by_line (Err e) again none is = none (let same : AtFault m e ≡ AtFault n f = is in cc)
      by_line (Ok l') again none is = in_line (supplied o.draws l') (trace_from k (version_after version l') (m + 1) (at + length l) ls) (again (version_after version l') none) top o is

      by_test : (b : Bool) (r : Result Line ScriptFault) → ((v : ℕ) → (fault_from k v (m + 1) (at + length l) ls ≡ Some (n, f) → ⊥) → Spares (trace_from k v (m + 1) (at + length l) ls) n f)
          → (cond b None (fault_after version m r (λ v. fault_from k v (m + 1) (at + length l) ls)) ≡ Some (n, f) → ⊥)
          → (cond b (stopped (AtCapture (at + length l)) o) (after_line k version m r (λ v. trace_from k v (m + 1) (at + length l) ls) top o)).stop ≡ AtFault n f → ⊥
      by_test true r again none is = absurd (let other : AtCapture (at + length l) ≡ AtFault n f = is in cc)
      by_test false r again none is = by_line r again none is

  none_some : (let none : Option (ℕ × ScriptFault) = None in none ≡ Some (n, f)) → ⊥
  none_some is = cc

  pub in_replay : (octets draws : List ℕ) → IsScript octets → (replayed octets draws).stop ≡ AtFault n f → ⊥
  in_replay octets draws script is = in_lines Replays 1 1 0 (lines_of octets) (λ e. none_some (sym script ∙ e)) 0 _ is

-- ---- what was read of a source

none_left : (left : Option (List ℕ)) (rest : List ℕ) → IfSome left (λ l. l ≡ []) → left ≡ Some rest → rest ≡ []
none_left None rest end is = cc
none_left (Some l) rest end is = let same : l ≡ rest = cc in sym same ∙ end

either : (f : ScriptFault) → (f ≡ Unended) ⊎ (¬ (f ≡ Unended))
either Unended = inl refl
either other = inr (λ is. cc)

-- No fault is told of the octets that were read, where none is of all that the source had.
pub none_fails : (left left' : Tally) (octets all rest : List ℕ) (fault : ScriptFault) (fails : List ℕ → Type 0) → TookIn left left' octets → left.told ≡ Some all → left'.told ≡ Some rest
    → (fails all → ⊥) → fails octets → (fault ≡ Unended → AtEnd left') → (¬ (fault ≡ Unended) → (more : List ℕ) → fails (octets ++ more)) → ⊥
none_fails left left' octets all rest fault fails took told told' spares here ended still =
    let same : all ≡ octets ++ rest = (let both : Some all ≡ Some (octets ++ rest) = sym told ∙ took.0 rest told' in cc) in
    spares (subst fails (sym same) (elim (either fault) [
      | inl end ↦ subst fails (sym (append-nil octets) ∙ ap (λ (l : List ℕ). octets ++ l) (sym (none_left left'.told rest (ended end) told'))) here
      | inr other ↦ still other rest
    ]))

-- so it is of a script
pub no_fault : (left left' : Tally) (octets all rest : List ℕ) (fault : ScriptFault) (fails : List ℕ → Type 0) → TookIn left left' octets → left.told ≡ Some all → left'.told ≡ Some rest
    → IsScript all → ((o : List ℕ) → IsScript o → fails o → ⊥) → fails octets → (fault ≡ Unended → AtEnd left') → (¬ (fault ≡ Unended) → (more : List ℕ) → fails (octets ++ more)) → ⊥
no_fault left left' octets all rest fault fails took told told' script spares here ended still = none_fails left left' octets all rest fault fails took told told' (spares all script) here ended still
