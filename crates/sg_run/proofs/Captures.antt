-- Where a capture begins.
use Rattle.std.proofs.Common.{◌≡◌, ◌+◌, ◌<◌, ◌≤◌, ◌^◌, ℕ, Bool, true, false, cond, List, [], ◌∷◌, ◌++◌, length, Option, Some, None, Result, Ok, Err, refl, sym, ap, ◌∙◌, subst, append_assoc, arith, eqb}
use Rattle.std.specs.Prelude.{codes, nat_lt, nat_le, ◌&&◌}
use Rattle.std.specs.Str.{bytes_eq}
use Rattle.std.proofs.lemmas.Bool.{and_parts, cond-false, cond-true, le-leb, lt-ltb}
use Rattle.std.proofs.lemmas.Slice.Eq.{bytes_eq-Decides}
use Rattle.sg_base.specs.declared.faults.ScriptFault.{ScriptFault}
use Rattle.sg_base.specs.declared.faults.ScriptFault.TheVariants.{Length, Version, Word}
use Rattle.sg_gateway.specs.Drawn.{Supplied, supplied}
use Rattle.sg_gateway.specs.Events.{events_of}
use Rattle.sg_lines.specs.LineOf.{line_of, version_after}
use Rattle.sg_lines.specs.ScriptLines.{lines_of}
use Rattle.sg_lines.specs.declared.lines.Line.{Line}
use Rattle.sg_trace.specs.Captured.{script_of}
use Rattle.sg_trace.specs.Trace.{AtCapture, AtEnd, AtFault, Captures, ForDraw, Later, Outside, Replays, Trace, after_line, begins_capture, drawing, handled_as, line_at, replayed, stopped, trace_from, with_events}
use Rattle.sg_run.proofs.Lines.{lines_size, lines_split, sizes, whole_some}
use Rattle.sg_run.specs.Captures.{CapturesBegin}

-- ---- where a capture begins

-- the line is none of a replay's script
no_line : (version n : ℕ) → line_of version n (codes "capture\n") ≡ cond (eqb n 1) (Err Version) (Err Word)
unfolding line_of
no_line version n = refl

no_line_at : (version n at : ℕ) (l : Line) → line_at version n at (codes "capture\n") ≡ Ok l → ⊥
no_line_at version n at l is = far (nat_lt (2 ^ 30) (at + 8)) is
  where
    which : (b : Bool) → cond b (Err Version) (Err Word) ≡ Ok l → ⊥
    which true is = cc
    which false is = cc

    far : (b : Bool) → cond b (Err Length) (line_of version n (codes "capture\n")) ≡ Ok l → ⊥
    far true is = cc
    far false is = which (eqb n 1) (sym (no_line version n) ∙ is)

-- where the same lines follow in both
module _ (later longer : ℕ → Later) (version n at top end : ℕ) (l : List ℕ) (o : Outside) where
  abbrev Begin : Trace → Trace → Type 0
  Begin t u = t ≡ record u { stop = AtCapture end }

  abbrev Again : Type 0
  Again = (v : ℕ) (o : Outside) → (later v top o).stop ≡ AtEnd → Begin (longer v top o) (later v top o)

  by_noise : Again → (v : ℕ) (s : Option Supplied) → (handled_as s (later v) top o).stop ≡ AtEnd → Begin (handled_as s (longer v) top o) (handled_as s (later v) top o)
  by_noise again v None is = absurd (let both : ForDraw ≡ AtEnd = is in cc)
  by_noise again v (Some s) is = ap (with_events (events_of s.line)) (again v (record o { draws = s.draws }) is)

  by_line : Again → (r : Result Line ScriptFault) → (after_line Replays version n r later top o).stop ≡ AtEnd → Begin (after_line Captures version n r longer top o) (after_line Replays version n r later top o)
  by_line again (Err fault) is = absurd (let both : AtFault n fault ≡ AtEnd = is in cc)
  by_line again (Ok x) is = by_noise again (version_after version x) (supplied o.draws x) is

  ends_not : (r : Result Line ScriptFault) → line_at version n at l ≡ r → l ≡ codes "capture\n" → (after_line Replays version n r later top o).stop ≡ AtEnd → ⊥
  ends_not (Err fault) was same is = let both : AtFault n fault ≡ AtEnd = is in cc
  ends_not (Ok x) was same is = no_line_at version n at x (ap (line_at version n at) (sym same) ∙ was)

  by_test : (b : Bool) → begins_capture Captures n at l ≡ b → Again → (after_line Replays version n (line_at version n at l) later top o).stop ≡ AtEnd
      → Begin (cond (begins_capture Captures n at l) (stopped (AtCapture (at + length l)) o) (after_line Captures version n (line_at version n at l) longer top o)) (after_line Replays version n (line_at version n at l) later top o)
  by_test true e again is =
      let said = and_parts (nat_lt 1 n && bytes_eq l (codes "capture\n")) (nat_le (at + length l) (2 ^ 30)) e in
      let same = (bytes_eq-Decides l (codes "capture\n")).0 (and_parts (nat_lt 1 n) (bytes_eq l (codes "capture\n")) said.0).1 in
      absurd (ends_not (line_at version n at l) refl same is)
  by_test false e again is = cond-false (begins_capture Captures n at l) _ _ e ∙ by_line again (line_at version n at l) is

module _ (others : List (List ℕ)) where
  abbrev with_capture : List (List ℕ) → List (List ℕ)
  with_capture ls = ls ++ codes "capture\n" ∷ others

  -- the line is met behind these
  begins_so : (ls : List (List ℕ)) (version n at top : ℕ) (o : Outside) (end : ℕ) → end ≡ at + (sizes ls + 8) → end ≤ 2 ^ 30 → 1 < n + length ls → (trace_from Replays version n at ls top o).stop ≡ AtEnd
      → trace_from Captures version n at (with_capture ls) top o ≡ record (trace_from Replays version n at ls top o) { stop = AtCapture end }
  begins_so [] version n at top o end size within later is =
      let second : nat_lt 1 n ≡ true = lt-ltb 1 n (omega (arith, later)) in
      let near : nat_le (at + 8) (2 ^ 30) ≡ true = le-leb (at + 8) (2 ^ 30) (omega (arith, size, within)) in
      let begins : begins_capture Captures n at (codes "capture\n") ≡ true = (λ i. (second i && true) && near i) in
      cond-true (begins_capture Captures n at (codes "capture\n")) _ _ begins ∙ ap (λ (e : ℕ). stopped (AtCapture e) o) (let e : at + 8 ≡ end = omega (arith, size) in e)
  begins_so (l ∷ ls) version n at top o end size within later is =
      by_test (λ v. trace_from Replays v (n + 1) (at + length l) ls) (λ v. trace_from Captures v (n + 1) (at + length l) (with_capture ls)) version n at top end l o (begins_capture Captures n at l) refl
      (λ v o more. begins_so ls v (n + 1) (at + length l) top o end (omega (arith, size)) within (omega (arith, later)) more) is

pub captures_begin : CapturesBegin
captures_begin lines rest draws (before, whole) ends within =
    let split : lines_of (lines ++ codes "capture\n" ++ rest) ≡ with_capture (lines_of rest) (lines_of lines) =
    ap lines_of (append_assoc lines (codes "capture\n") rest)
    ∙ ap (λ (l : List ℕ). lines_of (l ++ (codes "capture\n" ++ rest))) whole ∙ lines_split before (codes "capture\n" ++ rest)
    ∙ ap (λ (l : List ℕ). with_capture (lines_of rest) (lines_of l)) (sym whole) in
    let some : 1 < 1 + length (lines_of lines) = (let more : 0 < length (lines_of lines) = subst (λ (l : List ℕ). 0 < length (lines_of l)) (sym whole) (whole_some before) in omega (arith, more)) in
    let size = lines_size lines in
    let all : script_of (lines ++ codes "capture\n" ++ rest) draws ≡ record (replayed lines draws) { stop = AtCapture (length lines + 8) } =
    ap (λ (ls : List (List ℕ)). trace_from Captures 1 1 0 ls 0 (drawing draws)) split
    ∙ begins_so (lines_of rest) (lines_of lines) 1 1 0 0 (drawing draws) (length lines + 8) (omega (arith, size)) within some ends in
    record { stop = ap (λ (t : Trace). t.stop) all; events = ap (λ (t : Trace). t.events) all; left = ap (λ (t : Trace). t.left) all }
