-- The lines of a script behind which a capture may stand, and how they stop.
use Rattle.std.proofs.Common.{◌≡◌, ◌⊎◌, ◌+◌, ◌^◌, ℕ, Bool, true, false, cond, leb-true, leb-false, List, [], ◌∷◌, length, Result, Ok, Err, refl, ap, ◌∙◌, subst, inl, inr, arith, nat_le, nat_lt, ◌&&◌, codes}
use Rattle.sg_base.proofs.Cases.{is_name}
use Rattle.sg_capture.specs.declared.lines.CaptureLine.TheVariants as lines
use Rattle.sg_lines.proofs.FaultLaws.{too_long}
use Rattle.sg_lines.proofs.FrameLaws.{open_line, whole_line}
use Rattle.sg_lines.proofs.Splits.{lines_of_rest}
use Rattle.sg_trace.proofs.Frames.{IsFar, IsLong, IsOpen, Opening, at_far, at_long, opening}
use Rattle.sg_capture.proofs.Common.{CaptureLine, IsFramed, Length, Line, NoEnd, ScriptFault, Unended, and_parts, behind_line, capture_line_of, cases_Bool}
use Rattle.sg_capture.proofs.Common.{cond-false, course_from, ended, line_of, lines_of, ltb-false, ltb-true, of_capture, of_script, read_at}
use Rattle.sg_trace.specs.Trace.{AtEnd, AtFault, Captures, begins_capture, line_at, says_capture}

-- ---- the frame of a line

capture_text : (n : ℕ) (t : List ℕ) → says_capture n t ≡ true → t ≡ codes "capture\n"
capture_text n t is = is_name t (codes "capture\n") (and_parts _ _ is).1

-- another line is a script's
script_line : (version n : ℕ) (t : List ℕ) → (t ≡ codes "capture\n" → ⊥) → capture_line_of version n t ≡ of_script (line_of version n t)
script_line version n t isnt = elim (cases_Bool (says_capture n t)) [
  | inl is ↦ absurd (isnt (capture_text n t is))
  | inr other ↦ cond-false (says_capture n t) _ _ other
]

script_not : (r : Result Line ScriptFault) → (r ≡ Err Unended → ⊥) → of_script r ≡ Err Unended → ⊥
script_not (Ok l) never is = cc
script_not (Err fault) never is = never (let same : fault ≡ Unended = cc in ap Err same)

either_not : (b : Bool) (r : Result CaptureLine ScriptFault) → (r ≡ Err Unended → ⊥) → cond b (Ok lines.Capture) r ≡ Err Unended → ⊥
either_not true r never is = cc
either_not false r never is = never is

pub capture_framed : IsFramed capture_line_of
capture_framed = record {
  too_long = λ version n t long. script_line version n t (λ is. omega (arith, long, ap length is)) ∙ ap of_script (too_long version n t long);
  without_end = λ version n t none short.
      script_line version n t (λ is. (subst NoEnd is none).1.1.1.1.1.1.1.0 refl) ∙ ap of_script (open_line version n t none short);
  with_end = λ version n t whole. either_not (says_capture n t) (of_script (line_of version n t)) (script_not (line_of version n t) (whole_line version n t whole));
}

-- ---- which line begins a capture

at_tests : (far near says : Bool) (r : Result Line ScriptFault) → (far ≡ true → near ≡ true → ⊥) → (far ≡ false → near ≡ false → ⊥)
    → cond far (Err Length) (cond says (Ok lines.Capture) (of_script r)) ≡ cond (says && near) (Ok lines.Capture) (of_script (cond far (Err Length) r))
at_tests true true says r both neither = absurd (both refl refl)
at_tests true false true r both neither = refl
at_tests true false false r both neither = refl
at_tests false true true r both neither = refl
at_tests false true false r both neither = refl
at_tests false false says r both neither = absurd (neither refl refl)

pub line_is : (version n at : ℕ) (l : List ℕ) → read_at of_capture version n at l ≡ cond (begins_capture Captures n at l) (Ok lines.Capture) (of_script (line_at version n at l))
line_is version n at l =
    at_tests (nat_lt (2 ^ 30) (at + length l)) (nat_le (at + length l) (2 ^ 30)) (says_capture n l) (line_of version n l)
    (λ far near. (let a = ltb-true (2 ^ 30) (at + length l) far in let b = leb-true (at + length l) (2 ^ 30) near in omega (arith, a, b)))
    (λ far near. (let a = ltb-false (2 ^ 30) (at + length l) far in let b = leb-false (at + length l) (2 ^ 30) near in omega (arith, a, b)))

-- octets without a line end are none, or no line
pub unended_stops : (version n at : ℕ) (part : List ℕ) → NoEnd part
    → (course_from of_capture version n at (lines_of part) [] ≡ ended AtEnd []) ⊎ ((fault : ScriptFault) × (course_from of_capture version n at (lines_of part) [] ≡ ended (AtFault n fault) []))
unended_stops version n at [] none = inl refl
unended_stops version n at (x ∷ xs) none = inr (at_opening (opening capture_line_of capture_framed version n at (x ∷ xs) none))
  where
    so : (fault : ScriptFault) → read_at of_capture version n at (x ∷ xs) ≡ Err fault → (f : ScriptFault) × (course_from of_capture version n at (lines_of (x ∷ xs)) [] ≡ ended (AtFault n f) [])
    so fault fails = (
      fault,
      ap (λ ls. course_from of_capture version n at ls []) (lines_of_rest (x ∷ xs) none (omega arith))
          ∙ ap (λ r. behind_line of_capture version n (at + length (x ∷ xs)) r (λ v. course_from of_capture v (n + 1) (at + length (x ∷ xs)) []) []) fails,
    )

    at_opening : Opening capture_line_of capture_framed version n at (x ∷ xs) → (f : ScriptFault) × (course_from of_capture version n at (lines_of (x ∷ xs)) [] ≡ ended (AtFault n f) [])
    at_opening (IsFar far) = so Length (at_far capture_line_of version n at (x ∷ xs) far)
    at_opening (IsLong long) = so Length (at_long capture_line_of capture_framed version n at (x ∷ xs) long)
    at_opening (IsOpen unended) = so Unended unended
