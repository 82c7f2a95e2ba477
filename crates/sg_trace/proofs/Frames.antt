-- What a line says depends on it alone, however it came.
use Rattle.std.proofs.Common.{◌≡◌, ◌⊎◌, ◌<◌, ◌≤◌, ◌+◌, ◌^◌, ℕ, Bool, true, false, cond, List, [], ◌++◌, length, Result, Ok, Err, refl, sym, ap, ◌∙◌, inl, inr, arith, ltb, length-append, append-nil}
use Rattle.sg_base.specs.declared.faults.ScriptFault.TheVariants.{Length, Unended}
use Rattle.sg_lines.specs.declared.faults.ReadLineFault.TheVariants as faults
use Rattle.sg_lines.proofs.FaultLaws.{too_long}
use Rattle.sg_lines.proofs.FrameLaws.{open_line, whole_line}
use Rattle.sg_trace.proofs.Common.{FirstFailsBy, Gives, IsFramed, IsWhole, NoEnd, ReadLineFault, ScriptFault, Spelling, begins, cases_Bool, cases_lt}
use Rattle.sg_trace.proofs.Common.{cond-false, cond-true, line_of, lines_of, lines_of_rest, lines_of_whole, lt-ltb, ltb-false, ltb-true, spelled_at}

-- the line reaches past the first 2^30 octets
abbrev pub too_far : ℕ → List ℕ → Bool
too_far at line = ltb (2 ^ 30) (at + length line)

pub further : (at : ℕ) (line more : List ℕ) → too_far at line ≡ true → too_far at (line ++ more) ≡ true
further at line more is = lt-ltb (2 ^ 30) (at + length (line ++ more)) (let b = ltb-true (2 ^ 30) (at + length line) is in omega (arith, b, length-append line more))

err_ok : {A : Type 0} (f : ScriptFault) (x : A) → Err f ≡ Ok x → ⊥
err_ok f x is = cc

length_unended : Length ≡ Unended → ⊥
length_unended is = cc

fault_is : {A : Type 0} (f g : ScriptFault) → (let r : Result A ScriptFault = Err f in r ≡ Err g) → f ≡ g
fault_is f g is = cc

-- a line: whole, or unended at the end of the source or of the budget, or too long
abbrev pub IsLine : List ℕ → List ℕ → Type 0 → Type 0
IsLine line rest ended = IsWhole line ⊎ (NoEnd line × (0 < length line) × (((rest ≡ []) × ended) ⊎ (70000 < length line)))

-- lines of the grammar
pub lines_framed : IsFramed line_of
lines_framed = record { too_long = too_long; without_end = open_line; with_end = whole_line }

module _ {L : Type 0} (spelled : Spelling L) where
  pub at_far : (version n at : ℕ) (line : List ℕ) → too_far at line ≡ true → spelled_at spelled version n at line ≡ Err Length
  at_far version n at line far = cond-true _ _ _ far

  -- what reading gives is what the line says
  pub gives_at : (version n at : ℕ) (line : List ℕ) (r : Result L ReadLineFault) → too_far at line ≡ false → Gives r (spelled version n line) → Gives r (spelled_at spelled version n at line)
  gives_at version n at line (Ok l) near is = cond-false _ _ _ near ∙ is
  gives_at version n at line (Err faults.NoMemory) near is = tt
  gives_at version n at line (Err (faults.Script f)) near is = cond-false _ _ _ near ∙ is

module _ {L : Type 0} (spelled : Spelling L) (framed : IsFramed spelled) where
  pub at_long : (version n at : ℕ) (line : List ℕ) → 70000 < length line → spelled_at spelled version n at line ≡ Err Length
  at_long version n at line long = ap (λ r. cond (too_far at line) (Err Length) r) (framed.too_long version n line long) ∙ both (too_far at line)
    where
      both : (b : Bool) → (let r : Result L ScriptFault = cond b (Err Length) (Err Length) in r) ≡ Err Length
      both true = refl
      both false = refl

  pub data Opening (version n at : ℕ) (line : List ℕ) : Type 0 where
    IsFar : too_far at line ≡ true → Opening version n at line
    IsLong : 70000 < length line → Opening version n at line
    IsOpen : spelled_at spelled version n at line ≡ Err Unended → Opening version n at line

  -- an unended line is too far, too long or unended
  pub opening : (version n at : ℕ) (line : List ℕ) → NoEnd line → Opening version n at line
  opening version n at line none = elim (cases_Bool (too_far at line)) [
    | inl far ↦ IsFar far
    | inr near ↦ elim (cases_lt 70000 (length line)) [
      | inl long ↦ IsLong long
      | inr short ↦ IsOpen (cond-false _ _ _ near ∙ framed.without_end version n line none short)
    ]
  ]

  -- what says something is whole, and lies in the first 2^30 octets
  pub line_whole : (version n at : ℕ) (line rest : List ℕ) (ended : Type 0) (l : L) → IsLine line rest ended → spelled_at spelled version n at line ≡ Ok l → IsWhole line × (at + length line ≤ 2 ^ 30)
  line_whole version n at line rest ended l (inl whole) is = (whole, at_bit (too_far at line) refl is)
    where
      at_bit : (b : Bool) → too_far at line ≡ b → cond b (Err Length) (spelled version n line) ≡ Ok l → at + length line ≤ 2 ^ 30
      at_bit true was said = absurd (err_ok _ _ said)
      at_bit false was said = ltb-false _ _ was
  line_whole version n at line rest ended l (inr unended) is = absurd (elim (opening version n at line unended.0) [
    | IsFar far ↦ err_ok _ _ (sym (at_far spelled version n at line far) ∙ is)
    | IsLong long ↦ err_ok _ _ (sym (at_long version n at line long) ∙ is)
    | IsOpen open_so ↦ err_ok _ _ (sym open_so ∙ is)
  ])

  -- the first line of all the octets has the fault
  pub first_fails : (version n at : ℕ) (line rest : List ℕ) (ended : Type 0) (fault : ScriptFault) → IsLine line rest ended → spelled_at spelled version n at line ≡ Err fault → FirstFailsBy spelled version n at (line ++ rest) fault
  first_fails version n at line rest ended fault (inl whole) is = record { line = line; others = lines_of rest; split = lines_of_whole line rest whole; fails = is }
  first_fails version n at line rest ended fault (inr (none, some, inl end)) is =
      record { line = line; others = []; split = ap (λ (l : List ℕ). lines_of (line ++ l)) end.0 ∙ ap lines_of (append-nil line) ∙ lines_of_rest line none some; fails = is }
  first_fails version n at line rest ended fault (inr (none, some, inr long)) is =
      let begun = begins line rest none some in
      record {
        line = line ++ begun.more;
        others = begun.others;
        split = begun.split;
        fails = at_long version n at (line ++ begun.more) (omega (arith, long, length-append line begun.more)) ∙ sym (at_long version n at line long) ∙ is;
      }

  -- an unended line is told only at the end
  pub unended_at_end : (version n at : ℕ) (line rest : List ℕ) (ended : Type 0) → IsLine line rest ended → spelled_at spelled version n at line ≡ Err Unended → (rest ≡ []) × ended × (at + length line ≤ 2 ^ 30)
  unended_at_end version n at line rest ended (inl whole) is = absurd (at_bit (too_far at line) is)
    where
      at_bit : (b : Bool) → cond b (Err Length) (spelled version n line) ≡ Err Unended → ⊥
      at_bit true is = length_unended (fault_is _ _ is)
      at_bit false is = framed.with_end version n line whole is
  unended_at_end version n at line rest ended (inr (none, some, inl (last, end))) is = (last, end, within (too_far at line) refl)
    where
      within : (b : Bool) → too_far at line ≡ b → at + length line ≤ 2 ^ 30
      within true far = absurd (length_unended (fault_is _ _ (sym (at_far spelled version n at line far) ∙ is)))
      within false near = ltb-false _ _ near
  unended_at_end version n at line rest ended (inr (none, some, inr long)) is = absurd (length_unended (fault_is _ _ (sym (at_long version n at line long) ∙ is)))

  -- a fault other than a missing end stays, whatever comes
  pub still_fails : (version n at : ℕ) (line rest : List ℕ) (ended : Type 0) (fault : ScriptFault) → IsLine line rest ended → spelled_at spelled version n at line ≡ Err fault → ¬ (fault ≡ Unended)
      → (more : List ℕ) → FirstFailsBy spelled version n at (line ++ more) fault
  still_fails version n at line rest ended fault (inl whole) is not_end more = record { line = line; others = lines_of more; split = lines_of_whole line more whole; fails = is }
  still_fails version n at line rest ended fault (inr unended) is not_end more = at_opening (opening version n at line unended.0)
    where
      at_opening : Opening version n at line → FirstFailsBy spelled version n at (line ++ more) fault
      at_opening (IsFar far) =
          let begun = begins line more unended.0 unended.1 in
          record { line = line ++ begun.more; others = begun.others; split = begun.split; fails = at_far spelled version n at (line ++ begun.more) (further at line begun.more far) ∙ sym (at_far spelled version n at line far) ∙ is }
      at_opening (IsLong long) =
          let begun = begins line more unended.0 unended.1 in
          record { line = line ++ begun.more; others = begun.others; split = begun.split; fails = at_long version n at (line ++ begun.more) (omega (arith, long, length-append line begun.more)) ∙ sym (at_long version n at line long) ∙ is }
      at_opening (IsOpen open_so) = absurd (not_end (fault_is _ _ (sym is ∙ open_so)))
