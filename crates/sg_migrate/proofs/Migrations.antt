-- A migration as the loop has it, line by line.
use Rattle.std.proofs.Common.{◌≡◌, ◌+◌, ℕ, true, List, [], ◌∷◌, ◌++◌, length, Result, Ok, Err, refl, sym, ap, ◌∙◌, subst, append_assoc, arith}
use Rattle.std.proofs.lemmas.List.{append-nil}
use Rattle.sg_base.specs.declared.faults.ScriptFault.{ScriptFault}
use Rattle.sg_base.specs.declared.faults.ScriptFault.TheVariants.{Unended}
use Rattle.sg_lines.specs.LineOf.{line_of}
use Rattle.sg_lines.specs.LineText.{line_text}
use Rattle.sg_lines.specs.declared.lines.Line.{Line}
use Rattle.sg_lines.specs.declared.lines.Line.TheVariants as lines
use Rattle.sg_migrate.specs.Migrated.{effects, migrated_line, moment_after, moment_behind, of_migration, of_version_one, old_line_of, written_of}
use Rattle.sg_migrate.specs.declared.lines.LineOfVersionOne.{LineOfVersionOne}
use Rattle.sg_trace.proofs.Frames.{lines_framed}
use Rattle.sg_trace.specs.Course.{behind_line, course_from, read_at}
use Rattle.sg_trace.specs.Loop.{GoInOrder, IsCutShort, IsPlayed, IsRun, IsTaken, LoopEnds, Tellings}
use Rattle.sg_trace.specs.Output.{IsPrefixOf, IsWritten}
use Rattle.sg_trace.specs.Reading.{IsFramed}
use Rattle.sg_trace.specs.declared.status.Status.{Status}
use Rattle.sg_trace.specs.Trace.{ForDraw}
use Rattle.sg_trace.specs.declared.status.Status.TheVariants.{Write, NoMemory, Noise}
use Rattle.sg_edge.specs.Links.{Added}
use Rattle.sg_edge.specs.Told.{Tally, telling}
use Rattle.sg_lines.specs.ScriptLines.{lines_of}

-- what is told of a line without its end, or of one that is too long, is told of it in version 1 too
unended_so : (r : Result Line ScriptFault) → of_version_one r ≡ Err Unended → r ≡ Err Unended
unended_so (Err fault) is = (let same : fault ≡ Unended = cc in ap Err same)
unended_so (Ok lines.HeaderTwo) is = absurd cc
unended_so (Ok other) is = absurd cc

pub one_framed : IsFramed old_line_of
one_framed = record {
  too_long = λ version n octets long. ap of_version_one (lines_framed.too_long version n octets long);
  without_end = λ version n octets none short. ap of_version_one (lines_framed.without_end version n octets none short);
  with_end = λ version n octets whole is. lines_framed.with_end version n octets whole (unended_so (line_of version n octets) is);
}

-- ---- lines in order

told_in_order : (moment : ℕ) (ls ms : List Line) → written_of moment (ls ++ ms) ≡ written_of moment ls ++ written_of (moment_behind moment ls) ms
told_in_order moment [] ms = refl
told_in_order moment (l ∷ ls) ms =
    ap (λ (o : List ℕ). line_text (migrated_line moment l) ++ o) (told_in_order (moment_after moment l) ls ms)
    ∙ sym (append_assoc (line_text (migrated_line moment l)) (written_of (moment_after moment l) ls) (written_of (moment_behind (moment_after moment l) ls) ms))

pub behind_in_order : (moment : ℕ) (ls ms : List Line) → moment_behind moment (ls ++ ms) ≡ moment_behind (moment_behind moment ls) ms
behind_in_order moment [] ms = refl
behind_in_order moment (l ∷ ls) ms = behind_in_order (moment_after moment l) ls ms

pub in_order : GoInOrder effects
in_order = record { none_told = λ moment. refl; none_after = λ moment. refl; told = told_in_order; after = behind_in_order }

-- ---- one line

module _ (moment : ℕ) (l : LineOfVersionOne) where
  abbrev pub text : List ℕ
  text = line_text (migrated_line moment l.line)

  -- it is written
  pub line_taken : (next : ℕ) → next ≡ moment_after moment l.line → IsTaken effects (of_migration.gives l) moment [] [] (λ m. next ≡ m) [] text
  line_taken next is = record {
    fresh = l.line ∷ [];
    told = l.line ∷ [];
    goes = λ more. refl;
    alike = record { told = refl; left = refl };
    written = sym (append-nil text);
    left = is;
  }

  -- or a part of it is
  pub line_cut : (status : Status) (a b : Tally) (stands : ℕ → Type 0) (out : List ℕ) → IsWritten (Err status) a b text → IsPrefixOf out text → IsPlayed (Err status) effects (of_migration.gives l) 1 moment [] [] stands [] out
  line_cut status a b stands out written part = go status written
    where
      short : IsCutShort effects (of_migration.gives l) 1 moment [] [] out
      short = record { told = (part.0, append-nil text ∙ part.1); few = omega arith }

      go : (status : Status) → IsWritten (Err status) a b text → IsPlayed (Err status) effects (of_migration.gives l) 1 moment [] [] stands [] out
      go Write written = short
      go NoMemory written = short
      go other written = absurd written

-- ---- no line lacks noise

never_draws : (version n at : ℕ) (ls : List (List ℕ)) (draws : List ℕ) → (course_from of_migration version n at ls draws).stop ≡ ForDraw → ⊥
never_draws version n at [] draws is = cc
never_draws version n at (l ∷ ls) draws is = go (read_at of_migration version n at l) (never_draws 1 (n + 1) (at + length l) ls draws) is
  where
    go : (r : Result LineOfVersionOne ScriptFault) → ((course_from of_migration 1 (n + 1) (at + length l) ls draws).stop ≡ ForDraw → ⊥)
        → (behind_line of_migration version n (at + length l) r (λ v. course_from of_migration v (n + 1) (at + length l) ls) draws).stop ≡ ForDraw → ⊥
    go (Err fault) later is = cc
    go (Ok found) later is = later is

pub quiet_so : (status : Status) (octets out : List ℕ) (left : Tally) → LoopEnds of_migration (written_of 0) 1 status octets [] out left → status ≡ Noise → ⊥
quiet_so status octets out left ends is = never_draws 1 1 0 (lines_of octets) [] (subst (λ s. LoopEnds of_migration (written_of 0) 1 s octets [] out left) is ends).stops

-- what gives nothing gave none of these
none_drawn : (draws : List ℕ) → Added (telling [] 0) (telling [] 0) draws → draws ≡ []
none_drawn draws drew =
    let before = drew.0 [] refl in
    let none : before.0 ≡ [] = cc in
    sym (before.2 ∙ ap (λ (o : List ℕ). o ++ draws) none)

pub run_undrawn : (status : Status) (old new : Tellings) (octets draws out : List ℕ) → Added (telling [] 0) (telling [] 0) draws → IsRun of_migration (written_of 0) 1 true status old new octets draws out
    → IsRun of_migration (written_of 0) 1 true status old new octets [] out
run_undrawn status old new octets draws out drew run = subst (λ (none : List ℕ). IsRun of_migration (written_of 0) 1 true status old new octets none out) (none_drawn draws drew) run
