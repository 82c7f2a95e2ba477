-- What is migrated is a script of version 2, without a fault.
use Rattle.std.proofs.Common.{◌≡◌, inl, inr, ◌⊎◌, ℕ, ◌+◌, ◌≤◌, ◌<◌, ◌^◌, List, [], ◌∷◌, ◌++◌, length, Option, Some, None, Result, Ok, Err, refl, sym, ap, ◌∙◌, subst, length-append, arith}
use Rattle.sg_base.specs.declared.faults.ScriptFault.{ScriptFault}
use Rattle.sg_base.specs.declared.faults.ScriptFault.TheVariants.{Version}
use Rattle.sg_gateway.specs.Drawn.{Supplied, supplied}
use Rattle.sg_lines.specs.LineOf.{version_after}
use Rattle.sg_lines.specs.LineText.{FitsLine, line_text}
use Rattle.sg_lines.specs.ScriptLines.{lines_of}
use Rattle.sg_lines.specs.declared.lines.Line.{Line}
use Rattle.sg_lines.specs.declared.lines.Line.TheVariants as lines
use Rattle.sg_migrate.proofs.Alike.{Grammar, fits_at, moment_below, one_at, printed_at, reads_printed, written_by, written_from, written_is}
use Rattle.sg_migrate.specs.Migrated.{moment_after, of_migration, of_version_one}
use Rattle.sg_migrate.specs.VersionTwo.{IsVersionTwo, header_two}
use Rattle.sg_migrate.specs.declared.lines.LineOfVersionOne.{LineOfVersionOne}
use Rattle.sg_trace.specs.Course.{behind_line, course, course_from, ended}
use Rattle.sg_trace.specs.Output.{IsPrefixOf}
use Rattle.sg_trace.specs.Trace.{AtEnd, AtFault, ForDraw, Later, Outside, Replays, Trace, drawing, handled, handled_as, line_at, trace_from}

-- the trace ends at no line that is outside the grammar
abbrev NoFault : Trace → Type 0
NoFault t = (n : ℕ) (fault : ScriptFault) → t.stop ≡ AtFault n fault → ⊥

at_end : (n : ℕ) (fault : ScriptFault) → AtEnd ≡ AtFault n fault → ⊥
at_end n fault is = cc

for_draw : (n : ℕ) (fault : ScriptFault) → ForDraw ≡ AtFault n fault → ⊥
for_draw n fault is = cc

handled_on : (s : Option Supplied) (later : Later) (top : ℕ) (o : Outside) → ((top : ℕ) (o : Outside) → NoFault (later top o)) → NoFault (handled_as s later top o)
handled_on None later top o none = for_draw
handled_on (Some s) later top o none = none top (record o { draws = s.draws })

-- a line of version 2 that isn't a tick of a relay is handled
said_on : (l : Line) (later : Later) (top : ℕ) (o : Outside) → ((top : ℕ) (o : Outside) → NoFault (later top o)) → NoFault (handled l later top o)
said_on l later top o none = handled_on (supplied o.draws l) later top o none

module _ (grammar : Grammar) where
  module _ (l : List ℕ) (ls : List (List ℕ)) (n at at' moment top : ℕ) (o : Outside) (later : 1 < n) (most : moment ≤ 2085978495999) where
    -- what is written of the later lines
    abbrev rest : ℕ → List ℕ
    rest m = written_from (n + 1) (at + length l) m ls

    abbrev Again : Type 0
    Again = (at' m top : ℕ) (o : Outside) → m ≤ 2085978495999 → at' + length (rest m) ≤ 2 ^ 30 → NoFault (trace_from Replays 2 (n + 1) at' (lines_of (rest m)) top o)

    -- a line that is printed, and then the later ones
    of_printed : Again → (x : Line) (m : ℕ) → FitsLine 2 n x → version_after 2 x ≡ 2 → m ≤ 2085978495999 → at' + length (line_text x ++ rest m) ≤ 2 ^ 30
        → NoFault (trace_from Replays 2 n at' (lines_of (line_text x ++ rest m)) top o)
    of_printed again x m fits two low within =
        let size = length-append (line_text x) (rest m) in
        let reads = reads_printed grammar 2 n at' x (rest m) top o fits (omega (arith, within, size)) in
        subst NoFault (sym reads) (said_on x (trace_from Replays (version_after 2 x) (n + 1) (at' + length (line_text x)) (lines_of (rest m))) top o
        (λ top o. subst (λ v. NoFault (trace_from Replays v (n + 1) (at' + length (line_text x)) (lines_of (rest m)) top o)) (sym two) (again (at' + length (line_text x)) m top o low (omega (arith, within, size)))))

    by_line : (r : Result Line ScriptFault) → line_at 1 n at l ≡ r → Again
        → at' + length (written_by n at moment l ls r) ≤ 2 ^ 30
        → NoFault (trace_from Replays 2 n at' (lines_of (written_by n at moment l ls r)) top o)
    by_line (Err fault) e again within = at_end
    by_line (Ok lines.Header) e again within = absurd (let first : n ≡ 1 = fits_at grammar n at l lines.Header e in omega (arith, first, later))
    by_line (Ok lines.HeaderTwo) e again within = at_end
    by_line (Ok (lines.DatagramAt now port from octets)) e again within = absurd (let two : 1 ≡ 2 = (fits_at grammar n at l (lines.DatagramAt now port from octets) e).1.3 in omega (arith, two))
    by_line (Ok (lines.Datagram port from octets)) e again within =
        let fits = fits_at grammar n at l (lines.Datagram port from octets) e in
        of_printed again (lines.DatagramAt moment port from octets) moment (fits.0, (fits.1.0, fits.1.1, fits.1.2, refl, most)) refl most within
    by_line (Ok (lines.Signal signal)) e again within =
        let fits = fits_at grammar n at l (lines.Signal signal) e in
        of_printed again (lines.Signal signal) (moment_after moment (lines.Signal signal)) fits refl (moment_below moment signal most fits.1) within

  -- the lines behind the header
  none_behind : (ls : List (List ℕ)) (n at at' moment top : ℕ) (o : Outside) → 1 < n → moment ≤ 2085978495999 → at' + length (written_from n at moment ls) ≤ 2 ^ 30
      → NoFault (trace_from Replays 2 n at' (lines_of (written_from n at moment ls)) top o)
  none_behind [] n at at' moment top o later most within = at_end
  none_behind (l ∷ ls) n at at' moment top o later most within =
      subst (λ (t : List ℕ). at' + length t ≤ 2 ^ 30 → NoFault (trace_from Replays 2 n at' (lines_of t) top o)) (sym (written_is n at moment l ls))
      (by_line l ls n at at' moment top o later most (line_at 1 n at l) refl (λ at' m top o. none_behind ls (n + 1) (at + length l) at' m top o (omega arith))) within

  -- ---- the first line

  module _ (l : List ℕ) (ls : List (List ℕ)) where
    abbrev behind : Result Line ScriptFault → List ℕ
    behind r = written_by 1 0 0 l ls r

    first_begins : (r : Result Line ScriptFault) → line_at 1 1 0 l ≡ r → (behind r ≡ []) ⊎ IsPrefixOf header_two (behind r)
    first_begins (Err fault) e = inl refl
    first_begins (Ok lines.HeaderTwo) e = inl refl
    first_begins (Ok lines.Header) e = inr ((written_from 2 (0 + length l) 0 ls), refl)
    first_begins (Ok other) e = absurd ((fits_at grammar 1 0 l other e).0 refl)

    first_none : (draws : List ℕ) (r : Result Line ScriptFault) → line_at 1 1 0 l ≡ r → length (behind r) ≤ 2 ^ 30 → NoFault (trace_from Replays 1 1 0 (lines_of (behind r)) 0 (drawing draws))
    first_none draws (Err fault) e within = at_end
    first_none draws (Ok lines.HeaderTwo) e within = at_end
    first_none draws (Ok lines.Header) e within =
        let later = written_from 2 (0 + length l) 0 ls in
        let size = length-append (line_text lines.HeaderTwo) later in
        let reads = reads_printed grammar 1 1 0 lines.HeaderTwo later 0 (drawing draws) refl (omega (arith, within, size)) in
        subst NoFault (sym reads) (said_on lines.HeaderTwo (trace_from Replays 2 2 (0 + length (line_text lines.HeaderTwo)) (lines_of later)) 0 (drawing draws)
        (λ top o. none_behind ls 2 (0 + length l) (0 + length (line_text lines.HeaderTwo)) 0 top o (omega arith) (omega arith) (omega (arith, within, size))))
    first_none draws (Ok other) e within = absurd ((fits_at grammar 1 0 l other e).0 refl)

  begins : (ls : List (List ℕ)) → (written_from 1 0 0 ls ≡ []) ⊎ IsPrefixOf header_two (written_from 1 0 0 ls)
  begins [] = inl refl
  begins (l ∷ ls) = subst (λ (t : List ℕ). (t ≡ []) ⊎ IsPrefixOf header_two t) (sym (written_is 1 0 0 l ls)) (first_begins l ls (line_at 1 1 0 l) refl)

  without_fault : (draws : List ℕ) (ls : List (List ℕ)) → length (written_from 1 0 0 ls) ≤ 2 ^ 30 → NoFault (trace_from Replays 1 1 0 (lines_of (written_from 1 0 0 ls)) 0 (drawing draws))
  without_fault draws [] within = at_end
  without_fault draws (l ∷ ls) within =
      subst (λ (t : List ℕ). length t ≤ 2 ^ 30 → NoFault (trace_from Replays 1 1 0 (lines_of t) 0 (drawing draws))) (sym (written_is 1 0 0 l ls)) (first_none l ls draws (line_at 1 1 0 l) refl) within

  -- a script that is of version 2 already
  module _ (later : List ℕ) where
    two_refused : course of_migration (header_two ++ later) [] ≡ ended (AtFault 1 Version) []
    two_refused =
        let again : line_at 1 1 0 header_two ≡ Ok lines.HeaderTwo = printed_at grammar 1 1 0 lines.HeaderTwo refl (omega arith) in
        ap (λ (r : Result LineOfVersionOne ScriptFault). behind_line of_migration 1 1 (0 + length header_two) r (λ v. course_from of_migration v 2 (0 + length header_two) (lines_of later)) []) (one_at 1 0 header_two ∙ ap of_version_one again)

  pub is_version_two : (octets : List ℕ) → IsVersionTwo octets
  is_version_two octets = record {
    header = begins (lines_of octets);
    whole = λ within draws. without_fault draws (lines_of octets) within;
    once = λ is. ap (λ (o : List ℕ). course of_migration o []) is.1 ∙ two_refused is.0;
  }
