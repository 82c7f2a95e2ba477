-- A script of version 1, written as one of version 2.
use Rattle.std.specs.Prelude.{ℕ, max, false, List, [], ◌∷◌, ◌++◌, Some, Result, Ok, Err}
use Rattle.sg_base.specs.declared.faults.ScriptFault.{ScriptFault}
use Rattle.sg_base.specs.declared.faults.ScriptFault.TheVariants.{Version}
use Rattle.sg_lines.specs.LineOf.{line_of}
use Rattle.sg_lines.specs.LineText.{line_text}
use Rattle.sg_lines.specs.declared.lines.Line.{Line}
use Rattle.sg_lines.specs.declared.lines.Line.TheVariants as lines
use Rattle.sg_lines.specs.declared.lines.Signal.TheVariants.{Tick}
use Rattle.sg_migrate.specs.declared.lines.LineOfVersionOne.{LineOfVersionOne}
use Rattle.sg_trace.specs.Course.{Ways, course}
use Rattle.sg_trace.specs.Loop.{Effects}
use Rattle.sg_trace.specs.Output.{IsPrefixOf}
use Rattle.sg_trace.specs.Trace.{Spelling}

-- ---- lines

-- The other header is outside the grammar of version 1.
abbrev pub of_version_one : Result Line ScriptFault → Result LineOfVersionOne ScriptFault
of_version_one (Ok lines.HeaderTwo) = Err Version
of_version_one (Ok other) = Ok (record { line = other })
of_version_one (Err fault) = Err fault

abbrev pub old_line_of : Spelling LineOfVersionOne
old_line_of version n octets = of_version_one (line_of version n octets)

-- a line as it is written: a datagram comes at the moment
abbrev pub migrated_line : ℕ → Line → Line
migrated_line moment lines.Header = lines.HeaderTwo
migrated_line moment (lines.Datagram port from octets) = lines.DatagramAt moment port from octets
migrated_line moment other = other

-- the greatest moment of the ticks as far as behind a line, by that before it
abbrev pub moment_after : ℕ → Line → ℕ
moment_after moment (lines.Signal (Tick now)) = max moment now
moment_after moment other = moment

-- ---- scripts

-- how a script of version 1 is read; each line is to be written
abbrev pub of_migration : Ways LineOfVersionOne Line
of_migration = record { spelled = old_line_of; followed = λ version l. 1; is_last = λ l. false; gives = λ l draws. Some (record { deeds = l.line ∷ []; left = draws }) }

-- what is written of lines, by the greatest moment of the ticks before them
abbrev pub written_of : ℕ → List Line → List ℕ
written_of moment [] = []
written_of moment (l ∷ ls) = line_text (migrated_line moment l) ++ written_of (moment_after moment l) ls

-- and that moment behind them
abbrev pub moment_behind : ℕ → List Line → ℕ
moment_behind moment [] = moment
moment_behind moment (l ∷ ls) = moment_behind (moment_after moment l) ls

abbrev pub effects : Effects ℕ Line
effects = record { tells = written_of; after = moment_behind }

-- the script of version 2: its lines are those before the first outside the grammar of version 1
abbrev pub migrated : List ℕ → List ℕ
migrated octets = written_of 0 (course of_migration octets []).deeds

-- the first line isn't the header of version 2
abbrev pub IsOfVersionOne : List ℕ → Type 0
IsOfVersionOne octets = ¬ IsPrefixOf (line_text lines.HeaderTwo) octets
