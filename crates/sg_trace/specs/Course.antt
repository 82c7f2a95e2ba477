-- The course of a script: what its lines give, whatever plays them.
use Rattle.std.specs.Prelude.{ℕ, ◌+◌, Bool, if◌then◌else◌, List, [], ◌∷◌, ◌++◌, length, Option, Some, None, Result, Ok, Err}
use Rattle.sg_base.specs.declared.faults.ScriptFault.{ScriptFault}
use Rattle.sg_lines.specs.ScriptLines.{lines_of}
use Rattle.sg_trace.specs.Trace.{Spelling, Stop, AtEnd, AtFault, AtCapture, ForDraw, spelled_at}

-- What a line gives: deeds, as events, and what it leaves of the noise that comes.
pub record Given (D : Type 0) : Type 0 where
  pub deeds : List D
  pub left : List ℕ

-- How a kind of script is read: which octets are the n-th line of a version, of which version the lines behind it are, and
-- whether it is the last, behind which a capture begins; and what a line gives of the noise that comes, or none where it
-- lacks more.
pub record Ways (L D : Type 0) : Type 0 where
  pub spelled : Spelling L
  pub followed : ℕ → L → ℕ
  pub is_last : L → Bool
  pub gives : L → List ℕ → Option (Given D)

-- the deeds of a script, where they end, and what is left of the noise
pub record Course (D : Type 0) : Type 0 where
  pub deeds : List D
  pub stop : Stop
  pub left : List ℕ

abbrev pub ended : {D : Type 0} → Stop → List ℕ → Course D
ended stop draws = record { deeds = []; stop = stop; left = draws }

abbrev pub with_deeds : {D : Type 0} → List D → Course D → Course D
with_deeds prefix c = record c { deeds = prefix ++ c.deeds }

-- a line that gives this of the noise, and what follows it
abbrev pub behind_given : {D : Type 0} → Option (Given D) → List ℕ → (List ℕ → Course D) → Course D
behind_given None draws later = ended ForDraw draws
behind_given (Some g) draws later = with_deeds g.deeds (later g.left)

-- the n-th line, which begins at this offset
abbrev pub read_at : {L D : Type 0} → Ways L D → ℕ → ℕ → ℕ → List ℕ → Result L ScriptFault
read_at w version n at line = spelled_at w.spelled version n at line

-- the n-th line, which ends at this offset, and what follows it in the script's version
abbrev pub behind_line : {L D : Type 0} → Ways L D → ℕ → ℕ → ℕ → Result L ScriptFault → (ℕ → List ℕ → Course D) → List ℕ → Course D
behind_line w version n end (Err fault) later draws = ended (AtFault n fault) draws
behind_line w version n end (Ok l) later draws = if w.is_last l then ended (AtCapture end) draws else behind_given (w.gives l draws) draws (later (w.followed version l))

-- of the lines from the n-th on, which begin at this offset, in a script of that version
abbrev pub course_from : {L D : Type 0} → Ways L D → ℕ → ℕ → ℕ → List (List ℕ) → List ℕ → Course D
course_from w version n at [] draws = ended AtEnd draws
course_from w version n at (l ∷ ls) draws = behind_line w version n (at + length l) (read_at w version n at l) (λ v. course_from w v (n + 1) (at + length l) ls) draws

-- The course of these octets, with these drawn. The first line says which version the script has.
abbrev pub course : {L D : Type 0} → Ways L D → List ℕ → List ℕ → Course D
course w octets draws = course_from w 1 1 0 (lines_of octets) draws
