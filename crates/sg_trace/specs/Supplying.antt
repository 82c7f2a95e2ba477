-- What drawing the noise of a signal gives.
use Rattle.std.specs.Prelude.{◌≡◌, ℕ, List, [], ◌++◌, Some, None, Result, Ok, Err}
use Rattle.sg_gateway.specs.Drawn.{supplied}
use Rattle.sg_lines.specs.declared.lines.Line.TheVariants as lines
use Rattle.sg_lines.specs.declared.lines.Signal.{Signal}
use Rattle.sg_trace.specs.declared.status.Status.{Status}
use Rattle.sg_trace.specs.declared.status.Status.TheVariants.{Noise}

-- The signal has its noise, for which these octets were drawn and no other; or it lacks it, and none were.
abbrev pub IsSupplied : Result Signal Status → Signal → List ℕ → Type 0
IsSupplied (Ok s) signal draws = (later : List ℕ) → supplied (draws ++ later) (lines.Signal signal) ≡ Some (record { line = lines.Signal s; draws = later })
IsSupplied (Err Noise) signal draws = (draws ≡ []) × (supplied [] (lines.Signal signal) ≡ None)
IsSupplied (Err other) signal draws = ⊥
