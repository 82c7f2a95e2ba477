-- Walks of which a part is done.
use Rattle.std.specs.Prelude.{List, ◌++◌, Result, Ok, Err}

-- the values that are done and then the others, where all are there
abbrev pub prefixed : {X E : Type 0} → List X → Result (List X) E → Result (List X) E
prefixed done (Ok xs) = Ok (done ++ xs)
prefixed done (Err cause) = Err cause
