-- Which payload may come next in a chain.
use Rattle.std.specs.Prelude.{ℕ, ◌+◌, ◌==◌, ◌&&◌, nat_lt, Bool, true, false, if◌then◌else◌, Option, Some, None}
use Rattle.sg_mikey.specs.declared.chain.Stage.{Stage}
use Rattle.sg_mikey.specs.declared.chain.Stage.TheVariants.{BeforeTime, BeforeRandom, Between, Over}
use Rattle.sg_mikey.specs.Spelling.{closing_of, most_ids}

-- the stage behind a payload of this number; none where it stands in a wrong place
abbrev pub stage_after : ℕ → Stage → ℕ → Option Stage
stage_after kind BeforeTime number =
    if number == 5 then Some (if kind == 0 then BeforeRandom else Between 0) else None
stage_after kind BeforeRandom number =
    if number == 11 then Some (Between 0) else None
stage_after kind (Between ids) number =
    if number == 6 then (if nat_lt ids (most_ids kind) then Some (Between (ids + 1)) else None)
    else if number == 21 then Some (Between ids)
    else if number == 10 && kind == 0 then Some (Between ids)
    else if number == closing_of kind then Some Over
    else None
stage_after kind Over number = None

abbrev pub is_over : Stage → Bool
is_over BeforeTime = false
is_over BeforeRandom = false
is_over (Between ids) = false
is_over Over = true
