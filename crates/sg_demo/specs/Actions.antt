-- What is done at a word.
use Rattle.std.specs.Prelude.{ℕ, ◌%◌, ◌==◌, if◌then◌else◌}
use Rattle.sg_demo.specs.declared.action.Action.{Action}
use Rattle.sg_demo.specs.declared.action.Action.TheVariants.{Lose, Repeat, Swap, Answer, Change, Send}

abbrev pub action_of : ℕ → Action
action_of word =
    if word % 8 == 0 then Lose
    else if word % 8 == 1 then Repeat
    else if word % 8 == 2 then Swap
    else if word % 8 == 3 then Answer
    else if word % 8 == 4 then Change
    else Send
