-- The words of the command line, and the command that they are.
use Rattle.std.specs.Prelude.{◌≡◌, ◌⊎◌, ◌≤◌, ◌<◌, ◌^◌, ◌==◌, ℕ, Bool, true, false, if◌then◌else◌, List, [], ◌∷◌, ◌++◌, codes, map, ⊤}
use Rattle.std.specs.Fmt.{decimal}
use Rattle.sg_words.specs.declared.command.Command.{Command}
use Rattle.sg_words.specs.declared.command.Command.TheVariants.{Replay, Relay, RelayJoined, Demo, Migrate, Capture, Bridge}

abbrev pub Text : Type 0
Text = List ℕ

abbrev pub Words : Type 0
Words = List Text

-- every way to put a word in front of these words, between two of them, or behind them
abbrev pub put_in : Text → Words → List Words
put_in word [] = (word ∷ []) ∷ []
put_in word (w ∷ ws) = (word ∷ w ∷ ws) ∷ map (λ others. w ∷ others) (put_in word ws)

-- numbers, or numbers and a lone `--` among them: it says that no option is behind it
abbrev pub with_end_mark : Words → List Words
with_end_mark numbers = numbers ∷ put_in (codes "--") numbers

-- options, or options and a lone `--` behind them
abbrev pub closed : Words → List Words
closed options = options ∷ (options ++ codes "--" ∷ []) ∷ []

-- an option in front of these words, its value behind its equals sign or as the next word, and these ended as is said
abbrev pub option_before : Text → Text → (Words → List Words) → Words → List Words
option_before option value ends words =
    map (λ others. (option ++ codes "=" ++ value) ∷ others) (ends words) ++ map (λ others. option ∷ value ∷ others) (ends words)

-- an option in front of these words, between two of them, or behind them
abbrev pub with_option : Text → Text → (Words → List Words) → Words → List Words
with_option option value ends [] = option_before option value ends []
with_option option value ends (w ∷ ws) =
    option_before option value ends (w ∷ ws) ++ map (λ others. w ∷ others) (with_option option value ends ws)

-- a number of workers with these words; where none is said, it is 1
abbrev pub with_workers : ℕ → (Words → List Words) → Words → List Words
with_workers workers ends words =
    with_option (codes "--workers") (decimal workers) ends words ++ (if workers == 1 then ends words else [])

-- the option that has no value, where RTP and RTCP are on one port
abbrev pub mux_option : Bool → Words
mux_option true = codes "--mux" ∷ []
mux_option false = []

-- the commands that have neither options nor numbers, and their names
abbrev pub lone : List Command
lone = Migrate ∷ Capture ∷ Bridge ∷ []

abbrev pub lone_name : Command → Text
lone_name Migrate = codes "migrate"
lone_name Capture = codes "capture"
lone_name Bridge = codes "bridge"
lone_name other = []

-- Every way to write a command. A number is written in decimal digits, without a sign or a leading zero.
abbrev pub spellings : Command → List Words
spellings (Replay workers mux) = map (λ others. codes "replay" ∷ others) (with_workers workers closed (mux_option mux))
spellings (Relay turns mux) =
    map (λ others. codes "relay" ∷ others) (with_option (codes "--turns") (decimal turns) closed (mux_option mux))
spellings (RelayJoined turns) =
    map (λ others. codes "relay" ∷ others) (with_option (codes "--turns") (decimal turns) closed (codes "--bridge" ∷ []))
spellings (Demo calls start workers) =
    map (λ others. codes "demo" ∷ others) (with_workers workers with_end_mark (decimal calls ∷ decimal start ∷ []))
spellings other = map (λ others. lone_name other ∷ others) (closed [])

-- 1 to 16 workers
abbrev pub IsWorkers : ℕ → Type 0
IsWorkers workers = (1 ≤ workers) × (workers ≤ 16)

-- the numbers of a command are in their bounds
abbrev pub IsCommand : Command → Type 0
IsCommand (Replay workers mux) = IsWorkers workers
IsCommand (Relay turns mux) = (1 ≤ turns) × (turns ≤ 1000000000)
IsCommand (RelayJoined turns) = (1 ≤ turns) × (turns ≤ 1000000000)
IsCommand (Demo calls start workers) = (1 ≤ calls) × (calls ≤ 256) × (start < 2 ^ 64) × IsWorkers workers
IsCommand Migrate = ⊤
IsCommand Capture = ⊤
IsCommand Bridge = ⊤

-- the words are in the list
abbrev pub IsOneOf : Words → List Words → Type 0
IsOneOf words [] = ⊥
IsOneOf words (s ∷ ss) = (words ≡ s) ⊎ IsOneOf words ss

-- the words are that command
abbrev pub AreWordsOf : Words → Command → Type 0
AreWordsOf words command = IsCommand command × IsOneOf words (spellings command)

-- the words are no command
abbrev pub IsNoCommand : Words → Type 0
IsNoCommand words = (command : Command) → AreWordsOf words command → ⊥
