-- How the words are read: cut by clap, and then compared with the ways to write what clap found.
use Rattle.std.specs.Prelude.{ℕ, Bool, true, false, ◌&&◌, nat_le, if◌then◌else◌, List, [], ◌∷◌, ◌++◌, take, drop, length, codes, Option, Some, None, option_and_then, option_map}
use Rattle.std.specs.Str.{bytes_eq}
use Rattle.clap.specs.Words.{Kinds, fault_of, first_of, subcommand_of}
use Rattle.sg_base.specs.Fields.{number_at}
use Rattle.sg_words.specs.Commands.{Text, Words, lone, lone_name, mux_option}
use Rattle.sg_words.specs.Grammar.{srtpgw}
use Rattle.sg_words.specs.declared.command.Command.{Command}
use Rattle.sg_words.specs.declared.command.Command.TheVariants.{Replay, Relay, RelayJoined, Demo}
use Rattle.sg_words.specs.declared.spelling.Kind.{Kind}
use Rattle.sg_words.specs.declared.spelling.Kind.TheVariants.{Numbers, Options}

-- there are no words
abbrev pub are_none : Words → Bool
are_none [] = true
are_none (w ∷ ws) = false

-- the first word is the first text, and the others are so too
abbrev pub led_by : Text → Words → (Words → Bool) → Bool
led_by word [] others = false
led_by word (t ∷ ts) others = bytes_eq word t && others ts

-- the words are these texts
abbrev pub are : Words → Words → Bool
are [] texts = are_none texts
are (w ∷ ws) texts = led_by w texts (are ws)

-- a lone `--` may stand in front of these texts
abbrev pub may_end : Kind → Words → Bool
may_end Numbers texts = true
may_end Options texts = are_none texts

-- the words are these texts, with or without a lone `--`
abbrev pub are_ended : Words → Kind → Words → Bool
are_ended [] kind texts = are_none texts
are_ended (w ∷ ws) kind texts =
    if bytes_eq w (codes "--") then may_end kind texts && are ws texts else led_by w texts (are_ended ws kind)

-- the word is an option with its equals sign, and this value behind it
abbrev pub is_joined : Text → Text → Text → Bool
is_joined word option value = bytes_eq (take (length option) word) option && bytes_eq (drop (length option) word) value

-- the value and then the texts
abbrev pub follows : Words → Text → Kind → Words → Bool
follows [] value kind texts = false
follows (w ∷ ws) value kind texts = bytes_eq w value && are_ended ws kind texts

-- the words are these texts with the option among them
abbrev pub have_option : Words → Text → Text → Kind → Words → Bool
have_option [] option value kind texts = false
have_option (w ∷ ws) option value kind texts =
    if is_joined w (option ++ codes "=") value then are_ended ws kind texts
    else (if bytes_eq w option then follows ws value kind texts else led_by w texts (have_option ws option value kind))

-- a number from 1 to this
abbrev pub positive : ℕ → Text → Option ℕ
positive most text = option_and_then (λ n. if nat_le 1 n then Some n else None) (number_at most text)

-- an option that has no value is set, by the text that clap gives it
abbrev pub is_set : Option Text → Bool
is_set None = false
is_set (Some text) = bytes_eq text (codes "true")

-- how many workers the words say, where they are these texts with that option's value among them
abbrev pub workers_by : Words → Kind → Words → Option Text → Option ℕ
workers_by words kind texts None = if are_ended words kind texts then Some 1 else None
workers_by words kind texts (Some value) =
    if have_option words (codes "--workers") value kind texts then positive 16 value else None

-- the command `replay`, by the words behind its name, the text of its option, and whether `--mux` is set
abbrev pub replay_by : Words → Option Text → Bool → Option Command
replay_by words workers mux = option_map (λ n. Replay n mux) (workers_by words Options (mux_option mux) workers)

-- `relay` has one at most of its two options without a value
abbrev pub relay_options : Bool → Bool → Option Words
relay_options mux false = Some (mux_option mux)
relay_options false true = Some (codes "--bridge" ∷ [])
relay_options true true = None

-- the command that they make of a number of turns
abbrev pub relay_for : Bool → Bool → ℕ → Command
relay_for mux false n = Relay n mux
relay_for mux true n = RelayJoined n

-- the same of `relay`, whose number of turns is required, and whether `--mux` and `--bridge` are set
abbrev pub relay_by : Words → Option Text → Bool → Bool → Option Command
relay_by words None mux bridge = None
relay_by words (Some value) mux bridge =
    option_and_then (λ options. if have_option words (codes "--turns") value Options options then option_map (relay_for mux bridge) (positive 1000000000 value)
    else None) (relay_options mux bridge)

-- the same of `demo`, by the texts of its two numbers and of its option
abbrev pub demo_by : Words → Option Text → Option Text → Option Text → Option Command
demo_by words None start workers = None
demo_by words (Some calls) None workers = None
demo_by words (Some calls) (Some start) workers =
    option_and_then (λ c. option_and_then (λ s. option_map (λ w. Demo c s w) (workers_by words Numbers (calls ∷ start ∷ []) workers))
    (number_at 18446744073709551615 start)) (positive 256 calls)

-- a command that has neither options nor numbers, by the words behind its name
abbrev pub alone_by : Command → Words → Option Command
alone_by command words = if are_ended words Options [] then Some command else None

-- that of these commands which has the name
abbrev pub lone_by : List Command → Text → Words → Option Command
lone_by [] name words = None
lone_by (c ∷ cs) name words = if bytes_eq name (lone_name c) then alone_by c words else lone_by cs name words

-- the text that clap found for an argument
abbrev pub text_in : Text → Words → Option Text
text_in id words = option_and_then (λ p. first_of id p.1) (subcommand_of srtpgw words)

-- the command of this name, by the words behind it and the texts of its arguments
abbrev pub said_by : Text → Words → (Text → Option Text) → Option Command
said_by name words text =
    if bytes_eq name (codes "replay") then replay_by words (text (codes "workers")) (is_set (text (codes "mux")))
    else (if bytes_eq name (codes "relay") then relay_by words (text (codes "turns")) (is_set (text (codes "mux"))) (is_set (text (codes "bridge")))
    else (if bytes_eq name (codes "demo") then demo_by words (text (codes "calls")) (text (codes "start")) (text (codes "workers"))
    else lone_by lone name words))

-- the first word is the command's name
abbrev pub first_said : Words → (Text → Option Text) → Option Command
first_said [] text = None
first_said (name ∷ words) text = said_by name words text

-- clap takes the words
abbrev pub no_fault : Kinds → Bool
no_fault [] = true
no_fault (k ∷ ks) = false

-- the command that is read, where clap takes the words
abbrev pub command_by : Words → Option Command
command_by words = if no_fault (fault_of srtpgw words) then first_said words (λ id. text_in id words) else None
