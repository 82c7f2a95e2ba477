-- Words of a command are read as that command.
use Rattle.std.proofs.Common.{◌≡◌, ◌⊎◌, ◌≤◌, ◌<◌, ◌^◌, ◌==◌, ℕ, Bool, true, false, cond, List, [], ◌∷◌, codes, map, Option, Some, None, refl, sym, ap, ap₂, ◌∙◌, inl, inr, arith, length}
use Rattle.std.specs.Prelude.{nat_le, option_map, option_and_then}
use Rattle.std.specs.Str.{bytes_eq}
use Rattle.std.specs.Fmt.{decimal}
use Rattle.std.proofs.lemmas.Bool.{cond-true, cond-false, le-leb, eqb-true}
use Rattle.std.proofs.lemmas.Fmt.{decimal_nonempty}
use Rattle.sg_base.proofs.Cases.{none_some}
use Rattle.clap.proofs.OnLiterals.{clap_on_literals}
use Rattle.clap.specs.Words.{IsAmong, Kinds, Row, fault_of, first_of, new_app, subcommand_of}
use Rattle.clap.specs.declared.error.kind.ErrorKind.{ErrorKind}
use Rattle.clap.specs.declared.error.kind.ErrorKind.TheVariants as kind
use Rattle.sg_base.specs.Fields.{Lacks, number_at}
use Rattle.sg_base.proofs.Decimals.{number_again}
use Rattle.sg_base.proofs.FourNumbers.{decimal_lacks}
use Rattle.sg_words.proofs.Among.{either, of_map}
use Rattle.sg_words.proofs.Entered.{IsName, IsSeen}
use Rattle.sg_words.proofs.ReadWords.{IsValue, value_of}
use Rattle.sg_words.proofs.Shapes.{demo_with, demo_without, flag_text, leaf, lone_seen, relay_joined_with, relay_with, replay_with, replay_without}
use Rattle.sg_words.proofs.Written.{AreOthers, HaveNoEnd, IsOption, ended_known, itself, option_known}
use Rattle.sg_words.specs.Commands.{AreWordsOf, IsOneOf, IsWorkers, Text, Words, closed, lone_name, with_end_mark, mux_option, with_option, with_workers}
use Rattle.sg_words.specs.Grammar.{srtpgw}
use Rattle.sg_words.specs.Reading.{are_ended, command_by, demo_by, first_said, have_option, is_joined, is_set, no_fault, positive, relay_by, relay_for, relay_options, replay_by, text_in, workers_by}
use Rattle.sg_words.specs.declared.command.Command.{Command}
use Rattle.sg_words.specs.declared.command.Command.TheVariants.{Replay, Relay, RelayJoined, Demo}
use Rattle.sg_words.specs.declared.command.CommandFault.{CommandFault}
use Rattle.sg_words.specs.declared.command.CommandFault.TheVariants.{NoMemory}
use Rattle.sg_words.specs.declared.spelling.Kind.{Kind}
use Rattle.sg_words.specs.declared.spelling.Kind.TheVariants.{Numbers, Options}

found_by : (words : Words) (c : Command) → fault_of srtpgw words ≡ [] → first_said words (λ id. text_in id words) ≡ Some c → command_by words ≡ Some c
found_by words c none said = ap (λ (ks : Kinds). cond (no_fault ks) (first_said words (λ id. text_in id words)) None) none ∙ said

-- ---- numbers

-- a number as it is written: it is no option, and no beginning of one
record IsNumber (t : Text) : Type 0 where
  value : IsValue t
  joined : (v : Text) → is_joined t (codes "--workers=") v ≡ false
  apart : bytes_eq t (codes "--workers") ≡ false

number_of : (t : Text) → 0 < length t → Lacks 45 t → IsNumber t
number_of [] some lacks = absurd (omega (arith, some))
number_of (d ∷ ds) some lacks = record {
  value = value_of (d ∷ ds) some lacks;
  joined = λ v. rw (lacks.0) refl;
  apart = rw (lacks.0) refl;
}

number : (n : ℕ) → n < 2 ^ 64 → IsNumber (decimal n)
number n small = number_of (decimal n) (decimal_nonempty n small) (decimal_lacks 45 n (omega (arith, small)) (inl (omega arith)))

positive_known : (most n : ℕ) → 1 ≤ n → n ≤ most → most < 10 ^ 64 → positive most (decimal n) ≡ Some n
positive_known most n some few wide =
    ap (option_and_then (λ m. cond (nat_le 1 m) (Some m) None)) (number_again most n few wide) ∙ cond-true _ _ _ (le-leb 1 n some)

workers_known : (n : ℕ) (ws : Words) (kind : Kind) (ts : Words) → IsWorkers n → have_option ws (codes "--workers") (decimal n) kind ts ≡ true
    → workers_by ws kind ts (Some (decimal n)) ≡ Some n
workers_known n ws kind ts good written = cond-true _ _ _ written ∙ positive_known 16 n good.0 good.1 (omega arith)

workers_one : (n : ℕ) (ws : Words) (kind : Kind) (ts : Words) → (n == 1) ≡ true → are_ended ws kind ts ≡ true → workers_by ws kind ts None ≡ Some n
workers_one n ws kind ts one written = cond-true _ _ _ written ∙ ap (λ (x : ℕ). Some x) (sym (eqb-true n 1 one))

-- ---- options

workers_option : (v : Text) → IsOption (codes "--workers") v
workers_option v = record { joined = rw (itself v) refl; apart = refl }

turns_option : (v : Text) → IsOption (codes "--turns") v
turns_option v = record { joined = rw (itself v) refl; apart = refl }

mux_no_end : (mux : Bool) → HaveNoEnd (mux_option mux)
mux_no_end true = (refl, tt)
mux_no_end false = tt

mux_no_workers : (v : Text) (mux : Bool) → AreOthers (codes "--workers") v (mux_option mux)
mux_no_workers v true = ((refl, refl), tt)
mux_no_workers v false = tt

mux_no_turns : (v : Text) (mux : Bool) → AreOthers (codes "--turns") v (mux_option mux)
mux_no_turns v true = ((refl, refl), tt)
mux_no_turns v false = tt

flag_is : (mux : Bool) → is_set (Some (flag_text mux)) ≡ mux
flag_is true = refl
flag_is false = refl

-- ---- commands

abbrev replay_from : Words → List (Option Text) → Option Command
replay_from rest (workers ∷ mux ∷ []) = replay_by rest workers (is_set mux)
replay_from rest other = None

replay_known : (rest : Words) (n : ℕ) (mux : Bool) (o : Option Text)
    → IsSeen (codes "replay") (codes "workers" ∷ codes "mux" ∷ []) (o ∷ Some (flag_text mux) ∷ []) rest
    → workers_by rest Options (mux_option mux) o ≡ Some n → command_by (codes "replay" ∷ rest) ≡ Some (Replay n mux)
replay_known rest n mux o seen reads =
    found_by (codes "replay" ∷ rest) (Replay n mux) seen.taken
    (ap (replay_from rest) seen.texts ∙ ap (replay_by rest o) (flag_is mux) ∙ ap (option_map (λ (k : ℕ). Replay k mux)) reads)

replay_alone : (n : ℕ) (mux : Bool) (rest : Words) (b : Bool) → (n == 1) ≡ b → IsOneOf rest (cond b (closed (mux_option mux)) [])
    → command_by (codes "replay" ∷ rest) ≡ Some (Replay n mux)
replay_alone n mux rest false e others = absurd others
replay_alone n mux rest true e others =
    replay_known rest n mux None (replay_without mux rest others)
    (workers_one n rest Options (mux_option mux) e (ended_known rest Options (mux_option mux) (mux_no_end mux) others))

replay_said : (n : ℕ) (mux : Bool) (rest : Words) → IsWorkers n → IsOneOf rest (with_option (codes "--workers") (decimal n) closed (mux_option mux))
    → command_by (codes "replay" ∷ rest) ≡ Some (Replay n mux)
replay_said n mux rest good among =
    replay_known rest n mux (Some (decimal n)) (replay_with (decimal n) (number n (omega (arith, good.1))).value mux rest among)
    (workers_known n rest Options (mux_option mux) good
    (option_known (codes "--workers") (decimal n) (workers_option (decimal n)) Options rest (mux_option mux) (mux_no_end mux) (mux_no_workers (decimal n) mux) among))

replay_of : (n : ℕ) (mux : Bool) (rest : Words) → IsWorkers n → IsOneOf rest (with_workers n closed (mux_option mux)) → command_by (codes "replay" ∷ rest) ≡ Some (Replay n mux)
replay_of n mux rest good among =
    elim (either rest (with_option (codes "--workers") (decimal n) closed (mux_option mux)) (cond (n == 1) (closed (mux_option mux)) []) among) [
      | inl said ↦ replay_said n mux rest good said
      | inr others ↦ replay_alone n mux rest (n == 1) refl others
    ]

abbrev relay_from : Words → List (Option Text) → Option Command
relay_from rest (turns ∷ mux ∷ bridge ∷ []) = relay_by rest turns (is_set mux) (is_set bridge)
relay_from rest other = None

-- where clap finds the number of turns, and which of the two options without a value are set
relay_known : (n : ℕ) (mux bridge : Bool) (options rest : Words) → (1 ≤ n) × (n ≤ 1000000000) → relay_options mux bridge ≡ Some options
    → IsSeen (codes "relay") (codes "turns" ∷ codes "mux" ∷ codes "bridge" ∷ []) (Some (decimal n) ∷ Some (flag_text mux) ∷ Some (flag_text bridge) ∷ []) rest
    → have_option rest (codes "--turns") (decimal n) Options options ≡ true → command_by (codes "relay" ∷ rest) ≡ Some (relay_for mux bridge n)
relay_known n mux bridge options rest good few seen written =
    let wide : 1000000000 < 10 ^ 64 = omega arith in
    found_by (codes "relay" ∷ rest) (relay_for mux bridge n) seen.taken
    (ap (relay_from rest) seen.texts ∙ ap₂ (relay_by rest (Some (decimal n))) (flag_is mux) (flag_is bridge)
    ∙ ap (option_and_then (λ (o : Words). cond (have_option rest (codes "--turns") (decimal n) Options o)
    (option_map (relay_for mux bridge) (positive 1000000000 (decimal n))) None)) few
    ∙ cond-true _ _ _ written ∙ ap (option_map (relay_for mux bridge)) (positive_known 1000000000 n good.0 good.1 wide))

relay_of : (n : ℕ) (mux : Bool) (rest : Words) → (1 ≤ n) × (n ≤ 1000000000) → IsOneOf rest (with_option (codes "--turns") (decimal n) closed (mux_option mux))
    → command_by (codes "relay" ∷ rest) ≡ Some (Relay n mux)
relay_of n mux rest good among =
    relay_known n mux false (mux_option mux) rest good refl (relay_with (decimal n) (number n (omega (arith, good.1))).value mux rest among)
    (option_known (codes "--turns") (decimal n) (turns_option (decimal n)) Options rest (mux_option mux) (mux_no_end mux) (mux_no_turns (decimal n) mux) among)

relay_joined_of : (n : ℕ) (rest : Words) → (1 ≤ n) × (n ≤ 1000000000) → IsOneOf rest (with_option (codes "--turns") (decimal n) closed (codes "--bridge" ∷ []))
    → command_by (codes "relay" ∷ rest) ≡ Some (RelayJoined n)
relay_joined_of n rest good among =
    relay_known n false true (codes "--bridge" ∷ []) rest good refl (relay_joined_with (decimal n) (number n (omega (arith, good.1))).value rest among)
    (option_known (codes "--turns") (decimal n) (turns_option (decimal n)) Options rest (codes "--bridge" ∷ []) (refl, tt) ((refl, refl), tt) among)

-- the numbers of a demonstration are in their bounds
record AreBounded (calls start : ℕ) : Type 0 where
  some : 1 ≤ calls
  few : calls ≤ 256
  small : start < 2 ^ 64

-- as they are written
abbrev numbers_of : ℕ → ℕ → Words
numbers_of calls start = decimal calls ∷ decimal start ∷ []

calls_number : (n s : ℕ) → AreBounded n s → IsNumber (decimal n)
calls_number n s b = number n (omega (arith, b.few))

numbers_no_end : (n s : ℕ) → AreBounded n s → HaveNoEnd (numbers_of n s)
numbers_no_end n s b = ((calls_number n s b).value.end, ((number s b.small).value.end, tt))

numbers_no_workers : (n s : ℕ) (v : Text) → AreBounded n s → AreOthers (codes "--workers") v (numbers_of n s)
numbers_no_workers n s v b =
    let p = calls_number n s b in
    let q = number s b.small in
    ((p.joined v, p.apart), ((q.joined v, q.apart), tt))

abbrev demo_from : Words → List (Option Text) → Option Command
demo_from rest (calls ∷ start ∷ workers ∷ []) = demo_by rest calls start workers
demo_from rest other = None

demo_known : (rest : Words) (n s w : ℕ) (o : Option Text) → AreBounded n s
    → IsSeen (codes "demo") (codes "calls" ∷ codes "start" ∷ codes "workers" ∷ []) (Some (decimal n) ∷ Some (decimal s) ∷ o ∷ []) rest
    → workers_by rest Numbers (numbers_of n s) o ≡ Some w → command_by (codes "demo" ∷ rest) ≡ Some (Demo n s w)
demo_known rest n s w o b seen reads =
    let most : 18446744073709551615 < 10 ^ 64 = omega arith in
    let start_read : number_at 18446744073709551615 (decimal s) ≡ Some s = number_again 18446744073709551615 s (omega (arith, b.small)) most in
    found_by (codes "demo" ∷ rest) (Demo n s w) seen.taken
    (ap (demo_from rest) seen.texts
    ∙ ap (option_and_then (λ (c : ℕ). option_and_then (λ (k : ℕ). option_map (λ (x : ℕ). Demo c k x) (workers_by rest Numbers (numbers_of n s) o)) (number_at 18446744073709551615 (decimal s))))
    (positive_known 256 n b.some b.few (omega arith))
    ∙ ap (option_and_then (λ (k : ℕ). option_map (λ (x : ℕ). Demo n k x) (workers_by rest Numbers (numbers_of n s) o))) start_read
    ∙ ap (option_map (λ (x : ℕ). Demo n s x)) reads)

demo_alone : (n s w : ℕ) (rest : Words) (b : Bool) → AreBounded n s → (w == 1) ≡ b → IsOneOf rest (cond b (with_end_mark (numbers_of n s)) [])
    → command_by (codes "demo" ∷ rest) ≡ Some (Demo n s w)
demo_alone n s w rest false b e others = absurd others
demo_alone n s w rest true b e others =
    demo_known rest n s w None b (demo_without (decimal n) (decimal s) (calls_number n s b).value (number s b.small).value rest others)
    (workers_one w rest Numbers (numbers_of n s) e (ended_known rest Numbers (numbers_of n s) (numbers_no_end n s b) others))

demo_said : (n s w : ℕ) (rest : Words) → AreBounded n s → IsWorkers w → IsOneOf rest (with_option (codes "--workers") (decimal w) with_end_mark (numbers_of n s))
    → command_by (codes "demo" ∷ rest) ≡ Some (Demo n s w)
demo_said n s w rest b good among =
    let v = number w (omega (arith, good.1)) in
    demo_known rest n s w (Some (decimal w)) b (demo_with (decimal n) (decimal s) (decimal w) (calls_number n s b).value (number s b.small).value v.value rest among)
    (workers_known w rest Numbers (numbers_of n s) good
    (option_known (codes "--workers") (decimal w) (workers_option (decimal w)) Numbers rest (numbers_of n s) (numbers_no_end n s b) (numbers_no_workers n s (decimal w) b) among))

demo_of : (n s w : ℕ) (rest : Words) → AreBounded n s → IsWorkers w → IsOneOf rest (with_workers w with_end_mark (numbers_of n s)) → command_by (codes "demo" ∷ rest) ≡ Some (Demo n s w)
demo_of n s w rest b good among =
    elim (either rest (with_option (codes "--workers") (decimal w) with_end_mark (numbers_of n s)) (cond (w == 1) (with_end_mark (numbers_of n s)) []) among) [
      | inl said ↦ demo_said n s w rest b good said
      | inr others ↦ demo_alone n s w rest (w == 1) b refl others
    ]

lone_of : (words : Words) (c : Command) → IsName (lone_name c) (leaf (new_app (lone_name c)).top)
    → ((rest : Words) → first_said (lone_name c ∷ rest) (λ id. text_in id (lone_name c ∷ rest)) ≡ cond (are_ended rest Options []) (Some c) None)
    → IsOneOf words (map (λ others. lone_name c ∷ others) (closed [])) → command_by words ≡ Some c
lone_of words c named said among =
    let name = lone_name c in
    let made = of_map (λ others. name ∷ others) words (closed []) among in
    ap command_by made.is
    ∙ found_by (name ∷ made.others) c (lone_seen name named made.others made.among).taken (said made.others ∙ cond-true _ _ _ (ended_known made.others Options [] tt made.among))

pub complete : (words : Words) (c : Command) → AreWordsOf words c → command_by words ≡ Some c
unfolding clap_on_literals
complete words (Replay n mux) are =
    let made = of_map (λ others. codes "replay" ∷ others) words (with_workers n closed (mux_option mux)) are.1 in
    ap command_by made.is ∙ replay_of n mux made.others are.0 made.among
complete words (Relay n mux) are =
    let made = of_map (λ others. codes "relay" ∷ others) words (with_option (codes "--turns") (decimal n) closed (mux_option mux)) are.1 in
    ap command_by made.is ∙ relay_of n mux made.others are.0 made.among
complete words (RelayJoined n) are =
    let made = of_map (λ others. codes "relay" ∷ others) words (with_option (codes "--turns") (decimal n) closed (codes "--bridge" ∷ [])) are.1 in
    ap command_by made.is ∙ relay_joined_of n made.others are.0 made.among
complete words (Demo n s w) are =
    let made = of_map (λ others. codes "demo" ∷ others) words (with_workers w with_end_mark (numbers_of n s)) are.1 in
    ap command_by made.is ∙ demo_of n s w made.others (record { some = are.0.0; few = are.0.1; small = are.0.2 }) are.0.3 made.among
complete words other are = lone_of words other (record { met = refl; passes = refl; found = refl }) (λ rest. refl) are.1

-- ---- what is answered

among_some : (k : ErrorKind) (ks : Kinds) → IsAmong k ks → no_fault ks ≡ false
among_some k [] among = absurd among
among_some k (x ∷ ks) among = refl

-- clap refuses the words of a command only when out of memory
pub refused_so : (words : Words) (k : ErrorKind) (f : CommandFault) (c : Command) → (k ≡ kind.OutOfMemory) ⊎ IsAmong k (fault_of srtpgw words)
    → (k ≡ kind.OutOfMemory → f ≡ NoMemory) → AreWordsOf words c → (f ≡ NoMemory)
refused_so words k f c (inl memory) told are = told memory
refused_so words k f c (inr among) told are =
    absurd (none_some c (sym (cond-false _ _ _ (among_some k (fault_of srtpgw words) among)) ∙ complete words c are))

-- what is read of what clap found
pub taken_so : (words : Words) (o : Option Command) (rows : Option (Text × List Row)) → fault_of srtpgw words ≡ [] → rows ≡ subcommand_of srtpgw words
    → o ≡ first_said words (λ id. option_and_then (λ p. first_of id p.1) rows) → o ≡ command_by words
taken_so words o rows none is says =
    says ∙ ap (λ (r : Option (Text × List Row)). first_said words (λ id. option_and_then (λ p. first_of id p.1) r)) is
    ∙ sym (ap (λ (ks : Kinds). cond (no_fault ks) (first_said words (λ id. text_in id words)) None) none)
