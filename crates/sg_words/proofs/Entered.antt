-- What clap takes and finds of the words behind a command's name.
use Rattle.std.proofs.Common.{◌≡◌, ◌∙◌, List, [], ◌∷◌, map, fold, refl, sym, ap, ap₂, true, false, Option, Some, find}
use Rattle.std.specs.Prelude.{is_some, option_and_then, option_map}
use Rattle.std.specs.Option.{option_map_or}
use Rattle.clap.specs.Words.{App, Kinds, Shape, Text, built, fault_of, first_of, is_simple_and_free}
use Rattle.clap.specs.Kinds.{or_else}
use Rattle.clap.specs.Faults.{check_fault, defaults_fault, entered_fault, level_fault, settle_fault, turn_fault, walk_fault}
use Rattle.clap.specs.Simple.{entered, label_of, names_of, rows_at}
use Rattle.clap.specs.Walk.{Walk, answers_to, finished, nothing_held, rows_after, settled, walk, walk_from, walked}
use Rattle.clap.proofs.FaultLemmas.{stopped_fault}
use Rattle.clap.proofs.OnLiterals.{clap_on_literals}
use Rattle.clap.proofs.WalkLemmas.{walk_stopped}
use Rattle.sg_words.proofs.ReadWords.{Read, fault_by, level_is, rows_are, rows_by, word}
use Rattle.sg_words.specs.Commands.{Words}
use Rattle.sg_words.specs.Grammar.{srtpgw}
use Rattle.sg_words.specs.Reading.{text_in}

-- of this command line clap says why it refuses words
pub srtpgw_simple : is_simple_and_free srtpgw ≡ true
unfolding clap_on_literals
srtpgw_simple = refl

abbrev line : App
line = built srtpgw

abbrev start : Walk
start = walk_from nothing_held

-- a word that names a command
pub record IsName (name : Text) (s : Shape) : Type 0 where
  pub met : ◌≡◌ {A = Walk} (walked line.top.rules (names_of line) start name) (record start { stopped = Some (name, []) })
  pub passes : turn_fault line.top (names_of line) start name ≡ []
  pub found : find (λ x. answers_to name (label_of x)) line.subs ≡ Some s

-- the walk over the name and the words behind it
walk_is : (name : Text) (s : Shape) (words : Words) → IsName name s
    → ◌≡◌ {A = Walk} (walk line.top.rules (names_of line) nothing_held (name ∷ words)) (record start { stopped = Some (name, words) })
walk_is name s words is =
    ap (λ (w : Walk). fold (walked line.top.rules (names_of line)) w words) is.met ∙ sym (walk_stopped line.top.rules (names_of line) start name [] words)

walk_passes : (name : Text) (s : Shape) (words : Words) → IsName name s → walk_fault line.top (names_of line) start (name ∷ words) ≡ []
unfolding walk_fault
walk_passes name s words is =
    ap₂ or_else is.passes (ap (λ (w : Walk). walk_fault line.top (names_of line) w words) is.met ∙ stopped_fault line.top (names_of line) start (name, []) words)

-- why the line is refused behind this walk, where the walk itself is not
abbrev fault_behind : Walk → Kinds
fault_behind w =
    or_else (entered_fault line w.stopped) (or_else (settle_fault line.top.rules line.top.args_override_self w.held)
    (or_else (defaults_fault (settled line.top.rules w.held).rows line.top.rules)
    (check_fault line.top (finished line.top.rules w.held) (is_some (entered line w.stopped)))))

entered_passes : (name : Text) (s : Shape) (words : Words) → IsName name s → level_fault s [] nothing_held words false [] ≡ []
    → fault_behind (record start { stopped = Some (name, words) }) ≡ []
unfolding clap_on_literals
entered_passes name s words is none =
    ap (λ (o : Option Shape). or_else (option_map_or (λ x. level_fault x [] nothing_held words false []) o [])
    (check_fault line.top (finished line.top.rules nothing_held) (is_some (option_map (λ x. rows_at x words) o)))) is.found
    ∙ ap (λ (k : Kinds). or_else k []) none

fault_is : (name : Text) (s : Shape) (words : Words) → IsName name s → level_fault s [] nothing_held words false [] ≡ [] → fault_of srtpgw (name ∷ words) ≡ []
fault_is name s words is none =
    ap₂ (λ (k : Kinds) (w : Walk). or_else k (fault_behind w)) (walk_passes name s words is) (walk_is name s words is) ∙ entered_passes name s words is none

text_is : (name : Text) (s : Shape) (words : Words) (id : Text) → IsName name s → text_in id (name ∷ words) ≡ first_of id (rows_after s.rules [] words)
text_is name s words id is =
    ap (λ (w : Walk). option_and_then (λ p. first_of id p.1) (entered line w.stopped)) (walk_is name s words is)
    ∙ ap (λ (o : Option Shape). option_and_then (λ p. first_of id p.1) (option_map (λ x. rows_at x words) o)) is.found

-- ---- what is seen in the words behind a name

-- clap takes them, and finds these texts of these arguments
pub record IsSeen (name : Text) (ids : List Text) (found : List (Option Text)) (words : Words) : Type 0 where
  pub taken : fault_of srtpgw (name ∷ words) ≡ []
  pub texts : map (λ id. text_in id (name ∷ words)) ids ≡ found

abbrev pub seen_by : Shape → List Text → List Read → Kinds × List (Option Text)
seen_by s ids rs = (fault_by s rs, map (λ id. first_of id (rows_by s rs)) ids)

texts_are : (name : Text) (s : Shape) (rs : List Read) (ids : List Text) → IsName name s
    → map (λ id. text_in id (name ∷ map word rs)) ids ≡ map (λ id. first_of id (rows_by s rs)) ids
texts_are name s rs [] is = refl
texts_are name s rs (id ∷ ids) is =
    ap₂ (λ (t : Option Text) (ts : List (Option Text)). t ∷ ts) (text_is name s (map word rs) id is ∙ ap (first_of id) (rows_are s rs)) (texts_are name s rs ids is)

pub seen_so : (name : Text) (s : Shape) (ids : List Text) (found : List (Option Text)) (rs : List Read) → IsName name s → seen_by s ids rs ≡ ([], found)
    → IsSeen name ids found (map word rs)
seen_so name s ids found rs is seen = record {
  taken = fault_is name s (map word rs) is (level_is s rs ∙ ap (λ p. p.0) seen);
  texts = texts_are name s rs ids is ∙ ap (λ p. p.1) seen;
}
