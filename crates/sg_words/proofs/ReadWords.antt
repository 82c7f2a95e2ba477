-- The words of a command, each read as clap reads it. How a number or another value is read rests on no test of its octets,
-- so that what clap finds is computed for all of them at once.
use Rattle.std.proofs.Common.{◌≡◌, ◌∙◌, ◌<◌, ℕ, Bool, List, [], ◌∷◌, ◌++◌, map, fold, cond, refl, ap, ap₂, true, false, Option, Some, None, arith, length}
use Rattle.std.specs.Prelude.{is_some}
use Rattle.std.specs.Str.{bytes_eq}
use Rattle.clap.specs.Words.{Kinds, Row, Rule, Shape, Text}
use Rattle.clap.specs.Kinds.{or_else}
use Rattle.clap.specs.Lexer.{long_of, short_of}
use Rattle.clap.specs.Faults.{check_fault, defaults_fault, level_fault, settle_fault, step_fault, turn_fault, walk_fault, word_fault}
use Rattle.clap.specs.Walk.{Held, Step, Waiting, Walk, after_step, finished, idle, nothing_held, option, plain_word, positional, rows_after, settled, value, walk_from, walked, walked_from, word_met}
use Rattle.sg_base.specs.Fields.{Lacks}

-- a word that is no option and not the lone `--`
pub record IsValue (w : Text) : Type 0 where
  pub end : bytes_eq w (45 ∷ 45 ∷ []) ≡ false
  pub long : long_of w ≡ None
  pub short : short_of w ≡ None

-- a word that doesn't begin with a hyphen
pub value_of : (w : Text) → 0 < length w → Lacks 45 w → IsValue w
value_of [] some lacks = absurd (omega (arith, some))
value_of (d ∷ ds) some lacks = record {
  end = rw (lacks.0) refl;
  long = rw (lacks.0) refl;
  short = rw (lacks.0) refl;
}

-- a value, or a word whose first octets are known
pub data Read : Type 0 where
  plain : (v : Text) → IsValue v → Read
  marked : Text → Read

abbrev pub word : Read → Text
word (plain v is) = v
word (marked w) = w

-- what a value is, before it goes to a positional
abbrev plain_met : List Rule → Walk → Text → Held × Step
plain_met c w v = cond w.is_trailing (w.held, value) (plain_word c w.waiting v w.held)

abbrev plain_walked : List Rule → Option (Text × List Text) → Walk → Text → Walk
plain_walked c (Some p) w v = record w { stopped = Some (p.0, p.1 ++ v ∷ []) }
plain_walked c None w v = after_step c v w (plain_met c w v).0 (plain_met c w v).1

abbrev read_walked : Shape → Walk → Read → Walk
read_walked s w (plain v is) = plain_walked s.rules w.stopped w v
read_walked s w (marked x) = walked s.rules [] w x

abbrev read_fault : Shape → Walk → Read → Kinds
read_fault s w (plain v is) = cond (is_some w.stopped) [] (step_fault s w.position (plain_met s.rules w v).0 (plain_met s.rules w v).1)
read_fault s w (marked x) = turn_fault s [] w x

abbrev reads_fault : Shape → Walk → List Read → Kinds
reads_fault s w [] = []
reads_fault s w (r ∷ rs) = or_else (read_fault s w r) (reads_fault s (read_walked s w r) rs)

-- what is held behind these words, the rows of what was found in them, and why they are refused
abbrev held_by : Shape → List Read → Held
held_by s rs = (fold (read_walked s) (walk_from nothing_held) rs).held

abbrev pub rows_by : Shape → List Read → List Row
rows_by s rs = finished s.rules (held_by s rs)

abbrev pub fault_by : Shape → List Read → Kinds
fault_by s rs =
    or_else (reads_fault s (walk_from nothing_held) rs) (or_else (settle_fault s.rules s.args_override_self (held_by s rs))
    (or_else (defaults_fault (settled s.rules (held_by s rs)).rows s.rules) (check_fault s (rows_by s rs) false)))

-- ---- clap reads them so

met_is : (c : List Rule) (b : Bool) (waiting : Waiting) (position : ℕ) (v : Text) (h : Held) → IsValue v
    → word_met c [] b waiting position v h ≡ cond b (h, value) (plain_word c waiting v h)
met_is c true waiting position v h is = refl
met_is c false idle position v h is = rw (is.end, is.long, is.short) refl
met_is c false (option id) position v h is = rw (is.end, is.long, is.short) refl
met_is c false positional position v h is = rw (is.end, is.long, is.short) refl

passes : (s : Shape) (b : Bool) (waiting : Waiting) (v : Text) (h : Held) → IsValue v → word_fault s [] b waiting v h ≡ []
passes s true waiting v h is = refl
passes s false idle v h is = rw (is.end, is.long, is.short) refl
passes s false (option id) v h is = rw (is.end, is.long, is.short) refl
passes s false positional v h is = rw (is.end, is.long, is.short) refl

plain_is : (c : List Rule) (o : Option (Text × List Text)) (w : Walk) (v : Text) → IsValue v → walked_from c [] o w v ≡ plain_walked c o w v
plain_is c (Some p) w v is = refl
plain_is c None w v is = ap (λ (p : Held × Step). after_step c v w p.0 p.1) (met_is c w.is_trailing w.waiting w.position v w.held is)

walked_is : (s : Shape) (w : Walk) (r : Read) → walked s.rules [] w (word r) ≡ read_walked s w r
unfolding walked
walked_is s w (plain v is) = plain_is s.rules w.stopped w v is
walked_is s w (marked x) = refl

turn_is : (s : Shape) (w : Walk) (r : Read) → turn_fault s [] w (word r) ≡ read_fault s w r
turn_is s w (plain v is) =
    ap₂ (λ (k : Kinds) (p : Held × Step). cond (is_some w.stopped) [] (or_else k (step_fault s w.position p.0 p.1)))
    (passes s w.is_trailing w.waiting v w.held is) (met_is s.rules w.is_trailing w.waiting w.position v w.held is)
turn_is s w (marked x) = refl

walk_is : (s : Shape) (w : Walk) (rs : List Read) → fold (walked s.rules []) w (map word rs) ≡ fold (read_walked s) w rs
walk_is s w [] = refl
walk_is s w (r ∷ rs) = ap (λ (x : Walk). fold (walked s.rules []) x (map word rs)) (walked_is s w r) ∙ walk_is s (read_walked s w r) rs

faults_are : (s : Shape) (w : Walk) (rs : List Read) → walk_fault s [] w (map word rs) ≡ reads_fault s w rs
unfolding walk_fault
faults_are s w [] = refl
faults_are s w (r ∷ rs) =
    ap₂ or_else (turn_is s w r) (ap (λ (x : Walk). walk_fault s [] x (map word rs)) (walked_is s w r) ∙ faults_are s (read_walked s w r) rs)

pub rows_are : (s : Shape) (rs : List Read) → rows_after s.rules [] (map word rs) ≡ rows_by s rs
rows_are s rs = ap (λ (w : Walk). finished s.rules w.held) (walk_is s (walk_from nothing_held) rs)

pub level_is : (s : Shape) (rs : List Read) → level_fault s [] nothing_held (map word rs) false [] ≡ fault_by s rs
level_is s rs =
    ap₂ (λ (k : Kinds) (w : Walk). or_else k (or_else (settle_fault s.rules s.args_override_self w.held)
    (or_else (defaults_fault (settled s.rules w.held).rows s.rules) (check_fault s (finished s.rules w.held) false))))
    (faults_are s (walk_from nothing_held) rs) (walk_is s (walk_from nothing_held) rs)
