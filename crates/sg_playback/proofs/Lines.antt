-- What playing a line leaves, as the loop has it.
use Rattle.std.proofs.Common.{◌≡◌, ◌≤◌, ℕ, Bool, true, false, if◌then◌else◌, List, [], ◌∷◌, ◌++◌, length, Option, None, Some, Result, Ok, Err, refl, ap, subst, length-append, arith, OnOk}
use Rattle.sg_lines.specs.declared.lines.Line.TheVariants as lines
use Rattle.sg_playback.specs.Scripts.{gives_of}
use Rattle.sg_trace.specs.Reading.{Reading}
use Rattle.sg_playback.proofs.Common.{Event, FrontStandsFor, Given, IsBehindLast, IsPlayed, IsSettled, IsTaken, Line, NoMemory, Noise, Playing, State, Status}
use Rattle.sg_playback.proofs.Common.{Supplied, Tellings, Ways, Write, append-nil, arrived, deeds_of, effects, events_of, given_by, gives, length-map}
use Rattle.sg_playback.proofs.Common.{signal_lacks_noise, state_after, supplied, text_from, waiting}

-- a line has at most two events
two_of : (l : Line) → length (events_of l) ≤ 2
two_of lines.Header = omega arith
two_of lines.HeaderTwo = omega arith
two_of (lines.Datagram port from octets) = omega arith
two_of (lines.DatagramAt now port from octets) = omega arith
two_of (lines.Signal signal) = by_test (signal_lacks_noise signal) _
  where
    by_test : (lacks : Bool) (e : Event) → length (if lacks then [] else (e ∷ [])) ≤ 2
    by_test true e = omega arith
    by_test false e = omega arith

two_given : (s : Option Supplied) → length (deeds_of (given_by s)) ≤ 2
two_given None = omega arith
two_given (Some s) = two_of s.line

-- so few deeds are under way, where a line comes behind a batch
pub few_with : (l : Line) (waited : List Event) (draws : List ℕ) → length waited ≤ 256 → length (waited ++ deeds_of (gives l draws)) ≤ 258
few_with l waited draws few = omega (arith, few, two_given (supplied draws l), length-append waited (deeds_of (gives l draws)))

pub few_waiting : (p : Playing) → length p.waits ≤ 256 → length (waiting p) ≤ 256
few_waiting p few = omega (arith, few, length-map p.waits arrived)

-- what playing a line leaves, whatever stands for the state behind it
err_by : (status : Status) (gives : List ℕ → Option (Given Event)) (s : State) (waited waits : List Event) (stands stands' : State → Type 0) (draws out : List ℕ)
    → IsPlayed (Err status) effects gives 258 s waited waits stands draws out → IsPlayed (Err status) effects gives 258 s waited waits stands' draws out
err_by Noise gives s waited waits stands stands' draws out is = is
err_by Write gives s waited waits stands stands' draws out is = is
err_by NoMemory gives s waited waits stands stands' draws out is = is
err_by other gives s waited waits stands stands' draws out is = absurd is

pub line_by : (o : Option Line) (l : Line) (s : State) (waited : List Event) (draws out : List ℕ) (r : Result (Unit {0}) Status) (waits : List Event) (stands stands' : State → Type 0)
    → Some l ≡ o → (OnOk r ((t : State) → stands t → stands' t)) → IsPlayed r effects (gives l) 258 s waited waits stands draws out → IsPlayed r effects (gives_of o) 258 s waited waits stands' draws out
line_by o l s waited draws out (Ok u) waits stands stands' is goes taken =
    subst (λ (x : Option Line). IsTaken effects (gives_of x) s waited waits stands' draws out) is
    (record { fresh = taken.fresh; told = taken.told; goes = taken.goes; alike = taken.alike; written = taken.written; left = goes _ taken.left })
line_by o l s waited draws out (Err status) waits stands stands' is goes played =
    subst (λ (x : Option Line). IsPlayed (Err status) effects (gives_of x) 258 s waited waits stands' draws out) is (err_by status (gives l) s waited waits stands stands' draws out played)

-- of the last line nothing is played
pub none_by : (o : Option Line) (s : State) (waited : List Event) (stands : State → Type 0) → None ≡ o → stands s → IsTaken effects (gives_of o) s waited waited stands [] []
none_by o s waited stands is left = subst (λ (x : Option Line). IsTaken effects (gives_of x) s waited waited stands [] []) is (record {
  fresh = [];
  told = [];
  goes = λ more. refl;
  alike = record { told = ap (text_from s) (append-nil waited); left = ap (state_after s) (append-nil waited) };
  written = refl;
  left = left;
})

pub settled_by : (r : Result (Unit {0}) Status) (s : State) (waited waits : List Event) (stands stands' : State → Type 0) (out : List ℕ)
    → OnOk r ((t : State) → stands t → stands' t) → IsSettled r effects 258 s waited waits stands out → IsSettled r effects 258 s waited waits stands' out
settled_by (Ok u) s waited waits stands stands' out goes is = (is.0, is.1, goes _ is.2)
settled_by (Err status) s waited waits stands stands' out goes is = is

-- what follows from what is so behind a success
pub on_ok : (r : Result (Unit {0}) Status) (P Q : Type 0) → OnOk r P → (P → Q) → OnOk r Q
on_ok (Ok u) P Q is goes = goes is
on_ok (Err status) P Q is goes = tt

-- behind settling nothing waits
pub few_behind : (r : Result (Unit {0}) Status) (s : State) (waited : List Event) (p : Playing) (stands : State → Type 0) (out : List ℕ) → IsSettled r effects 258 s waited (waiting p) stands out → OnOk r (length p.waits ≤ 256)
few_behind (Ok u) s waited p stands out is = omega (arith, ap length is.1, length-map p.waits arrived)
few_behind (Err status) s waited p stands out is = tt

-- behind the last line the player stands for the state
pub player_behind : {L : Type 0} (w : Ways L Event) (begun : State) (old new : Tellings) (script : Reading) (player : Playing) (stands : State → Type 0) (octets draws out : List ℕ)
    → ((s : State) → stands s → FrontStandsFor player.front s) → IsBehindLast w effects begun old new script stands octets draws out → IsBehindLast w effects begun old new script (FrontStandsFor player.front) octets draws out
player_behind w begun old new script player stands octets draws out goes is = record {
  lines = is.lines;
  last = is.last;
  is_last = is.is_last;
  deeds = is.deeds;
  split = is.split;
  size = is.size;
  within = is.within;
  near = is.near;
  room = is.room;
  took = is.took;
  drew = is.drew;
  wrote = is.wrote;
  goes = is.goes;
  told = is.told;
  stands = goes (state_after begun is.deeds) is.stands;
}

pub err_so : {T : Type 0} (a b : Status) → (let r : Result T Status = Err a in r ≡ Err b) → a ≡ b
err_so a b is = cc
