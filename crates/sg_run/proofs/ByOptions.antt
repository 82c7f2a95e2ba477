-- A run goes by its option: what the laws of shared ports say of the next event is so at each place of a run.
use Rattle.std.proofs.Common.{◌≡◌, ℕ, suc, Bool, true, false, List, [], ◌∷◌, ◌++◌, length, map, Option, refl, sym, ap, ◌∙◌, subst, append_assoc}
use Rattle.std.proofs.lemmas.List.Elements.{All-from_recursion}
use Rattle.std.specs.List.{AllByRecursion, flat_map}
use Rattle.sg_base.specs.declared.addresses.Address.{Address}
use Rattle.sg_base.specs.declared.addresses.CallId.{CallId}
use Rattle.sg_gateway.specs.Octets.{Octets}
use Rattle.sg_gateway.specs.Runs.{Turn, turn_of, turns, turns_from}
use Rattle.sg_gateway.specs.Signals.{Signal, Answered}
use Rattle.sg_gateway.specs.Step.{Event, Signalled, Datagram}
use Rattle.sg_gateway.specs.World.{World, empty}
use Rattle.sg_mux.specs.Latest.{Telling, known_after, known_from, tellings_of}
use Rattle.sg_mux.specs.Lined.{IsToldWithLines}
use Rattle.sg_mux.specs.Muxed.{nobody}
use Rattle.sg_mux.specs.Sharing.{IsTakenAt, LeavesBy, SharesAsTold}
use Rattle.sg_mux.specs.Via.{events_from, events_in, events_via, muxing_after, passage_at, passages_from, passages_in, passages_via, stepped, via}
use Rattle.sg_mux.specs.declared.known.Known.{Known}
use Rattle.sg_passages.specs.Passages.{Passage, plain_passages, plainly}
use Rattle.sg_run.specs.ByOption.{AreToldPlainly, GoesByOption, IsAnsweredBy, IsNext, IsTakenBy, IsToldPlainly, tellings_in}

-- ---- without the option

each_plainly : (ts : List Turn) → AllByRecursion IsToldPlainly (map plainly ts)
each_plainly [] = tt
each_plainly (t ∷ ts) = (record { told = refl; leaves = λ port to. refl }, each_plainly ts)

pub told_plainly : (events : List Event) → AreToldPlainly (plain_passages events)
told_plainly events = All-from_recursion IsToldPlainly _ (each_plainly (turns events))

-- ---- with the option: a run up to some event, and from there on

world_behind : World → List (Option Known) → List Event → World
world_behind w calls [] = w
world_behind w calls (e ∷ es) = world_behind (stepped w calls e).world (muxing_after w calls e).calls es

events_more : (w : World) (calls : List (Option Known)) (es rest : List Event)
    → events_from w calls (es ++ rest) ≡ events_from w calls es ++ events_from (world_behind w calls es) (known_from w calls es) rest
unfolding world_behind
events_more w calls [] rest = refl
events_more w calls (e ∷ es) rest = ap (λ (l : List Event). via calls e ∷ l) (events_more (stepped w calls e).world (muxing_after w calls e).calls es rest)

passages_more : (w : World) (calls : List (Option Known)) (es rest : List Event)
    → passages_from w calls (es ++ rest) ≡ passages_from w calls es ++ passages_from (world_behind w calls es) (known_from w calls es) rest
unfolding world_behind
passages_more w calls [] rest = refl
passages_more w calls (e ∷ es) rest = ap (λ (l : List Passage). passage_at w calls e ∷ l) (passages_more (stepped w calls e).world (muxing_after w calls e).calls es rest)

events_count : (w : World) (calls : List (Option Known)) (es : List Event) → length (events_from w calls es) ≡ length es
events_count w calls [] = refl
events_count w calls (e ∷ es) = ap (λ (n : ℕ). suc n) (events_count (stepped w calls e).world (muxing_after w calls e).calls es)

passages_count : (w : World) (calls : List (Option Known)) (es : List Event) → length (passages_from w calls es) ≡ length es
passages_count w calls [] = refl
passages_count w calls (e ∷ es) = ap (λ (n : ℕ). suc n) (passages_count (stepped w calls e).world (muxing_after w calls e).calls es)

told_again : (w : World) (calls : List (Option Known)) (es : List Event) → flat_map tellings_of (turns_from w (events_from w calls es)) ≡ tellings_in (passages_from w calls es)
told_again w calls [] = refl
told_again w calls (e ∷ es) = ap (λ (l : List Telling). tellings_of (turn_of w (via calls e)) ++ l) (told_again (stepped w calls e).world (muxing_after w calls e).calls es)

-- ---- the next event of a run

module _ (before after : List Event) (e event : Event) (passage : Passage) (comes : events_via (before ++ e ∷ []) ≡ events_via before ++ event ∷ [])
    (passes : passages_via (before ++ e ∷ []) ≡ passages_via before ++ passage ∷ []) where
  abbrev later_events : List Event
  later_events = events_from (world_behind empty nobody (before ++ e ∷ [])) (known_from empty nobody (before ++ e ∷ [])) after

  abbrev later_passages : List Passage
  later_passages = passages_from (world_behind empty nobody (before ++ e ∷ [])) (known_from empty nobody (before ++ e ∷ [])) after

  next : (came : List Event) → came ≡ before ++ e ∷ after → IsNext before (events_via came) (passages_via came) event passage
  next came is =
      let split : came ≡ (before ++ e ∷ []) ++ after = is ∙ sym (append_assoc before (e ∷ []) after) in record {
        events_before = events_via before;
        events_after = later_events;
        passages_before = passages_via before;
        passages_after = later_passages;
        events_are = ap events_via split ∙ events_more empty nobody (before ++ e ∷ []) after ∙ ap (λ (l : List Event). l ++ later_events) comes
            ∙ append_assoc (events_via before) (event ∷ []) later_events;
        passages_are = ap passages_via split ∙ passages_more empty nobody (before ++ e ∷ []) after ∙ ap (λ (l : List Passage). l ++ later_passages) passes
            ∙ append_assoc (passages_via before) (passage ∷ []) later_passages;
        events_count = events_count empty nobody before;
        passages_count = passages_count empty nobody before;
        told = told_again empty nobody before;
      }

-- a signal comes as it is
signal_comes : (before : List Event) (signal : Signal) → events_via (before ++ Signalled signal ∷ []) ≡ events_via before ++ Signalled signal ∷ []
signal_comes before signal = events_more empty nobody before (Signalled signal ∷ [])

signal_next : (came before after : List Event) (signal : Signal) → came ≡ before ++ Signalled signal ∷ after
    → (passage : Passage) × IsNext before (events_via came) (passages_via came) (Signalled signal) passage
signal_next came before after signal is = (
  passage_at (world_behind empty nobody before) (known_after before) (Signalled signal),
  next before after (Signalled signal) (Signalled signal) (passage_at (world_behind empty nobody before) (known_after before) (Signalled signal)) (signal_comes before signal)
      (passages_more empty nobody before (Signalled signal ∷ [])) came is,
)

module _ (shares : (before : List Event) (port : ℕ) (from : Address) (octets : Octets) → SharesAsTold before port from octets)
    (texts : (before : List Event) (id : CallId) (noise answer : List ℕ) → IsToldWithLines before id noise answer) where
  taken_by : (came before after : List Event) (port : ℕ) (from : Address) (octets : Octets) → came ≡ before ++ Datagram port from octets ∷ after
      → IsTakenBy before (events_via came) (passages_via came) port from octets
  taken_by came before after port from octets is =
      let law = shares before port from octets in
      let place = next before after (Datagram port from octets) (Datagram law.at from octets) law.passage law.comes law.passes came is in record {
        at = law.at;
        passage = law.passage;
        next = place;
        taken = subst (λ told. IsTakenAt told port octets.items law.at) place.told law.taken;
        leaves = λ by to. subst (λ told. LeavesBy told by to (law.passage.leaves by to)) place.told (law.leaves by to);
        drops = law.drops;
      }

  answered_by : (came before after : List Event) (id : CallId) (noise answer : List ℕ) → came ≡ before ++ Signalled (Answered id noise answer) ∷ after
      → IsAnsweredBy before (events_via came) (passages_via came) id noise answer
  answered_by came before after id noise answer is =
      let law = texts before id noise answer in
      let e : Event = Signalled (Answered id noise answer) in record {
        passage = law.passage;
        next = next before after e e law.passage (signal_comes before (Answered id noise answer)) law.passes came is;
        tells = law.tells;
      }

  pub by_option : (muxes : Bool) (came : List Event) → GoesByOption muxes came (events_in muxes came) (passages_in muxes came)
  by_option false came = (refl, told_plainly came)
  by_option true came = record {
    datagrams = taken_by came;
    answers = answered_by came;
    signals = signal_next came;
  }
