-- A table at the start of a run, and after a signal as an event of it.
use Rattle.std.proofs.Common.{◌≡◌, false, cond, List, [], ◌∷◌, ◌++◌, refl, sym, ap, ◌∙◌, subst}
use Rattle.std.proofs.lemmas.List.{append-nil}
use Rattle.sg_call.specs.Standing.{CallStandsFor}
use Rattle.sg_call.specs.Values.{CallValue}
use Rattle.sg_gateway.specs.Events.{events_of_signal, signal_lacks_noise, signal_of}
use Rattle.sg_gateway.specs.Runs.{world_after}
use Rattle.sg_gateway.specs.Signals.{answer_to}
use Rattle.sg_gateway.specs.Step.{Event, Signalled, step}
use Rattle.sg_gateway.specs.World.{World, empty}
use Rattle.sg_leg.specs.Pairs.{EachPair}
use Rattle.sg_leg.specs.declared.books.Books.{Books}
use Rattle.sg_lines.specs.declared.lines.Signal.{Signal}
use Rattle.sg_outcome.specs.declared.outcomes.Outcome.{Outcome}
use Rattle.sg_table.specs.Standing.{Holds, TableStandsFor}
use Rattle.sg_table.specs.Telling.{IsAnswered, IsTold}
use Rattle.sg_table.specs.Values.{TableValue, AreQuiet}

-- a table without calls and with empty books
pub empty_stands : (calls : List CallValue) (books : Books) → calls ≡ [] → books.psks ≡ [] → books.seen ≡ [] → books.ring ≡ [] → TableStandsFor (record { calls = calls; books = books; moment = 0 }) empty
empty_stands calls books none psks seen ring = record {
  history = [];
  is_after = refl;
  holds = record {
    calls = subst (λ l. EachPair (CallStandsFor []) l []) (sym none) tt;
    books = record { pairs = psks; noted = seen; ring = sym ring };
    moment_is = refl;
    quiet = subst AreQuiet (sym none) tt;
  };
}

pub after_append : (w : World) (prefix later : List Event) → world_after w (prefix ++ later) ≡ world_after (world_after w prefix) later
after_append w [] later = refl
after_append w (e ∷ prefix) later = after_append (step w e).world prefix later

-- the world after events is of a run where the world before is
pub run_goes_on : (old new : TableValue) (w : World) (events : List Event) → TableStandsFor old w → Holds new (world_after w events) → TableStandsFor new (world_after w events)
run_goes_on old new w events stands holds = record {
  history = stands.history ++ events;
  is_after = ap (λ v. world_after v events) stands.is_after ∙ sym (after_append empty stands.history events);
  holds = holds;
}

pub told_of_signal : (old new : TableValue) (w : World) (signal : Signal) (outs : List Outcome) → signal_lacks_noise signal ≡ false → TableStandsFor old w
    → IsAnswered outs new (answer_to w (signal_of signal)) → IsTold outs new w (events_of_signal signal)
told_of_signal old new w signal outs has stands answered =
    let es : List Event = Signalled (signal_of signal) ∷ [] in
    let is : events_of_signal signal ≡ es = ap (λ b. cond b [] es) has in
    subst (IsTold outs new w) (sym is) (answered.tells ∙ sym (append-nil (answer_to w (signal_of signal)).outcomes), run_goes_on old new w es stands answered.holds)
