-- What is told of a signal, outcome by outcome.
use Rattle.std.proofs.Common.{◌≡◌, ◌<◌, ◌+◌, ℕ, Bool, false, cond, List, [], ◌∷◌, ◌++◌, length, take, drop, get_or, refl, sym, ap, ◌∙◌, subst, append_assoc}
use Rattle.std.proofs.lemmas.List.{append-nil, take-append-drop, take_more}
use Rattle.sg_gateway.specs.Events.{events_of_signal, outcomes_from, signal_lacks_noise, signal_of}
use Rattle.sg_gateway.specs.Runs.{world_after}
use Rattle.sg_gateway.specs.Step.{Event, Signalled, step}
use Rattle.sg_lines.specs.declared.lines.Signal.{Signal}
use Rattle.sg_outcome.specs.declared.outcomes.Outcome.{Outcome}
use Rattle.sg_pairs.specs.Bridged.{Following, Happens, bridging, told_and_parted}
use Rattle.sg_pairs.specs.Pairs.{Members, after_outcome}
use Rattle.sg_pairs.specs.declared.outcomes.BridgeOutcome.{BridgeOutcome}
use Rattle.sg_switchboard.specs.Switching.{StandsFor, State, SwitchboardValue, after, told_next}
use Rattle.sg_table.specs.Standing.{TableStandsFor}
use Rattle.sg_table.specs.Telling.{IsTold}

-- ---- outcomes behind others

calls_behind : (calls : Members) (xs ys : List Outcome) → (told_and_parted calls (xs ++ ys)).calls ≡ (told_and_parted (told_and_parted calls xs).calls ys).calls
calls_behind calls [] ys = refl
calls_behind calls (o ∷ os) ys = calls_behind (after_outcome calls o).calls os ys

told_behind : (calls : Members) (xs ys : List Outcome) → (told_and_parted calls (xs ++ ys)).told ≡ (told_and_parted calls xs).told ++ (told_and_parted (told_and_parted calls xs).calls ys).told
told_behind calls [] ys = refl
told_behind calls (o ∷ os) ys =
    ap (λ (l : List BridgeOutcome). told_next calls o ++ l) (told_behind (after_outcome calls o).calls os ys)
    ∙ sym (append_assoc (told_next calls o) (told_and_parted (after_outcome calls o).calls os).told (told_and_parted (told_and_parted (after_outcome calls o).calls os).calls ys).told)

module _ (calls : Members) (os : List Outcome) (i : ℕ) (o : Outcome) (within : i < length os) (is : o ≡ get_or os i o) where
  abbrev pub before : Following
  before = told_and_parted calls (take i os)

  split : take (i + 1) os ≡ take i os ++ o ∷ []
  split = take_more os i o within ∙ ap (λ (x : Outcome). take i os ++ x ∷ []) (sym is)

  whole : os ≡ take i os ++ (o ∷ drop (i + 1) os)
  whole = sym (take-append-drop (i + 1) os) ∙ ap (λ (l : List Outcome). l ++ drop (i + 1) os) split ∙ append_assoc (take i os) (o ∷ []) (drop (i + 1) os)

  -- the outcomes up to this one
  pub more_told : (told_and_parted calls (take (i + 1) os)).told ≡ before.told ++ told_next before.calls o
  more_told = ap (λ (l : List Outcome). (told_and_parted calls l).told) split ∙ told_behind calls (take i os) (o ∷ [])
      ∙ ap (λ (l : List BridgeOutcome). before.told ++ l) (append-nil (told_next before.calls o))

  pub more_calls : (told_and_parted calls (take (i + 1) os)).calls ≡ (after_outcome before.calls o).calls
  more_calls = ap (λ (l : List Outcome). (told_and_parted calls l).calls) split ∙ calls_behind calls (take i os) (o ∷ [])

  -- what is told of them all begins so
  pub all_told : (rest : List BridgeOutcome) × ((told_and_parted calls os).told ≡ before.told ++ (told_next before.calls o ++ rest))
  all_told = (
    (told_and_parted (after_outcome before.calls o).calls (drop (i + 1) os)).told,
    ap (λ (l : List Outcome). (told_and_parted calls l).told) whole ∙ told_behind calls (take i os) (o ∷ drop (i + 1) os),
  )

-- ---- a signal

-- A signal has its noise, and the table has told its outcomes. Once they are noted, that is all that the signal tells.
pub signal_noted : (s : State) (signal : Signal) (told : List Outcome) (board : SwitchboardValue) → signal_lacks_noise signal ≡ false → board.calls ≡ s.calls → IsTold told board.table s.world (events_of_signal signal)
    → ((bridging s.world s.calls (Happens (Signalled (signal_of signal)))).told ≡ (told_and_parted board.calls told).told)
    × StandsFor (record board { calls = (told_and_parted board.calls told).calls }) (after (bridging s.world s.calls (Happens (Signalled (signal_of signal)))))
signal_noted s signal told board ready same is =
    let e : Event = Signalled (signal_of signal) in
    let events : events_of_signal signal ≡ e ∷ [] = ap (λ (b : Bool). cond b [] (e ∷ [])) ready in
    let outcomes : told ≡ (step s.world e).outcomes = is.0 ∙ ap (outcomes_from s.world) events ∙ append-nil (step s.world e).outcomes in
    let following : told_and_parted board.calls told ≡ told_and_parted s.calls (step s.world e).outcomes = λ i. told_and_parted (same i) (outcomes i) in (
      sym (ap (λ (f : Following). f.told) following),
      (
        subst (λ (es : List Event). TableStandsFor board.table (world_after s.world es)) events is.1,
        ap (λ (f : Following). f.calls) following,
      ),
    )
