-- Lists of events that tell the same and leave the same state.
use Rattle.std.proofs.Common.{◌≡◌, ℕ, List, [], ◌∷◌, ◌++◌, map, refl, sym, ap, ◌∙◌, append-nil}
use Rattle.sg_front.proofs.Quiet.{arrivals_moment, is_quiet, of_run, of_run_after}
use Rattle.sg_trace.proofs.Loops.{alike_behind, then_alike}
use Rattle.sg_playback.proofs.Common.{AreAlike, Arrival, Event, FrontStandsFor, FrontValue, GoInOrder, Signalled, State, Tick, arrived, effects}
use Rattle.sg_playback.proofs.Common.{flat_map-append, outcome_line, state_after, state_after-append, text, text_from, told_from, told_from-append}

pub text_from-append : (state : State) (es fs : List Event) → text_from state (es ++ fs) ≡ text_from state es ++ text_from (state_after state es) fs
text_from-append state es fs = ap text (told_from-append state es fs) ∙ flat_map-append outcome_line (told_from state es) (told_from (state_after state es) fs)

pub events_in_order : GoInOrder effects
events_in_order = record { none_told = λ s. refl; none_after = λ s. refl; told = text_from-append; after = state_after-append }

pub same_alike : (state : State) (es fs : List Event) → es ≡ fs → AreAlike effects state es fs
same_alike state es fs is = record { told = ap (text_from state) is; left = ap (state_after state) is }

-- A tick to the last moment does nothing behind datagrams that wait.
pub quiet_alike : (front : FrontValue) (state : State) (now : ℕ) (ds : List Arrival) → FrontStandsFor front state → front.table.moment ≡ now → AreAlike effects state (map arrived ds ++ Signalled (Tick now) ∷ []) (map arrived ds)
quiet_alike front state now ds stands at =
    let es : List Event = map arrived ds in
    let quiet = is_quiet (state_after state es) now (of_run_after state es (of_run front state stands)) (arrivals_moment state ds ∙ stands.world.holds.moment_is ∙ at) in
    then_alike effects state (es ++ Signalled (Tick now) ∷ []) (es ++ []) es (alike_behind effects events_in_order state es (Signalled (Tick now) ∷ []) [] (record { told = ap text quiet.told; left = quiet.left }))
    (same_alike state (es ++ []) es (append-nil es))
