-- The auditor's page, that sessions stay open: one that is open is so when the next thing comes, unless a tick, an answer or a bye
-- came.
use Rattle.std.specs.Prelude.{◌≡◌, List, [], ◌∷◌}
use Rattle.std.specs.List.{AllByRecursion, Any}
use Rattle.sg_conduct.specs.Staying.{TakesSessions}
use Rattle.sg_gateway.specs.Signals.{Signal}
use Rattle.sg_gateway.specs.Step.{Signalled}
use Rattle.sg_audit.specs.Seen.{Seen}

abbrev pub StaysOpen : Seen → Seen → Type 0
StaysOpen x y =
    ((signal : Signal) → x.came ≡ Signalled signal → ¬ TakesSessions signal) → AllByRecursion (λ o. Any (λ p. p ≡ o) y.sessions) x.sessions

abbrev pub OpenSessionsStay : List Seen → Type 0
OpenSessionsStay [] = Unit {0}
OpenSessionsStay (x ∷ []) = Unit {0}
OpenSessionsStay (x ∷ (y ∷ seen)) = StaysOpen x y × OpenSessionsStay (y ∷ seen)
