use Rattle.std.proofs.Common.{◌≡◌, ◌≤◌, List, ℕ, [], length, Result, Ok, Err, IfErr, inl, sym, ◌∙◌, arith, append-nil}
use Rattle.sg_playback.proofs.Common.{Event, IsSettled, State, Status, Write, before_kept, effects}
use Rattle.sg_playback.proofs.Lines.{few_waiting}
use Rattle.sg_playback.proofs.player.Player.settle_at_once.Goals as goal

-- all was told, though it may not be passed on
settled_on : (r : Result (Unit {0}) Status) (u : Unit {0}) (state : State) (waited waits : List Event) (stands_for : State → Type 0) (out : List ℕ) → length waited ≤ 256 → IfErr r (λ status. status ≡ Write)
    → IsSettled (Ok u) effects 258 state waited waits stands_for out → IsSettled r effects 258 state waited waits stands_for out
settled_on (Ok v) u state waited waits stands_for out few only is = is
settled_on (Err status) u state waited waits stands_for out few only is = (inl only, ([], sym is.0 ∙ sym (append-nil out)), omega (arith, few))

pub returns-clause-settled : goal.returns-clause-settled
returns-clause-settled g c = λ state stands.
    let s = c.in-Ok.ensures.settled state stands in
    (s.0, before_kept _ _ _ s.0 c.pass_on.ensures.kept s.1, settled_on c.pass_on.result c.in-Ok.field-0 state _ _ _ s.0 (few_waiting c.args.self.now c.in-Ok.ensures.few) c.pass_on.ensures.only s.2)
