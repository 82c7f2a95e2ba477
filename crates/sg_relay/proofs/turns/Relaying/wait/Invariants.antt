use Rattle.std.proofs.Common.{◌≡◌, ◌≤◌, ◌+◌, List, ℕ, length}
use Rattle.sg_relay.proofs.Common.{Added, AreGood, Called, IsDone, IsWaitInOrder, LinkCall, Wrote, receipts_in, weaves_of}
use Rattle.sg_relay.proofs.Waits.{GoesOn}
use Rattle.sg_relay.proofs.turns.Relaying.wait.Given as goal

abbrev pub invariant-turns : goal.invariant-turns
invariant-turns g l =
    ((state : g.E.Handling.State) → g.E.Handling.stands l.fn.self.exchange state
    → (readings : List ℕ) × (calls : List LinkCall) × (out : List ℕ) × (ds : List g.E.Handling.Deed)
    × Added (g.C.Clock.given l.fn.clock) (g.C.Clock.given l.clock) readings × Called (g.L.Link.told l.fn.link) (g.L.Link.told l.link) calls × Wrote (g.K.Sink.written l.fn.sink) (g.K.Sink.written l.sink) out
    × GoesOn (weaves_of g.E.Line.ScriptLine.spelled g.E.Line.ScriptLine.followed g.E.Handling.waits g.E.Handling.gives g.E.Handling.ticks g.E.Handling.arrives) l.until l.fn.self.top readings (receipts_in calls) ds l.self.top
    × IsDone (g.E.Handling.acting.acts state ds) calls out × AreGood calls × g.E.Handling.stands l.self.exchange (g.E.Handling.acting.after state ds)
    × (length readings ≡ length (receipts_in calls)) × (length readings + l.self.left ≡ l.fn.self.left)
    × IsWaitInOrder (weaves_of g.E.Line.ScriptLine.spelled g.E.Line.ScriptLine.followed g.E.Handling.waits g.E.Handling.gives g.E.Handling.ticks g.E.Handling.arrives) g.E.Handling.acting l.until state l.fn.self.top readings calls)
    × (g.K.Sink.faults l.sink ≡ g.K.Sink.faults l.fn.sink) × (g.L.Link.faults l.link ≡ g.L.Link.faults l.fn.link) × (g.C.Clock.faults l.clock ≡ g.C.Clock.faults l.fn.clock)
    × (l.self.began ≡ l.fn.self.began) × ((g.C.Clock.given l.clock).count + l.self.left ≤ (g.C.Clock.given l.fn.clock).count + l.fn.self.left)

abbrev pub decreases-turns : goal.decreases-turns
decreases-turns g l = l.self.left
