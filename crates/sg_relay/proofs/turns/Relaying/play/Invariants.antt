use Rattle.std.proofs.Common.{◌≡◌, ◌≤◌, ◌+◌, ◌-◌, ◌^◌, List}
use Rattle.sg_relay.proofs.Common.{Passed, last_moment, weaves_of}
use Rattle.sg_relay.proofs.Relays.{IsRelaying}
use Rattle.sg_relay.proofs.turns.Relaying.play.Given as goal

abbrev pub invariant-lines : goal.invariant-lines
invariant-lines g l =
    ((state : g.E.Handling.State) → g.E.Handling.stands l.fn.self.exchange state → (p : Passed) × (ds : List g.E.Handling.Deed)
    × IsRelaying (weaves_of g.E.Line.ScriptLine.spelled g.E.Line.ScriptLine.followed g.E.Handling.waits g.E.Handling.gives g.E.Handling.ticks g.E.Handling.arrives) g.E.Handling.acting state
    (record { left = g.S.Source.left l.fn.source; written = g.K.Sink.written l.fn.sink; calls = g.L.Link.told l.fn.link; readings = g.C.Clock.given l.fn.clock; draws = g.N.Noise.given l.fn.noise })
    (record { left = g.S.Source.left l.source; written = g.K.Sink.written l.sink; calls = g.L.Link.told l.link; readings = g.C.Clock.given l.clock; draws = g.N.Noise.given l.noise })
    l.fn.self.left l.self.began p l.script ds l.self.top l.self.left
    × g.E.Handling.stands l.self.exchange (g.E.Handling.acting.after state ds))
    × (l.self.began ≤ last_moment) × ((g.S.Source.left l.source).count + l.script.budget ≤ (g.S.Source.left l.fn.source).count + (2 ^ 30 + 1))
    × (g.S.Source.faults l.source ≡ g.S.Source.faults l.fn.source) × (g.K.Sink.faults l.sink ≡ g.K.Sink.faults l.fn.sink)
    × (g.L.Link.faults l.link ≡ g.L.Link.faults l.fn.link) × (g.C.Clock.faults l.clock ≡ g.C.Clock.faults l.fn.clock) × (g.N.Noise.faults l.noise ≡ g.N.Noise.faults l.fn.noise)
    × ((g.C.Clock.given l.clock).count + l.self.left ≤ (g.C.Clock.given l.fn.clock).count + (l.fn.self.left + 1))

abbrev pub decreases-lines : goal.decreases-lines
decreases-lines g l = 2 ^ 30 - l.script.offset
