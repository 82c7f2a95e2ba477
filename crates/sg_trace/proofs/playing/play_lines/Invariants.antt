use Rattle.std.proofs.Common.{◌≡◌, ◌≤◌, ◌+◌, ◌-◌, ◌^◌, length, List, ℕ}
use Rattle.sg_trace.proofs.Loops.{IsPlaying}
use Rattle.sg_trace.specs.Loop.{ways_of}
use Rattle.sg_trace.proofs.playing.play_lines.Given as goal

abbrev pub invariant-lines : goal.invariant-lines
invariant-lines g l =
    ((begun : g.P.Play.State) → g.P.Play.stands l.fn.player begun → (taken drawn : List ℕ) × (es : List g.P.Play.Deed)
    × IsPlaying (ways_of g.P.Line.ScriptLine.spelled g.P.Line.ScriptLine.followed g.P.Line.ScriptLine.last g.P.Play.gives) g.P.Play.effects begun
    (record { left = g.S.Source.left l.fn.source; written = g.K.Sink.written l.fn.sink; drawn = g.N.Noise.given l.fn.noise })
    (record { left = g.S.Source.left l.source; written = g.K.Sink.written l.sink; drawn = g.N.Noise.given l.noise })
    taken l.script.waits drawn es (g.P.Play.waits l.player) l.script.version l.script.number l.script.offset
    × (length taken ≡ l.script.offset) × g.P.Play.stands l.player (g.P.Play.effects.after begun es))
    × (l.script.offset + length l.script.waits + l.script.budget ≡ 2 ^ 30 + 1) × (l.script.offset ≤ 2 ^ 30) × (length l.script.waits ≤ 4096)
    × (g.S.Source.faults l.source ≡ g.S.Source.faults l.fn.source) × (g.K.Sink.faults l.sink ≡ g.K.Sink.faults l.fn.sink) × (g.N.Noise.faults l.noise ≡ g.N.Noise.faults l.fn.noise)
    × ((g.S.Source.left l.source).count + l.script.budget ≤ (g.S.Source.left l.fn.source).count + (2 ^ 30 + 1)) × (length (g.P.Play.waits l.player) ≤ g.P.Play.batch)

abbrev pub decreases-lines : goal.decreases-lines
decreases-lines g l = 2 ^ 30 - l.script.offset
