use Rattle.std.proofs.Common.{◌≡◌, ◌≤◌, ◌+◌, ◌-◌, ◌++◌, length, List, ℕ}
use Rattle.sg_capture.proofs.Common.{Occurrence, StandsFor, TookIn, World, Wrote, captured_events, output_of, records_in, waiting, world_after}
use Rattle.sg_capture.proofs.Readings.{IsReadingOn}
use Rattle.sg_capture.proofs.records.play_records.Given as goal

abbrev pub invariant-records : goal.invariant-records
invariant-records g l =
    ((consumed got : List ℕ) × TookIn (g.S.Source.left l.fn.source) (g.S.Source.left l.source) got × (l.fn.reader.waits ++ got ≡ consumed ++ l.reader.waits) × (length got + l.reader.budget ≡ l.fn.reader.budget)
    × ((w : World) → StandsFor l.fn.player.front w → (told : List Occurrence) × Wrote (g.K.Sink.written l.fn.sink) (g.K.Sink.written l.sink) (output_of w told)
    × IsReadingOn (records_in l.fn.reader.most l.fn.form l.fn.reader.at) l.fn.reader.most l.fn.form consumed l.reader.at l.fn.player.front.table.moment (waiting l.fn.player) (waiting l.player) told l.progress
    × StandsFor l.player.front (world_after w (captured_events told))))
    × (l.reader.most ≡ l.fn.reader.most) × (l.reader.at ≤ l.reader.most) × (l.progress.number ≤ l.reader.at)
    × (g.S.Source.faults l.source ≡ g.S.Source.faults l.fn.source) × (g.K.Sink.faults l.sink ≡ g.K.Sink.faults l.fn.sink)
    × ((g.S.Source.left l.source).count + l.reader.budget ≤ (g.S.Source.left l.fn.source).count + l.fn.reader.budget)
    × (length l.player.waits ≤ 256) × (length l.reader.waits ≤ 4096)

abbrev pub decreases-records : goal.decreases-records
decreases-records g l = l.reader.most - l.reader.at
