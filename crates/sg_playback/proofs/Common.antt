-- What most lemmas of this crate speak of: each name stands in the module that its line tells.
pub use Rattle.sg_edge.proofs.Links.{added_none}
pub use Rattle.sg_edge.proofs.Passed.{took_none, wrote_more, wrote_none}
pub use Rattle.sg_edge.specs.Told.{Tally, Wrote}
pub use Rattle.sg_front.proofs.Sequences.{state_after-append, told_from-append}
pub use Rattle.sg_front.specs.States.{FrontStandsFor, FrontValue, IsTold, State, start, state_after, told_from}
pub use Rattle.sg_gateway.specs.Drawn.{Supplied, supplied}
pub use Rattle.sg_gateway.specs.Events.{events_of, events_of_signal, signal_lacks_noise}
pub use Rattle.sg_gateway.specs.Octets.{as_octets}
pub use Rattle.sg_gateway.specs.Signals.{Tick}
pub use Rattle.sg_gateway.specs.Step.{Datagram, Event, Signalled}
pub use Rattle.sg_lines.specs.declared.lines.Line.{Line}
pub use Rattle.sg_outcome.specs.OutcomeText.{outcome_line}
pub use Rattle.sg_playback.specs.Playing.{HasCome, HasRoom, IsStepped, IsWant, Playing, effects, text_from, waiting}
pub use Rattle.sg_playback.specs.Replay.{IsCompleteReplay, IsCutReplay, IsReplay, IsReplayOfLines, IsWholeReplay, ReplayEnds, ReplayTellings, given_by, gives}
pub use Rattle.sg_playback.specs.Replay.{of_replay, output_in}
pub use Rattle.sg_table.specs.Batches.{arrived, told_by, told_of}
pub use Rattle.sg_table.specs.declared.arrival.Arrival.{Arrival}
pub use Rattle.sg_trace.proofs.Causes.{failed_as, failed_now, not_failed, ok_not}
pub use Rattle.sg_trace.proofs.PassedOn.{before_kept, ended_passed, loop_passed, noise_passed, passed_so, write_passed}
pub use Rattle.sg_trace.specs.Course.{Course, Given, Ways, behind_given, behind_line, course, course_from}
pub use Rattle.sg_trace.specs.Loop.{AreAlike, AreTold, GoInOrder, IsAll, IsBehindLast, IsCut, IsCutShort, IsPlayed, IsSettled, IsTaken, LoopEnds, Tellings}
pub use Rattle.sg_trace.specs.Loop.{deeds_of}
pub use Rattle.sg_trace.specs.Output.{IsPrefixOf, IsWritten, text}
pub use Rattle.sg_trace.specs.declared.status.Status.{Status}
pub use Rattle.sg_trace.specs.declared.status.Status.TheVariants.{Done, NoMemory, Noise, Read, Script, Write}
pub use Rattle.std.proofs.lemmas.Grind.{flat_map-append}
pub use Rattle.std.proofs.lemmas.List.{append-nil, length-map, nil_from_length}
