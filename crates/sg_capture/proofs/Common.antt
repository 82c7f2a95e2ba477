-- What most lemmas of this crate speak of: each name stands in the module that its line tells.
pub use Rattle.sg_base.specs.declared.faults.ScriptFault.{ScriptFault}
pub use Rattle.sg_base.specs.declared.faults.ScriptFault.TheVariants.{Length, Unended}
pub use Rattle.sg_capture.specs.CaptureLines.{capture_line_of, of_capture, of_script}
pub use Rattle.sg_capture.specs.Capturing.{CaptureEnds, IsAllTold, IsCapture, IsCompleteCapture, IsCutCapture, IsWholeCapture}
pub use Rattle.sg_capture.specs.Meeting.{EndsReading, IsCutReading, IsMet, IsToldOf, StandsFor, all_behind, first_of, record_occurs}
pub use Rattle.sg_capture.specs.declared.lines.CaptureLine.{CaptureLine}
pub use Rattle.sg_capture.specs.declared.progress.Progress.{Progress}
pub use Rattle.sg_edge.proofs.Passed.{took_more, took_none, wrote_more, wrote_none}
pub use Rattle.sg_edge.specs.Told.{AtEnd, Tally, TookIn, Wrote}
pub use Rattle.sg_front.proofs.Runs.{unshared_after, unshared_told}
pub use Rattle.sg_front.specs.States.{FrontStandsFor, FrontValue, State, start, state_after, unshared}
pub use Rattle.sg_gateway.specs.Runs.{world_after}
pub use Rattle.sg_gateway.specs.Step.{Datagram, Event, Signalled, step}
pub use Rattle.sg_gateway.specs.World.{World, empty}
pub use Rattle.sg_lines.specs.LineOf.{line_of, version_after}
pub use Rattle.sg_lines.specs.ScriptLines.{NoEnd, lines_of}
pub use Rattle.sg_lines.specs.declared.lines.Line.{Line}
pub use Rattle.sg_pcap.proofs.Captures.{capture_begins, next_record}
pub use Rattle.sg_pcap.specs.Capture.{Capture, Captured, capture_of, faulty, record_within, records_in, with_record}
pub use Rattle.sg_pcap.specs.Frames.{Framed, frame_of, framed}
pub use Rattle.sg_pcap.specs.Skips.{skip_line}
pub use Rattle.sg_pcap.specs.declared.faults.CaptureFault.{CaptureFault}
pub use Rattle.sg_pcap.specs.declared.header.Form.{Form}
pub use Rattle.sg_pcap.specs.declared.records.Record.{Record}
pub use Rattle.sg_playback.proofs.Replays.{as_trace, given_so}
pub use Rattle.sg_playback.specs.Playing.{HasRoom, IsStepped, effects, text_from, waiting}
pub use Rattle.sg_table.specs.Batches.{arrived}
pub use Rattle.sg_trace.proofs.Causes.{failed_as, failed_now, not_failed, ok_not}
pub use Rattle.sg_trace.proofs.Ends.{closes_not, ended_closed, ended_quiet}
pub use Rattle.sg_trace.proofs.Traces.{output_from-append, world_after-append}
pub use Rattle.sg_trace.specs.CaptureReading.{Capturing, IsCaptureFault, IsHeaderRead, IsRecordRead}
pub use Rattle.sg_trace.specs.Captured.{CaptureStop, CaptureTrace, Happens, InCapture, InScript, Occurrence, Skipped, after_script, capture_occurs, captured}
pub use Rattle.sg_trace.specs.Captured.{captured_events, frame_occurs, moment_in, output_of, records_occur, script_alone, script_of, then_capture}
pub use Rattle.sg_trace.specs.Causes.{EndedBy}
pub use Rattle.sg_trace.specs.Course.{Course, behind_line, course, course_from, ended, read_at, with_deeds}
pub use Rattle.sg_trace.specs.Loop.{Closes, HasNoLast, IsAll, IsBehindLast, IsCut, IsRun, IsSettled, IsUnended, IsWant, LoopEnds, Tellings}
pub use Rattle.sg_trace.specs.Output.{IsPrefixOf, IsWritten, output, output_from, text}
pub use Rattle.sg_trace.specs.Reading.{IsFramed, Reading}
pub use Rattle.sg_trace.specs.Trace.{AtCapture, AtFault, Trace, drawing, stopped, ticks_at, with_events}
pub use Rattle.sg_trace.specs.declared.status.Status.{Status}
pub use Rattle.sg_trace.specs.declared.status.Status.TheVariants.{Done, NoMemory, Noise, Read, Script, Write}
pub use Rattle.std.proofs.Math.Seq.{drop-append_seam, take-length}
pub use Rattle.std.proofs.lemmas.Bool.{and_parts, cases_Bool, cases_lt, cond-false, cond-true, le-ltb, lt-ltb, ltb-false, ltb-true}
pub use Rattle.std.proofs.lemmas.List.{append-nil, length-map}
