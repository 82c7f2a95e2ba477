-- What most lemmas of this crate speak of: each name stands in the module that its line tells.
pub use Rattle.sg_base.specs.declared.faults.ScriptFault.{ScriptFault}
pub use Rattle.sg_edge.proofs.Links.{added_more, added_none}
pub use Rattle.sg_edge.proofs.Passed.{rose_later, took_more, took_none, wrote_more, wrote_none}
pub use Rattle.sg_edge.specs.Links.{Added}
pub use Rattle.sg_edge.specs.Told.{AtEnd, Tally, TookIn, Wrote}
pub use Rattle.sg_gateway.specs.Drawn.{Supplied, signal_with_noise, supplied}
pub use Rattle.sg_gateway.specs.Events.{outcomes_from, signal_lacks_noise}
pub use Rattle.sg_gateway.specs.Step.{Datagram, Event, Signalled, step}
pub use Rattle.sg_gateway.specs.World.{World, empty}
pub use Rattle.sg_lines.proofs.Splits.{begins, lines_of_rest, lines_of_whole}
pub use Rattle.sg_lines.specs.Fields.{Gives}
pub use Rattle.sg_lines.specs.LineOf.{line_of, version_after}
pub use Rattle.sg_lines.specs.ScriptLines.{IsWhole, NoEnd, lines_of}
pub use Rattle.sg_lines.specs.declared.faults.ReadLineFault.{ReadLineFault}
pub use Rattle.sg_lines.specs.declared.lines.Line.{Line}
pub use Rattle.sg_pcap.proofs.Captures.{header_faulty, header_stays, header_there, length_front, length_least, record_faulty, record_stays, record_there}
pub use Rattle.sg_pcap.specs.Capture.{Capture, Captured, capture_of, faulty, header_within, record_within, records_in}
pub use Rattle.sg_pcap.specs.Records.{length_by, record_length, record_of}
pub use Rattle.sg_pcap.specs.declared.faults.CaptureFault.{CaptureFault}
pub use Rattle.sg_pcap.specs.declared.faults.CaptureFault.TheVariants.{Cut, Length, LinkType, Version}
pub use Rattle.sg_pcap.specs.declared.header.Form.{Form}
pub use Rattle.sg_trace.specs.CaptureReading.{Capturing, HasPart, HasRecord, IsCaptureFault, IsHeaderRead, IsRecordRead, Moves}
pub use Rattle.sg_trace.specs.Causes.{EndedBy, HasFailed, IsOfOutside, IsPassedOn}
pub use Rattle.sg_trace.specs.Course.{Course, Given, Ways, behind_given, behind_line, course, course_from, ended, read_at, with_deeds}
pub use Rattle.sg_trace.specs.Fed.{EndsLine, GivesLine, HasMoved, HoldsLine, IsLine}
pub use Rattle.sg_trace.specs.Loop.{AreAlike, AreTold, Closes, Effects, GoInOrder, HasNoLast, IsAll, IsCut, IsCutLine, IsCutShort, IsPlayed, IsRun}
pub use Rattle.sg_trace.specs.Loop.{IsScriptPlayed, IsSettled, IsTaken, IsUnended, IsWant, LoopEnds, Tellings, deeds_of, ways_of}
pub use Rattle.sg_trace.specs.Output.{IsPrefixOf, IsWritten, WrotePrefix, output_from, text}
pub use Rattle.sg_trace.specs.Reading.{FirstFailsBy, IsFaultBy, IsFramed, IsNextBy, IsReadBy, Reading, refused_as}
pub use Rattle.sg_trace.specs.Trace.{AtCapture, AtFault, Captures, Command, Later, Outside, Replays, Spelling, Stop, Trace, after_line, begins_capture}
pub use Rattle.sg_trace.specs.Trace.{drawing, handled, handled_as, line_at, replayed, spelled_at, stopped, ticks_at, trace_from, with_events}
pub use Rattle.sg_trace.specs.declared.status.Status.{Status}
pub use Rattle.sg_trace.specs.declared.status.Status.TheVariants.{Done, NoMemory, Noise, Read, Script, Write}
pub use Rattle.std.proofs.Math.Seq.{drop-append_seam, take-append_seam}
pub use Rattle.std.proofs.lemmas.Bool.{cases_Bool, cases_lt, cond-false, cond-true, eq-eqb, false≢true, le-ltb, lt-ltb, ltb-false, ltb-true}
pub use Rattle.std.proofs.lemmas.Bool.Decides.{nat_tests}
pub use Rattle.std.proofs.lemmas.Grind.{flat_map-append}
pub use Rattle.std.proofs.lemmas.List.{append-nil, drop-drop, drop-take, length-drop, length-take, length-take-le, take-append-drop, take-append-le, take_all}
pub use Rattle.std.proofs.lemmas.List.{take_more}
