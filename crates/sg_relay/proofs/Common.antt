-- What most lemmas of this crate speak of: each name stands in the module that its line tells.
pub use Rattle.sg_base.specs.declared.addresses.Address.{Address}
pub use Rattle.sg_base.specs.declared.addresses.CallId.{CallId}
pub use Rattle.sg_base.specs.declared.faults.ScriptFault.{ScriptFault}
pub use Rattle.sg_edge.proofs.Links.{added_more, added_none, called_more, called_none}
pub use Rattle.sg_edge.proofs.Passed.{took_more, took_none, wrote_more, wrote_none}
pub use Rattle.sg_edge.specs.Links.{Added, Called, Came, Failing, LinkCall, Nothing, Receive, Received, received}
pub use Rattle.sg_edge.specs.Told.{AtEnd, Rose, Tally, TookIn, Wrote}
pub use Rattle.sg_front.proofs.Runs.{told_in, world_in}
pub use Rattle.sg_front.specs.States.{FrontStandsFor, start, state_after, told_from}
pub use Rattle.sg_gateway.proofs.Pairs.{Pairs, pairs_from}
pub use Rattle.sg_gateway.specs.Datagrams.{Drops, Given, Puts, arrived_at, arrived_in, call_after, given_to, put}
pub use Rattle.sg_gateway.specs.Events.{events_of_signal, outcomes_from, signal_lacks_noise, signal_of}
pub use Rattle.sg_gateway.specs.Order.{AreOfMedia, IsBefore, IsOrderly}
pub use Rattle.sg_gateway.specs.Ports.{call_at, has_port, leg_of, other_direction, port_at, port_out}
pub use Rattle.sg_gateway.specs.Runs.{world_after}
pub use Rattle.sg_gateway.specs.Signals.{Answer, Answered, Bye, Manual, Offered, Psk, Reject, Signal, Tick, answer_to, answered, in_new, in_old, left}
pub use Rattle.sg_gateway.specs.Signals.{new_call, offered_to, offering_side, refused, rejected, rejected_to, tells_answer, tells_ended, tells_live}
pub use Rattle.sg_gateway.specs.Signals.{tells_text, ticked}
pub use Rattle.sg_gateway.specs.Step.{Datagram, Event, Signalled, step}
pub use Rattle.sg_gateway.specs.World.{Books, Call, World, and_call, call_of, empty, is_full, with_call, without_call}
pub use Rattle.sg_lines.specs.ScriptLines.{IsWhole, lines_of}
pub use Rattle.sg_outcome.specs.declared.outcomes.Outcome.{Outcome}
pub use Rattle.sg_outcome.specs.declared.outcomes.Outcome.TheVariants.{Dropped, Ended, Live, Made, Out, Unsent}
pub use Rattle.sg_outcome.specs.declared.outcomes.Why.{Why}
pub use Rattle.sg_pairs.specs.Bridged.{Bridging, Following, Happens, Joins, Parts, Said, arrived, bridging, bridgings_from, handed_on, inner, inner_told}
pub use Rattle.sg_pairs.specs.Bridged.{joining, opened, parting, passed, told_and_parted}
pub use Rattle.sg_pairs.specs.Pairs.{Joining, Members, Parting, after_outcome, joined, joined_pair, member_at, no_members, parted_from, vacated}
pub use Rattle.sg_pairs.specs.declared.outcomes.BridgeOutcome.{BridgeOutcome}
pub use Rattle.sg_relay.specs.Acting.{Acting, GoInOrder}
pub use Rattle.sg_relay.specs.Asked.{Act, AreDue, AreGood, AreInOrder, Ask, AtFailedReceive, Bind, EndsBadly, IsAtNext, IsCutOff, IsDone, IsGood, IsPart, Send, Sends}
pub use Rattle.sg_relay.specs.Asked.{Unbind, act_of, ask_in, asks_in, asks_of, hold, ports_from, ports_of, receipt_in, receipts_in}
pub use Rattle.sg_relay.specs.Causes.{IsDueTo, IsDueToLink, IsOfLines, IsOfOutcomes, IsOfSignals, IsOfTurns, IsOfWaits, IsOfWriting}
pub use Rattle.sg_relay.specs.Completeness.{Failures, HasPassed, IsCompleteRelay}
pub use Rattle.sg_relay.specs.Held.{AreOfCalls, EachFits, Fits, IsPortOf, PortsAreOfCalls, held_after}
pub use Rattle.sg_relay.specs.Joined.{act_of_bridge, acting, acts, acts_next, acts_of_all, gives, happen_all, world}
pub use Rattle.sg_relay.specs.Parts.{AreCarriedOut, AreHandled, ArePairs, Gives, IsBegun, IsGiven, IsHeld, IsLineCut, IsLineInOrder, IsReceived}
pub use Rattle.sg_relay.specs.Parts.{IsReceivedFirst, IsSaid, IsStopped, IsTurn, IsTurnCut, IsTurnInOrder, IsTurnUnreceived, IsWaitCut, IsWaitInOrder}
pub use Rattle.sg_relay.specs.Parts.{IsWaited, IsWaiting, StopsWith, ended_as, taken, taking, turned}
pub use Rattle.sg_relay.specs.Relay.{ArePaced, HoldsItsCallsPorts, IsBroken, IsRelay, IsWholeRelay, Passed, RelayEnds, RelayTellings, acts_by, deeds_by}
pub use Rattle.sg_relay.specs.Relay.{nothing, stop_by, world_by, woven_of}
pub use Rattle.sg_relay.specs.Weaving.{Later, Weaves, Woven, arrivals_of, behind_given, behind_line, said, stopped, ticks_at, ticks_of, waited}
pub use Rattle.sg_relay.specs.Weaving.{waited_or_given, weaves_of, with_deeds, woven, woven_from}
pub use Rattle.sg_session.proofs.Lists.{any_cases, any_here, any_none, any_there, both, each_at_this, each_filter, each_map, each_of, each_weaker}
pub use Rattle.sg_switchboard.proofs.Noted.{all_told, more_calls, more_told, signal_noted}
pub use Rattle.sg_switchboard.specs.Switching.{StandsFor, SwitchboardValue, after, outcome_by, outcome_of, told_next}
pub use Rattle.sg_trace.proofs.Causes.{failed_as, failed_now, not_failed, ok_not}
pub use Rattle.sg_trace.proofs.Traces.{outcomes_from-append, whole_some}
pub use Rattle.sg_trace.specs.Output.{IsPrefixOf, IsWritten}
pub use Rattle.sg_trace.specs.Reading.{FirstFailsBy, IsFaultBy, IsNextBy, IsReadBy, Reading}
pub use Rattle.sg_trace.specs.Trace.{AtFault, ForReading, ForReceive, Outside, Stop, last_moment, moment_of, spelled_at}
pub use Rattle.sg_trace.specs.declared.status.Status.{Status}
pub use Rattle.sg_trace.specs.declared.status.Status.TheVariants.{Capture, Clock, Done, Link, NoMemory, Noise, Read, Script, TurnsSpent, Usage, Write}
pub use Rattle.std.proofs.lemmas.Bool.{and_cases, and_from, and_parts, cond-false, cond-true, eq-eqb, eqb-true, false≢true, le-leb, le-ltb, leb-false}
pub use Rattle.std.proofs.lemmas.Bool.{leb-true, lt-leb, lt-ltb, ltb-false, ltb-true, ne_eqb, or_cases, or_left, or_right}
pub use Rattle.std.proofs.lemmas.List.{append-nil, map-append, take_all}
pub use Rattle.std.specs.List.{AllByRecursion, Any, filter, flat_map}
