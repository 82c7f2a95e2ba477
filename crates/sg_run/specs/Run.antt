-- What a run did, by the command that its words are.
use Rattle.std.specs.Prelude.{◌≡◌, ◌⊎◌, ◌≤◌, ◌+◌, ℕ, Bool, List, [], ⊤}
use Rattle.sg_pairs.specs.BridgeHolds.{BridgeHolds}
use Rattle.sg_pairs.specs.Bridged.{bridged_events, bridgings}
use Rattle.sg_bridge.specs.Bridge.{IsBridge, IsCompleteBridge, bridge_trace}
use Rattle.sg_bridge.specs.Replayed.{IsPlayedAlike, JoinsNone}
use Rattle.sg_capture.specs.Capturing.{IsCapture, IsCompleteCapture}
use Rattle.sg_trace.specs.Captured.{captured, captured_events}
use Rattle.sg_trace.specs.Trace.{replayed}
use Rattle.sg_trace.specs.Output.{IsPrefixOf}
use Rattle.sg_trace.specs.declared.status.Status.{Status}
use Rattle.sg_trace.specs.declared.status.Status.TheVariants.{Done, NoMemory}
use Rattle.sg_demo.specs.Demonstration.{demonstration, events_shown}
use Rattle.sg_demo.specs.Text.{IsShown, summary_text}
use Rattle.sg_edge.specs.Links.{LinkTally}
use Rattle.sg_edge.specs.Told.{Rose, Tally}
use Rattle.sg_gateway.specs.Step.{Event}
use Rattle.sg_migrate.specs.Migration.{IsMigration}
use Rattle.sg_migrate.specs.Migration as migrations
use Rattle.sg_mux.specs.Latest.{LegsAreMuxedThroughout}
use Rattle.sg_mux.specs.Via.{events_in as table_events, passages_in}
use Rattle.sg_passages.specs.Passages.{Passage, plain_passages}
use Rattle.sg_playback.specs.Replay.{IsCompleteReplay, IsReplay}
use Rattle.sg_playback.specs.Replay as replays
use Rattle.sg_relay.specs.Asked.{receipts_in}
use Rattle.sg_relay.specs.Completeness.{Failures, HasPassed}
use Rattle.sg_relay.specs.Joined as joined
use Rattle.sg_relay.specs.Plain as plain
use Rattle.sg_relay.specs.Relay.{deeds_by, woven_of}
use Rattle.sg_relay.specs.Relay as relays
use Rattle.sg_run.specs.Captures.{CapturesBegin, DamageIsTold}
use Rattle.sg_run.specs.Heard.{IsHeard, IsHeardByRelay, LinesAreHeard, RelaysHearAsBridges}
use Rattle.sg_run.specs.ByOption.{AreToldPlainly, GoesByOption}
use Rattle.sg_run.specs.Counted.{CountsWhatIsTold}
use Rattle.sg_run.specs.Migrates.{WritesMigrated}
use Rattle.sg_run.specs.Arrived.{HasPlayed, TakesAsReceived, TicksAsRead, came, came_to_bridge, nothings, said_without_ticks, ticks_in, ticks_said, without_ticks}
use Rattle.sg_run.specs.Sent.{SendsAsTold, put_out_in, put_out_in_bridge}
use Rattle.sg_run.specs.Written.{CaptureHasWritten, HasWritten, RelayHasWritten, bridging_lines, joined_lines, passage_lines, plain_lines}
use Rattle.sg_words.specs.Commands.{AreWordsOf, Words}
use Rattle.sg_words.specs.declared.command.Command.{Command}
use Rattle.sg_words.specs.declared.command.Command.TheVariants.{Replay, Relay, RelayJoined, Demo, Migrate, Capture, Bridge}

-- what they tell, and how often they have failed
pub record Surroundings : Type 0 where
  pub left : Tally
  pub written : Tally
  pub calls : LinkTally
  pub readings : Tally
  pub drawn : Tally
  pub failures : Failures

-- those of them that a replay is given, and a capture's run and a bridge
abbrev pub of_replay : Surroundings → replays.ReplayTellings
of_replay o = record { left = o.left; written = o.written; drawn = o.drawn }

abbrev pub of_relay : Surroundings → relays.RelayTellings
of_relay o = record { left = o.left; written = o.written; calls = o.calls; readings = o.readings; draws = o.drawn }

abbrev pub of_migration : Surroundings → migrations.MigrationTellings
of_migration o = record { left = o.left; written = o.written }

-- neither source, sink nor noise has failed
pub record NoneOfScriptsFailed (old new : Failures) : Type 0 where
  pub source : ¬ Rose old.source new.source
  pub sink : ¬ Rose old.sink new.sink
  pub noise : ¬ Rose old.noise new.noise

-- A replay read, drew and wrote these octets; these are its events as they come to the gateway, and what is told of them, whose lines
-- were written. The legs that share their ports, where they may, are after each event those of which offers and answers say so; without
-- the option all comes and is told as it is. Where nothing fails it plays a script in the grammar to the end, or memory runs out.
pub record HasReplayed (muxes : Bool) (status : Status) (old new : Surroundings) (events : List Event) (passages : List Passage) : Type 0 where
  pub octets : List ℕ
  pub draws : List ℕ
  pub out : List ℕ
  pub is : IsReplay muxes status (of_replay old) (of_replay new) octets draws out
  pub events_are : events ≡ table_events muxes (replayed octets draws).events
  pub passages_are : passages ≡ passages_in muxes (replayed octets draws).events
  pub written : HasWritten status out (passage_lines passages)
  pub legs : LegsAreMuxedThroughout (replayed octets draws).events
  pub option : GoesByOption muxes (replayed octets draws).events events passages
  pub complete : NoneOfScriptsFailed old.failures new.failures → IsCompleteReplay status old.left new.left

-- This passed between a relay and the outside; these are its events as they come to the gateway, and what is told of them.
-- Whenever it received it listened at the ports of the calls that were there, and at no others, and had sent what is told as put
-- out, and nothing else; what it received came next, and its ticks were the moments that it had read. It wrote the lines of all else
-- that is told, and of packets that weren't sent. Had nothing come, it had but for its ticks what a replay of the same octets has but
-- for them. It took so many turns at most.
-- Where nothing fails, sends aside, it handles a script in the grammar that asks for no more turns to the end, or memory runs out.
pub record HasRelayed (muxes : Bool) (turns : ℕ) (status : Status) (old new : Surroundings) (events : List Event) (passages : List Passage) : Type 0 where
  pub run : HasPassed plain.weaves (plain.acts muxes) (plain.world muxes) status turns (of_relay old) (of_relay new) old.failures new.failures
  pub events_are : events ≡ table_events muxes (woven_of plain.weaves run.passed).deeds
  pub passages_are : passages ≡ passages_in muxes (woven_of plain.weaves run.passed).deeds
  pub legs : LegsAreMuxedThroughout (woven_of plain.weaves run.passed).deeds
  pub option : GoesByOption muxes (woven_of plain.weaves run.passed).deeds events passages
  pub sends : SendsAsTold status run.passed.calls (λ receipts. put_out_in (passages_in muxes (deeds_by plain.weaves run.passed receipts)))
  pub written : RelayHasWritten status run.passed.calls run.passed.out (λ receipts. plain_lines (passages_in muxes (deeds_by plain.weaves run.passed receipts)))
  pub takes : TakesAsReceived run.passed.calls came (deeds_by plain.weaves run.passed)
  pub ticks : TicksAsRead status run.passed.calls run.passed.readings (λ receipts. ticks_in (deeds_by plain.weaves run.passed receipts))
  pub lines : HasPlayed status (without_ticks (deeds_by plain.weaves run.passed (nothings (receipts_in run.passed.calls)))) (without_ticks (replayed run.passed.octets run.passed.draws).events)
  pub most : new.readings.count ≤ old.readings.count + (turns + 1)

-- This passed between a relay whose calls may be joined and the outside. Its events at the gateway are those of its lines, its ticks
-- and the datagrams that came, each inner one right behind the one that opened it, with what the gateway tells of them. What a
-- bridge holds of joined calls is so of them, and all that a relay promises besides. A line that joins or parts says that, wherever
-- it stands, and other lines give what they give a bridge.
pub record HasRelayedJoined (turns : ℕ) (status : Status) (old new : Surroundings) (events : List Event) (passages : List Passage) : Type 0 where
  pub run : HasPassed joined.weaves joined.acts joined.world status turns (of_relay old) (of_relay new) old.failures new.failures
  pub events_are : events ≡ bridged_events (woven_of joined.weaves run.passed).deeds
  pub passages_are : passages ≡ plain_passages events
  pub plain : AreToldPlainly passages
  pub holds : BridgeHolds (woven_of joined.weaves run.passed).deeds
  pub heard : LinesAreHeard IsHeardByRelay
  pub alike : RelaysHearAsBridges
  pub sends : SendsAsTold status run.passed.calls (λ receipts. put_out_in_bridge (bridgings (deeds_by joined.weaves run.passed receipts)))
  pub written : RelayHasWritten status run.passed.calls run.passed.out (λ receipts. joined_lines (bridgings (deeds_by joined.weaves run.passed receipts)))
  pub takes : TakesAsReceived run.passed.calls came_to_bridge (deeds_by joined.weaves run.passed)
  pub ticks : TicksAsRead status run.passed.calls run.passed.readings (λ receipts. ticks_said (deeds_by joined.weaves run.passed receipts))
  pub lines : HasPlayed status (said_without_ticks (deeds_by joined.weaves run.passed (nothings (receipts_in run.passed.calls)))) (said_without_ticks (bridge_trace run.passed.octets run.passed.draws).deeds)
  pub most : new.readings.count ≤ old.readings.count + (turns + 1)

-- with Done these are all of the demonstration's events, and else the first of them
abbrev pub AreTaken : Status → List Event → List Event → Type 0
AreTaken Done events all = events ≡ all
AreTaken other events all = IsPrefixOf events all

-- The nine lines of the demonstration were written, or a prefix of them; these are its events, told as they are, and its numbers
-- count them. Where the sink doesn't fail all are written, or memory runs out.
pub record HasShown (calls start : ℕ) (status : Status) (old new : Surroundings) (events : List Event) (passages : List Passage) : Type 0 where
  pub is : IsShown status old.written new.written (summary_text (demonstration calls start))
  pub events_are : AreTaken status events (events_shown calls start)
  pub passages_are : passages ≡ plain_passages events
  pub plain : AreToldPlainly passages
  pub counts : CountsWhatIsTold calls (demonstration calls start) (events_shown calls start)
  pub complete : ¬ Rose old.failures.sink new.failures.sink → (status ≡ Done) ⊎ (status ≡ NoMemory)

-- A migration read and wrote these octets: the script of version 2 of what it read, or of the first lines. It hands no event to the
-- gateway. Where nothing fails it writes a script of version 1 to the end, or memory runs out.
pub record HasMigrated (status : Status) (old new : Surroundings) (events : List Event) (passages : List Passage) : Type 0 where
  pub octets : List ℕ
  pub out : List ℕ
  pub is : IsMigration status (of_migration old) (of_migration new) octets out
  pub events_are : events ≡ []
  pub passages_are : passages ≡ []
  pub writes : WritesMigrated status octets out
  pub complete : ¬ Rose old.failures.source new.failures.source → ¬ Rose old.failures.sink new.failures.sink
      → migrations.IsCompleteMigration status old.left new.left

-- A script and the capture behind it were read, drew and wrote these octets; these are their events, told as they are. What is told
-- was written, with the lines of skipped records between. A capture begins behind a line `capture`, and what is met of one that is cut
-- off or damaged is what stands before, and its fault. Where nothing fails, and they have no fault, they are played to the end, or
-- memory runs out.
pub record HasCaptured (status : Status) (old new : Surroundings) (events : List Event) (passages : List Passage) : Type 0 where
  pub octets : List ℕ
  pub draws : List ℕ
  pub out : List ℕ
  pub is : IsCapture status (of_replay old) (of_replay new) octets draws out
  pub events_are : events ≡ captured_events (captured octets draws).occurrences
  pub passages_are : passages ≡ plain_passages events
  pub written : CaptureHasWritten status octets draws out passages
  pub begins : CapturesBegin
  pub damage : DamageIsTold octets draws
  pub plain : AreToldPlainly passages
  pub complete : NoneOfScriptsFailed old.failures new.failures → IsCompleteCapture status old.left new.left

-- A bridge read, drew and wrote these octets, and these are its events at the gateway, each inner one too, with what the
-- gateway tells of them; the lines of what the bridge tells were written. What a bridge holds of joined calls is so of
-- its lines, and where no line joins or parts it is played as a replay. A line that joins or parts says that, wherever it stands.
-- Where nothing fails, and no line is outside the grammar, it is played to the end, or memory runs out.
pub record HasBridged (status : Status) (old new : Surroundings) (events : List Event) (passages : List Passage) : Type 0 where
  pub octets : List ℕ
  pub draws : List ℕ
  pub out : List ℕ
  pub is : IsBridge status (of_replay old) (of_replay new) octets draws out
  pub events_are : events ≡ bridged_events (bridge_trace octets draws).deeds
  pub passages_are : passages ≡ plain_passages events
  pub plain : AreToldPlainly passages
  pub written : HasWritten status out (bridging_lines (bridgings (bridge_trace octets draws).deeds))
  pub holds : BridgeHolds (bridge_trace octets draws).deeds
  pub heard : LinesAreHeard IsHeard
  pub alike : JoinsNone octets → IsPlayedAlike octets draws
  pub complete : NoneOfScriptsFailed old.failures new.failures → IsCompleteBridge status old.left new.left

-- the command was run, and these are the run's events and what is told of them
abbrev pub HasDone : Command → Status → Surroundings → Surroundings → List Event → List Passage → Type 0
HasDone (Replay workers muxes) status old new events passages = HasReplayed muxes status old new events passages
HasDone (Relay turns muxes) status old new events passages = HasRelayed muxes turns status old new events passages
HasDone (RelayJoined turns) status old new events passages = HasRelayedJoined turns status old new events passages
HasDone (Demo calls start workers) status old new events passages = HasShown calls start status old new events passages
HasDone Migrate status old new events passages = HasMigrated status old new events passages
HasDone Capture status old new events passages = HasCaptured status old new events passages
HasDone Bridge status old new events passages = HasBridged status old new events passages

-- whatever command the words are
abbrev pub HasRun : Words → Status → Surroundings → Surroundings → List Event → List Passage → Type 0
HasRun words status old new events passages = (command : Command) → AreWordsOf words command → HasDone command status old new events passages

-- the words of a command whose datagrams wait for a batch: telling those that wait may fail behind a failed read
abbrev pub PlaysInBatches : Words → Type 0
PlaysInBatches words = ((workers : ℕ) × (muxes : Bool) × AreWordsOf words (Replay workers muxes)) ⊎ AreWordsOf words Capture

-- ---- what a command leaves alone

-- the things outside that a run is lent
pub record Lent (S K L C N : Type 0) : Type 0 where
  pub source : S
  pub sink : K
  pub link : L
  pub clock : C
  pub noise : N

abbrev pub LeavesAlone : {S K L C N : Type 0} → Command → Lent S K L C N → Lent S K L C N → Type 0
LeavesAlone (Relay turns muxes) old new = ⊤
LeavesAlone (RelayJoined turns) old new = ⊤
LeavesAlone (Demo calls start workers) old new = (new.source ≡ old.source) × (new.link ≡ old.link) × (new.clock ≡ old.clock) × (new.noise ≡ old.noise)
LeavesAlone Migrate old new = (new.link ≡ old.link) × (new.clock ≡ old.clock) × (new.noise ≡ old.noise)
LeavesAlone other old new = (new.link ≡ old.link) × (new.clock ≡ old.clock)

-- whatever command the words are
abbrev pub LeavesOthersAlone : {S K L C N : Type 0} → Words → Lent S K L C N → Lent S K L C N → Type 0
LeavesOthersAlone words old new = (command : Command) → AreWordsOf words command → LeavesAlone command old new
