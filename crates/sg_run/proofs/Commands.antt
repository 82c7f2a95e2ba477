-- What a run did, by how its words were read.
use Rattle.std.proofs.Common.{◌≡◌, ◌⊎◌, ℕ, List, [], Bool, map, Option, Result, Ok, Err, refl, sym, ap, ◌∙◌, subst, inl, inr, arith, true, false}
use Rattle.std.proofs.lemmas.List.{append-nil}
use Rattle.sg_pairs.specs.BridgeHolds.{BridgeHolds}
use Rattle.sg_pairs.specs.Bridged.{Said}
use Rattle.sg_bridge.specs.Bridge.{bridge_text, of_bridge}
use Rattle.sg_trace.proofs.Ends.{nothing_run}
use Rattle.sg_trace.specs.Causes.{EndedBy, HasFailed}
use Rattle.sg_trace.specs.Loop.{Tellings}
use Rattle.sg_capture.proofs.Compositions.{untouched as nothing_captured}
use Rattle.sg_trace.specs.declared.status.Status.{Status}
use Rattle.sg_trace.specs.declared.status.Status.TheVariants.{Done, Write, NoMemory}
use Rattle.sg_demo.specs.Demonstration.{demonstration, events_shown}
use Rattle.sg_demo.specs.Text.{IsShown, summary_text}
use Rattle.sg_edge.proofs.Passed.{wrote_none}
use Rattle.sg_edge.specs.Told.{Rose, Tally}
use Rattle.sg_gateway.specs.Step.{Event}
use Rattle.sg_migrate.specs.Migrated.{of_migration, written_of}
use Rattle.sg_migrate.specs.Migration.{IsMigration}
use Rattle.sg_mux.specs.Latest.{LegsAreMuxed}
use Rattle.sg_mux.specs.Via.{events_in as table_events, outcomes_in, passages_in}
use Rattle.sg_passages.specs.Passages.{Passage}
use Rattle.sg_playback.proofs.Completes.{untouched as nothing_replayed}
use Rattle.sg_relay.proofs.Complete.{none_passed, none_relayed}
use Rattle.sg_relay.proofs.Holds.{nothing_passed}
use Rattle.sg_relay.specs.Asked.{Act, act_of}
use Rattle.sg_relay.specs.Joined as joined
use Rattle.sg_relay.specs.Plain as plain
use Rattle.sg_relay.specs.Relay.{IsRelay}
use Rattle.sg_relay.specs.Relay as relays
use Rattle.sg_relay.specs.Weaving.{Weaves}
use Rattle.sg_run.proofs.Captures.{captures_begin}
use Rattle.sg_run.proofs.Damage.{damage_is_told}
use Rattle.sg_run.proofs.Heard.{bridges_hear, relays_hear, relays_hear_as_bridges}
use Rattle.sg_run.proofs.ByOptions.{told_plainly}
use Rattle.sg_run.proofs.Countings.{demonstration_counts}
use Rattle.sg_run.proofs.MigrationWrites.{writes_migrated}
use Rattle.sg_run.proofs.Arrivals.{joined_takes, joined_ticks, plain_takes, plain_ticks}
use Rattle.sg_run.proofs.Played.{joined_plays, plain_plays}
use Rattle.sg_run.proofs.Sends.{joined_sends, plain_sends}
use Rattle.sg_run.specs.ByOption.{GoesByOption}
use Rattle.sg_run.specs.Run.{AreTaken, HasBridged, HasCaptured, HasDone, HasMigrated, HasRelayed, HasRelayedJoined, HasReplayed, HasRun, HasShown, LeavesAlone, LeavesOthersAlone, Lent, Surroundings, PlaysInBatches, of_migration as of_migration_tellings, of_relay, of_replay}
use Rattle.sg_run.proofs.Writes.{joined_writes, none_written, plain_writes}
use Rattle.sg_words.specs.Commands.{AreWordsOf, IsNoCommand, Words}
use Rattle.sg_words.specs.declared.command.Command.{Command}
use Rattle.sg_words.specs.declared.command.Command.TheVariants.{Replay, Relay, RelayJoined, Demo, Migrate, Bridge}
use Rattle.sg_words.specs.declared.command.Command.TheVariants as commands
use Rattle.sg_words.specs.declared.command.CommandFault.{CommandFault}
use Rattle.sg_words.specs.declared.command.CommandFault.TheVariants as faults

-- ---- memory ran out before anything was done

no_events : (muxes : Bool) → [] ≡ table_events muxes []
no_events true = refl
no_events false = refl

no_passages : (muxes : Bool) → [] ≡ passages_in muxes []
no_passages true = refl
no_passages false = refl

no_outcomes : (muxes : Bool) → outcomes_in muxes [] ≡ []
no_outcomes true = refl
no_outcomes false = refl

-- what the option means, of every run
abbrev pub OptionHolds : Type 0
OptionHolds = (muxes : Bool) (came : List Event) → GoesByOption muxes came (table_events muxes came) (passages_in muxes came)

nothing_by : OptionHolds → (muxes : Bool) → GoesByOption muxes [] [] []
nothing_by option true = option true []
nothing_by option false = option false []

not_replayed : (legs : (es : List Event) → LegsAreMuxed es) (option : OptionHolds) (muxes : Bool) (old : Surroundings) → HasReplayed muxes NoMemory old old [] []
not_replayed legs option muxes old = record {
  octets = [];
  draws = [];
  out = [];
  is = nothing_replayed muxes (of_replay old);
  events_are = no_events muxes;
  passages_are = no_passages muxes;
  written = ([], refl);
  legs = λ before after is. legs before;
  option = nothing_by option muxes;
  complete = λ none all rest left left' script. inr refl;
}

not_relayed : (legs : (es : List Event) → LegsAreMuxed es) (option : OptionHolds) (muxes : Bool) (turns : ℕ) (old : Surroundings) → HasRelayed muxes turns NoMemory old old [] []
not_relayed legs option muxes turns old =
    let none : plain.acts muxes [] ≡ [] = ap (map act_of) (no_outcomes muxes) in
    let ran = none_relayed plain.weaves (plain.acts muxes) none (of_relay old) turns in record {
      run = nothing_passed plain.weaves (plain.acts muxes) (plain.world muxes) none turns (of_relay old) old.failures;
      events_are = no_events muxes;
      passages_are = no_passages muxes;
      legs = λ before after is. legs before;
      option = nothing_by option muxes;
      sends = plain_sends muxes NoMemory turns _ _ none_passed ran;
      takes = plain_takes muxes NoMemory turns _ _ none_passed ran;
      ticks = plain_ticks muxes NoMemory turns _ _ none_passed ran;
      lines = plain_plays muxes NoMemory turns _ _ none_passed ran;
      written = plain_writes muxes NoMemory turns _ _ none_passed ran;
      most = omega arith;
    }

not_relayed_joined : (law : (said : List Said) → BridgeHolds said) (turns : ℕ) (old : Surroundings) → HasRelayedJoined turns NoMemory old old [] []
not_relayed_joined law turns old =
    let ran = none_relayed joined.weaves joined.acts refl (of_relay old) turns in record {
      run = nothing_passed joined.weaves joined.acts joined.world refl turns (of_relay old) old.failures;
      events_are = refl;
      passages_are = refl;
      plain = told_plainly [];
      holds = law [];
      heard = relays_hear;
      alike = relays_hear_as_bridges;
      sends = joined_sends NoMemory turns _ _ none_passed ran;
      takes = joined_takes NoMemory turns _ _ none_passed ran;
      ticks = joined_ticks NoMemory turns _ _ none_passed ran;
      lines = joined_plays NoMemory turns _ _ none_passed ran;
      written = joined_writes NoMemory turns _ _ none_passed ran;
      most = omega arith;
    }

not_shown : (calls start : ℕ) (old : Surroundings) → HasShown calls start NoMemory old old [] []
not_shown calls start old = record {
  is = ([], (summary_text (demonstration calls start), refl), wrote_none old.written);
  events_are = (events_shown calls start, refl);
  passages_are = refl;
  plain = told_plainly [];
  counts = demonstration_counts calls start;
  complete = λ none. inr refl;
}

not_migrated : (old : Surroundings) → HasMigrated NoMemory old old [] []
not_migrated old =
    let none : IsMigration NoMemory (of_migration_tellings old) (of_migration_tellings old) [] [] = record { run = nothing_run of_migration (written_of 0) 1 true _ refl; quiet = λ is. cc } in record {
      octets = [];
      out = [];
      is = none;
      events_are = refl;
      passages_are = refl;
      writes = writes_migrated NoMemory _ _ [] [] none;
      complete = λ source sink all rest left left' script. inr refl;
    }

not_captured : (old : Surroundings) → HasCaptured NoMemory old old [] []
not_captured old = record {
  octets = [];
  draws = [];
  out = [];
  is = nothing_captured (of_replay old);
  events_are = refl;
  passages_are = refl;
  begins = captures_begin;
  damage = damage_is_told [] [];
  plain = told_plainly [];
  written = record { played = []; ahead = []; split = refl; within = none_written _ };
  complete = λ none all rest left left' script. inr refl;
}

not_bridged : (law : (said : List Said) → BridgeHolds said) (old : Surroundings) → HasBridged NoMemory old old [] []
not_bridged law old = record {
  octets = [];
  draws = [];
  out = [];
  is = nothing_run of_bridge bridge_text 2 true (of_replay old) refl;
  events_are = refl;
  passages_are = refl;
  plain = told_plainly [];
  written = none_written _;
  holds = law [];
  heard = bridges_hear;
  alike = λ none. record { said = refl; stop = refl; left = refl; events = refl; told = refl; text = refl };
  complete = λ none all rest left left' script. inr refl;
}

none_done : (legs : (es : List Event) → LegsAreMuxed es) (option : OptionHolds) (law : (said : List Said) → BridgeHolds said) (command : Command) (old : Surroundings) → HasDone command NoMemory old old [] []
none_done legs option law (Replay workers muxes) old = not_replayed legs option muxes old
none_done legs option law (Relay turns muxes) old = not_relayed legs option muxes turns old
none_done legs option law (RelayJoined turns) old = not_relayed_joined law turns old
none_done legs option law (Demo calls start workers) old = not_shown calls start old
none_done legs option law Migrate old = not_migrated old
none_done legs option law commands.Capture old = not_captured old
none_done legs option law Bridge old = not_bridged law old

pub not_begun : ((es : List Event) → LegsAreMuxed es) → OptionHolds → ((said : List Said) → BridgeHolds said) → (words : Words) (old : Surroundings) → HasRun words NoMemory old old [] []
not_begun legs option law words old = λ command are. none_done legs option law command old

-- words that are no command
pub no_run : (words : Words) (status : Status) (old new : Surroundings) → IsNoCommand words → HasRun words status old new [] []
no_run words status old new none = λ command are. absurd (none command are)

-- ---- the command that was read is the one that the words are

abbrev pub IsReadAs : Command → Command → Type 0
IsReadAs read k = (let r : Result Command CommandFault = Ok read in (r ≡ Ok k) ⊎ (r ≡ Err faults.NoMemory))

pub read_is : (read k : Command) → IsReadAs read k → read ≡ k
read_is read k (inl is) = cc
read_is read k (inr is) = absurd cc

-- what reading the words tells of every command that they are
abbrev pub IsToldOf : Words → Command → Type 0
IsToldOf words read = (k : Command) → AreWordsOf words k → IsReadAs read k

-- ---- what was run

pub has_run : (words : Words) (read this : Command) (status : Status) (old new : Surroundings) (events : List Event) (passages : List Passage) → IsToldOf words read
    → read ≡ this → HasDone this status old new events passages → HasRun words status old new events passages
has_run words read this status old new events passages told is done =
    λ command are. subst (λ k. HasDone k status old new events passages) (sym is ∙ read_is read command (told command are)) done

-- what it leaves alone
pub leaves : {S K L C N : Type 0} (words : Words) (read this : Command) (old new : Lent S K L C N) → IsToldOf words read → read ≡ this → LeavesAlone this old new → LeavesOthersAlone words old new
leaves words read this old new told is alone = λ command are. subst (λ k. LeavesAlone k old new) (sym is ∙ read_is read command (told command are)) alone

-- nothing was touched
pub leaves_all : {S K L C N : Type 0} (words : Words) (lent : Lent S K L C N) → LeavesOthersAlone words lent lent
leaves_all words lent = λ command are. none_touched command
  where
    none_touched : (command : Command) → LeavesAlone command lent lent
    none_touched (Relay turns muxes) = tt
    none_touched (RelayJoined turns) = tt
    none_touched (Demo calls start workers) = (refl, refl, refl, refl)
    none_touched Migrate = (refl, refl, refl)
    none_touched other = (refl, refl)

-- all of a demonstration's events were taken
pub all_taken : (status : Status) (events : List Event) → AreTaken status events events
all_taken Done events = refl
all_taken other events = ([], sym (append-nil events))

-- ---- what a command doesn't answer

pub loop_not : (so : Status → Tellings → Tellings → List ℕ → List ℕ → List ℕ → Type 0) (other : Status) {status : Status} {old new : Tellings} {octets draws out : List ℕ} → (so other old new octets draws out → ⊥)
    → so status old new octets draws out → status ≡ other → ⊥
loop_not so other {status} {old} {new} {octets} {draws} {out} isnt run is = isnt (subst (λ s. so s old new octets draws out) is run)

pub relay_not : (other : Status) {L D : Type 0} {w : Weaves L D} {acts : List D → List Act} {status : Status} {turns : ℕ} {old new : relays.RelayTellings} {p : relays.Passed} → (IsRelay w acts other turns old new p → ⊥)
    → IsRelay w acts status turns old new p → status ≡ other → ⊥
relay_not other {L} {D} {w} {acts} {status} {turns} {old} {new} {p} isnt run is = isnt (subst (λ s. IsRelay w acts s turns old new p) is run)

pub demo_not : (other status : Status) (written written' : Tally) (octets : List ℕ) → (IsShown other written written' octets → ⊥) → IsShown status written written' octets → status ≡ other → ⊥
demo_not other status written written' octets isnt shown is = isnt (subst (λ s. IsShown s written written' octets) is shown)

-- a demonstration is done, or the sink failed or memory ran out
abbrev IsOfDemo : Status → Type 0
IsOfDemo status = (status ≡ Done) ⊎ ((status ≡ Write) ⊎ (status ≡ NoMemory))

of_demo : (status : Status) (written written' : Tally) (octets : List ℕ) → IsShown status written written' octets → IsOfDemo status
of_demo Done written written' octets shown = inl refl
of_demo Write written written' octets shown = inr (inl refl)
of_demo NoMemory written written' octets shown = inr (inr refl)
of_demo other written written' octets shown = absurd shown

-- where the sink didn't fail, a demonstration is done, or memory ran out
pub demo_done : (status : Status) (written written' : Tally) (octets : List ℕ) (old new : ℕ) (failed : Option Bool) → IsShown status written written' octets
    → HasFailed (status ≡ Write) old new failed → ¬ Rose old new → (status ≡ Done) ⊎ (status ≡ NoMemory)
demo_done status written written' octets old new failed shown cause quiet = elim (of_demo status written written' octets shown) [
  | inl done ↦ inl done
  | inr other ↦ elim other [
    | inl write ↦ absurd (quiet (cause.rose write))
    | inr memory ↦ inr memory
  ]
]

-- ---- whose failure it was

-- the end of a command whose datagrams wait for a batch, by the words of the run
pub of_batches : (words : Words) → PlaysInBatches words → (own instead : Type 0) (old new : ℕ) (failed : Option Bool) → EndedBy own instead old new failed → EndedBy own (PlaysInBatches words × instead) old new failed
of_batches words so own instead old new failed ended = record {
  later = ended.later;
  rose = ended.rose;
  told = ended.told;
  quiet = λ isnt other. ended.quiet isnt (λ wants. other (so, wants));
  last = λ isnt other. ended.last isnt other.1;
}
