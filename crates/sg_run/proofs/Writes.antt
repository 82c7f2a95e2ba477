-- A run writes the lines of what it tells, and nothing else.
use Rattle.std.proofs.Common.{◌≡◌, inl, inr, ℕ, Option, Bool, true, false, List, [], ◌∷◌, ◌++◌, map, refl, sym, ap, ◌∙◌, subst, append_assoc}
use Rattle.std.proofs.lemmas.Grind.{flat_map-append}
use Rattle.std.proofs.lemmas.List.{append-nil}
use Rattle.std.specs.List.{flat_map}
use Rattle.sg_bridge.specs.Bridge.{IsBridge, bridge_text, bridge_trace, of_bridge}
use Rattle.sg_capture.specs.Capturing.{CaptureEnds, IsCapture, IsCutCapture, IsWholeCapture}
use Rattle.sg_edge.specs.Links.{LinkCall}
use Rattle.sg_edge.specs.Links as links
use Rattle.sg_edge.specs.Told.{Tally}
use Rattle.sg_gateway.specs.Runs.{Turn, turn_of, turns, turns_from}
use Rattle.sg_gateway.specs.Step.{Event, step}
use Rattle.sg_gateway.specs.World.{World, empty}
use Rattle.sg_mux.specs.Muxed.{nobody}
use Rattle.sg_mux.specs.Via.{muxing_after, outcomes_in, passage_at, passages_from, passages_in, stepped}
use Rattle.sg_mux.specs.declared.known.Known.{Known}
use Rattle.sg_outcome.specs.OutcomeText.{outcome_line}
use Rattle.sg_outcome.specs.declared.outcomes.Outcome.{Outcome}
use Rattle.sg_outcome.specs.declared.outcomes.Outcome.TheVariants.{Ended, Made, Out, Unsent}
use Rattle.sg_pairs.proofs.BridgeFrames.{bridge_long, bridge_open, bridge_whole}
use Rattle.sg_pairs.specs.BridgeLines.{bridge_line_of}
use Rattle.sg_pairs.specs.BridgeText.{bridge_outcome_line}
use Rattle.sg_pairs.specs.Bridged.{Bridging, Said, bridged_outcomes, bridging, bridgings, bridgings_from}
use Rattle.sg_pairs.specs.Pairs.{Members, no_members}
use Rattle.sg_pairs.specs.declared.outcomes.BridgeOutcome.{BridgeOutcome}
use Rattle.sg_pairs.specs.declared.outcomes.BridgeOutcome.TheVariants as tells
use Rattle.sg_passages.specs.Passages.{Passage, plain_passages, plainly}
use Rattle.sg_pcap.specs.Skips.{skip_line}
use Rattle.sg_playback.proofs.Replays.{replay_so}
use Rattle.sg_playback.specs.Replay.{IsCutReplay, IsReplay, ReplayEnds, of_replay, output_in}
use Rattle.sg_relay.specs.Asked.{Act, Done as Doing, IsAtNext, IsCutOff, IsDone, IsPart, Sends, Tells, act_of, sends_in, sent_as, sent_of, written_as, written_of}
use Rattle.sg_relay.specs.Joined as joined
use Rattle.sg_relay.specs.Plain as plain
use Rattle.sg_relay.specs.Relay.{IsRelay, Passed, RelayEnds, RelayTellings, deeds_by}
use Rattle.sg_relay.specs.Weaving.{Weaves}
use Rattle.sg_run.proofs.Courses.{begun, ends_open}
use Rattle.sg_run.proofs.Sends.{in_passages}
use Rattle.sg_run.specs.Written.{Always, CaptureHasWritten, HasWritten, HasWrittenOfFront, IfUnsent, Line, RelayHasWritten, bridge_line_told, bridging_lines, capture_lines, joined_lines, line_told, lines_by, lines_met, passage_lines, plain_lines, went_by, went_in}
use Rattle.sg_trace.proofs.Frames.{lines_framed}
use Rattle.sg_trace.specs.Captured.{CaptureStop, Happens, Occurrence, Skipped, captured, captured_events, output_of}
use Rattle.sg_trace.specs.Course.{course}
use Rattle.sg_trace.specs.Loop.{IsCut, LoopEnds, Tellings}
use Rattle.sg_trace.specs.Output.{IsPrefixOf, text}
use Rattle.sg_trace.specs.Reading.{IsFramed}
use Rattle.sg_trace.specs.Trace.{Trace, replayed}
use Rattle.sg_trace.specs.declared.status.Status.{Status}
use Rattle.sg_trace.specs.declared.status.Status.TheVariants.{Capture, Clock, Done, Link, NoMemory, Noise, Read, Script, TurnsSpent, Usage, Write}

-- ---- prefixes

prefix_of : {X : Type 0} (a b c : List X) → IsPrefixOf a b → IsPrefixOf b c → IsPrefixOf a c
prefix_of a b c (r, is) (s, is') = (r ++ s, is' ∙ ap (λ l. l ++ s) is ∙ append_assoc a r s)

begin_all : {X Y : Type 0} (f : X → List Y) (some all : List X) → IsPrefixOf some all → IsPrefixOf (flat_map f some) (flat_map f all)
begin_all f some all (rest, is) = (flat_map f rest, ap (flat_map f) is ∙ flat_map-append f some rest)

-- what grows with what is behind
begin_with : {X Y : Type 0} (f : List X → List Y) → ((a b : List X) → IsPrefixOf (f a) (f (a ++ b))) → (some all : List X) → IsPrefixOf some all → IsPrefixOf (f some) (f all)
begin_with f grows some all (rest, is) = subst (λ l. IsPrefixOf (f some) (f l)) (sym is) (grows some rest)

-- ---- what more events tell

turns_begin : (w : World) (es fs : List Event) → IsPrefixOf (turns_from w es) (turns_from w (es ++ fs))
turns_begin w [] fs = (turns_from w fs, refl)
turns_begin w (e ∷ es) fs = let is = turns_begin (step w e).world es fs in (is.0, ap (λ (l : List Turn). turn_of w e ∷ l) is.1)

passages_begin : (w : World) (calls : List (Option Known)) (es fs : List Event) → IsPrefixOf (passages_from w calls es) (passages_from w calls (es ++ fs))
passages_begin w calls [] fs = (passages_from w calls fs, refl)
passages_begin w calls (e ∷ es) fs =
    let is = passages_begin (stepped w calls e).world (muxing_after w calls e).calls es fs in
    (is.0, ap (λ (l : List Passage). passage_at w calls e ∷ l) is.1)

outcomes_begin : (muxes : Bool) (es fs : List Event) → IsPrefixOf (outcomes_in muxes es) (outcomes_in muxes (es ++ fs))
outcomes_begin true es fs = begin_all (λ p. p.told) _ _ (passages_begin empty nobody es fs)
outcomes_begin false es fs = begin_all (λ t. t.outcomes) _ _ (turns_begin empty es fs)

output_begins : (muxes : Bool) (es fs : List Event) → IsPrefixOf (output_in muxes es) (output_in muxes (es ++ fs))
output_begins muxes es fs = begin_all outcome_line _ _ (outcomes_begin muxes es fs)

-- ---- a replay

all_lines : (muxes : Bool) (events : List Event) → output_in muxes events ≡ passage_lines (passages_in muxes events)
all_lines muxes events = ap text (in_passages muxes events)

module _ (muxes : Bool) (octets draws out : List ℕ) where
  deeds_so : (o : List ℕ) → (course of_replay o draws).deeds ≡ (replayed o draws).events
  deeds_so o = ap (λ (t : Trace). t.events) (replay_so o draws)

  cut_replay : IsCutReplay muxes octets draws out → IsPrefixOf out (passage_lines (passages_in muxes (replayed octets draws).events))
  cut_replay cut =
      let begins : IsPrefixOf (replayed cut.played draws).events (replayed octets draws).events =
      subst (IsPrefixOf (replayed cut.played draws).events) (deeds_so (cut.played ++ cut.ahead) ∙ ap (λ (o : List ℕ). (replayed o draws).events) (sym cut.split))
      (subst (λ (es : List Event). IsPrefixOf es (course of_replay (cut.played ++ cut.ahead) draws).deeds) (deeds_so cut.played) (begun of_replay lines_framed cut.played cut.ahead draws)) in
      subst (IsPrefixOf out) (all_lines muxes (replayed octets draws).events)
      (prefix_of out (output_in muxes (replayed cut.played draws).events) _ (subst (IsPrefixOf out) (sym cut.alike) cut.within)
      (begin_with (output_in muxes) (output_begins muxes) _ _ begins))

  replay_written : (status : Status) (left : Tally) → ReplayEnds muxes status octets draws out left → HasWritten status out (passage_lines (passages_in muxes (replayed octets draws).events))
  replay_written Done left ends = ends.0.told ∙ all_lines muxes (replayed octets draws).events
  replay_written (Script n fault) left ends = ends.0.told ∙ all_lines muxes (replayed octets draws).events
  replay_written Noise left ends = ends.told ∙ all_lines muxes (replayed octets draws).events
  replay_written Read left ends =
      ends.all.told
      ∙ ap (output_in muxes) (sym (deeds_so ends.lines) ∙ ends_open of_replay lines_framed ends.lines ends.part draws ends.unended ∙ deeds_so (ends.lines ++ ends.part) ∙ ap (λ (o : List ℕ). (replayed o draws).events) (sym ends.split))
      ∙ all_lines muxes (replayed octets draws).events
  replay_written Write left ends = cut_replay ends
  replay_written NoMemory left ends = cut_replay ends
  replay_written other left ends = absurd ends

-- ---- a bridge

bridge_framed : IsFramed bridge_line_of
bridge_framed = record { too_long = bridge_long; without_end = bridge_open; with_end = bridge_whole }

bridgings_begin : (w : World) (calls : Members) (ss ts : List Said) → IsPrefixOf (bridgings_from w calls ss) (bridgings_from w calls (ss ++ ts))
bridgings_begin w calls [] ts = (bridgings_from w calls ts, refl)
bridgings_begin w calls (s ∷ ss) ts =
    let is = bridgings_begin (bridging w calls s).world (bridging w calls s).calls ss ts in
    (is.0, ap (λ (l : List Bridging). bridging w calls s ∷ l) is.1)

bridge_begins : (ss ts : List Said) → IsPrefixOf (bridge_text ss) (bridge_text (ss ++ ts))
bridge_begins ss ts = begin_all bridge_outcome_line _ _ (begin_all (λ b. b.told) _ _ (bridgings_begin empty no_members ss ts))

module _ (octets draws out : List ℕ) where
  cut_bridge : IsCut of_bridge bridge_text 2 octets draws out → IsPrefixOf out (bridging_lines (bridgings (bridge_trace octets draws).deeds))
  cut_bridge cut =
      prefix_of out (bridge_text (bridge_trace cut.played draws).deeds) _ (subst (IsPrefixOf out) (sym cut.alike) cut.within)
      (begin_with bridge_text bridge_begins _ _
      (subst (λ (o : List ℕ). IsPrefixOf (bridge_trace cut.played draws).deeds (bridge_trace o draws).deeds) (sym cut.split) (begun of_bridge bridge_framed cut.played cut.ahead draws)))

  bridge_written : (status : Status) (left : Tally) → LoopEnds of_bridge bridge_text 2 status octets draws out left → HasWritten status out (bridging_lines (bridgings (bridge_trace octets draws).deeds))
  bridge_written Done left ends = ends.0.told
  bridge_written (Script n fault) left ends = ends.0.told
  bridge_written Noise left ends = ends.told
  bridge_written Read left ends =
      ends.all.told ∙ ap bridge_text (ends_open of_bridge bridge_framed ends.lines ends.part draws ends.unended ∙ ap (λ (o : List ℕ). (bridge_trace o draws).deeds) (sym ends.split))
  bridge_written Write left ends = cut_bridge ends
  bridge_written NoMemory left ends = cut_bridge ends
  bridge_written other left ends = absurd ends

-- ---- what a relay's acts write

-- an act's line
abbrev line_of : Act → Line
line_of (Tells asks line) = Always line
line_of (Sends port to octets) = IfUnsent (outcome_line (Unsent port to))

abbrev lines_of_acts : List Act → List Line
lines_of_acts acts = map line_of acts

one_act : (a : Act) (ok : Bool) (ls : List Line) (sends : List Bool) → lines_by (line_of a ∷ ls) (sent_as a ok ++ sends) ≡ written_as a ok ++ lines_by ls sends
one_act (Tells asks line) ok ls sends = refl
one_act (Sends port to octets) true ls sends = refl
one_act (Sends port to octets) false ls sends = refl

-- the lines of acts that are done, and what comes behind them
all_acts : (done : List Doing) (ls : List Line) (sends : List Bool) → lines_by (lines_of_acts (map (λ d. d.act) done) ++ ls) (flat_map sent_of done ++ sends) ≡ flat_map written_of done ++ lines_by ls sends
all_acts [] ls sends = refl
all_acts (d ∷ done) ls sends =
    ap (lines_by (line_of d.act ∷ (lines_of_acts (map (λ d. d.act) done) ++ ls))) (append_assoc (sent_of d) (flat_map sent_of done) sends)
    ∙ one_act d.act d.sent (lines_of_acts (map (λ d. d.act) done) ++ ls) (flat_map sent_of done ++ sends)
    ∙ ap (λ (l : List ℕ). written_of d ++ l) (all_acts done ls sends)
    ∙ sym (append_assoc (written_of d) (flat_map written_of done) (lines_by ls sends))

went_so : (calls : List LinkCall) → went_in calls ≡ sends_in calls
went_so [] = refl
went_so (links.Bind port ok ∷ calls) = went_so calls
went_so (links.Unbind port ok ∷ calls) = went_so calls
went_so (links.Receive received ∷ calls) = went_so calls
went_so (links.Send port to octets ok ∷ calls) = ap (λ (l : List Bool). ok ∷ l) (went_so calls)

-- what is written behind acts that are done
behind_done : (acts : List Act) (before last : List LinkCall) (lines : List ℕ) (ls : List Line) → IsDone acts before lines
    → lines_by (lines_of_acts acts ++ ls) (went_in (before ++ last)) ≡ lines ++ lines_by ls (went_in last)
behind_done acts before last lines ls is =
    (λ i. lines_by (lines_of_acts (sym is.of_acts i) ++ ls) ((flat_map-append went_by before last ∙ ap (λ (l : List Bool). l ++ went_in last) (went_so before ∙ is.sent)) i))
    ∙ all_acts is.done ls (went_in last) ∙ ap (λ (l : List ℕ). l ++ lines_by ls (went_in last)) (sym is.written)

done_written : (acts : List Act) (calls : List LinkCall) (out : List ℕ) → IsDone acts calls out → out ≡ lines_by (lines_of_acts acts) (went_in calls)
done_written acts calls out is =
    sym (append-nil out) ∙ sym (behind_done acts calls [] out [] is) ∙ (λ i. lines_by (append-nil (lines_of_acts acts) i) (went_in (append-nil calls i)))

next_written : (others : List Act) (last : List LinkCall) (piece : List ℕ) → IsAtNext others last piece → IsPrefixOf piece (lines_by (lines_of_acts others) (went_in last))
next_written others last piece (inl none) = (lines_by (lines_of_acts others) (went_in last), ap (λ (l : List ℕ). l ++ lines_by (lines_of_acts others) (went_in last)) (sym none.1))
next_written others last piece (inr (next, rest, is, untold)) =
    let ls : List Line = lines_of_acts rest in
    let part : List ℕ = untold.written.0 in (
      part ++ lines_by ls [],
      (λ i. lines_by (lines_of_acts (is i)) ((went_so last ∙ untold.sends ∙ sym (append-nil (sent_as next untold.sent))) i))
          ∙ one_act next untold.sent ls []
          ∙ ap (λ (l : List ℕ). l ++ lines_by ls []) untold.written.1
          ∙ append_assoc piece part (lines_by ls []),
    )

lines_append : (xs ys : List Act) → lines_of_acts (xs ++ ys) ≡ lines_of_acts xs ++ lines_of_acts ys
lines_append [] ys = refl
lines_append (x ∷ xs) ys = ap (λ (l : List Line). line_of x ∷ l) (lines_append xs ys)

part_written : (acts : List Act) (calls : List LinkCall) (out : List ℕ) → IsPart acts calls out → IsPrefixOf out (lines_by (lines_of_acts acts) (went_in calls))
part_written acts calls out part =
    let next = next_written part.others part.last part.piece part.next in (
      next.0,
      (λ i. lines_by ((ap lines_of_acts part.acts_are ∙ lines_append part.done part.others) i) (went_in (part.calls_are i)))
          ∙ behind_done part.done part.before part.last part.lines (lines_of_acts part.others) part.whole
          ∙ ap (λ (l : List ℕ). part.lines ++ l) next.1
          ∙ sym (append_assoc part.lines part.piece next.0)
          ∙ ap (λ (l : List ℕ). l ++ next.0) (sym part.out_is),
    )

-- ---- what a relay writes

module _ {L D : Type 0} (w : Weaves L D) (acts : List D → List Act) (told : List D → List Line) (law : (ds : List D) → lines_of_acts (acts ds) ≡ told ds) where
  all_written : (calls : List LinkCall) (out : List ℕ) (ds : List D) → IsDone (acts ds) calls out → out ≡ lines_by (told ds) (went_in calls)
  all_written calls out ds is = done_written (acts ds) calls out is ∙ ap (λ (ls : List Line). lines_by ls (went_in calls)) (law ds)

  first_written : (calls : List LinkCall) (out : List ℕ) (ds : List D) → IsPart (acts ds) calls out → IsPrefixOf out (lines_by (told ds) (went_in calls))
  first_written calls out ds part = subst (λ (ls : List Line). IsPrefixOf out (lines_by ls (went_in calls))) (law ds) (part_written (acts ds) calls out part)

  cut_written : (calls : List LinkCall) (out : List ℕ) (ds : List D) → IsCutOff (acts ds) calls out → (first : List Line) × IsPrefixOf first (told ds) × (out ≡ lines_by first (went_in calls))
  cut_written calls out ds cut = (
    lines_of_acts cut.done,
    (lines_of_acts (cut.next ∷ cut.others), sym (law ds) ∙ ap lines_of_acts cut.acts_are ∙ lines_append cut.done (cut.next ∷ cut.others)),
    done_written cut.done cut.before out cut.whole
        ∙ ap (lines_by (lines_of_acts cut.done))
        (sym (append-nil (went_in cut.before)) ∙ (λ i. went_in cut.before ++ (sym (went_so cut.last ∙ cut.fails.unsent)) i) ∙ sym (flat_map-append went_by cut.before cut.last) ∙ ap went_in (sym cut.calls_are)),
  )

  relay_written : (s : Status) (turns : ℕ) (p : Passed) (left : Tally) → RelayEnds w acts s turns p left → RelayHasWritten s p.calls p.out (λ receipts. told (deeds_by w p receipts))
  relay_written Done turns p left ends = all_written p.calls p.out _ ends.0.done
  relay_written (Script n fault) turns p left ends = all_written p.calls p.out _ ends.0.done
  relay_written TurnsSpent turns p left ends = all_written p.calls p.out _ ends.0.done
  relay_written Clock turns p left ends = all_written p.calls p.out _ ends.0.done
  relay_written Noise turns p left ends = all_written p.calls p.out _ ends.done
  relay_written Link turns p left (inl (before, failed, whole)) = inl (before, failed, all_written before p.out _ whole.done)
  relay_written Link turns p left (inr cut) = inr (cut_written p.calls p.out _ cut)
  relay_written Usage turns p left ends = absurd ends
  relay_written (Capture offset fault) turns p left ends = absurd ends
  relay_written Read turns p left ends = first_written p.calls p.out _ ends.part
  relay_written Write turns p left ends = first_written p.calls p.out _ ends.part
  relay_written NoMemory turns p left ends = first_written p.calls p.out _ ends.part

  -- by the relay as it ended
  writes : (s : Status) (turns : ℕ) (old new : RelayTellings) (p : Passed) → IsRelay w acts s turns old new p → RelayHasWritten s p.calls p.out (λ receipts. told (deeds_by w p receipts))
  writes s turns old new p is = relay_written s turns p new.left is.ends

map_both : {X Y Z : Type 0} (g : Y → Z) (f : X → Y) (h : X → Z) → ((x : X) → g (f x) ≡ h x) → (xs : List X) → map g (map f xs) ≡ map h xs
map_both g f h same [] = refl
map_both g f h same (x ∷ xs) = (λ i. same x i ∷ map_both g f h same xs i)

act_line : (o : Outcome) → line_of (act_of o) ≡ line_told o
act_line (Made call slot media) = refl
act_line (Ended call slot media why) = refl
act_line (Out port to octets) = refl
act_line other = refl

bridge_act_line : (o : BridgeOutcome) → line_of (joined.act_of_bridge o) ≡ bridge_line_told o
unfolding bridge_outcome_line
bridge_act_line (tells.Table (Made call slot media)) = refl
bridge_act_line (tells.Table (Ended call slot media why)) = refl
bridge_act_line (tells.Table (Out port to octets)) = refl
bridge_act_line (tells.Table other) = refl
bridge_act_line other = refl

pub plain_writes : (muxes : Bool) (s : Status) (turns : ℕ) (old new : RelayTellings) (p : Passed) → IsRelay plain.weaves (plain.acts muxes) s turns old new p
    → RelayHasWritten s p.calls p.out (λ receipts. plain_lines (passages_in muxes (deeds_by plain.weaves p receipts)))
plain_writes muxes = writes plain.weaves (plain.acts muxes) (λ events. plain_lines (passages_in muxes events))
    (λ events. map_both line_of act_of line_told act_line (outcomes_in muxes events) ∙ ap (map line_told) (in_passages muxes events))

pub joined_writes : (s : Status) (turns : ℕ) (old new : RelayTellings) (p : Passed) → IsRelay joined.weaves joined.acts s turns old new p
    → RelayHasWritten s p.calls p.out (λ receipts. joined_lines (bridgings (deeds_by joined.weaves p receipts)))
joined_writes = writes joined.weaves joined.acts (λ said. joined_lines (bridgings said))
    (λ said. map_both line_of joined.act_of_bridge bridge_line_told bridge_act_line (bridged_outcomes said))

-- ---- a capture

met_lines : (w : World) (os : List Occurrence) → output_of w os ≡ lines_met os (map plainly (turns_from w (captured_events os)))
met_lines w [] = refl
met_lines w (Happens e ∷ os) = (λ i. text (append-nil (step w e).outcomes i) ++ met_lines (step w e).world os i)
met_lines w (Skipped number cause ∷ os) = ap (λ (l : List ℕ). skip_line number cause ++ l) (met_lines w os)

module _ (octets draws out : List ℕ) where
  capture_so : (o : List ℕ) → output_of empty (captured o draws).occurrences ≡ capture_lines o draws
  capture_so o = met_lines empty (captured o draws).occurrences

  cut_capture : IsCutCapture octets draws out → HasWrittenOfFront octets draws out
  cut_capture cut = record { played = cut.played; ahead = cut.ahead; split = cut.split; within = subst (IsPrefixOf out) (sym cut.alike ∙ capture_so cut.played) cut.within }

  stopped_capture : (stop : CaptureStop) → IsWholeCapture octets draws out stop → out ≡ capture_lines octets draws
  stopped_capture stop whole = whole.told ∙ capture_so octets

  capture_written : (status : Status) (left : Tally) → CaptureEnds status octets draws out left → CaptureHasWritten status octets draws out (plain_passages (captured_events (captured octets draws).occurrences))
  capture_written Done left (inl whole, ended) = stopped_capture _ whole
  capture_written Done left (inr whole, ended) = stopped_capture _ whole
  capture_written (Script n fault) left ends = stopped_capture _ ends.0
  capture_written (Capture offset fault) left ends = stopped_capture _ ends.0
  capture_written Noise left ends = stopped_capture _ ends
  capture_written Read left ends = ends.told ∙ capture_so octets
  capture_written Write left ends = cut_capture ends
  capture_written NoMemory left ends = cut_capture ends
  capture_written other left ends = absurd ends

-- ---- by the runs

pub replay_writes : (muxes : Bool) (status : Status) (old new : Tellings) (octets draws out : List ℕ) → IsReplay muxes status old new octets draws out
    → HasWritten status out (passage_lines (passages_in muxes (replayed octets draws).events))
replay_writes muxes status old new octets draws out is = replay_written muxes octets draws out status new.left is.ends

pub bridge_writes : (status : Status) (old new : Tellings) (octets draws out : List ℕ) → IsBridge status old new octets draws out
    → HasWritten status out (bridging_lines (bridgings (bridge_trace octets draws).deeds))
bridge_writes status old new octets draws out is = bridge_written octets draws out status new.left is.ends

pub capture_writes : (status : Status) (old new : Tellings) (octets draws out : List ℕ) → IsCapture status old new octets draws out
    → CaptureHasWritten status octets draws out (plain_passages (captured_events (captured octets draws).occurrences))
capture_writes status old new octets draws out is = capture_written octets draws out status new.left is.ends

-- nothing was written
pub none_written : (all : List ℕ) → IsPrefixOf [] all
none_written all = (all, refl)
