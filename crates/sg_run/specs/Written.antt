-- What a run writes: the lines of what it tells, in order, and nothing else.
use Rattle.std.specs.Prelude.{◌≡◌, ◌⊎◌, ℕ, Bool, true, false, List, [], ◌∷◌, ◌++◌, map}
use Rattle.std.specs.List.{flat_map}
use Rattle.sg_edge.specs.Links.{Failing, LinkCall, Received}
use Rattle.sg_edge.specs.Links as links
use Rattle.sg_outcome.specs.OutcomeText.{outcome_line}
use Rattle.sg_outcome.specs.declared.outcomes.Outcome.{Outcome}
use Rattle.sg_outcome.specs.declared.outcomes.Outcome.TheVariants.{Out, Unsent}
use Rattle.sg_pairs.specs.BridgeText.{bridge_outcome_line}
use Rattle.sg_pairs.specs.Bridged.{Bridging}
use Rattle.sg_pairs.specs.declared.outcomes.BridgeOutcome.{BridgeOutcome}
use Rattle.sg_pairs.specs.declared.outcomes.BridgeOutcome.TheVariants as tells
use Rattle.sg_passages.specs.Passages.{Passage, plain_passages}
use Rattle.sg_pcap.specs.Skips.{skip_line}
use Rattle.sg_relay.specs.Asked.{receipts_in}
use Rattle.sg_trace.specs.Captured.{Happens, Occurrence, Skipped, captured, captured_events}
use Rattle.sg_trace.specs.Output.{IsPrefixOf}
use Rattle.sg_trace.specs.declared.status.Status.{Status}
use Rattle.sg_trace.specs.declared.status.Status.TheVariants.{Link, NoMemory, Read, Write}

-- ---- a run without a link

-- the lines of what is told, passage by passage
abbrev pub passage_lines : List Passage → List ℕ
passage_lines passages = flat_map outcome_line (flat_map (λ p. p.told) passages)

-- those of a bridge's run
abbrev pub bridging_lines : List Bridging → List ℕ
bridging_lines bridgings = flat_map bridge_outcome_line (flat_map (λ b. b.told) bridgings)

-- At its end a run has written all these octets, or the first of them where the sink failed or memory ran out.
abbrev pub HasWritten : Status → List ℕ → List ℕ → Type 0
HasWritten Write out all = IsPrefixOf out all
HasWritten NoMemory out all = IsPrefixOf out all
HasWritten other out all = out ≡ all

-- ---- a capture

-- The lines of what is met: of each event those of its passage, and of each record that is skipped one, at its place.
abbrev pub lines_met : List Occurrence → List Passage → List ℕ
lines_met [] passages = []
lines_met (Happens e ∷ os) [] = []
lines_met (Happens e ∷ os) (p ∷ ps) = flat_map outcome_line p.told ++ lines_met os ps
lines_met (Skipped number cause ∷ os) passages = skip_line number cause ++ lines_met os passages

-- of what these octets have a run meet, with these drawn
abbrev pub capture_lines : List ℕ → List ℕ → List ℕ
capture_lines octets draws = lines_met (captured octets draws).occurrences (plain_passages (captured_events (captured octets draws).occurrences))

-- of the octets some were played, and of the lines of what these have a run meet the first octets were written
pub record HasWrittenOfFront (octets draws out : List ℕ) : Type 0 where
  pub played : List ℕ
  pub ahead : List ℕ
  pub split : octets ≡ played ++ ahead
  pub within : IsPrefixOf out (capture_lines played draws)

-- At its end a capture's run has written the lines of all that it met; or where the sink failed or memory ran out, the first octets of
-- those of a front.
abbrev pub CaptureHasWritten : Status → List ℕ → List ℕ → List ℕ → List Passage → Type 0
CaptureHasWritten Write octets draws out passages = HasWrittenOfFront octets draws out
CaptureHasWritten NoMemory octets draws out passages = HasWrittenOfFront octets draws out
CaptureHasWritten other octets draws out passages = out ≡ lines_met (captured octets draws).occurrences passages

-- ---- a relay

-- the line of one thing that is told: written always, or where a packet isn't sent
pub data Line : Type 0 where
  Always : List ℕ → Line
  IfUnsent : List ℕ → Line

abbrev pub line_told : Outcome → Line
line_told (Out port to octets) = IfUnsent (outcome_line (Unsent port to))
line_told other = Always (outcome_line other)

abbrev pub bridge_line_told : BridgeOutcome → Line
bridge_line_told (tells.Table (Out port to octets)) = IfUnsent (outcome_line (Unsent port to))
bridge_line_told other = Always (bridge_outcome_line other)

-- the lines of what is told, passage by passage, and of a bridge's run
abbrev pub plain_lines : List Passage → List Line
plain_lines passages = map line_told (flat_map (λ p. p.told) passages)

abbrev pub joined_lines : List Bridging → List Line
joined_lines bridgings = map bridge_line_told (flat_map (λ b. b.told) bridgings)

-- how the send that a call of the link is went
abbrev pub went_by : LinkCall → List Bool
went_by (links.Send port to octets ok) = ok ∷ []
went_by other = []

abbrev pub went_in : List LinkCall → List Bool
went_in calls = flat_map went_by calls

-- What is written of these lines where the sends went so, one for each packet and in order, up to the first packet that has none.
abbrev pub lines_by : List Line → List Bool → List ℕ
lines_by [] sends = []
lines_by (Always line ∷ ls) sends = line ++ lines_by ls sends
lines_by (IfUnsent line ∷ ls) (true ∷ sends) = lines_by ls sends
lines_by (IfUnsent line ∷ ls) (false ∷ sends) = line ++ lines_by ls sends
lines_by (IfUnsent line ∷ ls) [] = []

-- what is written of what is told by then
abbrev pub relay_lines : List LinkCall → (List Received → List Line) → List ℕ
relay_lines calls told_by = lines_by (told_by (receipts_in calls)) (went_in calls)

-- At its end a relay has written all these lines, or of their octets the first where source or sink failed or memory ran out. Where
-- the link failed it has written all that was told before a receive that failed, its last call; or the first lines, each whole.
abbrev pub RelayHasWritten : Status → List LinkCall → List ℕ → (List Received → List Line) → Type 0
RelayHasWritten Read calls out told_by = IsPrefixOf out (relay_lines calls told_by)
RelayHasWritten Write calls out told_by = IsPrefixOf out (relay_lines calls told_by)
RelayHasWritten NoMemory calls out told_by = IsPrefixOf out (relay_lines calls told_by)
RelayHasWritten Link calls out told_by =
    ((before : List LinkCall) × (calls ≡ before ++ links.Receive Failing ∷ []) × (out ≡ relay_lines before told_by))
    ⊎ ((first : List Line) × IsPrefixOf first (told_by (receipts_in calls)) × (out ≡ lines_by first (went_in calls)))
RelayHasWritten other calls out told_by = out ≡ relay_lines calls told_by
