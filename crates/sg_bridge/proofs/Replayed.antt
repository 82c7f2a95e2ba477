-- A bridge's trace of a script without lines that join or part is a replay's.
use Rattle.std.proofs.Common.{◌≡◌, ℕ, ◌+◌, ◌^◌, Bool, true, false, cond, List, [], ◌∷◌, ◌++◌, length, map, Option, Some, None, Result, Ok, Err, refl, sym, ap, ◌∙◌, subst}
use Rattle.std.proofs.lemmas.List.{map-append}
use Rattle.std.proofs.lemmas.List.Elements.{recursion_from_All}
use Rattle.std.proofs.lemmas.Slice.Eq.{bytes_eq-Decides}
use Rattle.std.specs.List.{AllByRecursion, flat_map}
use Rattle.std.specs.Prelude.{codes, nat_lt}
use Rattle.std.specs.Str.{bytes_eq}
use Rattle.sg_base.specs.declared.faults.ScriptFault.{ScriptFault}
use Rattle.sg_base.specs.declared.faults.ScriptFault.TheVariants.{Length}
use Rattle.sg_bridge.specs.Bridge.{bridge_trace, happens_as, of_bridge}
use Rattle.sg_bridge.specs.Replayed.{BeginsWith, IsPlayedAlike, JoinsNone}
use Rattle.sg_gateway.specs.Drawn.{Supplied, supplied}
use Rattle.sg_gateway.specs.Events.{events_of}
use Rattle.sg_gateway.specs.Runs.{outcomes}
use Rattle.sg_gateway.specs.Step.{Event}
use Rattle.sg_lines.specs.LineOf.{body_of, fields_of, line_of, version_after}
use Rattle.sg_lines.specs.ScriptLines.{lines_of}
use Rattle.sg_lines.specs.declared.lines.Line.{Line}
use Rattle.sg_outcome.specs.OutcomeText.{outcome_line}
use Rattle.sg_outcome.specs.declared.outcomes.Outcome.{Outcome}
use Rattle.sg_pairs.proofs.BridgeFrames.{bridge_line_is}
use Rattle.sg_pairs.specs.BridgeLines.{bridge_line_of, bridge_said_by, is_script_line, join_from, of_script, part_from}
use Rattle.sg_pairs.specs.BridgeText.{bridge_outcome_line}
use Rattle.sg_pairs.specs.Bridged.{Happens, Said, bridged_events, bridged_outcomes}
use Rattle.sg_pairs.specs.Unjoined.{IsToldAsItIs}
use Rattle.sg_pairs.specs.declared.lines.BridgeLine.{BridgeLine}
use Rattle.sg_pairs.specs.declared.outcomes.BridgeOutcome.TheVariants as tells
use Rattle.sg_trace.specs.Course.{Course, behind_given, behind_line, course_from, read_at, with_deeds}
use Rattle.sg_trace.specs.Output.{text}
use Rattle.sg_trace.specs.Trace.{Later, Replays, Trace, after_line, drawing, handled_as, line_at, replayed, trace_from, with_events}

-- ---- a line

abbrev NoWord : List ℕ → Type 0
NoWord line = ¬ BeginsWith (codes "join") line × ¬ BeginsWith (codes "part") line

-- other first words are those of a script's line
other_word : (other : Result BridgeLine ScriptFault) (fields : List (List ℕ)) → ((rest : List (List ℕ)) → fields ≡ codes "join" ∷ rest → ⊥) → ((rest : List (List ℕ)) → fields ≡ codes "part" ∷ rest → ⊥) → bridge_said_by other fields ≡ other
other_word other [] join part = refl
other_word other (word ∷ []) join part = refl
other_word other (word ∷ a ∷ []) join part = go (bytes_eq word (codes "part")) refl
  where
    go : (b : Bool) → bytes_eq word (codes "part") ≡ b → cond b (part_from a) other ≡ other
    go true is = absurd (part (a ∷ []) (ap (λ (w : List ℕ). w ∷ a ∷ []) ((bytes_eq-Decides word (codes "part")).0 is)))
    go false is = refl
other_word other (word ∷ a ∷ b ∷ []) join part = go (bytes_eq word (codes "join")) refl
  where
    go : (t : Bool) → bytes_eq word (codes "join") ≡ t → cond t (join_from a b) other ≡ other
    go true is = absurd (join (a ∷ b ∷ []) (ap (λ (w : List ℕ). w ∷ a ∷ b ∷ []) ((bytes_eq-Decides word (codes "join")).0 is)))
    go false is = refl
other_word other (word ∷ a ∷ b ∷ c ∷ more) join part = refl

line_is : (version n : ℕ) (line : List ℕ) → NoWord line → bridge_line_of version n line ≡ of_script (line_of version n line)
line_is version n line none = bridge_line_is version n line ∙ go (is_script_line n line)
  where
    go : (b : Bool) → cond b (of_script (line_of version n line)) (bridge_said_by (of_script (line_of version n line)) (fields_of (body_of line))) ≡ of_script (line_of version n line)
    go true = refl
    go false = other_word (of_script (line_of version n line)) (fields_of (body_of line)) (λ rest is. none.0 (rest, is)) (λ rest is. none.1 (rest, is))

at_is : (version n at : ℕ) (line : List ℕ) → NoWord line → read_at of_bridge version n at line ≡ of_script (line_at version n at line)
at_is version n at line none =
    ap (λ (r : Result BridgeLine ScriptFault). cond (nat_lt (2 ^ 30) (at + length line)) (Err Length) r) (line_is version n line none) ∙ go (nat_lt (2 ^ 30) (at + length line))
  where
    go : (b : Bool) → cond b (Err Length) (of_script (line_of version n line)) ≡ of_script (cond b (Err Length) (line_of version n line))
    go true = refl
    go false = refl

-- ---- a trace

pub record Matches (b : Course Said) (t : Trace) : Type 0 where
  pub said : b.deeds ≡ map Happens t.events
  pub stop : b.stop ≡ t.stop
  pub left : b.left ≡ t.left.draws

-- what follows a line, in each
abbrev LaterMatch : (List ℕ → Course Said) → Later → ℕ → Type 0
LaterMatch said later top = (draws : List ℕ) → Matches (said draws) (later top (drawing draws))

more_matches : (es : List Event) (b : Course Said) (t : Trace) → Matches b t → Matches (with_deeds (map Happens es) b) (with_events es t)
more_matches es b t is = record { said = ap (λ l. map Happens es ++ l) is.said ∙ sym (map-append Happens es t.events); stop = is.stop; left = is.left }

supplied_matches : (s : Option Supplied) (said : List ℕ → Course Said) (later : Later) (top : ℕ) (draws : List ℕ) → LaterMatch said later top → Matches (behind_given (happens_as s) draws said) (handled_as s later top (drawing draws))
supplied_matches None said later top draws match = record { said = refl; stop = refl; left = refl }
supplied_matches (Some s) said later top draws match = more_matches (events_of s.line) (said s.draws) (later top (drawing s.draws)) (match s.draws)

line_matches : (version n end : ℕ) (r : Result Line ScriptFault) (said : ℕ → List ℕ → Course Said) (later : ℕ → Later) (top : ℕ) (draws : List ℕ) → ((v : ℕ) → LaterMatch (said v) (later v) top)
    → Matches (behind_line of_bridge version n end (of_script r) said draws) (after_line Replays version n r later top (drawing draws))
line_matches version n end (Err fault) said later top draws match = record { said = refl; stop = refl; left = refl }
line_matches version n end (Ok l) said later top draws match = supplied_matches (supplied draws l) (said (version_after version l)) (later (version_after version l)) top draws (match (version_after version l))

lines_match : (ls : List (List ℕ)) → AllByRecursion NoWord ls → (version n at top : ℕ) (draws : List ℕ) → Matches (course_from of_bridge version n at ls draws) (trace_from Replays version n at ls top (drawing draws))
lines_match [] none version n at top draws = record { said = refl; stop = refl; left = refl }
lines_match (l ∷ ls) none version n at top draws =
    subst (λ (r : Result BridgeLine ScriptFault). Matches (behind_line of_bridge version n (at + length l) r (λ v. course_from of_bridge v (n + 1) (at + length l) ls) draws) (trace_from Replays version n at (l ∷ ls) top (drawing draws)))
    (sym (at_is version n at l none.0))
    (line_matches version n (at + length l) (line_at version n at l) (λ v. course_from of_bridge v (n + 1) (at + length l) ls) (λ v. trace_from Replays v (n + 1) (at + length l) ls) top draws
    (λ v draws. lines_match ls none.1 v (n + 1) (at + length l) top draws))

-- ---- what is written

table_line : (o : Outcome) → bridge_outcome_line (tells.Table o) ≡ outcome_line o
unfolding bridge_outcome_line
table_line o = refl

table_text : (os : List Outcome) → flat_map bridge_outcome_line (map tells.Table os) ≡ text os
table_text [] = refl
table_text (o ∷ os) = let one = table_line o in let more = table_text os in (λ i. one i ++ more i)

pub played_alike : ((events : List Event) → IsToldAsItIs events) → (octets draws : List ℕ) → JoinsNone octets → IsPlayedAlike octets draws
played_alike law octets draws none =
    let match = lines_match (lines_of octets) (recursion_from_All NoWord (lines_of octets) none) 1 1 0 0 draws in
    let events : List Event = (replayed octets draws).events in
    let told : bridged_outcomes (bridge_trace octets draws).deeds ≡ map tells.Table (outcomes events) = ap bridged_outcomes match.said ∙ (law events).told in
    record {
      said = match.said;
      stop = match.stop;
      left = match.left;
      events = ap bridged_events match.said ∙ (law events).happen;
      told = told;
      text = ap (flat_map bridge_outcome_line) told ∙ table_text (outcomes events);
    }
