-- What the parts of a bridge tell, one by one.
use Rattle.std.proofs.Common.{◌≡◌, ◌≤◌, ℕ, Bool, false, cond, List, [], ◌∷◌, ◌++◌, length, Some, Result, Ok, Err, refl, sym, ap, ◌∙◌, subst}
use Rattle.std.proofs.lemmas.Grind.{flat_map-append}
use Rattle.std.proofs.lemmas.List.{append-nil}
use Rattle.std.specs.List.{flat_map}
use Rattle.std.specs.Prelude.{OnOk, map, option_to_list}
use Rattle.sg_bridge.specs.Bridge.{gives, happens_as}
use Rattle.sg_bridge.specs.Steps.{AreDone, IsLinePlayed, effects, text_from}
use Rattle.sg_edge.proofs.Links.{added_none}
use Rattle.sg_edge.proofs.Passed.{wrote_more, wrote_none}
use Rattle.sg_edge.specs.Links.{Added}
use Rattle.sg_edge.specs.Told.{Tally, Wrote}
use Rattle.sg_gateway.specs.Events.{events_of_signal, signal_lacks_noise, signal_of}
use Rattle.sg_gateway.specs.Step.{Signalled}
use Rattle.sg_lines.specs.declared.lines.Line.TheVariants as scripts
use Rattle.sg_lines.specs.declared.lines.Signal.{Signal}
use Rattle.sg_outcome.specs.OutcomeText.{outcome_line}
use Rattle.sg_outcome.specs.declared.outcomes.Outcome.{Outcome}
use Rattle.sg_pairs.specs.BridgeText.{bridge_outcome_line}
use Rattle.sg_pairs.specs.Bridged.{Said, Happens, bridging, told_and_parted}
use Rattle.sg_pairs.specs.Pairs.{Members, after_outcome}
use Rattle.sg_pairs.specs.declared.lines.BridgeLine.{BridgeLine}
use Rattle.sg_pairs.specs.declared.lines.BridgeLine.TheVariants as bridge_lines
use Rattle.sg_pairs.specs.declared.outcomes.BridgeOutcome.{BridgeOutcome}
use Rattle.sg_switchboard.proofs.Noted.{signal_noted}
use Rattle.sg_switchboard.proofs.Order.{state_after-append, told_from-append, told_of_one}
use Rattle.sg_switchboard.specs.Switching.{StandsFor, State, SwitchboardValue, Tells, state_after, told_from, told_next}
use Rattle.sg_table.specs.Telling.{IsTold}
use Rattle.sg_trace.proofs.Writings.{written_behind}
use Rattle.sg_trace.specs.Course.{Given}
use Rattle.sg_trace.specs.Loop.{GoInOrder, IsCutShort, deeds_of}
use Rattle.sg_trace.specs.Output.{IsPrefixOf, IsWritten}
use Rattle.sg_trace.specs.Supplying.{IsSupplied}
use Rattle.sg_trace.specs.declared.status.Status.{Status}
use Rattle.sg_trace.specs.declared.status.Status.TheVariants as statuses

-- ---- in order

-- the lines of what is told, joined
abbrev pub lines : List BridgeOutcome → List ℕ
lines told = flat_map bridge_outcome_line told

pub lines-append : (xs ys : List BridgeOutcome) → lines (xs ++ ys) ≡ lines xs ++ lines ys
lines-append xs ys = flat_map-append bridge_outcome_line xs ys

pub text_from-append : (s : State) (xs ys : List Said) → text_from s (xs ++ ys) ≡ text_from s xs ++ text_from (state_after s xs) ys
text_from-append s xs ys = ap lines (told_from-append s xs ys) ∙ lines-append (told_from s xs) (told_from (state_after s xs) ys)

pub in_order : GoInOrder effects
in_order = record { none_told = λ s. refl; none_after = λ s. refl; told = text_from-append; after = state_after-append }

-- ---- what was written

-- a part behind another
pub then_written : (r : Result (Unit {0}) Status) (a b c : Tally) (xs ys : List ℕ) → Wrote a b xs → IsWritten r b c ys → IsWritten r a c (xs ++ ys)
then_written (Ok u) a b c xs ys before wrote = wrote_more a b c xs ys before wrote
then_written (Err status) a b c xs ys before wrote = subst (IsWritten (Err status) a c) (ap (λ (l : List ℕ). xs ++ l) (append-nil ys)) (written_behind status a b c xs ys [] before wrote)

pub cut_written : (status : Status) (a b : Tally) (xs ys : List ℕ) → IsWritten (Err status) a b xs → IsWritten (Err status) a b (xs ++ ys)
cut_written status a b xs ys wrote = written_behind status a a b [] xs ys (wrote_none a) wrote

-- the line of an outcome of the table, and of the pair that it parts
pub next_text : (calls : Members) (o : Outcome) → lines (told_next calls o) ≡ outcome_line o ++ lines (option_to_list (after_outcome calls o).parted)
unfolding bridge_outcome_line
next_text calls o = refl

-- ---- what is said

on_ok : {so : Type 0} (r : Result (Unit {0}) Status) → so → OnOk r so
on_ok (Ok u) is = is
on_ok (Err e) is = tt

-- one thing, by the text of what it tells, or by the one line
one_done : (r : Result (Unit {0}) Status) (s : State) (x : Said) (board : SwitchboardValue) (a b : Tally) (told : List BridgeOutcome) → (bridging s.world s.calls x).told ≡ told → OnOk r (StandsFor board (state_after s (x ∷ [])))
    → IsWritten r a b (lines told) → AreDone r s (x ∷ []) board a b
one_done r s x board a b told is stands wrote = (subst (IsWritten r a b) (ap lines (sym is ∙ sym (told_of_one s x))) wrote, stands)

pub one_told : (r : Result (Unit {0}) Status) (s : State) (x : Said) (board : SwitchboardValue) (a b : Tally) (o : BridgeOutcome) → Tells (bridging s.world s.calls x) o board → IsWritten r a b (bridge_outcome_line o) → AreDone r s (x ∷ []) board a b
one_told r s x board a b o is wrote = one_done r s x board a b (o ∷ []) is.0 (on_ok r is.1) (subst (IsWritten r a b) (sym (append-nil (bridge_outcome_line o))) wrote)

pub signal_done : (r : Result (Unit {0}) Status) (s : State) (signal : Signal) (told : List Outcome) (board board' : SwitchboardValue) (a b : Tally) → signal_lacks_noise signal ≡ false → board.calls ≡ s.calls
    → IsTold told board.table s.world (events_of_signal signal) → OnOk r (board' ≡ record board { calls = (told_and_parted board.calls told).calls }) → IsWritten r a b (lines (told_and_parted board.calls told).told)
    → AreDone r s (Happens (Signalled (signal_of signal)) ∷ []) board' a b
signal_done r s signal told board board' a b ready same is noted wrote =
    let whole = signal_noted s signal told board ready same is in
    one_done r s (Happens (Signalled (signal_of signal))) board' a b (told_and_parted board.calls told).told whole.0 (stands r noted) wrote
  where
    stands : (r : Result (Unit {0}) Status) → OnOk r (board' ≡ record board { calls = (told_and_parted board.calls told).calls }) → OnOk r (StandsFor board' (state_after s (Happens (Signalled (signal_of signal)) ∷ [])))
    stands (Ok u) so = subst (λ (v : SwitchboardValue). StandsFor v (state_after s (Happens (Signalled (signal_of signal)) ∷ []))) (sym so) (signal_noted s signal told board ready same is).1
    stands (Err e) so = tt

-- it was cut short, or more is done behind it
pub cut_done : (status : Status) (s : State) (x : Said) (ys : List Said) (board : SwitchboardValue) (a b : Tally) → AreDone (Err status) s (x ∷ []) board a b → AreDone (Err status) s (x ∷ ys) board a b
cut_done status s x ys board a b done =
    (subst (IsWritten (Err status) a b) (sym (text_from-append s (x ∷ []) ys)) (cut_written status a b (text_from s (x ∷ [])) (text_from (state_after s (x ∷ [])) ys) done.0), tt)

pub then_done : (r : Result (Unit {0}) Status) (s : State) (x : Said) (ys : List Said) (middle board : SwitchboardValue) (a b c : Tally) → AreDone (Ok tt) s (x ∷ []) middle a b → AreDone r (state_after s (x ∷ [])) ys board b c → AreDone r s (x ∷ ys) board a c
then_done r s x ys middle board a b c first then =
    (subst (IsWritten r a c) (sym (text_from-append s (x ∷ []) ys)) (then_written r a b c (text_from s (x ∷ [])) (text_from (state_after s (x ∷ [])) ys) first.0 then.0), then.1)

-- ---- lines

-- a line says this, for which these octets are drawn
abbrev pub Says : BridgeLine → List ℕ → List Said → Type 0
Says l draws said = (more : List ℕ) → gives l (draws ++ more) ≡ Some (record { deeds = said; left = more })

pub signal_says : (signal supplied_as : Signal) (draws : List ℕ) → IsSupplied (Ok supplied_as) signal draws → signal_lacks_noise supplied_as ≡ false
    → Says (bridge_lines.Script (scripts.Signal signal)) draws (Happens (Signalled (signal_of supplied_as)) ∷ [])
signal_says signal supplied_as draws has ready more =
    ap happens_as (has more) ∙ ap (λ (b : Bool). Some (let g : Given Said = record { deeds = map Happens (cond b [] (Signalled (signal_of supplied_as) ∷ [])); left = more } in g)) ready

-- all that it says is done
pub line_played : (l : BridgeLine) (draws : List ℕ) (said : List Said) → length said ≤ 2 → Says l draws said → (r : Result (Unit {0}) Status) (s : State) (board : SwitchboardValue) (a b c d : Tally)
    → Added a b draws → AreDone r s said board c d → IsLinePlayed r l s board a b c d
line_played l draws said few says r s board a b c d drew done = go r done.0 done.1
  where
    cut : (out : List ℕ) → IsPrefixOf out (text_from s said) → IsCutShort effects (gives l) 2 s [] draws out
    cut out is =
        let said_so : said ≡ deeds_of (gives l draws) = sym (ap (λ (d : List ℕ). deeds_of (gives l d)) (sym (append-nil draws)) ∙ ap deeds_of (says [])) in
        record { told = subst (λ (l : List Said). IsPrefixOf out (text_from s l)) said_so is; few = subst (λ (l : List Said). length l ≤ 2) said_so few }

    go : (r : Result (Unit {0}) Status) → IsWritten r c d (text_from s said) → OnOk r (StandsFor board (state_after s said)) → IsLinePlayed r l s board a b c d
    go (Ok u) wrote stands = (
      draws,
      text_from s said,
      drew,
      wrote,
      record {
        fresh = said;
        told = said;
        goes = says;
        alike = record { told = ap (text_from s) (sym (append-nil said)); left = ap (state_after s) (sym (append-nil said)) };
        written = refl;
        left = stands;
      },
    )
    go (Err statuses.Write) wrote stands = (draws, wrote.0, drew, wrote.2, cut wrote.0 wrote.1)
    go (Err statuses.NoMemory) wrote stands = (draws, wrote.0, drew, wrote.2, cut wrote.0 wrote.1)
    go (Err other) wrote stands = absurd wrote

-- a line for which nothing is drawn
pub undrawn_played : (line l : BridgeLine) (said : List Said) → line ≡ l → length said ≤ 2 → Says l [] said → (r : Result (Unit {0}) Status) (s : State) (board : SwitchboardValue) (a c d : Tally) → AreDone r s said board c d
    → IsLinePlayed r line s board a a c d
undrawn_played line l said is few says r s board a c d done = subst (λ (l : BridgeLine). IsLinePlayed r l s board a a c d) (sym is) (line_played l [] said few says r s board a a c d (added_none a) done)
