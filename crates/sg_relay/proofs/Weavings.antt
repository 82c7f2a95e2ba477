-- How a relay's weaving goes on, line by line.
use Rattle.std.proofs.Common.{◌≡◌, ◌+◌, ℕ, List, ◌++◌, length, Ok, sym, ap, ◌∙◌, append_assoc}
use Rattle.sg_lines.proofs.Splits.{lines_of_whole}
use Rattle.sg_relay.proofs.Common.{AtFault, FirstFailsBy, IsWhole, Outside, ScriptFault, Weaves, Woven, behind_line, lines_of, said, spelled_at, stopped}
use Rattle.sg_relay.proofs.Common.{with_deeds, woven_from}

-- a line that is read
pub reads_on : {L D : Type 0} (w : Weaves L D) (began version n at : ℕ) (line rest : List ℕ) (l : L) (top : ℕ) (o : Outside) → IsWhole line → spelled_at w.spelled version n at line ≡ Ok l
    → woven_from w began version n at (lines_of (line ++ rest)) top o ≡ said w began l (woven_from w began (w.followed version l) (n + 1) (at + length line) (lines_of rest)) top o
reads_on w began version n at line rest l top o whole is =
    ap (λ ls. woven_from w began version n at ls top o) (lines_of_whole line rest whole)
    ∙ ap (λ r. behind_line w began version n r (λ v. woven_from w began v (n + 1) (at + length line) (lines_of rest)) top o) is

-- a line outside the grammar
pub stops_at : {L D : Type 0} (w : Weaves L D) (began version n at : ℕ) (octets : List ℕ) (fault : ScriptFault) (top : ℕ) (o : Outside) → FirstFailsBy w.spelled version n at octets fault
    → woven_from w began version n at (lines_of octets) top o ≡ stopped (AtFault n fault) o
stops_at w began version n at octets fault top o first =
    ap (λ ls. woven_from w began version n at ls top o) first.split
    ∙ ap (λ r. behind_line w began version n r (λ v. woven_from w began v (n + 1) (at + length first.line) first.others) top o) first.fails

pub with_deeds_again : {D : Type 0} (ds es : List D) (c : Woven D) → with_deeds ds (with_deeds es c) ≡ with_deeds (ds ++ es) c
with_deeds_again {D} ds es c = ap (λ (l : List D). record c { deeds = l }) (sym (append_assoc ds es c.deeds))
