-- The lines of the demonstration's numbers.
use Rattle.std.specs.Prelude.{ℕ, List, ◌++◌, Ok, Err, codes}
use Rattle.std.specs.Fmt.{decimal}
use Rattle.sg_trace.specs.Output.{IsWritten}
use Rattle.sg_trace.specs.declared.status.Status.{Status}
use Rattle.sg_trace.specs.declared.status.Status.TheVariants.{Done}
use Rattle.sg_demo.specs.declared.summary.Summary.{Summary}
use Rattle.sg_edge.specs.Told.{Tally}

-- a line: a word, a space, a number and a line end
abbrev pub number_line : List ℕ → ℕ → List ℕ
number_line word n = word ++ codes " " ++ decimal n ++ codes "\n"

-- the nine lines, in this order
unfoldable pub summary_text : Summary → List ℕ
summary_text s =
    number_line (codes "calls") s.calls ++ number_line (codes "sealed") s.sealed ++ number_line (codes "arrived") s.arrived
    ++ number_line (codes "out") s.out ++ number_line (codes "repeat") s.repeat ++ number_line (codes "badtag") s.badtag
    ++ number_line (codes "other") s.other ++ number_line (codes "sent") s.sent ++ number_line (codes "opened") s.opened

-- The octets were written, or a prefix of them where the sink failed or memory ran out.
abbrev pub IsShown : Status → Tally → Tally → List ℕ → Type 0
IsShown Done written written' octets = IsWritten (Ok tt) written written' octets
IsShown other written written' octets = IsWritten (Err other) written written' octets
