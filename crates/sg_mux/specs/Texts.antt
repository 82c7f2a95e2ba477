-- The line by which a description says that RTP and RTCP share a medium's port (RFC 5761, 5.1.1).
use Rattle.std.specs.Prelude.{ℕ, Bool, false, ◌&&◌, not, ◌==◌, nat_lt, if◌then◌else◌, List, [], ◌∷◌, length, slice_index_or, Option, Some, None, Result, Ok, Err}
use Rattle.std.specs.List.{list_any, slice_get}
use Rattle.std.specs.Str.{bytes_eq}
use Rattle.sg_sdp.specs.Descriptions.{spelling}
use Rattle.sg_sdp.specs.Faults.{Fault}
use Rattle.sg_sdp.specs.Parts.{with_media_line}
use Rattle.sg_sdp.specs.Reading.{description_of}
use Rattle.sg_sdp.specs.declared.medium.Medium.{Medium}
use Rattle.sg_sdp.specs.declared.sdp.Sdp.{Sdp}
use Rattle.sg_passages.specs.Passages.{mux_line}

-- ---- marks: of which of up to four media something is true

abbrev pub at_places : (ℕ → Bool) → List Bool
at_places test = test 0 ∷ test 1 ∷ test 2 ∷ test 3 ∷ []

abbrev pub mark : List Bool → ℕ → Bool
mark marks medium = slice_index_or marks medium false

abbrev pub no_marks : List Bool
no_marks = at_places (λ medium. false)

abbrev pub both : List Bool → List Bool → List Bool
both some others = at_places (λ medium. mark some medium && mark others medium)

abbrev pub is_some_marked : List Bool → Bool
is_some_marked marks = list_any (λ m. m) marks

-- there is a medium, and it is such
abbrev pub is_such : (Medium → Bool) → Option Medium → Bool
is_such test None = false
is_such test (Some m) = test m

abbrev pub marks_by : (Medium → Bool) → List Medium → List Bool
marks_by test media = at_places (λ medium. is_such test (slice_get media medium))

-- ---- what offers and answers say

abbrev pub has_mux_line : Medium → Bool
has_mux_line m = list_any (λ line. bytes_eq line mux_line) m.lines

-- a medium with port 0 is refused (RFC 3264, 6)
abbrev pub has_media_port : Medium → Bool
has_media_port m = not (m.port == 0)

-- the media of a text, none where it isn't a description
abbrev pub media_read : Result Sdp Fault → List Medium
media_read (Ok s) = s.media
media_read (Err fault) = []

-- which media of an offer have the line, and which of an answer have a port
abbrev pub offers_mux : List ℕ → List Bool
offers_mux text = marks_by has_mux_line (media_read (description_of text))

abbrev pub answers_port : List ℕ → List Bool
answers_port text = marks_by has_media_port (media_read (description_of text))

-- ---- the line in an answer

-- the line last in that medium, where there is one and it is marked
abbrev pub with_line_if : Bool → ℕ → Sdp → Sdp
with_line_if marked medium s = if marked && nat_lt medium (length s.media) then with_media_line medium mux_line s else s

abbrev pub with_lines : List Bool → Sdp → Sdp
with_lines marks s =
    with_line_if (mark marks 3) 3 (with_line_if (mark marks 2) 2 (with_line_if (mark marks 1) 1 (with_line_if (mark marks 0) 0 s)))

abbrev pub spelled_with : List ℕ → List Bool → Result Sdp Fault → List ℕ
spelled_with text marks (Ok s) = spelling (with_lines marks s)
spelled_with text marks (Err fault) = text

-- The text with the line last in each marked medium, where it is a description and some medium is marked.
abbrev pub with_mux_lines : List ℕ → List Bool → List ℕ
with_mux_lines text marks = if is_some_marked marks then spelled_with text marks (description_of text) else text

-- that text where there is one, else this
abbrev pub or_same : Option (List ℕ) → List ℕ → List ℕ
or_same None text = text
or_same (Some other) text = other
