-- Reading line by line: what a text is read as, or its first fault and that line's number.
use Rattle.std.specs.Prelude.{◌≡◌, ℕ, ◌+◌, ◌-◌, List, [], ◌∷◌, length, take, drop, not, Option, Some, None, Result, Ok, Err, nat_le, nat_lt, ◌==◌, ◌&&◌, if◌then◌else◌, is_none, option_map}
use Rattle.std.specs.List.{slice_split}
use Rattle.sg_base.specs.declared.SdpFault.{SdpFault}
use Rattle.sg_base.specs.declared.SdpFault.TheVariants.{Order, Form, TooLong, TooManyMedia, Address}
use Rattle.sg_sdp.specs.declared.faults.ReadSdpFault.{ReadSdpFault}
use Rattle.sg_sdp.specs.declared.faults.ReadSdpFault.TheVariants as errors
use Rattle.sg_sdp.specs.declared.form.MediaLine.{MediaLine}
use Rattle.sg_sdp.specs.declared.medium.Medium.{Medium}
use Rattle.sg_sdp.specs.declared.sdp.Sdp.{Sdp}
use Rattle.sg_sdp.specs.Addresses.{addressed}
use Rattle.sg_sdp.specs.Faults.{Fault, is_in_order, last_part}
use Rattle.sg_sdp.specs.LineForm.{HeadParts, connection_of, has_form, head_of, is_letter, profile_of, view_head, without_cr}
use Rattle.sg_sdp.specs.Parts.{with_last_line, with_medium}

infixl 10 ◌>>=◌
abbrev pub ◌>>=◌ : {A B F : Type 0} → Result A F → (A → Result B F) → Result B F
(Ok x) >>= f = f x
(Err e) >>= f = Err e

abbrev pub at_line : {X : Type 0} → ℕ → Result X SdpFault → Result X Fault
at_line number (Ok x) = Ok x
at_line number (Err f) = Err (number, f)

abbrev pub some_head : Option HeadParts → Result (Option HeadParts) SdpFault
some_head (Some h) = Ok (Some h)
some_head None = Err Form

-- TooLong, then Form; the head of a medium at an `m=` line, and nothing at another
unfoldable pub form_of : ℕ → List ℕ → Result (Option HeadParts) SdpFault
form_of most line =
    if nat_lt most (length line) then Err TooLong
    else if not (has_form line) then Err Form
    else if is_letter 109 line then some_head (head_of (drop 2 line))
    else Ok None

-- a medium with no line yet
unfoldable pub opened : HeadParts → Medium
opened h = record { word = h.word; port = h.port; profile = profile_of h.proto; proto = h.proto; formats = h.formats; address = None; lines = [] }

-- the line in its place: a medium is opened, and another line stands in the part that is open
unfoldable pub placed : Sdp → List ℕ → Option HeadParts → Result Sdp SdpFault
placed s line (Some h) = if length s.media == 4 then Err TooManyMedia else Ok (with_medium (opened h) s)
placed s line None = if is_letter 99 line && is_none (connection_of (drop 2 line)) then Err Address else Ok (with_last_line line s)

-- one line more of at most so many octets: its form, then its order, then its place
unfoldable pub step : ℕ → ℕ → Sdp → List ℕ → Result Sdp SdpFault
step most number s line = do
  head ← form_of most line
  if is_in_order number line then placed s line head else Err Order

-- line by line, from this number on
unfoldable pub steps : ℕ → ℕ → Sdp → List (List ℕ) → Result Sdp Fault
steps most number s [] = Ok s
steps most number s (raw ∷ more) = do
  t ← at_line number (step most number s (without_cr raw))
  steps most (number + 1) t more

-- what is left behind the last line end, which is to be nothing, behind three lines at least
unfoldable pub end_of : ℕ → ℕ → List ℕ → Result (Unit {0}) SdpFault
end_of most number rest =
    if nat_lt most (length rest) then Err TooLong
    else if not (length rest == 0) then Err Form
    else if nat_le number 3 then Err Order
    else Ok tt

abbrev pub none_yet : Sdp
none_yet = record { session = []; media = [] }

-- all parts between line ends
unfoldable pub lines_of : ℕ → List (List ℕ) → Result Sdp Fault
lines_of most parts = do
  s ← steps most 1 none_yet (take (length parts - 1) parts)
  u ← at_line (length parts) (end_of most (length parts) (last_part parts))
  Ok s

-- the description that a text is, or its first fault, where lines have at most so many octets
unfoldable pub description_within : ℕ → List ℕ → Result Sdp Fault
description_within most text = do
  s ← lines_of most (slice_split (λ b. b == 10) text)
  Ok (addressed s)

-- the same within the limits; a text that is too long has that fault at line 0
unfoldable pub description_of : List ℕ → Result Sdp Fault
description_of text = if nat_lt 16384 (length text) then Err (0, TooLong) else description_within 2048 text

-- ---- what a function returned

-- it is what reading gives, unless out of memory
abbrev pub Gives : {X : Type 0} → Result X ReadSdpFault → Result X Fault → Type 0
Gives (Ok x) read = read ≡ Ok x
Gives (Err (errors.Sdp line fault)) read = read ≡ Err (line, fault)
Gives (Err errors.NoMemory) read = Unit {0}

-- the same of a function that changes a value
abbrev pub Changes : {X : Type 0} → Result (Unit {0}) ReadSdpFault → X → Result X Fault → Type 0
Changes (Ok u) new read = read ≡ Ok new
Changes (Err (errors.Sdp line fault)) new read = read ≡ Err (line, fault)
Changes (Err errors.NoMemory) new read = Unit {0}

abbrev pub view_form : Result (Option MediaLine) SdpFault → Result (Option HeadParts) SdpFault
view_form (Ok head) = Ok (option_map view_head head)
view_form (Err f) = Err f
