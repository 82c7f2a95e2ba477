-- What is wrong with a text: the first line that has a fault, and its first fault.
use Rattle.std.specs.Prelude.{◌≡◌, ℕ, ◌+◌, ◌-◌, List, [], ◌∷◌, length, take, drop, map, Bool, true, not, Option, Some, None, is_none, is_some, option_map, Result, Ok, Err, nat_le, nat_lt, ◌==◌, ◌&&◌, ◌||◌, if◌then◌else◌, slice_index_or, codes}
use Rattle.std.specs.List.{slice_split}
use Rattle.std.specs.Option.{option_or}
use Rattle.std.specs.Str.{bytes_eq}
use Rattle.sg_base.specs.declared.SdpFault.{SdpFault}
use Rattle.sg_base.specs.declared.SdpFault.TheVariants.{Order, Form, TooLong, TooManyMedia, Address}
use Rattle.sg_sdp.specs.declared.faults.ReadSdpFault.{ReadSdpFault}
use Rattle.sg_sdp.specs.declared.faults.ReadSdpFault.TheVariants as errors
use Rattle.sg_sdp.specs.LineForm.{connection_of, has_form, head_of, is_letter, without_cr}

-- a line's number, from 1, and what is wrong with the line
abbrev pub Fault : Type 0
Fault = ℕ × SdpFault

abbrev pub at_number : ℕ → Option SdpFault → Option Fault
at_number number fault = option_map (λ f. (number, f)) fault

-- the form of a line, and of an `m=` line its parts too
abbrev pub is_formed : List ℕ → Bool
is_formed line = has_form line && (not (is_letter 109 line) || is_some (head_of (drop 2 line)))

-- `v=0`, an `o=` line and an `s=` line are the first three lines
unfoldable pub is_in_order : ℕ → List ℕ → Bool
is_in_order number line =
    if number == 1 then bytes_eq line (codes "v=0")
    else if number == 2 then is_letter 111 line
    else if number == 3 then is_letter 115 line
    else true

-- The first fault of the line that has this number, behind so many media. A line has at most `most` octets.
unfoldable pub line_fault : ℕ → ℕ → ℕ → List ℕ → Option SdpFault
line_fault most number media line =
    if nat_lt most (length line) then Some TooLong
    else if not (is_formed line) then Some Form
    else if not (is_in_order number line) then Some Order
    else if is_letter 109 line && media == 4 then Some TooManyMedia
    else if is_letter 99 line && is_none (connection_of (drop 2 line)) then Some Address
    else None

-- the first fault of lines from this number on, behind so many media
abbrev pub lines_fault : ℕ → ℕ → ℕ → List (List ℕ) → Option Fault
lines_fault most number media [] = None
lines_fault most number media (line ∷ lines) =
    option_or (at_number number (line_fault most number media line))
    (lines_fault most (number + 1) (if is_letter 109 line then media + 1 else media) lines)

-- the fault of what stands behind the last line end, which is to be nothing, behind three lines at least
unfoldable pub end_fault : ℕ → ℕ → List ℕ → Option SdpFault
end_fault most number rest =
    if nat_lt most (length rest) then Some TooLong
    else if not (length rest == 0) then Some Form
    else if nat_le number 3 then Some Order
    else None

-- the lines of a text that is parted at each LF, and what stands behind the last
abbrev pub whole_lines : List (List ℕ) → List (List ℕ)
whole_lines parts = map without_cr (take (length parts - 1) parts)

abbrev pub last_part : List (List ℕ) → List ℕ
last_part parts = slice_index_or parts (length parts - 1) []

-- the first fault of those
unfoldable pub parts_fault : ℕ → List (List ℕ) → Option Fault
parts_fault most parts = option_or (lines_fault most 1 0 (whole_lines parts)) (at_number (length parts) (end_fault most (length parts) (last_part parts)))

-- The first fault of a text. A text that is too long has that fault at line 0.
unfoldable pub fault_of : List ℕ → Option Fault
fault_of text = if nat_lt 16384 (length text) then Some (0, TooLong) else parts_fault 2048 (slice_split (λ b. b == 10) text)

-- a function answers that fault, or a value where there is none, unless out of memory
abbrev pub Tells : {X : Type 0} → Result X ReadSdpFault → Option Fault → Type 0
Tells (Ok x) fault = fault ≡ None
Tells (Err (errors.Sdp line f)) fault = fault ≡ Some (line, f)
Tells (Err errors.NoMemory) fault = Unit {0}
