-- The fields of script lines, each read from all of its text: its value, or its first fault.
use Rattle.std.specs.Prelude.{◌≡◌, ℕ, ◌+◌, List, [], length, Option, Some, None, Result, Ok, Err, nat_le, nat_lt, ◌==◌, ◌&&◌, if◌then◌else◌, codes}
use Rattle.std.specs.List.{list_all}
use Rattle.std.specs.Int.{w32, from_be_bytes}
use Rattle.std.specs.Str.{bytes_eq}
use Rattle.sg_base.specs.declared.Address.{Address}
use Rattle.sg_base.specs.declared.CallId.{CallId}
use Rattle.sg_base.specs.declared.Noise304.{Noise304}
use Rattle.sg_base.specs.declared.ScriptFault.{ScriptFault}
use Rattle.sg_base.specs.declared.ScriptFault.TheVariants.{Word, Number, Hex, Length}
use Rattle.sg_base.specs.Fields.{number_at, cut_at, octets_at, address_at}
use Rattle.sg_base.specs.Identities.{is_printing}
use Rattle.sg_base.specs.Keys.{Master, master_of}
use Rattle.sg_base.specs.Suites.{key_len_of, salt_len_of}
use Rattle.sg_base.specs.SuiteNames.{suite_at}
use Rattle.sg_lines.specs.declared.faults.ReadLineFault.{ReadLineFault}
use Rattle.sg_lines.specs.declared.faults.ReadLineFault.TheVariants as errors

infixl 10 ◌>>=◌
abbrev pub ◌>>=◌ : {A B : Type 0} → Result A ScriptFault → (A → Result B ScriptFault) → Result B ScriptFault
(Ok x) >>= next = next x
(Err fault) >>= next = Err fault

-- a value, or a fault where there is none
abbrev pub or_fault : {A : Type 0} → ScriptFault → Option A → Result A ScriptFault
or_fault fault (Some x) = Ok x
or_fault fault None = Err fault

-- What a function returned is what reading gives, unless out of memory.
abbrev pub Gives : {X : Type 0} → Result X ReadLineFault → Result X ScriptFault → Type 0
Gives (Ok x) read = read ≡ Ok x
Gives (Err (errors.Script fault)) read = read ≡ Err fault
Gives (Err errors.NoMemory) read = Unit {0}

abbrev pub number_from : ℕ → List ℕ → Result ℕ ScriptFault
number_from most text = or_fault Number (number_at most text)

unfoldable pub call_from : List ℕ → Result CallId ScriptFault
call_from text = do
  number ← number_from 4294967295 text
  Ok (record { 0 = number })

abbrev pub port_from : List ℕ → Result ℕ ScriptFault
port_from text = number_from 65535 text

abbrev pub address_from : List ℕ → Result Address ScriptFault
address_from text = or_fault Number (address_at text)

-- pairs of lower-case digits, one pair or more, or a hyphen for no octets
unfoldable pub hex_from : List ℕ → Result (List ℕ) ScriptFault
hex_from text =
    if bytes_eq text (codes "-") then Ok []
    else if length text == 0 then Err Hex
    else or_fault Hex (octets_at text)

-- octets whose number is from the least to the most
unfoldable pub octets_from : ℕ → ℕ → List ℕ → Result (List ℕ) ScriptFault
octets_from least most text = do
  octets ← hex_from text
  if nat_le least (length octets) && nat_le (length octets) most then Ok octets else Err Length

-- a rollover counter: 8 digits
unfoldable pub rollover_from : List ℕ → Result ℕ ScriptFault
rollover_from text = do
  octets ← or_fault Hex (octets_at text)
  if length octets == 4 then Ok (from_be_bytes w32 octets) else Err Hex

-- a replay window
unfoldable pub window_from : List ℕ → Result ℕ ScriptFault
window_from text = do
  window ← number_from 1024 text
  if nat_lt window 64 then Err Number else Ok window

-- noise, or a hyphen where it is to be drawn
unfoldable pub noise_from : List ℕ → Result (Option Noise304) ScriptFault
noise_from text =
    if bytes_eq text (codes "-") then Ok None
    else (octets_from 304 304 text >>= λ octets. Ok (Some (record { 0 = octets })))

-- a suite's name, a colon, and the octets of its key and salt
unfoldable pub key_from : List ℕ → Result Master ScriptFault
key_from text = do
  parts ← or_fault Word (cut_at 58 text)
  suite ← or_fault Word (suite_at parts.0)
  octets ← octets_from (key_len_of suite + salt_len_of suite) (key_len_of suite + salt_len_of suite) parts.1
  Ok (master_of suite octets)

-- the name of a peer
unfoldable pub identity_from : List ℕ → Result (List ℕ) ScriptFault
identity_from text =
    if list_all is_printing text then (if nat_le 1 (length text) && nat_le (length text) 128 then Ok text else Err Length)
    else Err Word
