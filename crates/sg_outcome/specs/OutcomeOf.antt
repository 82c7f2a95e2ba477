-- What an outcome line says: its value, or its first fault.
use Rattle.std.specs.Prelude.{ℕ, ◌-◌, ℤ, pos, negsuc, List, [], ◌∷◌, length, Option, Some, None, option_and_then, option_map, Result, Ok, Err, not, nat_lt, ◌==◌, if◌then◌else◌, codes}
use Rattle.std.specs.List.{find}
use Rattle.std.specs.Str.{bytes_eq}
use Rattle.sg_base.specs.Fields.{number_at}
use Rattle.sg_base.specs.declared.CallId.{CallId}
use Rattle.sg_base.specs.declared.Side.{Side}
use Rattle.sg_base.specs.declared.Side.TheVariants.{Secure, Plain}
use Rattle.sg_base.specs.declared.ScriptFault.{ScriptFault}
use Rattle.sg_base.specs.declared.ScriptFault.TheVariants as script
use Rattle.sg_base.specs.declared.DropCause.{DropCause}
use Rattle.sg_base.specs.declared.DropCause.TheVariants as drops
use Rattle.sg_base.specs.declared.SdpFault.{SdpFault}
use Rattle.sg_base.specs.declared.SdpFault.TheVariants as sdp
use Rattle.sg_base.specs.declared.SdesFault.{SdesFault}
use Rattle.sg_base.specs.declared.SdesFault.TheVariants as sdes
use Rattle.sg_base.specs.declared.MikeyFault.{MikeyFault}
use Rattle.sg_base.specs.declared.MikeyFault.TheVariants as mikey
use Rattle.sg_base.specs.declared.PskFault.{PskFault}
use Rattle.sg_base.specs.declared.PskFault.TheVariants as psk
use Rattle.sg_base.specs.declared.CsFault.{CsFault}
use Rattle.sg_base.specs.declared.CsFault.TheVariants as cs
use Rattle.sg_base.specs.declared.Refusal.{Refusal}
use Rattle.sg_base.specs.declared.Refusal.TheVariants as refusals
use Rattle.sg_outcome.specs.declared.outcomes.Why.{Why}
use Rattle.sg_outcome.specs.declared.outcomes.Why.TheVariants.{Bye, Rejected, Idle}
use Rattle.sg_outcome.specs.declared.outcomes.Outcome.{Outcome}
use Rattle.sg_outcome.specs.declared.outcomes.Outcome.TheVariants.{Made, Live, Sdp, Refused, Ended, Out, Dropped, Unsent}
use Rattle.sg_lines.specs.Fields.{◌>>=◌, or_fault, number_from, call_from, port_from, address_from, hex_from}
use Rattle.sg_lines.specs.LineOf.{fields_of, body_of, is_ended}
use Rattle.sg_outcome.specs.OutcomeText.{side_name, why_name, drop_cause_name, sdp_fault_name, sdes_fault_name, mikey_fault_name, cs_fault_name}
use Rattle.sg_outcome.specs.OutcomeFields.{psk_fault_name, refusal_name}

-- ---- names

abbrev pub sides : List Side
sides = Secure ∷ Plain ∷ []

unfoldable pub side_at : List ℕ → Option Side
side_at text = find (λ x. bytes_eq text (side_name x)) sides

abbrev pub whys : List Why
whys = Bye ∷ Rejected ∷ Idle ∷ []

unfoldable pub why_at : List ℕ → Option Why
why_at text = find (λ x. bytes_eq text (why_name x)) whys

-- the causes without numbers
abbrev pub plain_drop_causes : List DropCause
plain_drop_causes =
    drops.Short ∷ drops.Version ∷ drops.CsrcCut ∷ drops.ExtensionCut ∷ drops.SsrcUnknown ∷ drops.MkiUnknown ∷ drops.BeforeFirst ∷ drops.IndexSpent
    ∷ drops.Repeat ∷ drops.TooOld ∷ drops.BadTag ∷ drops.StreamsFull ∷ drops.RtcpIndexSpent ∷ drops.PortUnused ∷ drops.NotLive ∷ drops.TooLong
    ∷ drops.SourceUnknown ∷ []

unfoldable pub plain_drop_cause_at : List ℕ → Option DropCause
plain_drop_cause_at text = find (λ x. bytes_eq text (drop_cause_name x)) plain_drop_causes

abbrev pub sdp_faults : List SdpFault
sdp_faults = sdp.Order ∷ sdp.Form ∷ sdp.TooLong ∷ sdp.TooManyMedia ∷ sdp.Address ∷ []

unfoldable pub sdp_fault_at : List ℕ → Option SdpFault
sdp_fault_at text = find (λ x. bytes_eq text (sdp_fault_name x)) sdp_faults

abbrev pub sdes_faults : List SdesFault
sdes_faults = sdes.NoLine ∷ sdes.Tag ∷ sdes.Suite ∷ sdes.Key ∷ sdes.Lifetime ∷ sdes.MkiValue ∷ sdes.Parameter ∷ []

unfoldable pub sdes_fault_at : List ℕ → Option SdesFault
sdes_fault_at text = find (λ x. bytes_eq text (sdes_fault_name x)) sdes_faults

abbrev pub mikey_faults : List MikeyFault
mikey_faults = mikey.Cut ∷ mikey.Version ∷ mikey.DataType ∷ mikey.Payload ∷ mikey.Order ∷ mikey.Value ∷ mikey.Trailing ∷ []

unfoldable pub mikey_fault_at : List ℕ → Option MikeyFault
mikey_fault_at text = find (λ x. bytes_eq text (mikey_fault_name x)) mikey_faults

-- the faults without numbers
abbrev pub plain_psk_faults : List PskFault
plain_psk_faults = psk.IdUnknown ∷ psk.BadMac ∷ psk.Repeated ∷ psk.Algorithm ∷ psk.KeyType ∷ psk.CacheFull ∷ psk.OtherSession ∷ []

unfoldable pub plain_psk_fault_at : List ℕ → Option PskFault
plain_psk_fault_at text = find (λ x. bytes_eq text (psk_fault_name x)) plain_psk_faults

abbrev pub cs_faults : List CsFault
cs_faults = cs.CsCount ∷ cs.PolicyMissing ∷ cs.PolicyValue ∷ []

unfoldable pub cs_fault_at : List ℕ → Option CsFault
cs_fault_at text = find (λ x. bytes_eq text (cs_fault_name x)) cs_faults

-- the refusals without numbers
abbrev pub plain_refusals : List Refusal
plain_refusals =
    refusals.RingFull ∷ refusals.NoMedia ∷ refusals.MediaCount ∷ refusals.TableFull ∷ refusals.CallKnown ∷ refusals.CallUnknown ∷ refusals.PskKnown
    ∷ refusals.PskFull ∷ refusals.State ∷ []

unfoldable pub plain_refusal_at : List ℕ → Option Refusal
plain_refusal_at text = find (λ x. bytes_eq text (refusal_name x)) plain_refusals

-- ---- numbers

-- below 0
abbrev pub below : ℕ → Option ℤ
below n = if n == 0 then None else Some (negsuc (n - 1))

-- a minus and a number above 0, or a number; of 64 bits
unfoldable pub signed_at : List ℕ → Option ℤ
signed_at [] = None
signed_at (first ∷ rest) =
    if first == 45 then option_and_then below (number_at 9223372036854775808 rest)
    else option_map pos (number_at 9223372036854775807 (first ∷ rest))

abbrev pub word_from : List ℕ → Result ℕ ScriptFault
word_from text = number_from 4294967295 text

abbrev pub long_from : List ℕ → Result ℕ ScriptFault
long_from text = number_from 18446744073709551615 text

abbrev pub byte_from : List ℕ → Result ℕ ScriptFault
byte_from text = number_from 255 text

-- a call, or a hyphen for none
unfoldable pub some_call_from : List ℕ → Result (Option CallId) ScriptFault
some_call_from text =
    if bytes_eq text (codes "-") then Ok None
    else (call_from text >>= λ call. Ok (Some call))

-- ---- causes, by their fields

unfoldable pub key_spent_from : List ℕ → List ℕ → List ℕ → Result DropCause ScriptFault
key_spent_from name number count =
    if bytes_eq name (codes "KeySpent") then (word_from number >>= λ number. long_from count >>= λ count. Ok (drops.KeySpent number count))
    else Err script.Word

abbrev pub drop_cause_from : List (List ℕ) → Result DropCause ScriptFault
drop_cause_from (name ∷ []) = or_fault script.Word (plain_drop_cause_at name)
drop_cause_from (name ∷ a ∷ b ∷ []) = key_spent_from name a b
drop_cause_from others = Err script.Word

unfoldable pub skew_from : List ℕ → List ℕ → List ℕ → Result PskFault ScriptFault
skew_from name stamp now =
    if bytes_eq name (codes "Skew") then (or_fault script.Number (signed_at stamp) >>= λ stamp. long_from now >>= λ now. Ok (psk.Skew stamp now))
    else Err script.Word

unfoldable pub key_mgmt_from : List ℕ → Result Refusal ScriptFault
key_mgmt_from a = do
  medium ← byte_from a
  Ok (refusals.KeyMgmt medium)

unfoldable pub key_reused_from : List ℕ → Result Refusal ScriptFault
key_reused_from a = do
  number ← word_from a
  Ok (refusals.KeyReused number)

unfoldable pub tick_back_from : List ℕ → Result Refusal ScriptFault
tick_back_from a = do
  last ← long_from a
  Ok (refusals.TickBack last)

unfoldable pub one_number_from : List ℕ → List ℕ → Result Refusal ScriptFault
one_number_from name a =
    if bytes_eq name (codes "KeyMgmt") then key_mgmt_from a
    else if bytes_eq name (codes "KeyReused") then key_reused_from a
    else if bytes_eq name (codes "TickBack") then tick_back_from a
    else Err script.Word

unfoldable pub sdp_from : List ℕ → List ℕ → Result Refusal ScriptFault
sdp_from a b = do
  line ← word_from a
  fault ← or_fault script.Word (sdp_fault_at b)
  Ok (refusals.Sdp line fault)

unfoldable pub sdes_from : List ℕ → List ℕ → Result Refusal ScriptFault
sdes_from a b = do
  medium ← byte_from a
  fault ← or_fault script.Word (sdes_fault_at b)
  Ok (refusals.Sdes medium fault)

unfoldable pub psk_from : List ℕ → List ℕ → Result Refusal ScriptFault
psk_from a b = do
  medium ← byte_from a
  fault ← or_fault script.Word (plain_psk_fault_at b)
  Ok (refusals.Psk medium fault)

unfoldable pub cs_from : List ℕ → List ℕ → Result Refusal ScriptFault
cs_from a b = do
  medium ← byte_from a
  fault ← or_fault script.Word (cs_fault_at b)
  Ok (refusals.Cs medium fault)

unfoldable pub one_fault_from : List ℕ → List ℕ → List ℕ → Result Refusal ScriptFault
one_fault_from name a b =
    if bytes_eq name (codes "Sdp") then sdp_from a b
    else if bytes_eq name (codes "Sdes") then sdes_from a b
    else if bytes_eq name (codes "Psk") then psk_from a b
    else if bytes_eq name (codes "Cs") then cs_from a b
    else Err script.Word

unfoldable pub mikey_from : List ℕ → List ℕ → List ℕ → Result Refusal ScriptFault
mikey_from a b c = do
  medium ← byte_from a
  offset ← word_from b
  fault ← or_fault script.Word (mikey_fault_at c)
  Ok (refusals.Mikey medium offset fault)

unfoldable pub two_numbers_from : List ℕ → List ℕ → List ℕ → List ℕ → Result Refusal ScriptFault
two_numbers_from name a b c = if bytes_eq name (codes "Mikey") then mikey_from a b c else Err script.Word

unfoldable pub psk_skew_from : List ℕ → List ℕ → List ℕ → List ℕ → Result Refusal ScriptFault
psk_skew_from a b c d = do
  medium ← byte_from a
  fault ← skew_from b c d
  Ok (refusals.Psk medium fault)

unfoldable pub fault_with_numbers_from : List ℕ → List ℕ → List ℕ → List ℕ → List ℕ → Result Refusal ScriptFault
fault_with_numbers_from name a b c d = if bytes_eq name (codes "Psk") then psk_skew_from a b c d else Err script.Word

-- by the number of fields, the first one the name
abbrev pub refusal_from : List (List ℕ) → Result Refusal ScriptFault
refusal_from (name ∷ []) = or_fault script.Word (plain_refusal_at name)
refusal_from (name ∷ a ∷ []) = one_number_from name a
refusal_from (name ∷ a ∷ b ∷ []) = one_fault_from name a b
refusal_from (name ∷ a ∷ b ∷ c ∷ []) = two_numbers_from name a b c
refusal_from (name ∷ a ∷ b ∷ c ∷ d ∷ []) = fault_with_numbers_from name a b c d
refusal_from others = Err script.Word

-- ---- outcomes, by the fields behind the word

unfoldable pub made_from : List ℕ → List ℕ → List ℕ → Result Outcome ScriptFault
made_from call slot media = do
  call ← call_from call
  slot ← byte_from slot
  media ← byte_from media
  Ok (Made call slot media)

unfoldable pub live_from : List ℕ → Result Outcome ScriptFault
live_from call = do
  call ← call_from call
  Ok (Live call)

unfoldable pub described_from : List ℕ → List ℕ → List ℕ → Result Outcome ScriptFault
described_from call side text = do
  call ← call_from call
  side ← or_fault script.Word (side_at side)
  text ← hex_from text
  Ok (Sdp call side text)

unfoldable pub refused_from : List ℕ → List (List ℕ) → Result Outcome ScriptFault
refused_from call cause = do
  call ← some_call_from call
  cause ← refusal_from cause
  Ok (Refused call cause)

unfoldable pub ended_from : List ℕ → List ℕ → List ℕ → List ℕ → Result Outcome ScriptFault
ended_from call slot media why = do
  call ← call_from call
  slot ← byte_from slot
  media ← byte_from media
  why ← or_fault script.Word (why_at why)
  Ok (Ended call slot media why)

unfoldable pub out_from : List ℕ → List ℕ → List ℕ → Result Outcome ScriptFault
out_from port to octets = do
  port ← port_from port
  to ← address_from to
  octets ← hex_from octets
  Ok (Out port to octets)

unfoldable pub dropped_from : List ℕ → List (List ℕ) → Result Outcome ScriptFault
dropped_from port cause = do
  port ← port_from port
  cause ← drop_cause_from cause
  Ok (Dropped port cause)

unfoldable pub unsent_from : List ℕ → List ℕ → Result Outcome ScriptFault
unsent_from port to = do
  port ← port_from port
  to ← address_from to
  Ok (Unsent port to)

-- by the word; another number of fields than it has is Word
abbrev pub made_by : List ℕ → List (List ℕ) → Result Outcome ScriptFault
made_by a (b ∷ c ∷ []) = made_from a b c
made_by a others = Err script.Word

abbrev pub live_by : List ℕ → List (List ℕ) → Result Outcome ScriptFault
live_by a [] = live_from a
live_by a others = Err script.Word

abbrev pub described_by : List ℕ → List (List ℕ) → Result Outcome ScriptFault
described_by a (b ∷ c ∷ []) = described_from a b c
described_by a others = Err script.Word

abbrev pub ended_by : List ℕ → List (List ℕ) → Result Outcome ScriptFault
ended_by a (b ∷ c ∷ d ∷ []) = ended_from a b c d
ended_by a others = Err script.Word

abbrev pub out_by : List ℕ → List (List ℕ) → Result Outcome ScriptFault
out_by a (b ∷ c ∷ []) = out_from a b c
out_by a others = Err script.Word

abbrev pub unsent_by : List ℕ → List (List ℕ) → Result Outcome ScriptFault
unsent_by a (b ∷ []) = unsent_from a b
unsent_by a others = Err script.Word

unfoldable pub outcome_by : List ℕ → List ℕ → List (List ℕ) → Result Outcome ScriptFault
outcome_by word a more =
    if bytes_eq word (codes "made") then made_by a more
    else if bytes_eq word (codes "live") then live_by a more
    else if bytes_eq word (codes "sdp") then described_by a more
    else if bytes_eq word (codes "refused") then refused_from a more
    else if bytes_eq word (codes "ended") then ended_by a more
    else if bytes_eq word (codes "out") then out_by a more
    else if bytes_eq word (codes "drop") then dropped_from a more
    else if bytes_eq word (codes "unsent") then unsent_by a more
    else Err script.Word

abbrev pub outcome_from : List (List ℕ) → Result Outcome ScriptFault
outcome_from (word ∷ a ∷ more) = outcome_by word a more
outcome_from others = Err script.Word

-- a line with its end
unfoldable pub outcome_of : List ℕ → Result Outcome ScriptFault
outcome_of octets =
    if nat_lt 70000 (length octets) then Err script.Length
    else if not (is_ended octets) then Err script.Unended
    else outcome_from (fields_of (body_of octets))
