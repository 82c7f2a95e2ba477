-- What a line of a script says: its value, or its first fault.
use Rattle.std.specs.Prelude.{ℕ, ◌-◌, List, [], ◌∷◌, length, take, Bool, not, Result, Ok, Err, nat_lt, ◌==◌, ◌&&◌, if◌then◌else◌, slice_index, codes}
use Rattle.std.specs.Bool.{beq}
use Rattle.std.specs.List.{slice_split}
use Rattle.std.specs.Str.{bytes_eq}
use Rattle.sg_base.specs.declared.ScriptFault.{ScriptFault}
use Rattle.sg_base.specs.declared.ScriptFault.TheVariants.{Word, Length, Version, Unended}
use Rattle.sg_base.specs.Suites.{is_raw}
use Rattle.sg_lines.specs.declared.lines.Line.{Line}
use Rattle.sg_lines.specs.declared.lines.Line.TheVariants as lines
use Rattle.sg_lines.specs.declared.lines.Signal.TheVariants.{Tick, Psk, Manual, OfferSecure, OfferSdes, OfferMikey, Answer, Reject, Bye}
use Rattle.sg_lines.specs.Fields.{◌>>=◌, number_from, call_from, port_from, address_from, octets_from, rollover_from, window_from, noise_from, key_from, identity_from}

unfoldable pub tick_from : List ℕ → Result Line ScriptFault
tick_from now = do
  now ← number_from 2085978495999 now
  Ok (lines.Signal (Tick now))

unfoldable pub reject_from : List ℕ → Result Line ScriptFault
reject_from call = do
  call ← call_from call
  Ok (lines.Signal (Reject call))

unfoldable pub bye_from : List ℕ → Result Line ScriptFault
bye_from call = do
  call ← call_from call
  Ok (lines.Signal (Bye call))

unfoldable pub datagram_from : List ℕ → List ℕ → List ℕ → Result Line ScriptFault
datagram_from port from octets = do
  port ← port_from port
  from ← address_from from
  octets ← octets_from 0 4352 octets
  Ok (lines.Datagram port from octets)

-- a datagram with its moment
unfoldable pub datagram_at_from : List ℕ → List ℕ → List ℕ → List ℕ → Result Line ScriptFault
datagram_at_from now port from octets = do
  now ← number_from 2085978495999 now
  port ← port_from port
  from ← address_from from
  octets ← octets_from 0 4352 octets
  Ok (lines.DatagramAt now port from octets)

unfoldable pub psk_from : List ℕ → List ℕ → List ℕ → Result Line ScriptFault
psk_from own peer key = do
  own ← identity_from own
  peer ← identity_from peer
  key ← octets_from 16 64 key
  Ok (lines.Signal (Psk own peer key))

unfoldable pub offer_secure_from : List ℕ → List ℕ → List ℕ → Result Line ScriptFault
offer_secure_from call noise text = do
  call ← call_from call
  noise ← noise_from noise
  text ← octets_from 0 32768 text
  Ok (lines.Signal (OfferSecure call noise text))

unfoldable pub offer_sdes_from : List ℕ → List ℕ → List ℕ → Result Line ScriptFault
offer_sdes_from call noise text = do
  call ← call_from call
  noise ← noise_from noise
  text ← octets_from 0 32768 text
  Ok (lines.Signal (OfferSdes call noise text))

unfoldable pub offer_mikey_from : List ℕ → List ℕ → List ℕ → List ℕ → Result Line ScriptFault
offer_mikey_from call peer noise text = do
  call ← call_from call
  peer ← identity_from peer
  noise ← noise_from noise
  text ← octets_from 0 32768 text
  Ok (lines.Signal (OfferMikey call peer noise text))

unfoldable pub answer_from : List ℕ → List ℕ → List ℕ → Result Line ScriptFault
answer_from call noise text = do
  call ← call_from call
  noise ← noise_from noise
  text ← octets_from 0 32768 text
  Ok (lines.Signal (Answer call noise text))

-- both keys are raw or neither is; this rule comes behind all fields
unfoldable pub manual_from : List ℕ → List ℕ → List ℕ → List ℕ → List ℕ → List ℕ → List ℕ → Result Line ScriptFault
manual_from call secure plain rollover window from_peer to_peer = do
  call ← call_from call
  secure ← address_from secure
  plain ← address_from plain
  rollover ← rollover_from rollover
  window ← window_from window
  from_peer ← key_from from_peer
  to_peer ← key_from to_peer
  if beq (is_raw from_peer.suite) (is_raw to_peer.suite)
      then Ok (lines.Signal (Manual call secure plain rollover window from_peer to_peer))
      else Err Word

-- by the number of fields, the first one the word
unfoldable pub two_fields : List ℕ → List ℕ → Result Line ScriptFault
two_fields word a =
    if bytes_eq word (codes "tick") then tick_from a
    else if bytes_eq word (codes "reject") then reject_from a
    else if bytes_eq word (codes "bye") then bye_from a
    else Err Word

-- a datagram has no moment in version 1
unfoldable pub four_fields : ℕ → List ℕ → List ℕ → List ℕ → List ℕ → Result Line ScriptFault
four_fields version word a b c =
    if bytes_eq word (codes "in") && not (version == 2) then datagram_from a b c
    else if bytes_eq word (codes "psk") then psk_from a b c
    else if bytes_eq word (codes "offer-secure") then offer_secure_from a b c
    else if bytes_eq word (codes "answer") then answer_from a b c
    else Err Word

-- a datagram has its moment in version 2; an offer from the plain side names its exchange behind the call
unfoldable pub five_fields : ℕ → List ℕ → List ℕ → List ℕ → List ℕ → List ℕ → Result Line ScriptFault
five_fields version word a b c d =
    if bytes_eq word (codes "in") && version == 2 then datagram_at_from a b c d
    else if bytes_eq word (codes "offer-plain") && bytes_eq b (codes "sdes") then offer_sdes_from a c d else Err Word

unfoldable pub six_fields : List ℕ → List ℕ → List ℕ → List ℕ → List ℕ → List ℕ → Result Line ScriptFault
six_fields word a b c d e =
    if bytes_eq word (codes "offer-plain") && bytes_eq b (codes "mikey") then offer_mikey_from a c d e else Err Word

unfoldable pub eight_fields : List ℕ → List ℕ → List ℕ → List ℕ → List ℕ → List ℕ → List ℕ → List ℕ → Result Line ScriptFault
eight_fields word a b c d e f g = if bytes_eq word (codes "manual") then manual_from a b c d e f g else Err Word

abbrev pub more_fields : ℕ → List ℕ → List ℕ → List ℕ → List ℕ → List (List ℕ) → Result Line ScriptFault
more_fields version word a b c [] = four_fields version word a b c
more_fields version word a b c (d ∷ []) = five_fields version word a b c d
more_fields version word a b c (d ∷ e ∷ []) = six_fields word a b c d e
more_fields version word a b c (d ∷ e ∷ f ∷ g ∷ []) = eight_fields word a b c d e f g
more_fields version word a b c others = Err Word

abbrev pub said_by : ℕ → List (List ℕ) → Result Line ScriptFault
said_by version (word ∷ a ∷ []) = two_fields word a
said_by version (word ∷ a ∷ b ∷ c ∷ more) = more_fields version word a b c more
said_by version others = Err Word

-- the fields of a line without its end: what stands between single spaces
abbrev pub fields_of : List ℕ → List (List ℕ)
fields_of body = slice_split (λ b. b == 32) body

-- the line without its last octet
abbrev pub body_of : List ℕ → List ℕ
body_of octets = take (length octets - 1) octets

-- the last octet is a line end
abbrev pub is_ended : List ℕ → Bool
is_ended octets = slice_index octets (length octets - 1) == 10

-- the first line is one of the two headers, which name the version
abbrev pub header_from : List ℕ → Result Line ScriptFault
header_from body =
    if bytes_eq body (codes "srtpgw 1") then Ok lines.Header
    else if bytes_eq body (codes "srtpgw 2") then Ok lines.HeaderTwo
    else Err Version

-- the version of what follows a line
abbrev pub version_after : ℕ → Line → ℕ
version_after version lines.Header = 1
version_after version lines.HeaderTwo = 2
version_after version other = version

-- the line of that number, from 1, with its end, in a script of that version; which it is, the first line says
unfoldable pub line_of : ℕ → ℕ → List ℕ → Result Line ScriptFault
line_of version number octets =
    if nat_lt 70000 (length octets) then Err Length
    else if not (is_ended octets) then Err Unended
    else if number == 1 then header_from (body_of octets)
    else said_by version (fields_of (body_of octets))
