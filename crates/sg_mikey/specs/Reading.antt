-- Reading a message from its first octet on, up to the first fault. A reader answers a value and the octets behind
-- it, or a fault and how many octets were left where it shows.
use Rattle.std.specs.Prelude.{◌≡◌, ℕ, zero, suc, ◌+◌, ◌-◌, ◌==◌, ◌&&◌, ◌||◌, nat_lt, nat_le, Bool, true, false, if◌then◌else◌, List, [], ◌∷◌, length, take, drop, Option, Some, None, Result, Ok, Err}
use Rattle.sg_base.specs.Octets.{number_of}
use Rattle.sg_base.specs.declared.MikeyFault.{MikeyFault}
use Rattle.sg_base.specs.declared.MikeyFault.TheVariants as faults
use Rattle.sg_mikey.specs.declared.chain.Stage.{Stage}
use Rattle.sg_mikey.specs.declared.chain.Stage.TheVariants.{BeforeTime}
use Rattle.sg_mikey.specs.declared.faults.Stop.{Stop}
use Rattle.sg_mikey.specs.declared.faults.Halt.{Halt}
use Rattle.sg_mikey.specs.declared.faults.Halt.TheVariants as halts
use Rattle.sg_mikey.specs.declared.faults.ReadMikeyFault.{ReadMikeyFault}
use Rattle.sg_mikey.specs.declared.faults.ReadMikeyFault.TheVariants as refusals
use Rattle.sg_mikey.specs.declared.message.CsEntry.{CsEntry}
use Rattle.sg_mikey.specs.declared.message.Header.{Header}
use Rattle.sg_mikey.specs.declared.message.Message.{Message}
use Rattle.sg_mikey.specs.declared.payload.Payload.{Payload}
use Rattle.sg_mikey.specs.declared.payload.Payload.TheVariants.{Time, Random, Id, Sp, Extension, Kemac, Verify}
use Rattle.sg_mikey.specs.Chain.{stage_after, is_over}
use Rattle.sg_mikey.specs.Spelling.{tag_length}

infixl 10 ◌>>=◌
abbrev pub ◌>>=◌ : {A B : Type 0} → Result A Stop → (A → Result B Stop) → Result B Stop
(Ok x) >>= f = f x
(Err e) >>= f = Err e

-- a fault that shows where these octets are left
abbrev pub stop : List ℕ → MikeyFault → Stop
stop octets fault = record { left = length octets; fault = fault }

-- the message ends too early
abbrev pub cut : Stop
cut = stop [] faults.Cut

-- ---- fields

unfoldable pub octet_at : List ℕ → Result (ℕ × List ℕ) Stop
octet_at [] = Err cut
octet_at (octet ∷ rest) = Ok (octet, rest)

-- an octet that is at most this, else the fault shows there
unfoldable pub up_to_at : ℕ → MikeyFault → List ℕ → Result (ℕ × List ℕ) Stop
up_to_at most fault [] = Err cut
up_to_at most fault (octet ∷ rest) =
    if nat_le octet most then Ok (octet, rest) else Err (stop (octet ∷ rest) fault)

unfoldable pub octets_at : ℕ → List ℕ → Result (List ℕ × List ℕ) Stop
octets_at count octets = if nat_lt (length octets) count then Err cut else Ok (take count octets, drop count octets)

unfoldable pub number_at : ℕ → List ℕ → Result (ℕ × List ℕ) Stop
number_at count octets =
    if nat_lt (length octets) count then Err cut else Ok (number_of (take count octets), drop count octets)

-- as many octets as two octets say
unfoldable pub sized_at : List ℕ → Result (List ℕ × List ℕ) Stop
sized_at octets = do
  size ← number_at 2 octets
  octets_at size.0 size.1

-- the payloads that a chain can name, and 0 for its end
abbrev pub is_number : ℕ → Bool
is_number n = n == 0 || n == 1 || n == 5 || n == 6 || n == 9 || n == 10 || n == 11 || n == 21

-- the next payload's number
unfoldable pub next_at : List ℕ → Result (ℕ × List ℕ) Stop
next_at [] = Err cut
next_at (octet ∷ rest) = if is_number octet then Ok (octet, rest) else Err (stop (octet ∷ rest) faults.Payload)

-- ---- payloads: the payload, the next one's number, and the octets behind

abbrev pub Chained : Type 0
Chained = Payload × ℕ × List ℕ

unfoldable pub kemac_at : List ℕ → Result Chained Stop
kemac_at octets = do
  next ← next_at octets
  cipher ← up_to_at 2 faults.Value next.1
  inner ← sized_at cipher.1
  mac ← up_to_at 1 faults.Value inner.1
  tag ← octets_at (tag_length mac.0) mac.1
  Ok (Kemac cipher.0 inner.0 mac.0 tag.0, next.0, tag.1)

unfoldable pub time_at : List ℕ → Result Chained Stop
time_at octets = do
  next ← next_at octets
  form ← up_to_at 1 faults.Value next.1
  stamp ← octets_at 8 form.1
  Ok (Time form.0 stamp.0, next.0, stamp.1)

unfoldable pub id_at : List ℕ → Result Chained Stop
id_at octets = do
  next ← next_at octets
  form ← up_to_at 1 faults.Value next.1
  name ← sized_at form.1
  Ok (Id form.0 name.0, next.0, name.1)

unfoldable pub verify_at : List ℕ → Result Chained Stop
verify_at octets = do
  next ← next_at octets
  mac ← up_to_at 1 faults.Value next.1
  tag ← octets_at (tag_length mac.0) mac.1
  Ok (Verify mac.0 tag.0, next.0, tag.1)

unfoldable pub random_at : List ℕ → Result Chained Stop
random_at octets = do
  next ← next_at octets
  size ← octet_at next.1
  inner ← octets_at size.0 size.1
  Ok (Random inner.0, next.0, inner.1)

unfoldable pub extension_at : List ℕ → Result Chained Stop
extension_at octets = do
  next ← next_at octets
  form ← octet_at next.1
  inner ← sized_at form.1
  Ok (Extension form.0 inner.0, next.0, inner.1)

-- the type of a policy's item, where the policy has room for a length behind it
unfoldable pub item_type_at : ℕ → List ℕ → Result (ℕ × List ℕ) Stop
item_type_at room [] = Err cut
item_type_at room (octet ∷ rest) = if nat_lt room 2 then Err (stop (octet ∷ rest) faults.Value) else Ok (octet, rest)

-- an item of a policy that has room for so many octets
unfoldable pub item_at : ℕ → List ℕ → Result ((ℕ × List ℕ) × List ℕ) Stop
item_at room octets = do
  kind ← item_type_at room octets
  size ← up_to_at (room - 2) faults.Value kind.1
  value ← octets_at size.0 size.1
  Ok ((kind.0, value.0), value.1)

-- items that fill so many octets; there are no more items than octets
unfoldable pub items_at : ℕ → ℕ → List ℕ → Result (List (ℕ × List ℕ) × List ℕ) Stop
items_at zero room octets = Ok ([], octets)
items_at (suc more) zero octets = Ok ([], octets)
items_at (suc more) (suc room) octets = do
  item ← item_at (suc room) octets
  others ← items_at more (suc room - (2 + length item.0.1)) item.1
  Ok (item.0 ∷ others.0, others.1)

unfoldable pub policy_at : List ℕ → Result Chained Stop
policy_at octets = do
  next ← next_at octets
  number ← octet_at next.1
  protocol ← up_to_at 0 faults.Value number.1
  size ← number_at 2 protocol.1
  items ← items_at size.0 size.0 size.1
  Ok (Sp (record { number = number.0; items = items.0 }), next.0, items.1)

-- the payload of a number
unfoldable pub payload_at : ℕ → List ℕ → Result Chained Stop
payload_at number octets =
    if number == 1 then kemac_at octets
    else if number == 5 then time_at octets
    else if number == 6 then id_at octets
    else if number == 9 then verify_at octets
    else if number == 10 then policy_at octets
    else if number == 11 then random_at octets
    else extension_at octets

-- ---- the chain

abbrev pub in_place : Option Stage → List ℕ → Result Stage Stop
in_place None octets = Err (stop octets faults.Order)
in_place (Some stage) octets = Ok stage

-- The payloads from this stage on, of which the first has this number. Each has an octet at least, so there are no
-- more than octets.
unfoldable pub chain_at : ℕ → ℕ → Stage → ℕ → List ℕ → Result (List Payload × List ℕ) Stop
chain_at zero kind stage next octets = Err cut
chain_at (suc more) kind stage next octets =
    if is_over stage && next == 0 then Ok ([], octets)
    else (in_place (stage_after kind stage next) octets >>= λ behind.
    payload_at next octets >>= λ link.
    chain_at more kind behind link.1 link.2 >>= λ others.
    Ok (link.0 ∷ others.0, others.1))

-- ---- the message

unfoldable pub entry_at : List ℕ → Result (CsEntry × List ℕ) Stop
entry_at octets = do
  policy ← octet_at octets
  ssrc ← number_at 4 policy.1
  roc ← number_at 4 ssrc.1
  Ok (record { policy = policy.0; ssrc = ssrc.0; roc = roc.0 }, roc.1)

unfoldable pub entries_at : ℕ → List ℕ → Result (List CsEntry × List ℕ) Stop
entries_at zero octets = Ok ([], octets)
entries_at (suc count) octets = do
  first ← entry_at octets
  others ← entries_at count first.1
  Ok (first.0 ∷ others.0, others.1)

unfoldable pub version_at : List ℕ → Result (ℕ × List ℕ) Stop
version_at [] = Err cut
version_at (octet ∷ rest) = if octet == 1 then Ok (octet, rest) else Err (stop (octet ∷ rest) faults.Version)

-- the V bit and the PRF, of which there is one
unfoldable pub verify_bit_at : List ℕ → Result (Bool × List ℕ) Stop
verify_bit_at [] = Err cut
verify_bit_at (octet ∷ rest) =
    if octet == 0 then Ok (false, rest)
    else if octet == 128 then Ok (true, rest)
    else Err (stop (octet ∷ rest) faults.Value)

-- the common header up to its map
unfoldable pub header_at : List ℕ → Result (Header × List ℕ) Stop
header_at octets = do
  version ← version_at octets
  kind ← up_to_at 1 faults.DataType version.1
  next ← next_at kind.1
  verify ← verify_bit_at next.1
  csb ← number_at 4 verify.1
  count ← octet_at csb.1
  form ← up_to_at 0 faults.Value count.1
  Ok (record { kind = kind.0; next = next.0; verify = verify.0; csb = csb.0; count = count.0 }, form.1)

-- all octets
unfoldable pub whole_at : List ℕ → Result Message Stop
whole_at octets = do
  header ← header_at octets
  map ← entries_at header.0.count header.1
  chain ← chain_at (length map.1 + 1) header.0.kind BeforeTime header.0.next map.1
  if length chain.1 == 0 then Ok (record {
    kind = header.0.kind;
    verify = header.0.verify;
    csb = header.0.csb;
    map = map.0;
    payloads = chain.0;
  }) else Err (stop chain.1 faults.Trailing)

-- a fault, and the offset of the first octet of the field that shows it
pub record Place : Type 0 where
  pub offset : ℕ
  pub fault : MikeyFault

abbrev pub placed : {A : Type 0} → ℕ → Result A Stop → Result A Place
placed size (Ok x) = Ok x
placed size (Err s) = Err (record { offset = size - s.left; fault = s.fault })

-- THE definition of reading: the message that the octets spell, or the first fault and its offset.
abbrev pub message_of : List ℕ → Result Message Place
message_of octets = placed (length octets) (whole_at octets)

-- ---- what a function returned is what reading gives, unless out of memory

abbrev pub Fails : {A : Type 0} → Halt → Result A Stop → Type 0
Fails halts.NoMemory read = Unit {0}
Fails (halts.At s) read = read ≡ Err s

abbrev pub Gives : {X A : Type 0} → (X → A) → Result X Halt → Result A Stop → Type 0
Gives view (Ok x) read = read ≡ Ok (view x)
Gives view (Err h) read = Fails h read

-- the same of the public answer
abbrev pub Answers : Result Message ReadMikeyFault → Result Message Place → Type 0
Answers (Ok m) read = read ≡ Ok m
Answers (Err refusals.NoMemory) read = Unit {0}
Answers (Err (refusals.Mikey offset fault)) read = read ≡ Err (record { offset = offset; fault = fault })
