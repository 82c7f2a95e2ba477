-- MIKEY messages of the pre-shared-key method and the octets that spell them (RFC 3830, 6).
use Rattle.std.specs.Prelude.{◌≡◌, ℕ, ◌<◌, ◌≤◌, ◌^◌, ◌==◌, ◌&&◌, ◌||◌, Bool, true, if◌then◌else◌, List, [], ◌∷◌, ◌++◌, length, map, count_by, slice_index}
use Rattle.std.specs.List.{flat_map, list_all, AllByRecursion}
use Rattle.sg_base.specs.Octets.{be}
use Rattle.sg_mikey.specs.declared.message.CsEntry.{CsEntry}
use Rattle.sg_mikey.specs.declared.message.Message.{Message}
use Rattle.sg_mikey.specs.declared.payload.Payload.{Payload}
use Rattle.sg_mikey.specs.declared.payload.Payload.TheVariants.{Time, Random, Id, Sp, Extension, Kemac, Verify}

-- the number by which the payload before it names a payload (6.1)
abbrev pub payload_number : Payload → ℕ
payload_number (Kemac cipher octets mac tag) = 1
payload_number (Time form stamp) = 5
payload_number (Id form name) = 6
payload_number (Verify mac tag) = 9
payload_number (Sp policy) = 10
payload_number (Random octets) = 11
payload_number (Extension form octets) = 21

-- octets behind their number in one octet; of a longer list the number's lowest octet
abbrev pub short : List ℕ → List ℕ
short octets = be (length octets) 1 ++ octets

-- octets behind their number in two octets; of a longer list the number's lowest two
abbrev pub sized : List ℕ → List ℕ
sized octets = be (length octets) 2 ++ octets

-- type, length, value (6.10)
abbrev pub item_octets : ℕ × List ℕ → List ℕ
item_octets item = item.0 ∷ short item.1

-- a payload behind its next payload's number
abbrev pub body_octets : Payload → List ℕ
body_octets (Kemac cipher octets mac tag) = cipher ∷ (sized octets ++ mac ∷ tag)  -- 6.2
body_octets (Time form stamp) = form ∷ stamp  -- 6.6
body_octets (Id form name) = form ∷ sized name  -- 6.7
body_octets (Verify mac tag) = mac ∷ tag  -- 6.9
body_octets (Sp policy) = policy.number ∷ 0 ∷ sized (flat_map item_octets policy.items)  -- 6.10
body_octets (Random octets) = short octets  -- 6.11
body_octets (Extension form octets) = form ∷ sized octets  -- 6.15

-- the number that names the next payload, 0 where there is none
abbrev pub next_number : List Payload → ℕ
next_number [] = 0
next_number (p ∷ ps) = payload_number p

-- the payloads, each behind the number of the next one
abbrev pub chain_octets : List Payload → List ℕ
chain_octets [] = []
chain_octets (p ∷ ps) = next_number ps ∷ (body_octets p ++ chain_octets ps)

-- a crypto session: its policy, SSRC and ROC (6.1.1)
abbrev pub entry_octets : CsEntry → List ℕ
entry_octets e = e.policy ∷ (be e.ssrc 4 ++ be e.roc 4)

-- The whole message: the common header (6.1) and the payloads. Of a value that is no message the lengths count
-- modulo the room of their fields, so that every value has octets.
abbrev pub message_octets : Message → List ℕ
message_octets m =
    1 ∷ m.kind ∷ next_number m.payloads ∷ (if m.verify then 128 else 0) ∷
    (be m.csb 4 ++ be (length m.map) 1 ++ 0 ∷ (flat_map entry_octets m.map ++ chain_octets m.payloads))

-- ---- lengths and numbers that fit

-- how many octets a MAC has: none with the NULL MAC, 20 with HMAC-SHA-1-160 (6.2)
abbrev pub tag_length : ℕ → ℕ
tag_length mac = if mac == 1 then 20 else 0

abbrev pub FitsItem : ℕ × List ℕ → Type 0
FitsItem item = length item.1 < 2 ^ 8

-- each length fits its field
abbrev pub FitsLengths : Payload → Type 0
FitsLengths (Kemac cipher octets mac tag) = length octets < 2 ^ 16
FitsLengths (Time form stamp) = Unit {0}
FitsLengths (Id form name) = length name < 2 ^ 16
FitsLengths (Verify mac tag) = Unit {0}
FitsLengths (Sp policy) = (length (flat_map item_octets policy.items) < 2 ^ 16) × AllByRecursion FitsItem policy.items
FitsLengths (Random octets) = length octets < 2 ^ 8
FitsLengths (Extension form octets) = length octets < 2 ^ 16

-- numbers that octets can have
abbrev pub AreOctets : List ℕ → Type 0
AreOctets octets = (i : ℕ) → slice_index octets i < 2 ^ 8

-- ---- what a message is

-- the values that a payload may have, beside lengths that fit
abbrev pub HasValues : Payload → Type 0
HasValues (Kemac cipher octets mac tag) = (cipher ≤ 2) × (mac ≤ 1) × (length tag ≡ tag_length mac)
HasValues (Time form stamp) = (form ≤ 1) × (length stamp ≡ 8)
HasValues (Id form name) = form ≤ 1
HasValues (Verify mac tag) = (mac ≤ 1) × (length tag ≡ tag_length mac)
HasValues (Sp policy) = Unit {0}
HasValues (Random octets) = Unit {0}
HasValues (Extension form octets) = Unit {0}

abbrev pub IsPayload : Payload → Type 0
IsPayload p = FitsLengths p × HasValues p

abbrev pub IsEntry : CsEntry → Type 0
IsEntry e = (e.ssrc < 2 ^ 32) × (e.roc < 2 ^ 32)

-- what may stand between the chain's first payloads and its last: ID and general extension, and SP in the
-- initiator's message
abbrev pub is_between : ℕ → ℕ → Bool
is_between kind number = number == 6 || number == 21 || (number == 10 && kind == 0)

-- how the chain begins: T and RAND in the initiator's message, T in the responder's
abbrev pub opening_of : ℕ → List ℕ
opening_of kind = if kind == 0 then 5 ∷ 11 ∷ [] else 5 ∷ []

-- how it ends: KEMAC in the initiator's message, V in the responder's
abbrev pub closing_of : ℕ → ℕ
closing_of kind = if kind == 0 then 1 else 9

-- how many IDs it has at most
abbrev pub most_ids : ℕ → ℕ
most_ids kind = if kind == 0 then 2 else 1

-- The numbers of the payloads of a message of this kind, in their order (RFC 3830, 3.1 and 3.2).
pub record IsChain (kind : ℕ) (numbers : List ℕ) : Type 0 where
  pub between : List ℕ
  pub order : numbers ≡ opening_of kind ++ between ++ closing_of kind ∷ []
  pub only : list_all (is_between kind) between ≡ true
  pub ids : count_by (λ n. n == 6) between ≤ most_ids kind

pub record IsMessage (m : Message) : Type 0 where
  pub kind : m.kind ≤ 1
  pub csb : m.csb < 2 ^ 32
  pub count : length m.map < 2 ^ 8
  pub entries : AllByRecursion IsEntry m.map
  pub payloads : AllByRecursion IsPayload m.payloads
  pub order : IsChain m.kind (map payload_number m.payloads)
