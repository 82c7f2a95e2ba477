-- The octets of a message that base64 spells are octets, and so are those of the keys inside it.
use Rattle.std.proofs.Common.{◌≡◌, ◌⊎◌, inl, inr, ℕ, zero, suc, ◌<◌, List, [], ◌∷◌, ◌++◌, length, Option, Some, None, Result, Ok, Err, refl, ap, subst, arith}
use Rattle.std.proofs.lemmas.Bool.{cases_lt}
use Rattle.std.proofs.lemmas.List.{take_at, drop_at, get_or_past}
use Rattle.std.proofs.lemmas.Nat.{xor_of_8}
use Rattle.std.specs.List.{All, flat_map}
use Rattle.base64.specs.Engines.{standard, standard_no_pad}
use Rattle.base64.specs.GeneralPurpose.{IsBytes, decode_of}
use Rattle.base64.specs.declared.decode.DecodeError.{DecodeError}
use Rattle.sg_base.specs.Octets.{be, xor_octets}
use Rattle.sg_ctr.proofs.StreamLemmas.{counter_stream_octets}
use Rattle.sg_mikey.specs.Reading.{message_of}
use Rattle.sg_mikey.specs.Spelling.{AreOctets, IsMessage, body_octets, chain_octets, entry_octets, message_octets, next_number, sized}
use Rattle.sg_mikey.specs.declared.message.Message.{Message}
use Rattle.sg_mikey.specs.declared.payload.Payload.{Payload}
use Rattle.sg_mikey.specs.declared.payload.Payload.TheVariants.{Time, Random, Id, Sp, Extension, Kemac, Verify}
use Rattle.sg_psk.specs.Envelope.{enciphered}
use Rattle.sg_psk.specs.Parts.{closing_in}
use Rattle.sg_sdes.specs.KeyTexts.{base64_at, ok_of, or_else}
use Rattle.sg_agreement.specs.Attributes.{mikey_octets}
use Rattle.sg_sdes.proofs.DecodedBytes.{decoded_are_bytes, take_bytes, drop_bytes}

-- what sg_mikey's law says
abbrev pub Found : Type 0
Found = (octets : List ℕ) (m : Message) → AreOctets octets → message_of octets ≡ Ok m → IsMessage m × (octets ≡ message_octets m)

-- ---- base64

decoded : (r s : Result (List ℕ) DecodeError) (b : List ℕ) → or_else r (ok_of s) ≡ Some b → (r ≡ Ok b) ⊎ (s ≡ Ok b)
decoded (Ok x) s b e = let f : x ≡ b = cc in inl (ap Ok f)
decoded (Err d) (Ok x) b e = let f : x ≡ b = cc in inr (ap Ok f)
decoded (Err d) (Err f) b e = absurd cc

base64_octets : (text octets : List ℕ) → base64_at text ≡ Some octets → IsBytes octets
unfolding base64_at
base64_octets text octets e = elim (decoded (decode_of standard text) (decode_of standard_no_pad text) octets e) [
  | inl p ↦ decoded_are_bytes standard text octets refl p
  | inr p ↦ decoded_are_bytes standard_no_pad text octets refl p
]

pub value_octets : (value : Option (List ℕ)) (octets : List ℕ) → mikey_octets value ≡ Some octets → AreOctets octets
unfolding mikey_octets
value_octets None octets e = absurd cc
value_octets (Some []) octets e = absurd cc
value_octets (Some (space ∷ text)) octets e = base64_octets text octets e

-- ---- parts of octets

pub rest_octets : (x : ℕ) (xs : List ℕ) → AreOctets (x ∷ xs) → AreOctets xs
rest_octets x xs h i = h (suc i)

first_octets : (xs ys : List ℕ) → AreOctets (xs ++ ys) → AreOctets xs
first_octets xs ys h = subst AreOctets (take_at xs ys (length xs) refl) (take_bytes (length xs) (xs ++ ys) h)

last_octets : (xs ys : List ℕ) → AreOctets (xs ++ ys) → AreOctets ys
last_octets xs ys h = subst AreOctets (drop_at xs ys (length xs) refl) (drop_bytes (length xs) (xs ++ ys) h)

no_octets : AreOctets []
no_octets i = omega arith

behind_body : (p : Payload) (ps : List Payload) → AreOctets (chain_octets (p ∷ ps)) → AreOctets (chain_octets ps)
behind_body p ps h = last_octets (body_octets p) (chain_octets ps) (rest_octets (next_number ps) (body_octets p ++ chain_octets ps) h)

closing_octets : (ps : List Payload) → AreOctets (chain_octets ps) → AreOctets (closing_in ps).octets
unfolding closing_in
closing_octets [] h = no_octets
closing_octets (Kemac cipher octets mac tag ∷ ps) h =
    let body : List ℕ = body_octets (Kemac cipher octets mac tag) in
    let are = first_octets body (chain_octets ps) (rest_octets (next_number ps) (body ++ chain_octets ps) h) in
    last_octets (be (length octets) 2) octets (first_octets (sized octets) (mac ∷ tag) (rest_octets cipher (sized octets ++ mac ∷ tag) are))
closing_octets (Verify mac tag ∷ ps) h = no_octets
closing_octets (Time form stamp ∷ ps) h = closing_octets ps (behind_body (Time form stamp) ps h)
closing_octets (Random octets ∷ ps) h = closing_octets ps (behind_body (Random octets) ps h)
closing_octets (Id form name ∷ ps) h = closing_octets ps (behind_body (Id form name) ps h)
closing_octets (Sp policy ∷ ps) h = closing_octets ps (behind_body (Sp policy) ps h)
closing_octets (Extension form octets ∷ ps) h = closing_octets ps (behind_body (Extension form octets) ps h)

chain_of : (m : Message) → AreOctets (message_octets m) → AreOctets (chain_octets m.payloads)
chain_of m h =
    let rest : List ℕ = flat_map entry_octets m.map ++ chain_octets m.payloads in
    let count : List ℕ = be (length m.map) 1 in
    last_octets (flat_map entry_octets m.map) (chain_octets m.payloads)
    (rest_octets 0 rest (last_octets count (0 ∷ rest) (last_octets (be m.csb 4) (count ++ 0 ∷ rest) (λ i. h (suc (suc (suc (suc i))))))))

pub inside_octets : Found → (octets : List ℕ) (m : Message) → AreOctets octets → message_of octets ≡ Ok m → AreOctets (closing_in m.payloads).octets
inside_octets found octets m are e = closing_octets m.payloads (chain_of m (subst AreOctets (found octets m are e).1 are))

-- ---- under the cipher

stream_are : (xs : List ℕ) → All (λ octet. octet < 256) xs → AreOctets xs
stream_are xs all i =
    elim (cases_lt i (length xs)) [
      | inl lt ↦ all i 0 lt
      | inr le ↦ rw (get_or_past xs i 0 le) (omega arith)
    ]

xor_are : (xs ys : List ℕ) → AreOctets xs → AreOctets ys → AreOctets (xor_octets xs ys)
xor_are [] ys h k i = omega arith
xor_are (x ∷ xs) [] h k i = omega arith
xor_are (x ∷ xs) (y ∷ ys) h k zero = xor_of_8 x y (h 0) (k 0)
xor_are (x ∷ xs) (y ∷ ys) h k (suc i) = xor_are xs ys (rest_octets x xs h) (rest_octets y ys k) i

pub enciphered_octets : (key : List ℕ) (csb : ℕ) (random stamp octets : List ℕ) → AreOctets octets → AreOctets (enciphered key csb random stamp octets)
unfolding enciphered
enciphered_octets key csb random stamp octets h = xor_are octets _ h (stream_are _ (counter_stream_octets _ _ (length octets)))
