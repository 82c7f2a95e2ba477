-- A message that the gateway sends ends with its MAC, and what stands before the MAC doesn't depend on it.
use Rattle.std.proofs.Common.{◌≡◌, ℕ, ◌-◌, Bool, cond, List, [], ◌∷◌, ◌++◌, length, take, refl, sym, ap, ◌∙◌, arith, append_assoc, length-append}
use Rattle.std.proofs.lemmas.List.{append-nil}
use Rattle.std.specs.List.{flat_map}
use Rattle.sg_base.specs.Octets.{be}
use Rattle.sg_mikey.specs.Spelling.{payload_number, body_octets, next_number, chain_octets, entry_octets, message_octets}
use Rattle.sg_mikey.specs.declared.message.CsEntry.{CsEntry}
use Rattle.sg_mikey.specs.declared.message.Message.{Message}
use Rattle.sg_mikey.specs.declared.payload.Payload.{Payload}
use Rattle.sg_psk.specs.Envelope.{before_mac}

-- ---- the chain

next_or : List Payload → ℕ → ℕ
next_or [] n = n
next_or (p ∷ ps) n = payload_number p

pub chain_start : List Payload → ℕ → List ℕ → List ℕ
chain_start [] n start = 0 ∷ start
chain_start (p ∷ ps) n start = next_or ps n ∷ (body_octets p ++ chain_start ps n start)

next_is : (ps : List Payload) (last : Payload) → next_number (ps ++ last ∷ []) ≡ next_or ps (payload_number last)
unfolding next_or
next_is [] last = refl
next_is (p ∷ ps) last = refl

chain_is : (ps : List Payload) (last : Payload) (start tag : List ℕ) → body_octets last ≡ start ++ tag → chain_octets (ps ++ last ∷ []) ≡ chain_start ps (payload_number last) start ++ tag
unfolding chain_start
chain_is [] last start tag e = ap (λ o. 0 ∷ o) (append-nil (body_octets last) ∙ e)
chain_is (p ∷ ps) last start tag e =
    let rest = chain_is ps last start tag e in
    (λ i. next_is ps last i ∷ (body_octets p ++ rest i)) ∙ ap (λ o. next_or ps (payload_number last) ∷ o) (sym (append_assoc (body_octets p) (chain_start ps (payload_number last) start) tag))

-- ---- the message

pub message_start : ℕ → Bool → ℕ → List CsEntry → ℕ → List ℕ → List ℕ
message_start kind verify csb entries next chain = 1 ∷ kind ∷ next ∷ (cond verify 128 0) ∷ (be csb 4 ++ be (length entries) 1 ++ 0 ∷ (flat_map entry_octets entries ++ chain))

pub message_is : (m : Message) (ps : List Payload) (last : Payload) (start tag : List ℕ) → m.payloads ≡ ps ++ last ∷ [] → body_octets last ≡ start ++ tag
    → message_octets m ≡ message_start m.kind m.verify m.csb m.map (next_number (ps ++ last ∷ [])) (chain_start ps (payload_number last) start) ++ tag
unfolding message_start
message_is m ps last start tag are e =
    (λ i. 1 ∷ m.kind ∷ next_number (are i) ∷ (cond m.verify 128 0) ∷ (be m.csb 4 ++ be (length m.map) 1 ++ 0 ∷ (flat_map entry_octets m.map ++ chain_octets (are i))))
    ∙ ap (λ c. 1 ∷ m.kind ∷ next_number (ps ++ last ∷ []) ∷ (cond m.verify 128 0) ∷ (be m.csb 4 ++ be (length m.map) 1 ++ 0 ∷ (flat_map entry_octets m.map ++ c))) (chain_is ps last start tag e)
    ∙ ap (λ c. 1 ∷ m.kind ∷ next_number (ps ++ last ∷ []) ∷ (cond m.verify 128 0) ∷ (be m.csb 4 ++ be (length m.map) 1 ++ 0 ∷ c)) (sym (append_assoc (flat_map entry_octets m.map) (chain_start ps (payload_number last) start) tag))
    ∙ ap (λ c. 1 ∷ m.kind ∷ next_number (ps ++ last ∷ []) ∷ (cond m.verify 128 0) ∷ c) (sym (append_assoc (be m.csb 4 ++ be (length m.map) 1) (0 ∷ (flat_map entry_octets m.map ++ chain_start ps (payload_number last) start)) tag))

take_start : (xs ys : List ℕ) → take (length xs) (xs ++ ys) ≡ xs
take_start [] ys = refl
take_start (x ∷ xs) ys = ap (λ l. x ∷ l) (take_start xs ys)

pub before_is : (start tag : List ℕ) → length tag ≡ 20 → before_mac (start ++ tag) ≡ start
before_is start tag e =
    let size : length (start ++ tag) - 20 ≡ length start = omega (arith, length-append start tag, e) in
    ap (λ n. take n (start ++ tag)) size ∙ take_start start tag
