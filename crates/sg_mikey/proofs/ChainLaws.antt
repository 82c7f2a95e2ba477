-- A chain that is read is the chain that was written, and what was written is read again.
use Rattle.std.proofs.Common.{◌≡◌, ℕ, zero, suc, ◌+◌, ◌<◌, ◌≤◌, true, false, ◌&&◌, nat_eq, List, [], ◌∷◌, ◌++◌, length, map, Option, Some, None, Result, Ok, Err, refl, sym, ap, subst, ◌∙◌, append_assoc, length-append, arith, inl, inr}
use Rattle.std.proofs.Math.Bool.{and-false}
use Rattle.std.specs.List.{AllByRecursion}
use Rattle.std.proofs.lemmas.Bool.{cases_Bool, eqb-true, and_parts}
use Rattle.sg_base.proofs.Cases.{chosen}
use Rattle.sg_mikey.specs.declared.chain.Stage.{Stage}
use Rattle.sg_mikey.specs.declared.faults.Stop.{Stop}
use Rattle.sg_mikey.specs.declared.payload.Payload.{Payload}
use Rattle.sg_mikey.specs.declared.payload.Payload.TheVariants.{Kemac}
use Rattle.sg_mikey.specs.Chain.{stage_after, is_over}
use Rattle.sg_mikey.specs.Spelling.{payload_number, next_number, body_octets, chain_octets, IsPayload}
use Rattle.sg_mikey.specs.Reading.{◌>>=◌, Chained, is_number, in_place, payload_at, chain_at}
use Rattle.sg_mikey.proofs.FieldLaws.{IsOctets, took, ok_is, Takes, Takes-then}
use Rattle.sg_mikey.proofs.Orders.{Accepts, placed_of}
use Rattle.sg_mikey.proofs.PayloadLaws.{TakesChained, payload_takes, payload_again}

-- what the reader of a chain took
pub record TakesChain (octets : List ℕ) (kind : ℕ) (stage : Stage) (next : ℕ) (ps : List Payload) (rest : List ℕ) : Type 0 where
  pub takes : Takes octets (chain_octets ps) rest
  pub payloads : AllByRecursion IsPayload ps
  pub first : next ≡ next_number ps
  pub accepted : Accepts kind stage (map payload_number ps)

place_ok : (o : Option Stage) (octets : List ℕ) (behind : Stage) → in_place o octets ≡ Ok behind → o ≡ Some behind
place_ok None octets behind e = absurd cc
place_ok (Some s) octets behind e = ap Some (ok_is s behind e)

-- one payload, and a chain behind it
linked : (octets : List ℕ) (kind : ℕ) (stage behind : Stage) (next : ℕ) (link : Chained) (ps : List Payload) (rest : List ℕ) → stage_after kind stage next ≡ Some behind
    → TakesChained octets next link → TakesChain link.2 kind behind link.1 ps rest → TakesChain octets kind stage next (link.0 ∷ ps) rest
linked octets kind stage behind next link ps rest here first others =
    let named : Takes octets (next_number ps ∷ body_octets link.0) link.2 = subst (λ (n : ℕ). Takes octets (n ∷ body_octets link.0) link.2) others.first first.takes in
    record {
      takes = Takes-then octets (next_number ps ∷ body_octets link.0) link.2 (chain_octets ps) rest named others.takes;
      payloads = (first.payload, others.payloads);
      first = sym first.number_is;
      accepted = (behind, rw first.number_is here, others.accepted);
    }

pub chain_takes : (fuel kind : ℕ) (stage : Stage) (next : ℕ) (octets : List ℕ) (y : List Payload × List ℕ) → IsOctets octets → chain_at fuel kind stage next octets ≡ Ok y
    → TakesChain octets kind stage next y.0 y.1
unfolding chain_at
chain_takes zero kind stage next octets y fits e = absurd cc
chain_takes (suc fuel) kind stage next octets y fits e =
    elim (chosen (is_over stage && nat_eq next 0) (Ok ([], octets)) (in_place (stage_after kind stage next) octets >>= λ behind. payload_at next octets >>= λ link. chain_at fuel kind behind link.1 link.2 >>= λ others. Ok (link.0 ∷ others.0, others.1)) (Ok y) e) [
      | inl over ↦
          (let parts = and_parts (is_over stage) (nat_eq next 0) over.0 in
          let none : List Payload × List ℕ = ([], octets) in
          subst (λ (z : List Payload × List ℕ). TakesChain octets kind stage next z.0 z.1) (ok_is none y over.1)
          (record { takes = record { parts = refl; rest_fits = fits }; payloads = tt; first = eqb-true next 0 parts.1; accepted = parts.0 }))
      | inr going ↦
          took (in_place (stage_after kind stage next) octets) _ y (λ x. place_ok (stage_after kind stage next) octets x) going.1 (λ behind here eb.
          took (payload_at next octets) _ y (λ x. payload_takes next octets x (placed_of kind next stage behind here) fits) eb (λ link first el.
          took (chain_at fuel kind behind link.1 link.2) _ y (λ x. chain_takes fuel kind behind link.1 link.2 x first.takes.rest_fits) el (λ c others ec.
          subst (λ (z : List Payload × List ℕ). TakesChain octets kind stage next z.0 z.1) (ok_is (link.0 ∷ c.0, c.1) y ec)
          (linked octets kind stage behind next link c.0 c.1 here first others))))
    ]

-- ---- and back

number_known : (p : Payload) → is_number (payload_number p) ≡ true
number_known (Kemac cipher inner mac tag) = refl
number_known other = refl

pub next_known : (ps : List Payload) → is_number (next_number ps) ≡ true
next_known [] = refl
next_known (p ∷ ps) = number_known p

-- a payload's number isn't 0
not_over : (stage : Stage) (p : Payload) → (is_over stage && nat_eq (payload_number p) 0) ≡ false
not_over stage (Kemac cipher inner mac tag) = and-false (is_over stage)
not_over stage other = and-false (is_over stage)

pub chain_again : (ps : List Payload) (fuel kind : ℕ) (stage : Stage) (rest : List ℕ) → AllByRecursion IsPayload ps → Accepts kind stage (map payload_number ps) → length ps < fuel
    → chain_at fuel kind stage (next_number ps) (chain_octets ps ++ rest) ≡ Ok (ps, rest)
unfolding chain_at
chain_again ps zero kind stage rest fit accepted lt = absurd (omega arith)
chain_again [] (suc fuel) kind stage rest fit accepted lt = rw accepted refl
chain_again (p ∷ ps) (suc fuel) kind stage rest fit accepted lt =
    let regrouped : chain_octets (p ∷ ps) ++ rest ≡ next_number ps ∷ (body_octets p ++ (chain_octets ps ++ rest)) =
    ap (λ (l : List ℕ). next_number ps ∷ l) (append_assoc (body_octets p) (chain_octets ps) rest) in
    ap (chain_at (suc fuel) kind stage (payload_number p)) regrouped
    ∙ rw (
      not_over stage p,
      accepted.1,
      payload_again p (next_number ps) (chain_octets ps ++ rest) fit.0 (next_known ps),
      chain_again ps fuel kind accepted.0 rest fit.1 accepted.2 (omega arith),
    ) refl

-- each payload has an octet at least
pub length-chain_octets : (ps : List Payload) → length ps ≤ length (chain_octets ps)
length-chain_octets [] = omega arith
length-chain_octets (p ∷ ps) =
    let others = length-chain_octets ps in
    omega (arith, length-append (body_octets p) (chain_octets ps))

-- ---- as many steps as octets are enough

shrinks : (octets : List ℕ) (number : ℕ) (link : Chained) → TakesChained octets number link → length link.2 < length octets
shrinks octets number link t =
    let whole : length octets ≡ length (link.1 ∷ (body_octets link.0 ++ link.2)) = ap length t.takes.parts in
    omega (arith, whole, length-append (body_octets link.0) link.2)

abbrev with_payload : Payload → List Payload × List ℕ → Result (List Payload × List ℕ) Stop
with_payload p others = Ok (p ∷ others.0, others.1)

enough_behind : (fuel more kind : ℕ) (stage : Stage) (next : ℕ) (octets : List ℕ) (o : Option Stage) (r : Result Chained Stop) → stage_after kind stage next ≡ o → payload_at next octets ≡ r → IsOctets octets
    → ((s : Stage) (n : ℕ) (rest : List ℕ) → IsOctets rest → length rest < fuel → chain_at (fuel + more) kind s n rest ≡ chain_at fuel kind s n rest)
    → length octets < suc fuel
    → (in_place o octets >>= λ behind. r >>= λ link. chain_at (fuel + more) kind behind link.1 link.2 >>= λ others. with_payload link.0 others)
    ≡ (in_place o octets >>= λ behind. r >>= λ link. chain_at fuel kind behind link.1 link.2 >>= λ others. with_payload link.0 others)
enough_behind fuel more kind stage next octets None r here read fits again lt = refl
enough_behind fuel more kind stage next octets (Some behind) (Err s) here read fits again lt = refl
enough_behind fuel more kind stage next octets (Some behind) (Ok link) here read fits again lt =
    let taken = payload_takes next octets link (placed_of kind next stage behind here) fits read in
    let less = shrinks octets next link taken in
    rw (again behind link.1 link.2 taken.takes.rest_fits (omega arith)) refl

-- A chain is read alike with more steps than octets.
pub chain_enough : (fuel more kind : ℕ) (stage : Stage) (next : ℕ) (octets : List ℕ) → IsOctets octets → length octets < fuel
    → chain_at (fuel + more) kind stage next octets ≡ chain_at fuel kind stage next octets
unfolding chain_at
chain_enough zero more kind stage next octets fits lt = absurd (omega arith)
chain_enough (suc fuel) more kind stage next octets fits lt =
    let k : suc fuel + more ≡ suc (fuel + more) = omega arith in
    rw k (elim (cases_Bool (is_over stage && nat_eq next 0)) [
      | inl over ↦ rw over refl
      | inr going ↦ rw going (enough_behind fuel more kind stage next octets (stage_after kind stage next) (payload_at next octets) refl refl fits (λ s n o f l. chain_enough fuel more kind s n o f l) lt)
    ])
