-- Reading one thing after another, as a loop does.
use Rattle.std.proofs.Common.{◌≡◌, ℕ, zero, suc, ◌+◌, ◌-◌, ◌<◌, ◌≤◌, ◌&&◌, nat_eq, true, false, List, [], ◌∷◌, ◌++◌, length, Some, None, Result, Ok, Err, refl, sym, ap, ◌∙◌, append_assoc, arith}
use Rattle.std.proofs.lemmas.List.{append-nil}
use Rattle.sg_base.specs.declared.MikeyFault.TheVariants as faults
use Rattle.sg_mikey.specs.declared.chain.Stage.{Stage}
use Rattle.sg_mikey.specs.declared.faults.Stop.{Stop}
use Rattle.sg_mikey.specs.declared.faults.Halt.{Halt}
use Rattle.sg_mikey.specs.declared.faults.Halt.TheVariants as halts
use Rattle.sg_mikey.specs.declared.message.CsEntry.{CsEntry}
use Rattle.sg_mikey.specs.declared.payload.Payload.{Payload}
use Rattle.sg_mikey.specs.Chain.{stage_after, is_over}
use Rattle.sg_mikey.specs.Reading.{◌>>=◌, Fails, stop, cut, entry_at, entries_at, item_at, items_at, payload_at, chain_at}

-- what was read before, and what is still read
abbrev pub with_prefix : {A : Type 0} → List A → Result (List A × List ℕ) Stop → Result (List A × List ℕ) Stop
with_prefix prefix read = read >>= λ x. Ok (prefix ++ x.0, x.1)

regroup : {A : Type 0} (prefix : List A) (a : A) (read : Result (List A × List ℕ) Stop) → with_prefix prefix (read >>= λ x. Ok (a ∷ x.0, x.1)) ≡ with_prefix (prefix ++ a ∷ []) read
regroup prefix a (Ok x) = ap (λ (l : List _). Ok (l, x.1)) (simp append_assoc)
regroup prefix a (Err s) = refl

alone : {A : Type 0} (prefix : List A) (octets : List ℕ) → with_prefix prefix (Ok ([], octets)) ≡ Ok (prefix, octets)
alone prefix octets = ap (λ (l : List _). Ok (l, octets)) (append-nil prefix)

-- ---- crypto sessions
pub entries_go_on : (prefix : List CsEntry) (count i : ℕ) (octets : List ℕ) (e : CsEntry) (behind : List ℕ) (total : Result (List CsEntry × List ℕ) Stop) → i < count → entry_at octets ≡ Ok (e, behind)
    → with_prefix prefix (entries_at (count - i) octets) ≡ total → with_prefix (prefix ++ e ∷ []) (entries_at (count - (i + 1)) behind) ≡ total
unfolding entries_at
entries_go_on prefix count i octets e behind total lt h so_far =
    let k : count - i ≡ suc (count - (i + 1)) = omega arith in
    let one : with_prefix prefix (entries_at (count - i) octets) ≡ with_prefix (prefix ++ e ∷ []) (entries_at (count - (i + 1)) behind) = rw (k, h) (regroup prefix e (entries_at (count - (i + 1)) behind)) in
    sym one ∙ so_far

pub entries_end : (halt : Halt) (prefix : List CsEntry) (count i : ℕ) (octets : List ℕ) (total : Result (List CsEntry × List ℕ) Stop) → i < count → Fails halt (entry_at octets)
    → with_prefix prefix (entries_at (count - i) octets) ≡ total → Fails halt total
unfolding entries_at
entries_end halts.NoMemory prefix count i octets total lt h so_far = tt
entries_end (halts.At s) prefix count i octets total lt h so_far =
    let k : count - i ≡ suc (count - (i + 1)) = omega arith in
    let one : with_prefix prefix (entries_at (count - i) octets) ≡ Err s = rw (k, h) refl in
    sym so_far ∙ one

pub entries_done : (prefix : List CsEntry) (count i : ℕ) (octets : List ℕ) (total : Result (List CsEntry × List ℕ) Stop) → count ≤ i → with_prefix prefix (entries_at (count - i) octets) ≡ total → total ≡ Ok (prefix, octets)
unfolding entries_at
entries_done prefix count i octets total le so_far =
    let k : count - i ≡ 0 = omega arith in
    let one : with_prefix prefix (entries_at (count - i) octets) ≡ Ok (prefix, octets) = rw k (alone prefix octets) in
    sym so_far ∙ one

-- ---- items of a policy
pub items_go_on : (prefix : List (ℕ × List ℕ)) (size i room : ℕ) (octets : List ℕ) (item : ℕ × List ℕ) (behind : List ℕ) (total : Result (List (ℕ × List ℕ) × List ℕ) Stop) → i < size → 0 < room → item_at room octets ≡ Ok (item, behind)
    → with_prefix prefix (items_at (size - i) room octets) ≡ total → with_prefix (prefix ++ item ∷ []) (items_at (size - (i + 1)) (room - (2 + length item.1)) behind) ≡ total
unfolding items_at
items_go_on prefix size i zero octets item behind total lt some h so_far = absurd (omega arith)
items_go_on prefix size i (suc room) octets item behind total lt some h so_far =
    let k : size - i ≡ suc (size - (i + 1)) = omega arith in
    let one : with_prefix prefix (items_at (size - i) (suc room) octets) ≡ with_prefix (prefix ++ item ∷ []) (items_at (size - (i + 1)) (suc room - (2 + length item.1)) behind) =
    rw (k, h) (regroup prefix item (items_at (size - (i + 1)) (suc room - (2 + length item.1)) behind)) in
    sym one ∙ so_far

pub items_end : (halt : Halt) (prefix : List (ℕ × List ℕ)) (size i room : ℕ) (octets : List ℕ) (total : Result (List (ℕ × List ℕ) × List ℕ) Stop) → i < size → 0 < room → Fails halt (item_at room octets)
    → with_prefix prefix (items_at (size - i) room octets) ≡ total → Fails halt total
unfolding items_at
items_end halts.NoMemory prefix size i room octets total lt some h so_far = tt
items_end (halts.At s) prefix size i zero octets total lt some h so_far = absurd (omega arith)
items_end (halts.At s) prefix size i (suc room) octets total lt some h so_far =
    let k : size - i ≡ suc (size - (i + 1)) = omega arith in
    let one : with_prefix prefix (items_at (size - i) (suc room) octets) ≡ Err s = rw (k, h) refl in
    sym so_far ∙ one

pub items_filled : (prefix : List (ℕ × List ℕ)) (size i room : ℕ) (octets : List ℕ) (total : Result (List (ℕ × List ℕ) × List ℕ) Stop) → i < size → room ≡ 0
    → with_prefix prefix (items_at (size - i) room octets) ≡ total → total ≡ Ok (prefix, octets)
unfolding items_at
items_filled prefix size i room octets total lt full so_far =
    let k : size - i ≡ suc (size - (i + 1)) = omega arith in
    let one : with_prefix prefix (items_at (size - i) room octets) ≡ Ok (prefix, octets) = rw (k, full) (alone prefix octets) in
    sym so_far ∙ one

pub items_done : (prefix : List (ℕ × List ℕ)) (size i room : ℕ) (octets : List ℕ) (total : Result (List (ℕ × List ℕ) × List ℕ) Stop) → size ≤ i
    → with_prefix prefix (items_at (size - i) room octets) ≡ total → total ≡ Ok (prefix, octets)
unfolding items_at
items_done prefix size i room octets total le so_far =
    let k : size - i ≡ 0 = omega arith in
    let one : with_prefix prefix (items_at (size - i) room octets) ≡ Ok (prefix, octets) = rw k (alone prefix octets) in
    sym so_far ∙ one

-- ---- payloads
pub chain_goes_on : (prefix : List Payload) (count i kind : ℕ) (stage behind : Stage) (next number : ℕ) (octets after : List ℕ) (p : Payload) (total : Result (List Payload × List ℕ) Stop) → i < count
    → (is_over stage && nat_eq next 0) ≡ false → stage_after kind stage next ≡ Some behind → payload_at next octets ≡ Ok (p, number, after)
    → with_prefix prefix (chain_at (count - i) kind stage next octets) ≡ total → with_prefix (prefix ++ p ∷ []) (chain_at (count - (i + 1)) kind behind number after) ≡ total
unfolding chain_at
chain_goes_on prefix count i kind stage behind next number octets after p total lt going here h so_far =
    let k : count - i ≡ suc (count - (i + 1)) = omega arith in
    let one : with_prefix prefix (chain_at (count - i) kind stage next octets) ≡ with_prefix (prefix ++ p ∷ []) (chain_at (count - (i + 1)) kind behind number after) =
    rw (k, going, here, h) (regroup prefix p (chain_at (count - (i + 1)) kind behind number after)) in
    sym one ∙ so_far

pub chain_ends : (halt : Halt) (prefix : List Payload) (count i kind : ℕ) (stage behind : Stage) (next : ℕ) (octets : List ℕ) (total : Result (List Payload × List ℕ) Stop) → i < count
    → (is_over stage && nat_eq next 0) ≡ false → stage_after kind stage next ≡ Some behind → Fails halt (payload_at next octets)
    → with_prefix prefix (chain_at (count - i) kind stage next octets) ≡ total → Fails halt total
unfolding chain_at
chain_ends halts.NoMemory prefix count i kind stage behind next octets total lt going here h so_far = tt
chain_ends (halts.At s) prefix count i kind stage behind next octets total lt going here h so_far =
    let k : count - i ≡ suc (count - (i + 1)) = omega arith in
    let one : with_prefix prefix (chain_at (count - i) kind stage next octets) ≡ Err s = rw (k, going, here, h) refl in
    sym so_far ∙ one

pub chain_misplaced : (prefix : List Payload) (count i kind : ℕ) (stage : Stage) (next : ℕ) (octets : List ℕ) (total : Result (List Payload × List ℕ) Stop) → i < count
    → (is_over stage && nat_eq next 0) ≡ false → stage_after kind stage next ≡ None
    → with_prefix prefix (chain_at (count - i) kind stage next octets) ≡ total → total ≡ Err (stop octets faults.Order)
unfolding chain_at
chain_misplaced prefix count i kind stage next octets total lt going here so_far =
    let k : count - i ≡ suc (count - (i + 1)) = omega arith in
    let one : with_prefix prefix (chain_at (count - i) kind stage next octets) ≡ Err (stop octets faults.Order) = rw (k, going, here) refl in
    sym so_far ∙ one

pub chain_over : (prefix : List Payload) (count i kind : ℕ) (stage : Stage) (next : ℕ) (octets : List ℕ) (total : Result (List Payload × List ℕ) Stop) → i < count
    → (is_over stage && nat_eq next 0) ≡ true
    → with_prefix prefix (chain_at (count - i) kind stage next octets) ≡ total → total ≡ Ok (prefix, octets)
unfolding chain_at
chain_over prefix count i kind stage next octets total lt done so_far =
    let k : count - i ≡ suc (count - (i + 1)) = omega arith in
    let one : with_prefix prefix (chain_at (count - i) kind stage next octets) ≡ Ok (prefix, octets) = rw (k, done) (alone prefix octets) in
    sym so_far ∙ one

pub chain_never_done : (prefix : List Payload) (count i kind : ℕ) (stage : Stage) (next : ℕ) (octets : List ℕ) (total : Result (List Payload × List ℕ) Stop) → count ≤ i
    → with_prefix prefix (chain_at (count - i) kind stage next octets) ≡ total → total ≡ Err cut
unfolding chain_at
chain_never_done prefix count i kind stage next octets total le so_far =
    let k : count - i ≡ 0 = omega arith in
    let one : with_prefix prefix (chain_at (count - i) kind stage next octets) ≡ Err cut = rw k refl in
    sym so_far ∙ one
