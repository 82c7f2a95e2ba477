-- What a message's payloads can hold, and how an answer goes on.
use Rattle.std.proofs.Common.{◌≡◌, ◌<◌, ◌≤◌, ◌^◌, ℕ, List, ◌∷◌, length, Option, Some, None, Result, Ok, Err, refl, ap, subst, arith}
use Rattle.std.specs.List.{AllByRecursion}
use Rattle.std.proofs.lemmas.Bool.{lt-ltb, le-ltb}
use Rattle.sg_base.specs.declared.faults.PskFault.TheVariants.{KeyType, CacheFull}
use Rattle.sg_mikey.specs.Spelling.{IsPayload}
use Rattle.sg_mikey.specs.declared.message.Message.{Message}
use Rattle.sg_mikey.specs.declared.message.Tgk.{Tgk}
use Rattle.sg_mikey.specs.declared.message.Tgks.{Tgks}
use Rattle.sg_mikey.specs.declared.payload.Payload.{Payload}
use Rattle.sg_mikey.specs.declared.payload.Payload.TheVariants.{Time, Random, Id, Sp, Extension, Kemac}
use Rattle.sg_psk.specs.Accepting.{accepted_with, with_keys}
use Rattle.sg_psk.specs.Parts.{closing_in}
use Rattle.sg_psk.specs.StandsFor.{Gives, IsAccepted, OnNoMemory, or_fault}
use Rattle.sg_psk.specs.declared.accepting.Initial.{Initial}
use Rattle.sg_psk.specs.declared.faults.PskError.{PskError}
use Rattle.sg_psk.specs.declared.faults.PskError.TheVariants as errors
use Rattle.sg_psk.specs.declared.pairs.Pair.{Pair}

-- what a KEMAC covers is shorter than its length's field can say
pub closing_small : (ps : List Payload) → AllByRecursion IsPayload ps → length (closing_in ps).octets < 2 ^ 16
unfolding closing_in
closing_small (Time form stamp ∷ ps) all = closing_small ps all.1
closing_small (Random octets ∷ ps) all = closing_small ps all.1
closing_small (Id form name ∷ ps) all = closing_small ps all.1
closing_small (Sp policy ∷ ps) all = closing_small ps all.1
closing_small (Extension form octets ∷ ps) all = closing_small ps all.1
closing_small (Kemac cipher octets mac tag ∷ ps) all = all.0.0
closing_small other all = omega arith

-- what holds anyway holds where out of memory is answered
pub anyway : {X P : Type 0} (r : Result X PskError) → P → OnNoMemory r P
anyway (Ok x) p = tt
anyway (Err (errors.Psk fault)) p = tt
anyway (Err errors.NoMemory) p = p

abbrev pub Keys : Tgks → List Tgk → Type 0
Keys keys tgks = keys.keys ≡ tgks

pub keys_refused : (e : PskError) (m : Message) (pair : Pair) (kept : ℕ) (o : Option (List Tgk)) (pairs : List Pair)
    → Gives Keys (Err e) (or_fault KeyType o) → Gives (IsAccepted pairs) (Err e) (with_keys m pair kept o)
unfolding with_keys
keys_refused (errors.Psk f) m pair kept (Some tgks) pairs is = absurd cc
keys_refused (errors.Psk f) m pair kept None pairs is = let same : KeyType ≡ f = cc in ap Err same
keys_refused errors.NoMemory m pair kept o pairs is = tt

pub keys_full : (keys : Tgks) (m : Message) (pair : Pair) (kept : ℕ) (o : Option (List Tgk)) → Gives Keys (Ok keys) (or_fault KeyType o) → 1020 < kept
    → with_keys m pair kept o ≡ Err CacheFull
unfolding with_keys
keys_full keys m pair kept None is lt = absurd is
keys_full keys m pair kept (Some tgks) is lt = rw (lt-ltb 1020 kept lt) refl

pub keys_taken : (i : Initial) (keys : Tgks) (m : Message) (pair : Pair) (kept : ℕ) (o : Option (List Tgk)) (pairs : List Pair)
    → Gives Keys (Ok keys) (or_fault KeyType o) → kept ≤ 1020 → IsAccepted pairs i (accepted_with m pair keys.keys)
    → Gives (IsAccepted pairs) (Ok i) (with_keys m pair kept o)
unfolding with_keys
keys_taken i keys m pair kept None pairs is le made = absurd is
keys_taken i keys m pair kept (Some tgks) pairs is le made = rw (le-ltb 1020 kept le) (subst (λ t. IsAccepted pairs i (accepted_with m pair t)) is made)
