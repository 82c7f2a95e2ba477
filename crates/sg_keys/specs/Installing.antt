-- What the ring answers, by the definitions of a ring.
use Rattle.std.specs.Prelude.{◌≡◌, ℕ, List, ◌++◌, map, Result, Ok, Err}
use Rattle.sg_base.specs.declared.faults.Refusal.{Refusal}
use Rattle.sg_base.specs.declared.faults.Refusal.TheVariants as refusal
use Rattle.sg_session.specs.Ring.{Installed, RingKey, key_of}
use Rattle.sg_keys.specs.declared.ring.RingFault.{RingFault}
use Rattle.sg_keys.specs.declared.ring.RingFault.TheVariants.{KeyReused, RingFull, NoMemory}

-- the keys of a ring without their owners
abbrev pub keys_of : List Installed → List RingKey
keys_of ring = map key_of ring

-- The answer is the definition's: installed, or refused for its cause. Memory may be wanting only where
-- the keys could be installed.
abbrev pub IsToldOf : {X : Type 0} → List X → List X → Result ℕ RingFault → Result (List X) Refusal → Type 0
IsToldOf ring new (Ok first) r = r ≡ Ok (ring ++ new)
IsToldOf ring new (Err (KeyReused n)) r = r ≡ Err (refusal.KeyReused n)
IsToldOf ring new (Err RingFull) r = r ≡ Err refusal.RingFull
IsToldOf ring new (Err NoMemory) r = r ≡ Ok (ring ++ new)
