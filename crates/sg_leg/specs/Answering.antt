-- What a call that reads or makes texts answers.
use Rattle.std.specs.Prelude.{◌≡◌, Result, Ok, Err}
use Rattle.sg_base.specs.declared.faults.Fault.{Fault}
use Rattle.sg_base.specs.declared.faults.Fault.TheVariants.{Refused, NoMemory}
use Rattle.sg_base.specs.declared.faults.Refusal.{Refusal}

-- The value or the first refusal that the definition gives. Memory may be wanting.
abbrev pub Tells : {X : Type 0} → Result X Fault → Result X Refusal → Type 0
Tells (Ok x) r = r ≡ Ok x
Tells (Err (Refused cause)) r = r ≡ Err cause
Tells (Err NoMemory) r = Unit {0}

-- the same where the value stands for the definition's
abbrev pub Gives : {X A : Type 0} → (X → A → Type 0) → Result X Fault → Result A Refusal → Type 0
Gives {A = A} Is (Ok x) r = (a : A) × (r ≡ Ok a) × Is x a
Gives Is (Err (Refused cause)) r = r ≡ Err cause
Gives Is (Err NoMemory) r = Unit {0}
