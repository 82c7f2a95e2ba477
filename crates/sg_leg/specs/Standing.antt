-- What the calls of a leg answer. A leg doesn't know the serial number of its call, the number of the generation, or
-- whose the ring's keys are, so each clause holds for all of them.
use Rattle.std.specs.Prelude.{◌≡◌, ℕ, true, List, Result, Ok, Err}
use Rattle.sg_agreement.specs.Generations.{Generation}
use Rattle.sg_base.specs.declared.faults.Fault.{Fault}
use Rattle.sg_base.specs.declared.faults.Fault.TheVariants.{Refused, NoMemory}
use Rattle.sg_base.specs.declared.faults.Refusal.{Refusal}
use Rattle.sg_keys.specs.Installing.{keys_of}
use Rattle.sg_session.specs.Ring.{RingKey}
use Rattle.sg_leg.specs.Planned.{Planned, ArePlanned}
use Rattle.sg_leg.specs.Values.{LiveValue}

-- what is planned are the generation's sessions, and the ring has its keys
pub record IsGeneration (plan : List Planned) (ring : List RingKey) (g : Generation) : Type 0 where
  pub planned : ArePlanned plan g.sessions
  pub installed : keys_of g.ring ≡ ring

-- a generation begins, or is refused; memory may be wanting
abbrev pub Begins : Result (List Planned) Fault → List RingKey → Result Generation Refusal → Type 0
Begins (Ok plan) ring r = (g : Generation) × (r ≡ Ok g) × IsGeneration plan ring g
Begins (Err (Refused cause)) ring r = r ≡ Err cause
Begins (Err NoMemory) ring r = Unit {0}

-- the state after it: one medium, keyed manually
abbrev pub manual_live : ℕ → LiveValue
manual_live slot = record { slot = slot; media = 1; manual = true }

-- A call that is keyed manually is live under the one medium, whose sessions are those that `plan` tells. Refused or out
-- of memory, it is what it was.
abbrev pub IsManual : {S F : Type 0} → (S → List Planned) → ℕ → Result (LiveValue × S) (F × Fault) → List RingKey → Result Generation Refusal → Type 0
IsManual plan slot (Ok (live, specs)) ring r = (live ≡ manual_live slot) × Begins (Ok (plan specs)) ring r
IsManual plan slot (Err (former, fault)) ring r = Begins (Err fault) ring r
