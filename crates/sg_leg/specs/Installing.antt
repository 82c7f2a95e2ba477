-- Keys that come into use, and the sessions that they serve.
use Rattle.std.specs.Prelude.{◌≡◌, ℕ, List, ◌++◌, length, Option, Result, Ok, Err}
use Rattle.sg_agreement.specs.Generations.{keys_from, sessions_from}
use Rattle.sg_agreement.specs.Media.{Medium}
use Rattle.sg_base.specs.declared.faults.Fault.{Fault}
use Rattle.sg_base.specs.declared.faults.Fault.TheVariants.{Refused, NoMemory}
use Rattle.sg_base.specs.declared.faults.Refusal.TheVariants.{KeyReused, RingFull}
use Rattle.sg_keys.specs.Installing.{keys_of}
use Rattle.sg_keys.specs.declared.ring.RingFault.{RingFault}
use Rattle.sg_keys.specs.declared.ring.RingFault.TheVariants as ring
use Rattle.sg_session.specs.Ring.{Installed, RingKey, install}
use Rattle.std.specs.Global.{Vec}
use Rattle.sg_leg.specs.Planned.{Planned, ArePlanned, planned_sides}
use Rattle.sg_leg.specs.declared.media_spec.SideSpec.{SideSpec}

-- The keys of the media are in the ring, and what is planned are their sessions; or they are refused.
abbrev pub IsKeyed : ℕ → ℕ → List Installed → List (Option Medium) → Result (List Planned) Fault → List RingKey → Type 0
IsKeyed call generation old media (Ok plan) ring =
    (new : List Installed) × (install old (keys_from call generation 0 media) ≡ Ok new) × (keys_of new ≡ ring) × ArePlanned plan (sessions_from call generation 0 (length old) media)
IsKeyed call generation old media (Err (Refused cause)) ring = install old (keys_from call generation 0 media) ≡ Err cause
IsKeyed call generation old media (Err NoMemory) ring = Unit {0}

abbrev pub plan_of : Result (Vec SideSpec) Fault → Result (List Planned) Fault
plan_of (Ok sides) = Ok (planned_sides sides.items)
plan_of (Err fault) = Err fault

abbrev pub fault_of : RingFault → Fault
fault_of (ring.KeyReused n) = Refused (KeyReused n)
fault_of ring.RingFull = Refused RingFull
fault_of ring.NoMemory = NoMemory

-- the new keys stand behind the old, or are refused
abbrev pub IsInstalled : List Installed → List Installed → Result (Unit {0}) Fault → Type 0
IsInstalled old new (Ok u) = install old new ≡ Ok (old ++ new)
IsInstalled old new (Err (Refused cause)) = install old new ≡ Err cause
IsInstalled old new (Err NoMemory) = Unit {0}
