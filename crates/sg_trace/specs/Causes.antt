-- Whose failure a status tells.
use Rattle.std.specs.Prelude.{◌≡◌, ◌⊎◌, ◌≤◌, ℕ, Bool, true, Option, Result, IsErrOf}
use Rattle.sg_edge.specs.Told.{Rose, Tells}
use Rattle.sg_trace.specs.declared.status.Status.{Status}
use Rattle.sg_trace.specs.declared.status.Status.TheVariants.{Noise, Read, Write}

-- Exactly where this is so, something of the outside failed: then its count rose and its last call failed, else its
-- count stays.
pub record HasFailed (p : Type 0) (old new : ℕ) (failed : Option Bool) : Type 0 where
  pub later : old ≤ new
  pub rose : p → Rose old new
  pub told : p → Tells failed true
  pub quiet : ¬ p → new ≡ old

-- the status tells that it failed
abbrev pub IsCaused : Status → {T : Type 0} → Result T Status → ℕ → ℕ → Option Bool → Type 0
IsCaused status {T} result old new failed = HasFailed (IsErrOf result status) old new failed

-- The same of a run that ends so, where something of the outside fails, or that may end so instead, since telling what waited
-- failed behind it.
pub record EndedBy (own instead : Type 0) (old new : ℕ) (failed : Option Bool) : Type 0 where
  pub later : old ≤ new
  pub rose : own → Rose old new
  pub told : own → Tells failed true
  pub quiet : ¬ own → ¬ instead → new ≡ old
  pub last : ¬ own → instead → (new ≡ old) ⊎ (Rose old new × Tells failed true)

-- the source, the sink or the noise failed
abbrev pub IsOfOutside : Status → Type 0
IsOfOutside end = (end ≡ Read) ⊎ ((end ≡ Write) ⊎ (end ≡ Noise))

-- A run that comes to this end passes on what the sink holds, and ends so, or with Write where that fails. Where something
-- of the outside failed before, nothing is done.
pub record IsPassedOn {K : Type 0} (end status : Status) (faults : K → ℕ) (failed : K → Option Bool) (old new : K) : Type 0 where
  pub before : IsOfOutside end → (status ≡ end) × (new ≡ old)
  pub else : ¬ IsOfOutside end → ((status ≡ end) ⊎ (status ≡ Write)) × HasFailed (status ≡ Write) (faults old) (faults new) (failed new)
