-- How the causes of a part's answers follow one another.
use Rattle.std.proofs.Common.{◌≡◌, ℕ, Bool, Option, Result, Ok, Err, sym, ap, ◌∙◌, inl, inr, arith, IfErr}
use Rattle.sg_trace.specs.Causes.{IsCaused}
use Rattle.sg_relay.proofs.Common.{Clock, IsDueTo, IsDueToLink, IsOfLines, IsOfOutcomes, IsOfTurns, IsOfWriting, Link, NoMemory, Noise, Read, Status}
use Rattle.sg_relay.proofs.Common.{TurnsSpent, Write, failed_as}

err_is : {T : Type 0} (s t : Status) → (let r : Result T Status = Err s in r ≡ Err t) → s ≡ t
err_is s t is = cc

ok_err : {T : Type 0} (x : T) (t : Status) → (let r : Result T Status = Ok x in r ≡ Err t) → ⊥
ok_err x t is = cc

pub due_so : {T : Type 0} (own : Status) (r : Result T Status) (a b : ℕ) (failed : Option Bool) → IsCaused own r a b failed → IsDueTo own r a b failed
due_so own (Ok x) a b failed caused = caused.quiet (λ is. ok_err x own is)
due_so own (Err s) a b failed caused = failed_as _ _ a b failed (λ is. ap Err is) (λ is. err_is s own is) caused

-- ---- what may be told

writing_not_link : (s : Status) → IsOfWriting s → s ≡ Link → ⊥
writing_not_link s (inl is) same = absurd (let e : Write ≡ Link = sym is ∙ same in cc)
writing_not_link s (inr is) same = absurd (let e : NoMemory ≡ Link = sym is ∙ same in cc)

pub written_only : {T : Type 0} (r : Result T Status) → IfErr r IsOfWriting → IfErr r IsOfOutcomes
written_only (Ok x) only = tt
written_only (Err s) (inl is) = inl is
written_only (Err s) (inr is) = inr (inr is)

pub written_link : {T : Type 0} (r : Result T Status) (a b : ℕ) → IfErr r IsOfWriting → b ≡ a → IsDueToLink r a b
written_link (Ok x) a b only same = same
written_link (Err s) a b only same = record { later = omega (arith, same); rose = λ is. absurd (writing_not_link s only is); told = λ is. absurd (writing_not_link s only is); quiet = λ isnt. same }

pub outcomes_not : (own : Status) → (Write ≡ own → ⊥) → (Link ≡ own → ⊥) → (NoMemory ≡ own → ⊥) → (s : Status) → IsOfOutcomes s → s ≡ own → ⊥
outcomes_not own write link memory s (inl is) same = write (sym is ∙ same)
outcomes_not own write link memory s (inr (inl is)) same = link (sym is ∙ same)
outcomes_not own write link memory s (inr (inr is)) same = memory (sym is ∙ same)

pub turns_not : (own : Status) → (Clock ≡ own → ⊥) → (Write ≡ own → ⊥) → (Link ≡ own → ⊥) → (NoMemory ≡ own → ⊥) → (s : Status) → IsOfTurns s → s ≡ own → ⊥
turns_not own clock write link memory s (inl is) same = clock (sym is ∙ same)
turns_not own clock write link memory s (inr is) same = outcomes_not own write link memory s is same

pub lines_not_read : (s : Status) → IsOfLines s → s ≡ Read → ⊥
lines_not_read s (inl is) same = absurd (let e : Noise ≡ Read = sym is ∙ same in cc)
lines_not_read s (inr (inl is)) same = absurd (let e : TurnsSpent ≡ Read = sym is ∙ same in cc)
lines_not_read s (inr (inr is)) same = turns_not Read (λ e. cc) (λ e. cc) (λ e. cc) (λ e. cc) s is same
