-- How failures of the outside follow one another.
use Rattle.std.proofs.Common.{◌≡◌, ℕ, Bool, Option, Ok, Err, ◌∙◌, inl, arith}
use Rattle.sg_trace.proofs.Common.{EndedBy, HasFailed, rose_later}

-- what fails now has not failed before
pub failed_now : (p : Type 0) (a b c : ℕ) (failed : Option Bool) → b ≡ a → HasFailed p b c failed → HasFailed p a c failed
failed_now p a b c failed same now = record {
  later = omega (arith, same, now.later);
  rose = λ is. rose_later a b c (omega (arith, same)) (now.rose is);
  told = now.told;
  quiet = λ isnt. now.quiet isnt ∙ same;
}

-- by another name
pub failed_as : (p q : Type 0) (a b : ℕ) (failed : Option Bool) → (q → p) → (p → q) → HasFailed p a b failed → HasFailed q a b failed
failed_as p q a b failed to from now = record {
  later = now.later;
  rose = λ is. now.rose (to is);
  told = λ is. now.told (to is);
  quiet = λ isnt. now.quiet (λ is. isnt (from is));
}

pub not_failed : (p : Type 0) (a b : ℕ) (failed : Option Bool) → b ≡ a → (p → ⊥) → HasFailed p a b failed
not_failed p a b failed same isnt = record {
  later = omega (arith, same);
  rose = λ is. absurd (isnt is);
  told = λ is. absurd (isnt is);
  quiet = λ isnt. same;
}

pub ok_not : {T E : Type 0} (x : T) (e : E) → Ok x ≡ Err e → ⊥
ok_not x e is = cc

-- where no other failure hides it
pub ended_as : (own instead : Type 0) (old new : ℕ) (failed : Option Bool) → HasFailed own old new failed → EndedBy own instead old new failed
ended_as own instead old new failed now = record {
  later = now.later;
  rose = now.rose;
  told = now.told;
  quiet = λ isnt other. now.quiet isnt;
  last = λ isnt other. inl (now.quiet isnt);
}
