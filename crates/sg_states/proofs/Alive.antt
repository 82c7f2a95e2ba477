-- A key that is chosen may serve.
use Rattle.std.proofs.Common.{◌≡◌, ℕ, ◌<◌, Bool, true, List, [], ◌∷◌, find, Option, Some, None, Result, Ok, Err, ap, subst, inl, inr}
use Rattle.std.proofs.lemmas.Bool.{cases_Bool, ltb-true}
use Rattle.sg_base.specs.declared.faults.DropCause.{DropCause}
use Rattle.sg_keys.specs.Live.{Live, is_alive}
use Rattle.sg_keys.specs.KeySet.{chosen_seal, sealing_if}
use Rattle.sg_states.specs.Outbound.{numbered}

found_passes : (p : Live → Bool) (keys : List Live) (k : Live) → find p keys ≡ Some k → p k ≡ true
found_passes p [] k e = cc
found_passes p (x ∷ xs) k e =
    elim (cases_Bool (p x)) [
      | inl y ↦ (let here : Some x ≡ Some k = rw y at e in let same : x ≡ k = cc in subst (λ (z : Live). p z ≡ true) same y)
      | inr n ↦ (let there : find p xs ≡ Some k = rw n at e in found_passes p xs k there)
    ]

alive_of : (o : Option Live) (keys : List Live) (k : Live) → sealing_if o keys ≡ Ok k → o ≡ Some k
alive_of (Some x) keys k e = let same : x ≡ k = cc in ap Some same
alive_of None keys k e = cc

pub sealing_alive : (keys : List Live) (k : Live) → chosen_seal keys ≡ Ok k → k.count < k.life
sealing_alive keys k e = ltb-true _ _ (found_passes is_alive keys k (alive_of (find is_alive keys) keys k e))

pub unnumbered : (keys : List Live) (k : Live) (r : Result ℕ DropCause) (cause : DropCause) → chosen_seal keys ≡ Ok k → r ≡ Err cause → numbered keys r ≡ Err cause
unnumbered keys k r cause e f = rw e f
