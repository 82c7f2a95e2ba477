-- Values of the media that are active, or the first refusal.
use Rattle.std.specs.Prelude.{ℕ, ◌+◌, List, [], ◌∷◌, Bool, true, false, Option, Some, None, Result, Ok}
use Rattle.sg_base.specs.declared.addresses.Side.{Side}
use Rattle.sg_base.specs.declared.faults.Refusal.{Refusal}
use Rattle.sg_sdp.specs.declared.medium.Medium as descriptions
use Rattle.sg_session.specs.Stages.{after_ok}
use Rattle.sg_agreement.specs.Sides.{is_active}

-- ---- of an offer

abbrev pub if_active : {X : Type 0} → Bool → Result X Refusal → Result (Option X) Refusal
if_active false value = Ok None
if_active true value = after_ok value (λ x. Ok (Some x))

-- The media are taken in their order; k is the number of the first. An idle medium has no value.
abbrev pub each_active : {X : Type 0} → Side → (ℕ → descriptions.Medium → Result X Refusal) → ℕ → List descriptions.Medium → Result (List (Option X)) Refusal
each_active side value k [] = Ok []
each_active side value k (m ∷ ms) =
    after_ok (if_active (is_active side m) (value k m)) (λ x.
    after_ok (each_active side value (k + 1) ms) (λ xs.
    Ok (x ∷ xs)))

-- ---- of an answer

-- Of a medium that is active after the answer something was kept, since it was active in the offer.
abbrev pub if_kept : {X Y : Type 0} → Bool → Option X → (X → Result Y Refusal) → Result (Option Y) Refusal
if_kept false kept value = Ok None
if_kept true None value = Ok None
if_kept true (Some x) value = after_ok (value x) (λ y. Ok (Some y))

-- what was kept of each medium of the offer, and the answer's medium, where the medium is active after the
-- answer
abbrev pub each_kept : {X Y : Type 0} → (ℕ → X → descriptions.Medium → Result Y Refusal) → ℕ → List Bool → List (Option X) → List descriptions.Medium → Result (List (Option Y)) Refusal
each_kept value k (active ∷ others) (x ∷ xs) (n ∷ ns) =
    after_ok (if_kept active x (λ x. value k x n)) (λ y.
    after_ok (each_kept value (k + 1) others xs ns) (λ ys.
    Ok (y ∷ ys)))
each_kept value k others xs ns = Ok []
