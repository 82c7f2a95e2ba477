-- What is said is told in order.
use Rattle.std.proofs.Common.{◌≡◌, List, [], ◌∷◌, ◌++◌, refl, ap, ◌∙◌}
use Rattle.std.proofs.lemmas.Grind.{flat_map-append}
use Rattle.std.proofs.lemmas.List.{append-nil}
use Rattle.std.specs.List.{flat_map}
use Rattle.sg_pairs.specs.Bridged.{Bridging, Said, bridging, bridgings_from}
use Rattle.sg_switchboard.specs.Switching.{State, after, state_after, told_from}

pub state_after-append : (s : State) (xs ys : List Said) → state_after s (xs ++ ys) ≡ state_after (state_after s xs) ys
state_after-append s [] ys = refl
state_after-append s (x ∷ xs) ys = state_after-append (after (bridging s.world s.calls x)) xs ys

bridgings-append : (s : State) (xs ys : List Said) → bridgings_from s.world s.calls (xs ++ ys) ≡ bridgings_from s.world s.calls xs ++ bridgings_from (state_after s xs).world (state_after s xs).calls ys
bridgings-append s [] ys = refl
bridgings-append s (x ∷ xs) ys = ap (λ (l : List Bridging). bridging s.world s.calls x ∷ l) (bridgings-append (after (bridging s.world s.calls x)) xs ys)

pub told_from-append : (s : State) (xs ys : List Said) → told_from s (xs ++ ys) ≡ told_from s xs ++ told_from (state_after s xs) ys
told_from-append s xs ys =
    ap (λ (bs : List Bridging). flat_map (λ b. b.told) bs) (bridgings-append s xs ys)
    ∙ flat_map-append (λ (b : Bridging). b.told) (bridgings_from s.world s.calls xs) (bridgings_from (state_after s xs).world (state_after s xs).calls ys)

pub told_of_one : (s : State) (x : Said) → told_from s (x ∷ []) ≡ (bridging s.world s.calls x).told
told_of_one s x = append-nil (bridging s.world s.calls x).told
