-- What outcomes ask of a link.
use Rattle.std.proofs.Common.{◌≡◌, List, [], ◌∷◌, ◌++◌, map, refl, ap, flat_map}
use Rattle.sg_relay.proofs.Common.{Ask, Outcome, act_of, asks_of}

abbrev pub asked_by : Outcome → List Ask
asked_by o = asks_of (act_of o)

pub asks_of_acts : (os : List Outcome) → flat_map asks_of (map act_of os) ≡ flat_map asked_by os
asks_of_acts [] = refl
asks_of_acts (o ∷ os) = ap (λ (l : List Ask). asked_by o ++ l) (asks_of_acts os)
