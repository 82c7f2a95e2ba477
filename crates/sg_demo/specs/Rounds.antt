-- What a round has gathered.
use Rattle.std.specs.Prelude.{◌≡◌, ℕ, ◌≤◌, List, length, map, All, IsSome, Some, None}
use Rattle.sg_table.specs.declared.arrival.Arrival.{Arrival}
use Rattle.sg_demo.specs.Turns.{Arriving, address_of, origin_of}
use Rattle.sg_demo.specs.declared.round.Round.{Round}

-- a datagram before it is handled
abbrev pub arrival_of : Arriving → Arrival
arrival_of a = record { port = a.port; from = address_of a.origin; pad = Some a.octets; end = None }

-- so many packets were sealed, and these datagrams arrive
pub record HasGathered (round : Round) (sealed : ℕ) (arrivals : List Arriving) : Type 0 where
  pub datagrams : round.arrivals.items ≡ map arrival_of arrivals
  pub sources : round.origins.items ≡ map origin_of arrivals
  pub count : round.sealed ≡ sealed

-- at most so many packets were sealed, and at most so many datagrams arrive, each in its pad
pub record IsSmall (sealed arrivals : ℕ) (round : Round) : Type 0 where
  pub few_sealed : round.sealed ≤ sealed
  pub few_arrivals : length round.arrivals.items ≤ arrivals
  pub pads : All (λ a. IsSome a.pad) round.arrivals.items
