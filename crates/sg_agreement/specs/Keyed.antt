-- The medium that an offer and its answer make, once both directions are keyed.
use Rattle.std.specs.Prelude.{ℕ, List, [], ◌∷◌, Option, option_map, ◌&&◌, nat_lt}
use Rattle.std.specs.Option.{option_map_or}
use Rattle.sg_base.specs.declared.addresses.Address.{Address}
use Rattle.sg_base.specs.declared.addresses.Side.{Side}
use Rattle.sg_base.specs.declared.addresses.Side.TheVariants.{Secure, Plain}
use Rattle.sg_sdp.specs.declared.medium.Medium as descriptions
use Rattle.sg_agreement.specs.Media.{Stream, Medium}

-- what both sides of a medium send, the window in which the gateway opens, and the lines that it adds to the
-- medium of the answer
pub record Keyed : Type 0 where
  pub from_peer : Stream
  pub to_peer : Stream
  pub window : ℕ
  pub lines : List (List ℕ)

-- where a medium takes packets; it has an address, since it is active
abbrev pub address_of : descriptions.Medium → Address
address_of m = record { ip = option_map_or (λ ip. ip) m.address []; port = m.port }

-- Between a medium of the secure side and one of the plain side. RTCP takes the port behind that of RTP, so
-- there is none where a side has no further port (RFC 3550, 11).
abbrev pub medium_between : Keyed → descriptions.Medium → descriptions.Medium → Medium
medium_between k secure plain = record {
  from_peer = k.from_peer;
  to_peer = k.to_peer;
  window = k.window;
  has_rtcp = nat_lt secure.port 65535 && nat_lt plain.port 65535;
  secure = address_of secure;
  plain = address_of plain;
}

-- between a medium of an offer from this side and that of the answer
abbrev pub medium_agreed : Side → Keyed → descriptions.Medium → descriptions.Medium → Medium
medium_agreed Secure k offered answered = medium_between k offered answered
medium_agreed Plain k offered answered = medium_between k answered offered

-- of each medium what is agreed, and nothing of one that isn't active after the answer
abbrev pub media_agreed : Side → List descriptions.Medium → List descriptions.Medium → List (Option Keyed) → List (Option Medium)
media_agreed side (m ∷ ms) (n ∷ ns) (k ∷ ks) = option_map (λ k. medium_agreed side k m n) k ∷ media_agreed side ms ns ks
media_agreed side ms ns ks = []
