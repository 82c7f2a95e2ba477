-- Which media of a description are active on a side.
use Rattle.std.specs.Prelude.{ℕ, List, [], ◌∷◌, map, length, Bool, true, false, not, ◌==◌, ◌&&◌}
use Rattle.std.specs.List.{filter}
use Rattle.sg_base.specs.declared.addresses.Side.{Side}
use Rattle.sg_base.specs.declared.addresses.Side.TheVariants.{Secure, Plain}
use Rattle.sg_sdp.specs.declared.medium.Medium as descriptions
use Rattle.sg_sdp.specs.declared.medium.Profile.{Profile}
use Rattle.sg_sdp.specs.declared.medium.Profile.TheVariants.{Avp, Savp, Avpf, Savpf}
use Rattle.sg_agreement.specs.declared.ways.Way.{Way}
use Rattle.sg_agreement.specs.declared.ways.Way.TheVariants.{FromSecure, SdesFromPlain, MikeyFromPlain}

-- the side that an offer comes from
abbrev pub side_of : Way → Side
side_of FromSecure = Secure
side_of SdesFromPlain = Plain
side_of (MikeyFromPlain peer) = Plain

abbrev pub other_side : Side → Side
other_side Secure = Plain
other_side Plain = Secure

-- the secure side's profiles promise protection (RFC 3711, 12; RFC 5124)
abbrev pub is_of_side : Side → Profile → Bool
is_of_side Secure Savp = true
is_of_side Secure Savpf = true
is_of_side Secure _ = false
is_of_side Plain Avp = true
is_of_side Plain Avpf = true
is_of_side Plain _ = false

-- an active medium has a port and one of its side's profiles (RFC 3264, 5.1 and 6)
abbrev pub is_active : Side → descriptions.Medium → Bool
is_active side m = not (m.port == 0) && is_of_side side m.profile

-- of each medium, whether it is active
abbrev pub actives : Side → List descriptions.Medium → List Bool
actives side ms = map (is_active side) ms

abbrev pub active_count : Side → List descriptions.Medium → ℕ
active_count side ms = length (filter (is_active side) ms)

-- after an answer, a medium is active that was so in the offer from this side and is so in the answer
abbrev pub actives_after : Side → List descriptions.Medium → List descriptions.Medium → List Bool
actives_after side (m ∷ ms) (n ∷ ns) = (is_active side m && is_active (other_side side) n) ∷ actives_after side ms ns
actives_after side ms ns = []
