-- How long tags are: 32 or 80 bits of RTP (RFC 4568, 6.2), and 80 of RTCP in every suite.
use Rattle.std.specs.Prelude.{◌≡◌, ◌⊎◌, ℕ, List}
use Rattle.std.specs.List.{All, AllByRecursion}
use Rattle.sg_base.specs.declared.addresses.Kind.{Kind}
use Rattle.sg_base.specs.declared.addresses.Kind.TheVariants.{Rtp, Rtcp}
use Rattle.sg_session.specs.Session.{Session}
use Rattle.sg_gateway.specs.Runs.{turns, world_after}
use Rattle.sg_gateway.specs.Step.{Event}
use Rattle.sg_gateway.specs.World.{World, empty}

-- so many octets
abbrev pub IsTagLength : Kind → ℕ → Type 0
IsTagLength Rtp octets = (octets ≡ 4) ⊎ (octets ≡ 10)
IsTagLength Rtcp octets = octets ≡ 10

abbrev pub HasWholeTags : Session → Type 0
HasWholeTags s = IsTagLength s.name.kind s.tag_len

abbrev pub HaveWholeTags : World → Type 0
HaveWholeTags w = AllByRecursion (λ c. AllByRecursion HasWholeTags c.sessions) w.calls

-- in the world before each event, and in the last one
abbrev pub EachSessionHasWholeTags : List Event → Type 0
EachSessionHasWholeTags events = All (λ t. HaveWholeTags t.before) (turns events) × HaveWholeTags (world_after empty events)
