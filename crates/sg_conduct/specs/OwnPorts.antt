-- The gateway's own ports.
use Rattle.std.specs.Prelude.{ℕ, ◌+◌, ◌*◌}
use Rattle.sg_base.specs.declared.addresses.Side.{Side}
use Rattle.sg_base.specs.declared.addresses.Side.TheVariants.{Secure, Plain}

-- the RTP port of the medium of this number in a slot, on the side that is told
abbrev pub port_towards : Side → ℕ → ℕ → ℕ
port_towards Secure slot medium = 20000 + 16 * slot + 4 * medium
port_towards Plain slot medium = 20002 + 16 * slot + 4 * medium
