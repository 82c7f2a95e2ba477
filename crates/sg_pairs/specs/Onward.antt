-- The plain port of the other call of a pair.
use Rattle.std.specs.Prelude.{ℕ, ◌+◌, ◌-◌, ◌*◌, ◌/◌, ◌%◌, ◌&&◌, nat_le, nat_lt, if◌then◌else◌, Bool, Option, Some, None, option_map}
use Rattle.sg_pairs.specs.Pairs.{Members, member_at, other_slot}
use Rattle.sg_pairs.specs.declared.members.Member.{Member}

-- a plain port of one of 256 slots
abbrev pub is_plain_port : ℕ → Bool
is_plain_port port = nat_le 20000 port && nat_lt port 24096 && nat_le 2 ((port - 20000) % 4)

abbrev pub slot_by_port : ℕ → ℕ
slot_by_port port = (port - 20000) / 16

abbrev pub medium_by_port : ℕ → ℕ
medium_by_port port = (port - 20000) % 16 / 4

-- the port of that slot that this one is of its own
abbrev pub port_like : ℕ → ℕ → ℕ
port_like port slot = 20000 + 16 * slot + (port - 20000) % 16

abbrev pub onward_in : ℕ → Option Member → Option ℕ
onward_in port None = None
onward_in port (Some m) =
    if nat_lt (medium_by_port port) m.media then option_map (λ p. port_like port (other_slot p (slot_by_port port))) m.pair else None

-- For a plain port of a joined call the plain port of the same medium and kind of the other; none of every other port.
abbrev pub onward : Members → ℕ → Option ℕ
onward calls port = if is_plain_port port then onward_in port (member_at calls (slot_by_port port)) else None
