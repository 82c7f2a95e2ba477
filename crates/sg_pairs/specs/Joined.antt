-- Which plain ports are joined, in numbers: no word of how a bridge hands packets on is used.
use Rattle.std.specs.Prelude.{◌≡◌, ◌⊎◌, ◌+◌, ◌*◌, ◌<◌, ℕ, Some}
use Rattle.sg_pairs.specs.Pairs.{Members, member_at}
use Rattle.sg_pairs.specs.declared.members.Member.{Member}
use Rattle.sg_pairs.specs.declared.members.Pair.{Pair}

-- the port of a medium of the call in a slot, by its leg: 0 and 1 are RTP and RTCP of the secure side, 2 and 3 of the plain one
abbrev pub port_of_leg : ℕ → ℕ → ℕ → ℕ
port_of_leg slot medium leg = 20000 + 16 * slot + 4 * medium + leg

-- of the two slots of a pair, this is the one and that is the other
abbrev pub IsAcross : Pair → ℕ → ℕ → Type 0
IsAcross p slot other = ((slot ≡ p.first.slot) × (other ≡ p.second.slot)) ⊎ ((slot ≡ p.second.slot) × (other ≡ p.first.slot))

-- the call in this slot has the medium, and is in a pair
pub record IsInPair (calls : Members) (slot medium : ℕ) : Type 0 where
  pub member : Member
  pub pair : Pair
  pub at : member_at calls slot ≡ Some member
  pub joined : member.pair ≡ Some pair
  pub slots : slot < 256
  pub media : medium < 4
  pub has : medium < member.media

-- it is in a pair with the call in that slot
pub record AreJoined (calls : Members) (slot other medium : ℕ) : Type 0 where
  pub this : IsInPair calls slot medium
  pub across : IsAcross this.pair slot other
