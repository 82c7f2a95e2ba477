-- How long calls stay joined: until it is told that they are parted.
use Rattle.std.specs.Prelude.{◌≡◌, ◌⊎◌, ℕ, List, [], ◌∷◌, ◌++◌, Some}
use Rattle.std.specs.List.{Any}
use Rattle.sg_base.specs.declared.addresses.CallId.{CallId}
use Rattle.sg_outcome.specs.declared.outcomes.Outcome.TheVariants.{Ended}
use Rattle.sg_outcome.specs.declared.outcomes.Why.{Why}
use Rattle.sg_pairs.specs.Bridged.{Bridging, Said, Happens, Joins, Parts, bridgings}
use Rattle.sg_pairs.specs.Calls.{AllLines}
use Rattle.sg_pairs.specs.Pairs.{Members, member_at}
use Rattle.sg_pairs.specs.declared.members.Member.{Member}
use Rattle.sg_pairs.specs.declared.members.Pair.{Pair}
use Rattle.sg_pairs.specs.declared.members.Party.{Party}
use Rattle.sg_pairs.specs.declared.outcomes.BridgeOutcome.{BridgeOutcome}
use Rattle.sg_pairs.specs.declared.outcomes.BridgeOutcome.TheVariants as tells

-- the call in the party's slot has its number, and is in this pair
abbrev pub IsPartyIn : Members → Party → Pair → Type 0
IsPartyIn calls party p = (m : Member) × (member_at calls party.slot ≡ Some m) × (m.id ≡ party.id) × (m.pair ≡ Some p)

-- A pair is in force where each of its two calls is in it.
abbrev pub IsInForce : Members → Pair → Type 0
IsInForce calls p = IsPartyIn calls p.first p × IsPartyIn calls p.second p

-- the call of this number, in this slot, is one of the two
abbrev pub IsPartyOf : Pair → CallId → ℕ → Type 0
IsPartyOf p id slot = ((id ≡ p.first.id) × (slot ≡ p.first.slot)) ⊎ ((id ≡ p.second.id) × (slot ≡ p.second.slot))

-- It is told that one of the two ended, and right behind it that the pair is parted.
pub record IsPartedAtEnd (p : Pair) (told : List BridgeOutcome) : Type 0 where
  pub earlier : List BridgeOutcome
  pub later : List BridgeOutcome
  pub id : CallId
  pub slot : ℕ
  pub media : ℕ
  pub why : Why
  pub party : IsPartyOf p id slot
  pub told_is : told ≡ earlier ++ tells.Table (Ended id slot media why) ∷ tells.Parted p.first.id p.second.id ∷ later

-- what ends a pair: an event at which one of its calls ends, or a line that parts one of them
abbrev pub EndsPair : Said → Pair → List BridgeOutcome → Type 0
EndsPair (Happens e) p told = IsPartedAtEnd p told
EndsPair (Joins first second) p told = ⊥
EndsPair (Parts id) p told = ((id ≡ p.first.id) ⊎ (id ≡ p.second.id)) × (told ≡ tells.Parted p.first.id p.second.id ∷ [])

-- what makes one: a line that joins its two calls
abbrev pub MakesPair : Said → Pair → List BridgeOutcome → Type 0
MakesPair (Joins first second) p told = (p.first.id ≡ first) × (p.second.id ≡ second) × (told ≡ tells.Joined first second ∷ [])
MakesPair other p told = ⊥

-- the pair of these two calls was in force before, and isn't any more
abbrev pub WasParted : Members → Members → CallId → CallId → Type 0
WasParted before after first second = (p : Pair) × (p.first.id ≡ first) × (p.second.id ≡ second) × IsInForce before p × ¬ IsInForce after p

pub record PairsLast (s : Said) (b : Bridging) : Type 0 where
  -- whoever is in a pair behind the line is one of its two calls, and the pair is in force
  pub whole : (slot : ℕ) (m : Member) (p : Pair) → member_at b.calls slot ≡ Some m → m.pair ≡ Some p → IsPartyOf p m.id slot × IsInForce b.calls p
  -- a pair in force stays so, or the line ends it and tells so
  pub kept : (p : Pair) → IsInForce b.pairs p → IsInForce b.calls p ⊎ EndsPair s p b.told
  -- a pair in force was so before, or the line makes it and tells so
  pub only : (p : Pair) → IsInForce b.calls p → IsInForce b.pairs p ⊎ MakesPair s p b.told
  -- what is told as parted was joined, and isn't any more
  pub parted : (first second : CallId) → Any (λ o. o ≡ tells.Parted first second) b.told → WasParted b.pairs b.calls first second

abbrev pub EachPairLasts : List Said → Type 0
EachPairLasts said = AllLines PairsLast said (bridgings said)
