-- What a bridge knows of its calls is what they are; and by them, and the pairs there, calls are joined and parted.
use Rattle.std.specs.Prelude.{◌≡◌, ◌⊎◌, ℕ, not, ◌==◌, List, ◌∷◌, [], Option, Some, None}
use Rattle.std.specs.List.{All, Any}
use Rattle.sg_base.specs.declared.addresses.CallId.{CallId}
use Rattle.sg_gateway.specs.World.{Call, World}
use Rattle.sg_pairs.specs.Bridged.{Bridging, Said, Happens, Joins, Parts, bridgings}
use Rattle.sg_pairs.specs.Pairs.{Members, member_at}
use Rattle.sg_pairs.specs.declared.faults.JoinFault.{JoinFault}
use Rattle.sg_pairs.specs.declared.faults.JoinFault.TheVariants as faults
use Rattle.sg_pairs.specs.declared.members.Member.{Member}
use Rattle.sg_pairs.specs.declared.members.Pair.{Pair}
use Rattle.sg_pairs.specs.declared.outcomes.BridgeOutcome.{BridgeOutcome}
use Rattle.sg_pairs.specs.declared.outcomes.BridgeOutcome.TheVariants as tells

-- ---- the calls

-- the call's number, its media, and whether it has a generation
pub record IsKnownAs (m : Member) (c : Call) : Type 0 where
  pub id : m.id ≡ c.id
  pub media : m.media ≡ c.media
  pub live : m.is_live ≡ not (c.generations == 0)

-- each call is known in its slot, and in no other slot anything is
pub record AreTheCalls (w : World) (calls : Members) : Type 0 where
  pub known : All (λ c. (m : Member) × (member_at calls c.slot ≡ Some m) × IsKnownAs m c) w.calls
  pub only : (slot : ℕ) (m : Member) → member_at calls slot ≡ Some m → Any (λ c. (c.slot ≡ slot) × IsKnownAs m c) w.calls

-- before and after each line
abbrev pub KnowsItsCalls : Bridging → Type 0
KnowsItsCalls b = AreTheCalls b.before b.pairs × AreTheCalls b.world b.calls

abbrev pub MembersAreTheCalls : List Said → Type 0
MembersAreTheCalls said = All KnowsItsCalls (bridgings said)

-- ---- joining and parting, by the calls and pairs there

abbrev pub HasCall : World → CallId → Type 0
HasCall w id = Any (λ c. c.id ≡ id) w.calls

abbrev pub IsReady : World → CallId → Type 0
IsReady w id = Any (λ c. (c.id ≡ id) × (c.generations ≡ 0 → ⊥)) w.calls

-- the call of this number is in that pair, or in none
abbrev pub IsIn : World → Members → CallId → Option Pair → Type 0
IsIn w calls id p = Any (λ c. (c.id ≡ id) × ((m : Member) × (member_at calls c.slot ≡ Some m) × (m.pair ≡ p))) w.calls

-- the other call of a pair
abbrev pub IsOtherOf : Pair → CallId → CallId → Type 0
IsOtherOf p id with = ((p.first.id ≡ id) × (with ≡ p.second.id)) ⊎ (¬ (p.first.id ≡ id) × (with ≡ p.first.id))

abbrev pub HaveAsManyMedia : World → CallId → CallId → Type 0
HaveAsManyMedia w first second = Any (λ c. (c.id ≡ first) × Any (λ d. (d.id ≡ second) × (c.media ≡ d.media)) w.calls) w.calls

-- Two calls are there, are two, have generations, and are in no pair: so far each of the causes before the last.
abbrev pub AreThere : World → CallId → CallId → Type 0
AreThere w first second = HasCall w first × HasCall w second

abbrev pub AreTwo : World → CallId → CallId → Type 0
AreTwo w first second = AreThere w first second × ¬ (first ≡ second)

abbrev pub AreReady : World → CallId → CallId → Type 0
AreReady w first second = AreTwo w first second × IsReady w first × IsReady w second

abbrev pub AreFree : World → Members → CallId → CallId → Type 0
AreFree w calls first second = AreReady w first second × IsIn w calls first None × IsIn w calls second None

-- the first cause that holds, and of which call
abbrev pub IsUnjoined : World → Members → CallId → CallId → CallId → JoinFault → Type 0
IsUnjoined w calls first second call faults.CallUnknown = ((call ≡ first) × ¬ HasCall w first) ⊎ ((call ≡ second) × HasCall w first × ¬ HasCall w second)
IsUnjoined w calls first second call faults.Same = (call ≡ first) × AreThere w first second × (first ≡ second)
IsUnjoined w calls first second call faults.Unready =
    AreTwo w first second × (((call ≡ first) × ¬ IsReady w first) ⊎ ((call ≡ second) × IsReady w first × ¬ IsReady w second))
IsUnjoined w calls first second call (faults.Joined with) =
    AreReady w first second
    × (((call ≡ first) × ((p : Pair) × IsIn w calls first (Some p) × IsOtherOf p first with))
    ⊎ ((call ≡ second) × IsIn w calls first None × ((p : Pair) × IsIn w calls second (Some p) × IsOtherOf p second with)))
IsUnjoined w calls first second call faults.MediaCount = (call ≡ first) × AreFree w calls first second × ¬ HaveAsManyMedia w first second
IsUnjoined w calls first second call faults.NotJoined = ⊥

-- what a line that joins tells
abbrev pub JoinTells : World → Members → CallId → CallId → BridgeOutcome → Type 0
JoinTells w calls first second (tells.Joined a b) = (a ≡ first) × (b ≡ second) × AreFree w calls first second × HaveAsManyMedia w first second
JoinTells w calls first second (tells.Unjoined call cause) = IsUnjoined w calls first second call cause
JoinTells w calls first second other = ⊥

abbrev pub IsUnparted : World → Members → CallId → JoinFault → Type 0
IsUnparted w calls id faults.CallUnknown = ¬ HasCall w id
IsUnparted w calls id faults.NotJoined = IsIn w calls id None
IsUnparted w calls id other = ⊥

-- what a line that parts tells
abbrev pub PartTells : World → Members → CallId → BridgeOutcome → Type 0
PartTells w calls id (tells.Parted a b) = (p : Pair) × IsIn w calls id (Some p) × (a ≡ p.first.id) × (b ≡ p.second.id)
PartTells w calls id (tells.Unjoined call cause) = (call ≡ id) × IsUnparted w calls id cause
PartTells w calls id other = ⊥

-- a line that joins or parts tells one thing, by the calls and pairs before it
abbrev pub TellsOne : (BridgeOutcome → Type 0) → List BridgeOutcome → Type 0
TellsOne P told = (o : BridgeOutcome) × (told ≡ o ∷ []) × P o

abbrev pub JoinsAndPartsSo : Said → Bridging → Type 0
JoinsAndPartsSo (Happens e) b = Unit {0}
JoinsAndPartsSo (Joins first second) b = TellsOne (JoinTells b.before b.pairs first second) b.told
JoinsAndPartsSo (Parts id) b = TellsOne (PartTells b.before b.pairs id) b.told

-- so of each line
abbrev pub AllLines : (Said → Bridging → Type 0) → List Said → List Bridging → Type 0
AllLines P [] bs = Unit {0}
AllLines P (s ∷ ss) [] = ⊥
AllLines P (s ∷ ss) (b ∷ bs) = P s b × AllLines P ss bs

abbrev pub EachJoinsAndPartsSo : List Said → Type 0
EachJoinsAndPartsSo said = AllLines JoinsAndPartsSo said (bridgings said)

-- ---- who is joined then

-- both calls are in one pair, the one first, the other second
abbrev pub IsPaired : World → Members → CallId → CallId → Type 0
IsPaired w calls first second = (p : Pair) × (p.first.id ≡ first) × (p.second.id ≡ second) × IsIn w calls first (Some p) × IsIn w calls second (Some p)

-- what is told as joined is, and the call that a line parts is in no pair any more
abbrev pub IsAsTold : Said → Bridging → Type 0
IsAsTold (Happens e) b = Unit {0}
IsAsTold (Joins first second) b = b.told ≡ tells.Joined first second ∷ [] → IsPaired b.world b.calls first second
IsAsTold (Parts id) b = (a z : CallId) → b.told ≡ tells.Parted a z ∷ [] → IsIn b.world b.calls id None

abbrev pub EachIsAsTold : List Said → Type 0
EachIsAsTold said = AllLines IsAsTold said (bridgings said)
