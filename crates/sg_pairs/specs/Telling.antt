-- What is told of a signal in a bridge.
use Rattle.std.specs.Prelude.{◌≡◌, ◌⊎◌, ℕ, List, [], ◌∷◌}
use Rattle.std.specs.List.{Any}
use Rattle.sg_base.specs.declared.addresses.CallId.{CallId}
use Rattle.sg_gateway.specs.Step.{Signalled, Datagram, step}
use Rattle.sg_outcome.specs.declared.outcomes.Outcome.{Outcome}
use Rattle.sg_outcome.specs.declared.outcomes.Outcome.TheVariants.{Ended}
use Rattle.sg_outcome.specs.declared.outcomes.Why.{Why}
use Rattle.sg_pairs.specs.Bridged.{Bridging, Said, Happens, Joins, Parts, bridgings}
use Rattle.sg_pairs.specs.Calls.{AllLines}
use Rattle.sg_pairs.specs.Lasting.{IsInForce, IsPartyOf}
use Rattle.sg_pairs.specs.Pairs.{Members}
use Rattle.sg_pairs.specs.declared.members.Pair.{Pair}
use Rattle.sg_pairs.specs.declared.outcomes.BridgeOutcome.{BridgeOutcome}
use Rattle.sg_pairs.specs.declared.outcomes.BridgeOutcome.TheVariants as tells

-- the outcome ends a call of this pair
abbrev pub EndsOneOf : Pair → Outcome → Type 0
EndsOneOf p o = (id : CallId) × (slot : ℕ) × (media : ℕ) × (why : Why) × (o ≡ Ended id slot media why) × IsPartyOf p id slot

-- It ends a call of this pair, which was in force before the signal, and which isn't parted yet.
pub record IsPartedBy (calls : Members) (gone : List Pair) (p : Pair) (o : Outcome) : Type 0 where
  pub in_force : IsInForce calls p
  pub not_yet : ¬ Any (λ q. q ≡ p) gone
  pub ends : EndsOneOf p o

-- What is told of the gateway's outcomes, where these pairs are parted already: each outcome, in order, right behind one that
-- ends a call of a pair that this pair is parted, and nothing more.
abbrev pub AreTold : Members → List Pair → List Outcome → List BridgeOutcome → Type 0
AreTold calls gone [] told = told ≡ []
AreTold calls gone (o ∷ os) told = (rest : List BridgeOutcome)
    × (((told ≡ tells.Table o ∷ rest) × ((p : Pair) → ¬ IsPartedBy calls gone p o) × AreTold calls gone os rest)
    ⊎ ((p : Pair) × (told ≡ tells.Table o ∷ tells.Parted p.first.id p.second.id ∷ rest) × IsPartedBy calls gone p o × AreTold calls (p ∷ gone) os rest))

abbrev pub TellsSignal : Said → Bridging → Type 0
TellsSignal (Happens (Signalled signal)) b = AreTold b.pairs [] (step b.before (Signalled signal)).outcomes b.told
TellsSignal (Happens (Datagram port from d)) b = Unit {0}
TellsSignal (Joins first second) b = Unit {0}
TellsSignal (Parts id) b = Unit {0}

abbrev pub EachSignalIsTold : List Said → Type 0
EachSignalIsTold said = AllLines TellsSignal said (bridgings said)
