-- An offer in a state of a call.
use Rattle.std.proofs.Common.{◌≡◌, ℕ, Bool, true, false, not, ◌||◌, Option, None, eqb}
use Rattle.std.specs.Option.{is_some}
use Rattle.sg_agreement.specs.Keying.{Offer}
use Rattle.sg_gateway.specs.CallSignals.{has_begun}
use Rattle.sg_gateway.specs.World.{Call}
use Rattle.sg_call.specs.States.{IsIdle}

begun_as : (c : Call) (o : Option Offer) (g : Bool) → c.offer ≡ o → eqb c.generations 0 ≡ g → has_begun c ≡ (is_some o || not g)
begun_as c o g p q = (λ i. is_some (p i) || not (q i))

pub idle_begun : (slot : ℕ) (c : Call) → IsIdle slot c → has_begun c ≡ false
idle_begun slot c h = begun_as c None true h.no_offer h.no_generation
