-- The open offer of a call: the latest of its offers that was taken, behind which nothing of the call was (RFC 3264, 4).
use Rattle.std.specs.Prelude.{◌≡◌, ℕ, List, ◌∷◌, ◌++◌, Some, Ok}
use Rattle.std.specs.List.{AllByRecursion, Any}
use Rattle.sg_agreement.specs.Sides.{other_side, side_of}
use Rattle.sg_agreement.specs.declared.ways.Way.{Way}
use Rattle.sg_base.specs.declared.addresses.CallId.{CallId}
use Rattle.sg_outcome.specs.declared.outcomes.Outcome.TheVariants as outcomes
use Rattle.sg_sdp.specs.Reading.{description_of}
use Rattle.sg_sdp.specs.declared.sdp.Sdp.{Sdp}
use Rattle.sg_gateway.specs.Early.{named}
use Rattle.sg_gateway.specs.Refusing.{IsRefusal}
use Rattle.sg_gateway.specs.Signals.{Offered, Signal}
use Rattle.sg_gateway.specs.Step.{Signalled}
use Rattle.sg_audit.specs.Seen.{Seen}

-- if it is a signal that names the call, it is refused
abbrev pub TakesNothing : CallId → Seen → Type 0
TakesNothing id x = (signal : Signal) → x.came ≡ Signalled signal → named signal ≡ Some id → Any IsRefusal x.told

-- what came in it is an offer of the call, whose text was told to the other side; and nothing of the call was taken since
pub record OpenOffer (earlier : List Seen) (id : CallId) : Type 0 where
  pub before : List Seen
  pub offered : Seen
  pub since : List Seen
  pub are : earlier ≡ before ++ offered ∷ since
  pub way : Way
  pub drawn : List ℕ
  pub text : List ℕ
  pub came : offered.came ≡ Signalled (Offered id way drawn text)
  pub offer : Sdp
  pub in_offer : description_of text ≡ Ok offer
  pub forth : List ℕ
  pub tells_forth : Any (λ z. z ≡ outcomes.Sdp id (other_side (side_of way)) forth) offered.told
  pub none_since : AllByRecursion (TakesNothing id) since
