-- The states of a call: what each stands for, whatever the call's sessions and moments. What an offer keeps names
-- pre-shared pairs by their positions in the book.
use Rattle.std.specs.Prelude.{◌≡◌, ◌==◌, ℕ, true, false, List, length, Option, Some, None}
use Rattle.sg_agreement.specs.Keying.{Offer}
use Rattle.sg_gateway.specs.World as world
use Rattle.sg_leg.specs.Open.{IsOpen}
use Rattle.sg_leg.specs.Values.{LiveValue, OfferedValue}
use Rattle.sg_psk.specs.declared.pairs.Pair.{Pair}
use Rattle.sg_call.specs.declared.state.State.{State}
use Rattle.sg_call.specs.declared.state.State.TheVariants.{Idle, Offered, Live}

-- a call in this slot, without a generation and without an offer
pub record IsIdle (slot : ℕ) (c : world.Call) : Type 0 where
  pub slot_is : slot ≡ c.slot
  pub not_manual : c.manual ≡ false
  pub no_offer : c.offer ≡ None
  pub no_generation : (c.generations == 0) ≡ true

-- a call under its generation, without an offer
pub record IsLive (l : LiveValue) (c : world.Call) : Type 0 where
  pub slot_is : l.slot ≡ c.slot
  pub media_are : l.media ≡ c.media
  pub manual_is : l.manual ≡ c.manual
  pub no_offer : c.offer ≡ None
  pub some_generation : (c.generations == 0) ≡ false

-- a generation of the call's slot and media, not keyed manually
abbrev pub former_live : world.Call → LiveValue
former_live c = record { slot = c.slot; media = c.media; manual = false }

-- the generation under which the call works on while an offer is open, where it has one
abbrev pub IsFormer : Option LiveValue → world.Call → Type 0
IsFormer None c = (c.generations == 0) ≡ true
IsFormer (Some l) c = ((c.generations == 0) ≡ false) × (l ≡ former_live c)

-- a call with an open offer
pub record IsOffered (pairs : List Pair) (o : OfferedValue) (c : world.Call) : Type 0 where
  pub slot_is : o.slot ≡ c.slot
  pub not_manual : c.manual ≡ false
  pub media_are : length o.description.media ≡ c.media
  pub former_is : IsFormer o.former c
  pub offer : Offer
  pub is_offer : c.offer ≡ Some offer
  pub is_open : IsOpen pairs o offer

abbrev pub StateStandsFor : List Pair → State → world.Call → Type 0
StateStandsFor pairs (Idle slot) c = IsIdle slot c
StateStandsFor pairs (Offered o) c = IsOffered pairs o c
StateStandsFor pairs (Live l) c = IsLive l c

-- where an offer is open, the book has the pre-shared pairs that it used, at the same places
abbrev pub HasPairs : List Pair → State → Type 0
HasPairs pairs (Idle slot) = Unit {0}
HasPairs pairs (Offered o) = (offer : Offer) × IsOpen pairs o offer
HasPairs pairs (Live l) = Unit {0}
