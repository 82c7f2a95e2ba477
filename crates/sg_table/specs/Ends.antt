-- Calls that end.
use Rattle.std.specs.Prelude.{◌≡◌, ℕ, ◌+◌, Bool, nat_le, List, Result, OnErr, set, slice_index_or}
use Rattle.sg_base.specs.declared.faults.Refusal.{Refusal}
use Rattle.sg_call.specs.Settling.{IsRejected}
use Rattle.sg_call.specs.Standing.{CallStandsFor}
use Rattle.sg_call.specs.Values.{CallValue}
use Rattle.sg_gateway.specs.CallSignals.{call_at_tick, rejected_in}
use Rattle.sg_gateway.specs.World as world
use Rattle.sg_outcome.specs.declared.outcomes.Outcome.{Outcome}
use Rattle.sg_outcome.specs.declared.outcomes.Outcome.TheVariants.{Ended}
use Rattle.sg_outcome.specs.declared.outcomes.Why.{Why}
use Rattle.sg_psk.specs.declared.pairs.Pair.{Pair}

abbrev pub ended_as : Why → CallValue → Outcome
ended_as why call = Ended call.id call.slot call.media why

-- a call is idle 60,000 ms after its moment
abbrev pub idles : ℕ → CallValue → Bool
idles now call = nat_le (call.moment + 60000) now

-- a call after a tick stands for what the definition's call is after it
pub record IsTicked (now : ℕ) (old new : CallValue) : Type 0 where
  pub stands : (pairs : List Pair) (c : world.Call) → CallStandsFor pairs old c → CallStandsFor pairs new (call_at_tick now c)
  pub waiting : new.waiting ≡ old.waiting
  pub handled : new.handled ≡ old.handled

-- the call at a position after its open offer was rejected, or refused
pub record IsRejectedAt (now i : ℕ) (r : Result Bool Refusal) (old new : List CallValue) : Type 0 where
  pub before : CallValue
  pub after : CallValue
  pub was : (d : CallValue) → slice_index_or old i d ≡ before
  pub is : new ≡ set old i after
  pub rejected : (pairs : List Pair) (c : world.Call) → CallStandsFor pairs before c → IsRejected pairs r after (rejected_in now c)
  pub inbox : (after.waiting ≡ before.waiting) × (after.handled ≡ before.handled)
  pub back : OnErr r (after ≡ before)
