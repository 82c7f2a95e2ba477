-- What the drain of a call leaves.
use Rattle.std.specs.Prelude.{◌≡◌, List, [], ◌∷◌, ◌++◌}
use Rattle.sg_gateway.specs.Batch as batch
use Rattle.sg_gateway.specs.World as world
use Rattle.sg_psk.specs.declared.pairs.Pair.{Pair}
use Rattle.sg_call.specs.Handling.{call_after, all_handled, gives, handled_of}
use Rattle.sg_call.specs.Standing.{CallStandsFor}
use Rattle.sg_call.specs.Values.{CallValue, QueuedValue}

-- all that waited is handled in order
pub record IsDrained (old new : CallValue) : Type 0 where
  pub none_waits : new.waiting ≡ []
  pub same_slot : new.slot ≡ old.slot
  pub same_media : new.media ≡ old.media
  pub same_id : new.id ≡ old.id
  pub handles : (pairs : List Pair) (c : world.Call) → CallStandsFor pairs old c → new.handled ≡ old.handled ++ all_handled c old.waiting
  pub stands : (pairs : List Pair) (c : world.Call) → CallStandsFor pairs old c → CallStandsFor pairs new (call_after c old.waiting)

-- one that waited is handled
pub record IsNextHandled (a : QueuedValue) (pairs : List Pair) (c : world.Call) (old new : CallValue) : Type 0 where
  pub handles : new.handled ≡ old.handled ++ (a.number, handled_of a.octets (gives c a)) ∷ []
  pub stands : CallStandsFor pairs new (batch.after (gives c a) c)
