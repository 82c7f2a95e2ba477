-- The call of an id.
use Rattle.std.specs.Prelude.{Bool}
use Rattle.sg_base.specs.declared.addresses.CallId.{CallId}
use Rattle.sg_call.specs.Values.{CallValue}
use Rattle.sg_gateway.specs.World.{same_id}

abbrev pub has_id : CallId → CallValue → Bool
has_id id call = same_id call.id id
