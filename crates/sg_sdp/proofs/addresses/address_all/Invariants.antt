use Rattle.std.proofs.Common.{◌≡◌, ◌++◌, map, take, drop}
use Rattle.sg_sdp.specs.Addresses.{with_address}
use Rattle.sg_sdp.proofs.addresses.address_all.Given as goal

abbrev pub invariant-loop-medium : goal.invariant-loop-medium
invariant-loop-medium l = l.medium-items ≡ map (with_address l.session) (take l.medium-index l.initial.medium-items) ++ drop l.medium-index l.initial.medium-items
