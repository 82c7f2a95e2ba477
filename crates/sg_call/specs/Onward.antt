-- The plain address of a route that puts out on a plain port.
use Rattle.std.specs.Prelude.{ℕ, ◌&&◌, ◌==◌, if◌then◌else◌, List, [], ◌∷◌, Option, Some, None}
use Rattle.sg_base.specs.declared.addresses.Address.{Address}
use Rattle.sg_call.specs.Adding.{opens_route}
use Rattle.sg_call.specs.declared.route.Route.{Route}

-- the address of the first route that opens and puts out on that port
abbrev pub plain_by : ℕ → List Route → Option Address
plain_by port [] = None
plain_by port (p ∷ ps) = if opens_route p && (p.out == port) then Some p.to else plain_by port ps
