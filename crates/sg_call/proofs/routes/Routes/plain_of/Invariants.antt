use Rattle.std.proofs.Common.{◌≡◌, drop}
use Rattle.sg_call.specs.Onward.{plain_by}
use Rattle.sg_call.proofs.routes.Routes.plain_of.Given as goal

abbrev pub invariant-loop-route : goal.invariant-loop-route
invariant-loop-route l = plain_by l.port (drop l.route-index l.current) ≡ plain_by l.port l.current
