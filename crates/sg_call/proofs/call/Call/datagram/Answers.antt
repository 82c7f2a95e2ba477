use Rattle.std.proofs.Common.{◌≡◌, List, sym, subst}
use Rattle.sg_gateway.specs.Batch as batch
use Rattle.sg_psk.specs.declared.pairs.Pair.{Pair}
use Rattle.sg_gateway.specs.Datagrams.{arrived_in}
use Rattle.sg_gateway.specs.World.{Call}
use Rattle.sg_call.proofs.Standing.{call_passed, drop_stays}
use Rattle.sg_call.specs.Handling.{IsPassed}
use Rattle.sg_call.specs.Standing.{CallStandsFor}
use Rattle.sg_call.specs.contracts.call.Call.{the_view}
use Rattle.sg_call.proofs.call.Call.datagram.Goals as goal

viewed : (c : goal.After-self-1) (pairs : List Pair) (k : Call) → CallStandsFor pairs c.args.self.now k → CallStandsFor pairs (the_view c.self.inside) k
viewed c pairs k stands = subst (λ v. CallStandsFor pairs v k) (sym c.self.view_is) stands

passed : (c : goal.After-self-1) (pairs : List Pair) (k : Call) → CallStandsFor pairs c.args.self.now k
    → IsPassed c.args.now c.args.port c.args.from c.args.pad k c.pass-handled.result c.pass-handled.new.self.current c.pass-handled.new.self.earlier
passed c pairs k stands = c.pass-handled.ensures.passed c.args.now k (viewed c pairs k stands).new_is (viewed c pairs k stands).sessions

pub returns-clause-answer : goal.returns-clause-answer
returns-clause-answer c pairs k stands = (passed c pairs k stands).is

pub returns-clause-stands : goal.returns-clause-stands
returns-clause-stands c pairs k stands =
    subst (λ n. CallStandsFor pairs (record (the_view c.self.inside) { current = c.pass-handled.new.self.current; earlier = c.pass-handled.new.self.earlier; moment = n }) (batch.after (arrived_in c.args.now c.args.port c.args.from c.args.pad k) k))
    (sym c.moment_after-self-inside.ensures)
    (call_passed pairs c.args.now c.args.port c.args.from c.args.pad (the_view c.self.inside) k c.pass-handled.result c.pass-handled.new.self.current c.pass-handled.new.self.earlier (viewed c pairs k stands) (passed c pairs k stands))

pub returns-clause-refused : goal.returns-clause-refused
returns-clause-refused c =
    drop_stays (c.pass-handled.result.pad ≡ c.args.pad) (the_view c.self.inside) c.args.self.now c.pass-handled.result.end c.args.now c.moment_after-self-inside.result c.pass-handled.new.self
    c.self.view_is c.moment_after-self-inside.ensures c.pass-handled.ensures.refused
