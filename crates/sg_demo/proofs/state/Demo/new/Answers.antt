use Rattle.std.proofs.Common.{List, [], refl, sym, subst}
use Rattle.std.specs.List.{AllZip}
use Rattle.sg_demo.specs.Demonstration.{calls_made}
use Rattle.sg_demo.specs.Standing.{CallerStandsFor}
use Rattle.sg_demo.specs.declared.caller.Caller.{Caller}
use Rattle.sg_demo.proofs.state.Demo.new.Goals as goal

pub returns-clause-stands : goal.returns-clause-stands
unfolding calls_made
returns-clause-stands c = λ table stands. record {
  words = c.start.ensures;
  callers = subst (λ (l : List Caller). AllZip CallerStandsFor l []) (sym c.new.ensures.items) tt;
  summary = refl;
  taken = stands;
}
