use Rattle.std.proofs.Common.{◌≡◌, ◌+◌, Some, arith, subst, ap, sym, ◌∙◌}
use Rattle.sg_states.specs.StreamValues.{StreamValue}
use Rattle.sg_states.specs.Streams.{IsOpenPlace}
use Rattle.sg_states.proofs.Placings.{new_at_first, new_after}
use Rattle.sg_states.proofs.stream.Stream.following.Goals as goal

pub returns-in-None-clause-open : goal.returns-in-None-clause-open
returns-in-None-clause-open c =
    subst (λ (v : StreamValue). IsOpenPlace v 0) c.self.view_is (record { bound = omega arith; new = new_at_first c.self.inside.place c.self.inside.seen c.self.invariant c.in-None.is })

pub returns-then-highest-lt-LAST-clause-open : goal.returns-then-highest-lt-LAST-clause-open
returns-then-highest-lt-LAST-clause-open c =
    let some : c.self.inside.place ≡ Some c.highest-highest.result = c.in-Some.is ∙ ap Some (sym (c.highest-highest.ensures.same)) in
    subst (λ (v : StreamValue). IsOpenPlace v (c.highest-highest.result + 1)) c.self.view_is
    (record { bound = omega arith; new = new_after c.self.inside.place c.self.inside.seen c.highest-highest.result c.self.invariant some })
