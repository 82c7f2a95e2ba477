use Rattle.std.proofs.Common.{◌≡◌, ℕ, List, ◌∷◌, take, drop, Ok, refl, sym, ap, subst, ◌∙◌, arith, take-append-drop}
use Rattle.std.proofs.lemmas.List.{drop_all}
use Rattle.sg_edge.specs.declared.link.Receipt.{Receipt}
use Rattle.sg_edge.specs.Ports.{IsAsked, row_behind, served, turned}
use Rattle.sg_edge.proofs.Waiting.{asked_to, none_left}
use Rattle.sg_edge.proofs.udp.UdpLink.ask_all.Goals as goal

pub loop-init : goal.loop-init
loop-init g c = (refl, λ port. refl, refl, refl, refl)

pub returns-in-Err-clause-bound : goal.returns-in-Err-clause-bound
returns-in-Err-clause-bound g c = λ port. c.in-Err.ensures.bound port ∙ c.loop.invariant.1 port

pub returns-in-Err-clause-asked : goal.returns-in-Err-clause-asked
returns-in-Err-clause-asked g c =
    let all = c.args.self.now.ports.waiting.items in
    (take c.loop.counter all, drop c.loop.counter all, sym (take-append-drop c.loop.counter all), c.in-Err.ensures.asked.0 ∙ ap turned c.loop.invariant.3, c.in-Err.ensures.asked.1)

pub returns-in-Ok-Got-clause-bound : goal.returns-in-Ok-Got-clause-bound
returns-in-Ok-Got-clause-bound g c = λ port. c.in-Ok-Got.ensures.bound port ∙ c.loop.invariant.1 port

pub returns-in-Ok-Got-clause-asked : goal.returns-in-Ok-Got-clause-asked
returns-in-Ok-Got-clause-asked g c =
    let all = c.args.self.now.ports.waiting.items in
    let mid = c.loop.self.ports.waiting.items in
    let new = c.ask.new.self.ports.waiting.items in
    let port : ℕ = c.in-Ok-Got.port in
    let row = c.loop.self.ports.row in
    let row' = c.ask.new.self.ports.row in
    let asked : (rest : List ℕ) × (mid ≡ port ∷ rest) × (new ≡ served row (port ∷ rest)) × (row' ≡ row_behind row) =
    subst (λ (r : Receipt). IsAsked (Ok r) row mid row' new) c.in-Ok-Got.field-0-is c.in-Ok-Got.ensures.asked in (
      take c.loop.counter all,
      asked.0,
      asked_to c.loop.counter all mid asked.0 port c.loop.invariant.3 asked.1,
      asked.2 ∙ ap (λ (n : ℕ). served n (port ∷ asked.0)) c.loop.invariant.2,
      asked.3 ∙ ap row_behind c.loop.invariant.2,
    )

pub loop-preserved : goal.loop-preserved
loop-preserved g c =
    let mid = c.loop.self.ports.waiting.items in
    let new = c.ask.new.self.ports.waiting.items in
    let row = c.loop.self.ports.row in
    let row' = c.ask.new.self.ports.row in
    let asked : (new ≡ drop 1 mid) × (row' ≡ row) = subst (λ (r : Receipt). IsAsked (Ok r) row mid row' new) c.in-Ok-Nothing.field-0-is c.in-Ok-Nothing.ensures.asked in (
      c.in-Ok-Nothing.ensures.cause.quiet refl ∙ c.loop.invariant.0,
      λ port. c.in-Ok-Nothing.ensures.bound port ∙ c.loop.invariant.1 port,
      asked.1 ∙ c.loop.invariant.2,
      none_left c.loop.counter c.args.self.now.ports.waiting.items mid new c.loop.invariant.3 asked.0,
      c.in-Ok-Nothing.ensures.counts ∙ c.loop.invariant.4,
    )

pub returns-clause-bound : goal.returns-clause-bound
returns-clause-bound g c = c.loop.invariant.1

pub returns-clause-asked : goal.returns-clause-asked
returns-clause-asked g c = (c.loop.invariant.3 ∙ drop_all c.loop.counter c.args.self.now.ports.waiting.items (omega (arith, c.loop-test.false, c.count-end.ensures)), c.loop.invariant.2)

pub returns-in-Err-clause-counts : goal.returns-in-Err-clause-counts
returns-in-Err-clause-counts g c = c.in-Err.ensures.counts ∙ c.loop.invariant.4

pub returns-in-Ok-Got-clause-counts : goal.returns-in-Ok-Got-clause-counts
returns-in-Ok-Got-clause-counts g c = c.in-Ok-Got.ensures.counts ∙ c.loop.invariant.4

pub returns-clause-counts : goal.returns-clause-counts
returns-clause-counts g c = c.loop.invariant.4
