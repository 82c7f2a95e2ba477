use Rattle.std.proofs.Common.{arith, ◌≡◌, ◌++◌, ◌∷◌, [], ap, subst, ◌∙◌}
use Rattle.std.proofs.lemmas.Grind.{common_steps}
use Rattle.sg_states.specs.Inbound.{Placing}
use Rattle.sg_states.specs.Streams.{StreamStands}
use Rattle.sg_states.proofs.inbound.Verified.decrypt.Goals as goal

pub returns-clause-stream : goal.returns-clause-stream
returns-clause-stream c = λ ssrc roc window indices s.
    let same : c.placed.inside.index ≡ c.args.self.index = ap (λ (p : Placing). p.index) (c.placed.view_is ∙ c.self.view_is) in
    subst (λ i. StreamStands c.take.new.self ssrc roc window (indices ++ i ∷ [])) same (c.take.ensures.stands ssrc roc window indices s)

pub returns-clause-opened : goal.returns-clause-opened
returns-clause-opened c = grind (arith, common_steps)
