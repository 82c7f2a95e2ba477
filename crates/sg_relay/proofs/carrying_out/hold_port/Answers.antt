use Rattle.std.proofs.Common.{[], ◌∷◌, refl, sym, subst, true, false, is_ok}
use Rattle.sg_edge.specs.Links.{Bind, Unbind}
use Rattle.sg_relay.proofs.Common.{IsHeld, hold}
use Rattle.sg_relay.proofs.Deeds.{held_one}
use Rattle.sg_relay.proofs.carrying_out.hold_port.Goals as goal

pub returns-then-bound-clause-held : goal.returns-then-bound-clause-held
returns-then-bound-clause-held g c = (
  Bind c.args.port (is_ok c.bind.result) ∷ [],
  c.bind.ensures.told,
  subst (λ b. IsHeld c.bind.result (hold b c.args.port ∷ []) (Bind c.args.port (is_ok c.bind.result) ∷ [])) (sym c.if-bound.true)
      (held_one true c.args.port c.bind.result (Bind c.args.port) (λ ok. refl) (λ ok. (refl, refl)) refl (λ is. cc)),
)

pub returns-clause-held : goal.returns-clause-held
returns-clause-held g c = (
  Unbind c.args.port (is_ok c.unbind.result) ∷ [],
  c.unbind.ensures.told,
  subst (λ b. IsHeld c.unbind.result (hold b c.args.port ∷ []) (Unbind c.args.port (is_ok c.unbind.result) ∷ [])) (sym c.if-bound.false)
      (held_one false c.args.port c.unbind.result (Unbind c.args.port) (λ ok. refl) (λ ok. (refl, refl)) refl (λ is. cc)),
)
