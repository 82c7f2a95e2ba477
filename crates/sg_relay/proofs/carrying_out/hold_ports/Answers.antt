use Rattle.std.proofs.Common.{◌+◌, ◌*◌, ℕ, List, [], ◌∷◌, ◌++◌, map, refl, ap, subst, arith, ◌∙◌, Ok, Err}
use Rattle.sg_relay.proofs.Common.{Ask, IsHeld, called_more, hold, ports_from}
use Rattle.sg_relay.proofs.Deeds.{asks_in_all, asks_so_far, held_longer, held_more}
use Rattle.sg_relay.proofs.carrying_out.hold_ports.Goals as goal

pub loop-i-preserved : goal.loop-i-preserved
loop-i-preserved g c =
    let so_far = c.loop-i.invariant.0 in
    let held = c.in-Ok.ensures.held in
    let h : ℕ → Ask = hold c.args.bound in (
      (
        so_far.0 ++ held.0,
        called_more _ _ _ so_far.0 held.0 so_far.1 held.1,
        subst (λ (asks : List Ask). IsHeld (Ok tt) asks (so_far.0 ++ held.0)) (asks_so_far h c.port_at-first.result c.loop-i.i)
            (held_more (Ok tt) (map h (ports_from c.port_at-first.result c.loop-i.i)) (h (c.port_at-first.result + c.loop-i.i) ∷ []) so_far.0 held.0 so_far.2 held.2),
      ),
      c.in-Ok.ensures.cause.quiet refl ∙ c.loop-i.invariant.1,
    )

pub returns-in-Err-clause-held : goal.returns-in-Err-clause-held
returns-in-Err-clause-held g c =
    let so_far = c.loop-i.invariant.0 in
    let held = c.in-Err.ensures.held in
    let h : ℕ → Ask = hold c.args.bound in
    let port : ℕ = c.port_at-first.result in
    let all = asks_in_all h port c.loop-i.i (4 * c.args.media) (omega (arith, c.loop-i-test.true, c.from-i-end.ensures)) in (
      so_far.0 ++ held.0,
      called_more _ _ _ so_far.0 held.0 so_far.1 held.1,
      subst (λ (asks : List Ask). IsHeld (Err _) asks (so_far.0 ++ held.0)) (all.1 ∙ ap (λ (p : ℕ). map h (ports_from p (4 * c.args.media))) c.port_at-first.ensures)
          (held_longer (map h (ports_from port c.loop-i.i) ++ (h (port + c.loop-i.i) ∷ [])) all.0 (so_far.0 ++ held.0) _
          (held_more (Err _) (map h (ports_from port c.loop-i.i)) (h (port + c.loop-i.i) ∷ []) so_far.0 held.0 so_far.2 held.2)),
    )
