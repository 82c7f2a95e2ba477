use Rattle.std.proofs.Common.{refl, sym, subst, [], ◌∷◌, Err}
use Rattle.sg_relay.proofs.Common.{Act, AreCarriedOut, Link, Write, wrote_none}
use Rattle.sg_relay.proofs.Blames.{due_so, written_link, written_only}
use Rattle.sg_relay.proofs.Deeds.{line_so, told_held, told_unheld}
use Rattle.sg_relay.proofs.carrying_out.hold_and_tell.Goals as goal

pub returns-in-Err-clause-done : goal.returns-in-Err-clause-done
returns-in-Err-clause-done g c =
    let held = c.in-Err.ensures.held in
    (held.0, [], held.1, wrote_none _, subst (λ (a : Act). AreCarriedOut (Err Link) (a ∷ []) held.0 []) (sym c.requires.is) (told_unheld _ _ held.0 _ held.2))

pub returns-in-Ok-clause-done : goal.returns-in-Ok-clause-done
returns-in-Ok-clause-done g c =
    let held = c.in-Ok.ensures.held in
    let wrote = line_so c.tell_at_once.result _ _ _ c.tell_at_once.ensures.told in
    (held.0, wrote.0, held.1, wrote.1, subst (λ (a : Act). AreCarriedOut c.tell_at_once.result (a ∷ []) held.0 wrote.0) (sym c.requires.is) (told_held c.tell_at_once.result _ _ held.0 wrote.0 held.2 wrote.2 wrote.3 wrote.4))

pub returns-in-Ok-clause-only : goal.returns-in-Ok-clause-only
returns-in-Ok-clause-only g c = written_only c.tell_at_once.result (line_so c.tell_at_once.result _ _ _ c.tell_at_once.ensures.told).4

pub returns-in-Ok-clause-write : goal.returns-in-Ok-clause-write
returns-in-Ok-clause-write g c = due_so Write c.tell_at_once.result _ _ _ c.tell_at_once.ensures.cause

pub returns-in-Ok-clause-link : goal.returns-in-Ok-clause-link
returns-in-Ok-clause-link g c = written_link c.tell_at_once.result _ _ (line_so c.tell_at_once.result _ _ _ c.tell_at_once.ensures.told).4 (c.in-Ok.ensures.cause.quiet refl)
