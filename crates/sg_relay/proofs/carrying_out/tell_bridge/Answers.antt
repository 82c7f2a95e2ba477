use Rattle.std.proofs.Common.{◌∷◌, [], refl, sym, subst, inr, ◌∙◌, Err}
use Rattle.sg_relay.proofs.Common.{Act, AreCarriedOut, IsWritten, NoMemory, Write, wrote_none}
use Rattle.sg_relay.proofs.Blames.{due_so}
use Rattle.sg_relay.proofs.Deeds.{line_so, told_held}
use Rattle.sg_relay.proofs.carrying_out.tell_bridge.Goals as goal

pub returns-in-Err-clause-done : goal.returns-in-Err-clause-done
returns-in-Err-clause-done g c = (
  [],
  wrote_none _,
  subst (λ (a : Act). AreCarriedOut (Err NoMemory) (a ∷ []) [] []) (sym c.requires.is) (told_held (Err NoMemory) [] _ [] [] (refl, tt, refl, refl) (_, refl) (λ ok. absurd cc) (inr refl)),
)

pub returns-clause-done : goal.returns-clause-done
returns-clause-done g c =
    let wrote = line_so c.write_at_once.result _ _ _ (subst (IsWritten c.write_at_once.result _ _) (c.as_slice.ensures ∙ c.in-Ok.ensures) c.write_at_once.ensures.told) in (
      wrote.0,
      wrote.1,
      subst (λ (a : Act). AreCarriedOut c.write_at_once.result (a ∷ []) [] wrote.0) (sym c.requires.is)
          (told_held c.write_at_once.result [] _ [] wrote.0 (refl, tt, refl, refl) wrote.2 wrote.3 wrote.4),
    )

pub returns-clause-only : goal.returns-clause-only
returns-clause-only g c = (line_so c.write_at_once.result _ _ _ c.write_at_once.ensures.told).4

pub returns-clause-write : goal.returns-clause-write
returns-clause-write g c = due_so Write c.write_at_once.result _ _ _ c.write_at_once.ensures.cause
