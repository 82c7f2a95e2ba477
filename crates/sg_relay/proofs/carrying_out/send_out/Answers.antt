use Rattle.std.proofs.Common.{[], ◌∷◌, refl, true, false}
use Rattle.sg_edge.specs.Links.{Send}
use Rattle.sg_relay.proofs.Common.{Sends, Write, wrote_none}
use Rattle.sg_relay.proofs.Blames.{due_so, written_link, written_only}
use Rattle.sg_relay.proofs.Deeds.{line_so, told_unsent}
use Rattle.sg_relay.proofs.carrying_out.send_out.Goals as goal

pub returns-in-Ok-clause-done : goal.returns-in-Ok-clause-done
returns-in-Ok-clause-done g c = (
  Send c.args.port c.args.to c.args.octets.now true ∷ [],
  [],
  c.in-Ok.ensures.told,
  wrote_none _,
  (record { done = record { act = Sends c.args.port c.args.to c.args.octets.now; sent = true } ∷ []; of_acts = refl; asked = refl; sent = refl; written = refl }, (tt, tt), refl),
)

pub returns-in-Err-clause-done : goal.returns-in-Err-clause-done
returns-in-Err-clause-done g c =
    let wrote = line_so c.tell_at_once.result _ _ _ c.tell_at_once.ensures.told in (
      Send c.args.port c.args.to c.args.octets.now false ∷ [],
      wrote.0,
      c.in-Err.ensures.told,
      wrote.1,
      told_unsent c.tell_at_once.result c.args.port c.args.to c.args.octets.now wrote.0 wrote.2 wrote.3 wrote.4,
    )

pub returns-in-Err-clause-only : goal.returns-in-Err-clause-only
returns-in-Err-clause-only g c = written_only c.tell_at_once.result (line_so c.tell_at_once.result _ _ _ c.tell_at_once.ensures.told).4

pub returns-in-Err-clause-write : goal.returns-in-Err-clause-write
returns-in-Err-clause-write g c = due_so Write c.tell_at_once.result _ _ _ c.tell_at_once.ensures.cause

pub returns-in-Err-clause-link : goal.returns-in-Err-clause-link
returns-in-Err-clause-link g c = written_link c.tell_at_once.result _ _ (line_so c.tell_at_once.result _ _ _ c.tell_at_once.ensures.told).4 c.in-Err.ensures.same
