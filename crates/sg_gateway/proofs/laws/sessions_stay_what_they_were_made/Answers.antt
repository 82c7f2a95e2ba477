use Rattle.std.proofs.Common.{◌≡◌, Some, sym, subst}
use Rattle.sg_gateway.proofs.Common.{All, All-from_recursion, Event, World, call_of, step, turn_of}
use Rattle.sg_gateway.proofs.Lasting.{manual_told, sessions_last}
use Rattle.sg_gateway.proofs.Reached.{at_each_turn}
use Rattle.sg_gateway.specs.Lasting.{ManualIsAsTold, IsOfManual}
use Rattle.sg_gateway.proofs.laws.sessions_stay_what_they_were_made.Goals as goal

pub returns-clause-last : goal.returns-clause-last
returns-clause-last c = sessions_last

manual_at : (w : World) (e : Event) → ManualIsAsTold (turn_of w e)
manual_at w e h d same none =
    subst (λ (e : Event). call_of (step w e).world h.id ≡ Some d → All (IsOfManual h) d.sessions) (sym same) (λ is. All-from_recursion (IsOfManual h) d.sessions (manual_told h w none d is))

pub returns-clause-manual : goal.returns-clause-manual
returns-clause-manual c = at_each_turn ManualIsAsTold (λ past w e kept. manual_at w e)
