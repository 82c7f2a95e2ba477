use Rattle.std.proofs.Common.{◌∷◌, ◌++◌, [], List, sym, subst}
use Rattle.std.specs.List.{AllZip}
use Rattle.sg_demo.specs.Callers.{new_caller}
use Rattle.sg_demo.specs.Standing.{CallerStandsFor}
use Rattle.sg_demo.specs.declared.caller.Caller.{Caller}
use Rattle.sg_demo.proofs.Lists.{zip_push}
use Rattle.sg_demo.proofs.state.seat.Goals as goal

pub returns-clause-seated : goal.returns-clause-seated
returns-clause-seated c = λ cs stands.
    subst (λ (l : List Caller). AllZip CallerStandsFor l (cs ++ new_caller c.args.number c.args.slot c.args.from_peer.now c.args.to_peer.now ∷ [])) (sym c.in_ok-push.ensures.items)
    (zip_push CallerStandsFor c.args.callers.now.items cs c.make.result (new_caller c.args.number c.args.slot c.args.from_peer.now c.args.to_peer.now) stands c.make.ensures)
