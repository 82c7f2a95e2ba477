use Rattle.std.proofs.Common.{◌∷◌, ◌++◌, [], map, Ok, Err, ap, refl}
use Rattle.sg_capture.proofs.Common.{FrontStandsFor, IsToldOf, Skipped, StandsFor, arrived, captured_events, unshared, waiting, world_after, wrote_more}
use Rattle.sg_capture.proofs.Meets.{few_ok, met_before, met_then, settled_met, skip_met}
use Rattle.sg_capture.proofs.frames.tell_skip.Goals as goal

pub returns-in-Err-clause-met : goal.returns-in-Err-clause-met
returns-in-Err-clause-met g c = λ w stands.
    let s = c.in-Err.ensures.settled (unshared w) stands in (
      s.0,
      s.1,
      met_before c.in-Err.status w (waiting c.args.player.now) (waiting c.settle.new.self) (waiting c.settle.new.self) [] (Skipped c.args.number c.args.cause ∷ []) (StandsFor c.settle.new.self.front) (StandsFor c.settle.new.self.front) s.0
          (settled_met (Err c.in-Err.status) w (waiting c.args.player.now) (waiting c.settle.new.self) (FrontStandsFor c.settle.new.self.front) s.0 s.2),
    )

pub returns-clause-met : goal.returns-clause-met
returns-clause-met g c = λ w stands.
    let s = c.in-Ok.ensures.settled (unshared w) stands in
    let mid = waiting c.settle.new.self in
    let first : IsToldOf w (waiting c.args.player.now) mid [] (StandsFor c.settle.new.self.front) s.0 =
    settled_met (Ok tt) w (waiting c.args.player.now) mid (FrontStandsFor c.settle.new.self.front) s.0 s.2 in
    let t = skip_met c.write_skip.result (world_after w (captured_events first.told)) mid mid c.args.number c.args.cause (StandsFor c.settle.new.self.front) _ _ (ap (map arrived) c.in-Ok.ensures.none) refl first.stands c.write_skip.ensures.told in (
      s.0 ++ t.0,
      wrote_more _ _ _ s.0 t.0 s.1 t.1,
      met_then c.write_skip.result w (waiting c.args.player.now) mid mid [] (Skipped c.args.number c.args.cause ∷ []) (StandsFor c.settle.new.self.front) (StandsFor c.settle.new.self.front) s.0 t.0 first t.2,
    )

pub returns-clause-few : goal.returns-clause-few
returns-clause-few g c = few_ok c.write_skip.result c.settle.new.self.waits c.in-Ok.ensures.none
