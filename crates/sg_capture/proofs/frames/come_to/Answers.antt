use Rattle.std.proofs.Common.{rules, [], map, ap}
use Rattle.sg_capture.proofs.Common.{FrontStandsFor, StandsFor, arrived, unshared, waiting, wrote_none}
use Rattle.sg_capture.proofs.Meets.{few_of, on_ok, tick_met, tick_none}
use Rattle.sg_capture.proofs.frames.come_to.Goals as goal

pub returns-then-moment-top-clause-met : goal.returns-then-moment-top-clause-met
returns-then-moment-top-clause-met g c = λ w stands.
    ([], wrote_none _, tick_none c.args.top c.args.moment w (waiting c.args.player.now) (StandsFor c.args.player.now.front) (search rules) stands)

pub returns-clause-met : goal.returns-clause-met
returns-clause-met g c = λ w stands.
    let t = c.tick.ensures.ticked (unshared w) stands in (
      t.0,
      t.1,
      tick_met c.tick.result c.args.top c.args.moment w (waiting c.args.player.now) (waiting c.tick.new.self) (FrontStandsFor c.tick.new.self.front) t.0 (search rules)
          (λ ok. ap (map arrived) (on_ok c.tick.result _ c.tick.ensures.none ok)) t.2,
    )

pub returns-clause-few : goal.returns-clause-few
returns-clause-few g c = few_of c.tick.result c.tick.new.self.waits c.tick.ensures.none
