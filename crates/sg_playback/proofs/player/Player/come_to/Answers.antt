use Rattle.std.proofs.Common.{rules, ◌≡◌, ℕ, List, [], refl, sym, subst}
use Rattle.sg_playback.proofs.Common.{FrontStandsFor, HasCome, Playing, Wrote, waiting, wrote_none}
use Rattle.sg_playback.proofs.Alike.{quiet_alike}
use Rattle.sg_playback.proofs.Plays.{come, none_waiting}
use Rattle.sg_playback.proofs.player.Player.come_to.Goals as goal

pub returns-then-moment-now-clause-came : goal.returns-then-moment-now-clause-came
returns-then-moment-now-clause-came g c = λ state stands.
    let at : c.args.self.now.front.table.moment ≡ c.args.now = search rules in
    ([], wrote_none _, ([], quiet_alike c.args.self.now.front state c.args.now c.args.self.now.waits stands at, (refl, stands)))

pub returns-clause-came : goal.returns-clause-came
returns-clause-came g c = λ state stands.
    let t = c.tick.ensures.ticked state (subst (λ (v : Playing). FrontStandsFor v.front state) (sym c.self.view_is) stands) in
    subst (λ (v : Playing). (x : List ℕ) × Wrote (g.K.Sink.written c.args.sink.now) (g.K.Sink.written c.tick.new.sink) x × HasCome c.tick.result c.args.now state (waiting v) (waiting c.tick.new.self) (FrontStandsFor c.tick.new.self.front) x) c.self.view_is
    (t.0, t.1, come c.tick.result c.args.now state _ (waiting c.tick.new.self) (FrontStandsFor c.tick.new.self.front) t.0 (none_waiting c.tick.result c.tick.new.self c.tick.ensures.none) t.2)
