use Rattle.std.proofs.Common.{[], ◌∷◌, sym, subst}
use Rattle.sg_playback.proofs.Common.{Datagram, FrontStandsFor, as_octets, state_after, waiting}
use Rattle.sg_playback.proofs.Plays.{arrived_room, memory_only, room_cut}
use Rattle.sg_playback.proofs.player.Player.arrive.Goals as goal

pub returns-in-Err-clause-came : goal.returns-in-Err-clause-came
returns-in-Err-clause-came g c = λ state stands.
    let s = c.in-Err.ensures.made state stands in
    (s.0, s.1, room_cut c.in-Err.status state (waiting c.args.self.now) (Datagram c.args.port c.args.from (as_octets c.args.octets.now) ∷ []) (FrontStandsFor c.make_room.new.self.front) s.0 s.2)

pub returns-clause-came : goal.returns-clause-came
returns-clause-came g c = λ state stands.
    let m = c.in-Ok.ensures.made state stands in
    let stands' = subst (λ t. FrontStandsFor t (state_after state m.2.0)) (sym c.wait.ensures.front) m.2.2.1 in (
      m.0,
      m.1,
      arrived_room c.wait.result state (waiting c.args.self.now) (waiting c.make_room.new.self) (waiting c.wait.new.self) m.2.0 (Datagram c.args.port c.args.from (as_octets c.args.octets.now)) (FrontStandsFor c.wait.new.self.front) m.0
          m.2.1 c.wait.ensures.waits c.wait.ensures.only (m.2.2.0, stands'),
    )

pub returns-clause-only : goal.returns-clause-only
returns-clause-only g c = memory_only c.wait.result c.wait.ensures.only
