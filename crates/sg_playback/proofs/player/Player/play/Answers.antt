use Rattle.std.proofs.Common.{rules, ◌≡◌, ℕ, List, [], ◌∷◌, ◌++◌, Ok, Err, ◌∙◌, ap, refl, sym, subst, inl, inr, append-nil}
use Rattle.sg_lines.specs.declared.lines.Line.TheVariants as lines
use Rattle.sg_playback.proofs.Common.{Datagram, FrontStandsFor, HasRoom, IsPlayed, Signalled, Tick, added_none, as_octets, effects, gives, not_failed}
use Rattle.sg_playback.proofs.Common.{state_after, waiting, wrote_more, wrote_none}
use Rattle.sg_playback.proofs.Alike.{same_alike}
use Rattle.sg_playback.proofs.Lines.{few_waiting}
use Rattle.sg_playback.proofs.Plays.{header_taken, line_arrived, line_cut, only_not, want_not}
use Rattle.sg_playback.proofs.player.Player.play.Goals as goal

pub returns-in-Header-clause-played : goal.returns-in-Header-clause-played
returns-in-Header-clause-played g c = λ state stands. (
  [],
  [],
  added_none _,
  wrote_none _,
  elim c.in-Header.is [
    | inl is ↦
        subst (λ l. IsPlayed (Ok tt) effects (gives l) 258 state (waiting c.args.self.now) (waiting c.args.self.now) (FrontStandsFor c.args.self.now.front) [] []) (sym is)
        (header_taken lines.Header state (waiting c.args.self.now) (FrontStandsFor c.args.self.now.front) (λ more. refl) refl stands)
    | inr is ↦
        subst (λ l. IsPlayed (Ok tt) effects (gives l) 258 state (waiting c.args.self.now) (waiting c.args.self.now) (FrontStandsFor c.args.self.now.front) [] []) (sym is)
        (header_taken lines.HeaderTwo state (waiting c.args.self.now) (FrontStandsFor c.args.self.now.front) (λ more. refl) refl stands)
  ],
)

pub returns-in-Datagram-clause-played : goal.returns-in-Datagram-clause-played
returns-in-Datagram-clause-played g c = λ state stands.
    let a = c.arrive.ensures.came state stands in
    let same : c.as_slice.result.now ≡ c.in-Datagram.octets = search rules in
    let line = lines.Datagram c.in-Datagram.port c.in-Datagram.from c.in-Datagram.octets in
    let waited = waiting c.args.self.now in
    let few = few_waiting c.args.self.now (search rules) in
    let came = subst (λ (o : List ℕ). HasRoom c.arrive.result state (waited ++ Datagram c.in-Datagram.port c.in-Datagram.from (as_octets o) ∷ []) (waiting c.arrive.new.self) (FrontStandsFor c.arrive.new.self.front) a.0) same a.2 in (
      [],
      a.0,
      added_none _,
      a.1,
      subst (λ l. IsPlayed c.arrive.result effects (gives l) 258 state waited (waiting c.arrive.new.self) (FrontStandsFor c.arrive.new.self.front) [] a.0) (sym c.in-Datagram.is)
          (line_arrived line (λ more. refl) state waited [] few (Datagram c.in-Datagram.port c.in-Datagram.from (as_octets c.in-Datagram.octets)) refl waited [] (same_alike state (waited ++ []) waited (append-nil waited)) [] refl
          c.arrive.result (waiting c.arrive.new.self) (FrontStandsFor c.arrive.new.self.front) a.0 came),
    )

pub returns-in-Datagram-clause-noise : goal.returns-in-Datagram-clause-noise
returns-in-Datagram-clause-noise g c = not_failed _ _ _ _ refl (only_not c.arrive.result c.arrive.ensures.only)

pub returns-in-Err-clause-played : goal.returns-in-Err-clause-played
returns-in-Err-clause-played g c = λ state stands.
    let s = c.in-Err.ensures.came state stands in
    let line = lines.DatagramAt c.in-DatagramAt.now c.in-DatagramAt.port c.in-DatagramAt.from c.in-DatagramAt.octets in (
      [],
      s.0,
      added_none _,
      s.1,
      subst (λ l. IsPlayed (Err c.in-Err.status) effects (gives l) 258 state (waiting c.args.self.now) (waiting c.come_to.new.self) (FrontStandsFor c.come_to.new.self.front) [] s.0) (sym c.in-DatagramAt.is)
          (line_cut line (λ more. refl) state (waiting c.args.self.now) (Signalled (Tick c.in-DatagramAt.now) ∷ []) (few_waiting c.args.self.now (search rules)) (Datagram c.in-DatagramAt.port c.in-DatagramAt.from (as_octets c.in-DatagramAt.octets)) refl
          c.in-Err.status (waiting c.come_to.new.self) (FrontStandsFor c.come_to.new.self.front) s.0 s.2),
    )

pub returns-in-Err-clause-noise : goal.returns-in-Err-clause-noise
returns-in-Err-clause-noise g c = not_failed _ _ _ _ refl (want_not c.in-Err.status c.in-Err.ensures.only)

pub returns-in-Ok-clause-played : goal.returns-in-Ok-clause-played
returns-in-Ok-clause-played g c = λ state stands.
    let m = c.in-Ok.ensures.came state stands in
    let a = c.arrive-in-DatagramAt.ensures.came (state_after state m.2.0) m.2.2.1 in
    let same : c.as_slice-in-DatagramAt.result.now ≡ c.in-DatagramAt.octets = search rules in
    let line = lines.DatagramAt c.in-DatagramAt.now c.in-DatagramAt.port c.in-DatagramAt.from c.in-DatagramAt.octets in
    let waits = waiting c.come_to.new.self in
    let came = subst (λ (o : List ℕ). HasRoom c.arrive-in-DatagramAt.result (state_after state m.2.0) (waits ++ Datagram c.in-DatagramAt.port c.in-DatagramAt.from (as_octets o) ∷ []) (waiting c.arrive-in-DatagramAt.new.self) (FrontStandsFor c.arrive-in-DatagramAt.new.self.front) a.0) same a.2 in (
      [],
      m.0 ++ a.0,
      added_none _,
      wrote_more _ _ _ m.0 a.0 m.1 a.1,
      subst (λ l. IsPlayed c.arrive-in-DatagramAt.result effects (gives l) 258 state (waiting c.args.self.now) (waiting c.arrive-in-DatagramAt.new.self) (FrontStandsFor c.arrive-in-DatagramAt.new.self.front) [] (m.0 ++ a.0)) (sym c.in-DatagramAt.is)
          (line_arrived line (λ more. refl) state (waiting c.args.self.now) (Signalled (Tick c.in-DatagramAt.now) ∷ []) (few_waiting c.args.self.now (search rules)) (Datagram c.in-DatagramAt.port c.in-DatagramAt.from (as_octets c.in-DatagramAt.octets)) refl waits m.2.0 m.2.1 m.0 m.2.2.0
          c.arrive-in-DatagramAt.result (waiting c.arrive-in-DatagramAt.new.self) (FrontStandsFor c.arrive-in-DatagramAt.new.self.front) a.0 came),
    )

pub returns-in-Ok-clause-noise : goal.returns-in-Ok-clause-noise
returns-in-Ok-clause-noise g c = not_failed _ _ _ _ refl (only_not c.arrive-in-DatagramAt.result c.arrive-in-DatagramAt.ensures.only)

pub returns-in-Signal-clause-played : goal.returns-in-Signal-clause-played
returns-in-Signal-clause-played g c = λ state stands.
    let o = c.obey.ensures.played state stands in
    (o.0, o.1, o.2, o.3, subst (λ l. IsPlayed c.obey.result effects (gives l) 258 state (waiting c.args.self.now) (waiting c.obey.new.self) (FrontStandsFor c.obey.new.self.front) o.0 o.1) (ap lines.Signal c.into_signal.ensures ∙ sym c.in-Signal.is) o.4)
