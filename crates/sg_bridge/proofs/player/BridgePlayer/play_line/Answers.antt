use Rattle.std.proofs.Common.{rules, ◌≡◌, ◌∷◌, [], List, ℕ, Ok, Err, ◌∙◌, ap, inl, inr, refl, sym, subst, arith}
use Rattle.sg_pairs.specs.Bridged.{Happens}
use Rattle.sg_pairs.specs.declared.lines.BridgeLine.TheVariants as lines
use Rattle.sg_bridge.proofs.Steps.{cut_done, line_played, signal_says, then_done, undrawn_played}
use Rattle.sg_bridge.specs.Steps.{AreDone, IsLinePlayed}
use Rattle.sg_edge.proofs.Passed.{wrote_none}
use Rattle.sg_gateway.specs.Events.{signal_of}
use Rattle.sg_gateway.specs.Octets.{as_octets}
use Rattle.sg_gateway.specs.Signals.{Tick}
use Rattle.sg_gateway.specs.Step.{Datagram, Signalled}
use Rattle.sg_lines.specs.declared.lines.Line.TheVariants as scripts
use Rattle.sg_switchboard.specs.Switching.{state_after}
use Rattle.sg_bridge.proofs.player.BridgePlayer.play_line.Goals as goal

pub returns-in-Header-clause-played : goal.returns-in-Header-clause-played
returns-in-Header-clause-played g c = λ s stands.
    elim c.in-Header.is [
      | inl is ↦ undrawn_played (lines.Script c.args.line) (lines.Script scripts.Header) [] (ap lines.Script is) (omega arith) (λ more. refl) (Ok tt) s c.args.self.now _ _ _ (wrote_none _, stands)
      | inr is ↦ undrawn_played (lines.Script c.args.line) (lines.Script scripts.HeaderTwo) [] (ap lines.Script is) (omega arith) (λ more. refl) (Ok tt) s c.args.self.now _ _ _ (wrote_none _, stands)
    ]

pub returns-in-Datagram-clause-played : goal.returns-in-Datagram-clause-played
returns-in-Datagram-clause-played g c = λ s stands.
    let l = c.in-Datagram in
    let same : c.as_slice.result.now ≡ l.octets = search rules in
    let done =
    subst (λ (o : List ℕ). AreDone c.datagram.result s (Happens (Datagram l.port l.from (as_octets o)) ∷ []) c.datagram.new.self (g.K.Sink.written c.args.sink.now) (g.K.Sink.written c.datagram.new.sink)) same (c.datagram.ensures.arrived s stands) in
    undrawn_played (lines.Script c.args.line) (lines.Script (scripts.Datagram l.port l.from l.octets)) (Happens (Datagram l.port l.from (as_octets l.octets)) ∷ []) (ap lines.Script l.is) (omega arith) (λ more. refl) c.datagram.result s c.datagram.new.self _ _ _ done

pub returns-in-Err-clause-played : goal.returns-in-Err-clause-played
returns-in-Err-clause-played g c = λ s stands.
    let l = c.in-DatagramAt in
    let e = Happens (Datagram l.port l.from (as_octets l.octets)) in
    undrawn_played (lines.Script c.args.line) (lines.Script (scripts.DatagramAt l.now l.port l.from l.octets)) (Happens (Signalled (Tick l.now)) ∷ e ∷ []) (ap lines.Script l.is) (omega arith) (λ more. refl) (Err c.in-Err.status) s c.tick.new.self _ _ _
    (cut_done c.in-Err.status s (Happens (Signalled (Tick l.now))) (e ∷ []) c.tick.new.self _ _ (c.in-Err.ensures.ticked s stands))

pub returns-in-Ok-clause-played : goal.returns-in-Ok-clause-played
returns-in-Ok-clause-played g c = λ s stands.
    let l = c.in-DatagramAt in
    let tick = Happens (Signalled (Tick l.now)) in
    let e = Happens (Datagram l.port l.from (as_octets l.octets)) in
    let middle = state_after s (tick ∷ []) in
    let ticked = c.in-Ok.ensures.ticked s stands in
    let arrived = c.datagram-in-DatagramAt in
    let same : c.as_slice-in-DatagramAt.result.now ≡ l.octets = search rules in
    let done =
    subst (λ (o : List ℕ). AreDone arrived.result middle (Happens (Datagram l.port l.from (as_octets o)) ∷ []) arrived.new.self (g.K.Sink.written c.tick.new.sink) (g.K.Sink.written arrived.new.sink)) same (arrived.ensures.arrived middle ticked.1) in
    undrawn_played (lines.Script c.args.line) (lines.Script (scripts.DatagramAt l.now l.port l.from l.octets)) (tick ∷ e ∷ []) (ap lines.Script l.is) (omega arith) (λ more. refl) arrived.result s arrived.new.self _ _ _
    (then_done arrived.result s tick (e ∷ []) c.tick.new.self arrived.new.self _ _ _ ticked done)

pub returns-in-Ok-supply-clause-played : goal.returns-in-Ok-supply-clause-played
returns-in-Ok-supply-clause-played g c = λ s stands.
    let drew = c.in-Ok-supply.ensures.drew in
    let signal = c.in-Ok-supply.signal in
    subst (λ l. IsLinePlayed c.obey.result (lines.Script l) s c.obey.new.self (g.N.Noise.given c.args.noise.now) (g.N.Noise.given c.supply.new.noise) (g.K.Sink.written c.args.sink.now) (g.K.Sink.written c.obey.new.sink)) (ap scripts.Signal c.into_signal.ensures ∙ sym c.in-Signal.is)
    (line_played (lines.Script (scripts.Signal c.into_signal.result)) drew.0 (Happens (Signalled (signal_of signal)) ∷ []) (omega arith) (signal_says c.into_signal.result signal drew.0 drew.2 c.in-Ok-supply.ensures.ready) c.obey.result s c.obey.new.self _ _ _ _ drew.1 (c.obey.ensures.obeyed s stands))
