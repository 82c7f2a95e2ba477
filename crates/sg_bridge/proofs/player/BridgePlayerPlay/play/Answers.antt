use Rattle.std.proofs.Common.{◌∷◌, [], refl, sym, subst, arith}
use Rattle.sg_pairs.specs.Bridged.{Joins, Parts}
use Rattle.sg_pairs.specs.declared.lines.BridgeLine.TheVariants as lines
use Rattle.sg_bridge.proofs.Steps.{one_told, undrawn_played}
use Rattle.sg_bridge.specs.Steps.{IsLinePlayed}
use Rattle.sg_switchboard.specs.Switching.{StandsFor, SwitchboardValue}
use Rattle.sg_bridge.proofs.player.BridgePlayerPlay.play.Goals as goal

pub returns-in-Script-clause-played : goal.returns-in-Script-clause-played
returns-in-Script-clause-played g c = λ s stands.
    subst (λ l. IsLinePlayed c.play_line.result l s c.play_line.new.self (g.N.Noise.given c.args.noise.now) (g.N.Noise.given c.play_line.new.noise) (g.K.Sink.written c.args.sink.now) (g.K.Sink.written c.play_line.new.sink)) (sym c.in-Script.is) (c.play_line.ensures.played s stands)

pub returns-in-Join-clause-played : goal.returns-in-Join-clause-played
returns-in-Join-clause-played g c = λ s stands.
    let before = subst (λ (v : SwitchboardValue). StandsFor v s) (sym c.self.view_is) stands in
    let said = Joins c.in-Join.first c.in-Join.second in
    undrawn_played c.args.line (lines.Join c.in-Join.first c.in-Join.second) (said ∷ []) c.in-Join.is (omega arith) (λ more. refl) c.tell_bridge.result s c.join.new.self _ _ _
    (one_told c.tell_bridge.result s said c.join.new.self _ _ c.join.result (c.join.ensures s before) c.tell_bridge.ensures.told)

pub returns-in-Part-clause-played : goal.returns-in-Part-clause-played
returns-in-Part-clause-played g c = λ s stands.
    let before = subst (λ (v : SwitchboardValue). StandsFor v s) (sym c.self-in-Part.view_is) stands in
    let said = Parts c.in-Part.call in
    undrawn_played c.args.line (lines.Part c.in-Part.call) (said ∷ []) c.in-Part.is (omega arith) (λ more. refl) c.tell_bridge-in-Part.result s c.part.new.self _ _ _
    (one_told c.tell_bridge-in-Part.result s said c.part.new.self _ _ c.part.result (c.part.ensures s before) c.tell_bridge-in-Part.ensures.told)
