use Rattle.std.proofs.Common.{rules, ◌≡◌, true, false, [], ap, sym, subst, ◌∙◌, inr, refl}
use Rattle.sg_playback.proofs.Common.{FrontStandsFor, Playing, events_of_signal, text, text_from, wrote_none}
use Rattle.sg_playback.proofs.Plays.{stepped, written_only}
use Rattle.sg_playback.proofs.player.Player.step.Goals as goal

pub returns-then-passes_quietly-clause-stepped : goal.returns-then-passes_quietly-clause-stepped
returns-then-passes_quietly-clause-stepped g c = λ state stands.
    let quiet : c.passes_quietly.result ≡ true = search rules in
    let told = c.passes_quietly.ensures.told quiet state stands in
    ([], wrote_none _, (ap text told.0, told.1))

pub returns-in-Err-clause-stepped : goal.returns-in-Err-clause-stepped
returns-in-Err-clause-stepped g c = λ state stands. (Rattle.std.proofs.Common.[], wrote_none _, (inr refl, (text_from state (events_of_signal c.args.signal.now), refl)))

pub returns-clause-stepped : goal.returns-clause-stepped
returns-clause-stepped g c = λ state stands.
    let loud : c.passes_quietly.result ≡ false = search rules in
    let as_before : FrontStandsFor c.passes_quietly.new.self.front state = subst (λ t. FrontStandsFor t state) (sym (c.passes_quietly.ensures.same loud)) stands in
    let told = c.in-Ok.ensures.told state (subst (λ (v : Playing). FrontStandsFor v.front state) (sym c.self.view_is) as_before) in
    stepped c.tell_all.result state (events_of_signal c.args.signal.now) (FrontStandsFor c.take.new.self) _ _ (text c.as_slice.result.now) c.tell_all.ensures.told
    (ap text (c.as_slice.ensures.value ∙ told.0)) told.1

pub returns-clause-only : goal.returns-clause-only
returns-clause-only g c = written_only c.tell_all.result _ _ _ c.tell_all.ensures.told
