use Rattle.std.proofs.Common.{inr}
use Rattle.sg_front.proofs.Sharing.{line_step}
use Rattle.sg_front.proofs.Wanting.{text_may_want}
use Rattle.sg_front.proofs.shared.step.Goals as goal

pub returns-in-Ok-signal-clause-told : goal.returns-in-Ok-signal-clause-told
returns-in-Ok-signal-clause-told c = λ w stands.
    line_step c.args.mux.now c.signal.new.self w c.args.signal.now c.take.new.self c.take.new.told.items c.as_mut_slice.result.now c.signal.new.outcomes c.requires.noise
    (c.in-Ok.ensures.told w stands) c.as_mut_slice.ensures.value c.in-Ok-signal.ensures.calls c.in-Ok-signal.ensures.told

pub returns-in-Err-signal-clause-same : goal.returns-in-Err-signal-clause-same
returns-in-Err-signal-clause-same c = inr (λ w stands.
    let told = c.in-Ok.ensures.told w stands in
    (told.1, (text_may_want w c.args.signal.now c.take.new.told.items c.as_mut_slice.result.now c.requires.noise told.0 c.as_mut_slice.ensures.value c.in-Err-signal.ensures.needs).1))

pub returns-in-Err-signal-clause-needs : goal.returns-in-Err-signal-clause-needs
returns-in-Err-signal-clause-needs c = λ w stands.
    (text_may_want w c.args.signal.now c.take.new.told.items c.as_mut_slice.result.now c.requires.noise (c.in-Ok.ensures.told w stands).0 c.as_mut_slice.ensures.value c.in-Err-signal.ensures.needs).0
