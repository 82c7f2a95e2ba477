use Rattle.std.proofs.Common.{◌≡◌, true, ◌<◌, length, IfOk, refl, subst, sym, ap, ◌∙◌}
use Rattle.sg_states.specs.Parts.{is_tag_len}
use Rattle.sg_session.specs.Sealing.{seals}
use Rattle.sg_media.specs.declared.outbound.Sealed.{Sealed}
use Rattle.sg_media.specs.Accepting.{IsAdmitted}
use Rattle.sg_media.specs.Answers.{entry_out, told_of}
use Rattle.sg_media.specs.Sides.{SideValue, StandsFor}
use Rattle.sg_media.specs.Standing.{AreOfKind, StreamsTake}
use Rattle.sg_media.specs.Steps.{HasDone, SideTakes, side_seals}
use Rattle.sg_media.proofs.Admitted.{admitted_seals, refused_out, sealed_tells, session_seals, stands_refused_out}
use Rattle.sg_media.proofs.SideSteps.{ciphers_after, side_takes, some_after, stands_after, streams_in}
use Rattle.sg_media.proofs.seal_side.SealSide.send.Goals as goal
use Rattle.sg_media.proofs.seal_side.SealSide.send.Goals.{in-Ok-seal_among, in-Err-seal_among}

pub invariant_of-self : goal.invariant_of-self
invariant_of-self c = record {
  at_least = c.self.invariant.at_least;
  at_most = c.self.invariant.at_most;
  tag = c.self.invariant.tag;
  some = some_after (λ (o : Sealed). o.key) _ c.seal_among.result c.seal_among.new.keys c.self.inside.keys c.seal_among.ensures.keys c.seal_among.ensures.stays c.self.invariant.some;
  ciphers = ciphers_after (λ (o : Sealed). o.key) _ c.seal_among.result c.seal_among.new.keys c.self.inside.keys c.self.inside.kind c.self.inside.encrypts c.seal_among.ensures.keys c.seal_among.ensures.stays c.self.invariant.ciphers;
  kinds = subst (AreOfKind c.seal_among.new.streams.list.items) (c.in-Ok.ensures.back.1 ∙ sym (ap (λ (v : SideValue). v.kind) c.self.view_is)) c.seal_among.ensures.kinds;
  in_row = c.seal_among.ensures.row;
}

pub seal_among-requires-clause-tag : goal.seal_among-requires-clause-tag
seal_among-requires-clause-tag c =
    subst (λ k. is_tag_len k c.self.inside.tag_len ≡ true) (ap (λ (v : SideValue). v.kind) c.self.view_is ∙ sym (c.in-Ok.ensures.back.1)) c.self.invariant.tag

pub seal_among-requires-clause-kinds : goal.seal_among-requires-clause-kinds
seal_among-requires-clause-kinds c = subst (AreOfKind c.self.inside.streams.list.items) (ap (λ (v : SideValue). v.kind) c.self.view_is ∙ sym (c.in-Ok.ensures.back.1)) c.self.invariant.kinds

pub returns-in-Err-clause-steps : goal.returns-in-Err-clause-steps
returns-in-Err-clause-steps c = λ done has.
    let told = c.in-Err.ensures.told done has in
    refused_out c.args.self.now.kind c.args.pad c.in-Err.refused _ told.0 told.1

pub returns-in-Err-clause-answer : goal.returns-in-Err-clause-answer
returns-in-Err-clause-answer c = λ s st.
    let some : 0 < length c.args.self.now.keys = subst (λ (v : SideValue). 0 < length v.keys) c.self.view_is c.self.invariant.some in
    let told = c.in-Err.ensures.told s.done (streams_in _ s st) in
    refused_out c.args.self.now.kind c.args.pad c.in-Err.refused _ told.0 told.1 ∙ session_seals c.args.self.now s c.args.pad st some

pub returns-in-Err-clause-after : goal.returns-in-Err-clause-after
returns-in-Err-clause-after c = λ s st.
    let some : 0 < length c.args.self.now.keys = subst (λ (v : SideValue). 0 < length v.keys) c.self.view_is c.self.invariant.some in
    let told = c.in-Err.ensures.told s.done (streams_in _ s st) in
    stands_refused_out c.args.self.now s c.args.pad st some (c.in-Err.refused.1) told.1

pub returns-clause-steps : goal.returns-clause-steps
returns-clause-steps c = λ done has.
    let here = subst (λ (v : SideValue). HasDone v done) (sym (c.self.view_is)) has in
    let a = subst (λ (v : SideValue). IsAdmitted v done c.args.pad c.in-Ok.headed) (sym (c.self.view_is)) (c.in-Ok.ensures.told done has) in
    let same : c.match-seal_among.result ≡ c.seal_among.result = elim c.match-seal_among.branch [
      | in-Ok-seal_among w ↦ w.result-is ∙ sym (w.in-Ok-seal_among.is)
      | in-Err-seal_among w ↦ w.result-is ∙ sym (w.in-Err-seal_among.is)
    ] in
    same
    ∙ c.seal_among.ensures.answer done here
    ∙ admitted_seals _ done c.args.pad c.in-Ok.headed a
    ∙ ap (λ (v : SideValue). told_of v.kind c.args.pad (side_seals v done c.args.pad)) c.self.view_is

pub returns-clause-answer : goal.returns-clause-answer
returns-clause-answer c = λ s standing.
    let has = streams_in _ s standing in
    let here = subst (λ (v : SideValue). HasDone v s.done) (sym (c.self.view_is)) has in
    let a = subst (λ (v : SideValue). IsAdmitted v s.done c.args.pad c.in-Ok.headed) (sym (c.self.view_is)) (c.in-Ok.ensures.told s.done has) in
    let same : c.match-seal_among.result ≡ c.seal_among.result = elim c.match-seal_among.branch [
      | in-Ok-seal_among w ↦ w.result-is ∙ sym (w.in-Ok-seal_among.is)
      | in-Err-seal_among w ↦ w.result-is ∙ sym (w.in-Err-seal_among.is)
    ] in
    same
    ∙ c.seal_among.ensures.answer s.done here
    ∙ admitted_seals _ s.done c.args.pad c.in-Ok.headed a
    ∙ session_seals _ s c.args.pad (subst (λ (v : SideValue). StandsFor v s) (sym (c.self.view_is)) standing) c.self.invariant.some

pub returns-clause-takes : goal.returns-clause-takes
returns-clause-takes c =
    let side : SideValue = record { kind = c.self.inside.kind; keys = c.self.inside.keys; streams = c.self.inside.streams.list.items; roc = c.self.inside.roc; window = c.self.inside.window; admit = c.self.inside.admit; encrypts = c.self.inside.encrypts; tag_len = c.self.inside.tag_len } in
    let new : SideValue = record { kind = c.self.inside.kind; keys = c.seal_among.new.keys; streams = c.seal_among.new.streams.list.items; roc = c.self.inside.roc; window = c.self.inside.window; admit = c.self.inside.admit; encrypts = c.self.inside.encrypts; tag_len = c.self.inside.tag_len } in
    let same : c.match-seal_among.result ≡ c.seal_among.result = elim c.match-seal_among.branch [
      | in-Ok-seal_among w ↦ w.result-is ∙ sym (w.in-Ok-seal_among.is)
      | in-Err-seal_among w ↦ w.result-is ∙ sym (w.in-Err-seal_among.is)
    ] in
    let pad : c.in-Ok.headed.pad ≡ c.args.pad = c.in-Ok.ensures.back.0 in
    let grown = subst (λ p. IfOk c.seal_among.result (λ o. StreamsTake c.self.inside.streams.list.items c.seal_among.new.streams.list.items c.self.inside.roc c.self.inside.window (entry_out p o))) pad c.seal_among.ensures.streams in
    subst (λ r. IfOk r (λ o. SideTakes c.args.self.now new (entry_out c.args.pad o))) (sym same)
    (subst (λ (v : SideValue). IfOk c.seal_among.result (λ o. SideTakes v new (entry_out c.args.pad o))) c.self.view_is
    (side_takes (entry_out c.args.pad) side c.seal_among.result c.seal_among.new.keys c.seal_among.new.streams.list.items grown c.seal_among.ensures.keys))

pub returns-clause-after : goal.returns-clause-after
returns-clause-after c = λ s standing.
    let st = subst (λ (v : SideValue). StandsFor v s) (sym (c.self.view_is)) standing in
    let has = streams_in _ s standing in
    let here = subst (λ (v : SideValue). HasDone v s.done) (sym (c.self.view_is)) has in
    let a = subst (λ (v : SideValue). IsAdmitted v s.done c.args.pad c.in-Ok.headed) (sym (c.self.view_is)) (c.in-Ok.ensures.told s.done has) in
    let answer =
    c.seal_among.ensures.answer s.done here
    ∙ admitted_seals _ s.done c.args.pad c.in-Ok.headed a
    ∙ session_seals _ s c.args.pad st c.self.invariant.some in
    let pad : c.in-Ok.headed.pad ≡ c.args.pad = c.in-Ok.ensures.back.0 in
    let grown = subst (λ p. IfOk c.seal_among.result (λ o. StreamsTake c.self.inside.streams.list.items c.seal_among.new.streams.list.items c.self.inside.roc c.self.inside.window (entry_out p o))) pad c.seal_among.ensures.streams in
    stands_after (entry_out c.args.pad) _ s (seals s c.args.pad) c.seal_among.result c.seal_among.new.keys c.seal_among.new.streams.list.items st
    (sealed_tells s c.args.pad (seals s c.args.pad) c.seal_among.result refl answer) grown c.seal_among.ensures.keys c.seal_among.ensures.stays
