use Rattle.std.proofs.Common.{◌≡◌, IfOk, subst, sym, ap, ◌∙◌}
use Rattle.sg_session.specs.Opening.{opens}
use Rattle.sg_media.specs.declared.inbound.Opened.{Opened}
use Rattle.sg_media.specs.Accepting.{IsAccepted}
use Rattle.sg_media.specs.Answers.{answer_at, entry_of}
use Rattle.sg_media.specs.Sides.{SideValue, StandsFor}
use Rattle.sg_media.specs.Standing.{AreOfKind}
use Rattle.sg_media.specs.Steps.{HasDone, SideTakes, side_opens}
use Rattle.sg_media.proofs.Accepted.{keyed_opens, opened_tells, refused_as, session_opens, stands_refused}
use Rattle.sg_media.proofs.SideSteps.{ciphers_after, side_takes, some_after, stands_after, streams_in}
use Rattle.sg_media.proofs.open_side.OpenSide.receive.Goals as goal
use Rattle.sg_media.proofs.open_side.OpenSide.receive.Goals.{in-Ok-open_among, in-Err-open_among}

pub invariant_of-self : goal.invariant_of-self
invariant_of-self c = record {
  at_least = c.self.invariant.at_least;
  at_most = c.self.invariant.at_most;
  tag = c.self.invariant.tag;
  some = some_after (λ (o : Opened). o.key) _ c.open_among.result c.open_among.new.keys c.self.inside.keys c.open_among.ensures.keys c.open_among.ensures.stays c.self.invariant.some;
  ciphers = ciphers_after (λ (o : Opened). o.key) _ c.open_among.result c.open_among.new.keys c.self.inside.keys c.self.inside.kind c.self.inside.encrypts c.open_among.ensures.keys c.open_among.ensures.stays c.self.invariant.ciphers;
  kinds = subst (AreOfKind c.open_among.new.streams.list.items) (c.in-Ok.ensures.back.1 ∙ sym (ap (λ (v : SideValue). v.kind) c.self.view_is)) c.open_among.ensures.kinds;
  in_row = c.open_among.ensures.row;
}

pub open_among-requires-clause-kinds : goal.open_among-requires-clause-kinds
open_among-requires-clause-kinds c = subst (AreOfKind c.self.inside.streams.list.items) (ap (λ (v : SideValue). v.kind) c.self.view_is ∙ sym (c.in-Ok.ensures.back.1)) c.self.invariant.kinds

pub returns-in-Err-clause-steps : goal.returns-in-Err-clause-steps
returns-in-Err-clause-steps c = λ done has.
    let told = c.in-Err.ensures.told done has in
    refused_as c.args.self.now.kind c.args.pad c.in-Err.refused _ told.0 told.1

pub returns-in-Err-clause-answer : goal.returns-in-Err-clause-answer
returns-in-Err-clause-answer c = λ s st.
    let told = c.in-Err.ensures.told s.done (streams_in _ s st) in
    refused_as c.args.self.now.kind c.args.pad c.in-Err.refused _ told.0 told.1 ∙ session_opens c.args.self.now s c.args.pad st

pub returns-in-Err-clause-after : goal.returns-in-Err-clause-after
returns-in-Err-clause-after c = λ s st.
    let told = c.in-Err.ensures.told s.done (streams_in _ s st) in
    stands_refused c.args.self.now s c.args.pad st (c.in-Err.refused.1) told.1

pub returns-clause-steps : goal.returns-clause-steps
returns-clause-steps c = λ done has.
    let here = subst (λ (v : SideValue). HasDone v done) (sym (c.self.view_is)) has in
    let a = subst (λ (v : SideValue). IsAccepted v done c.args.pad c.in-Ok.keyed) (sym (c.self.view_is)) (c.in-Ok.ensures.told done has) in
    let same : c.match-open_among.result ≡ c.open_among.result = elim c.match-open_among.branch [
      | in-Ok-open_among w ↦ w.result-is ∙ sym (w.in-Ok-open_among.is)
      | in-Err-open_among w ↦ w.result-is ∙ sym (w.in-Err-open_among.is)
    ] in
    same
    ∙ c.open_among.ensures.answer done a.key here a.at
    ∙ keyed_opens _ done c.args.pad c.in-Ok.keyed a
    ∙ ap (λ (v : SideValue). answer_at v.kind c.args.pad (side_opens v done c.args.pad)) c.self.view_is

pub returns-clause-answer : goal.returns-clause-answer
returns-clause-answer c = λ s standing.
    let has = streams_in _ s standing in
    let here = subst (λ (v : SideValue). HasDone v s.done) (sym (c.self.view_is)) has in
    let a = subst (λ (v : SideValue). IsAccepted v s.done c.args.pad c.in-Ok.keyed) (sym (c.self.view_is)) (c.in-Ok.ensures.told s.done has) in
    let same : c.match-open_among.result ≡ c.open_among.result = elim c.match-open_among.branch [
      | in-Ok-open_among w ↦ w.result-is ∙ sym (w.in-Ok-open_among.is)
      | in-Err-open_among w ↦ w.result-is ∙ sym (w.in-Err-open_among.is)
    ] in
    same
    ∙ c.open_among.ensures.answer s.done a.key here a.at
    ∙ keyed_opens _ s.done c.args.pad c.in-Ok.keyed a
    ∙ session_opens _ s c.args.pad (subst (λ (v : SideValue). StandsFor v s) (sym (c.self.view_is)) standing)

pub returns-clause-takes : goal.returns-clause-takes
returns-clause-takes c =
    let side : SideValue = record { kind = c.self.inside.kind; keys = c.self.inside.keys; streams = c.self.inside.streams.list.items; roc = c.self.inside.roc; window = c.self.inside.window; admit = c.self.inside.admit; encrypts = c.self.inside.encrypts; tag_len = c.self.inside.tag_len } in
    let new : SideValue = record { kind = c.self.inside.kind; keys = c.open_among.new.keys; streams = c.open_among.new.streams.list.items; roc = c.self.inside.roc; window = c.self.inside.window; admit = c.self.inside.admit; encrypts = c.self.inside.encrypts; tag_len = c.self.inside.tag_len } in
    let same : c.match-open_among.result ≡ c.open_among.result = elim c.match-open_among.branch [
      | in-Ok-open_among w ↦ w.result-is ∙ sym (w.in-Ok-open_among.is)
      | in-Err-open_among w ↦ w.result-is ∙ sym (w.in-Err-open_among.is)
    ] in
    subst (λ r. IfOk r (λ o. SideTakes c.args.self.now new (entry_of o))) (sym same)
    (subst (λ (v : SideValue). IfOk c.open_among.result (λ o. SideTakes v new (entry_of o))) c.self.view_is
    (side_takes entry_of side c.open_among.result c.open_among.new.keys c.open_among.new.streams.list.items c.open_among.ensures.streams c.open_among.ensures.keys))

pub returns-clause-after : goal.returns-clause-after
returns-clause-after c = λ s standing.
    let st = subst (λ (v : SideValue). StandsFor v s) (sym (c.self.view_is)) standing in
    let has = streams_in _ s standing in
    let here = subst (λ (v : SideValue). HasDone v s.done) (sym (c.self.view_is)) has in
    let a = subst (λ (v : SideValue). IsAccepted v s.done c.args.pad c.in-Ok.keyed) (sym (c.self.view_is)) (c.in-Ok.ensures.told s.done has) in
    let answer =
    c.open_among.ensures.answer s.done a.key here a.at
    ∙ keyed_opens _ s.done c.args.pad c.in-Ok.keyed a
    ∙ session_opens _ s c.args.pad st in
    stands_after entry_of _ s (opens s c.args.pad) c.open_among.result c.open_among.new.keys c.open_among.new.streams.list.items st
    (opened_tells s.name.kind c.args.pad (opens s c.args.pad) c.open_among.result answer) c.open_among.ensures.streams c.open_among.ensures.keys c.open_among.ensures.stays
