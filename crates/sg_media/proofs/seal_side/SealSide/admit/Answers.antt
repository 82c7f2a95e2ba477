use Rattle.std.proofs.Common.{◌≡◌, Result, Err, subst, sym, ap, ◌∙◌}
use Rattle.sg_base.specs.declared.faults.DropCause.{DropCause}
use Rattle.sg_session.specs.Opening.{Head}
use Rattle.sg_session.specs.Session.{is_admitted}
use Rattle.sg_media.specs.Accepting.{IsAdmitted}
use Rattle.sg_media.specs.Sides.{SideValue}
use Rattle.sg_media.specs.Steps.{HasDone, side_seals}
use Rattle.sg_media.proofs.Admitted.{admitted, unadmitted_out, unheaded_out}
use Rattle.sg_media.proofs.seal_side.SealSide.admit.Goals as goal

pub returns-in-Err-clause-told : goal.returns-in-Err-clause-told
returns-in-Err-clause-told c = λ done has.
    let side : SideValue = record { kind = c.self.inside.kind; keys = c.self.inside.keys; streams = c.self.inside.streams.list.items; roc = c.self.inside.roc; window = c.self.inside.window; admit = c.self.inside.admit; encrypts = c.self.inside.encrypts; tag_len = c.self.inside.tag_len } in (
      c.in-Err.ensures.0,
      ap (λ (v : SideValue). side_seals v done c.args.pad) (sym (c.self.view_is)) ∙ unheaded_out side done c.args.pad c.of_head.result (c.in-Err.ensures.1 ∙ ap (λ x. let r : Result Head DropCause = Err x in r) (sym c.of_head.ensures)),
    )

pub returns-then-not-admits-clause-told : goal.returns-then-not-admits-clause-told
returns-then-not-admits-clause-told c = λ done has.
    let side : SideValue = record { kind = c.self.inside.kind; keys = c.self.inside.keys; streams = c.self.inside.streams.list.items; roc = c.self.inside.roc; window = c.self.inside.window; admit = c.self.inside.admit; encrypts = c.self.inside.encrypts; tag_len = c.self.inside.tag_len } in
    let here = subst (λ (v : SideValue). HasDone v done) (sym (c.self.view_is)) has in
    let told : c.admits.result ≡ is_admitted c.self.inside.admit done c.in-Ok.headed.head.ssrc = c.admits.ensures done (c.as_slice.ensures.value ∙ c.self.invariant.in_row ∙ here.each_source) ∙ ap (is_admitted c.self.inside.admit done) c.ssrc.ensures in (
      c.refuse.ensures ∙ c.in-Ok.ensures.same_pad,
      ap (λ (v : SideValue). side_seals v done c.args.pad) (sym (c.self.view_is)) ∙ unadmitted_out side done c.args.pad c.in-Ok.headed c.in-Ok.ensures (sym told ∙ c.if-not-admits.true),
    )

pub returns-clause-told : goal.returns-clause-told
returns-clause-told c = λ done has.
    let side : SideValue = record { kind = c.self.inside.kind; keys = c.self.inside.keys; streams = c.self.inside.streams.list.items; roc = c.self.inside.roc; window = c.self.inside.window; admit = c.self.inside.admit; encrypts = c.self.inside.encrypts; tag_len = c.self.inside.tag_len } in
    let here = subst (λ (v : SideValue). HasDone v done) (sym (c.self.view_is)) has in
    let told : c.admits.result ≡ is_admitted c.self.inside.admit done c.in-Ok.headed.head.ssrc = c.admits.ensures done (c.as_slice.ensures.value ∙ c.self.invariant.in_row ∙ here.each_source) ∙ ap (is_admitted c.self.inside.admit done) c.ssrc.ensures in
    subst (λ (v : SideValue). IsAdmitted v done c.args.pad c.in-Ok.headed) c.self.view_is
    (admitted side done c.args.pad c.in-Ok.headed c.in-Ok.ensures (sym told ∙ c.if-not-admits.false))
