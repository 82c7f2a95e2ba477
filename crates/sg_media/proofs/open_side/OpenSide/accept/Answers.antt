use Rattle.std.proofs.Common.{◌≡◌, Result, Err, subst, sym, ap, ◌∙◌}
use Rattle.sg_base.specs.declared.faults.DropCause.{DropCause}
use Rattle.sg_keys.specs.Live.{Live}
use Rattle.sg_session.specs.Opening.{Head}
use Rattle.sg_session.specs.Session.{is_admitted}
use Rattle.sg_media.specs.Accepting.{IsAccepted}
use Rattle.sg_media.specs.Sides.{SideValue}
use Rattle.sg_media.specs.Steps.{HasDone, side_opens}
use Rattle.sg_media.proofs.Accepted.{accepted, headed_at, unadmitted, unheaded, unkeyed}
use Rattle.sg_media.proofs.open_side.OpenSide.accept.Goals as goal

pub returns-in-Err-clause-told : goal.returns-in-Err-clause-told
returns-in-Err-clause-told c = λ done has.
    let side : SideValue = record { kind = c.self.inside.kind; keys = c.self.inside.keys; streams = c.self.inside.streams.list.items; roc = c.self.inside.roc; window = c.self.inside.window; admit = c.self.inside.admit; encrypts = c.self.inside.encrypts; tag_len = c.self.inside.tag_len } in (
      c.in-Err.ensures.0,
      ap (λ (v : SideValue). side_opens v done c.args.pad) (sym (c.self.view_is)) ∙ unheaded side done c.args.pad c.mki_len.result c.of_head.result c.mki_len.ensures.value (c.in-Err.ensures.1 ∙ ap (λ x. let r : Result Head DropCause = Err x in r) (sym c.of_head.ensures)),
    )

pub returns-then-not-admits-clause-told : goal.returns-then-not-admits-clause-told
returns-then-not-admits-clause-told c = λ done has.
    let side : SideValue = record { kind = c.self.inside.kind; keys = c.self.inside.keys; streams = c.self.inside.streams.list.items; roc = c.self.inside.roc; window = c.self.inside.window; admit = c.self.inside.admit; encrypts = c.self.inside.encrypts; tag_len = c.self.inside.tag_len } in
    let here = subst (λ (v : SideValue). HasDone v done) (sym (c.self.view_is)) has in
    let is = headed_at side c.args.pad c.mki_len.result c.in-Ok.headed c.mki_len.ensures.value c.in-Ok.ensures in
    let told : c.admits.result ≡ is_admitted c.self.inside.admit done c.in-Ok.headed.head.ssrc = c.admits.ensures done (c.as_slice.ensures.value ∙ c.self.invariant.in_row ∙ here.each_source) ∙ ap (is_admitted c.self.inside.admit done) c.ssrc.ensures in (
      c.refuse.ensures ∙ c.in-Ok.ensures.same_pad,
      ap (λ (v : SideValue). side_opens v done c.args.pad) (sym (c.self.view_is)) ∙ unadmitted side done c.args.pad c.in-Ok.headed is (sym told ∙ c.if-not-admits.true),
    )

pub returns-in-Ok-key-clause-told : goal.returns-in-Ok-key-clause-told
returns-in-Ok-key-clause-told c = λ done has.
    let side : SideValue = record { kind = c.self.inside.kind; keys = c.self.inside.keys; streams = c.self.inside.streams.list.items; roc = c.self.inside.roc; window = c.self.inside.window; admit = c.self.inside.admit; encrypts = c.self.inside.encrypts; tag_len = c.self.inside.tag_len } in
    let here = subst (λ (v : SideValue). HasDone v done) (sym (c.self.view_is)) has in
    let is = headed_at side c.args.pad c.mki_len.result c.in-Ok.headed c.mki_len.ensures.value c.in-Ok.ensures in
    let told : c.admits.result ≡ is_admitted c.self.inside.admit done c.in-Ok.headed.head.ssrc = c.admits.ensures done (c.as_slice.ensures.value ∙ c.self.invariant.in_row ∙ here.each_source) ∙ ap (is_admitted c.self.inside.admit done) c.ssrc.ensures in
    subst (λ (v : SideValue). IsAccepted v done c.args.pad c.in-Ok-key.keyed) c.self.view_is
    (accepted side done c.args.pad c.in-Ok.headed c.in-Ok-key.keyed is (sym told ∙ c.if-not-admits.false) c.in-Ok-key.ensures)

pub returns-in-Err-key-clause-told : goal.returns-in-Err-key-clause-told
returns-in-Err-key-clause-told c = λ done has.
    let side : SideValue = record { kind = c.self.inside.kind; keys = c.self.inside.keys; streams = c.self.inside.streams.list.items; roc = c.self.inside.roc; window = c.self.inside.window; admit = c.self.inside.admit; encrypts = c.self.inside.encrypts; tag_len = c.self.inside.tag_len } in
    let here = subst (λ (v : SideValue). HasDone v done) (sym (c.self.view_is)) has in
    let is = headed_at side c.args.pad c.mki_len.result c.in-Ok.headed c.mki_len.ensures.value c.in-Ok.ensures in
    let told : c.admits.result ≡ is_admitted c.self.inside.admit done c.in-Ok.headed.head.ssrc = c.admits.ensures done (c.as_slice.ensures.value ∙ c.self.invariant.in_row ∙ here.each_source) ∙ ap (is_admitted c.self.inside.admit done) c.ssrc.ensures in (
      c.in-Err-key.ensures.0 ∙ c.in-Ok.ensures.same_pad,
      ap (λ (v : SideValue). side_opens v done c.args.pad) (sym (c.self.view_is)) ∙ unkeyed side done c.args.pad c.in-Ok.headed c.of_key.result is (sym told ∙ c.if-not-admits.false) (c.in-Err-key.ensures.1 ∙ ap (λ x. let r : Result Live DropCause = Err x in r) (sym c.of_key.ensures)),
    )
