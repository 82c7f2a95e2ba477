use Rattle.std.proofs.Common.{ap, sym, ◌∙◌}
use Rattle.sg_session.specs.Session.{is_admitted}
use Rattle.sg_media.proofs.Standing.{no_first, some_first}
use Rattle.sg_media.proofs.streams.admits.Goals as goal

pub returns-in-None : goal.returns-in-None
returns-in-None c = λ done s.
    no_first c.args.row.now done c.args.ssrc c.in-None.ensures.value s
    ∙ ap (λ a. is_admitted a done c.args.ssrc) (sym (c.in-FirstSeen.is))

pub returns-in-Some : goal.returns-in-Some
returns-in-Some c = λ done s.
    some_first c.args.row.now c.in-Some.first.now done c.args.ssrc c.in-Some.ensures.value s
    ∙ ap (λ a. is_admitted a done c.args.ssrc) (sym (c.in-FirstSeen.is))
