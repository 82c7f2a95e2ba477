use Rattle.std.proofs.Common.{◌≡◌, List, Option, sym, ◌∙◌, subst}
use Rattle.std.specs.Prelude.{OnOk}
use Rattle.sg_mux.proofs.Vias.{no_text}
use Rattle.sg_mux.specs.Texts.{no_marks, offers_mux}
use Rattle.sg_mux.specs.declared.known.Known.{Known}
use Rattle.sg_mux.proofs.signals.follow_offer.Goals as goal

pub returns-then-not-tell_text-clause-ok : goal.returns-then-not-tell_text-clause-ok
returns-then-not-tell_text-clause-ok c =
    subst (λ (calls : List (Option Known)). OnOk c.follow_other.result (c.follow_other.new.calls ≡ calls))
    (no_text no_marks (offers_mux c.args.text.now) c.args.calls.now c.args.outcomes.now (sym c.tell_text.ensures ∙ c.if-not-tell_text.true))
    c.follow_other.ensures.ok
