use Rattle.std.proofs.Common.{rules, ◌≡◌, sym, ap, ◌∙◌, eqb, tests}
use Rattle.std.specs.List.{position}
use Rattle.std.proofs.lemmas.Iterator.{YieldsList-from_slice}
use Rattle.std.proofs.lemmas.Iterator.Search.{position_from_yields_List}
use Rattle.sg_base.specs.Fields.{cut_at}
use Rattle.sg_base.proofs.Cuts.{cut_at-position, cut_by, cut_here}
use Rattle.sg_base.proofs.fields.cut.Goals as goal

pub returns-in_err-place : goal.returns-in_err-place
returns-in_err-place c =
    let p : c.position.result ≡ position (λ b. eqb b c.args.octet) c.args.text.now = position_from_yields_List (λ b. eqb b c.args.octet) _ _ c.position.result c.position.ensures.ran (YieldsList-from_slice c.args.text.now cc) (λ x b q k. search (rules, tests)) in
    rw c.from_residual.ensures (sym (cut_at-position c.args.octet c.args.text.now ∙ ap (cut_by c.args.text.now) (sym p ∙ c.in_err-place.was)))

pub returns : goal.returns
returns c =
    let p : c.position.result ≡ position (λ b. eqb b c.args.octet) c.args.text.now = position_from_yields_List (λ b. eqb b c.args.octet) _ _ c.position.result c.position.ensures.ran (YieldsList-from_slice c.args.text.now cc) (λ x b q k. search (rules, tests)) in
    cut_here c.args.text.now c.in_ok-place.place (cut_at c.args.octet c.args.text.now) (cut_at-position c.args.octet c.args.text.now ∙ ap (cut_by c.args.text.now) (sym p ∙ c.in_ok-place.was))
