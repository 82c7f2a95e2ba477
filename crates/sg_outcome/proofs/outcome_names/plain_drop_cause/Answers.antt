use Rattle.std.proofs.Common.{rules, ◌∙◌, tests}
use Rattle.std.specs.Str.{bytes_eq}
use Rattle.std.proofs.lemmas.Iterator.{YieldsList-from_slice}
use Rattle.std.proofs.lemmas.Iterator.Search.{find_from_yields_List}
use Rattle.sg_outcome.specs.OutcomeOf.{plain_drop_cause_at, plain_drop_causes}
use Rattle.sg_outcome.specs.OutcomeText.{drop_cause_name}
use Rattle.sg_outcome.proofs.outcome_names.plain_drop_cause.Goals as goal

pub returns : goal.returns
unfolding plain_drop_cause_at
returns c =
    let f = find_from_yields_List (λ x. bytes_eq c.args.text.now (drop_cause_name x)) _ _ c.find.result c.find.ensures.ran (YieldsList-from_slice plain_drop_causes cc) (λ x b q k. search (rules, tests)) in c.copied.ensures ∙ f
