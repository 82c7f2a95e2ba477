use Rattle.std.proofs.Common.{rules, ◌∙◌, tests}
use Rattle.std.specs.Str.{bytes_eq}
use Rattle.std.proofs.lemmas.Iterator.{YieldsList-from_slice}
use Rattle.std.proofs.lemmas.Iterator.Search.{find_from_yields_List}
use Rattle.sg_outcome.specs.OutcomeOf.{why_at, whys}
use Rattle.sg_outcome.specs.OutcomeText.{why_name}
use Rattle.sg_outcome.proofs.outcome_names.why.Goals as goal

pub returns : goal.returns
unfolding why_at
returns c =
    let f = find_from_yields_List (λ x. bytes_eq c.args.text.now (why_name x)) _ _ c.find.result c.find.ensures.ran (YieldsList-from_slice whys cc) (λ x b q k. search (rules, tests)) in c.copied.ensures ∙ f
