use Rattle.std.proofs.Common.{rules, ◌∙◌, tests}
use Rattle.std.specs.Str.{bytes_eq}
use Rattle.std.proofs.lemmas.Iterator.{YieldsList-from_slice}
use Rattle.std.proofs.lemmas.Iterator.Search.{find_from_yields_List}
use Rattle.sg_outcome.specs.OutcomeOf.{plain_refusal_at, plain_refusals}
use Rattle.sg_outcome.specs.OutcomeFields.{refusal_name}
use Rattle.sg_outcome.proofs.outcome_names.plain_refusal.Goals as goal

pub returns : goal.returns
unfolding plain_refusal_at
returns c =
    let f = find_from_yields_List (λ x. bytes_eq c.args.text.now (refusal_name x)) _ _ c.find.result c.find.ensures.ran (YieldsList-from_slice plain_refusals cc) (λ x b q k. search (rules, tests)) in c.copied.ensures ∙ f
