use Rattle.std.proofs.Common.{rules, ◌∙◌, tests}
use Rattle.std.specs.Str.{bytes_eq}
use Rattle.std.proofs.lemmas.Iterator.{YieldsList-from_slice}
use Rattle.std.proofs.lemmas.Iterator.Search.{find_from_yields_List}
use Rattle.sg_base.specs.SuiteNames.{suite_at, suite_name, all_suites}
use Rattle.sg_base.proofs.suite_names.read_suite.Goals as goal

pub returns : goal.returns
unfolding suite_at
returns c =
    let f = find_from_yields_List (λ s. bytes_eq c.args.text.now (suite_name s)) _ _ c.find.result c.find.ensures.ran (YieldsList-from_slice all_suites cc) (λ x b q k. search (rules, tests)) in c.copied.ensures ∙ f
