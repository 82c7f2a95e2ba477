use Rattle.std.proofs.Common.{rules, ◌∙◌, tests}
use Rattle.std.specs.Str.{bytes_eq}
use Rattle.std.proofs.lemmas.Iterator.{YieldsList-from_slice}
use Rattle.std.proofs.lemmas.Iterator.Search.{find_from_yields_List}
use Rattle.sg_outcome.specs.OutcomeOf.{plain_psk_fault_at, plain_psk_faults}
use Rattle.sg_outcome.specs.OutcomeFields.{psk_fault_name}
use Rattle.sg_outcome.proofs.outcome_names.plain_psk_fault.Goals as goal

pub returns : goal.returns
unfolding plain_psk_fault_at
returns c =
    let f = find_from_yields_List (λ x. bytes_eq c.args.text.now (psk_fault_name x)) _ _ c.find.result c.find.ensures.ran (YieldsList-from_slice plain_psk_faults cc) (λ x b q k. search (rules, tests)) in c.copied.ensures ∙ f
