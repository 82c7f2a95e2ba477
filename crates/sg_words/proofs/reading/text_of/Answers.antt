use Rattle.std.proofs.Common.{◌∙◌}
use Rattle.clap.specs.Words.{found_of, rows_of, subcommand_rows_of}
use Rattle.clap.proofs.WalkLemmas.{first_value-rows}
use Rattle.sg_words.proofs.Rows.{text_from_rows}
use Rattle.sg_words.proofs.reading.text_of.Goals as goal

pub returns : goal.returns
returns c =
    let rows = rows_of (found_of c.in_ok-found.found.now) in
    c.get_str.ensures ∙ first_value-rows (found_of c.in_ok-found.found.now) c.args.id.now
    ∙ text_from_rows c.args.id.now (subcommand_rows_of c.args.matches.now) rows c.in_ok-found.ensures.rows
