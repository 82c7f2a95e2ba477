use Rattle.std.proofs.Common.{◌≡◌, length, sym, ◌∙◌}
use Rattle.std.proofs.lemmas.Bool.{eqb-true}
use Rattle.sg_keys.proofs.Indexing.{empty_found}
use Rattle.sg_keys.proofs.indexes.first_secret.Goals as goal

pub returns-then-is_empty : goal.returns-then-is_empty
returns-then-is_empty c =
    let empty : length c.args.secret.now ≡ 0 = eqb-true (length c.args.secret.now) 0 (sym c.is_empty.ensures ∙ c.if-is_empty.true) in
    empty_found c.args.index.now.part c.args.secret.now c.args.list.now empty
