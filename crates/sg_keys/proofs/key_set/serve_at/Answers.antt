use Rattle.std.proofs.Common.{◌≡◌, ◌∙◌, sym, subst, ap, Some, slice_get, slice_set}
use Rattle.sg_keys.specs.KeySet.{IsKeySet}
use Rattle.sg_keys.specs.Live.{Live, served}
use Rattle.std.proofs.lemmas.Option.{get_or_from_slice_get}
use Rattle.sg_keys.proofs.Spending.{set_spent, spent_set}
use Rattle.sg_keys.proofs.key_set.serve_at.Goals as goal

pub returns-clause-spent : goal.returns-clause-spent
returns-clause-spent c = λ k e.
    let same : c.serve.new.self ≡ served k = c.serve.ensures ∙ ap served (get_or_from_slice_get c.args.keys.now c.args.position k c.index-keys-position.result e) in
    ap (slice_set c.args.keys.now c.args.position) same ∙ set_spent c.args.keys.now c.args.position k e c.requires.set.numbers

pub returns-clause-set : goal.returns-clause-set
returns-clause-set c =
    let k : Live = c.requires.alive.0 in
    let e : slice_get c.args.keys.now c.args.position ≡ Some k = c.requires.alive.1 in
    let same : c.serve.new.self ≡ served k = c.serve.ensures ∙ ap served (get_or_from_slice_get c.args.keys.now c.args.position k c.index-keys-position.result e) in
    let all = ap (slice_set c.args.keys.now c.args.position) same ∙ set_spent c.args.keys.now c.args.position k e c.requires.set.numbers in
    subst IsKeySet (sym all) (spent_set c.args.keys.now c.args.position k e c.requires.alive.2 c.requires.set)
