use Rattle.std.proofs.Common.{◌+◌, true, false, Some, None, map, length, refl, sym, ap, ◌∙◌}
use Rattle.std.proofs.lemmas.List.{length-map}
use Rattle.sg_keys.specs.Reused.{given}
use Rattle.sg_keys.proofs.Reusing.{told_says}
use Rattle.sg_keys.proofs.search.reused_number.Goals as goal

pub returns-in-Some-clause-number : goal.returns-in-Some-clause-number
returns-in-Some-clause-number c = told_says c.args.key.now c.args.ring.now (map given c.args.before.now) (Some c.in-Some.number) _ _ c.in-Some.ensures.first refl refl

pub returns-in-Some-first_new-clause-number : goal.returns-in-Some-first_new-clause-number
returns-in-Some-first_new-clause-number c = told_says c.args.key.now c.args.ring.now (map given c.args.before.now) None (Some c.in-Some-first_new.number) _ c.in_default.ensures.first c.in-Some-first_new.ensures.first refl

pub returns-then-clashes_with_itself-clause-number : goal.returns-then-clashes_with_itself-clause-number
returns-then-clashes_with_itself-clause-number c =
    ap (λ n. Some (length c.args.ring.now + n)) (sym (length-map c.args.before.now given))
    ∙ told_says c.args.key.now c.args.ring.now (map given c.args.before.now) None None true c.in_default.ensures.first c.in_default-first_new.ensures.first (sym (c.if-clashes_with_itself.true) ∙ c.clashes_with_itself.ensures)

pub returns-else-clashes_with_itself-clause-number : goal.returns-else-clashes_with_itself-clause-number
returns-else-clashes_with_itself-clause-number c =
    told_says c.args.key.now c.args.ring.now (map given c.args.before.now) None None false c.in_default.ensures.first c.in_default-first_new.ensures.first (sym (c.if-clashes_with_itself.false) ∙ c.clashes_with_itself.ensures)
