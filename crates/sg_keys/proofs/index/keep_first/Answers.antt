use Rattle.std.proofs.Common.{rules, ◌≡◌, None, is_some, sym, ap, ◌∙◌}
use Rattle.sg_keys.specs.Indexed.{at_octets}
use Rattle.sg_keys.proofs.Octets.{first_kept, first_stays, is_none}
use Rattle.sg_keys.proofs.index.keep_first.Goals as goal
use Rattle.sg_keys.proofs.index.keep_first.Goals.{in-Ok-insert, in-Err}

pub returns-then-is_some-clause-ok : goal.returns-then-is_some-clause-ok
returns-then-is_some-clause-ok c = first_stays c.args.numbers.now c.args.octets.now c.args.number (ap is_some (sym c.number_of.ensures) ∙ sym c.is_some.ensures ∙ c.if-is_some.true)

pub returns-clause-ok : goal.returns-clause-ok
returns-clause-ok c =
    let absent : at_octets c.args.numbers.now c.args.octets.now ≡ None = sym c.number_of.ensures ∙ is_none c.number_of.result (sym c.is_some.ensures ∙ c.if-is_some.false) in
    elim c.match-insert.branch [
      | in-Ok-insert w ↦ rw w.result-is (rw (← c.in-Ok.ensures.items) (first_kept c.args.numbers.now c.insert.new.self c.in-Ok.octets.items c.args.number w.in-Ok-insert.ensures.updates (ap (at_octets c.args.numbers.now) c.in-Ok.ensures.items ∙ absent)))
      | in-Err w ↦ search rules
    ]
