use Rattle.std.proofs.Common.{rules, sym, ◌∙◌}
use Rattle.sg_keys.specs.Live.{is_alive}
use Rattle.sg_keys.proofs.Choosing.{found_here}
use Rattle.sg_keys.proofs.key_set.find_alive.Goals as goal

pub returns-then-is_alive : goal.returns-then-is_alive
returns-then-is_alive c =
    found_here is_alive c.args.keys.now c.loop-position.position c.index-keys-position.result (search rules) c.index-keys-position.is
    (sym (c.is_alive.ensures) ∙ c.if-is_alive.true) c.loop-position.invariant
