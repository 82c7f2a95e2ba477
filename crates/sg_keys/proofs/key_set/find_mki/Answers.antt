use Rattle.std.proofs.Common.{rules, sym, ◌∙◌}
use Rattle.sg_keys.specs.Live.{has_mki}
use Rattle.sg_keys.proofs.Choosing.{found_here}
use Rattle.sg_keys.proofs.key_set.find_mki.Goals as goal

pub returns-then-has_mki : goal.returns-then-has_mki
returns-then-has_mki c =
    found_here (has_mki c.args.mki.now) c.args.keys.now c.loop-position.position c.index-keys-position.result (search rules) c.index-keys-position.is
    (sym (c.has_mki.ensures) ∙ c.if-has_mki.true) c.loop-position.invariant
