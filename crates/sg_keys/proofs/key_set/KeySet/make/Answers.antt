use Rattle.std.proofs.Common.{◌≡◌, ◌++◌, ◌∷◌, List, map, ap, arith, sym, ◌∙◌}
use Rattle.std.proofs.lemmas.Grind.{common_steps}
use Rattle.sg_keys.specs.PreparedKey.{live_of}
use Rattle.sg_keys.specs.declared.live_key.LiveKey.{LiveKey}
use Rattle.sg_keys.proofs.Spending.{next_cipher}
use Rattle.sg_keys.proofs.key_set.KeySet.make.Goals as goal

pub new-requires : goal.new-requires
new-requires c =
    let left : c.loop-key.key-iterator ≡ c.in-Some.key ∷ c.next.new.self = c.in-Some.ensures.steps in
    next_cipher (map live_of c.args.keys.items) c.loop-key.prepared.items (map live_of c.next.new.self) (live_of c.in-Some.key) c.requires.ciphers
    (ap (λ (rest : List LiveKey). c.loop-key.prepared.items ++ map live_of rest) (sym left) ∙ c.loop-key.invariant.2)

pub loop-key-preserved : goal.loop-key-preserved
loop-key-preserved c = grind (arith, common_steps)
