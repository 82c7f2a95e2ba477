use Rattle.std.proofs.Common.{◌≡◌, None, find, rules, subst}
use Rattle.sg_keys.specs.KeySet.{IsKeySet}
use Rattle.sg_keys.specs.Live.{is_alive}
use Rattle.sg_keys.specs.PreparedKey.{live_of}
use Rattle.sg_keys.proofs.Choosing.{each_spent}
use Rattle.sg_keys.proofs.key_set.KeySet.choose_seal.Goals as goal

pub returns-in-None-clause-spent : goal.returns-in-None-clause-spent
returns-in-None-clause-spent c =
    let none : find is_alive c.args.self.now ≡ None = search rules in
    each_spent c.args.self.now _ (live_of c.key-last.result.now) (subst IsKeySet c.self.view_is c.self.invariant) none c.key-last.ensures
