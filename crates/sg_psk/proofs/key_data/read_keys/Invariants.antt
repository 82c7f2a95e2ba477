use Rattle.std.proofs.Common.{◌≡◌, ◌-◌}
use Rattle.sg_psk.specs.KeyData.{keys_at}
use Rattle.sg_psk.proofs.KeyLemmas.{behind}
use Rattle.sg_psk.proofs.key_data.read_keys.Given as goal

abbrev pub invariant-loop : goal.invariant-loop
invariant-loop l = behind l.keys (keys_at (8 - l.counter) l.rest) ≡ keys_at 8 l.octets
