use Rattle.std.proofs.Common.{◌≡◌, ◌<◌, ℕ, length}
use Rattle.std.specs.Prelude.{slice_index}
use Rattle.sg_base.proofs.DigitLemmas.{octet_of}
use Rattle.sg_base.proofs.digits.write_octets.Given as goal

abbrev pub invariant-pairs : goal.invariant-pairs
invariant-pairs l = record {
  long : length l.octets ≡ length l.initial.octets;
  each : (k : ℕ) → k < l.i → slice_index l.octets k ≡ octet_of l.text k;
}
