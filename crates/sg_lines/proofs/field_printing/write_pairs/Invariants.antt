use Rattle.std.proofs.Common.{◌≡◌, ◌*◌, ◌++◌, take, drop}
use Rattle.hex.specs.Hex.{encode_lower}
use Rattle.sg_lines.proofs.field_printing.write_pairs.Given as goal

abbrev pub invariant-octets : goal.invariant-octets
invariant-octets l = take (2 * l.i) l.text ++ encode_lower (drop l.i l.octets) ≡ encode_lower l.octets
