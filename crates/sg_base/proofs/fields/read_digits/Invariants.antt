use Rattle.std.proofs.Common.{◌≡◌, take}
use Rattle.std.specs.Str.Parse.{AllDigits, digits_value}
use Rattle.sg_base.proofs.fields.read_digits.Given as goal

abbrev pub invariant-digits : goal.invariant-digits
invariant-digits l = record {
  value : l.number ≡ digits_value 10 (take l.octet-index l.text);
  digits : AllDigits 10 (take l.octet-index l.text);
}
