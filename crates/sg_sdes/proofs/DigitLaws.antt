-- One to nine digits.
use Rattle.std.proofs.Common.{◌≡◌, ℕ, ◌^◌, ◌<◌, ◌≤◌, true, List, [], ◌∷◌, length, Some, Result, Ok, refl, sym, ap, ◌∙◌, arith}
use Rattle.std.specs.Prelude.{◌&&◌}
use Rattle.std.specs.Char.{is_ascii_digit}
use Rattle.std.specs.List.{list_all}
use Rattle.std.specs.Str.{all_ascii_digits, IsUtf8}
use Rattle.std.specs.Str.Parse.{digits_value, ParsesUnsigned}
use Rattle.std.proofs.lemmas.Bool.{le-leb}
use Rattle.std.proofs.lemmas.Str.Parse.{IsNumeralModel, numerals_by_value, tells_all_ascii_digits, parse_gives, digits_value_short}
use Rattle.std.proofs.lemmas.Fmt.{IsAscii-from_digits}
use Rattle.std.proofs.lemmas.Str.{IsUtf8-from_ascii}
use Rattle.sg_sdes.specs.KeyTexts.{digits_at}

pub own : IsNumeralModel (λ ds. all_ascii_digits ds ≡ true) (digits_value 10)
own = numerals_by_value _ tells_all_ascii_digits

-- the two words for digits are one
pub digits_are : (t : List ℕ) → list_all is_ascii_digit t ≡ all_ascii_digits t
digits_are [] = refl
digits_are (x ∷ xs) = ap (λ b. is_ascii_digit x && b) (digits_are xs)

pub small : (t : List ℕ) → list_all is_ascii_digit t ≡ true → length t ≤ 9 → digits_value 10 t < 10 ^ 9
small t all short = digits_value_short own t 9 (sym (digits_are t) ∙ all) short

pub parsed : {E : Type 0} (t : List ℕ) (r : Result ℕ E) → ParsesUnsigned 32 10 t r → list_all is_ascii_digit t ≡ true → 0 < length t → length t ≤ 9 → r ≡ Ok (digits_value 10 t)
parsed t r h all some short = let s = small t all short in parse_gives own 32 t r h (sym (digits_are t) ∙ all) some (omega (arith, s))

pub digits_read : (t : List ℕ) → list_all is_ascii_digit t ≡ true → 0 < length t → length t ≤ 9 → digits_at t ≡ Some (digits_value 10 t)
unfolding digits_at
digits_read t all some short = rw (le-leb 1 (length t) (omega (arith, some)), le-leb (length t) 9 short, all) refl

pub text_is : (t : List ℕ) → list_all is_ascii_digit t ≡ true → IsUtf8 t
text_is t all = IsUtf8-from_ascii t (IsAscii-from_digits t (own.to t (sym (digits_are t) ∙ all)))
