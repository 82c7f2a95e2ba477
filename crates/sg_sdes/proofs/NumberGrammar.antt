-- Numbers of one to nine digits.
use Rattle.std.proofs.Common.{◌≡◌, ℕ, leb, List, length, Some, refl}
use Rattle.std.specs.Prelude.{◌&&◌}
use Rattle.std.specs.Char.{is_ascii_digit}
use Rattle.std.specs.List.{list_all}
use Rattle.std.specs.Str.Parse.{digits_value}
use Rattle.std.proofs.lemmas.Bool.{and_parts, le-leb, leb-true}
use Rattle.sg_base.proofs.Cases.{guarded}
use Rattle.sg_sdes.specs.Grammar.{SaysNumber}
use Rattle.sg_sdes.specs.KeyTexts.{digits_at}

pub number_says : (t : List ℕ) (n : ℕ) → digits_at t ≡ Some n → SaysNumber t n
unfolding digits_at
number_says t n e =
    let g = guarded (leb 1 (length t) && leb (length t) 9 && list_all is_ascii_digit t) (digits_value 10 t) n e in
    let p = and_parts (leb 1 (length t) && leb (length t) 9) (list_all is_ascii_digit t) g.0 in
    let q = and_parts (leb 1 (length t)) (leb (length t) 9) p.0 in
    record { some = leb-true _ _ q.0; few = leb-true _ _ q.1; digits = p.1; value = g.1 }

pub number_reads : (t : List ℕ) (n : ℕ) → SaysNumber t n → digits_at t ≡ Some n
unfolding digits_at
number_reads t n says = rw (le-leb 1 (length t) says.some, le-leb (length t) 9 says.few, says.digits, says.value) refl
