-- Keys in base64.
use Rattle.std.proofs.Common.{◌≡◌, ℕ, ◌+◌, ◌*◌, ◌-◌, ◌/◌, ◌%◌, ◌<◌, cond, eqb, List, length, Option, Some, None, Result, Ok, Err, refl, sym, ap, ◌∙◌, arith, inl, inr}
use Rattle.std.specs.Prelude.{◌⊎◌, option_and_then, replicate}
use Rattle.base64.specs.GeneralPurpose.{decode_of, encode_of, IsBytes, IsStrict}
use Rattle.base64.specs.Engines.{standard, standard_no_pad}
use Rattle.base64.specs.declared.decode.DecodeError.{DecodeError}
use Rattle.base64.proofs.EngineFacts.{decode_of_strict, decode_of-encode_of, IsAscii-encode_of}
use Rattle.base64.specs.Rfc4648.{encode_symbols}
use Rattle.base64.proofs.RoundTrip.{length-encode_symbols}
use Rattle.std.proofs.lemmas.List.{length-append, append-nil, length-replicate}
use Rattle.std.proofs.lemmas.Bool.{cases_eq, ne_eqb}
use Rattle.sg_base.specs.declared.Suite.{Suite}
use Rattle.sg_base.specs.Keys.{Master, master_of}
use Rattle.sg_base.specs.Suites.{key_len_of, salt_len_of}
use Rattle.sg_base.proofs.SuiteLemmas.{sizes}
use Rattle.sg_sdes.specs.KeyTexts.{base64_at, key_at, or_else, ok_of}

pub either : (r : Result (List ℕ) DecodeError) (s : Result (List ℕ) DecodeError) (b : List ℕ) → or_else r (ok_of s) ≡ Some b → (r ≡ Ok b) ⊎ (s ≡ Ok b)
either (Ok x) s b e = let f : x ≡ b = cc in inl (ap Ok f)
either (Err d) (Ok x) b e = let f : x ≡ b = cc in inr (ap Ok f)
either (Err d) (Err f) b e = absurd cc

strict_pad : IsStrict standard
strict_pad = (refl, refl)

strict_no_pad : IsStrict standard_no_pad
strict_no_pad = (refl, refl)

-- what is read is base64 with all its closing `=`, or with none
pub base64_takes : (t b : List ℕ) → IsBytes t → base64_at t ≡ Some b → (t ≡ encode_of standard b) ⊎ (t ≡ encode_of standard_no_pad b)
unfolding base64_at
base64_takes t b fits e =
    elim (either (decode_of standard t) (decode_of standard_no_pad t) b e) [
      | inl p ↦ inl (decode_of_strict standard t b strict_pad fits p)
      | inr p ↦ inr (decode_of_strict standard_no_pad t b strict_no_pad fits p)
    ]

-- both are read
pub base64_padded : (b : List ℕ) → IsBytes b → base64_at (encode_of standard b) ≡ Some b
unfolding base64_at
base64_padded b fits = rw (decode_of-encode_of standard b refl fits) refl

len_padded : (b : List ℕ) → length (encode_of standard b) ≡ (4 * length b + 2) / 3 + (3 - length b % 3) % 3
len_padded b =
    length-append (encode_symbols standard.encode_table b) (replicate ((3 - length b % 3) % 3) 61) ∙ rw (length-encode_symbols standard.encode_table b, length-replicate) refl

len_bare : (b : List ℕ) → length (encode_of standard_no_pad b) ≡ (4 * length b + 2) / 3
len_bare b = ap length (append-nil (encode_symbols standard.encode_table b)) ∙ length-encode_symbols standard.encode_table b

-- where no padding is needed the two are one
same_spelling : (b : List ℕ) → length b % 3 ≡ 0 → encode_of standard_no_pad b ≡ encode_of standard b
same_spelling b whole = let none : (3 - length b % 3) % 3 ≡ 0 = omega arith in rw none refl

-- else only one of them decodes it
bare_only : (b : List ℕ) (r : Result (List ℕ) DecodeError) → IsBytes b → IsBytes (encode_of standard_no_pad b) → (length b % 3 ≡ 0 → ⊥) → decode_of standard (encode_of standard_no_pad b) ≡ r → or_else r (Some b) ≡ Some b
bare_only b (Err d) fits text uneven e = refl
bare_only b (Ok x) fits text uneven e =
    let same : encode_of standard_no_pad b ≡ encode_of standard x = decode_of_strict standard _ x strict_pad text e in
    let lens : (4 * length b + 2) / 3 ≡ (4 * length x + 2) / 3 + (3 - length x % 3) % 3 = sym (len_bare b) ∙ ap length same ∙ len_padded x in
    absurd (uneven (omega arith))

pub base64_bare : (b : List ℕ) → IsBytes b → base64_at (encode_of standard_no_pad b) ≡ Some b
unfolding base64_at
base64_bare b fits =
    elim (cases_eq (length b % 3) 0) [
      | inl whole ↦ ap base64_at (same_spelling b whole) ∙ base64_padded b fits
      | inr uneven ↦ rw (decode_of-encode_of standard_no_pad b refl fits) (bare_only b (decode_of standard (encode_of standard_no_pad b)) fits (λ i. omega (arith, IsAscii-encode_of standard_no_pad b i)) uneven refl)
    ]

-- the key of octets, where they are as many as the suite has
abbrev pub sized : Suite → List ℕ → Option Master
sized s b = cond (eqb (length b) (key_len_of s + salt_len_of s)) (Some (master_of s b)) None

other_len : (s : Suite) (b : List ℕ) → 46 < length b → sized s b ≡ None
other_len s b long = rw (ne_eqb (length b) (key_len_of s + salt_len_of s) (λ e. let n = sizes s in omega (arith, n))) refl

long_case : (s : Suite) (t : List ℕ) (o : Option (List ℕ)) → IsBytes t → 64 < length t → base64_at t ≡ o → option_and_then (sized s) o ≡ None
long_case s t None fits long e = refl
long_case s t (Some b) fits long e =
    elim (base64_takes t b fits e) [
      | inl p ↦ let n : length t ≡ (4 * length b + 2) / 3 + (3 - length b % 3) % 3 = ap length p ∙ len_padded b in other_len s b (omega arith)
      | inr p ↦ let n : length t ≡ (4 * length b + 2) / 3 = ap length p ∙ len_bare b in other_len s b (omega arith)
    ]

pub too_long : (s : Suite) (t : List ℕ) → IsBytes t → 64 < length t → key_at s t ≡ None
unfolding key_at
too_long s t fits long = long_case s t (base64_at t) fits long refl
