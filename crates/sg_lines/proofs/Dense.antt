-- Texts without spaces and line ends: every octet is above 32.
use Rattle.std.proofs.Common.{◌≡◌, ℕ, suc, ◌+◌, ◌/◌, ◌%◌, ◌^◌, ◌<◌, ◌≤◌, true, ltb, List, [], ◌∷◌, ◌++◌, refl, arith}
use Rattle.std.specs.Prelude.{slice_index}
use Rattle.std.specs.List.{AllByRecursion, list_all, join_with_byte}
use Rattle.std.specs.Fmt.{decimal}
use Rattle.std.proofs.lemmas.Bool.{ne_eqb, ltb-true, leb-true, and_parts}
use Rattle.std.proofs.lemmas.Fmt.{decimal_by_steps_wide}
use Rattle.hex.specs.Hex.{encode_lower, encode_with, IsBytes, lower_digits}
use Rattle.sg_base.specs.declared.Address.{Address}
use Rattle.sg_base.specs.declared.Suite.{Suite}
use Rattle.sg_base.specs.declared.Suite.TheVariants.{Raw80}
use Rattle.sg_base.specs.Fields.{Lacks, four_text, address_text, IsFour, IsAddress}
use Rattle.sg_base.specs.Identities.{is_printing, is_identity}
use Rattle.sg_base.specs.SuiteNames.{suite_name}
use Rattle.sg_base.proofs.Pairs.{glyph, digit_above}
use Rattle.sg_base.proofs.Cuts.{lacks_append}
use Rattle.sg_lines.specs.LineText.{hex_text}

abbrev pub IsDense : List ℕ → Type 0
IsDense text = AllByRecursion (λ x. 32 < x) text

pub dense_test : (t : List ℕ) → list_all (λ x. ltb 32 x) t ≡ true → IsDense t
dense_test [] e = tt
dense_test (x ∷ t) e = let p = and_parts (ltb 32 x) (list_all (λ x. ltb 32 x) t) e in (ltb-true 32 x p.0, dense_test t p.1)

pub dense_lacks : (c : ℕ) (t : List ℕ) → c ≤ 32 → IsDense t → Lacks c t
dense_lacks c [] low dense = tt
dense_lacks c (x ∷ t) low dense = let above : 32 < x = dense.0 in (ne_eqb x c (λ e. omega (arith, above, low, e)), dense_lacks c t low dense.1)

pub dense_append : (x y : List ℕ) → IsDense x → IsDense y → IsDense (x ++ y)
dense_append [] y p q = q
dense_append (d ∷ x) y p q = (p.0, dense_append x y p.1 q)

pub dense_decimal : (n : ℕ) → n < 10 ^ 64 → IsDense (decimal n)
dense_decimal n small =
    decimal_by_steps_wide (λ n ds. IsDense ds) (λ n lt. (omega arith, tt)) (λ n ds le so_far. dense_append ds ((48 + n % 10) ∷ []) so_far (omega arith, tt)) n small

dense_four : (ip : List ℕ) → IsFour ip → IsDense (four_text ip)
dense_four ip fits =
    let number : (i : ℕ) → IsDense (decimal (slice_index ip i)) = λ i. let small = fits.octets i in dense_decimal (slice_index ip i) (omega (arith, small)) in
    let stop : IsDense (46 ∷ []) = (omega arith, tt) in
    let two = dense_append _ (46 ∷ []) (dense_append _ (decimal (slice_index ip 1)) (dense_append (decimal (slice_index ip 0)) (46 ∷ []) (number 0) stop) (number 1)) stop in
    dense_append _ (decimal (slice_index ip 3)) (dense_append _ (46 ∷ []) (dense_append _ (decimal (slice_index ip 2)) two (number 2)) stop) (number 3)

pub dense_address : (a : Address) → IsAddress a → IsDense (address_text a)
dense_address a fits =
    let small = fits.port in
    dense_append _ (decimal a.port) (dense_append (four_text a.ip) (58 ∷ []) (dense_four a.ip fits.ip) (omega arith, tt)) (dense_decimal a.port (omega (arith, small)))

pub dense_encoded : (octets : List ℕ) → IsBytes octets → IsDense (encode_lower octets)
unfolding encode_with
dense_encoded [] fits = tt
dense_encoded (b ∷ octets) fits =
    let first : b < 256 = fits 0 in
    let high : 48 ≤ slice_index lower_digits (b / 16) = digit_above _ _ (glyph (b / 16) (omega arith)) in
    let low : 48 ≤ slice_index lower_digits (b % 16) = digit_above _ _ (glyph (b % 16) (omega arith)) in
    (omega (arith, high), (omega (arith, low), dense_encoded octets (λ i. fits (suc i))))

pub dense_hex : (octets : List ℕ) → IsBytes octets → IsDense (hex_text octets)
dense_hex [] fits = (omega arith, tt)
dense_hex (b ∷ octets) fits = dense_encoded (b ∷ octets) fits

pub dense_suite : (s : Suite) → IsDense (suite_name s)
unfolding suite_name
dense_suite Raw80 = dense_test (suite_name Raw80) refl
dense_suite other = dense_test (suite_name other) refl

dense_printing : (t : List ℕ) → list_all is_printing t ≡ true → IsDense t
dense_printing [] e = tt
dense_printing (x ∷ t) e =
    let p = and_parts (is_printing x) (list_all is_printing t) e in
    let low : 33 ≤ x = leb-true 33 x (and_parts _ _ p.0).0 in
    (omega (arith, low), dense_printing t p.1)

pub dense_identity : (t : List ℕ) → is_identity t ≡ true → IsDense t
dense_identity t e = dense_printing t (and_parts _ (list_all is_printing t) e).1

-- fields without spaces and line ends
abbrev pub AreDense : List (List ℕ) → Type 0
AreDense fields = AllByRecursion IsDense fields

pub lack_spaces : (fs : List (List ℕ)) → AreDense fs → AllByRecursion (Lacks 32) fs
lack_spaces [] dense = tt
lack_spaces (f ∷ fs) dense = (dense_lacks 32 f (omega arith) dense.0, lack_spaces fs dense.1)

-- no line end stands in joined fields
pub joined_lacks : (fs : List (List ℕ)) → AreDense fs → Lacks 10 (join_with_byte 32 fs)
joined_lacks [] dense = tt
joined_lacks (f ∷ []) dense = dense_lacks 10 f (omega arith) dense.0
joined_lacks (f ∷ g ∷ fs) dense = lacks_append 10 f _ (dense_lacks 10 f (omega arith) dense.0) (refl, joined_lacks (g ∷ fs) dense.1)
