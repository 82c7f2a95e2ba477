-- Which octets stand in the texts of a line: no text holds the octet that ends it.
use Rattle.std.proofs.Common.{append_assoc, ◌≡◌, ℕ, zero, suc, ◌+◌, ◌-◌, ◌*◌, ◌/◌, ◌%◌, ◌^◌, ◌<◌, Bool, true, false, eqb, List, [], ◌∷◌, ◌++◌, length, replicate, Option, Some, None, refl, sym, ap, subst, arith, inl, inr}
use Rattle.std.specs.Prelude.{not, slice_index, codes, IfSome}
use Rattle.std.specs.List.{list_all, AllByRecursion}
use Rattle.std.specs.Fmt.{decimal}
use Rattle.std.proofs.lemmas.Bool.{and_parts, ne_eqb, not-true}
use Rattle.base64.specs.Rfc4648.{encode_symbols, encode_group}
use Rattle.base64.specs.GeneralPurpose.{encode_of}
use Rattle.base64.specs.Engines.{standard}
use Rattle.sg_base.specs.declared.Suite.{Suite}
use Rattle.sg_base.specs.declared.Suite.TheVariants.{Raw80}
use Rattle.sg_base.specs.Fields.{Lacks}
use Rattle.sg_base.specs.Mkis.{MkiValue}
use Rattle.sg_base.specs.SuiteNames.{suite_name}
use Rattle.sg_base.proofs.FourNumbers.{decimal_lacks}
use Rattle.sg_base.proofs.SuiteLemmas.{lacks_test}
use Rattle.sg_base.proofs.Cuts.{lacks_append}
use Rattle.sg_sdes.specs.CryptoText.{mki_text, plain_rtp_words, plain_rtcp_words, window_words}

-- ---- base64

-- no symbol of a table that lacks an octet above 0 is that octet
at_index : (c : ℕ) (t : List ℕ) (i : ℕ) → 0 < c → list_all (λ x. not (eqb x c)) t ≡ true → eqb (slice_index t i) c ≡ false
at_index c [] i above all = ne_eqb 0 c (λ e. omega arith)
at_index c (x ∷ xs) zero above all = not-true (eqb x c) (and_parts (not (eqb x c)) (list_all (λ x. not (eqb x c)) xs) all).0
at_index c (x ∷ xs) (suc i) above all = at_index c xs i above (and_parts (not (eqb x c)) (list_all (λ x. not (eqb x c)) xs) all).1

pub symbols_lack : (c : ℕ) (t m : List ℕ) → 0 < c → list_all (λ x. not (eqb x c)) t ≡ true → Lacks c (encode_symbols t m)
unfolding encode_symbols
symbols_lack c t [] above all = tt
symbols_lack c t (a ∷ []) above all = (at_index c t (a / 4) above all, (at_index c t (a % 4 * 16) above all, tt))
symbols_lack c t (a ∷ b ∷ []) above all = (at_index c t (a / 4) above all, (at_index c t (a % 4 * 16 + b / 16) above all, (at_index c t (b % 16 * 4) above all, tt)))
symbols_lack c t (a ∷ b ∷ d ∷ rest) above all =
    lacks_append c (encode_group t a b d) (encode_symbols t rest)
    (at_index c t (a / 4) above all, (at_index c t (a % 4 * 16 + b / 16) above all, (at_index c t (b % 16 * 4 + d / 64) above all, (at_index c t (d % 64) above all, tt))))
    (symbols_lack c t rest above all)

replicated_lack : (c n x : ℕ) → eqb x c ≡ false → Lacks c (replicate n x)
replicated_lack c zero x other = tt
replicated_lack c (suc n) x other = (other, replicated_lack c n x other)

pub base64_lacks : (c : ℕ) (m : List ℕ) → 0 < c → list_all (λ x. not (eqb x c)) standard.encode_table ≡ true → eqb 61 c ≡ false → Lacks c (encode_of standard m)
base64_lacks c m above all other = lacks_append c (encode_symbols standard.encode_table m) (replicate ((3 - length m % 3) % 3) 61) (symbols_lack c standard.encode_table m above all) (replicated_lack c _ 61 other)

-- ---- lifetimes and MKIs

-- numbers of a line are below 2^128
pub decimal_without : (c n : ℕ) → n < 2 ^ 128 → (57 < c) → Lacks c (decimal n)
decimal_without c n small above = decimal_lacks c n (omega arith) (inr above)

pub space_decimal : (n : ℕ) → n < 2 ^ 128 → Lacks 32 (decimal n)
space_decimal n small = decimal_lacks 32 n (omega arith) (inl (omega arith))

-- the texts behind a bar
abbrev pub mki_part : MkiValue → List ℕ
mki_part m = decimal m.value ++ 58 ∷ decimal m.length

pub mki_lacks : (c : ℕ) (m : MkiValue) → Lacks c (decimal m.value) → eqb 58 c ≡ false → Lacks c (decimal m.length) → Lacks c (mki_part m)
mki_lacks c m v other n = lacks_append c (decimal m.value) (58 ∷ decimal m.length) v (other, n)

pub mki_text_is : (m : MkiValue) → mki_text (Some m) ≡ 124 ∷ mki_part m
mki_text_is m = ap (λ (l : List ℕ). 124 ∷ l) (append_assoc (decimal m.value) (58 ∷ []) (decimal m.length))

pub some_mki_lacks : (c : ℕ) (m : MkiValue) → eqb 124 c ≡ false → Lacks c (mki_part m) → Lacks c (mki_text (Some m))
some_mki_lacks c m other lacks = subst (Lacks c) (sym (mki_text_is m)) (other, lacks)

-- ---- words

-- a word: at least one octet, and no space
pub record IsWord (w : List ℕ) : Type 0 where
  pub lacks : Lacks 32 w
  pub some : 0 < length w

-- ---- the words of a line

pub some_suite : (s : Suite) → 0 < length (suite_name s)
unfolding suite_name
some_suite Raw80 = omega arith
some_suite other = omega arith

window_lacks : (window : Option ℕ) → IfSome window (λ n. n < 10 ^ 9) → AllByRecursion (Lacks 32) (window_words window)
window_lacks None fits = tt
window_lacks (Some n) fits = (lacks_append 32 (codes "WSH=") (decimal n) (lacks_test 32 (codes "WSH=") refl) (space_decimal n (omega (arith, fits))), tt)

rtcp_lacks : (rtcp : Bool) (window : Option ℕ) → IfSome window (λ n. n < 10 ^ 9) → AllByRecursion (Lacks 32) (plain_rtcp_words rtcp ++ window_words window)
rtcp_lacks true window fits = (lacks_test 32 (codes "UNENCRYPTED_SRTCP") refl, window_lacks window fits)
rtcp_lacks false window fits = window_lacks window fits

pub marks_lack : (rtp rtcp : Bool) (window : Option ℕ) → IfSome window (λ n. n < 10 ^ 9)
    → AllByRecursion (Lacks 32) (plain_rtp_words rtp ++ plain_rtcp_words rtcp ++ window_words window)
marks_lack true rtcp window fits = (lacks_test 32 (codes "UNENCRYPTED_SRTP") refl, rtcp_lacks rtcp window fits)
marks_lack false rtcp window fits = rtcp_lacks rtcp window fits
