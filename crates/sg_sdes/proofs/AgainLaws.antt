-- What is spelled of a line with a spelling is read as that line.
use Rattle.std.proofs.Common.{◌≡◌, ℕ, ◌+◌, ◌-◌, ◌^◌, ◌<◌, ◌≤◌, Bool, true, false, eqb, List, [], ◌∷◌, ◌++◌, length, take, drop, Option, Some, None, Ok, refl, sym, ap, ◌∙◌, arith, length-append}
use Rattle.std.proofs.Math.Seq.{drop-append_seam}
use Rattle.std.proofs.Math.Bool.{and-false}
use Rattle.std.specs.Prelude.{codes, IfSome, nat_eq}
use Rattle.std.specs.Char.{is_ascii_digit}
use Rattle.std.specs.List.{list_all, starts_with}
use Rattle.std.specs.Fmt.{decimal}
use Rattle.std.proofs.lemmas.Bool.{ne_eqb, eq-eqb, eqb-false, le-leb, lt-ltb}
use Rattle.std.proofs.lemmas.Fmt.{digits_decimal, digits_value-decimal, decimal_nonempty, length-decimal-le}
use Rattle.std.proofs.lemmas.List.{take_at}
use Rattle.sg_base.specs.declared.Suite.{Suite}
use Rattle.sg_base.specs.declared.Suite.TheVariants.{Raw80}
use Rattle.sg_base.specs.Fields.{Lacks, cut_at}
use Rattle.sg_base.specs.Keys.{Master, master_of}
use Rattle.sg_base.specs.Mkis.{MkiValue, IsMki}
use Rattle.sg_base.specs.Suites.{key_len_of, salt_len_of}
use Rattle.sg_base.specs.SuiteNames.{suite_name, suite_at}
use Rattle.sg_base.proofs.Cuts.{cut_again}
use Rattle.sg_base.proofs.Decimals.{number_again}
use Rattle.sg_base.proofs.SuiteLemmas.{suite_again}
use Rattle.sg_sdes.specs.declared.lines.InlineKey.{InlineKey}
use Rattle.sg_sdes.specs.CryptoText.{plain_rtp_words, plain_rtcp_words, window_words, IsInlineKey}
use Rattle.sg_sdes.specs.Keys.{at_bar, behind_bar, with_one, with_both}
use Rattle.sg_sdes.specs.KeyTexts.{base64_at, digits_at, crypto_suite_at, key_at, lifetime_at, is_mki, mki_at}
use Rattle.sg_sdes.specs.Parameters.{unsaid, with_parameter, parameters_from}
use Rattle.sg_sdes.proofs.DigitLaws.{own, digits_are, digits_read}
use Rattle.sg_sdes.proofs.TextLaws.{mki_part, decimal_without}
use Rattle.sg_sdes.proofs.WordLaws.{cut_lacking}

-- ---- digits and suites

pub digits_again : (n : ℕ) → n < 10 ^ 9 → digits_at (decimal n) ≡ Some n
digits_again n small =
    let fits : n < 2 ^ 64 = omega (arith, small) in
    let all : list_all is_ascii_digit (decimal n) ≡ true = digits_are (decimal n) ∙ digits_decimal own n fits in
    let some = decimal_nonempty n fits in
    digits_read (decimal n) all some (length-decimal-le 9 n (omega arith) small fits) ∙ ap Some (digits_value-decimal own n fits)

suite_step : (s : Suite) (o : Option Suite) → (s ≡ Raw80 → ⊥) → suite_at (suite_name s) ≡ Some s → crypto_suite_at (suite_name s) ≡ Some s
unfolding crypto_suite_at
suite_step Raw80 o other e = absurd (other refl)
suite_step another o other e = rw e refl

pub crypto_suite_again : (s : Suite) → (s ≡ Raw80 → ⊥) → crypto_suite_at (suite_name s) ≡ Some s
crypto_suite_again s other = suite_step s None other (suite_again s)

-- ---- one key

drop_at : (a b : List ℕ) (n : ℕ) → length a ≡ n → drop n (a ++ b) ≡ b
drop_at a b n e = rw (← e) (drop-append_seam a b)

same_key : (suite : Suite) (k : InlineKey) → IsInlineKey suite k → master_of suite (k.key.key ++ k.key.salt) ≡ k.key
same_key suite k fits =
    let prefix : take (key_len_of suite) (k.key.key ++ k.key.salt) ≡ k.key.key = take_at k.key.key k.key.salt (key_len_of suite) fits.key in
    let back : drop (key_len_of suite) (k.key.key ++ k.key.salt) ≡ k.key.salt = drop_at k.key.key k.key.salt (key_len_of suite) fits.key in
    let is = sym fits.suite_is in
    (λ i. record { suite = is i; key = prefix i; salt = back i })

-- a text that decodes to a key's octets
pub key_of : (suite : Suite) (b : List ℕ) (k : InlineKey) → IsInlineKey suite k → base64_at b ≡ Some (k.key.key ++ k.key.salt) → key_at suite b ≡ Some k.key
unfolding key_at
key_of suite b k fits decoded =
    let a = fits.key in
    let b = fits.salt in
    let size : length (k.key.key ++ k.key.salt) ≡ key_len_of suite + salt_len_of suite = omega (arith, a, b, length-append k.key.key k.key.salt) in
    rw (decoded, eq-eqb _ _ size) (ap Some (same_key suite k fits))

not_power : (t : List ℕ) → Lacks 94 t → starts_with nat_eq t (codes "2^") ≡ false
not_power [] lacks = refl
not_power (x ∷ []) lacks = and-false (eqb 50 x)
not_power (x ∷ y ∷ ys) lacks = rw (ne_eqb 94 y (λ e. eqb-false y 94 lacks.1.0 (sym e))) (and-false (eqb 50 x))

pub lifetime_again : (n : ℕ) → 1 ≤ n → n ≤ 2 ^ 48 → lifetime_at (decimal n) ≡ Some n
unfolding lifetime_at
lifetime_again n least most =
    rw (not_power (decimal n) (decimal_without 94 n (omega arith) (omega arith)), number_again (2 ^ 48) n most (omega arith), ne_eqb n 0 (λ e. omega arith)) refl

mki_step : (m : MkiValue) → IsMki m.value m.length → is_mki m.value m.length ≡ true
mki_step m is = rw (le-leb 1 m.length is.least, le-leb m.length 128 is.most, lt-ltb m.value (256 ^ m.length) is.fits) refl

pub small_length : (m : MkiValue) → IsMki m.value m.length → m.length < 2 ^ 128
small_length m is = let n = is.most in omega (arith, n)

pub mki_again : (m : MkiValue) → IsMki m.value m.length → m.value < 2 ^ 128 → mki_at (mki_part m) ≡ Some m
unfolding mki_at
mki_again m is small =
    rw (
      cut_again 58 (decimal m.value) (decimal m.length) (decimal_without 58 m.value small (omega arith)),
      number_again (2 ^ 128 - 1) m.value (omega (arith, small)) (omega arith),
      number_again 128 m.length is.most (omega arith),
      mki_step m is,
    )
    refl

-- the parts behind a key's first bar, by which of them are there
pub neither : (suite : Suite) (b : List ℕ) (k : Master) → Lacks 124 b → key_at suite b ≡ Some k → at_bar suite b (cut_at 124 b) ≡ Ok (record { key = k; lifetime = 2 ^ 48; mki = None })
neither suite b k lacks e = rw (cut_lacking 124 b lacks, e) refl

pub one_part : (suite : Suite) (b part : List ℕ) → Lacks 124 b → Lacks 124 part → at_bar suite (b ++ 124 ∷ part) (cut_at 124 (b ++ 124 ∷ part)) ≡ with_one suite b part
one_part suite b part lacks bars =
    let cut = ap (at_bar suite (b ++ 124 ∷ part)) (cut_again 124 b part lacks) in
    let uncut = ap (behind_bar suite b part) (cut_lacking 124 part bars) in
    cut ∙ uncut

pub two_parts : (suite : Suite) (b first second : List ℕ) → Lacks 124 b → Lacks 124 first
    → at_bar suite (b ++ 124 ∷ (first ++ 124 ∷ second)) (cut_at 124 (b ++ 124 ∷ (first ++ 124 ∷ second))) ≡ with_both suite b first second
two_parts suite b first second lacks bars =
    let text : List ℕ = b ++ 124 ∷ (first ++ 124 ∷ second) in
    let cut = ap (at_bar suite text) (cut_again 124 b (first ++ 124 ∷ second) lacks) in
    let again = ap (behind_bar suite b (first ++ 124 ∷ second)) (cut_again 124 first second bars) in
    cut ∙ again

pub a_lifetime : (suite : Suite) (b d : List ℕ) (k : Master) (n : ℕ) → key_at suite b ≡ Some k → Lacks 58 d → lifetime_at d ≡ Some n
    → with_one suite b d ≡ Ok (record { key = k; lifetime = n; mki = None })
a_lifetime suite b d k n e colons f = rw (e, cut_lacking 58 d colons, f) refl

pub an_mki : (suite : Suite) (b v l : List ℕ) (k : Master) (m : MkiValue) → key_at suite b ≡ Some k → Lacks 58 v → mki_at (v ++ 58 ∷ l) ≡ Some m
    → with_one suite b (v ++ 58 ∷ l) ≡ Ok (record { key = k; lifetime = 2 ^ 48; mki = Some m })
an_mki suite b v l k m e colons f = rw (e, cut_again 58 v l colons, f) refl

pub both_there : (suite : Suite) (b d v l : List ℕ) (k : Master) (n : ℕ) (m : MkiValue) → key_at suite b ≡ Some k → Lacks 58 d → lifetime_at d ≡ Some n
    → Lacks 124 (v ++ 58 ∷ l) → Lacks 58 v → mki_at (v ++ 58 ∷ l) ≡ Some m → with_both suite b d (v ++ 58 ∷ l) ≡ Ok (record { key = k; lifetime = n; mki = Some m })
both_there suite b d v l k n m e colons f bars mki_colons g =
    rw (cut_lacking 124 (v ++ 58 ∷ l) bars, cut_lacking 58 d colons, cut_again 58 v l mki_colons, e, f, g) refl

-- ---- the parameters

window_again : (rtp rtcp : Bool) (window : Option ℕ) → IfSome window (λ n. n < 10 ^ 9)
    → parameters_from (record { rate = false; order = false; plain_rtp = rtp; plain_rtcp = rtcp; window = None }) (window_words window)
    ≡ Some (record { rate = false; order = false; plain_rtp = rtp; plain_rtcp = rtcp; window = window })
unfolding parameters_from with_parameter
window_again rtp rtcp None fits = refl
window_again rtp rtcp (Some n) fits = rw (digits_again n fits) refl

pub parameters_again : (rtp rtcp : Bool) (window : Option ℕ) → IfSome window (λ n. n < 10 ^ 9)
    → parameters_from unsaid (plain_rtp_words rtp ++ plain_rtcp_words rtcp ++ window_words window) ≡ Some (record { rate = false; order = false; plain_rtp = rtp; plain_rtcp = rtcp; window = window })
unfolding parameters_from with_parameter
parameters_again true true window fits = window_again true true window fits
parameters_again true false window fits = window_again true false window fits
parameters_again false true window fits = window_again false true window fits
parameters_again false false window fits = window_again false false window fits
