-- Each field has one spelling: what is spelled so is read, and what is read is spelled so.
use Rattle.std.proofs.Common.{◌≡◌, ℕ, zero, suc, ◌+◌, ◌/◌, ◌^◌, ◌<◌, ◌≤◌, Bool, true, false, cond, eqb, ltb, leb, List, [], ◌∷◌, ◌++◌, length, take, drop, Option, Some, None, Result, Ok, Err, refl, sym, ap, subst, ◌∙◌, arith, inl, inr, append_assoc, lit<, length-append, take-append-drop}
use Rattle.std.specs.Prelude.{◌&&◌, slice_index}
use Rattle.std.specs.Int.{w32, to_be_bytes, from_be_bytes}
use Rattle.std.specs.Fmt.{decimal}
use Rattle.std.specs.List.{list_all}
use Rattle.std.specs.Str.{bytes_eq}
use Rattle.std.proofs.Math.Bool.{and-false}
use Rattle.std.proofs.lemmas.Bool.{ne_eqb, eqb-true, eqb-false, le-leb, leb-true, le-ltb, ltb-false, and_parts}
use Rattle.std.proofs.lemmas.Nat.{be_bytes_4, from_be_bytes-to_be_bytes_4}
use Rattle.std.proofs.lemmas.List.{take_at, length-take, length-drop}
use Rattle.std.proofs.lemmas.Slice.Eq.{bytes_eq-Decides}
use Rattle.hex.specs.Hex.{encode_lower, encode_with, IsBytes, lower_digits}
use Rattle.sg_base.specs.declared.Address.{Address}
use Rattle.sg_base.specs.declared.CallId.{CallId}
use Rattle.sg_base.specs.declared.Noise304.{Noise304}
use Rattle.sg_base.specs.declared.ScriptFault.{ScriptFault}
use Rattle.sg_base.specs.declared.ScriptFault.TheVariants.{Word, Number, Hex, Length}
use Rattle.sg_base.specs.Fields.{number_at, cut_at, octets_at, address_at, address_text, IsAddress}
use Rattle.sg_base.specs.Identities.{is_printing, is_identity}
use Rattle.sg_base.specs.Keys.{Master, master_of}
use Rattle.sg_base.specs.Suites.{key_len_of, salt_len_of}
use Rattle.sg_base.specs.SuiteNames.{suite_name, suite_at}
use Rattle.sg_base.proofs.Cuts.{cut_again, cut_takes}
use Rattle.sg_base.proofs.Decimals.{number_again, number_takes}
use Rattle.sg_base.proofs.FourNumbers.{address_again, address_takes}
use Rattle.sg_base.proofs.Pairs.{octets_again, octets_take}
use Rattle.sg_base.proofs.SuiteLemmas.{suite_again, suite_takes, suite_lacks_colon}
use Rattle.sg_base.proofs.Cases.{chosen}
use Rattle.sg_lines.specs.Fields.{◌>>=◌, or_fault, number_from, call_from, address_from, hex_from, octets_from, rollover_from, window_from, noise_from, key_from, identity_from}
use Rattle.sg_lines.specs.LineText.{hex_text, key_text, rollover_text, noise_text, FitsKey, FitsNoise, FitsOctets}

pub bind_ok : {A B : Type 0} (r : Result A ScriptFault) (f : A → Result B ScriptFault) (y : B) → (r >>= f) ≡ Ok y → (x : A) × (r ≡ Ok x) × (f x ≡ Ok y)
bind_ok (Ok x) f y e = (x, refl, e)
bind_ok (Err d) f y e = absurd cc

pub or_fault_ok : {A : Type 0} (d : ScriptFault) (o : Option A) (x : A) → or_fault d o ≡ Ok x → o ≡ Some x
or_fault_ok d (Some y) x e = cc
or_fault_ok d None x e = absurd cc

abbrev pub done : {A : Type 0} → A → Result A ScriptFault
done x = Ok x

pub ok_is : {A : Type 0} (x y : A) → done x ≡ done y → x ≡ y
ok_is x y e = cc

pub err_ok : {A : Type 0} (d : ScriptFault) (x : A) → Err d ≡ done x → ⊥
err_ok d x e = cc

pub guard_true : {A : Type 0} (b : Bool) (d : ScriptFault) (x y : A) → cond b (Ok x) (Err d) ≡ Ok y → (b ≡ true) × (x ≡ y)
guard_true true d x y e = (refl, cc)
guard_true false d x y e = absurd cc

pub guard_false : {A : Type 0} (b : Bool) (d : ScriptFault) (x y : A) → cond b (Err d) (Ok x) ≡ Ok y → (b ≡ false) × (x ≡ y)
guard_false true d x y e = absurd cc
guard_false false d x y e = (refl, cc)

-- ---- numbers

pub number_in_again : (most n : ℕ) → n ≤ most → most < 10 ^ 64 → number_from most (decimal n) ≡ Ok n
number_in_again most n small wide = rw (number_again most n small wide) refl

pub number_in_takes : (most : ℕ) (t : List ℕ) (n : ℕ) → number_from most t ≡ Ok n → (t ≡ decimal n) × (n ≤ most)
number_in_takes most t n e = number_takes most t n (or_fault_ok Number (number_at most t) n e)

pub call_again : (c : CallId) → c.0 < 2 ^ 32 → call_from (decimal c.0) ≡ Ok c
unfolding call_from
call_again c fits = rw (number_again 4294967295 c.0 (omega (arith, fits)) (lit< tt)) refl

pub call_takes : (t : List ℕ) (c : CallId) → call_from t ≡ Ok c → (t ≡ decimal c.0) × (c.0 < 2 ^ 32)
unfolding call_from
call_takes t c e =
    let n = bind_ok (number_from 4294967295 t) (λ n. Ok (record { 0 = n })) c e in
    let p = number_in_takes 4294967295 t n.0 n.1 in
    let made : CallId = record { 0 = n.0 } in
    subst (λ (c : CallId). (t ≡ decimal c.0) × (c.0 < 2 ^ 32)) (ok_is made c n.2) (p.0, omega (arith, p.1))

pub window_again : (n : ℕ) → 64 ≤ n → n ≤ 1024 → window_from (decimal n) ≡ Ok n
unfolding window_from
window_again n low high = rw (number_again 1024 n high (lit< tt), le-ltb n 64 low) refl

pub window_takes : (t : List ℕ) (n : ℕ) → window_from t ≡ Ok n → (t ≡ decimal n) × (64 ≤ n) × (n ≤ 1024)
unfolding window_from
window_takes t n e =
    let m = bind_ok (number_from 1024 t) (λ n. cond (ltb n 64) (Err Number) (Ok n)) n e in
    let p = number_in_takes 1024 t m.0 m.1 in
    let g = guard_false (ltb m.0 64) Number m.0 n m.2 in
    subst (λ (x : ℕ). (t ≡ decimal x) × (64 ≤ x) × (x ≤ 1024)) g.1 (p.0, ltb-false _ _ g.0, p.1)

-- ---- addresses

pub address_in_again : (a : Address) → IsAddress a → address_from (address_text a) ≡ Ok a
address_in_again a fits = rw (address_again a fits) refl

pub address_in_takes : (t : List ℕ) (a : Address) → address_from t ≡ Ok a → (t ≡ address_text a) × IsAddress a
address_in_takes t a e = address_takes t a (or_fault_ok Number (address_at t) a e)

-- ---- octets

not_hyphen : (b : ℕ) (octets : List ℕ) → bytes_eq (encode_lower (b ∷ octets)) (45 ∷ []) ≡ false
unfolding encode_with
not_hyphen b octets = and-false (eqb (slice_index lower_digits (b / 16)) 45)

not_empty : (b : ℕ) (octets : List ℕ) → eqb (length (encode_lower (b ∷ octets))) 0 ≡ false
unfolding encode_with
not_empty b octets = ne_eqb _ _ (λ e. omega arith)

some_hex : (t octets : List ℕ) → (length t ≡ 0 → ⊥) → t ≡ encode_lower octets → t ≡ hex_text octets
unfolding encode_with
some_hex t [] some e = absurd (some (ap length e))
some_hex t (b ∷ octets) some e = e

pub hex_again : (octets : List ℕ) → IsBytes octets → hex_from (hex_text octets) ≡ Ok octets
unfolding hex_from
hex_again [] fits = refl
hex_again (b ∷ octets) fits =
    let longer : bytes_eq (encode_lower (b ∷ octets)) (45 ∷ []) ≡ false = not_hyphen b octets in
    let some : eqb (length (encode_lower (b ∷ octets))) 0 ≡ false = not_empty b octets in
    rw (longer, some, octets_again (b ∷ octets) fits) refl

pub hex_takes : (t octets : List ℕ) → hex_from t ≡ Ok octets → (t ≡ hex_text octets) × IsBytes octets
unfolding hex_from
hex_takes t octets e =
    elim (chosen (bytes_eq t (45 ∷ [])) _ _ (Ok octets) e) [
      | inl p ↦ let f : [] ≡ octets = ok_is [] octets p.1 in rw (← f) ((bytes_eq-Decides t (45 ∷ [])).0 p.0, λ i. omega arith)
      | inr p ↦
          elim (chosen (eqb (length t) 0) _ _ (Ok octets) p.1) [
            | inl q ↦ absurd (err_ok Hex octets q.1)
            | inr q ↦
                let r = octets_take t octets (or_fault_ok Hex (octets_at t) octets q.1) in
                (some_hex t octets (eqb-false _ _ q.0) r.0, r.1)
          ]
    ]

pub octets_in_again : (least most : ℕ) (octets : List ℕ) → FitsOctets least most octets → octets_from least most (hex_text octets) ≡ Ok octets
unfolding octets_from
octets_in_again least most octets fits = rw (hex_again octets fits.bytes, le-leb least (length octets) fits.low, le-leb (length octets) most fits.high) refl

pub octets_in_takes : (least most : ℕ) (t octets : List ℕ) → octets_from least most t ≡ Ok octets → (t ≡ hex_text octets) × FitsOctets least most octets
unfolding octets_from
octets_in_takes least most t octets e =
    let p = bind_ok (hex_from t) _ octets e in
    let g = guard_true (leb least (length p.0) && leb (length p.0) most) Length p.0 octets p.2 in
    let b = and_parts (leb least (length p.0)) (leb (length p.0) most) g.0 in
    let s = hex_takes t p.0 p.1 in
    let low : least ≤ length p.0 = leb-true _ _ b.0 in
    let high : length p.0 ≤ most = leb-true _ _ b.1 in
    subst (λ (x : List ℕ). (t ≡ hex_text x) × FitsOctets least most x) g.1 (s.0, record { bytes = s.1; low = low; high = high })

-- ---- rollovers

pub four_bytes : (n : ℕ) → n < 2 ^ 32 → IsBytes (to_be_bytes w32 n)
four_bytes n fits zero = omega arith
four_bytes n fits (suc zero) = omega arith
four_bytes n fits (suc (suc zero)) = omega arith
four_bytes n fits (suc (suc (suc zero))) = omega arith
four_bytes n fits (suc (suc (suc (suc i)))) = omega arith

pub rollover_again : (n : ℕ) → n < 2 ^ 32 → rollover_from (rollover_text n) ≡ Ok n
unfolding rollover_from
rollover_again n fits = rw (octets_again (to_be_bytes w32 n) (four_bytes n fits), from_be_bytes-to_be_bytes_4 n fits) refl

pub rollover_takes : (t : List ℕ) (n : ℕ) → rollover_from t ≡ Ok n → (t ≡ rollover_text n) × (n < 2 ^ 32)
unfolding rollover_from
rollover_takes t n e =
    let b = bind_ok (or_fault Hex (octets_at t)) _ n e in
    let p = octets_take t b.0 (or_fault_ok Hex (octets_at t) b.0 b.1) in
    let g = guard_true (eqb (length b.0) 4) Hex (from_be_bytes w32 b.0) n b.2 in
    let four : length b.0 ≡ 4 = eqb-true _ _ g.0 in
    let back : to_be_bytes w32 (from_be_bytes w32 b.0) ≡ b.0 = be_bytes_4 b.0 _ four p.1 refl in
    subst (λ (x : ℕ). (t ≡ rollover_text x) × (x < 2 ^ 32)) g.1 (p.0 ∙ ap encode_lower (sym back), omega (arith, p.1 0, p.1 1, p.1 2, p.1 3))

-- ---- noise

some_noise : (noise : Noise304) → IsBytes noise.0 → length noise.0 ≡ 304 → bytes_eq (hex_text noise.0) (45 ∷ []) ≡ false
some_noise noise fits size = long noise.0 size
  where
    long : (octets : List ℕ) → length octets ≡ 304 → bytes_eq (hex_text octets) (45 ∷ []) ≡ false
    long [] size = absurd (omega (arith, size))
    long (b ∷ octets) size = not_hyphen b octets

pub noise_again : (noise : Option Noise304) → FitsNoise noise → noise_from (noise_text noise) ≡ Ok noise
unfolding noise_from
noise_again None fits = refl
noise_again (Some noise) fits =
    rw (some_noise noise fits.0 fits.1, octets_in_again 304 304 noise.0 (record { bytes = fits.0; low = omega (arith, fits.1); high = omega (arith, fits.1) })) refl

pub noise_takes : (t : List ℕ) (noise : Option Noise304) → noise_from t ≡ Ok noise → (t ≡ noise_text noise) × FitsNoise noise
unfolding noise_from
noise_takes t noise e =
    elim (chosen (bytes_eq t (45 ∷ [])) _ _ (Ok noise) e) [
      | inl p ↦
          let none : None ≡ noise = ok_is None noise p.1 in
          subst (λ (o : Option Noise304). (t ≡ noise_text o) × FitsNoise o) none ((bytes_eq-Decides t (45 ∷ [])).0 p.0, tt)
      | inr p ↦
          let o = bind_ok (octets_from 304 304 t) (λ octets. Ok (Some (record { 0 = octets }))) noise p.1 in
          let s = octets_in_takes 304 304 t o.0 o.1 in
          let made : Option Noise304 = Some (record { 0 = o.0 }) in
          let high = s.1.high in
          subst (λ (o : Option Noise304). (t ≡ noise_text o) × FitsNoise o) (ok_is made noise o.2) (s.0, (s.1.bytes, omega (arith, s.1.low, high)))
    ]

-- ---- keys

colon : (a b : List ℕ) → a ++ 58 ∷ [] ++ b ≡ a ++ 58 ∷ b
colon a b = append_assoc a (58 ∷ []) b

two_parts : (t p q a b : List ℕ) → t ≡ p ++ 58 ∷ q → p ≡ a → q ≡ b → t ≡ a ++ 58 ∷ [] ++ b
two_parts t p q a b e f g = rw (colon a b, e, f, g) refl

sizes : (k : Master) → FitsKey k → length (k.key ++ k.salt) ≡ key_len_of k.suite + salt_len_of k.suite
sizes k fits = let a = fits.key in let b = fits.salt in let c = length-append k.key k.salt in omega (arith, a, b, c)

drop_at : (a b : List ℕ) (n : ℕ) → length a ≡ n → drop n (a ++ b) ≡ b
drop_at a b n e = rw (← e) (dropped a b)
  where
    dropped : (a b : List ℕ) → drop (length a) (a ++ b) ≡ b
    dropped [] b = refl
    dropped (x ∷ a) b = dropped a b

same_key : (k : Master) → FitsKey k → master_of k.suite (k.key ++ k.salt) ≡ k
same_key k fits =
    let prefix : take (key_len_of k.suite) (k.key ++ k.salt) ≡ k.key = take_at k.key k.salt (key_len_of k.suite) fits.key in
    let back : drop (key_len_of k.suite) (k.key ++ k.salt) ≡ k.salt = drop_at k.key k.salt (key_len_of k.suite) fits.key in
    (λ i. record { suite = k.suite; key = prefix i; salt = back i })

pub key_again : (k : Master) → FitsKey k → key_from (key_text k) ≡ Ok k
unfolding key_from
key_again k fits =
    let n = key_len_of k.suite + salt_len_of k.suite in
    let size = sizes k fits in
    let octets : octets_from n n (hex_text (k.key ++ k.salt)) ≡ Ok (k.key ++ k.salt) = octets_in_again n n (k.key ++ k.salt) (record { bytes = fits.octets; low = omega (arith, size); high = omega (arith, size) }) in
    rw (colon (suite_name k.suite) (hex_text (k.key ++ k.salt)), cut_again 58 (suite_name k.suite) (hex_text (k.key ++ k.salt)) (suite_lacks_colon k.suite), suite_again k.suite, octets)
    (ap Ok (same_key k fits))

pub key_takes : (t : List ℕ) (k : Master) → key_from t ≡ Ok k → (t ≡ key_text k) × FitsKey k
unfolding key_from
key_takes t k e =
    let p = bind_ok (or_fault Word (cut_at 58 t)) _ k e in
    let s = bind_ok (or_fault Word (suite_at p.0.0)) _ k p.2 in
    let n = key_len_of s.0 + salt_len_of s.0 in
    let o = bind_ok (octets_from n n p.0.1) _ k s.2 in
    let whole = cut_takes 58 t p.0.0 p.0.1 (or_fault_ok Word (cut_at 58 t) p.0 p.1) in
    let name = suite_takes p.0.0 s.0 (or_fault_ok Word (suite_at p.0.0) s.0 s.1) in
    let h = octets_in_takes n n p.0.1 o.0 o.1 in
    let made : Master = master_of s.0 o.0 in
    let both : made.key ++ made.salt ≡ o.0 = take-append-drop (key_len_of s.0) o.0 in
    let spelled : t ≡ key_text made = two_parts t p.0.0 p.0.1 (suite_name s.0) (hex_text (made.key ++ made.salt)) whole name (h.0 ∙ ap hex_text (sym both)) in
    let low = h.1.low in
    let high = h.1.high in
    let prefix : length made.key ≡ key_len_of s.0 = length-take (key_len_of s.0) o.0 ∙ omega (arith, low, high) in
    let back : length made.salt ≡ salt_len_of s.0 = length-drop (key_len_of s.0) o.0 ∙ omega (arith, low, high) in
    subst (λ (x : Master). (t ≡ key_text x) × FitsKey x) (ok_is made k o.2) (spelled, record { octets = subst IsBytes (sym both) h.1.bytes; key = prefix; salt = back })

-- ---- names of peers

pub identity_again : (t : List ℕ) → is_identity t ≡ true → identity_from t ≡ Ok t
unfolding identity_from
identity_again t e = let p = and_parts _ (list_all is_printing t) e in rw (p.1, p.0) refl

pub identity_takes : (t x : List ℕ) → identity_from t ≡ Ok x → (t ≡ x) × (is_identity x ≡ true)
unfolding identity_from
identity_takes t x e =
    elim (chosen (list_all is_printing t) _ _ (Ok x) e) [
      | inl p ↦
          let g = guard_true (leb 1 (length t) && leb (length t) 128) Length t x p.1 in
          subst (λ (y : List ℕ). (t ≡ y) × (is_identity y ≡ true)) g.1 (refl, rw (g.0, p.0) refl)
      | inr p ↦ absurd (err_ok Word x p.1)
    ]
