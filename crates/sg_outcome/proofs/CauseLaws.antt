-- Causes in outcome lines have one spelling each.
use Rattle.std.proofs.Common.{◌≡◌, ℕ, zero, suc, ◌-◌, ◌^◌, ◌<◌, ◌≤◌, true, false, eqb, List, [], ◌∷◌, length, Some, Ok, refl, sym, ap, subst, ◌∙◌, arith, inl, inr, lit<}
use Rattle.std.specs.Prelude.{ℤ, pos, negsuc, codes}
use Rattle.std.specs.Fmt.{decimal, signed_decimal}
use Rattle.std.specs.Str.{bytes_eq}
use Rattle.std.proofs.lemmas.Bool.{ne_eqb, eqb-true}
use Rattle.std.proofs.lemmas.Fmt.{decimal_is_IsNumeral_wide}
use Rattle.sg_base.specs.declared.ScriptFault.TheVariants as script
use Rattle.sg_base.specs.declared.DropCause.{DropCause}
use Rattle.sg_base.specs.declared.DropCause.TheVariants as drops
use Rattle.sg_base.specs.declared.PskFault.{PskFault}
use Rattle.sg_base.specs.declared.PskFault.TheVariants as psk
use Rattle.sg_base.specs.declared.Refusal.{Refusal}
use Rattle.sg_base.specs.declared.Refusal.TheVariants as refusals
use Rattle.sg_base.specs.Fields.{Lacks, number_at}
use Rattle.sg_base.proofs.Decimals.{number_again, number_takes}
use Rattle.sg_base.proofs.FourNumbers.{decimal_lacks}
use Rattle.sg_base.proofs.Cases.{and_then_some, chosen, is_name, map_some, some_is}
use Rattle.sg_lines.specs.Fields.{or_fault}
use Rattle.sg_outcome.specs.OutcomeText.{drop_cause_name}
use Rattle.sg_outcome.specs.OutcomeFields.{drop_cause_fields, psk_fault_name, psk_fault_fields, refusal_name, refusal_fields, FitsStamp, FitsDropCause, FitsPskFault, FitsRefusal}
use Rattle.sg_outcome.specs.OutcomeOf.{below, signed_at, word_from, long_from, byte_from, plain_drop_cause_at, sdp_fault_at, sdes_fault_at, mikey_fault_at, plain_psk_fault_at, cs_fault_at, plain_refusal_at, key_spent_from, drop_cause_from, skew_from, key_mgmt_from, key_reused_from, tick_back_from, one_number_from, sdp_from, sdes_from, psk_from, cs_from, one_fault_from, mikey_from, two_numbers_from, psk_skew_from, fault_with_numbers_from, refusal_from}
use Rattle.sg_lines.proofs.Dense.{IsDense, AreDense, dense_test, dense_decimal}
use Rattle.sg_lines.proofs.FieldLaws
use Rattle.sg_outcome.proofs.NameLaws

-- ---- numbers

below_again : (n : ℕ) → below (suc n) ≡ Some (negsuc n)
below_again n =
    let other : eqb (suc n) 0 ≡ false = ne_eqb (suc n) 0 (λ e. omega (arith, e)) in
    let less : suc n - 1 ≡ n = omega arith in
    rw (other, less) refl

below_takes : (n : ℕ) (z : ℤ) → below n ≡ Some z → (m : ℕ) × (n ≡ suc m) × (negsuc m ≡ z)
below_takes zero z e = absurd cc
below_takes (suc m) z e = (m, refl, some_is (negsuc m) z (sym (below_again m) ∙ e))

positive : (n : ℕ) (t : List ℕ) → t ≡ decimal n → n < 2 ^ 63 → signed_at t ≡ Some (pos n)
unfolding signed_at
positive n [] e fits =
    let some : 0 < length (decimal n) = (decimal_is_IsNumeral_wide n (omega (arith, fits))).0.0 in
    let none : length (decimal n) ≡ 0 = sym (ap length e) in
    absurd (omega (arith, some, none))
positive n (x ∷ xs) e fits =
    let lacks : Lacks 45 (x ∷ xs) = subst (Lacks 45) (sym e) (decimal_lacks 45 n (omega (arith, fits)) (inl (omega arith))) in
    let read : number_at 9223372036854775807 (x ∷ xs) ≡ Some n = ap (number_at 9223372036854775807) e ∙ number_again 9223372036854775807 n (omega (arith, fits)) (lit< tt) in
    rw (lacks.0, read) refl

pub signed_again : (z : ℤ) → FitsStamp z → signed_at (signed_decimal z) ≡ Some z
unfolding signed_at
signed_again (pos n) fits = positive n (decimal n) refl fits
signed_again (negsuc n) fits = rw (number_again 9223372036854775808 (suc n) (omega (arith, fits)) (lit< tt)) (below_again n)

pub signed_takes : (t : List ℕ) (z : ℤ) → signed_at t ≡ Some z → (t ≡ signed_decimal z) × FitsStamp z
unfolding signed_at
signed_takes [] z e = absurd cc
signed_takes (x ∷ rest) z e =
    elim (chosen (eqb x 45) _ _ (Some z) e) [
      | inl p ↦
          let n = and_then_some (number_at 9223372036854775808 rest) below z p.1 in
          let b = below_takes n.0 z n.2 in
          let s = number_takes 9223372036854775808 rest n.0 n.1 in
          let minus : x ≡ 45 = eqb-true _ _ p.0 in
          let small = s.1 in
          let size = b.1 in
          let digits : rest ≡ decimal (suc b.0) = s.0 ∙ ap decimal b.1 in
          subst (λ (w : ℤ). (x ∷ rest ≡ signed_decimal w) × FitsStamp w) b.2 ((λ i. minus i ∷ digits i), omega (arith, small, size))
      | inr p ↦
          let n = map_some (number_at 9223372036854775807 (x ∷ rest)) pos z p.1 in
          let s = number_takes 9223372036854775807 (x ∷ rest) n.0 n.1 in
          let small = s.1 in
          subst (λ (w : ℤ). (x ∷ rest ≡ signed_decimal w) × FitsStamp w) n.2 (s.0, omega (arith, small))
    ]

word_again : (n : ℕ) → n < 2 ^ 32 → word_from (decimal n) ≡ Ok n
word_again n fits = FieldLaws.number_in_again 4294967295 n (omega (arith, fits)) (lit< tt)

word_takes : (t : List ℕ) (n : ℕ) → word_from t ≡ Ok n → (t ≡ decimal n) × (n < 2 ^ 32)
word_takes t n e = let p = FieldLaws.number_in_takes 4294967295 t n e in let small = p.1 in (p.0, omega (arith, small))

long_again : (n : ℕ) → n < 2 ^ 64 → long_from (decimal n) ≡ Ok n
long_again n fits = FieldLaws.number_in_again 18446744073709551615 n (omega (arith, fits)) (lit< tt)

long_takes : (t : List ℕ) (n : ℕ) → long_from t ≡ Ok n → (t ≡ decimal n) × (n < 2 ^ 64)
long_takes t n e = let p = FieldLaws.number_in_takes 18446744073709551615 t n e in let small = p.1 in (p.0, omega (arith, small))

pub byte_again : (n : ℕ) → n ≤ 255 → byte_from (decimal n) ≡ Ok n
byte_again n fits = FieldLaws.number_in_again 255 n fits (lit< tt)

pub byte_takes : (t : List ℕ) (n : ℕ) → byte_from t ≡ Ok n → (t ≡ decimal n) × (n ≤ 255)
byte_takes t n e = FieldLaws.number_in_takes 255 t n e

-- ---- fields

one_same : (a a' : List ℕ) → a ≡ a' → a ∷ [] ≡ a' ∷ []
one_same a a' p = rw p refl

pub two_same : (a b a' b' : List ℕ) → a ≡ a' → b ≡ b' → a ∷ b ∷ [] ≡ a' ∷ b' ∷ []
two_same a b a' b' p q = rw (p, q) refl

pub three_same : (a b c a' b' c' : List ℕ) → a ≡ a' → b ≡ b' → c ≡ c' → a ∷ b ∷ c ∷ [] ≡ a' ∷ b' ∷ c' ∷ []
three_same a b c a' b' c' p q r = rw (p, q, r) refl

pub four_same : (a b c d a' b' c' d' : List ℕ) → a ≡ a' → b ≡ b' → c ≡ c' → d ≡ d' → a ∷ b ∷ c ∷ d ∷ [] ≡ a' ∷ b' ∷ c' ∷ d' ∷ []
four_same a b c d a' b' c' d' p q r s = rw (p, q, r, s) refl

pub five_same : (a b c d e a' b' c' d' e' : List ℕ) → a ≡ a' → b ≡ b' → c ≡ c' → d ≡ d' → e ≡ e' → a ∷ b ∷ c ∷ d ∷ e ∷ [] ≡ a' ∷ b' ∷ c' ∷ d' ∷ e' ∷ []
five_same a b c d e a' b' c' d' e' p q r s t = rw (p, q, r, s, t) refl

-- ---- causes of drops

plain_drop_cause_fields : (x : DropCause) → NameLaws.is_plain_drop_cause x ≡ true → (drop_cause_fields x ≡ drop_cause_name x ∷ []) × FitsDropCause x
plain_drop_cause_fields (drops.KeySpent number count) e = absurd cc
plain_drop_cause_fields other e = (refl, tt)

pub drop_cause_again : (x : DropCause) → FitsDropCause x → drop_cause_from (drop_cause_fields x) ≡ Ok x
unfolding key_spent_from
drop_cause_again (drops.KeySpent number count) fits = rw (word_again number fits.0, long_again count fits.1) refl
drop_cause_again other fits = rw (NameLaws.plain_drop_cause_again other refl) refl

pub drop_cause_takes : (fs : List (List ℕ)) (x : DropCause) → drop_cause_from fs ≡ Ok x → (fs ≡ drop_cause_fields x) × FitsDropCause x
unfolding key_spent_from
drop_cause_takes (name ∷ []) x e =
    let p = NameLaws.plain_drop_cause_takes name x (FieldLaws.or_fault_ok script.Word (plain_drop_cause_at name) x e) in
    let f = plain_drop_cause_fields x p.1 in
    (one_same name (drop_cause_name x) p.0 ∙ sym f.0, f.1)
drop_cause_takes (name ∷ a ∷ b ∷ []) x e =
    elim (chosen (bytes_eq name (codes "KeySpent")) _ _ (Ok x) e) [
      | inl p ↦
          let n = FieldLaws.bind_ok (word_from a) _ x p.1 in
          let c = FieldLaws.bind_ok (long_from b) _ x n.2 in
          let na = word_takes a n.0 n.1 in
          let cb = long_takes b c.0 c.1 in
          subst (λ (y : DropCause). (name ∷ a ∷ b ∷ [] ≡ drop_cause_fields y) × FitsDropCause y) (FieldLaws.ok_is (drops.KeySpent n.0 c.0) x c.2)
          (three_same name a b _ _ _ (is_name name _ p.0) na.0 cb.0, (na.1, cb.1))
      | inr p ↦ absurd (FieldLaws.err_ok script.Word x p.1)
    ]
drop_cause_takes fs x e = absurd (FieldLaws.err_ok script.Word x e)

pub dense_drop_cause : (x : DropCause) → FitsDropCause x → AreDense (drop_cause_fields x)
dense_drop_cause (drops.KeySpent number count) fits =
    let a = fits.0 in let b = fits.1 in
    (dense_test (codes "KeySpent") refl, (dense_decimal number (omega (arith, a)), (dense_decimal count (omega (arith, b)), tt)))
dense_drop_cause other fits = (NameLaws.dense_drop_cause other, tt)

-- ---- faults of the pre-shared-key exchange

plain_psk_fault_fields : (x : PskFault) → NameLaws.is_plain_psk_fault x ≡ true → (psk_fault_fields x ≡ psk_fault_name x ∷ []) × FitsPskFault x
plain_psk_fault_fields (psk.Skew stamp now) e = absurd cc
plain_psk_fault_fields other e = (refl, tt)

skew_again : (stamp : ℤ) (now : ℕ) → FitsPskFault (psk.Skew stamp now) → skew_from (codes "Skew") (signed_decimal stamp) (decimal now) ≡ Ok (psk.Skew stamp now)
unfolding skew_from
skew_again stamp now fits = rw (signed_again stamp fits.0, long_again now fits.1) refl

skew_takes : (name a b : List ℕ) (x : PskFault) → skew_from name a b ≡ Ok x → (name ∷ a ∷ b ∷ [] ≡ psk_fault_fields x) × FitsPskFault x
unfolding skew_from
skew_takes name a b x e =
    elim (chosen (bytes_eq name (codes "Skew")) _ _ (Ok x) e) [
      | inl p ↦
          let s = FieldLaws.bind_ok (or_fault script.Number (signed_at a)) _ x p.1 in
          let n = FieldLaws.bind_ok (long_from b) _ x s.2 in
          let sa = signed_takes a s.0 (FieldLaws.or_fault_ok script.Number (signed_at a) s.0 s.1) in
          let nb = long_takes b n.0 n.1 in
          subst (λ (y : PskFault). (name ∷ a ∷ b ∷ [] ≡ psk_fault_fields y) × FitsPskFault y) (FieldLaws.ok_is (psk.Skew s.0 n.0) x n.2)
          (three_same name a b _ _ _ (is_name name _ p.0) sa.0 nb.0, (sa.1, nb.1))
      | inr p ↦ absurd (FieldLaws.err_ok script.Word x p.1)
    ]

dense_signed : (z : ℤ) → FitsStamp z → IsDense (signed_decimal z)
dense_signed (pos n) fits = dense_decimal n (omega (arith, fits))
dense_signed (negsuc n) fits = (omega arith, dense_decimal (suc n) (omega (arith, fits)))

dense_psk_fault : (x : PskFault) → FitsPskFault x → AreDense (psk_fault_fields x)
dense_psk_fault (psk.Skew stamp now) fits =
    let b = fits.1 in (dense_test (codes "Skew") refl, (dense_signed stamp fits.0, (dense_decimal now (omega (arith, b)), tt)))
dense_psk_fault other fits = (NameLaws.dense_psk_fault other, tt)

-- ---- refusals

plain_refusal_fields : (x : Refusal) → NameLaws.is_plain_refusal x ≡ true → (refusal_fields x ≡ refusal_name x ∷ []) × FitsRefusal x
plain_refusal_fields (refusals.Sdp line fault) e = absurd cc
plain_refusal_fields (refusals.Sdes medium fault) e = absurd cc
plain_refusal_fields (refusals.Mikey medium offset fault) e = absurd cc
plain_refusal_fields (refusals.Psk medium fault) e = absurd cc
plain_refusal_fields (refusals.Cs medium fault) e = absurd cc
plain_refusal_fields (refusals.KeyMgmt medium) e = absurd cc
plain_refusal_fields (refusals.KeyReused number) e = absurd cc
plain_refusal_fields (refusals.TickBack last) e = absurd cc
plain_refusal_fields other e = (refl, tt)

pub refusal_again : (x : Refusal) → FitsRefusal x → refusal_from (refusal_fields x) ≡ Ok x
unfolding one_number_from key_mgmt_from key_reused_from tick_back_from one_fault_from sdp_from sdes_from psk_from cs_from two_numbers_from mikey_from fault_with_numbers_from psk_skew_from
refusal_again (refusals.Sdp line fault) fits = rw (word_again line fits, NameLaws.sdp_fault_again fault) refl
refusal_again (refusals.Sdes medium fault) fits = rw (byte_again medium fits, NameLaws.sdes_fault_again fault) refl
refusal_again (refusals.Mikey medium offset fault) fits = rw (byte_again medium fits.0, word_again offset fits.1, NameLaws.mikey_fault_again fault) refl
refusal_again (refusals.Psk medium (psk.Skew stamp now)) fits = rw (byte_again medium fits.0, skew_again stamp now fits.1) refl
refusal_again (refusals.Psk medium fault) fits = rw (byte_again medium fits.0, NameLaws.plain_psk_fault_again fault refl) refl
refusal_again (refusals.Cs medium fault) fits = rw (byte_again medium fits, NameLaws.cs_fault_again fault) refl
refusal_again (refusals.KeyMgmt medium) fits = rw (byte_again medium fits) refl
refusal_again (refusals.KeyReused number) fits = rw (word_again number fits) refl
refusal_again (refusals.TickBack last) fits = rw (long_again last fits) refl
refusal_again other fits = rw (NameLaws.plain_refusal_again other refl) refl

unfoldable Reads : List (List ℕ) → Refusal → Type 0
Reads fs x = (fs ≡ refusal_fields x) × FitsRefusal x

key_mgmt_takes : (name a : List ℕ) (x : Refusal) → name ≡ codes "KeyMgmt" → key_mgmt_from a ≡ Ok x → Reads (name ∷ a ∷ []) x
unfolding key_mgmt_from Reads
key_mgmt_takes name a x word e =
    let n = FieldLaws.bind_ok (byte_from a) _ x e in
    let p = byte_takes a n.0 n.1 in
    subst (Reads (name ∷ a ∷ [])) (FieldLaws.ok_is (refusals.KeyMgmt n.0) x n.2) (two_same name a _ _ word p.0, p.1)

key_reused_takes : (name a : List ℕ) (x : Refusal) → name ≡ codes "KeyReused" → key_reused_from a ≡ Ok x → Reads (name ∷ a ∷ []) x
unfolding key_reused_from Reads
key_reused_takes name a x word e =
    let n = FieldLaws.bind_ok (word_from a) _ x e in
    let p = word_takes a n.0 n.1 in
    subst (Reads (name ∷ a ∷ [])) (FieldLaws.ok_is (refusals.KeyReused n.0) x n.2) (two_same name a _ _ word p.0, p.1)

tick_back_takes : (name a : List ℕ) (x : Refusal) → name ≡ codes "TickBack" → tick_back_from a ≡ Ok x → Reads (name ∷ a ∷ []) x
unfolding tick_back_from Reads
tick_back_takes name a x word e =
    let n = FieldLaws.bind_ok (long_from a) _ x e in
    let p = long_takes a n.0 n.1 in
    subst (Reads (name ∷ a ∷ [])) (FieldLaws.ok_is (refusals.TickBack n.0) x n.2) (two_same name a _ _ word p.0, p.1)

sdp_takes : (name a b : List ℕ) (x : Refusal) → name ≡ codes "Sdp" → sdp_from a b ≡ Ok x → Reads (name ∷ a ∷ b ∷ []) x
unfolding sdp_from Reads
sdp_takes name a b x word e =
    let n = FieldLaws.bind_ok (word_from a) _ x e in
    let f = FieldLaws.bind_ok (or_fault script.Word (sdp_fault_at b)) _ x n.2 in
    let p = word_takes a n.0 n.1 in
    let q = NameLaws.sdp_fault_takes b f.0 (FieldLaws.or_fault_ok script.Word (sdp_fault_at b) f.0 f.1) in
    subst (Reads (name ∷ a ∷ b ∷ [])) (FieldLaws.ok_is (refusals.Sdp n.0 f.0) x f.2) (three_same name a b _ _ _ word p.0 q, p.1)

sdes_takes : (name a b : List ℕ) (x : Refusal) → name ≡ codes "Sdes" → sdes_from a b ≡ Ok x → Reads (name ∷ a ∷ b ∷ []) x
unfolding sdes_from Reads
sdes_takes name a b x word e =
    let n = FieldLaws.bind_ok (byte_from a) _ x e in
    let f = FieldLaws.bind_ok (or_fault script.Word (sdes_fault_at b)) _ x n.2 in
    let p = byte_takes a n.0 n.1 in
    let q = NameLaws.sdes_fault_takes b f.0 (FieldLaws.or_fault_ok script.Word (sdes_fault_at b) f.0 f.1) in
    subst (Reads (name ∷ a ∷ b ∷ [])) (FieldLaws.ok_is (refusals.Sdes n.0 f.0) x f.2) (three_same name a b _ _ _ word p.0 q, p.1)

cs_takes : (name a b : List ℕ) (x : Refusal) → name ≡ codes "Cs" → cs_from a b ≡ Ok x → Reads (name ∷ a ∷ b ∷ []) x
unfolding cs_from Reads
cs_takes name a b x word e =
    let n = FieldLaws.bind_ok (byte_from a) _ x e in
    let f = FieldLaws.bind_ok (or_fault script.Word (cs_fault_at b)) _ x n.2 in
    let p = byte_takes a n.0 n.1 in
    let q = NameLaws.cs_fault_takes b f.0 (FieldLaws.or_fault_ok script.Word (cs_fault_at b) f.0 f.1) in
    subst (Reads (name ∷ a ∷ b ∷ [])) (FieldLaws.ok_is (refusals.Cs n.0 f.0) x f.2) (three_same name a b _ _ _ word p.0 q, p.1)

psk_joined : (name a : List ℕ) (m : ℕ) (fault : PskFault) (fs : List (List ℕ)) → name ≡ codes "Psk" → a ≡ decimal m → fs ≡ psk_fault_fields fault → name ∷ a ∷ fs ≡ refusal_fields (refusals.Psk m fault)
psk_joined name a m fault fs p q r = rw (p, q, r) refl

psk_takes : (name a b : List ℕ) (x : Refusal) → name ≡ codes "Psk" → psk_from a b ≡ Ok x → Reads (name ∷ a ∷ b ∷ []) x
unfolding psk_from Reads
psk_takes name a b x word e =
    let n = FieldLaws.bind_ok (byte_from a) _ x e in
    let f = FieldLaws.bind_ok (or_fault script.Word (plain_psk_fault_at b)) _ x n.2 in
    let p = byte_takes a n.0 n.1 in
    let q = NameLaws.plain_psk_fault_takes b f.0 (FieldLaws.or_fault_ok script.Word (plain_psk_fault_at b) f.0 f.1) in
    let g = plain_psk_fault_fields f.0 q.1 in
    subst (Reads (name ∷ a ∷ b ∷ [])) (FieldLaws.ok_is (refusals.Psk n.0 f.0) x f.2)
    (psk_joined name a n.0 f.0 (b ∷ []) word p.0 (one_same b (psk_fault_name f.0) q.0 ∙ sym g.0), (p.1, g.1))

psk_skew_takes : (name a b c d : List ℕ) (x : Refusal) → name ≡ codes "Psk" → psk_skew_from a b c d ≡ Ok x → Reads (name ∷ a ∷ b ∷ c ∷ d ∷ []) x
unfolding psk_skew_from Reads
psk_skew_takes name a b c d x word e =
    let n = FieldLaws.bind_ok (byte_from a) _ x e in
    let f = FieldLaws.bind_ok (skew_from b c d) _ x n.2 in
    let p = byte_takes a n.0 n.1 in
    let q = skew_takes b c d f.0 f.1 in
    subst (Reads (name ∷ a ∷ b ∷ c ∷ d ∷ [])) (FieldLaws.ok_is (refusals.Psk n.0 f.0) x f.2)
    (psk_joined name a n.0 f.0 (b ∷ c ∷ d ∷ []) word p.0 q.0, (p.1, q.1))

mikey_takes : (name a b c : List ℕ) (x : Refusal) → name ≡ codes "Mikey" → mikey_from a b c ≡ Ok x → Reads (name ∷ a ∷ b ∷ c ∷ []) x
unfolding mikey_from Reads
mikey_takes name a b c x word e =
    let n = FieldLaws.bind_ok (byte_from a) _ x e in
    let k = FieldLaws.bind_ok (word_from b) _ x n.2 in
    let f = FieldLaws.bind_ok (or_fault script.Word (mikey_fault_at c)) _ x k.2 in
    let p = byte_takes a n.0 n.1 in
    let q = word_takes b k.0 k.1 in
    let r = NameLaws.mikey_fault_takes c f.0 (FieldLaws.or_fault_ok script.Word (mikey_fault_at c) f.0 f.1) in
    subst (Reads (name ∷ a ∷ b ∷ c ∷ [])) (FieldLaws.ok_is (refusals.Mikey n.0 k.0 f.0) x f.2) (four_same name a b c _ _ _ _ word p.0 q.0 r, (p.1, q.1))

one_number_takes : (name a : List ℕ) (x : Refusal) → one_number_from name a ≡ Ok x → Reads (name ∷ a ∷ []) x
unfolding one_number_from
one_number_takes name a x e =
    elim (chosen (bytes_eq name (codes "KeyMgmt")) _ _ (Ok x) e) [
      | inl p ↦ key_mgmt_takes name a x (is_name name _ p.0) p.1
      | inr p ↦
          elim (chosen (bytes_eq name (codes "KeyReused")) _ _ (Ok x) p.1) [
            | inl q ↦ key_reused_takes name a x (is_name name _ q.0) q.1
            | inr q ↦
                elim (chosen (bytes_eq name (codes "TickBack")) _ _ (Ok x) q.1) [
                  | inl r ↦ tick_back_takes name a x (is_name name _ r.0) r.1
                  | inr r ↦ absurd (FieldLaws.err_ok script.Word x r.1)
                ]
          ]
    ]

one_fault_takes : (name a b : List ℕ) (x : Refusal) → one_fault_from name a b ≡ Ok x → Reads (name ∷ a ∷ b ∷ []) x
unfolding one_fault_from
one_fault_takes name a b x e =
    elim (chosen (bytes_eq name (codes "Sdp")) _ _ (Ok x) e) [
      | inl p ↦ sdp_takes name a b x (is_name name _ p.0) p.1
      | inr p ↦
          elim (chosen (bytes_eq name (codes "Sdes")) _ _ (Ok x) p.1) [
            | inl q ↦ sdes_takes name a b x (is_name name _ q.0) q.1
            | inr q ↦
                elim (chosen (bytes_eq name (codes "Psk")) _ _ (Ok x) q.1) [
                  | inl r ↦ psk_takes name a b x (is_name name _ r.0) r.1
                  | inr r ↦
                      elim (chosen (bytes_eq name (codes "Cs")) _ _ (Ok x) r.1) [
                        | inl s ↦ cs_takes name a b x (is_name name _ s.0) s.1
                        | inr s ↦ absurd (FieldLaws.err_ok script.Word x s.1)
                      ]
                ]
          ]
    ]

pub refusal_takes : (fs : List (List ℕ)) (x : Refusal) → refusal_from fs ≡ Ok x → (fs ≡ refusal_fields x) × FitsRefusal x
unfolding Reads two_numbers_from fault_with_numbers_from
refusal_takes (name ∷ []) x e =
    let p = NameLaws.plain_refusal_takes name x (FieldLaws.or_fault_ok script.Word (plain_refusal_at name) x e) in
    let f = plain_refusal_fields x p.1 in
    (one_same name (refusal_name x) p.0 ∙ sym f.0, f.1)
refusal_takes (name ∷ a ∷ []) x e = one_number_takes name a x e
refusal_takes (name ∷ a ∷ b ∷ []) x e = one_fault_takes name a b x e
refusal_takes (name ∷ a ∷ b ∷ c ∷ []) x e =
    elim (chosen (bytes_eq name (codes "Mikey")) _ _ (Ok x) e) [
      | inl p ↦ mikey_takes name a b c x (is_name name _ p.0) p.1
      | inr p ↦ absurd (FieldLaws.err_ok script.Word x p.1)
    ]
refusal_takes (name ∷ a ∷ b ∷ c ∷ d ∷ []) x e =
    elim (chosen (bytes_eq name (codes "Psk")) _ _ (Ok x) e) [
      | inl p ↦ psk_skew_takes name a b c d x (is_name name _ p.0) p.1
      | inr p ↦ absurd (FieldLaws.err_ok script.Word x p.1)
    ]
refusal_takes fs x e = absurd (FieldLaws.err_ok script.Word x e)

pub small_dense : (n : ℕ) → n < 2 ^ 64 → IsDense (decimal n)
small_dense n fits = dense_decimal n (omega (arith, fits))

pub dense_refusal : (x : Refusal) → FitsRefusal x → AreDense (refusal_fields x)
dense_refusal (refusals.Sdp line fault) fits = (dense_test (codes "Sdp") refl, (small_dense line (omega (arith, fits)), (NameLaws.dense_sdp_fault fault, tt)))
dense_refusal (refusals.Sdes medium fault) fits = (dense_test (codes "Sdes") refl, (small_dense medium (omega (arith, fits)), (NameLaws.dense_sdes_fault fault, tt)))
dense_refusal (refusals.Mikey medium offset fault) fits =
    let a = fits.0 in let b = fits.1 in
    (dense_test (codes "Mikey") refl, (small_dense medium (omega (arith, a)), (small_dense offset (omega (arith, b)), (NameLaws.dense_mikey_fault fault, tt))))
dense_refusal (refusals.Psk medium fault) fits =
    let a = fits.0 in (dense_test (codes "Psk") refl, (small_dense medium (omega (arith, a)), dense_psk_fault fault fits.1))
dense_refusal (refusals.Cs medium fault) fits = (dense_test (codes "Cs") refl, (small_dense medium (omega (arith, fits)), (NameLaws.dense_cs_fault fault, tt)))
dense_refusal (refusals.KeyMgmt medium) fits = (dense_test (codes "KeyMgmt") refl, (small_dense medium (omega (arith, fits)), tt))
dense_refusal (refusals.KeyReused number) fits = (dense_test (codes "KeyReused") refl, (small_dense number (omega (arith, fits)), tt))
dense_refusal (refusals.TickBack last) fits = (dense_test (codes "TickBack") refl, (small_dense last fits, tt))
dense_refusal other fits = (NameLaws.dense_refusal other, tt)
