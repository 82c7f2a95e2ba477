-- One key serves a packet.
use Rattle.std.proofs.Common.{◌≡◌, ◌≢◌, ◌<◌, ◌≤◌, ◌++◌, length-append, ℕ, zero, suc, true, nat_eq, List, [], ◌∷◌, length, get_or, slice_get, slice_set, Some, refl, arith, ap, sym, subst, ◌∙◌, inl, inr}
use Rattle.std.specs.List.{All}
use Rattle.std.proofs.lemmas.Bool.{cases_Bool, eq-eqb, ne_eqb}
use Rattle.std.proofs.lemmas.List.{length-map}
use Rattle.std.proofs.Math.Seq.{get_or-append_seam}
use Rattle.std.proofs.lemmas.List.Elements.{All-map, All-set}
use Rattle.sg_base.specs.declared.keys.HalfKeys.{HalfKeys}
use Rattle.sg_keys.specs.KeySet.{AreApart, IsKeySet}
use Rattle.sg_keys.specs.Live.{Live, is_cipher_len, mki_len, served, spent, spent_if}

abbrev pub IsDistinct : List Live → Type 0
IsDistinct keys = AreApart (λ k. k.number) keys

others : (n : ℕ) (keys : List Live) → ((i : ℕ) (a : Live) → slice_get keys i ≡ Some a → a.number ≢ n) → spent n keys ≡ keys
others n [] h = refl
others n (x ∷ xs) h = rw (ne_eqb x.number n (h 0 x refl), others n xs (λ i a e. h (suc i) a e)) refl

pub set_spent : (keys : List Live) (position : ℕ) (k : Live) → slice_get keys position ≡ Some k → IsDistinct keys → slice_set keys position (served k) ≡ spent k.number keys
set_spent [] position k e d = cc
set_spent (x ∷ xs) zero k e d =
    let same : x ≡ k = cc in
    let apart : (i : ℕ) (a : Live) → slice_get xs i ≡ Some a → a.number ≢ k.number = λ i a h n. (let z : zero ≡ suc i = d zero (suc i) k a e h (sym n) in omega arith) in
    rw (same, eq-eqb k.number k.number refl, others k.number xs apart) refl
set_spent (x ∷ xs) (suc position) k e d =
    let apart : x.number ≢ k.number = λ n. (let z : zero ≡ suc position = d zero (suc position) x k refl e n in omega arith) in
    let rest : IsDistinct xs = λ i j a b p q n. (let z : suc i ≡ suc j = d (suc i) (suc j) a b p q n in omega arith) in
    rw (ne_eqb x.number k.number apart, set_spent xs position k e rest) refl

got_spent : (n : ℕ) (keys : List Live) (i : ℕ) (a : Live) → slice_get (spent n keys) i ≡ Some a → (b : Live) × (slice_get keys i ≡ Some b) × (spent_if n b ≡ a)
got_spent n [] i a e = absurd cc
got_spent n (x ∷ xs) zero a e = (x, refl, cc)
got_spent n (x ∷ xs) (suc i) a e = got_spent n xs i a e

-- a packet more changes the count alone
pub same_half : (n : ℕ) (k : Live) → (spent_if n k).half ≡ k.half
same_half n k = elim (cases_Bool (nat_eq k.number n)) [
  | inl same ↦ rw same refl
  | inr other ↦ rw other refl
]

pub same_number : (n : ℕ) (k : Live) → (spent_if n k).number ≡ k.number
same_number n k = elim (cases_Bool (nat_eq k.number n)) [
  | inl same ↦ rw same refl
  | inr other ↦ rw other refl
]

pub same_mki : (n : ℕ) (k : Live) → (spent_if n k).mki ≡ k.mki
same_mki n k = elim (cases_Bool (nat_eq k.number n)) [
  | inl same ↦ rw same refl
  | inr other ↦ rw other refl
]

abbrev pub ciphers : Live → Type 0
ciphers k = is_cipher_len (length k.half.encrypt) ≡ true

pub next_cipher : (all before rest : List Live) (k : Live) → All ciphers all → before ++ k ∷ rest ≡ all → ciphers k
next_cipher all before rest k each e =
    subst ciphers (ap (λ xs. get_or xs (length before) k) (sym e) ∙ get_or-append_seam before k rest k)
    (each (length before) k (omega (arith, length-append before (k ∷ rest), ap length e)))

each_cipher : (n : ℕ) (keys : List Live) → All ciphers keys → All ciphers (spent n keys)
each_cipher n keys all = All-map ciphers (spent_if n) keys (λ i k lt. subst (λ (h : HalfKeys). is_cipher_len (length h.encrypt) ≡ true) (sym (same_half n (get_or keys i k))) (all i k lt))

each_length : (n m : ℕ) (keys : List Live) → All (λ k. length k.mki ≡ m) keys → All (λ k. length k.mki ≡ m) (spent n keys)
each_length n m keys all = All-map (λ k. length k.mki ≡ m) (spent_if n) keys (λ i k lt. ap length (same_mki n (get_or keys i k)) ∙ all i k lt)

same_len : (n : ℕ) (keys : List Live) → mki_len (spent n keys) ≡ mki_len keys
same_len n [] = refl
same_len n (x ∷ xs) = ap length (same_mki n x)

-- what one that stays the same tells apart
apart_spent : {X : Type 0} (of : Live → X) (n : ℕ) → ((k : Live) → of (spent_if n k) ≡ of k) → (keys : List Live) → AreApart of keys → AreApart of (spent n keys)
apart_spent of n same keys apart = λ i j a b p q e.
    let x = got_spent n keys i a p in
    let y = got_spent n keys j b q in
    apart i j x.0 y.0 x.1 y.1 (sym (same x.0) ∙ ap of x.2 ∙ e ∙ ap of (sym (y.2)) ∙ same y.0)

-- a set stays a set where the key that serves is alive
pub spent_set : (keys : List Live) (position : ℕ) (k : Live) → slice_get keys position ≡ Some k → k.count < k.life → IsKeySet keys → IsKeySet (spent k.number keys)
spent_set keys position k e alive s =
    let n = k.number in record {
      some = subst (λ m. 0 < m) (sym (length-map keys (spent_if n))) s.some;
      ciphers = each_cipher n keys s.ciphers;
      counts = subst (All (λ k. k.count ≤ k.life)) (set_spent keys position k e s.numbers) (All-set (λ k. k.count ≤ k.life) keys position (served k) (omega (arith, alive)) s.counts);
      numbers = apart_spent (λ k. k.number) n (same_number n) keys s.numbers;
      mkis = apart_spent (λ k. k.mki) n (same_mki n) keys s.mkis;
      mki_lens = subst (λ m. All (λ k. length k.mki ≡ m) (spent n keys)) (sym (same_len n keys)) (each_length n (mki_len keys) keys s.mki_lens);
    }
