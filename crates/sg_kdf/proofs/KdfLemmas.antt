-- What a label's initial value counts from, and the lengths of session keys.
use Rattle.std.proofs.Common.{◌≡◌, ℕ, zero, suc, ◌+◌, ◌*◌, ◌<◌, ◌≤◌, ◌%◌, ◌^◌, List, [], ◌∷◌, ◌++◌, refl, ap, ap₂, ◌∙◌, sym, subst, arith, bit_xor, length, slice_index, map, take, replicate, inl, inr, Bool, true, false}
use Rattle.std.specs.Prelude.{slice_index_or, slice_set, All, ◌⊎◌}
use Rattle.std.specs.List.{range_with_len}
use Rattle.std.specs.Int.Bits.{xor_zero_l, xor_zero_r}
use Rattle.std.proofs.lemmas.Nat.{xor_block}
use Rattle.std.proofs.lemmas.Grind.{same_number_lists}
use Rattle.std.proofs.lemmas.List.FromFn.{get_or-map-range_with_len, length-map-range_with_len}
use Rattle.std.proofs.lemmas.List.{length-replicate}
use Rattle.sg_base.specs.Octets.{number_of, xor_octets}
use Rattle.sg_base.specs.Keys.{Master}
use Rattle.sg_base.specs.Suites.{key_len_of, salt_len_of}
use Rattle.sg_base.specs.declared.suites.Suite.{Suite}
use Rattle.sg_base.specs.declared.suites.Suite.TheVariants.{Raw80, Cm128Tag80, Cm128Tag32, Cm192Tag80, Cm192Tag32, Cm256Tag80, Cm256Tag32}
use Rattle.sg_aes.specs.Schedule.{IsKeyLength}
use Rattle.sg_ctr.specs.Keystream.{counter_stream}
use Rattle.sg_ctr.proofs.StreamLemmas.{length-counter_stream, counter_stream-take, counter_stream_octets}
use Rattle.sg_kdf.specs.SessionKeys.{label_counter, derived_half, raw_auth, raw_half, derived_keys, raw_keys, is_raw, session_keys, encrypt_len_of, AreKeysOf}

-- ---- the initial value of a label

labelled : (high octet low label : ℕ) → octet < 256 → low < 2 ^ 48 → label < 256
    → bit_xor (high * 2 ^ 56 + octet * 2 ^ 48 + low) (label * 2 ^ 48) ≡ high * 2 ^ 56 + bit_xor octet label * 2 ^ 48 + low
labelled high octet low label ho hl hb =
    let a : high * 2 ^ 56 + octet * 2 ^ 48 + low ≡ (high * 2 ^ 8 + octet) * 2 ^ 48 + low = omega arith in
    let b : label * 2 ^ 48 ≡ (0 * 2 ^ 8 + label) * 2 ^ 48 + 0 = omega arith in
    let outer : bit_xor ((high * 2 ^ 8 + octet) * 2 ^ 48 + low) ((0 * 2 ^ 8 + label) * 2 ^ 48 + 0)
    ≡ bit_xor (high * 2 ^ 8 + octet) (0 * 2 ^ 8 + label) * 2 ^ 48 + bit_xor low 0 = xor_block 48 (high * 2 ^ 8 + octet) (0 * 2 ^ 8 + label) low 0 hl (omega arith) in
    let inner : bit_xor (high * 2 ^ 8 + octet) (0 * 2 ^ 8 + label) ≡ bit_xor high 0 * 2 ^ 8 + bit_xor octet label = xor_block 8 high 0 octet label ho hb in
    let top : bit_xor high 0 ≡ high = xor_zero_r high in
    let end : bit_xor low 0 ≡ low = xor_zero_r low in
    (λ p. bit_xor (a p) (b p)) ∙ omega (arith, outer, inner, top, end)

pub fourteen : (a b c d e f g h i j k l m n label : ℕ) → h < 256 → i < 256 → j < 256 → k < 256 → l < 256 → m < 256 → n < 256 → label < 256
    → number_of (a ∷ b ∷ c ∷ d ∷ e ∷ f ∷ g ∷ bit_xor h label ∷ i ∷ j ∷ k ∷ l ∷ m ∷ n ∷ 0 ∷ 0 ∷ [])
    ≡ label_counter (a ∷ b ∷ c ∷ d ∷ e ∷ f ∷ g ∷ h ∷ i ∷ j ∷ k ∷ l ∷ m ∷ n ∷ []) label
fourteen a b c d e f g h i j k l m n label hh hi hj hk hl hm hn small =
    let high : ℕ = number_of (a ∷ b ∷ c ∷ d ∷ e ∷ f ∷ g ∷ []) in
    let low : ℕ = number_of (i ∷ j ∷ k ∷ l ∷ m ∷ n ∷ []) in
    let lt : low < 2 ^ 48 = omega arith in
    let whole : number_of (a ∷ b ∷ c ∷ d ∷ e ∷ f ∷ g ∷ h ∷ i ∷ j ∷ k ∷ l ∷ m ∷ n ∷ []) ≡ high * 2 ^ 56 + h * 2 ^ 48 + low = omega arith in
    let w : number_of (a ∷ b ∷ c ∷ d ∷ e ∷ f ∷ g ∷ bit_xor h label ∷ i ∷ j ∷ k ∷ l ∷ m ∷ n ∷ 0 ∷ 0 ∷ []) ≡ (high * 2 ^ 56 + bit_xor h label * 2 ^ 48 + low) * 2 ^ 16 = omega arith in
    w ∙ ap (λ (x : ℕ). x * 2 ^ 16) (sym (labelled high h low label hh lt small)) ∙ ap (λ (x : ℕ). bit_xor x (label * 2 ^ 48) * 2 ^ 16) (sym whole)

literal : (s : List ℕ) → length s ≡ 14 → s ≡ map (λ i. slice_index s i) (range_with_len 0 14)
literal s long =
    let f : ℕ → ℕ = λ i. slice_index s i in
    same_number_lists s (map f (range_with_len 0 14)) (long ∙ sym (length-map-range_with_len f 0 14)) (λ k lt.
    sym (get_or-map-range_with_len f 0 14 k k 0 (omega (arith, long)) (omega arith)))

-- the number of a salt with a label on its octet 7 and two octets 0 behind
abbrev pub labelled_value : ℕ → List ℕ → ℕ
labelled_value label s = number_of (slice_set (s ++ 0 ∷ 0 ∷ []) 7 (bit_xor (slice_index_or (s ++ 0 ∷ 0 ∷ []) 7 0) label))

pub labelled_value_is : (s : List ℕ) (label : ℕ) → length s ≡ 14 → ((k : ℕ) → slice_index s k < 256) → label < 256 → labelled_value label s ≡ label_counter s label
labelled_value_is s label long h small =
    let e = literal s long in
    let q : ℕ → ℕ = λ i. slice_index s i in
    ap (labelled_value label) e
    ∙ fourteen (q 0) (q 1) (q 2) (q 3) (q 4) (q 5) (q 6) (q 7) (q 8) (q 9) (q 10) (q 11) (q 12) (q 13) label (h 7) (h 8) (h 9) (h 10) (h 11) (h 12) (h 13) small
    ∙ ap (λ x. label_counter x label) (sym e)

-- ---- a stream on zeros

pub on_zeros : (s : List ℕ) (n : ℕ) → length s ≡ n → xor_octets (replicate n 0) s ≡ s
on_zeros [] zero h = refl
on_zeros [] (suc n) h = absurd (omega arith)
on_zeros (x ∷ xs) zero h = absurd (omega arith)
on_zeros (x ∷ xs) (suc n) h = λ p. xor_zero_l x p ∷ on_zeros xs n (omega arith) p

pub stream_on_zeros : (key : List ℕ) (first f n : ℕ) → first ≡ f → xor_octets (replicate n 0) (counter_stream key first (length {A = ℕ} (replicate n 0))) ≡ counter_stream key f n
stream_on_zeros key first f n e =
    let long : length {A = ℕ} (replicate n 0) ≡ n = length-replicate n 0 in
    ap₂ (λ (a b : ℕ). xor_octets (replicate n 0) (counter_stream key a b)) e long ∙ on_zeros (counter_stream key f n) n (length-counter_stream key f n)

pub half_is : (m : Master) (key salt : List ℕ) (first n : ℕ) (octets encrypt auth session_salt : List ℕ) → key ≡ m.key → salt ≡ m.salt → n ≡ key_len_of m.suite → n ≤ 32
    → octets ≡ counter_stream key (label_counter salt first) 32 → encrypt ≡ take n octets
    → auth ≡ counter_stream key (label_counter salt (first + 1)) 20 → session_salt ≡ counter_stream key (label_counter salt (first + 2)) 14
    → record { encrypt = encrypt; auth = auth; salt = session_salt } ≡ derived_half m first
half_is m key salt first n octets encrypt auth session_salt ek es en le eo ee ea et =
    let whole : (label l : ℕ) → counter_stream key (label_counter salt label) l ≡ counter_stream m.key (label_counter m.salt label) l =
    λ label l. ap₂ (λ k s. counter_stream k (label_counter s label) l) ek es in
    let cut : encrypt ≡ counter_stream m.key (label_counter m.salt first) (key_len_of m.suite) =
    ee ∙ ap (take n) eo ∙ counter_stream-take key (label_counter salt first) n 32 le ∙ whole first n ∙ ap (counter_stream m.key (label_counter m.salt first)) en in
    let a = ea ∙ whole (first + 1) 20 in
    let t = et ∙ whole (first + 2) 14 in
    λ p. record { encrypt = cut p; auth = a p; salt = t p }

-- ---- suites

-- a key has a cipher's length under each suite but the raw one
pub ciphers_key : (s : Suite) → IsKeyLength (key_len_of s) → (is_raw s ≡ false) × (salt_len_of s ≡ 14)
ciphers_key Raw80 h = absurd (elim h [ inl e ↦ omega (arith, e) | inr g ↦ elim g [ inl e ↦ omega (arith, e) | inr e ↦ omega (arith, e) ] ])
ciphers_key Cm128Tag80 h = (refl, refl)
ciphers_key Cm128Tag32 h = (refl, refl)
ciphers_key Cm192Tag80 h = (refl, refl)
ciphers_key Cm192Tag32 h = (refl, refl)
ciphers_key Cm256Tag80 h = (refl, refl)
ciphers_key Cm256Tag32 h = (refl, refl)

pub no_ciphers_key : (s : Suite) → (IsKeyLength (key_len_of s) → ⊥) → (is_raw s ≡ true) × (key_len_of s ≡ 20)
no_ciphers_key Raw80 h = (refl, refl)
no_ciphers_key Cm128Tag80 h = absurd (h (inl refl))
no_ciphers_key Cm128Tag32 h = absurd (h (inl refl))
no_ciphers_key Cm192Tag80 h = absurd (h (inr (inl refl)))
no_ciphers_key Cm192Tag32 h = absurd (h (inr (inl refl)))
no_ciphers_key Cm256Tag80 h = absurd (h (inr (inr refl)))
no_ciphers_key Cm256Tag32 h = absurd (h (inr (inr refl)))

pub some_octets : (s : Suite) → is_raw s ≡ false → 0 < encrypt_len_of s
some_octets Raw80 h = cc
some_octets Cm128Tag80 h = omega arith
some_octets Cm128Tag32 h = omega arith
some_octets Cm192Tag80 h = omega arith
some_octets Cm192Tag32 h = omega arith
some_octets Cm256Tag80 h = omega arith
some_octets Cm256Tag32 h = omega arith

pub session_keys_derived : (m : Master) → is_raw m.suite ≡ false → session_keys m ≡ derived_keys m
unfolding session_keys
session_keys_derived m h = rw h refl

pub session_keys_raw : (m : Master) → is_raw m.suite ≡ true → session_keys m ≡ raw_keys m.key
unfolding session_keys
session_keys_raw m h = rw h refl

-- ---- the keys' lengths

raw_octets : (key : List ℕ) → All (λ octet. octet < 256) (raw_auth key)
raw_octets key k d h =
    let f : ℕ → ℕ = λ i. slice_index key i % 256 in
    let e : slice_index_or (map f (range_with_len 0 20)) k d ≡ f k = get_or-map-range_with_len f 0 20 k k d h (omega arith) in
    omega (arith, e)

pub raw_auth_is : (key : List ℕ) → length key ≡ 20 → ((k : ℕ) → slice_index key k < 256) → raw_auth key ≡ key
raw_auth_is key long h =
    let f : ℕ → ℕ = λ i. slice_index key i % 256 in
    same_number_lists (raw_auth key) key (length-map-range_with_len f 0 20 ∙ sym long) (λ k lt.
    let l : k < 20 = omega (arith, length-map-range_with_len f 0 20) in
    let e : slice_index (map f (range_with_len 0 20)) k ≡ f k = get_or-map-range_with_len f 0 20 k k 0 l (omega arith) in
    omega (arith, e, h k))

pub raw_half_keys : (suite : Suite) (key : List ℕ) → is_raw suite ≡ true → AreKeysOf suite (raw_half key)
raw_half_keys suite key h = record {
  encrypt_length = rw h refl;
  encrypt_octets = λ k d lt. absurd (omega arith);
  auth_length = refl;
  auth_octets = raw_octets key;
  salt_length = refl;
  salt_octets = λ k d lt. zeros 14 k d lt;
}
  where
    zeros : (n k d : ℕ) → k < n → slice_index_or (replicate n 0) k d < 256
    zeros zero k d h = absurd (omega arith)
    zeros (suc n) zero d h = omega arith
    zeros (suc n) (suc k) d h = zeros n k d (omega arith)

pub derived_half_keys : (m : Master) (first : ℕ) → is_raw m.suite ≡ false → AreKeysOf m.suite (derived_half m first)
derived_half_keys m first h = record {
  encrypt_length = length-counter_stream m.key _ (key_len_of m.suite) ∙ rw h refl;
  encrypt_octets = counter_stream_octets m.key _ (key_len_of m.suite);
  auth_length = length-counter_stream m.key _ 20;
  auth_octets = counter_stream_octets m.key _ 20;
  salt_length = length-counter_stream m.key _ 14;
  salt_octets = counter_stream_octets m.key _ 14;
}

true_or_false : (b : Bool) → (b ≡ true) ⊎ (b ≡ false)
true_or_false true = inl refl
true_or_false false = inr refl

pub rtp_keys : (m : Master) → AreKeysOf m.suite (session_keys m).rtp
rtp_keys m = elim (true_or_false (is_raw m.suite)) [
  | inl raw ↦ subst (λ keys. AreKeysOf m.suite keys.rtp) (sym (session_keys_raw m raw)) (raw_half_keys m.suite m.key raw)
  | inr derived ↦ subst (λ keys. AreKeysOf m.suite keys.rtp) (sym (session_keys_derived m derived)) (derived_half_keys m 0 derived)
]

pub rtcp_keys : (m : Master) → AreKeysOf m.suite (session_keys m).rtcp
rtcp_keys m = elim (true_or_false (is_raw m.suite)) [
  | inl raw ↦ subst (λ keys. AreKeysOf m.suite keys.rtcp) (sym (session_keys_raw m raw)) (raw_half_keys m.suite m.key raw)
  | inr derived ↦ subst (λ keys. AreKeysOf m.suite keys.rtcp) (sym (session_keys_derived m derived)) (derived_half_keys m 3 derived)
]

-- each octet by its place, also past the end
pub octets_by_index : (key : List ℕ) → All (λ octet. octet < 256) key → (k : ℕ) → slice_index key k < 256
octets_by_index [] h k = omega arith
octets_by_index (x ∷ xs) h zero = h 0 0 (omega arith)
octets_by_index (x ∷ xs) h (suc k) = octets_by_index xs (λ j d lt. h (suc j) d (omega arith)) k
