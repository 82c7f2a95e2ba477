-- Octets XORed piece by piece.
use Rattle.std.proofs.Common.{◌≡◌, ℕ, ◌≤◌, ◌+◌, ◌-◌, ◌*◌, ◌<◌, ◌%◌, ◌/◌, List, [], ◌++◌, refl, ap, ap₂, ◌∙◌, sym, arith, bit_xor, length, map, slice_index, take, drop, inl, inr}
use Rattle.std.specs.List.{range_with_len}
use Rattle.std.specs.Prelude.{slice_index_or}
use Rattle.std.proofs.lemmas.List.FromFn.{get_or-map-range_with_len}
use Rattle.std.specs.Simd.Lanes.{zip2, chunk, put_chunk}
use Rattle.std.proofs.lemmas.Bool.{cases_lt}
use Rattle.std.proofs.lemmas.Grind.{same_number_lists}
use Rattle.std.proofs.lemmas.List.{get_or_append_left, get_or-append_right}
use Rattle.std.proofs.lemmas.Simd.{length-zip2, length-chunk, length-put_chunk, get_or-zip2, get_or-chunk, get_or-put_chunk_at, get_or-put_chunk_below, get_or-put_chunk_above}
use Rattle.sg_base.specs.Octets.{xor_octets}
use Rattle.sg_aes.specs.Cipher.{aes_encrypt}
use Rattle.sg_aes.proofs.CipherLemmas.{length-aes_encrypt}
use Rattle.sg_ctr.specs.Keystream.{counter_after, counter_octets, key_block, counter_stream}
use Rattle.sg_ctr.specs.Xor.{CountsFrom, XorsOnto, block_octet, stream_octet}
use Rattle.sg_aes.specs.Numbered.{numbered}
use Rattle.sg_ctr.proofs.CounterLemmas.{numbered_counter}
use Rattle.sg_ctr.proofs.StreamLemmas.{length-xor_octets, octet_of_xor, length-counter_stream, octet_of_stream}

pub none_xored : (old : List ℕ) (at : ℕ) (f : ℕ → ℕ) → XorsOnto old old at 0 f
none_xored old at f = record { long = refl; inside = λ k h. absurd (omega arith); below = λ k h. refl; above = λ k h. refl }

-- a piece, and the piece after it
pub both_xored : (old mid new : List ℕ) (f g : ℕ → ℕ) (at m next n total : ℕ) → next ≡ at + m → total ≡ m + n
    → XorsOnto old mid at m f → XorsOnto mid new next n g → ((k : ℕ) → k < n → g k ≡ f (m + k)) → XorsOnto old new at total f
both_xored old mid new f g at m next n total en et a b same = record {
  long = b.long ∙ a.long;
  inside = λ k h. elim (cases_lt k m) [
    | inl lt ↦ b.below (at + k) (omega arith) ∙ a.inside k lt
    | inr ge ↦
        let place : next + (k - m) ≡ at + k = omega arith in
        let back : m + (k - m) ≡ k = omega arith in
        let now : slice_index new (at + k) ≡ bit_xor (slice_index mid (at + k)) (g (k - m)) = rw place at (b.inside (k - m) (omega arith)) in
        now ∙ ap₂ bit_xor (a.above (at + k) (omega arith)) (same (k - m) (omega arith) ∙ ap f back)
  ];
  below = λ k h. b.below k (omega arith) ∙ a.below k h;
  above = λ k h. b.above k (omega arith) ∙ a.above k (omega arith);
}

pub xored_whole : (key : List ℕ) (counter : ℕ) (old new : List ℕ) (n : ℕ) → XorsOnto old new 0 n (stream_octet key counter) → n ≡ length old → new ≡ xor_octets old (counter_stream key counter (length old))
xored_whole key counter old new n held e =
    let ks : List ℕ = counter_stream key counter (length old) in
    let len : length ks ≡ length old = length-counter_stream key counter (length old) in
    let long : length (xor_octets old ks) ≡ length old = length-xor_octets old ks (omega (arith, len)) in
    same_number_lists new (xor_octets old ks) (held.long ∙ sym long) (λ k lt.
    let l : k < length old = omega (arith, held.long) in
    let z : 0 + k ≡ k = omega arith in
    let here : slice_index new k ≡ bit_xor (slice_index old k) (stream_octet key counter k) = rw z at (held.inside k (omega arith)) in
    here ∙ ap (bit_xor (slice_index old k)) (sym (octet_of_stream key counter (length old) k l))
    ∙ sym (octet_of_xor old ks k l (omega (arith, len))))

-- a rule that agrees as far as the piece goes
pub by_rule : (old new : List ℕ) (at count : ℕ) (f g : ℕ → ℕ) → ((k : ℕ) → k < count → f k ≡ g k) → XorsOnto old new at count f → XorsOnto old new at count g
by_rule old new at count f g same h = record {
  long = h.long;
  inside = λ k lt. h.inside k lt ∙ ap (bit_xor (slice_index old (at + k))) (same k lt);
  below = h.below;
  above = h.above;
}

-- lanes loaded, XORed and stored
pub lanes_xored : (n : ℕ) (old lanes : List ℕ) (at : ℕ) → at + n ≤ length old → length lanes ≡ n → XorsOnto old (put_chunk at old (zip2 bit_xor (chunk at n old) lanes)) at n (λ k. slice_index lanes k)
lanes_xored n old lanes at room long =
    let here : length (chunk at n old) ≡ n = length-chunk at n old room in
    let sum : List ℕ = zip2 bit_xor (chunk at n old) lanes in
    let all : length sum ≡ n = length-zip2 bit_xor (chunk at n old) lanes (here ∙ sym long) ∙ here in
    record {
      long = length-put_chunk at old sum;
      inside = λ k lt.
          get_or-put_chunk_at at old sum k 0 (omega (arith, all)) (omega (arith, all))
          ∙ get_or-zip2 bit_xor (chunk at n old) lanes k 0 0 0 (omega (arith, here)) (omega (arith, long))
          ∙ ap (λ (x : ℕ). bit_xor x (slice_index lanes k)) (get_or-chunk at n old k 0 lt);
      below = λ k lt. get_or-put_chunk_below at old sum k 0 lt;
      above = λ k le. get_or-put_chunk_above at old sum k 0 (omega (arith, all));
    }

-- ---- sixteen blocks

-- two neighbouring blocks, octet by octet
pub octet_of_blocks : (blocks : List (List ℕ)) (n k : ℕ) → length (slice_index_or blocks (2 * n) []) ≡ 16 → k < 32
    → slice_index (slice_index_or blocks (2 * n) [] ++ slice_index_or blocks (2 * n + 1) []) k ≡ block_octet blocks (32 * n + k)
octet_of_blocks blocks n k long lt =
    let x : List ℕ = slice_index_or blocks (2 * n) [] in
    let y : List ℕ = slice_index_or blocks (2 * n + 1) [] in
    elim (cases_lt k 16) [
      | inl l ↦
          let q : (32 * n + k) / 16 ≡ 2 * n = omega arith in
          let r : (32 * n + k) % 16 ≡ k = omega arith in
          get_or_append_left x y 0 k (omega (arith, long)) ∙ sym (rw (q, r) refl)
      | inr g ↦
          let q : (32 * n + k) / 16 ≡ 2 * n + 1 = omega arith in
          let r : (32 * n + k) % 16 ≡ k - 16 = omega arith in
          get_or-append_right x y 16 k 0 long g ∙ sym (rw (q, r) refl)
    ]

pub sixteen_xored : (key : List ℕ) (counter number : ℕ) (base : List ℕ) (blocks : List (List ℕ)) (old new : List ℕ) {first : List ℕ} → CountsFrom first counter → number % 16 ≡ 0
    → base ≡ counter_octets (counter_after counter number) → blocks ≡ map (λ n. aes_encrypt key (numbered base n)) (range_with_len 0 16)
    → XorsOnto old new (16 * number) 256 (block_octet blocks) → XorsOnto old new (16 * number) 256 (λ k. stream_octet key counter (16 * number + k))
sixteen_xored key counter number base blocks old new held multiple eb es h =
    by_rule old new (16 * number) 256 (block_octet blocks) (λ k. stream_octet key counter (16 * number + k)) (λ k lt.
    let n : ℕ = k / 16 in
    let few : n < 16 = omega arith in
    let block : slice_index_or blocks n [] ≡ key_block key (counter_after counter (number + n)) =
    ap (λ xs. slice_index_or xs n []) es ∙ get_or-map-range_with_len (λ n. aes_encrypt key (numbered base n)) 0 16 n n [] few (omega arith)
    ∙ ap (aes_encrypt key) (numbered_counter base counter number n held multiple few eb) in
    let q : (16 * number + k) / 16 ≡ number + n = omega arith in
    let r : (16 * number + k) % 16 ≡ k % 16 = omega arith in
    ap (λ xs. slice_index xs (k % 16)) block ∙ sym (rw (q, r) refl)) h

-- ---- two blocks side by side

-- the encryptions of two counters side by side, octet by octet
first_of_two : (m n : ℕ) → take 16 (counter_octets m ++ counter_octets n) ≡ counter_octets m
unfolding counter_octets
first_of_two m n = refl

second_of_two : (m n : ℕ) → drop 16 (counter_octets m ++ counter_octets n) ≡ counter_octets n
unfolding counter_octets
second_of_two m n = refl

pub octet_of_pair : (key : List ℕ) (counter n k : ℕ) (counters stream : List ℕ)
    → counters ≡ counter_octets (counter_after counter n) ++ counter_octets (counter_after counter (n + 1))
    → stream ≡ aes_encrypt key (take 16 counters) ++ aes_encrypt key (drop 16 counters) → k < 32
    → slice_index stream k ≡ stream_octet key counter (16 * n + k)
octet_of_pair key counter n k counters stream ec es lt =
    let x : List ℕ = counter_octets (counter_after counter n) in
    let y : List ℕ = counter_octets (counter_after counter (n + 1)) in
    let first : take 16 counters ≡ x = ap (take 16) ec ∙ first_of_two (counter_after counter n) (counter_after counter (n + 1)) in
    let second : drop 16 counters ≡ y = ap (drop 16) ec ∙ second_of_two (counter_after counter n) (counter_after counter (n + 1)) in
    let all : stream ≡ aes_encrypt key x ++ aes_encrypt key y = es ∙ ap₂ (λ a b. aes_encrypt key a ++ aes_encrypt key b) first second in
    let long : length (aes_encrypt key x) ≡ 16 = length-aes_encrypt key x in
    ap (λ s. slice_index s k) all
    ∙ elim (cases_lt k 16) [
      | inl l ↦
          let q : (16 * n + k) / 16 ≡ n = omega arith in
          let r : (16 * n + k) % 16 ≡ k = omega arith in
          get_or_append_left (aes_encrypt key x) (aes_encrypt key y) 0 k (omega arith) ∙ sym (rw (q, r) refl)
      | inr g ↦
          let q : (16 * n + k) / 16 ≡ n + 1 = omega arith in
          let r : (16 * n + k) % 16 ≡ k - 16 = omega arith in
          get_or-append_right (aes_encrypt key x) (aes_encrypt key y) 16 k 0 long g ∙ sym (rw (q, r) refl)
    ]

pub pair_xored : (key : List ℕ) (counter n count : ℕ) (counters stream old new : List ℕ) → count ≤ 32
    → counters ≡ counter_octets (counter_after counter n) ++ counter_octets (counter_after counter (n + 1))
    → stream ≡ aes_encrypt key (take 16 counters) ++ aes_encrypt key (drop 16 counters)
    → XorsOnto old new (16 * n) count (slice_index stream) → XorsOnto old new (16 * n) count (λ k. stream_octet key counter (16 * n + k))
pair_xored key counter n count counters stream old new le ec es h =
    by_rule old new (16 * n) count (slice_index stream) (λ k. stream_octet key counter (16 * n + k))
    (λ k lt. octet_of_pair key counter n k counters stream ec es (omega arith)) h
