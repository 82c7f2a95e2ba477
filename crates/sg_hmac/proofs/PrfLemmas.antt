-- Octets XORed piece by piece, and blocks of an in-key one after another.
use Rattle.std.proofs.Common.{◌≡◌, ◌<◌, ◌≤◌, ◌+◌, ◌-◌, ◌*◌, ◌/◌, ℕ, zero, suc, List, [], ◌∷◌, ◌++◌, take, drop, length, replicate, slice_set, slice_index_or, bit_xor, refl, ap, sym, ◌∙◌, arith, inl, inr, append_assoc, length-append, append-nil}
use Rattle.std.specs.Int.Bits.{xor_assoc, xor_zero_l, xor_zero_r}
use Rattle.std.proofs.lemmas.Bool.{cases_lt}
use Rattle.std.proofs.lemmas.List.{take_all, drop_all, take_at, drop_at, drop-drop, length-take-le, length-drop}
use Rattle.std.proofs.Math.Seq.{take-add}
use Rattle.sg_base.specs.Octets.{xor_octets}
use Rattle.sg_hmac.specs.Hmac.{hmac_sha1}
use Rattle.sg_hmac.specs.Prf.{blocks_of, chained, expanded, joined_macs, under_blocks}
use Rattle.sg_hmac.proofs.Sizes.{length-hmac_sha1}

-- ---- XOR, octet by octet

abbrev pub so_far : ℕ → List ℕ → List ℕ → List ℕ
so_far i xs ys = xor_octets (take i xs) ys ++ drop i xs

pub one_more : (i : ℕ) (xs ys : List ℕ) → i < length xs → length xs ≤ length ys
    → slice_set (so_far i xs ys) i (bit_xor (slice_index_or (so_far i xs ys) i 0) (slice_index_or ys i 0)) ≡ so_far (i + 1) xs ys
one_more i [] ys h g = absurd (omega (arith, h))
one_more i (x ∷ xs) [] h g = absurd (omega (arith, g))
one_more zero (x ∷ xs) (y ∷ ys) h g = refl
one_more (suc i) (x ∷ xs) (y ∷ ys) h g =
    let e : suc i + 1 ≡ suc (i + 1) = omega arith in
    rw e (ap (λ t. bit_xor x y ∷ t) (one_more i xs ys (omega (arith, h)) (omega (arith, g))))

pub length-xor : (xs ys : List ℕ) → length xs ≤ length ys → length (xor_octets xs ys) ≡ length xs
length-xor [] ys h = refl
length-xor (x ∷ xs) [] h = absurd (omega (arith, h))
length-xor (x ∷ xs) (y ∷ ys) h = let rest = length-xor xs ys (omega (arith, h)) in omega (arith, rest)

xor-append : (bs cs xs ys : List ℕ) → length bs ≡ length xs → xor_octets (bs ++ cs) (xs ++ ys) ≡ xor_octets bs xs ++ xor_octets cs ys
xor-append [] cs [] ys h = refl
xor-append [] cs (x ∷ xs) ys h = absurd (omega (arith, h))
xor-append (b ∷ bs) cs [] ys h = absurd (omega (arith, h))
xor-append (b ∷ bs) cs (x ∷ xs) ys h = ap (λ t. bit_xor b x ∷ t) (xor-append bs cs xs ys (omega (arith, h)))

-- what lies past the shorter list doesn't count
xor-take : (n : ℕ) (xs ys : List ℕ) → length xs ≤ n → xor_octets xs (take n ys) ≡ xor_octets xs ys
xor-take n [] ys h = refl
xor-take zero (x ∷ xs) ys h = absurd (omega (arith, h))
xor-take (suc n) (x ∷ xs) [] h = refl
xor-take (suc n) (x ∷ xs) (y ∷ ys) h = ap (λ t. bit_xor x y ∷ t) (xor-take n xs ys (omega (arith, h)))

xor-assoc : (xs ys zs : List ℕ) → xor_octets (xor_octets xs ys) zs ≡ xor_octets xs (xor_octets ys zs)
xor-assoc [] ys zs = refl
xor-assoc (x ∷ xs) [] zs = refl
xor-assoc (x ∷ xs) (y ∷ ys) [] = refl
xor-assoc (x ∷ xs) (y ∷ ys) (z ∷ zs) = λ i. xor_assoc x y z i ∷ xor-assoc xs ys zs i

pub zeros_left : (n : ℕ) (xs : List ℕ) → length xs ≡ n → xor_octets (replicate n 0) xs ≡ xs
zeros_left zero [] h = refl
zeros_left zero (x ∷ xs) h = absurd (omega (arith, h))
zeros_left (suc n) [] h = absurd (omega (arith, h))
zeros_left (suc n) (x ∷ xs) h = λ i. xor_zero_l x i ∷ zeros_left n xs (omega (arith, h)) i

pub zeros_right : (n : ℕ) (xs : List ℕ) → length xs ≡ n → xor_octets xs (replicate n 0) ≡ xs
zeros_right zero [] h = refl
zeros_right zero (x ∷ xs) h = absurd (omega (arith, h))
zeros_right (suc n) [] h = absurd (omega (arith, h))
zeros_right (suc n) (x ∷ xs) h = λ i. xor_zero_r x i ∷ zeros_right n xs (omega (arith, h)) i

-- ---- the MACs of one block, put on piece by piece

length-joined : (secret label : List ℕ) (m : ℕ) → length (joined_macs secret label m) ≡ 20 * m
length-joined secret label zero = refl
length-joined secret label (suc m) =
    length-append (joined_macs secret label m) _ ∙ (let so : length (joined_macs secret label m) ≡ 20 * m = length-joined secret label m in omega (arith, so, length-hmac_sha1 secret (chained secret label (suc m) ++ label)))

length-expanded : (secret label : List ℕ) (n : ℕ) → length (expanded secret label n) ≡ n
length-expanded secret label n =
    length-take-le n (joined_macs secret label ((n + 19) / 20)) (omega (arith, length-joined secret label ((n + 19) / 20)))

-- a piece of 20 octets, or the last one, which may be shorter
pieces_take : (k : ℕ) (xs : List ℕ) → k ≤ 20 → k ≤ length xs → (k < 20 → length xs ≤ k) → take k xs ≡ take 20 xs
pieces_take k xs most fits last =
    elim (cases_lt k 20) [
      | inl lt ↦ take_all k xs (last lt) ∙ sym (take_all 20 xs (let l = last lt in omega (arith, l, lt)))
      | inr ge ↦ let e : k ≡ 20 = omega (arith, ge, most) in ap (λ n. take n xs) e
    ]

pieces_drop : (k : ℕ) (xs : List ℕ) → k ≤ 20 → k ≤ length xs → (k < 20 → length xs ≤ k) → drop k xs ≡ drop 20 xs
pieces_drop k xs most fits last =
    elim (cases_lt k 20) [
      | inl lt ↦ drop_all k xs (last lt) ∙ sym (drop_all 20 xs (let l = last lt in omega (arith, l, lt)))
      | inr ge ↦ let e : k ≡ 20 = omega (arith, ge, most) in ap (λ n. drop n xs) e
    ]

pub piece_more : (xs zs macs mac ys : List ℕ) (at k : ℕ) → at ≤ length xs → length macs ≡ at → length mac ≡ 20
    → k ≤ 20 → at + k ≤ length xs → (k < 20 → length xs ≤ at + k)
    → zs ≡ xor_octets (take at xs) macs ++ drop at xs
    → ys ≡ xor_octets (take k (drop at zs)) mac
    → take at zs ++ (ys ++ drop k (drop at zs)) ≡ xor_octets (take (at + 20) xs) (macs ++ mac) ++ drop (at + 20) xs
piece_more xs zs macs mac ys at k inside long twenty most fits last is onto =
    let prefix : List ℕ = xor_octets (take at xs) macs in
    let rest : List ℕ = drop at xs in
    let taken : length (take at xs) ≡ at = length-take-le at xs inside in
    let size : length prefix ≡ at = length-xor (take at xs) macs (omega (arith, taken, long)) ∙ taken in
    let left : length rest ≡ length xs - at = length-drop at xs in
    let here : take at zs ≡ prefix = ap (take at) is ∙ take_at prefix rest at size in
    let behind : drop at zs ≡ rest = ap (drop at) is ∙ drop_at prefix rest at size in
    let ends : k < 20 → length rest ≤ k = λ lt. (let l = last lt in omega (arith, l, left)) in
    let taken_k : take k rest ≡ take 20 rest = pieces_take k rest most (omega (arith, left, fits)) ends in
    let dropped_k : drop k rest ≡ drop 20 rest = pieces_drop k rest most (omega (arith, left, fits)) ends in
    let mid : ys ≡ xor_octets (take 20 rest) mac = onto ∙ ap (λ t. xor_octets (take k t) mac) behind ∙ ap (λ t. xor_octets t mac) taken_k in
    let tail : drop k (drop at zs) ≡ drop 20 rest = ap (drop k) behind ∙ dropped_k in
    let whole : xor_octets (take (at + 20) xs) (macs ++ mac) ≡ prefix ++ xor_octets (take 20 rest) mac =
    ap (λ t. xor_octets t (macs ++ mac)) (take-add at 20 xs) ∙ xor-append (take at xs) (take 20 rest) macs mac (taken ∙ sym long) in
    (λ i. here i ++ (mid i ++ tail i))
    ∙ sym (append_assoc prefix (xor_octets (take 20 rest) mac) (drop 20 rest))
    ∙ sym (λ i. whole i ++ sym (drop-drop 20 at xs) i)

-- one MAC more, and the next A
pub one_joined : (secret label mac : List ℕ) (i : ℕ) → mac ≡ hmac_sha1 secret (chained secret label (i + 1) ++ label)
    → joined_macs secret label i ++ mac ≡ joined_macs secret label (i + 1)
one_joined secret label mac i is =
    let e : i + 1 ≡ suc i = omega arith in
    ap (λ t. joined_macs secret label i ++ t) (is ∙ ap (λ n. hmac_sha1 secret (chained secret label n ++ label)) e)
    ∙ ap (joined_macs secret label) (sym e)

pub one_chained : (secret label next : List ℕ) (i : ℕ) → next ≡ hmac_sha1 secret (chained secret label (i + 1)) → next ≡ chained secret label (i + 1 + 1)
one_chained secret label next i is =
    let e : i + 1 + 1 ≡ suc (i + 1) = omega arith in
    is ∙ ap (chained secret label) (sym e)

pub joined_size : (secret label : List ℕ) (m : ℕ) → length (joined_macs secret label m) ≡ 20 * m
joined_size secret label m = length-joined secret label m

pub pieces_done : (secret label xs : List ℕ) (m : ℕ) → m ≡ (length xs + 19) / 20
    → xor_octets (take (20 * m) xs) (joined_macs secret label m) ++ drop (20 * m) xs ≡ xor_octets xs (expanded secret label (length xs))
pieces_done secret label xs m is =
    let whole : length xs ≤ 20 * m = omega (arith, is) in
    (λ i. xor_octets (take_all (20 * m) xs whole i) (joined_macs secret label m) ++ drop_all (20 * m) xs whole i)
    ∙ append-nil _
    ∙ ap (λ n. xor_octets xs (joined_macs secret label n)) is
    ∙ sym (xor-take (length xs) xs (joined_macs secret label ((length xs + 19) / 20)) (omega arith))

-- ---- the blocks of an in-key, one after another

length-under : (blocks : List (List ℕ)) (label : List ℕ) (n : ℕ) → length (under_blocks blocks label n) ≡ n
length-under [] label zero = refl
length-under [] label (suc n) = ap suc (length-under [] label n)
length-under (b ∷ bs) label n =
    length-xor (expanded b label n) (under_blocks bs label n) (omega (arith, length-expanded b label n, length-under bs label n))
    ∙ length-expanded b label n

pub first_block : (blocks : List (List ℕ)) (label part : List ℕ) (n : ℕ) → part ≡ replicate n 0
    → xor_octets part (under_blocks blocks label n) ≡ under_blocks blocks label n
first_block blocks label part n is =
    ap (λ t. xor_octets t (under_blocks blocks label n)) is ∙ zeros_left n (under_blocks blocks label n) (length-under blocks label n)

-- the first octets of what is left, and the others
short_take : (k : ℕ) (xs : List ℕ) → k ≤ 32 → (k < 32 → length xs ≤ k) → take k xs ≡ take 32 xs
short_take k xs most last =
    elim (cases_lt k 32) [
      | inl lt ↦ take_all k xs (last lt) ∙ sym (take_all 32 xs (let l = last lt in omega (arith, l, lt)))
      | inr ge ↦ let e : k ≡ 32 = omega (arith, ge, most) in ap (λ n. take n xs) e
    ]

short_drop : (k : ℕ) (xs : List ℕ) → k ≤ 32 → (k < 32 → length xs ≤ k) → drop k xs ≡ drop 32 xs
short_drop k xs most last =
    elim (cases_lt k 32) [
      | inl lt ↦ drop_all k xs (last lt) ∙ sym (drop_all 32 xs (let l = last lt in omega (arith, l, lt)))
      | inr ge ↦ let e : k ≡ 32 = omega (arith, ge, most) in ap (λ n. drop n xs) e
    ]

pub next_block : (all i k n : ℕ) (rest block others part new label out : List ℕ) → i < all
    → k ≤ 32 → (k < 32 → length rest ≤ k) → block ≡ take k rest → others ≡ drop k rest
    → new ≡ xor_octets part (expanded block label n)
    → xor_octets part (under_blocks (blocks_of (all - i) rest) label n) ≡ out
    → xor_octets new (under_blocks (blocks_of (all - (i + 1)) others) label n) ≡ out
next_block all i k n rest block others part new label out lt most last is behind onto so_far =
    let more : all - i ≡ suc (all - (i + 1)) = omega (arith, lt) in
    let first : block ≡ take 32 rest = is ∙ short_take k rest most last in
    let then : others ≡ drop 32 rest = behind ∙ short_drop k rest most last in
    let goes : under_blocks (blocks_of (all - i) rest) label n ≡ xor_octets (expanded block label n) (under_blocks (blocks_of (all - (i + 1)) others) label n) =
    ap (λ m. under_blocks (blocks_of m rest) label n) more
    ∙ (λ j. xor_octets (expanded (sym first j) label n) (under_blocks (blocks_of (all - (i + 1)) (sym then j)) label n)) in
    ap (λ t. xor_octets t (under_blocks (blocks_of (all - (i + 1)) others) label n)) onto
    ∙ xor-assoc part (expanded block label n) (under_blocks (blocks_of (all - (i + 1)) others) label n)
    ∙ ap (xor_octets part) (sym goes)
    ∙ so_far

pub last_block : (left n : ℕ) (rest part label out : List ℕ) → left ≡ 0 → length part ≡ n
    → xor_octets part (under_blocks (blocks_of left rest) label n) ≡ out → part ≡ out
last_block left n rest part label out none size so_far =
    sym (zeros_right n part size) ∙ sym (ap (λ m. xor_octets part (under_blocks (blocks_of m rest) label n)) none) ∙ so_far

pub onto_length : (secret label xs : List ℕ) (n : ℕ) → length xs ≤ n → length (xor_octets xs (expanded secret label n)) ≡ length xs
onto_length secret label xs n h = length-xor xs (expanded secret label n) (omega (arith, h, length-expanded secret label n))
