-- One key data payload after another, and numbers that octets stand for.
use Rattle.std.proofs.Common.{◌≡◌, ◌<◌, ◌≤◌, ◌+◌, ◌-◌, ◌*◌, ◌^◌, ℕ, suc, Bool, true, false, cond, ltb, leb, ◌&&◌, get_or, List, [], ◌∷◌, ◌++◌, length, Option, Some, None, refl, ap, sym, ◌∙◌, append_assoc, arith, nat_eq}
use Rattle.std.specs.Prelude.{option_map, IsSome, IfSome, ◌↔◌}
use Rattle.std.proofs.lemmas.Bool.{lt-ltb, le-ltb, lt-leb, le-leb, false≢true, eqb-true}
use Rattle.std.proofs.lemmas.Nat.{mul-le}
use Rattle.std.proofs.Math.Nat.{mul_assoc, mul_left_comm}
use Rattle.sg_base.proofs.Cases.{none_some}
use Rattle.sg_base.specs.Mkis.{IsMki, MkiValue, mki_of}
use Rattle.sg_base.specs.Octets.{number_from, number_of}
use Rattle.sg_mikey.specs.declared.message.Tgk.{Tgk}
use Rattle.sg_psk.specs.KeyData.{KeyPart, key_part_at, keys_at, spi_of}

-- ---- numbers

number_grows : (n : ℕ) (xs : List ℕ) → n ≤ number_from n xs
number_grows n [] = omega arith
number_grows n (x ∷ xs) = let more = number_grows (256 * n + x) xs in omega (arith, more)

pub no_octets : (xs : List ℕ) → length xs < 1 → xs ≡ []
no_octets [] lt = refl
no_octets (x ∷ xs) lt = absurd (omega (arith, lt))

-- a number that is too great already stays so
pub too_great : (n x : ℕ) (xs all : List ℕ) → 2 ^ 128 ≤ n * 256 → number_from n (x ∷ xs) ≡ number_of all
    → None ≡ cond (ltb (number_of all) (2 ^ 128)) (Some (number_of all)) None
too_great n x xs all most is =
    let more = number_grows (256 * n + x) xs in
    let great : 2 ^ 128 ≤ number_of all = omega (arith, most, more, is) in
    rw (le-ltb (number_of all) (2 ^ 128) great) refl

pub fits_still : (n : ℕ) (all : List ℕ) → n < 2 ^ 128 → number_from n [] ≡ number_of all
    → Some n ≡ cond (ltb (number_of all) (2 ^ 128)) (Some (number_of all)) None
fits_still n all lt is =
    let less : number_of all < 2 ^ 128 = omega (arith, lt, is) in
    rw (lt-ltb (number_of all) (2 ^ 128) less) (ap Some is)

-- ---- SPIs

below_power : (n : ℕ) (xs : List ℕ) → ((i : ℕ) → get_or xs i 0 < 256) → number_from n xs < (n + 1) * 256 ^ length xs
below_power n [] all = omega arith
below_power n (x ∷ xs) all =
    let here = below_power (256 * n + x) xs (λ i. all (suc i)) in
    let first = all 0 in
    let some : 256 * n + x + 1 ≤ 256 * (n + 1) = omega (arith, first) in
    let grown : (256 * n + x + 1) * 256 ^ length xs ≤ 256 * (n + 1) * 256 ^ length xs = mul-le (256 * n + x + 1) (256 ^ length xs) (256 * (n + 1)) (256 ^ length xs) some (omega arith) in
    let step : 256 ^ suc (length xs) ≡ 256 * 256 ^ length xs = omega arith in
    let power : 256 * (n + 1) * 256 ^ length xs ≡ (n + 1) * 256 ^ suc (length xs) =
    mul_assoc 256 (n + 1) (256 ^ length xs) ∙ sym (mul_left_comm (n + 1) 256 (256 ^ length xs)) ∙ ap (λ t. (n + 1) * t) (sym step) in
    omega (arith, here, grown, power)

pub spi_short : (octets : List ℕ) → length octets ≡ 0 → None ≡ spi_of octets
unfolding spi_of
spi_short [] e = refl
spi_short (x ∷ xs) e = absurd (omega (arith, e))

pub spi_long : (octets : List ℕ) → 128 < length octets → None ≡ spi_of octets
unfolding spi_of
spi_long octets lt = rw (le-leb 1 (length octets) (omega (arith, lt)), lt-leb (length octets) 128 lt) refl

decide : (b : Bool) (P : Type 0) → (b ≡ true → P) → (b ≡ false → P) → P
decide true P is isnt = is refl
decide false P is isnt = isnt refl

pub not_zero : (n : ℕ) → (n ≡ 0 → ⊥) → nat_eq n 0 ≡ false
not_zero n other = decide (nat_eq n 0) (nat_eq n 0 ≡ false) (λ e. absurd (other (eqb-true n 0 e))) (λ e. e)

some_same : (m n : ℕ) → Some m ≡ Some n → m ≡ n
some_same m n e = cc

pub spi_wide : (octets : List ℕ) → None ≡ cond (ltb (number_of octets) (2 ^ 128)) (Some (number_of octets)) None → None ≡ spi_of octets
unfolding spi_of
spi_wide octets is =
    decide (ltb (number_of octets) (2 ^ 128)) (None ≡ spi_of octets)
    (λ e. absurd (none_some (number_of octets) (is ∙ ap (λ b. cond b (Some (number_of octets)) None) e)))
    (λ e. rw e (no_spi (leb 1 (length octets)) (leb (length octets) 128) (mki_of (number_of octets) (length octets))))
  where
    no_spi : (a b : Bool) (m : MkiValue) → None ≡ cond ((a && b) && false) (Some m) None
    no_spi true true m = refl
    no_spi true false m = refl
    no_spi false true m = refl
    no_spi false false m = refl

number_is : (n value : ℕ) → Some value ≡ cond (ltb n (2 ^ 128)) (Some n) None → (ltb n (2 ^ 128) ≡ true) × (value ≡ n)
number_is n value is =
    decide (ltb n (2 ^ 128)) ((ltb n (2 ^ 128) ≡ true) × (value ≡ n))
    (λ e. (e, some_same value n (is ∙ ap (λ b. cond b (Some n) None) e)))
    (λ e. absurd (none_some value (sym (is ∙ ap (λ b. cond b (Some n) None) e))))

pub spi_is : (octets : List ℕ) (value : ℕ) (r : Option MkiValue) → ((i : ℕ) → get_or octets i 0 < 256) → 1 ≤ length octets → length octets ≤ 128
    → Some value ≡ cond (ltb (number_of octets) (2 ^ 128)) (Some (number_of octets)) None
    → (IsSome r ↔ IsMki value (length octets)) → IfSome r (λ m. m ≡ mki_of value (length octets)) → r ≡ spi_of octets
unfolding spi_of
spi_is octets value (Some m) all least most is valid made =
    let n = number_is (number_of octets) value is in
    rw (le-leb 1 (length octets) least, le-leb (length octets) 128 most, n.0) (ap Some (made ∙ ap (λ v. mki_of v (length octets)) n.1))
spi_is octets value None all least most is valid made =
    let n = number_is (number_of octets) value is in
    let fits = below_power 0 octets all in
    let same = n.1 in
    let some : IsSome {T = MkiValue} None = valid.1 (record { least = least; most = most; fits = omega (arith, fits, same) }) in
    absurd (false≢true some)

-- ---- keys

abbrev pub behind : List Tgk → Option (List Tgk) → Option (List Tgk)
behind done (Some rest) = Some (done ++ rest)
behind done None = None

pub no_part : (done : List Tgk) (count i : ℕ) (octets : List ℕ) (total : Option (List Tgk)) → i < count → key_part_at octets ≡ None
    → behind done (keys_at (count - i) octets) ≡ total → total ≡ None
unfolding keys_at
no_part done count i octets total lt none so_far =
    let k : count - i ≡ suc (count - (i + 1)) = omega arith in
    let one : behind done (keys_at (count - i) octets) ≡ None = rw (k, none) refl in
    sym so_far ∙ one

pub last_part : (done : List Tgk) (count i : ℕ) (octets : List ℕ) (part : KeyPart) (total : Option (List Tgk)) → i < count → key_part_at octets ≡ Some part
    → nat_eq part.next 0 ≡ true → nat_eq (length part.rest) 0 ≡ true → behind done (keys_at (count - i) octets) ≡ total → total ≡ Some (done ++ part.tgk ∷ [])
unfolding keys_at
last_part done count i octets part total lt is next over so_far =
    let k : count - i ≡ suc (count - (i + 1)) = omega arith in
    let one : behind done (keys_at (count - i) octets) ≡ Some (done ++ part.tgk ∷ []) = rw (k, is, next, over) refl in
    sym so_far ∙ one

pub not_over : (done : List Tgk) (count i : ℕ) (octets : List ℕ) (part : KeyPart) (total : Option (List Tgk)) → i < count → key_part_at octets ≡ Some part
    → nat_eq part.next 0 ≡ true → nat_eq (length part.rest) 0 ≡ false → behind done (keys_at (count - i) octets) ≡ total → total ≡ None
unfolding keys_at
not_over done count i octets part total lt is next more so_far =
    let k : count - i ≡ suc (count - (i + 1)) = omega arith in
    let one : behind done (keys_at (count - i) octets) ≡ None = rw (k, is, next, more) refl in
    sym so_far ∙ one

regroup : (done : List Tgk) (key : Tgk) (rest : Option (List Tgk)) → behind done (option_map (λ others. key ∷ others) rest) ≡ behind (done ++ key ∷ []) rest
regroup done key (Some rest) = ap Some (sym (append_assoc done (key ∷ []) rest))
regroup done key None = refl

pub next_part : (done : List Tgk) (count i : ℕ) (octets : List ℕ) (part : KeyPart) (total : Option (List Tgk)) → i < count → key_part_at octets ≡ Some part
    → nat_eq part.next 0 ≡ false → behind done (keys_at (count - i) octets) ≡ total → behind (done ++ part.tgk ∷ []) (keys_at (count - (i + 1)) part.rest) ≡ total
unfolding keys_at
next_part done count i octets part total lt is next so_far =
    let k : count - i ≡ suc (count - (i + 1)) = omega arith in
    let one : behind done (keys_at (count - i) octets) ≡ behind (done ++ part.tgk ∷ []) (keys_at (count - (i + 1)) part.rest) =
    rw (k, is, next) (regroup done part.tgk (keys_at (count - (i + 1)) part.rest)) in
    sym one ∙ so_far

pub too_many : (done : List Tgk) (count i : ℕ) (octets : List ℕ) (total : Option (List Tgk)) → count ≤ i → behind done (keys_at (count - i) octets) ≡ total → total ≡ None
unfolding keys_at
too_many done count i octets total le so_far =
    let k : count - i ≡ 0 = omega arith in
    let one : behind done (keys_at (count - i) octets) ≡ None = rw k refl in
    sym so_far ∙ one
