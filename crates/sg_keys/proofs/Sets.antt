-- Sets of two keys.
use Rattle.std.proofs.Common.{◌≡◌, ◌≢◌, ◌≤◌, ℕ, zero, suc, true, [], ◌∷◌, length, slice_get, Some, refl, sym, arith}
use Rattle.std.proofs.lemmas.List.Elements.{All-from_recursion}
use Rattle.sg_keys.specs.KeySet.{AreApart, IsKeySet}
use Rattle.sg_keys.specs.Live.{Live, is_cipher_len}

pub two_apart : {X : Type 0} (of : Live → X) (a b : Live) → of a ≢ of b → AreApart of (a ∷ b ∷ [])
two_apart of a b apart = λ i j k l p q e. at i j k l p q e
  where
    at : (i j : ℕ) (k l : Live) → slice_get (a ∷ b ∷ []) i ≡ Some k → slice_get (a ∷ b ∷ []) j ≡ Some l → of k ≡ of l → i ≡ j
    at zero zero k l p q e = refl
    at zero (suc zero) k l p q e = absurd (apart cc)
    at zero (suc (suc j)) k l p q e = absurd cc
    at (suc zero) zero k l p q e = absurd (apart cc)
    at (suc zero) (suc zero) k l p q e = refl
    at (suc zero) (suc (suc j)) k l p q e = absurd cc
    at (suc (suc i)) j k l p q e = absurd cc

-- a set of two keys
pub pair_set : (a b : Live) → is_cipher_len (length a.half.encrypt) ≡ true → is_cipher_len (length b.half.encrypt) ≡ true → a.count ≤ a.life → b.count ≤ b.life
    → a.number ≢ b.number → a.mki ≢ b.mki → length a.mki ≡ length b.mki → IsKeySet (a ∷ b ∷ [])
pair_set a b cipher_a cipher_b count_a count_b numbers mkis len = record {
  some = omega arith;
  ciphers = All-from_recursion (λ k. is_cipher_len (length k.half.encrypt) ≡ true) (a ∷ b ∷ []) (cipher_a, (cipher_b, tt));
  counts = All-from_recursion (λ k. k.count ≤ k.life) (a ∷ b ∷ []) (count_a, (count_b, tt));
  numbers = two_apart (λ k. k.number) a b numbers;
  mkis = two_apart (λ k. k.mki) a b mkis;
  mki_lens = All-from_recursion (λ k. length k.mki ≡ length a.mki) (a ∷ b ∷ []) (refl, (sym len, tt));
}
