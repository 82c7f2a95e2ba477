-- What is read of a sealed text.
use Rattle.std.proofs.Common.{◌≡◌, ℕ, ◌+◌, ◌-◌, ◌≤◌, Bool, true, false, List, [], ◌∷◌, ◌++◌, length, take, drop, refl, sym, ap, ◌∙◌, arith, append_assoc, length-append, suc}
use Rattle.std.proofs.lemmas.List.{take_at, drop_at, length-take-le, length-drop, take-append-drop}
use Rattle.std.specs.Int.Bits.{xor_assoc, xor_self, xor_zero_r}
use Rattle.std.specs.Prelude.{bit_xor}
use Rattle.sg_base.specs.Octets.{xor_octets}
use Rattle.sg_base.specs.declared.keys.HalfKeys.{HalfKeys}
use Rattle.sg_session.specs.Sealed.{crypted}
use Rattle.sg_ctr.specs.Keystream.{keystream}
use Rattle.sg_ctr.proofs.StreamLemmas.{length-keystream}

xor_twice : (x y : ℕ) → bit_xor (bit_xor x y) y ≡ x
xor_twice x y = xor_assoc x y y ∙ ap (bit_xor x) (xor_self y) ∙ xor_zero_r x

octets_twice : (xs ys : List ℕ) → length xs ≤ length ys → xor_octets (xor_octets xs ys) ys ≡ xs
octets_twice [] ys le = refl
octets_twice (x ∷ xs) [] le = absurd (omega arith)
octets_twice (x ∷ xs) (y ∷ ys) le = let rest = octets_twice xs ys (omega arith) in let this = xor_twice x y in (λ i. this i ∷ rest i)

length-xor_octets : (xs ys : List ℕ) → length xs ≤ length ys → length (xor_octets xs ys) ≡ length xs
length-xor_octets [] ys le = refl
length-xor_octets (x ∷ xs) [] le = absurd (omega arith)
length-xor_octets (x ∷ xs) (y ∷ ys) le = ap suc (length-xor_octets xs ys (omega arith))

module _ (half : HalfKeys) (ssrc index size : ℕ) (p : List ℕ) (within : size ≤ length p) where
  stream : List ℕ
  stream = keystream half.encrypt half.salt ssrc index (length p - size)

  long : length (drop size p) ≤ length (keystream half.encrypt half.salt ssrc index (length p - size))
  long = omega (arith, length-drop size p, length-keystream half.encrypt half.salt ssrc index (length p - size))

  pub length-crypted : (on : Bool) → length (crypted on half ssrc index size p) ≡ length p
  length-crypted false = refl
  length-crypted true =
      omega (
        arith,
        length-append (take size p) (xor_octets (drop size p) (keystream half.encrypt half.salt ssrc index (length p - size))),
        length-take-le size p within,
        length-xor_octets (drop size p) (keystream half.encrypt half.salt ssrc index (length p - size)) long,
        length-drop size p,
      )

  pub take-crypted : (on : Bool) → take size (crypted on half ssrc index size p) ≡ take size p
  take-crypted false = refl
  take-crypted true = take_at (take size p) (xor_octets (drop size p) (keystream half.encrypt half.salt ssrc index (length p - size))) size (length-take-le size p within)

  drop-crypted : drop size (crypted true half ssrc index size p) ≡ xor_octets (drop size p) (keystream half.encrypt half.salt ssrc index (length p - size))
  drop-crypted = drop_at (take size p) (xor_octets (drop size p) (keystream half.encrypt half.salt ssrc index (length p - size))) size (length-take-le size p within)

  pub crypted_twice : (on : Bool) → crypted on half ssrc index size (crypted on half ssrc index size p) ≡ p
  crypted_twice false = refl
  crypted_twice true =
      let prefix = take-crypted true in
      let rest = drop-crypted in
      let same = length-crypted true in
      (λ i. prefix i ++ xor_octets (rest i) (keystream half.encrypt half.salt ssrc index (same i - size)))
      ∙ ap (λ xs. take size p ++ xs) (octets_twice (drop size p) (keystream half.encrypt half.salt ssrc index (length p - size)) long)
      ∙ take-append-drop size p

-- the parts of a datagram
module _ (a mki tag : List ℕ) (m t : ℕ) (of_mki : length mki ≡ m) (of_tag : length tag ≡ t) where
  pub length-parts : length (a ++ (mki ++ tag)) ≡ length a + m + t
  length-parts = omega (arith, length-append a (mki ++ tag), length-append mki tag, of_mki, of_tag)

  pub prefix_part : take (length (a ++ (mki ++ tag)) - (m + t)) (a ++ (mki ++ tag)) ≡ a
  prefix_part = take_at a (mki ++ tag) _ (let size = length-parts in omega (arith, size))

  pub mki_part : take m (drop (length (a ++ (mki ++ tag)) - (m + t)) (a ++ (mki ++ tag))) ≡ mki
  mki_part = ap (take m) (drop_at a (mki ++ tag) _ (let size = length-parts in omega (arith, size))) ∙ take_at mki tag m of_mki

  pub tag_part : drop (length (a ++ (mki ++ tag)) - t) (a ++ (mki ++ tag)) ≡ tag
  tag_part =
      ap (drop (length (a ++ (mki ++ tag)) - t)) (sym (append_assoc a mki tag))
      ∙ drop_at (a ++ mki) tag _ (let size = length-parts in omega (arith, size, length-append a mki, of_mki))
