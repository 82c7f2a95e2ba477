-- A tag of twenty octets is a MAC exactly where it is a prefix of it.
use Rattle.std.proofs.Common.{◌≡◌, ◌∙◌, ℕ, nat_eq, Bool, true, false, List, [], ◌∷◌, ◌++◌, length, refl, sym, ap, arith, length-append, append-nil}
use Rattle.std.specs.Prelude.{IsTrue, ◌↔◌}
use Rattle.std.proofs.lemmas.Bool.{false≢true, false_from_ne_true, ne_eqb}
use Rattle.sg_base.specs.Octets.{same_octets}
use Rattle.sg_hmac.specs.States.{IsTagOf}
use Rattle.sg_base.proofs.SameOctets.{same_octets_true, same_octets_is}

no_more : (xs : List ℕ) → length xs ≡ 0 → xs ≡ []
no_more [] e = refl
no_more (x ∷ xs) e = absurd (omega (arith, e))

pub not_same : (tag mac : List ℕ) → (length tag ≡ length mac → ⊥) → same_octets tag mac ≡ false
not_same tag mac other = false_from_ne_true (same_octets tag mac) (λ same. other (ap length (same_octets_is tag mac same)))

pub other_size : (tag mac : List ℕ) → length mac ≡ 20 → (length tag ≡ 20 → ⊥) → nat_eq (length tag) 20 ≡ same_octets tag mac
other_size tag mac size other = ne_eqb (length tag) 20 other ∙ sym (not_same tag mac (λ same. other (same ∙ size)))

pub whole_tag : (b : Bool) (tag mac : List ℕ) → length tag ≡ length mac → (IsTrue b ↔ IsTagOf tag mac) → b ≡ same_octets tag mac
whole_tag true tag mac size fits =
    let is = fits.0 refl in
    let none : length is.0 ≡ 0 = omega (arith, size, ap length is.1, length-append tag is.0) in
    let whole : mac ≡ tag = is.1 ∙ ap (λ r. tag ++ r) (no_more is.0 none) ∙ append-nil tag in
    sym (same_octets_true tag mac (sym whole))
whole_tag false tag mac size fits =
    sym (false_from_ne_true (same_octets tag mac) (λ same. false≢true (fits.1 ([], sym (same_octets_is tag mac same) ∙ sym (append-nil tag)))))
