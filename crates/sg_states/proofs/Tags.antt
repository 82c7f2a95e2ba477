-- Tags at the end of a datagram.
use Rattle.std.proofs.Common.{◌≡◌, ◌-◌, ◌≤◌, ℕ, arith, inl, inr, Bool, true, false, List, ◌++◌, length, take, drop, ap, refl, subst, sym, ◌∙◌, ◌↔◌, length-drop}
use Rattle.std.specs.Prelude.{IsTrue, ◌==◌, ◌||◌}
use Rattle.std.proofs.lemmas.Bool.{cases_Bool, eqb-true, false_from_ne_true, false≢true}
use Rattle.std.proofs.lemmas.List.{take_at, take-append-drop}
use Rattle.sg_base.specs.Octets.{same_octets}
use Rattle.sg_base.specs.declared.addresses.Kind.{Kind}
use Rattle.sg_base.specs.declared.addresses.Kind.TheVariants.{Rtp, Rtcp}
use Rattle.sg_hmac.specs.States.{IsTagOf}
use Rattle.sg_base.proofs.SameOctets.{same_octets_true, same_octets_is}
use Rattle.sg_hmac.specs.Hmac.{hmac_sha1}
use Rattle.sg_states.specs.Parts.{covered_by, is_tag_len, prefix_of, tag_fits_at, tag_of}

-- a test that holds exactly where two lists are the same
is_same_octets : (b : Bool) (xs ys : List ℕ) → (b ≡ true → xs ≡ ys) → (xs ≡ ys → b ≡ true) → b ≡ same_octets xs ys
is_same_octets true xs ys same back = sym (same_octets_true xs ys (same refl))
is_same_octets false xs ys same back = sym (false_from_ne_true _ (λ is. false≢true (back (same_octets_is xs ys is))))

-- a tag of t octets that is a front of the code is its first t octets
pub tag_test : (r : Bool) (tag whole : List ℕ) (t : ℕ) → length tag ≡ t → IsTrue r ↔ IsTagOf tag whole → r ≡ same_octets tag (take t whole)
tag_test r tag whole t size says =
    is_same_octets r tag (take t whole)
    (λ is. let fits = says.0 is in sym (take_at tag fits.0 t size) ∙ ap (take t) (sym fits.1))
    (λ same. says.1 (drop t whole, sym (take-append-drop t whole) ∙ ap (λ prefix. prefix ++ drop t whole) (sym same)))

-- a tag is no longer than a code
pub tag_within : (kind : Kind) (n : ℕ) → is_tag_len kind n ≡ true → n ≤ 20
tag_within Rtp n e = elim (cases_Bool (n == 10)) [
  | inl ten ↦ omega (arith, eqb-true n 10 ten)
  | inr other ↦ (let four : (n == 4) ≡ true = subst (λ (b : Bool). (b || (n == 4)) ≡ true) other e in omega (arith, eqb-true n 4 four))
]
tag_within Rtcp n e = omega (arith, eqb-true n 10 e)

-- a test of the tag by the code over what stands before the MKI is that of the definition
pub tag_says : (kind : Kind) (m t index : ℕ) (octets auth tag whole : List ℕ) (r : Bool) → t ≤ length octets → tag ≡ tag_of t octets → whole ≡ hmac_sha1 auth (covered_by kind index (prefix_of m t octets))
    → IsTrue r ↔ IsTagOf tag whole → r ≡ tag_fits_at kind m t index octets auth
tag_says kind m t index octets auth tag whole r inside back code says =
    let size : length tag ≡ t = ap length back ∙ omega (arith, length-drop (length octets - t) octets) in
    tag_test r tag whole t size says ∙ (λ i. same_octets (back i) (take t (code i)))
