-- One octets more in a map.
use Rattle.std.proofs.Common.{◌≡◌, ℕ, true, false, List, Option, Some, None, Vec, Ordering, refl, sym, subst, ◌∙◌, inl, inr}
use Rattle.std.specs.Prelude.{if◌then◌else◌, is_some}
use Rattle.std.specs.Str.{bytes_eq}
use Rattle.std.specs.BTreeMap.{BTreeMap, UpdatesBy, is_at}
use Rattle.std.specs.Cmp.{eq_by_cmp_equiv}
use Rattle.std.specs.Cmp.Lexicographic.{slice_cmp, nat_list_cmp_total, nat_list_eq_equiv}
use Rattle.std.specs.Map.{KeepsOthers}
use Rattle.std.specs.Ordering.{is_eq, nat_cmp, eq_by_cmp}
use Rattle.std.proofs.lemmas.Bool.{cases_Bool, true≢false, false≢true}
use Rattle.std.proofs.lemmas.Map.Text.{is_eq-slice_cmp}
use Rattle.std.proofs.lemmas.Slice.Eq.{bytes_eq-Decides}
use Rattle.sg_base.specs.Octets.{same_octets}
use Rattle.sg_base.proofs.SameOctets.{same_octets_true, same_octets_is}
use Rattle.sg_keys.specs.Indexed.{at_octets}
use Rattle.std.specs.Option.{option_or}

pub or_none : (o : Option ℕ) → option_or o None ≡ o
or_none None = refl
or_none (Some n) = refl

or_some : (o other : Option ℕ) → is_some o ≡ true → o ≡ option_or o other
or_some None other e = absurd (false≢true e)
or_some (Some n) other e = refl

pub is_none : (o : Option ℕ) → is_some o ≡ false → o ≡ None
is_none None e = refl
is_none (Some n) e = absurd (true≢false e)

bytes_apart : (bs cs : List ℕ) → same_octets bs cs ≡ false → bytes_eq bs cs ≡ false
bytes_apart bs cs n = elim (cases_Bool (bytes_eq bs cs)) [
  | inl y ↦ absurd (true≢false (sym (same_octets_true bs cs ((bytes_eq-Decides bs cs).0 y)) ∙ n))
  | inr x ↦ x
]

apart : (bs cs ks : List ℕ) → bytes_eq bs cs ≡ false → is_eq (slice_cmp nat_cmp bs ks) ≡ true → is_eq (slice_cmp nat_cmp cs ks) ≡ false
apart bs cs ks n y = is_eq-slice_cmp cs ks ∙ nat_list_eq_equiv.symm cs ks ∙ sym (nat_list_eq_equiv.congr bs ks cs (sym (is_eq-slice_cmp bs ks) ∙ y)) ∙ n

module _ {Y : Type 0} where
  abbrev vec_cmp : Vec ℕ Y → Vec ℕ Y → Ordering
  vec_cmp a b = slice_cmp nat_cmp a.items b.items

  others : (key : List ℕ) (m n : BTreeMap (Vec ℕ Y) ℕ) → KeepsOthers (eq_by_cmp vec_cmp) (is_at (λ k. slice_cmp nat_cmp key k.items)) m.entries n.entries
      → (any : List ℕ) → bytes_eq key any ≡ false → at_octets n any ≡ at_octets m any
  unfolding KeepsOthers
  others key m n h any e = h _ (λ x y. (eq_by_cmp_equiv nat_list_cmp_total).congr any x.items y.items) (λ k. apart key any k.items e)

  pub first_kept : (m n : BTreeMap (Vec ℕ Y) ℕ) (key : List ℕ) (number : ℕ) → UpdatesBy vec_cmp (λ k. slice_cmp nat_cmp key k.items) m n (Some number) → at_octets m key ≡ None
      → (any : List ℕ) → at_octets n any ≡ option_or (at_octets m any) (if same_octets key any then Some number else None)
  first_kept m n key number h absent any = elim (cases_Bool (same_octets key any)) [
    | inl y ↦ rw y (subst (λ o. at_octets n o ≡ option_or (at_octets m o) (Some number)) (same_octets_is key any y) (rw absent h.1))
    | inr x ↦ rw x (others key m n h.3 any (bytes_apart key any x) ∙ sym (or_none (at_octets m any)))
  ]

  pub first_stays : (m : BTreeMap (Vec ℕ Y) ℕ) (key : List ℕ) (number : ℕ) → is_some (at_octets m key) ≡ true
      → (any : List ℕ) → at_octets m any ≡ option_or (at_octets m any) (if same_octets key any then Some number else None)
  first_stays m key number has any = elim (cases_Bool (same_octets key any)) [
    | inl y ↦ rw y (subst (λ o. at_octets m o ≡ option_or (at_octets m o) (Some number)) (same_octets_is key any y) (or_some (at_octets m key) (Some number) has))
    | inr x ↦ rw x (sym (or_none (at_octets m any)))
  ]
