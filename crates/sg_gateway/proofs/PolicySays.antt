-- What a policy means is what its items say.
use Rattle.std.proofs.Common.{◌≡◌, ◌⊎◌, inl, inr, ℕ, ◌*◌, ◌/◌, ◌%◌, Bool, true, false, cond, ◌&&◌, ◌||◌, eqb, eqb-true, List, [], ◌∷◌, Option, Some, None, refl, sym, ap, ◌∙◌, subst, arith}
use Rattle.std.proofs.lemmas.Bool.{and_parts, eqb-false}
use Rattle.std.proofs.lemmas.List.Elements.{All-from_recursion}
use Rattle.std.specs.List.{AllByRecursion, Any, find, list_all, list_any}
use Rattle.std.specs.Option.{is_some, option_and_then}
use Rattle.sg_agreement.proofs.Inversions.{each_true, find_all}
use Rattle.sg_base.proofs.Cases.{and_then_some, guarded, some_is}
use Rattle.sg_base.specs.Octets.{number_of}
use Rattle.sg_base.specs.Suites.{key_len_of, tag_len_of}
use Rattle.sg_base.specs.declared.suites.Suite.TheVariants.{Cm128Tag80, Cm128Tag32, Cm192Tag80, Cm192Tag32, Cm256Tag80, Cm256Tag32}
use Rattle.sg_csmap.specs.Policies.{Row, are_served, each_once, is_served, is_short, meaning, protection_by, protection_of, rows, said_by, said_or, suite_of, value_in, value_of}
use Rattle.sg_csmap.specs.declared.policies.Protection.{Protection}
use Rattle.sg_mikey.specs.declared.policy.Policy.{Policy}
use Rattle.sg_session.proofs.Lists.{any_here, any_there, any_weaker, both}
use Rattle.sg_gateway.specs.CryptoSessions.{Says}

-- ---- one value

eighth : (n : ℕ) → n % 8 ≡ 0 → n ≡ 8 * (n / 8)
eighth n e = omega (arith, e)

-- a number means a value that its type serves, itself or in bits
record Means (r : Row) (n v : ℕ) : Type 0 where
  served : is_served r v ≡ true
  number : (n ≡ v) ⊎ (n ≡ 8 * v)

value_means : (r : Row) (n v : ℕ) → value_in r n ≡ Some v → Means r n v
value_means r n v e = go (is_served r n) refl e
  where
    in_bits : is_served r (n / 8) ≡ true → n % 8 ≡ 0 → n / 8 ≡ v → Means r n v
    in_bits on whole is = record { served = subst (λ v. is_served r v ≡ true) is on; number = inr (eighth n whole ∙ ap (λ v. 8 * v) is) }

    go : (b : Bool) → is_served r n ≡ b → cond b (Some n) (cond (r.in_bits && eqb (n % 8) 0 && is_served r (n / 8)) (Some (n / 8)) None) ≡ Some v → Means r n v
    go true on e = let same : n ≡ v = some_is n v e in record { served = subst (λ v. is_served r v ≡ true) same on; number = inl same }
    go false on e =
        let g = guarded (r.in_bits && eqb (n % 8) 0 && is_served r (n / 8)) (n / 8) v e in
        let p = and_parts (r.in_bits && eqb (n % 8) 0) (is_served r (n / 8)) g.0 in
        let q = and_parts r.in_bits (eqb (n % 8) 0) p.0 in
        in_bits p.1 (eqb-true (n % 8) 0 q.1) g.1

-- of a type of this row
record MeansIn (kind n v : ℕ) : Type 0 where
  row : Row
  found : find (λ (r : Row). eqb r.kind kind) rows ≡ Some row
  means : Means row n v

meaning_is : (kind n v : ℕ) → meaning kind n ≡ Some v → MeansIn kind n v
unfolding meaning
meaning_is kind n v e =
    let a = and_then_some (find (λ (r : Row). eqb r.kind kind) rows) (λ r. value_in r n) v e in
    record { row = a.0; found = a.1; means = value_means a.0 n v a.2 }

said_is : (item : ℕ × List ℕ) (v : ℕ) → said_by item ≡ Some v → MeansIn item.0 (number_of item.1) v
unfolding said_by
said_is item v e = meaning_is item.0 (number_of item.1) v (guarded_either (is_short item.1) e)
  where
    guarded_either : (b : Bool) → cond b (meaning item.0 (number_of item.1)) None ≡ Some v → meaning item.0 (number_of item.1) ≡ Some v
    guarded_either true e = e
    guarded_either false e = absurd cc

-- ---- the items

-- the first of a type, or that there is none
abbrev First : ℕ → List (ℕ × List ℕ) → Type 0
First kind items =
    ((find (λ item. eqb item.0 kind) items ≡ None) × AllByRecursion (λ item. ¬ (item.0 ≡ kind)) items)
    ⊎ ((item : ℕ × List ℕ) × (find (λ item. eqb item.0 kind) items ≡ Some item) × (item.0 ≡ kind) × Any (λ x. x ≡ item) items)

first_of_kind : (kind : ℕ) (items : List (ℕ × List ℕ)) → First kind items
first_of_kind kind [] = inl (refl, tt)
first_of_kind kind (item ∷ items) = go (eqb item.0 kind) refl (first_of_kind kind items)
  where
    this : find (λ item. eqb item.0 kind) (item ∷ items) ≡ cond (eqb item.0 kind) (Some item) (find (λ item. eqb item.0 kind) items)
    this = refl

    go : (b : Bool) → eqb item.0 kind ≡ b → First kind items → First kind (item ∷ items)
    go true is rest = inr (item, (rw is refl), eqb-true item.0 kind is, any_here (λ x. x ≡ item) item items refl)
    go false is (inl none) = inl ((rw is none.0), ((λ e. eqb-false item.0 kind is e), none.1))
    go false is (inr one) = inr (one.0, (rw is one.1), one.2, any_there (λ x. x ≡ one.0) item items one.3)

-- what is said of a type, and how it is had
record IsSaid (items : List (ℕ × List ℕ)) (kind default value : ℕ) : Type 0 where
  says : Says items kind default value
  from : (value ≡ default) ⊎ ((row : Row) × (find (λ (r : Row). eqb r.kind kind) rows ≡ Some row) × (is_served row value ≡ true))

there_is : (o : Option ℕ) → is_some o ≡ true → (v : ℕ) × (o ≡ Some v)
there_is (Some v) e = (v, refl)
there_is None e = absurd cc

value_said : (items : List (ℕ × List ℕ)) (kind default : ℕ) → list_all (λ item. is_some (said_by item)) items ≡ true → IsSaid items kind default (value_of items kind default)
unfolding value_of
value_said items kind default all = go (first_of_kind kind items)
  where
    go : First kind items → IsSaid items kind default (said_or default (option_and_then said_by (find (λ item. eqb item.0 kind) items)))
    go (inl none) = subst (IsSaid items kind default) (sym (ap (λ (o : Option (ℕ × List ℕ)). said_or default (option_and_then said_by o)) none.0))
        (record { says = inl (All-from_recursion (λ item. ¬ (item.0 ≡ kind)) items none.1, refl); from = inl refl })
    go (inr one) =
        let said = there_is (said_by one.0) (find_all (λ item. is_some (said_by item) ≡ true) (λ item. eqb item.0 kind) items one.0 one.1 (each_true (λ item. is_some (said_by item)) items all)) in
        let m = said_is one.0 said.0 said.1 in
        let value : said.0 ≡ said_or default (option_and_then said_by (find (λ item. eqb item.0 kind) items)) =
        sym (ap (λ (o : Option (ℕ × List ℕ)). said_or default (option_and_then said_by o)) one.1 ∙ ap (said_or default) said.1) in
        subst (IsSaid items kind default) value (record {
          says = inr (any_weaker (λ x. x ≡ one.0) (λ item. (item.0 ≡ kind) × ((number_of item.1 ≡ said.0) ⊎ (number_of item.1 ≡ 8 * said.0)))
              (λ x same. subst (λ (item : ℕ × List ℕ). (item.0 ≡ kind) × ((number_of item.1 ≡ said.0) ⊎ (number_of item.1 ≡ 8 * said.0))) (sym same) (one.2, m.means.number)) items one.3);
          from = inr (m.row, subst (λ kind. find (λ (r : Row). eqb r.kind kind) rows ≡ Some m.row) one.2 m.found, m.means.served);
        })

-- ---- a suite has the lengths that are said

one_of_two : (a b v : ℕ) → list_any (λ w. eqb w v) (a ∷ b ∷ []) ≡ true → (a ≡ v) ⊎ (b ≡ v)
one_of_two a b v e = go (eqb a v) (eqb b v) refl refl e
  where
    go : (p q : Bool) → eqb a v ≡ p → eqb b v ≡ q → (p || (q || false)) ≡ true → (a ≡ v) ⊎ (b ≡ v)
    go true q x y e = inl (eqb-true a v x)
    go false true x y e = inr (eqb-true b v y)
    go false false x y e = absurd cc

one_of_three : (a b c v : ℕ) → list_any (λ w. eqb w v) (a ∷ b ∷ c ∷ []) ≡ true → (a ≡ v) ⊎ (b ≡ v) ⊎ (c ≡ v)
one_of_three a b c v e = go (eqb a v) refl e
  where
    go : (p : Bool) → eqb a v ≡ p → (p || list_any (λ w. eqb w v) (b ∷ c ∷ [])) ≡ true → (a ≡ v) ⊎ (b ≡ v) ⊎ (c ≡ v)
    go true x e = inl (eqb-true a v x)
    go false x e = inr (one_of_two b c v e)

key_said : (items : List (ℕ × List ℕ)) (v t : ℕ) → IsSaid items 1 16 v → key_len_of (suite_of v t) ≡ v
key_said items v t is = go is.from
  where
    of_row : (16 ≡ v) ⊎ (24 ≡ v) ⊎ (32 ≡ v) → key_len_of (suite_of v t) ≡ v
    of_row (inl e) = subst (λ v. key_len_of (suite_of v t) ≡ v) e (both (λ s. key_len_of s ≡ 16) (eqb t 10) Cm128Tag80 Cm128Tag32 refl refl)
    of_row (inr (inl e)) = subst (λ v. key_len_of (suite_of v t) ≡ v) e (both (λ s. key_len_of s ≡ 24) (eqb t 10) Cm192Tag80 Cm192Tag32 refl refl)
    of_row (inr (inr e)) = subst (λ v. key_len_of (suite_of v t) ≡ v) e (both (λ s. key_len_of s ≡ 32) (eqb t 10) Cm256Tag80 Cm256Tag32 refl refl)

    go : (v ≡ 16) ⊎ ((row : Row) × (find (λ (r : Row). eqb r.kind 1) rows ≡ Some row) × (is_served row v ≡ true)) → key_len_of (suite_of v t) ≡ v
    go (inl e) = of_row (inl (sym e))
    go (inr r) = of_row (one_of_three 16 24 32 v (subst (λ (row : Row). is_served row v ≡ true) (sym (some_is _ r.0 r.1)) r.2))

tag_said : (items : List (ℕ × List ℕ)) (k v : ℕ) → IsSaid items 11 10 v → tag_len_of (suite_of k v) ≡ v
tag_said items k v is = go is.from
  where
    of_row : (10 ≡ v) ⊎ (4 ≡ v) → tag_len_of (suite_of k v) ≡ v
    of_row (inl e) = subst (λ v. tag_len_of (suite_of k v) ≡ v) e (both (λ s. tag_len_of s ≡ 10) (eqb k 16) Cm128Tag80 _ refl (both (λ s. tag_len_of s ≡ 10) (eqb k 24) Cm192Tag80 Cm256Tag80 refl refl))
    of_row (inr e) = subst (λ v. tag_len_of (suite_of k v) ≡ v) e (both (λ s. tag_len_of s ≡ 4) (eqb k 16) Cm128Tag32 _ refl (both (λ s. tag_len_of s ≡ 4) (eqb k 24) Cm192Tag32 Cm256Tag32 refl refl))

    go : (v ≡ 10) ⊎ ((row : Row) × (find (λ (r : Row). eqb r.kind 11) rows ≡ Some row) × (is_served row v ≡ true)) → tag_len_of (suite_of k v) ≡ v
    go (inl e) = of_row (inl (sym e))
    go (inr r) = of_row (one_of_two 10 4 v (subst (λ (row : Row). is_served row v ≡ true) (sym (some_is _ r.0 r.1)) r.2))

-- ---- the policy

-- what a policy means, in words of its items
pub record IsByItems (items : List (ℕ × List ℕ)) (p : Protection) : Type 0 where
  pub key_len : Says items 1 16 (key_len_of p.suite)
  pub tag_len : Says items 11 10 (tag_len_of p.suite)
  pub rtp : ℕ
  pub says_rtp : Says items 7 1 rtp
  pub plain_rtp : p.plain_rtp ≡ eqb rtp 0
  pub rtcp : ℕ
  pub says_rtcp : Says items 8 1 rtcp
  pub plain_rtcp : p.plain_rtcp ≡ eqb rtcp 0

pub by_items : (policy : Policy) (p : Protection) → protection_of policy ≡ Some p → IsByItems policy.items p
unfolding protection_of
by_items policy p e =
    let g = guarded (are_served policy.items) (protection_by policy.items) p e in
    let all = (and_parts (list_all (λ item. is_some (said_by item)) policy.items) (each_once policy.items) g.0).0 in
    let key = value_said policy.items 1 16 all in
    let tag = value_said policy.items 11 10 all in
    let key_is = key_said policy.items (value_of policy.items 1 16) (value_of policy.items 11 10) key in
    let tag_is = tag_said policy.items (value_of policy.items 1 16) (value_of policy.items 11 10) tag in
    subst (IsByItems policy.items) g.1 (record {
      key_len = subst (Says policy.items 1 16) (sym key_is) key.says;
      tag_len = subst (Says policy.items 11 10) (sym tag_is) tag.says;
      rtp = value_of policy.items 7 1;
      says_rtp = (value_said policy.items 7 1 all).says;
      plain_rtp = refl;
      rtcp = value_of policy.items 8 1;
      says_rtcp = (value_said policy.items 8 1 all).says;
      plain_rtcp = refl;
    })
