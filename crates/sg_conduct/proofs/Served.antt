-- Crypto sessions that give streams serve: there are two for each medium, each under a policy that is served.
use Rattle.std.proofs.Common.{◌≡◌, inl, inr, ℕ, ◌+◌, ◌*◌, ◌/◌, ◌%◌, Bool, true, false, cond, not, ◌&&◌, eqb, eq-eqb, eqb-true, leb, leb-true, List, [], ◌∷◌, ◌++◌, length, map, Option, Some, None, Ok, refl, sym, ◌∙◌, subst, arith}
use Rattle.std.proofs.lemmas.Bool.{and_parts, false≢true, not-false, not-true, or_parts}
use Rattle.std.proofs.lemmas.List.Folds.{Any-from_list_any}
use Rattle.std.specs.List.{AllByRecursion, Any, find, list_all, list_any}
use Rattle.std.specs.Option.{is_some, option_map}
use Rattle.sg_base.proofs.FourNumbers.{bind_some}
use Rattle.sg_base.specs.Fields.{◌>>=◌}
use Rattle.sg_base.specs.Octets.{number_of}
use Rattle.sg_base.specs.declared.faults.CsFault.{CsFault}
use Rattle.sg_base.specs.declared.faults.CsFault.TheVariants.{CsCount, PolicyMissing, PolicyValue}
use Rattle.sg_csmap.specs.CryptoSessions.{lacks_policy, or_fault, pair_in, pairs_from, stream_in, streams_of}
use Rattle.sg_csmap.specs.Policies.{Row, are_served, each_once, has_kind, is_served, is_short, meaning, protection_by, protection_of}
use Rattle.sg_csmap.specs.Policies.{rows, said_by, value_in}
use Rattle.sg_csmap.specs.declared.policies.Protection.{Protection}
use Rattle.sg_mikey.specs.declared.policy.Policy.{Policy}
use Rattle.sg_session.proofs.Inversions.{stop_if_is}
use Rattle.sg_gateway.proofs.Common.{CsEntry, StreamKeys, Tgk, any_cases, any_here, any_none, any_there, any_weaker, none_some}
use Rattle.sg_gateway.proofs.Lists.{any_first, any_second}
use Rattle.sg_conduct.specs.Offers.{AreOfOwnTypes, HasPolicy, IsServed, served}

-- ---- a value

-- what a type's row serves, in octets and in bits
abbrev values : Row → List ℕ
values r = r.served ++ cond r.in_bits (map (λ v. 8 * v) r.served) []

abbrev with_values : Row → ℕ × List ℕ
with_values r = (r.kind, values r)

all_rows : map with_values rows ≡ served
all_rows = refl

is_value : (r : Row) (n : ℕ) → is_served r n ≡ true → Any (λ v. v ≡ n) r.served
is_value r n e =
    let any = Any-from_list_any (λ v. eqb v n) r.served e in
    any_weaker (λ v. eqb v n ≡ true) (λ v. v ≡ n) (λ v same. eqb-true v n same) r.served any

in_eights : (vs : List ℕ) (n : ℕ) → n % 8 ≡ 0 → Any (λ v. v ≡ n / 8) vs → Any (λ v. v ≡ n) (map (λ v. 8 * v) vs)
in_eights [] n whole any = absurd (any_none (λ v. v ≡ n / 8) any)
in_eights (v ∷ vs) n whole any = elim (any_cases (λ v. v ≡ n / 8) v vs any) [
  | inl here ↦ any_here (λ v. v ≡ n) (8 * v) (map (λ v. 8 * v) vs) (omega (arith, whole, here))
  | inr later ↦ any_there (λ v. v ≡ n) (8 * v) (map (λ v. 8 * v) vs) (in_eights vs n whole later)
]

value_served : (r : Row) (n : ℕ) → is_some (value_in r n) ≡ true → Any (λ v. v ≡ n) (values r)
value_served r n e = go (is_served r n) (r.in_bits && eqb (n % 8) 0 && is_served r (n / 8)) refl refl e
  where
    go : (a b : Bool) → is_served r n ≡ a → (r.in_bits && eqb (n % 8) 0 && is_served r (n / 8)) ≡ b
        → is_some (cond a (Some n) (cond b (Some (n / 8)) None)) ≡ true → Any (λ v. v ≡ n) (values r)
    go true b is bits e = any_first (λ v. v ≡ n) r.served (cond r.in_bits (map (λ v. 8 * v) r.served) []) (is_value r n is)
    go false true is bits e =
        let p = and_parts (r.in_bits && eqb (n % 8) 0) (is_served r (n / 8)) bits in
        let q = and_parts r.in_bits (eqb (n % 8) 0) p.0 in
        any_second (λ v. v ≡ n) r.served (cond r.in_bits (map (λ v. 8 * v) r.served) [])
        (subst (λ b. Any (λ v. v ≡ n) (cond b (map (λ v. 8 * v) r.served) [])) (sym q.0)
        (in_eights r.served n (eqb-true (n % 8) 0 q.1) (is_value r (n / 8) p.1)))
    go false false is bits e = absurd (false≢true e)

abbrev Says : ℕ → ℕ → ℕ × List ℕ → Type 0
Says kind n row = (row.0 ≡ kind) × Any (λ v. v ≡ n) row.1

row_says : (rs : List Row) (kind n : ℕ) → is_some (find (λ (r : Row). eqb r.kind kind) rs >>= λ r. value_in r n) ≡ true
    → Any (Says kind n) (map with_values rs)
row_says [] kind n e = absurd (false≢true e)
row_says (r ∷ rs) kind n e = go (row_says rs kind n) (eqb r.kind kind) refl e
  where
    go : (is_some (find (λ (r : Row). eqb r.kind kind) rs >>= λ r. value_in r n) ≡ true → Any (Says kind n) (map with_values rs))
        → (b : Bool) → eqb r.kind kind ≡ b
        → is_some (cond b (Some r) (find (λ (r : Row). eqb r.kind kind) rs) >>= λ r. value_in r n) ≡ true
        → Any (Says kind n) (map with_values (r ∷ rs))
    go rest true same e = any_here (Says kind n) (with_values r) (map with_values rs) (eqb-true r.kind kind same, value_served r n e)
    go rest false other e = any_there (Says kind n) (with_values r) (map with_values rs) (rest e)

-- ---- a policy

item_served : (item : ℕ × List ℕ) → is_some (said_by item) ≡ true → IsServed item
unfolding said_by meaning
item_served item e = go (is_short item.1) refl e
  where
    go : (b : Bool) → is_short item.1 ≡ b → is_some (cond b (meaning item.0 (number_of item.1)) None) ≡ true → IsServed item
    go true short e =
        let p = and_parts (leb 1 (length item.1)) (leb (length item.1) 4) short in
        record {
          some = leb-true 1 (length item.1) p.0;
          few = leb-true (length item.1) 4 p.1;
          value = subst (Any (Says item.0 (number_of item.1))) all_rows (row_says rows item.0 (number_of item.1) e);
        }
    go false short e = absurd (false≢true e)

each_served : (items : List (ℕ × List ℕ)) → list_all (λ item. is_some (said_by item)) items ≡ true → AllByRecursion IsServed items
each_served [] e = tt
each_served (item ∷ items) e =
    let p = and_parts (is_some (said_by item)) (list_all (λ item. is_some (said_by item)) items) e in
    (item_served item p.0, each_served items p.1)

none_of : (kind : ℕ) (items : List (ℕ × List ℕ)) → has_kind kind items ≡ false → AllByRecursion (λ x. ¬ x.0 ≡ kind) items
none_of kind [] e = tt
none_of kind (x ∷ items) e =
    let p = or_parts (eqb x.0 kind) (has_kind kind items) e in
    ((λ same. false≢true (sym p.0 ∙ eq-eqb x.0 kind same)), none_of kind items p.1)

own_types : (items : List (ℕ × List ℕ)) → each_once items ≡ true → AreOfOwnTypes items
unfolding each_once
own_types [] e = tt
own_types (item ∷ items) e =
    let p = and_parts (not (has_kind item.0 items)) (each_once items) e in
    (none_of item.0 items (not-true (has_kind item.0 items) p.0), own_types items p.1)

items_are : (policy : Policy) (x : Protection) → protection_of policy ≡ Some x
    → AllByRecursion IsServed policy.items × AreOfOwnTypes policy.items
unfolding protection_of
items_are policy x e = go (are_served policy.items) refl e
  where
    go : (b : Bool) → are_served policy.items ≡ b → cond b (Some (protection_by policy.items)) None ≡ Some x
        → AllByRecursion IsServed policy.items × AreOfOwnTypes policy.items
    go true is e =
        let p = and_parts (list_all (λ item. is_some (said_by item)) policy.items) (each_once policy.items) is in
        (each_served policy.items p.0, own_types policy.items p.1)
    go false is e = absurd (none_some x e)

-- ---- crypto sessions

map_some : {A B : Type 0} (f : A → B) (o : Option A) (y : B) → option_map f o ≡ Some y → (x : A) × (o ≡ Some x)
map_some f (Some x) y e = (x, refl)
map_some f None y e = absurd cc

fault_none : {X : Type 0} (fault : CsFault) (o : Option X) (x : X) → or_fault fault o ≡ Ok x → (y : X) × (o ≡ Some y)
fault_none fault (Some y) x e = (y, refl)
fault_none fault None x e = absurd cc

module _ (csb : ℕ) (random : List ℕ) (policies : List Policy) (tgks : List Tgk) where
  session_has : (session : ℕ) (entry : CsEntry) (x : StreamKeys) → stream_in csb random policies tgks session entry ≡ Some x
      → HasPolicy policies entry
  unfolding stream_in
  session_has session entry x e =
      let p = bind_some (find (λ (p : Policy). eqb p.number entry.policy) policies) _ x e in
      let q = bind_some (protection_of p.0) _ x p.2 in
      let items = items_are p.0 q.0 q.1 in
      record { policy = p.0; named = p.1; each = items.0; own = items.1 }

  -- they are two for each of so many media, with those before them
  sessions_have : (session before half : ℕ) (map : List CsEntry) (xs : List (StreamKeys × StreamKeys))
      → length map + 2 * before ≡ 2 * half → pairs_from csb random policies tgks session map ≡ Some xs → AllByRecursion (HasPolicy policies) map
  unfolding pairs_from pair_in
  sessions_have session before half [] xs even e = tt
  sessions_have session before half (alone ∷ []) xs even e = absurd (omega (arith, even))
  sessions_have session before half (i ∷ r ∷ map) xs even e =
      let p = bind_some (pair_in csb random policies tgks session i r) _ xs e in
      let rest = map_some (λ pairs. p.0 ∷ pairs) (pairs_from csb random policies tgks (session + 2) map) xs p.2 in
      let a = bind_some (stream_in csb random policies tgks session i) _ p.0 p.1 in
      let b = bind_some (stream_in csb random policies tgks (session + 1) r) _ p.0 a.2 in
      let later = sessions_have (session + 2) (before + 1) half map rest.0 (omega (arith, even)) rest.1 in
      (session_has session i a.0 a.1, (session_has (session + 1) r b.0 b.1, later))

  pub sessions_serve : (map : List CsEntry) (media : ℕ) (xs : List (StreamKeys × StreamKeys))
      → streams_of csb random map policies tgks media ≡ Ok xs → (length map ≡ 2 * media) × AllByRecursion (HasPolicy policies) map
  unfolding streams_of
  sessions_serve map media xs e =
      let counted = stop_if_is (not (eqb (length map) (2 * media))) CsCount _ xs e in
      let named = stop_if_is (list_any (lacks_policy policies) map) PolicyMissing _ xs counted.1 in
      let given = fault_none PolicyValue (pairs_from csb random policies tgks 1 map) xs named.1 in
      let many = eqb-true (length map) (2 * media) (not-false (eqb (length map) (2 * media)) counted.0) in
      (many, sessions_have 1 0 media map given.0 (omega (arith, many)) given.1)
