-- A payload that is read is the payload that was written, and what was written is read again.
use Rattle.std.proofs.Common.{◌≡◌, ℕ, zero, suc, ◌+◌, ◌-◌, ◌%◌, ◌^◌, ◌<◌, ◌≤◌, true, List, [], ◌∷◌, ◌++◌, length, Result, Ok, Err, refl, sym, ap, subst, ◌∙◌, append_assoc, length-append, arith, ◌⊎◌, inl, inr}
use Rattle.std.specs.List.{flat_map, AllByRecursion}
use Rattle.std.proofs.lemmas.List.Concat.{flat_map-cons}
use Rattle.sg_base.specs.Octets.{be}
use Rattle.sg_base.specs.declared.MikeyFault.TheVariants as faults
use Rattle.sg_mikey.specs.declared.faults.Stop.{Stop}
use Rattle.sg_mikey.specs.declared.payload.Payload.{Payload}
use Rattle.sg_mikey.specs.declared.payload.Payload.TheVariants.{Time, Random, Id, Sp, Extension, Kemac, Verify}
use Rattle.sg_mikey.specs.declared.policy.Policy.{Policy}
use Rattle.sg_mikey.specs.Spelling.{payload_number, sized, item_octets, body_octets, tag_length, FitsItem, IsPayload}
use Rattle.sg_mikey.specs.Reading.{◌>>=◌, Chained, octet_at, up_to_at, octets_at, number_at, sized_at, is_number, next_at, kemac_at, time_at, id_at, verify_at, random_at, extension_at, item_type_at, item_at, items_at, policy_at, payload_at}
use Rattle.sg_mikey.proofs.FieldLaws.{IsOctets, took, ok_is, Takes, Takes-then, octet_takes, octet_again, up_to_takes, up_to_again, octets_takes, octets_again, wide_two, number_takes, number_again, sized_takes, sized_again, next_takes, next_again, item_type_takes, item_type_again}

-- what a reader of a payload took
pub record TakesChained (octets : List ℕ) (number : ℕ) (link : Chained) : Type 0 where
  pub takes : Takes octets (link.1 ∷ body_octets link.0) link.2
  pub payload : IsPayload link.0
  pub number_is : payload_number link.0 ≡ number
  pub known : is_number link.1 ≡ true

-- ---- KEMAC

kemac_takes : (octets : List ℕ) (y : Chained) → IsOctets octets → kemac_at octets ≡ Ok y → TakesChained octets 1 y
unfolding kemac_at
kemac_takes octets y fits e =
    took (next_at octets) _ y (λ x. next_takes octets x fits) e (λ a ta ea.
    took (up_to_at 2 faults.Value a.1) _ y (λ x. up_to_takes 2 faults.Value a.1 x ta.0.rest_fits) ea (λ b tb eb.
    took (sized_at b.1) _ y (λ x. sized_takes b.1 x tb.0.rest_fits) eb (λ c tc ec.
    took (up_to_at 1 faults.Value c.1) _ y (λ x. up_to_takes 1 faults.Value c.1 x tc.0.rest_fits) ec (λ d td ed.
    took (octets_at (tag_length d.0) d.1) _ y (λ x. octets_takes (tag_length d.0) d.1 x td.0.rest_fits) ed (λ t tt' et.
    subst (λ (z : Chained). TakesChained octets 1 z) (ok_is (Kemac b.0 c.0 d.0 t.0, a.0, t.1) y et)
    (record {
      takes = Takes-then _ _ _ _ _ ta.0 (Takes-then _ _ _ _ _ tb.0 (Takes-then _ _ _ _ _ tc.0 (Takes-then _ _ _ _ _ td.0 tt'.0)));
      payload = (tc.1, (tb.1, td.1, tt'.1));
      number_is = refl;
      known = ta.1;
    }))))))

kemac_again : (cipher : ℕ) (inner : List ℕ) (mac : ℕ) (tag : List ℕ) (next : ℕ) (rest : List ℕ) → IsPayload (Kemac cipher inner mac tag) → is_number next ≡ true
    → kemac_at (next ∷ (body_octets (Kemac cipher inner mac tag) ++ rest)) ≡ Ok (Kemac cipher inner mac tag, next, rest)
unfolding kemac_at
kemac_again cipher inner mac tag next rest p known =
    let regrouped : (sized inner ++ mac ∷ tag) ++ rest ≡ sized inner ++ mac ∷ (tag ++ rest) = append_assoc (sized inner) (mac ∷ tag) rest in
    rw (
      next_again next (cipher ∷ ((sized inner ++ mac ∷ tag) ++ rest)) known,
      up_to_again 2 faults.Value cipher ((sized inner ++ mac ∷ tag) ++ rest) p.1.0,
      ap sized_at regrouped,
      sized_again inner (mac ∷ (tag ++ rest)) p.0,
      up_to_again 1 faults.Value mac (tag ++ rest) p.1.1,
      octets_again (tag_length mac) tag rest p.1.2,
    ) refl

-- ---- T

time_takes : (octets : List ℕ) (y : Chained) → IsOctets octets → time_at octets ≡ Ok y → TakesChained octets 5 y
unfolding time_at
time_takes octets y fits e =
    took (next_at octets) _ y (λ x. next_takes octets x fits) e (λ a ta ea.
    took (up_to_at 1 faults.Value a.1) _ y (λ x. up_to_takes 1 faults.Value a.1 x ta.0.rest_fits) ea (λ b tb eb.
    took (octets_at 8 b.1) _ y (λ x. octets_takes 8 b.1 x tb.0.rest_fits) eb (λ c tc ec.
    subst (λ (z : Chained). TakesChained octets 5 z) (ok_is (Time b.0 c.0, a.0, c.1) y ec)
    (record { takes = Takes-then _ _ _ _ _ ta.0 (Takes-then _ _ _ _ _ tb.0 tc.0); payload = (tt, (tb.1, tc.1)); number_is = refl; known = ta.1 }))))

time_again : (form : ℕ) (stamp : List ℕ) (next : ℕ) (rest : List ℕ) → IsPayload (Time form stamp) → is_number next ≡ true
    → time_at (next ∷ (body_octets (Time form stamp) ++ rest)) ≡ Ok (Time form stamp, next, rest)
unfolding time_at
time_again form stamp next rest p known =
    rw (next_again next (form ∷ (stamp ++ rest)) known, up_to_again 1 faults.Value form (stamp ++ rest) p.1.0, octets_again 8 stamp rest p.1.1) refl

-- ---- ID

id_takes : (octets : List ℕ) (y : Chained) → IsOctets octets → id_at octets ≡ Ok y → TakesChained octets 6 y
unfolding id_at
id_takes octets y fits e =
    took (next_at octets) _ y (λ x. next_takes octets x fits) e (λ a ta ea.
    took (up_to_at 1 faults.Value a.1) _ y (λ x. up_to_takes 1 faults.Value a.1 x ta.0.rest_fits) ea (λ b tb eb.
    took (sized_at b.1) _ y (λ x. sized_takes b.1 x tb.0.rest_fits) eb (λ c tc ec.
    subst (λ (z : Chained). TakesChained octets 6 z) (ok_is (Id b.0 c.0, a.0, c.1) y ec)
    (record { takes = Takes-then _ _ _ _ _ ta.0 (Takes-then _ _ _ _ _ tb.0 tc.0); payload = (tc.1, tb.1); number_is = refl; known = ta.1 }))))

id_again : (form : ℕ) (name : List ℕ) (next : ℕ) (rest : List ℕ) → IsPayload (Id form name) → is_number next ≡ true
    → id_at (next ∷ (body_octets (Id form name) ++ rest)) ≡ Ok (Id form name, next, rest)
unfolding id_at
id_again form name next rest p known =
    rw (next_again next (form ∷ (sized name ++ rest)) known, up_to_again 1 faults.Value form (sized name ++ rest) p.1, sized_again name rest p.0) refl

-- ---- V

verify_takes : (octets : List ℕ) (y : Chained) → IsOctets octets → verify_at octets ≡ Ok y → TakesChained octets 9 y
unfolding verify_at
verify_takes octets y fits e =
    took (next_at octets) _ y (λ x. next_takes octets x fits) e (λ a ta ea.
    took (up_to_at 1 faults.Value a.1) _ y (λ x. up_to_takes 1 faults.Value a.1 x ta.0.rest_fits) ea (λ b tb eb.
    took (octets_at (tag_length b.0) b.1) _ y (λ x. octets_takes (tag_length b.0) b.1 x tb.0.rest_fits) eb (λ c tc ec.
    subst (λ (z : Chained). TakesChained octets 9 z) (ok_is (Verify b.0 c.0, a.0, c.1) y ec)
    (record { takes = Takes-then _ _ _ _ _ ta.0 (Takes-then _ _ _ _ _ tb.0 tc.0); payload = (tt, (tb.1, tc.1)); number_is = refl; known = ta.1 }))))

verify_again : (mac : ℕ) (tag : List ℕ) (next : ℕ) (rest : List ℕ) → IsPayload (Verify mac tag) → is_number next ≡ true
    → verify_at (next ∷ (body_octets (Verify mac tag) ++ rest)) ≡ Ok (Verify mac tag, next, rest)
unfolding verify_at
verify_again mac tag next rest p known =
    rw (next_again next (mac ∷ (tag ++ rest)) known, up_to_again 1 faults.Value mac (tag ++ rest) p.1.0, octets_again (tag_length mac) tag rest p.1.1) refl

-- ---- RAND

random_takes : (octets : List ℕ) (y : Chained) → IsOctets octets → random_at octets ≡ Ok y → TakesChained octets 11 y
unfolding random_at
random_takes octets y fits e =
    took (next_at octets) _ y (λ x. next_takes octets x fits) e (λ a ta ea.
    took (octet_at a.1) _ y (λ x. octet_takes a.1 x ta.0.rest_fits) ea (λ b tb eb.
    took (octets_at b.0 b.1) _ y (λ x. octets_takes b.0 b.1 x tb.0.rest_fits) eb (λ c tc ec.
    let size : b.0 ≡ length c.0 % 256 = omega (arith, tb.1, tc.1) in
    let prefix : Takes a.1 (be (length c.0) 1) b.1 = subst (λ (n : ℕ). Takes a.1 (n ∷ []) b.1) size tb.0 in
    subst (λ (z : Chained). TakesChained octets 11 z) (ok_is (Random c.0, a.0, c.1) y ec)
    (record { takes = Takes-then _ _ _ _ _ ta.0 (Takes-then _ _ _ _ _ prefix tc.0); payload = (rw tc.1 tb.1, tt); number_is = refl; known = ta.1 }))))

random_again : (inner : List ℕ) (next : ℕ) (rest : List ℕ) → length inner < 2 ^ 8 → is_number next ≡ true
    → random_at (next ∷ (body_octets (Random inner) ++ rest)) ≡ Ok (Random inner, next, rest)
unfolding random_at
random_again inner next rest fits known =
    let size : length inner % 256 ≡ length inner = omega (arith, fits) in
    ap (λ (n : ℕ). random_at (next ∷ n ∷ (inner ++ rest))) size
    ∙ rw (next_again next (length inner ∷ (inner ++ rest)) known, octet_again (length inner) (inner ++ rest), octets_again (length inner) inner rest refl) refl

-- ---- general extension

extension_takes : (octets : List ℕ) (y : Chained) → IsOctets octets → extension_at octets ≡ Ok y → TakesChained octets 21 y
unfolding extension_at
extension_takes octets y fits e =
    took (next_at octets) _ y (λ x. next_takes octets x fits) e (λ a ta ea.
    took (octet_at a.1) _ y (λ x. octet_takes a.1 x ta.0.rest_fits) ea (λ b tb eb.
    took (sized_at b.1) _ y (λ x. sized_takes b.1 x tb.0.rest_fits) eb (λ c tc ec.
    subst (λ (z : Chained). TakesChained octets 21 z) (ok_is (Extension b.0 c.0, a.0, c.1) y ec)
    (record { takes = Takes-then _ _ _ _ _ ta.0 (Takes-then _ _ _ _ _ tb.0 tc.0); payload = (tc.1, tt); number_is = refl; known = ta.1 }))))

extension_again : (form : ℕ) (inner : List ℕ) (next : ℕ) (rest : List ℕ) → IsPayload (Extension form inner) → is_number next ≡ true
    → extension_at (next ∷ (body_octets (Extension form inner) ++ rest)) ≡ Ok (Extension form inner, next, rest)
unfolding extension_at
extension_again form inner next rest p known =
    rw (next_again next (form ∷ (sized inner ++ rest)) known, octet_again form (sized inner ++ rest), sized_again inner rest p.0) refl

-- ---- items of a policy

abbrev Item : Type 0
Item = ℕ × List ℕ

first_octet : (octets : List ℕ) (x : ℕ) (rest : List ℕ) → IsOctets octets → Takes octets (x ∷ []) rest → x < 256
first_octet octets x rest fits t = let h = subst (λ (l : List ℕ). IsOctets l) t.parts fits in h 0

item_takes : (room : ℕ) (octets : List ℕ) (y : Item × List ℕ) → IsOctets octets → item_at room octets ≡ Ok y
    → Takes octets (item_octets y.0) y.1 × FitsItem y.0 × (2 + length y.0.1 ≤ room)
unfolding item_at
item_takes room octets y fits e =
    took (item_type_at room octets) _ y (λ x. item_type_takes room octets x fits) e (λ a ta ea.
    took (up_to_at (room - 2) faults.Value a.1) _ y (λ x. up_to_takes (room - 2) faults.Value a.1 x ta.0.rest_fits) ea (λ b tb eb.
    took (octets_at b.0 b.1) _ y (λ x. octets_takes b.0 b.1 x tb.0.rest_fits) eb (λ c tc ec.
    let small : b.0 < 256 = first_octet a.1 b.0 b.1 ta.0.rest_fits tb.0 in
    let size : b.0 ≡ length c.0 % 256 = omega (arith, small, tc.1) in
    let prefix : Takes a.1 (be (length c.0) 1) b.1 = subst (λ (n : ℕ). Takes a.1 (n ∷ []) b.1) size tb.0 in
    subst (λ (z : Item × List ℕ). Takes octets (item_octets z.0) z.1 × FitsItem z.0 × (2 + length z.0.1 ≤ room)) (ok_is ((a.0, c.0), c.1) y ec)
    (Takes-then _ _ _ _ _ ta.0 (Takes-then _ _ _ _ _ prefix tc.0), rw tc.1 small, omega (arith, ta.1, tb.1, tc.1)))))

pub items_take : (fuel room : ℕ) (octets : List ℕ) (y : List Item × List ℕ) → IsOctets octets → room ≤ fuel → items_at fuel room octets ≡ Ok y
    → Takes octets (flat_map item_octets y.0) y.1 × (length (flat_map item_octets y.0) ≡ room) × AllByRecursion FitsItem y.0
unfolding items_at
items_take zero room octets y fits le e =
    let none : List Item × List ℕ = ([], octets) in
    subst (λ (z : List Item × List ℕ). Takes octets (flat_map item_octets z.0) z.1 × (length (flat_map item_octets z.0) ≡ room) × AllByRecursion FitsItem z.0) (ok_is none y e)
    (record { parts = refl; rest_fits = fits }, omega arith, tt)
items_take (suc fuel) zero octets y fits le e =
    let none : List Item × List ℕ = ([], octets) in
    subst (λ (z : List Item × List ℕ). Takes octets (flat_map item_octets z.0) z.1 × (length (flat_map item_octets z.0) ≡ 0) × AllByRecursion FitsItem z.0) (ok_is none y e)
    (record { parts = refl; rest_fits = fits }, refl, tt)
items_take (suc fuel) (suc room) octets y fits le e =
    took (item_at (suc room) octets) _ y (λ x. item_takes (suc room) octets x fits) e (λ a ta ea.
    took (items_at fuel (suc room - (2 + length a.0.1)) a.1) _ y (λ x. items_take fuel (suc room - (2 + length a.0.1)) a.1 x ta.0.rest_fits (omega arith)) ea (λ b tb eb.
    let size : length (item_octets a.0 ++ flat_map item_octets b.0) ≡ suc room = omega (arith, length-append (item_octets a.0) (flat_map item_octets b.0), tb.1, ta.2) in
    subst (λ (z : List Item × List ℕ). Takes octets (flat_map item_octets z.0) z.1 × (length (flat_map item_octets z.0) ≡ suc room) × AllByRecursion FitsItem z.0) (ok_is (a.0 ∷ b.0, b.1) y eb)
    (rw flat_map-cons (Takes-then octets (item_octets a.0) a.1 (flat_map item_octets b.0) b.1 ta.0 tb.0), ap length (flat_map-cons item_octets a.0 b.0) ∙ size, (ta.1, tb.2))))

item_again : (item : Item) (more : ℕ) (rest : List ℕ) → FitsItem item → item_at (2 + length item.1 + more) (item_octets item ++ rest) ≡ Ok (item, rest)
unfolding item_at
item_again item more rest fits =
    let size : length item.1 % 256 ≡ length item.1 = omega (arith, fits) in
    ap (λ (n : ℕ). item_at (2 + length item.1 + more) (item.0 ∷ n ∷ (item.1 ++ rest))) size
    ∙ rw (
      item_type_again (2 + length item.1 + more) item.0 (length item.1 ∷ (item.1 ++ rest)) (omega arith),
      up_to_again (2 + length item.1 + more - 2) faults.Value (length item.1) (item.1 ++ rest) (omega arith),
      octets_again (length item.1) item.1 rest refl,
    ) refl

items_step : (item : Item) (items : List Item) (fuel : ℕ) (rest : List ℕ) (room : ℕ) (octets : List ℕ) → room ≡ suc (1 + length item.1 + length (flat_map item_octets items))
    → octets ≡ item_octets item ++ (flat_map item_octets items ++ rest)
    → ((f : ℕ) → length (flat_map item_octets items) ≤ f → items_at f (length (flat_map item_octets items)) (flat_map item_octets items ++ rest) ≡ Ok (items, rest))
    → FitsItem item → room ≤ fuel → items_at fuel room octets ≡ Ok (item ∷ items, rest)
unfolding items_at
items_step item items zero rest room octets size regrouped others fits le = absurd (omega arith)
items_step item items (suc fuel) rest room octets size regrouped others fits le =
    let whole : suc (1 + length item.1 + length (flat_map item_octets items)) ≡ 2 + length item.1 + length (flat_map item_octets items) = omega arith in
    let left : suc (1 + length item.1 + length (flat_map item_octets items)) - (2 + length item.1) ≡ length (flat_map item_octets items) = omega arith in
    let first : item_at (suc (1 + length item.1 + length (flat_map item_octets items))) (item_octets item ++ (flat_map item_octets items ++ rest)) ≡ Ok (item, flat_map item_octets items ++ rest) =
    ap (λ (n : ℕ). item_at n (item_octets item ++ (flat_map item_octets items ++ rest))) whole ∙ item_again item (length (flat_map item_octets items)) (flat_map item_octets items ++ rest) fits in
    rw (size, regrouped, first, left, others fuel (omega arith)) refl

pub items_again : (items : List Item) (fuel : ℕ) (rest : List ℕ) → AllByRecursion FitsItem items → length (flat_map item_octets items) ≤ fuel
    → items_at fuel (length (flat_map item_octets items)) (flat_map item_octets items ++ rest) ≡ Ok (items, rest)
unfolding items_at
items_again [] zero rest fits le = refl
items_again [] (suc fuel) rest fits le = refl
items_again (item ∷ items) fuel rest fits le =
    let size : length (flat_map item_octets (item ∷ items)) ≡ suc (1 + length item.1 + length (flat_map item_octets items)) =
    ap length (flat_map-cons item_octets item items) ∙ length-append (item_octets item) (flat_map item_octets items) ∙ omega arith in
    let regrouped : flat_map item_octets (item ∷ items) ++ rest ≡ item_octets item ++ (flat_map item_octets items ++ rest) =
    ap (λ (x : List ℕ). x ++ rest) (flat_map-cons item_octets item items) ∙ append_assoc (item_octets item) (flat_map item_octets items) rest in
    items_step item items fuel rest (length (flat_map item_octets (item ∷ items))) (flat_map item_octets (item ∷ items) ++ rest) size regrouped (λ f h. items_again items f rest fits.1 h) fits.0 le

abbrev with_item : Item → List Item × List ℕ → Result (List Item × List ℕ) Stop
with_item item others = Ok (item ∷ others.0, others.1)

enough_items : (fuel more room : ℕ) (r : Result (Item × List ℕ) Stop) → ((s : ℕ) (o : List ℕ) → s ≤ fuel → items_at (fuel + more) s o ≡ items_at fuel s o) → suc room ≤ suc fuel
    → (r >>= λ item. items_at (fuel + more) (suc room - (2 + length item.0.1)) item.1 >>= λ others. with_item item.0 others)
    ≡ (r >>= λ item. items_at fuel (suc room - (2 + length item.0.1)) item.1 >>= λ others. with_item item.0 others)
enough_items fuel more room (Err s) again le = refl
enough_items fuel more room (Ok item) again le = rw (again (suc room - (2 + length item.0.1)) item.1 (omega arith)) refl

items_enough_step : (fuel more room : ℕ) (octets : List ℕ) → ((r : ℕ) (o : List ℕ) → r ≤ fuel → items_at (fuel + more) r o ≡ items_at fuel r o) → room ≤ suc fuel
    → items_at (suc (fuel + more)) room octets ≡ items_at (suc fuel) room octets
unfolding items_at
items_enough_step fuel more zero octets again le = refl
items_enough_step fuel more (suc room) octets again le =
    enough_items fuel more room (item_at (suc room) octets) again le

items_none : (fuel : ℕ) (octets : List ℕ) → items_at fuel 0 octets ≡ Ok ([], octets)
unfolding items_at
items_none zero octets = refl
items_none (suc fuel) octets = refl

-- Items are read alike with more steps than octets.
pub items_enough : (fuel more room : ℕ) (octets : List ℕ) → room ≤ fuel → items_at (fuel + more) room octets ≡ items_at fuel room octets
unfolding items_at
items_enough zero more zero octets le = items_none (0 + more) octets ∙ sym (items_none 0 octets)
items_enough zero more (suc room) octets le = absurd (omega arith)
items_enough (suc fuel) more room octets le =
    let k : suc fuel + more ≡ suc (fuel + more) = omega arith in
    rw k (items_enough_step fuel more room octets (λ r o l. items_enough fuel more r o l) le)

-- ---- SP

policy_takes : (octets : List ℕ) (y : Chained) → IsOctets octets → policy_at octets ≡ Ok y → TakesChained octets 10 y
unfolding policy_at
policy_takes octets y fits e =
    took (next_at octets) _ y (λ x. next_takes octets x fits) e (λ a ta ea.
    took (octet_at a.1) _ y (λ x. octet_takes a.1 x ta.0.rest_fits) ea (λ b tb eb.
    took (up_to_at 0 faults.Value b.1) _ y (λ x. up_to_takes 0 faults.Value b.1 x tb.0.rest_fits) eb (λ c tc ec.
    took (number_at 2 c.1) _ y (λ x. number_takes 2 (2 ^ 16) wide_two c.1 x tc.0.rest_fits) ec (λ d td ed.
    took (items_at d.0 d.0 d.1) _ y (λ x. items_take d.0 d.0 d.1 x td.0.rest_fits (omega arith)) ed (λ i ti ei.
    let zero_is : c.0 ≡ 0 = omega (arith, tc.1) in
    let protocol : Takes b.1 (0 ∷ []) c.1 = subst (λ (n : ℕ). Takes b.1 (n ∷ []) c.1) zero_is tc.0 in
    let sizes : Takes c.1 (be (length (flat_map item_octets i.0)) 2) d.1 = subst (λ (n : ℕ). Takes c.1 (be n 2) d.1) (sym ti.1) td.0 in
    subst (λ (z : Chained). TakesChained octets 10 z) (ok_is (Sp (record { number = b.0; items = i.0 }), a.0, i.1) y ei)
    (record {
      takes = Takes-then _ _ _ _ _ ta.0 (Takes-then _ _ _ _ _ tb.0 (Takes-then _ _ _ _ _ protocol (Takes-then _ _ _ _ _ sizes ti.0)));
      payload = ((rw ti.1 td.1, ti.2), tt);
      number_is = refl;
      known = ta.1;
    }))))))

policy_again : (policy : Policy) (next : ℕ) (rest : List ℕ) → IsPayload (Sp policy) → is_number next ≡ true
    → policy_at (next ∷ (body_octets (Sp policy) ++ rest)) ≡ Ok (Sp policy, next, rest)
unfolding policy_at
policy_again policy next rest p known =
    let inner : List ℕ = flat_map item_octets policy.items in
    rw (
      next_again next (policy.number ∷ 0 ∷ (sized (flat_map item_octets policy.items) ++ rest)) known,
      octet_again policy.number (0 ∷ (sized (flat_map item_octets policy.items) ++ rest)),
      up_to_again 0 faults.Value 0 (sized (flat_map item_octets policy.items) ++ rest) (omega arith),
      number_again 2 (2 ^ 16) wide_two (length (flat_map item_octets policy.items)) (flat_map item_octets policy.items ++ rest) p.0.0,
      items_again policy.items (length (flat_map item_octets policy.items)) rest p.0.1 (omega arith),
    ) refl

-- ---- the payload of a number

-- a number that a payload has
abbrev pub IsPlaced : ℕ → Type 0
IsPlaced n = (n ≡ 1) ⊎ ((n ≡ 5) ⊎ ((n ≡ 6) ⊎ ((n ≡ 9) ⊎ ((n ≡ 10) ⊎ ((n ≡ 11) ⊎ (n ≡ 21))))))

pub payload_takes : (number : ℕ) (octets : List ℕ) (y : Chained) → IsPlaced number → IsOctets octets → payload_at number octets ≡ Ok y → TakesChained octets number y
unfolding payload_at
payload_takes number octets y (inl n) fits e = rw n (kemac_takes octets y fits (rw n at e))
payload_takes number octets y (inr (inl n)) fits e = rw n (time_takes octets y fits (rw n at e))
payload_takes number octets y (inr (inr (inl n))) fits e = rw n (id_takes octets y fits (rw n at e))
payload_takes number octets y (inr (inr (inr (inl n)))) fits e = rw n (verify_takes octets y fits (rw n at e))
payload_takes number octets y (inr (inr (inr (inr (inl n))))) fits e = rw n (policy_takes octets y fits (rw n at e))
payload_takes number octets y (inr (inr (inr (inr (inr (inl n)))))) fits e = rw n (random_takes octets y fits (rw n at e))
payload_takes number octets y (inr (inr (inr (inr (inr (inr n)))))) fits e = rw n (extension_takes octets y fits (rw n at e))

pub payload_again : (p : Payload) (next : ℕ) (rest : List ℕ) → IsPayload p → is_number next ≡ true
    → payload_at (payload_number p) (next ∷ (body_octets p ++ rest)) ≡ Ok (p, next, rest)
unfolding payload_at
payload_again (Kemac cipher inner mac tag) next rest fits known = kemac_again cipher inner mac tag next rest fits known
payload_again (Time form stamp) next rest fits known = time_again form stamp next rest fits known
payload_again (Id form name) next rest fits known = id_again form name next rest fits known
payload_again (Verify mac tag) next rest fits known = verify_again mac tag next rest fits known
payload_again (Sp policy) next rest fits known = policy_again policy next rest fits known
payload_again (Random inner) next rest fits known = random_again inner next rest fits.0 known
payload_again (Extension form inner) next rest fits known = extension_again form inner next rest fits known
