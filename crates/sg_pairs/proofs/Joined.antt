-- A plain port of a joined call's medium goes on, and what goes on is one.
use Rattle.std.proofs.Common.{◌≡◌, inl, inr, ℕ, ◌+◌, ◌-◌, ◌*◌, ◌%◌, ◌<◌, ◌≤◌, Bool, true, false, Option, Some, None, refl, sym, ap, ◌∙◌, subst, arith, eqb, cond, leb, ltb}
use Rattle.std.proofs.lemmas.Bool.{and_parts, cases_eq, cond-false, cond-true, eq-eqb, eqb-false, eqb-true, le-leb, leb-true, lt-ltb, ltb-true, ne_eqb}
use Rattle.std.specs.Prelude.{option_map, ◌&&◌}
use Rattle.sg_base.proofs.Cases.{none_some}
use Rattle.sg_pairs.proofs.Found.{in_range}
use Rattle.sg_pairs.proofs.Mates.{AreMates, IsOf, Look, Stands, joined_in, look, look_of, member_of, same_media}
use Rattle.sg_pairs.specs.Joined.{AreJoined, IsAcross, IsInPair, port_of_leg}
use Rattle.sg_pairs.specs.Onward.{is_plain_port, medium_by_port, onward, onward_in, port_like, slot_by_port}
use Rattle.sg_pairs.specs.Pairs.{Members, member_at, other_slot}
use Rattle.sg_pairs.specs.declared.members.Member.{Member}
use Rattle.sg_pairs.specs.declared.members.Pair.{Pair}

module _ (calls : Members) (slot medium leg : ℕ) (m : Member) (x : Pair) (s : slot < 256) (four : medium < 4) (within : medium < m.media) (high : 2 ≤ leg) (low : leg < 4)
    (at : member_at calls slot ≡ Some m) (is : m.pair ≡ Some x) where
  abbrev port : ℕ
  port = 20000 + 16 * slot + 4 * medium + leg

  plain : is_plain_port (20000 + 16 * slot + 4 * medium + leg) ≡ true
  plain =
      let first : 20000 ≤ 20000 + 16 * slot + 4 * medium + leg = omega arith in
      let last : 20000 + 16 * slot + 4 * medium + leg < 24096 = omega (arith, s, four, low) in
      let two : 2 ≤ (20000 + 16 * slot + 4 * medium + leg - 20000) % 4 = omega (arith, high, low) in
      (λ i. le-leb 20000 (20000 + 16 * slot + 4 * medium + leg) first i && lt-ltb (20000 + 16 * slot + 4 * medium + leg) 24096 last i && le-leb 2 ((20000 + 16 * slot + 4 * medium + leg - 20000) % 4) two i)

  of_slot : slot_by_port (20000 + 16 * slot + 4 * medium + leg) ≡ slot
  of_slot = omega (arith, four, low)

  of_medium : medium_by_port (20000 + 16 * slot + 4 * medium + leg) ≡ medium
  of_medium = omega (arith, four, low)

  pub goes_on : onward calls (20000 + 16 * slot + 4 * medium + leg) ≡ Some (port_like (20000 + 16 * slot + 4 * medium + leg) (other_slot x (slot_by_port (20000 + 16 * slot + 4 * medium + leg))))
  goes_on =
      cond-true (is_plain_port port) _ _ plain
      ∙ ap (onward_in port) (ap (member_at calls) of_slot ∙ at)
      ∙ cond-true (ltb (medium_by_port port) m.media) _ _ (ap (λ n. ltb n m.media) of_medium ∙ lt-ltb medium m.media within)
      ∙ ap (option_map (λ (p : Pair). port_like port (other_slot p (slot_by_port port)))) is

  pub of_other : (other : ℕ) → other_slot x slot ≡ other → onward calls (20000 + 16 * slot + 4 * medium + leg) ≡ Some (20000 + 16 * other + 4 * medium + leg)
  of_other other to =
      let like : port_like (20000 + 16 * slot + 4 * medium + leg) other ≡ 20000 + 16 * other + 4 * medium + leg = omega (arith, four, low) in
      goes_on ∙ ap (λ n. Some (port_like port n)) (ap (other_slot x) of_slot ∙ to) ∙ ap (λ n. Some n) like

-- the other slot of a pair
across_other : (x : Pair) (slot other : ℕ) → IsAcross x slot other → other_slot x slot ≡ other
across_other x slot other (inl is) = cond-true (eqb x.first.slot slot) x.second.slot x.first.slot (eq-eqb x.first.slot slot (sym is.0)) ∙ sym is.1
across_other x slot other (inr is) = elim (cases_eq x.first.slot slot) [
  | inl same ↦ cond-true (eqb x.first.slot slot) x.second.slot x.first.slot (eq-eqb x.first.slot slot same) ∙ sym is.0 ∙ sym same ∙ sym is.1
  | inr differ ↦ cond-false (eqb x.first.slot slot) x.second.slot x.first.slot (ne_eqb x.first.slot slot differ) ∙ sym is.1
]

pub joined_goes_on : (calls : Members) (slot other medium leg : ℕ) → AreJoined calls slot other medium → 2 ≤ leg → leg < 4 → onward calls (port_of_leg slot medium leg) ≡ Some (port_of_leg other medium leg)
joined_goes_on calls slot other medium leg j high low =
    let this = j.this in
    of_other calls slot medium leg this.member this.pair this.slots this.media this.has high low this.at this.joined other (across_other this.pair slot other j.across)

-- where the call in the slot is in a pair, the port goes on
pub in_pair_goes_on : (calls : Members) (slot medium leg : ℕ) → IsInPair calls slot medium → 2 ≤ leg → leg < 4 → (q : ℕ) × (onward calls (port_of_leg slot medium leg) ≡ Some q)
in_pair_goes_on calls slot medium leg j high low = (_, goes_on calls slot medium leg j.member j.pair j.slots j.media j.has high low j.at j.joined)

-- ---- what goes on is joined

pub record IsJoinedAt (calls : Members) (p q : ℕ) : Type 0 where
  pub slot : ℕ
  pub other : ℕ
  pub medium : ℕ
  pub leg : ℕ
  pub plain : (2 ≤ leg) × (leg < 4)
  pub joined : AreJoined calls slot other medium
  pub p_is : p ≡ port_of_leg slot medium leg
  pub q_is : q ≡ port_of_leg other medium leg

other_across : (x : Pair) (slot : ℕ) → IsOf slot x → IsAcross x slot (other_slot x slot)
other_across x slot of_x = go (eqb x.first.slot slot) refl
  where
    go : (b : Bool) → eqb x.first.slot slot ≡ b → IsAcross x slot (cond b x.second.slot x.first.slot)
    go true is = inl (sym (eqb-true x.first.slot slot is), refl)
    go false is = elim of_x [
      | inl first ↦ absurd (eqb-false x.first.slot slot is (sym first))
      | inr second ↦ inr (second, refl)
    ]

pub goes_on_joined : (calls : Members) → AreMates calls → (p q : ℕ) → onward calls p ≡ Some q → IsJoinedAt calls p q
goes_on_joined calls mates p q is = by_plain (is_plain_port p) refl is
  where
    by_pair : (m : Member) → is_plain_port p ≡ true → member_at calls (slot_by_port p) ≡ Some m → ltb (medium_by_port p) m.media ≡ true → (o : Option Pair) → m.pair ≡ o
        → option_map (λ (x : Pair). port_like p (other_slot x (slot_by_port p))) o ≡ Some q → IsJoinedAt calls p q
    by_pair m plain at within None none e = absurd (none_some q e)
    by_pair m plain at within (Some x) some e =
        let same : port_like p (other_slot x (slot_by_port p)) ≡ q = cc in
        let both = and_parts (leb 20000 p && ltb p 24096) (leb 2 ((p - 20000) % 4)) plain in
        let low = and_parts (leb 20000 p) (ltb p 24096) both.0 in
        let least = leb-true 20000 p low.0 in
        let most = ltb-true p 24096 low.1 in
        let high = leb-true 2 ((p - 20000) % 4) both.1 in
        let here = ap (option_map look_of) at ∙ ap (λ (q : Option Pair). Some (let l : Look = record { media = m.media; pair = q } in l)) some in
        record {
          slot = slot_by_port p;
          other = other_slot x (slot_by_port p);
          medium = medium_by_port p;
          leg = (p - 20000) % 4;
          plain = (high, omega arith);
          joined = record {
            this = record {
              member = m;
              pair = x;
              at = at;
              joined = some;
              slots = omega (arith, least, most);
              media = omega arith;
              has = ltb-true (medium_by_port p) m.media within;
            };
            across = other_across x (slot_by_port p) (mates.mates (slot_by_port p) m.media x here).0;
          };
          p_is = omega (arith, least);
          q_is = sym same ∙ like (other_slot x (slot_by_port p)) least;
        }
      where
        like : (o : ℕ) → 20000 ≤ p → port_like p o ≡ port_of_leg o (medium_by_port p) ((p - 20000) % 4)
        like o least = omega (arith, least)

    by_media : (m : Member) → is_plain_port p ≡ true → member_at calls (slot_by_port p) ≡ Some m → (b : Bool) → ltb (medium_by_port p) m.media ≡ b
        → cond b (option_map (λ (x : Pair). port_like p (other_slot x (slot_by_port p))) m.pair) None ≡ Some q → IsJoinedAt calls p q
    by_media m plain at true within e = by_pair m plain at within m.pair refl e
    by_media m plain at false within e = absurd (none_some q e)

    by_member : is_plain_port p ≡ true → (o : Option Member) → member_at calls (slot_by_port p) ≡ o → onward_in p o ≡ Some q → IsJoinedAt calls p q
    by_member plain None at e = absurd (none_some q e)
    by_member plain (Some m) at e = by_media m plain at (ltb (medium_by_port p) m.media) refl e

    by_plain : (b : Bool) → is_plain_port p ≡ b → cond b (onward_in p (member_at calls (slot_by_port p))) None ≡ Some q → IsJoinedAt calls p q
    by_plain true plain e = by_member plain (member_at calls (slot_by_port p)) refl e
    by_plain false plain e = absurd (none_some q e)

-- ---- a port that goes on comes back

joined_back : (calls : Members) → AreMates calls → (slot other medium : ℕ) → AreJoined calls slot other medium → AreJoined calls other slot medium
joined_back calls mates slot other medium j = go j.across
  where
    this : IsInPair calls slot medium
    this = j.this

    x : Pair
    x = j.this.pair

    here : look calls slot ≡ joined_in this.member.media x
    here = ap (option_map look_of) this.at ∙ ap (λ (q : Option Pair). Some (let l : Look = record { media = this.member.media; pair = q } in l)) this.joined

    stands : Stands calls x
    stands = (mates.mates slot this.member.media x here).1

    from : (s t : ℕ) → slot ≡ s → other ≡ t → look calls s ≡ joined_in stands.media x → look calls t ≡ joined_in stands.media x → IsAcross x other slot → AreJoined calls other slot medium
    from s t is_s is_t at_s at_t across =
        let m = member_of calls t stands.media x at_t in
        let media : this.member.media ≡ stands.media = same_media _ _ x x (sym here ∙ ap (look calls) is_s ∙ at_s) in
        record {
          this = record {
            member = m.0;
            pair = x;
            at = ap (member_at calls) is_t ∙ m.1;
            joined = m.3;
            slots = (let r = in_range calls t m.0 m.1 in omega (arith, r, mates.size, is_t));
            media = this.media;
            has = subst (λ n. medium < n) (media ∙ sym m.2) this.has;
          };
          across = across;
        }

    go : IsAcross x slot other → AreJoined calls other slot medium
    go (inl is) = from x.first.slot x.second.slot is.0 is.1 stands.at_first stands.at_second (inr (is.1, is.0))
    go (inr is) = from x.second.slot x.first.slot is.0 is.1 stands.at_second stands.at_first (inl (is.1, is.0))

pub comes_back : (calls : Members) → AreMates calls → (p q : ℕ) → onward calls p ≡ Some q → onward calls q ≡ Some p
comes_back calls mates p q is =
    let j = goes_on_joined calls mates p q is in
    let back = joined_back calls mates j.slot j.other j.medium j.joined in
    ap (onward calls) j.q_is ∙ joined_goes_on calls j.other j.slot j.medium j.leg back j.plain.0 j.plain.1 ∙ ap (λ n. Some n) (sym j.p_is)

-- ports of legs 0 and 1 don't go on, and those that do go on to such as they are
pub plain_onward : (calls : Members) → AreMates calls → (p q : ℕ) → onward calls p ≡ Some q → (2 ≤ (p - 20000) % 4) × (2 ≤ (q - 20000) % 4)
plain_onward calls mates p q is = let j = goes_on_joined calls mates p q is in (omega (arith, j.p_is, j.plain.0, j.plain.1), omega (arith, j.q_is, j.plain.0, j.plain.1))

pub not_onward : (calls : Members) → AreMates calls → (p : ℕ) → (p - 20000) % 4 < 2 → onward calls p ≡ None
not_onward calls mates p secure = go (onward calls p) refl
  where
    go : (o : Option ℕ) → onward calls p ≡ o → onward calls p ≡ None
    go None is = is
    go (Some q) is = absurd (omega (arith, secure, (plain_onward calls mates p q is).0))
