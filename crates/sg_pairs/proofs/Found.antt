-- Who is found under a number, and of whom a line makes a pair or parts one.
use Rattle.std.proofs.Common.{◌≡◌, ℕ, zero, suc, ◌+◌, ◌<◌, Bool, true, false, cond, not, [], ◌∷◌, get_or, length, map, set, Option, Some, None, Result, Ok, Err, refl, sym, ap, ◌∙◌, subst, arith, add-one, eqb, inl, inr}
use Rattle.std.proofs.lemmas.Bool.{cases_lt, eq-eqb, eqb-true}
use Rattle.std.proofs.lemmas.List.{get_or-replicate, get_or-set_other, get_or-set_same, get_or_past, length-replicate, length-set}
use Rattle.std.proofs.Math.ListN.{get_or-map}
use Rattle.sg_base.proofs.Cases.{none_some}
use Rattle.sg_base.specs.declared.addresses.CallId.{CallId}
use Rattle.sg_gateway.specs.World.{same_id}
use Rattle.sg_session.proofs.Lists.{both}
use Rattle.sg_pairs.specs.Pairs.{Joining, Members, Parting, found, found_from, in_pair, in_pair_at, joined, joined_by, joined_free, member_at, no_members, now_live, pair, paired, parted, parted_found, parted_from, parted_pair}
use Rattle.sg_pairs.specs.declared.faults.JoinFault.{JoinFault}
use Rattle.sg_pairs.specs.declared.faults.JoinFault.TheVariants as faults
use Rattle.sg_pairs.specs.declared.members.Found.{Found}
use Rattle.sg_pairs.specs.declared.members.Member.{Member}
use Rattle.sg_pairs.specs.declared.members.Pair.{Pair}

pub number_is : (a b : CallId) → same_id a b ≡ true → a ≡ b
number_is a b is = let number : a.0 ≡ b.0 = eqb-true _ _ is in (λ i. record { 0 = number i })

pub is_number : (a b : CallId) → a ≡ b → same_id a b ≡ true
is_number a b is = eq-eqb a.0 b.0 (ap (λ (i : CallId). i.0) is)

pub true_false : true ≡ false → ⊥
true_false is = cc

pub in_range : (calls : Members) (s : ℕ) (m : Member) → member_at calls s ≡ Some m → s < length calls
in_range calls s m is = elim (cases_lt s (length calls)) [
  | inl lt ↦ lt
  | inr le ↦ absurd (none_some m (sym (get_or_past calls s None le) ∙ is))
]

-- ---- slots that are set

module _ (calls : Members) (slot : ℕ) (v : Option Member) where
  pub set_other : {A : Type 0} (F : Option Member → A) (s : ℕ) → (s ≡ slot → ⊥) → F (member_at (set calls slot v) s) ≡ F (member_at calls s)
  set_other F s other = ap F (get_or-set_other calls slot s v None other)

  -- what holds of what it is set to, and of no call, holds of it
  pub at_set : (P : Option Member → Type 0) → P v → P None → P (member_at (set calls slot v) slot)
  at_set P p none = elim (cases_lt slot (length calls)) [
    | inl lt ↦ subst P (sym (get_or-set_same calls slot v None lt)) p
    | inr le ↦ subst P (sym (get_or_past (set calls slot v) slot None (omega (arith, le, length-set calls slot v)))) none
  ]

-- at first no slot has a call
pub no_member : (s : ℕ) → member_at no_members s ≡ None
no_member s = elim (cases_lt s 256) [
  | inl lt ↦ get_or-replicate 256 s None None lt
  | inr le ↦ get_or_past no_members s None (omega (arith, le, length-replicate 256 (let none : Option Member = None in none)))
]

-- where a call has a generation now, all is as it was that says nothing of generations
pub live_keeps : {A : Type 0} (F : Option Member → A) → ((m : Member) → F (Some (record m { is_live = true })) ≡ F (Some m)) → (id : CallId) (calls : Members) (s : ℕ)
    → F (member_at (map (now_live id) calls) s) ≡ F (member_at calls s)
live_keeps F keeps id calls s = ap F (get_or-map (now_live id) calls s None) ∙ at (member_at calls s)
  where
    go : (m : Member) (b : Bool) → F (Some (cond b (record m { is_live = true }) m)) ≡ F (Some m)
    go m true = keeps m
    go m false = refl

    at : (o : Option Member) → F (now_live id o) ≡ F o
    at None = refl
    at (Some m) = go m (same_id m.id id)

-- ---- who is found

-- the call that is found is in its slot, under the number
pub record IsThere (calls : Members) (id : CallId) (f : Found) : Type 0 where
  pub at : member_at calls f.slot ≡ Some f.member
  pub named : f.member.id ≡ id

found_at : (id : CallId) (ms : Members) (n : ℕ) (f : Found) → found_from n id ms ≡ Some f → (k : ℕ) × (f.slot ≡ n + k) × (get_or ms k None ≡ Some f.member) × (same_id f.member.id id ≡ true)
found_at id [] n f is = absurd (none_some f is)
found_at id (None ∷ ms) n f is = let later = found_at id ms (n + 1) f is in (later.0 + 1, omega (arith, later.1), subst (λ (k : ℕ). get_or (None ∷ ms) k None ≡ Some f.member) (sym (add-one later.0)) later.2, later.3)
found_at id (Some m ∷ ms) n f is = go (same_id m.id id) refl (found_at id ms (n + 1) f) is
  where
    go : (b : Bool) → same_id m.id id ≡ b → (found_from (n + 1) id ms ≡ Some f → (k : ℕ) × (f.slot ≡ n + 1 + k) × (get_or ms k None ≡ Some f.member) × (same_id f.member.id id ≡ true))
        → cond b (Some (let f : Found = record { slot = n; member = m } in f)) (found_from (n + 1) id ms) ≡ Some f
        → (k : ℕ) × (f.slot ≡ n + k) × (get_or (Some m ∷ ms) k None ≡ Some f.member) × (same_id f.member.id id ≡ true)
    go true at again e =
        (let same : record { slot = n; member = m } ≡ f = cc in
        (0, omega (arith, ap (λ (f : Found). f.slot) (sym same)), ap (λ (f : Found). Some f.member) same, ap (λ (f : Found). same_id f.member.id id) (sym same) ∙ at))
    go false at again e =
        let later = again e in
        (later.0 + 1, omega (arith, later.1), subst (λ (k : ℕ). get_or (Some m ∷ ms) k None ≡ Some f.member) (sym (add-one later.0)) later.2, later.3)

pub is_there : (id : CallId) (calls : Members) (f : Found) → found id calls ≡ Some f → IsThere calls id f
is_there id calls f is =
    let at = found_at id calls 0 f is in
    record { at = ap (member_at calls) (omega (arith, at.1)) ∙ at.2; named = number_is f.member.id id at.3 }

pub found_none : (id : CallId) (ms : Members) (n k : ℕ) (m : Member) → found_from n id ms ≡ None → get_or ms k None ≡ Some m → same_id m.id id ≡ false
found_none id [] n k m none at = absurd cc
found_none id (None ∷ ms) n zero m none at = absurd cc
found_none id (None ∷ ms) n (suc k) m none at = found_none id ms (n + 1) k m none at
found_none id (Some x ∷ ms) n k m none at = go (same_id x.id id) refl none k at (λ j none at. found_none id ms (n + 1) j m none at)
  where
    here : same_id x.id id ≡ false → (k : ℕ) → get_or (Some x ∷ ms) k None ≡ Some m → ((j : ℕ) → get_or ms j None ≡ Some m → same_id m.id id ≡ false) → same_id m.id id ≡ false
    here is zero at more = (let same : x ≡ m = cc in ap (λ (x : Member). same_id x.id id) (sym same) ∙ is)
    here is (suc k) at more = more k at

    go : (b : Bool) → same_id x.id id ≡ b → cond b (Some (let f : Found = record { slot = n; member = x } in f)) (found_from (n + 1) id ms) ≡ None → (k : ℕ) → get_or (Some x ∷ ms) k None ≡ Some m
        → ((j : ℕ) → found_from (n + 1) id ms ≡ None → get_or ms j None ≡ Some m → same_id m.id id ≡ false) → same_id m.id id ≡ false
    go true is none k at more = absurd cc
    go false is none k at more = here is k at (λ j at. more j none at)

-- ---- two calls that are joined

-- They are there under these numbers, in two slots, in no pair, and with as many media.
pub record CanJoin (calls : Members) (first second : CallId) (a b : Found) : Type 0 where
  pub a_is : IsThere calls first a
  pub b_is : IsThere calls second b
  pub a_free : a.member.pair ≡ None
  pub b_free : b.member.pair ≡ None
  pub media : a.member.media ≡ b.member.media
  pub apart : a.slot ≡ b.slot → ⊥

-- what holds where a line joins two calls, and where it joins none, holds of what it does
module _ (calls : Members) (first second : CallId) (P : Joining → Type 0) (refused : (call : CallId) (cause : JoinFault) → P (Err (call, cause)))
    (made : (a b : Found) → CanJoin calls first second a b → P (Ok (paired (pair a b) calls))) where
  module _ (a b : Found) (a_is : IsThere calls first a) (b_is : IsThere calls second b) where
    two_slots : same_id a.member.id b.member.id ≡ false → a.slot ≡ b.slot → ⊥
    two_slots differ same =
        let members : Some a.member ≡ Some b.member = sym a_is.at ∙ ap (member_at calls) same ∙ b_is.at in
        true_false (sym (is_number a.member.id b.member.id (ap (λ (m : Member). m.id) (let m : a.member ≡ b.member = cc in m))) ∙ differ)

    by_pairs : same_id a.member.id b.member.id ≡ false → (p q : Option Pair) → a.member.pair ≡ p → b.member.pair ≡ q → P (joined_free a b calls p q)
    by_pairs differ (Some x) q is_p is_q = refused _ _
    by_pairs differ None (Some x) is_p is_q = refused _ _
    by_pairs differ None None is_p is_q = go (eqb a.member.media b.member.media) refl
      where
        go : (t : Bool) → eqb a.member.media b.member.media ≡ t → P (cond t (Ok (paired (pair a b) calls)) (let r : Joining = Err (a.member.id, faults.MediaCount) in r))
        go true same = made a b (record { a_is = a_is; b_is = b_is; a_free = is_p; b_free = is_q; media = eqb-true _ _ same; apart = two_slots differ })
        go false other = refused _ _

    by_numbers : (t : Bool) → same_id a.member.id b.member.id ≡ t
        → P (cond t (Err (a.member.id, faults.Same)) (cond (not a.member.is_live) (Err (a.member.id, faults.Unready)) (cond (not b.member.is_live) (Err (b.member.id, faults.Unready)) (joined_free a b calls a.member.pair b.member.pair))))
    by_numbers true same = refused _ _
    by_numbers false differ =
        both P (not a.member.is_live) (Err (a.member.id, faults.Unready)) _ (refused _ _)
        (both P (not b.member.is_live) (Err (b.member.id, faults.Unready)) _ (refused _ _) (by_pairs differ a.member.pair b.member.pair refl refl))

  by_calls : (a b : Option Found) → found first calls ≡ a → found second calls ≡ b → P (joined_by first second calls a b)
  by_calls None b is_a is_b = refused _ _
  by_calls (Some a) None is_a is_b = refused _ _
  by_calls (Some a) (Some b) is_a is_b = by_numbers a b (is_there first calls a is_a) (is_there second calls b is_b) (same_id a.member.id b.member.id) refl

  pub joins_by : P (joined first second calls)
  joins_by = by_calls (found first calls) (found second calls) refl refl

-- both are in the new pair then, and nobody else is touched
module _ (calls : Members) (first second : CallId) (a b : Found) (can : CanJoin calls first second a b) where
  abbrev middle : Members
  middle = in_pair_at (Some (pair a b)) a.slot calls

  pub first_in : member_at (paired (pair a b) calls) a.slot ≡ in_pair (Some (pair a b)) (Some a.member)
  first_in =
      get_or-set_other middle b.slot a.slot (in_pair (Some (pair a b)) (member_at middle b.slot)) None can.apart
      ∙ get_or-set_same calls a.slot (in_pair (Some (pair a b)) (member_at calls a.slot)) None (in_range calls a.slot a.member can.a_is.at)
      ∙ ap (in_pair (Some (pair a b))) can.a_is.at

  pub second_in : member_at (paired (pair a b) calls) b.slot ≡ in_pair (Some (pair a b)) (Some b.member)
  second_in =
      get_or-set_same middle b.slot (in_pair (Some (pair a b)) (member_at middle b.slot)) None
      (let r = in_range calls b.slot b.member can.b_is.at in omega (arith, r, length-set calls a.slot (in_pair (Some (pair a b)) (member_at calls a.slot))))
      ∙ ap (in_pair (Some (pair a b))) (get_or-set_other calls a.slot b.slot (in_pair (Some (pair a b)) (member_at calls a.slot)) None (λ is. can.apart (sym is)) ∙ can.b_is.at)

  pub others_in : (s : ℕ) → (s ≡ a.slot → ⊥) → (s ≡ b.slot → ⊥) → member_at (paired (pair a b) calls) s ≡ member_at calls s
  others_in s f g = get_or-set_other middle b.slot s _ None g ∙ get_or-set_other calls a.slot s _ None f

-- ---- a call whose pair is parted

pub record CanPart (calls : Members) (id : CallId) (f : Found) (x : Pair) : Type 0 where
  pub is : IsThere calls id f
  pub paired : f.member.pair ≡ Some x

-- what holds where a line parts a pair, and where it parts none, holds of what it does
module _ (calls : Members) (id : CallId) (P : Result Parting JoinFault → Type 0) (refused : (cause : JoinFault) → P (Err cause))
    (done : (f : Found) (x : Pair) → CanPart calls id f x → P (Ok (record { calls = parted x calls; pair = x }))) where
  by_pair : (f : Found) → IsThere calls id f → (o : Option Pair) → f.member.pair ≡ o → P (parted_pair calls o)
  by_pair f is None at = refused _
  by_pair f is (Some x) at = done f x (record { is = is; paired = at })

  by_call : (o : Option Found) → found id calls ≡ o → P (parted_found calls o)
  by_call None is = refused _
  by_call (Some f) is = by_pair f (is_there id calls f is) f.member.pair refl

  pub parts_by : P (parted_from id calls)
  parts_by = by_call (found id calls) refl
