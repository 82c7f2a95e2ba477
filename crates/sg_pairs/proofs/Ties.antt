-- Which calls are tied in pairs, slot by slot, and what an outcome does to the pairs in force.
use Rattle.std.proofs.Common.{◌≡◌, ◌⊎◌, inl, inr, ℕ, ◌<◌, List, [], ◌∷◌, length, map, Option, Some, None, refl, sym, ap, ◌∙◌, subst, arith}
use Rattle.std.proofs.lemmas.Bool.{cases_eq, cases_lt}
use Rattle.std.proofs.lemmas.List.{get_or-set_other, get_or-set_same, get_or_past, length-set}
use Rattle.std.specs.List.{Any}
use Rattle.std.specs.Prelude.{option_map, option_to_list, set, ◌++◌}
use Rattle.sg_base.proofs.Cases.{map_some, none_some}
use Rattle.sg_base.specs.declared.addresses.CallId.{CallId}
use Rattle.sg_outcome.specs.declared.outcomes.Outcome.{Outcome}
use Rattle.sg_outcome.specs.declared.outcomes.Outcome.TheVariants.{Made, Live, Ended}
use Rattle.sg_session.proofs.Lists.{any_cases, any_none}
use Rattle.sg_pairs.proofs.Known.{Fits, FitsOne, IsOfId, seen_at, seen_in}
use Rattle.sg_pairs.proofs.Found.{at_set, live_keeps, set_other}
use Rattle.sg_pairs.proofs.Mates.{AreMates, IsFree, IsOf, either_of, free_of, joined_in, look_of, outcome_mates}
use Rattle.sg_pairs.specs.Bridged.{Following, behind, told_and_parted}
use Rattle.sg_pairs.specs.Lasting.{IsInForce, IsPartedAtEnd, IsPartyOf, WasParted}
use Rattle.sg_pairs.specs.Pairs.{Members, Noted, after_outcome, emptied, in_pair_at, joined_pair, member_at, new_member, now_live, parted, tells_parted, vacated}
use Rattle.sg_pairs.specs.declared.members.Member.{Member}
use Rattle.sg_pairs.specs.declared.members.Pair.{Pair}
use Rattle.sg_pairs.specs.declared.outcomes.BridgeOutcome.{BridgeOutcome}
use Rattle.sg_pairs.specs.declared.outcomes.BridgeOutcome.TheVariants as tells

-- what ties a call to another: its number, and the pair that it is in
pub record Tie : Type 0 where
  pub id : CallId
  pub pair : Option Pair

abbrev pub tie_of : Member → Tie
tie_of m = record { id = m.id; pair = m.pair }

abbrev pub tie : Members → ℕ → Option Tie
tie calls s = option_map tie_of (member_at calls s)

abbrev pub tied : CallId → Pair → Option Tie
tied id x = Some (record { id = id; pair = Some x })

-- ---- single slots

pub tied_some : (m : Option Member) (id : CallId) (x : Pair) → option_map tie_of m ≡ tied id x → (k : Member) × (m ≡ Some k) × (k.id ≡ id) × (k.pair ≡ Some x)
tied_some m id x is =
    let k = map_some m tie_of (record { id = id; pair = Some x }) is in (k.0, k.1, ap (λ (t : Tie). t.id) k.2, ap (λ (t : Tie). t.pair) k.2)

pub some_tied : (m : Option Member) (k : Member) (id : CallId) (x : Pair) → m ≡ Some k → k.id ≡ id → k.pair ≡ Some x → option_map tie_of m ≡ tied id x
some_tied m k id x at named is = ap (option_map tie_of) at ∙ (λ i. Some (let t : Tie = record { id = named i; pair = is i } in t))

pub one_pair : (i j : CallId) (x y : Pair) → tied i x ≡ tied j y → (i ≡ j) × (x ≡ y)
one_pair i j x y is =
    let same : (let t : Tie = record { id = i; pair = Some x } in t) ≡ record { id = j; pair = Some y } = cc in
    let pairs : Some x ≡ Some y = ap (λ (t : Tie). t.pair) same in
    (ap (λ (t : Tie). t.id) same, (let one : x ≡ y = cc in one))

tie_look : (m : Option Member) (id : CallId) (x : Pair) → option_map tie_of m ≡ tied id x → (media : ℕ) × (option_map look_of m ≡ joined_in media x)
tie_look m id x is =
    let k = tied_some m id x is in
    (k.0.media, ap (option_map look_of) k.1 ∙ ap (λ (p : Option Pair). option_map look_of (Some (let n : Member = record k.0 { pair = p } in n))) k.3)

look_tie : (m : Option Member) (media : ℕ) (x : Pair) → option_map look_of m ≡ joined_in media x → (id : CallId) × (option_map tie_of m ≡ tied id x)
look_tie None media x is = absurd cc
look_tie (Some m) media x is =
    let same : look_of m ≡ record { media = media; pair = Some x } = cc in
    (m.id, ap (λ (p : Option Pair). Some (let t : Tie = record { id = m.id; pair = p } in t)) (ap (λ (l : Rattle.sg_pairs.proofs.Mates.Look). l.pair) same))

-- nobody is in a pair in a slot that was set to one who is in none
set_free_at : (calls : Members) (slot : ℕ) (v : Option Member) → ((id : CallId) (x : Pair) → option_map tie_of v ≡ tied id x → ⊥) → (id : CallId) (x : Pair) → tie (set calls slot v) slot ≡ tied id x → ⊥
set_free_at calls slot v free = at_set calls slot v (λ o. (id : CallId) (x : Pair) → option_map tie_of o ≡ tied id x → ⊥) free (λ id x e. none_some _ e)

-- ---- pairs in force

abbrev pub InForce : Members → Pair → Type 0
InForce calls x = (tie calls x.first.slot ≡ tied x.first.id x) × (tie calls x.second.slot ≡ tied x.second.id x)

pub in_force : (calls : Members) (x : Pair) → IsInForce calls x → InForce calls x
in_force calls x on = (some_tied _ on.0.0 _ x on.0.1 on.0.2 on.0.3, some_tied _ on.1.0 _ x on.1.1 on.1.2 on.1.3)

pub is_in_force : (calls : Members) (x : Pair) → InForce calls x → IsInForce calls x
is_in_force calls x on = (tied_some (member_at calls x.first.slot) x.first.id x on.0, tied_some (member_at calls x.second.slot) x.second.id x on.1)

-- whoever is in a pair is one of its two calls
abbrev pub AreNamed : Members → Type 0
AreNamed calls = (s : ℕ) (id : CallId) (x : Pair) → tie calls s ≡ tied id x → IsPartyOf x id s

-- whoever is in a pair then was in it before
abbrev pub NoneNew : Members → Members → Type 0
NoneNew calls after = (s : ℕ) (id : CallId) (x : Pair) → tie after s ≡ tied id x → tie calls s ≡ tied id x

pub named_on : (calls after : Members) → NoneNew calls after → AreNamed calls → AreNamed after
named_on calls after new named s id x is = named s id x (new s id x is)

pub whole_in : (calls : Members) → AreMates calls → AreNamed calls → (s : ℕ) (id : CallId) (x : Pair) → tie calls s ≡ tied id x → InForce calls x
whole_in calls mates named s id x is =
    let at = tie_look (member_at calls s) id x is in
    let stands = (mates.mates s at.0 x at.1).1 in
    let first = look_tie (member_at calls x.first.slot) stands.media x stands.at_first in
    let second = look_tie (member_at calls x.second.slot) stands.media x stands.at_second in (
      first.1 ∙ ap (λ n. tied n x) (elim (named x.first.slot first.0 x first.1) [ inl is ↦ is.0 | inr is ↦ absurd (stands.apart is.1) ]),
      second.1 ∙ ap (λ n. tied n x) (elim (named x.second.slot second.0 x second.1) [ inl is ↦ absurd (stands.apart (sym is.1)) | inr is ↦ is.0 ]),
    )

-- a pair was in force, and isn't any more
abbrev pub Unties : Members → Members → CallId → CallId → Type 0
Unties calls after first second = (x : Pair) × (x.first.id ≡ first) × (x.second.id ≡ second) × InForce calls x × ¬ InForce after x

pub was_parted : (calls after : Members) (first second : CallId) → Unties calls after first second → WasParted calls after first second
was_parted calls after first second (x, a, b, on, off) = (x, a, b, is_in_force calls x on, λ still. off (in_force after x still))

-- ---- where slots are freed

-- In the slots of D nobody is in a pair then; in the others all is as it was.
module _ (calls after : Members) (D : ℕ → Type 0) (decided : (s : ℕ) → D s ⊎ (D s → ⊥)) (free : (s : ℕ) → D s → (id : CallId) (x : Pair) → tie after s ≡ tied id x → ⊥) (same : (s : ℕ) → (D s → ⊥) → tie after s ≡ tie calls s) where
  pub freed_new : NoneNew calls after
  freed_new s id x is = elim (decided s) [
    | inl d ↦ absurd (free s d id x is)
    | inr not_d ↦ sym (same s not_d) ∙ is
  ]

  -- a pair of which no call is in D stays in force
  pub freed_kept : (x : Pair) → InForce calls x → InForce after x ⊎ (D x.first.slot ⊎ D x.second.slot)
  freed_kept x on = elim (decided x.first.slot) [
    | inl d ↦ inr (inl d)
    | inr f ↦ elim (decided x.second.slot) [
      | inl d ↦ inr (inr d)
      | inr g ↦ inl (same x.first.slot f ∙ on.0, same x.second.slot g ∙ on.1)
    ]
  ]

free_tie : (calls : Members) (s : ℕ) → IsFree calls s → (id : CallId) (x : Pair) → tie calls s ≡ tied id x → ⊥
free_tie calls s free id x is = let at = tie_look (member_at calls s) id x is in free at.0 x at.1

-- A pair is parted, and perhaps a slot of it is emptied besides.
module _ (calls after : Members) (p : Pair) (on : InForce calls p) (free : (s : ℕ) → IsOf s p → (id : CallId) (x : Pair) → tie after s ≡ tied id x → ⊥) (same : (s : ℕ) → (IsOf s p → ⊥) → tie after s ≡ tie calls s) where
  pub parts_new : NoneNew calls after
  parts_new = freed_new calls after (λ s. IsOf s p) (either_of calls p) free same

  this_one : (s : ℕ) (id : CallId) (x : Pair) → IsOf s p → tie calls s ≡ tied id x → x ≡ p
  this_one s id x (inl is) at = (one_pair _ _ x p (sym at ∙ ap (tie calls) is ∙ on.0)).1
  this_one s id x (inr is) at = (one_pair _ _ x p (sym at ∙ ap (tie calls) is ∙ on.1)).1

  pub parts_kept : (x : Pair) → InForce calls x → InForce after x ⊎ (x ≡ p)
  parts_kept x was = elim (freed_kept calls after (λ s. IsOf s p) (either_of calls p) free same x was) [
    | inl still ↦ inl still
    | inr of_p ↦ inr (elim of_p [ inl d ↦ this_one x.first.slot x.first.id x d was.0 | inr d ↦ this_one x.second.slot x.second.id x d was.1 ])
  ]

  pub parts_told : (first second : CallId) → tells.Parted p.first.id p.second.id ≡ tells.Parted first second → Unties calls after first second
  parts_told first second told =
      let a : p.first.id ≡ first = cc in
      let b : p.second.id ≡ second = cc in
      (p, a, b, on, λ still. free p.first.slot (inl refl) p.first.id p still.0)

pub parted_free : (calls : Members) (p : Pair) (s : ℕ) → IsOf s p → (id : CallId) (x : Pair) → tie (parted p calls) s ≡ tied id x → ⊥
parted_free calls p s of_p id x is = free_tie (parted p calls) s (free_of calls p s of_p) id x is

pub parted_same : (calls : Members) (p : Pair) (s : ℕ) → (IsOf s p → ⊥) → tie (parted p calls) s ≡ tie calls s
parted_same calls p s other =
    set_other (in_pair_at None p.first.slot calls) p.second.slot _ (option_map tie_of) s (λ is. other (inr is)) ∙ set_other calls p.first.slot _ (option_map tie_of) s (λ is. other (inl is))

-- ---- an outcome

-- the outcome is the end of a call of this pair
abbrev pub IsEndOf : Pair → Outcome → Type 0
IsEndOf x (Ended id slot media why) = IsPartyOf x id slot
IsEndOf x other = ⊥

-- what it does to the pairs
pub record Does (calls : Members) (o : Outcome) (n : Noted) : Type 0 where
  pub new : NoneNew calls n.calls
  pub kept : (x : Pair) → InForce calls x → InForce n.calls x ⊎ ((n.parted ≡ Some (tells_parted x)) × IsEndOf x o)
  pub parted : (first second : CallId) → n.parted ≡ Some (tells.Parted first second) → Unties calls n.calls first second

-- where nobody is parted, and all ties are as they were
still_does : (calls after : Members) (o : Outcome) → ((s : ℕ) → tie after s ≡ tie calls s) → Does calls o (record { calls = after; parted = None })
still_does calls after o same = record {
  new = λ s id x is. sym (same s) ∙ is;
  kept = λ x on. inl (same x.first.slot ∙ on.0, same x.second.slot ∙ on.1);
  parted = λ first second is. absurd (none_some _ is);
}

-- the call in a slot ends, and with it this pair, which was in force; all others stay so
pub record EndsPairAt (calls after : Members) (id : CallId) (slot : ℕ) (p : Pair) : Type 0 where
  pub party : IsPartyOf p id slot
  pub on : InForce calls p
  pub off : InForce after p → ⊥
  pub others : (x : Pair) → InForce calls x → InForce after x ⊎ (x ≡ p)

pub none_joined : (m : Option Member) → joined_pair m ≡ None → (id : CallId) (x : Pair) → option_map tie_of m ≡ tied id x → ⊥
none_joined m none id x is = let k = tied_some m id x is in none_some x (sym none ∙ ap joined_pair k.1 ∙ k.3)

-- where one slot is freed in which nobody was in a pair
empty_does : (calls after : Members) (o : Outcome) (slot : ℕ) → ((i : CallId) (x : Pair) → tie calls slot ≡ tied i x → ⊥) → ((i : CallId) (x : Pair) → tie after slot ≡ tied i x → ⊥) → ((s : ℕ) → (s ≡ slot → ⊥) → tie after s ≡ tie calls s)
    → Does calls o (record { calls = after; parted = None })
empty_does calls after o slot nobody free same = record {
  new = freed_new calls after (λ s. s ≡ slot) (λ s. cases_eq s slot) free_at same;
  kept = λ x on. elim (freed_kept calls after (λ s. s ≡ slot) (λ s. cases_eq s slot) free_at same x on) [
    | inl still ↦ inl still
    | inr at ↦ absurd (elim at [ inl is ↦ nobody x.first.id x (ap (tie calls) (sym is) ∙ on.0) | inr is ↦ nobody x.second.id x (ap (tie calls) (sym is) ∙ on.1) ])
  ];
  parted = λ first second is. absurd (none_some _ is);
}
  where
    free_at : (s : ℕ) → s ≡ slot → (i : CallId) (x : Pair) → tie after s ≡ tied i x → ⊥
    free_at s is i x e = free i x (ap (tie after) (sym is) ∙ e)

-- a call ends
module _ (calls : Members) (id : CallId) (slot media : ℕ) (why : Rattle.sg_outcome.specs.declared.outcomes.Why.Why) (mates : AreMates calls) (named : AreNamed calls) (of_id : IsOfId calls slot id) where
  abbrev ended : Outcome
  ended = Ended id slot media why

  alone : joined_pair (member_at calls slot) ≡ None → Does calls ended (vacated slot calls None)
  alone none = empty_does calls (set calls slot None) ended slot (none_joined _ none) (set_free_at calls slot None (λ j y e. none_some _ e)) (λ s other. set_other calls slot None (option_map tie_of) s other)

  module _ (p : Pair) (is : joined_pair (member_at calls slot) ≡ Some p) where
    there : (m : Option Member) → joined_pair m ≡ Some p → (k : Member) × (m ≡ Some k) × (k.pair ≡ Some p)
    there None is = absurd (none_some p is)
    there (Some k) is = (k, refl, is)

    its_tie : (i : CallId) × (tie calls slot ≡ tied i p) × (i ≡ id)
    its_tie =
        let k = there (member_at calls slot) is in
        (k.0.id, some_tied _ k.0 k.0.id p k.1 refl k.2, of_id (seen_in k.0) (ap (option_map seen_in) k.1))

    party : IsPartyOf p id slot
    party = subst (λ i. IsPartyOf p i slot) its_tie.2 (named slot its_tie.0 p its_tie.1)

    is_of : IsOf slot p
    is_of = elim party [ inl at ↦ inl at.1 | inr at ↦ inr at.1 ]

    after : Members
    after = set (parted p calls) slot None

    free : (s : ℕ) → IsOf s p → (i : CallId) (x : Pair) → tie (set (parted p calls) slot None) s ≡ tied i x → ⊥
    free s of_p i x e = elim (cases_eq s slot) [
      | inl at ↦ set_free_at (parted p calls) slot None (λ j y e. none_some _ e) i x (ap (tie (set (parted p calls) slot None)) (sym at) ∙ e)
      | inr other ↦ parted_free calls p s of_p i x (sym (set_other (parted p calls) slot None (option_map tie_of) s other) ∙ e)
    ]

    same : (s : ℕ) → (IsOf s p → ⊥) → tie (set (parted p calls) slot None) s ≡ tie calls s
    same s other = set_other (parted p calls) slot None (option_map tie_of) s (λ at. other (subst (λ n. IsOf n p) (sym at) is_of)) ∙ parted_same calls p s other

    on : InForce calls p
    on = whole_in calls mates named slot its_tie.0 p its_tie.1

    joined : Does calls ended (vacated slot calls (Some p))
    joined = record {
      new = parts_new calls (set (parted p calls) slot None) p on free same;
      kept = λ x was. elim (parts_kept calls (set (parted p calls) slot None) p on free same x was) [
        | inl still ↦ inl still
        | inr one ↦ inr (ap (λ (y : Pair). Some (tells_parted y)) (sym one), subst (λ (y : Pair). IsPartyOf y id slot) (sym one) party)
      ];
      parted = λ first second is. parts_told calls (set (parted p calls) slot None) p on free same first second (let told : tells_parted p ≡ tells.Parted first second = cc in told);
    }

    pub ends_pair : EndsPairAt calls (set (parted p calls) slot None) id slot p
    ends_pair = record {
      party = party;
      on = on;
      off = λ still. free p.first.slot (inl refl) p.first.id p still.0;
      others = parts_kept calls (set (parted p calls) slot None) p on free same;
    }

  pub ended_does : Does calls ended (emptied slot calls)
  ended_does = go (joined_pair (member_at calls slot)) refl
    where
      go : (o : Option Pair) → joined_pair (member_at calls slot) ≡ o → Does calls ended (vacated slot calls o)
      go None is = alone is
      go (Some p) is = joined p is

-- a call is made in an empty slot
made_does : (calls : Members) (id : CallId) (slot media : ℕ) → seen_at calls slot ≡ None → Does calls (Made id slot media) (after_outcome calls (Made id slot media))
made_does calls id slot media none =
    empty_does calls made (Made id slot media) slot (λ i x is. none_some _ (ap (option_map tie_of) (sym nothing) ∙ is))
    (set_free_at (emptied slot calls).calls slot (Some (new_member id media)) (none_joined (Some (new_member id media)) refl)) same
  where
    made : Members
    made = set (emptied slot calls).calls slot (Some (new_member id media))

    empty_there : (m : Option Member) → option_map seen_in m ≡ None → m ≡ None
    empty_there None is = refl
    empty_there (Some m) is = absurd (none_some _ (sym is))

    nothing : member_at calls slot ≡ None
    nothing = empty_there (member_at calls slot) none

    emptied_is : (emptied slot calls).calls ≡ set calls slot None
    emptied_is = ap (λ (m : Option Member). (vacated slot calls (joined_pair m)).calls) nothing

    same : (s : ℕ) → (s ≡ slot → ⊥) → tie made s ≡ tie calls s
    same s other = set_other (emptied slot calls).calls slot (Some (new_member id media)) (option_map tie_of) s other ∙ ap (λ (c : Members). tie c s) emptied_is ∙ set_other calls slot None (option_map tie_of) s other

pub outcome_does : (calls : Members) (o : Outcome) → AreMates calls → AreNamed calls → FitsOne calls o → Does calls o (after_outcome calls o)
outcome_does calls (Made id slot media) mates named fits = made_does calls id slot media fits
outcome_does calls (Live id) mates named fits = still_does calls (map (now_live id) calls) (Live id) (live_keeps (option_map tie_of) (λ m. refl) id calls)
outcome_does calls (Ended id slot media why) mates named fits = ended_does calls id slot media why mates named fits
outcome_does calls other mates named fits = still_does calls calls other (λ s. refl)

-- ---- all that is told of a signal

pub record DoesAll (calls : Members) (f : Following) : Type 0 where
  pub new : NoneNew calls f.calls
  pub kept : (x : Pair) → InForce calls x → InForce f.calls x ⊎ IsPartedAtEnd x f.told
  pub parted : (first second : CallId) → Any (λ o. o ≡ tells.Parted first second) f.told → Unties calls f.calls first second

-- the end is told at the front
ends_here : (x : Pair) (o : Outcome) (q : Option BridgeOutcome) (f : Following) → IsEndOf x o → q ≡ Some (tells_parted x) → IsPartedAtEnd x (behind o q f).told
ends_here x (Ended id slot media why) q f end is =
    record { earlier = []; later = f.told; id = id; slot = slot; media = media; why = why; party = end; told_is = ap (λ (p : Option BridgeOutcome). tells.Table (Ended id slot media why) ∷ option_to_list p ++ f.told) is }
ends_here x (Made id slot media) q f end is = absurd end
ends_here x other q f end is = absurd end

-- or further on
ends_later : (x : Pair) (o : Outcome) (q : Option BridgeOutcome) (f : Following) → IsPartedAtEnd x f.told → IsPartedAtEnd x (behind o q f).told
ends_later x o None f at =
    record { earlier = tells.Table o ∷ at.earlier; later = at.later; id = at.id; slot = at.slot; media = at.media; why = at.why; party = at.party; told_is = ap (λ l. tells.Table o ∷ l) at.told_is }
ends_later x o (Some q) f at =
    record { earlier = tells.Table o ∷ q ∷ at.earlier; later = at.later; id = at.id; slot = at.slot; media = at.media; why = at.why; party = at.party; told_is = ap (λ l. tells.Table o ∷ q ∷ l) at.told_is }

-- an outcome, and those behind it
module _ (calls : Members) (o : Outcome) (n : Noted) (f : Following) (does : Does calls o n) (rest : DoesAll n.calls f) where
  in_both : (x : Pair) → InForce f.calls x → InForce n.calls x
  in_both x on = (rest.new x.first.slot x.first.id x on.0, rest.new x.second.slot x.second.id x on.1)

  at_rest : (first second : CallId) → Unties n.calls f.calls first second → Unties calls f.calls first second
  at_rest first second (x, a, b, on, off) = (x, a, b, (does.new x.first.slot x.first.id x on.0, does.new x.second.slot x.second.id x on.1), off)

  at_once : (first second : CallId) → Unties calls n.calls first second → Unties calls f.calls first second
  at_once first second (x, a, b, on, off) = (x, a, b, on, λ still. off (in_both x still))

  parted_in : (first second : CallId) (q : Option BridgeOutcome) → n.parted ≡ q → Any (λ o. o ≡ tells.Parted first second) (behind o q f).told → Unties calls f.calls first second
  parted_in first second None is a = elim (any_cases (λ o. o ≡ tells.Parted first second) (tells.Table o) f.told a) [
    | inl same ↦ absurd cc
    | inr later ↦ at_rest first second (rest.parted first second later)
  ]
  parted_in first second (Some q) is a = elim (any_cases (λ o. o ≡ tells.Parted first second) (tells.Table o) (q ∷ f.told) a) [
    | inl same ↦ absurd cc
    | inr later ↦ elim (any_cases (λ o. o ≡ tells.Parted first second) q f.told later) [
      | inl same ↦ at_once first second (does.parted first second (is ∙ ap (λ (p : BridgeOutcome). Some p) same))
      | inr further ↦ at_rest first second (rest.parted first second further)
    ]
  ]

  does_behind : DoesAll calls (behind o n.parted f)
  does_behind = record {
    new = λ s id x is. does.new s id x (rest.new s id x is);
    kept = λ x on. elim (does.kept x on) [
      | inl on' ↦ elim (rest.kept x on') [ inl still ↦ inl still | inr at ↦ inr (ends_later x o n.parted f at) ]
      | inr end ↦ inr (ends_here x o n.parted f end.1 end.0)
    ];
    parted = λ first second a. parted_in first second n.parted refl a;
  }

pub told_does : (calls : Members) (os : List Outcome) → AreMates calls → AreNamed calls → Fits calls os → DoesAll calls (told_and_parted calls os)
told_does calls [] mates named fits = record {
  new = λ s id x is. is;
  kept = λ x on. inl on;
  parted = λ first second a. absurd (any_none (λ o. o ≡ tells.Parted first second) a);
}
told_does calls (o ∷ os) mates named fits =
    let does = outcome_does calls o mates named fits.0 in
    does_behind calls o (after_outcome calls o) (told_and_parted (after_outcome calls o).calls os) does
    (told_does (after_outcome calls o).calls os (outcome_mates calls o mates) (named_on calls (after_outcome calls o).calls does.new named) fits.1)
