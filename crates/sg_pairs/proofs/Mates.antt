-- Each pair stands at both its slots, so that a port goes on and comes back.
use Rattle.std.proofs.Common.{◌≡◌, ◌⊎◌, inl, inr, ℕ, ◌<◌, length, map, Option, Some, None, refl, sym, ap, ◌∙◌, subst, arith}
use Rattle.std.proofs.lemmas.Bool.{cases_eq, cases_lt}
use Rattle.std.proofs.lemmas.List.{get_or-set_other, get_or-set_same, get_or_past, length-map, length-replicate, length-set}
use Rattle.std.specs.Prelude.{option_map, set}
use Rattle.sg_base.proofs.Cases.{map_some, none_some}
use Rattle.sg_base.specs.declared.addresses.CallId.{CallId}
use Rattle.sg_outcome.specs.declared.outcomes.Outcome.{Outcome}
use Rattle.sg_outcome.specs.declared.outcomes.Outcome.TheVariants.{Made, Live, Ended}
use Rattle.sg_pairs.proofs.Found.{CanJoin, CanPart, at_set, first_in, live_keeps, no_member, others_in, second_in, set_other}
use Rattle.sg_pairs.specs.Pairs.{Members, emptied, vacated, new_member, member_at, no_members, after_outcome, now_live, pair, joined_pair, paired, parted, in_pair, in_pair_at}
use Rattle.sg_pairs.specs.declared.members.Found.{Found}
use Rattle.sg_pairs.specs.declared.members.Member.{Member}
use Rattle.sg_pairs.specs.declared.members.Pair.{Pair}

-- what counts of a call here: how many media it has, and its pair
pub record Look : Type 0 where
  pub media : ℕ
  pub pair : Option Pair

abbrev pub look_of : Member → Look
look_of m = record { media = m.media; pair = m.pair }

abbrev pub look : Members → ℕ → Option Look
look calls s = option_map look_of (member_at calls s)

abbrev pub joined_look : ℕ → Pair → Look
joined_look media x = record { media = media; pair = Some x }

abbrev pub joined_in : ℕ → Pair → Option Look
joined_in media x = Some (joined_look media x)

abbrev pub IsOf : ℕ → Pair → Type 0
IsOf s x = (s ≡ x.first.slot) ⊎ (s ≡ x.second.slot)

-- Both calls of the pair are there, in two slots, with as many media, and each is in it.
pub record Stands (calls : Members) (x : Pair) : Type 0 where
  pub media : ℕ
  pub at_first : look calls x.first.slot ≡ joined_in media x
  pub at_second : look calls x.second.slot ≡ joined_in media x
  pub apart : x.first.slot ≡ x.second.slot → ⊥

pub record AreMates (calls : Members) : Type 0 where
  pub size : length calls ≡ 256
  pub mates : (s media : ℕ) (x : Pair) → look calls s ≡ joined_in media x → IsOf s x × Stands calls x

-- ---- single slots

same_pair : (m n : ℕ) (x y : Pair) → joined_in m x ≡ joined_in n y → x ≡ y
same_pair m n x y is =
    let looks : joined_look m x ≡ joined_look n y = cc in
    let pairs : Some x ≡ Some y = ap (λ (l : Look). l.pair) looks in cc

pub same_media : (m n : ℕ) (x y : Pair) → joined_in m x ≡ joined_in n y → m ≡ n
same_media m n x y is =
    let looks : joined_look m x ≡ joined_look n y = cc in ap (λ (l : Look). l.media) looks

-- the slots in which no call is joined
abbrev pub IsFree : Members → ℕ → Type 0
IsFree calls s = (media : ℕ) (x : Pair) → look calls s ≡ joined_in media x → ⊥

free_set : (calls : Members) (slot : ℕ) (v : Option Member) → ((media : ℕ) (x : Pair) → option_map look_of v ≡ joined_in media x → ⊥) → IsFree (set calls slot v) slot
free_set calls slot v free = at_set calls slot v (λ o. (media : ℕ) (x : Pair) → option_map look_of o ≡ joined_in media x → ⊥) free (λ media x e. none_some _ e)

-- ---- where calls stop being joined

-- The slots of D are free now; the others are as they were; and whoever was joined with one of D is of D.
module _ (old new : Members) (D : ℕ → Type 0) (decided : (s : ℕ) → D s ⊎ (D s → ⊥)) (free : (s : ℕ) → D s → IsFree new s) (same : (s : ℕ) → (D s → ⊥) → look new s ≡ look old s)
    (whole : (s media : ℕ) (x : Pair) → D s → look old s ≡ joined_in media x → (t : ℕ) → IsOf t x → D t) (size : length new ≡ 256) where
  stands_on : (x : Pair) → (D x.first.slot → ⊥) → (D x.second.slot → ⊥) → Stands old x → Stands new x
  stands_on x f g stands = record {
    media = stands.media;
    at_first = same x.first.slot f ∙ stands.at_first;
    at_second = same x.second.slot g ∙ stands.at_second;
    apart = stands.apart;
  }

  pub freed : AreMates old → AreMates new
  freed mates = record {
    size = size;
    mates = λ s media x is. elim (decided s) [
      | inl d ↦ absurd (free s d media x is)
      | inr not_d ↦
          let was = mates.mates s media x (sym (same s not_d) ∙ is) in
          let stands = was.1 in (
            was.0,
            stands_on x (λ d. not_d (whole x.first.slot stands.media x d stands.at_first s was.0)) (λ d. not_d (whole x.second.slot stands.media x d stands.at_second s was.0)) stands,
          )
    ];
  }

-- a slot that is free stays so
pub set_free : (calls : Members) (slot : ℕ) (v : Option Member) → IsFree calls slot → ((media : ℕ) (x : Pair) → option_map look_of v ≡ joined_in media x → ⊥) → AreMates calls → AreMates (set calls slot v)
set_free calls slot v was free mates =
    freed calls (set calls slot v) (λ s. s ≡ slot) (λ s. cases_eq s slot) (λ s is. subst (IsFree (set calls slot v)) (sym is) (free_set calls slot v free))
    (set_other calls slot v (option_map look_of)) (λ s media x is at t of_x. absurd (was media x (ap (look calls) (sym is) ∙ at))) (length-set calls slot v ∙ mates.size) mates

-- ---- a pair that is parted

unpaired : (m : Option Member) (media : ℕ) (x : Pair) → option_map look_of (in_pair None m) ≡ joined_in media x → ⊥
unpaired None media x is = none_some _ is
unpaired (Some m) media x is = (let same : record { media = m.media; pair = None } ≡ record { media = media; pair = Some x } = cc in none_some x (ap (λ (l : Look). l.pair) same))

module _ (calls : Members) (x : Pair) where
  parted_size : length (parted x calls) ≡ length calls
  parted_size = length-set (in_pair_at None x.first.slot calls) x.second.slot _ ∙ length-set calls x.first.slot _

  free_second : IsFree (parted x calls) x.second.slot
  free_second = free_set (in_pair_at None x.first.slot calls) x.second.slot _ (unpaired (member_at (in_pair_at None x.first.slot calls) x.second.slot))

  free_first : IsFree (parted x calls) x.first.slot
  free_first media y is = elim (cases_eq x.first.slot x.second.slot) [
    | inl same ↦ free_second media y (ap (look (parted x calls)) (sym same) ∙ is)
    | inr other ↦ free_set calls x.first.slot _ (unpaired (member_at calls x.first.slot)) media y (sym (set_other (in_pair_at None x.first.slot calls) x.second.slot _ (option_map look_of) x.first.slot other) ∙ is)
  ]

  pub either_of : (s : ℕ) → IsOf s x ⊎ (IsOf s x → ⊥)
  either_of s = elim (cases_eq s x.first.slot) [
    | inl is ↦ inl (inl is)
    | inr not_first ↦ elim (cases_eq s x.second.slot) [
      | inl is ↦ inl (inr is)
      | inr not_second ↦ inr (λ of_x. elim of_x [ inl is ↦ not_first is | inr is ↦ not_second is ])
    ]
  ]

  pub free_of : (s : ℕ) → IsOf s x → IsFree (parted x calls) s
  free_of s (inl is) = subst (IsFree (parted x calls)) (sym is) free_first
  free_of s (inr is) = subst (IsFree (parted x calls)) (sym is) free_second

  pub parted_mates : Stands calls x → AreMates calls → AreMates (parted x calls)
  parted_mates stands mates =
      freed calls (parted x calls) (λ s. IsOf s x) either_of free_of
      (λ s other. set_other (in_pair_at None x.first.slot calls) x.second.slot _ (option_map look_of) s (λ is. other (inr is)) ∙ set_other calls x.first.slot _ (option_map look_of) s (λ is. other (inl is)))
      (λ s media y of_x at t of_y. subst (IsOf t) (same_as s media y of_x at) of_y) (parted_size ∙ mates.size) mates
    where
      same_as : (s media : ℕ) (y : Pair) → IsOf s x → look calls s ≡ joined_in media y → y ≡ x
      same_as s media y (inl is) at = same_pair _ _ y x (sym at ∙ ap (look calls) is ∙ stands.at_first)
      same_as s media y (inr is) at = same_pair _ _ y x (sym at ∙ ap (look calls) is ∙ stands.at_second)

-- ---- what the table tells

look_joined : (m : Option Member) (x : Pair) → joined_pair m ≡ Some x → (media : ℕ) × (option_map look_of m ≡ joined_in media x)
look_joined None x is = absurd (none_some x is)
look_joined (Some m) x is = (m.media, ap (λ (p : Option Pair). Some (let l : Look = record { media = m.media; pair = p } in l)) is)

free_look : (m : Option Member) → joined_pair m ≡ None → (media : ℕ) (x : Pair) → option_map look_of m ≡ joined_in media x → ⊥
free_look None none media x is = none_some _ is
free_look (Some m) none media x is = (let same : look_of m ≡ record { media = media; pair = Some x } = cc in none_some x (sym none ∙ ap (λ (l : Look). l.pair) same))

pub emptied_mates : (slot : ℕ) (calls : Members) → AreMates calls → AreMates (emptied slot calls).calls × IsFree (emptied slot calls).calls slot
emptied_mates slot calls mates = go (joined_pair (member_at calls slot)) refl
  where
    go : (o : Option Pair) → joined_pair (member_at calls slot) ≡ o → AreMates (vacated slot calls o).calls × IsFree (vacated slot calls o).calls slot
    go None is = (
      set_free calls slot None (free_look (member_at calls slot) is) (λ media x e. none_some _ e) mates,
      free_set calls slot None (λ media x e. none_some _ e),
    )
    go (Some x) is =
        let at = look_joined (member_at calls slot) x is in
        let has = mates.mates slot at.0 x at.1 in (
          set_free (parted x calls) slot None (free_of calls x slot has.0) (λ media y e. none_some _ e) (parted_mates calls x has.1 mates),
          free_set (parted x calls) slot None (λ media y e. none_some _ e),
        )

live_mates : (id : CallId) (calls : Members) → AreMates calls → AreMates (map (now_live id) calls)
live_mates id calls mates =
    freed calls (map (now_live id) calls) (λ s. ⊥) (λ s. inr (λ no. no)) (λ s no. absurd no) (λ s none. live_keeps (option_map look_of) (λ m. refl) id calls s)
    (λ s media x no. absurd no) (length-map calls (now_live id) ∙ mates.size) mates

pub outcome_mates : (calls : Members) (o : Outcome) → AreMates calls → AreMates (after_outcome calls o).calls
outcome_mates calls (Made id slot media) mates = let e = emptied_mates slot calls mates in set_free (emptied slot calls).calls slot (Some (new_member id media)) e.1 (free_look (Some (new_member id media)) refl) e.0
outcome_mates calls (Live id) mates = live_mates id calls mates
outcome_mates calls (Ended id slot media why) mates = (emptied_mates slot calls mates).0
outcome_mates calls other mates = mates

-- ---- calls that are joined

module _ (calls : Members) (first second : CallId) (a b : Found) (can : CanJoin calls first second a b) (mates : AreMates calls) where
  abbrev p : Pair
  p = pair a b

  abbrev after : Members
  after = paired p calls

  look_first : look after a.slot ≡ joined_in a.member.media p
  look_first = ap (option_map look_of) (first_in calls first second a b can)

  look_second : look after b.slot ≡ joined_in a.member.media p
  look_second = ap (option_map look_of) (second_in calls first second a b can) ∙ ap (λ n. joined_in n p) (sym can.media)

  look_other : (s : ℕ) → (s ≡ a.slot → ⊥) → (s ≡ b.slot → ⊥) → look after s ≡ look calls s
  look_other s f g = ap (option_map look_of) (others_in calls first second a b can s f g)

  stands_so : Stands after p
  stands_so = record { media = a.member.media; at_first = look_first; at_second = look_second; apart = can.apart }

  -- whoever was in a pair is in neither slot
  as_before : (s n : ℕ) (x : Pair) → look calls s ≡ joined_in n x → look after s ≡ joined_in n x
  as_before s n x at =
      look_other s
      (λ is. free_look (member_at calls a.slot) (ap joined_pair can.a_is.at ∙ can.a_free) n x (ap (look calls) (sym is) ∙ at))
      (λ is. free_look (member_at calls b.slot) (ap joined_pair can.b_is.at ∙ can.b_free) n x (ap (look calls) (sym is) ∙ at))
      ∙ at

  of_new : (s n : ℕ) (x : Pair) → IsOf s p → look after s ≡ joined_in n x → IsOf s x × Stands after x
  of_new s n x of_p at = subst (λ (y : Pair). IsOf s y × Stands after y) (sym (same of_p)) (of_p, stands_so)
    where
      same : IsOf s p → x ≡ p
      same (inl is) = same_pair _ _ x p (sym at ∙ ap (look after) is ∙ look_first)
      same (inr is) = same_pair _ _ x p (sym at ∙ ap (look after) is ∙ look_second)

  of_old : (s n : ℕ) (x : Pair) → (s ≡ a.slot → ⊥) → (s ≡ b.slot → ⊥) → look after s ≡ joined_in n x → IsOf s x × Stands after x
  of_old s n x f g at =
      let was = mates.mates s n x (sym (look_other s f g) ∙ at) in
      let stands = was.1 in (
        was.0,
        record { media = stands.media; at_first = as_before x.first.slot stands.media x stands.at_first; at_second = as_before x.second.slot stands.media x stands.at_second; apart = stands.apart },
      )

  pub joining_mates : AreMates after
  joining_mates = record {
    size = length-set (in_pair_at (Some p) a.slot calls) b.slot _ ∙ length-set calls a.slot _ ∙ mates.size;
    mates = λ s n x at. elim (cases_eq s a.slot) [
      | inl is ↦ of_new s n x (inl is) at
      | inr f ↦ elim (cases_eq s b.slot) [
        | inl is ↦ of_new s n x (inr is) at
        | inr g ↦ of_old s n x f g at
      ]
    ];
  }

pub parting_mates : (calls : Members) (id : CallId) (f : Found) (x : Pair) → CanPart calls id f x → AreMates calls → AreMates (parted x calls)
parting_mates calls id f x can mates =
    let has = look_joined (member_at calls f.slot) x (ap joined_pair can.is.at ∙ can.paired) in
    parted_mates calls x (mates.mates f.slot has.0 x has.1).1 mates

pub no_members_mates : AreMates no_members
no_members_mates = record {
  size = length-replicate 256 (let none : Option Member = None in none);
  mates = λ s media x is. absurd (none_some _ (ap (option_map look_of) (sym (no_member s)) ∙ is));
}

-- the call of a slot, by its look
pub member_of : (calls : Members) (s media : ℕ) (x : Pair) → look calls s ≡ joined_in media x → (m : Member) × (member_at calls s ≡ Some m) × (m.media ≡ media) × (m.pair ≡ Some x)
member_of calls s media x is =
    let m = map_some (member_at calls s) look_of (joined_look media x) is in
    (m.0, m.1, ap (λ (l : Look). l.media) m.2, ap (λ (l : Look). l.pair) m.2)
