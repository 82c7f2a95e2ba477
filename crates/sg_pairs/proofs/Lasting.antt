-- A pair stays in force until a line ends it, and comes of a line that joins; what is told of a signal is what the gateway tells.
use Rattle.std.proofs.Common.{◌≡◌, ◌⊎◌, inl, inr, ℕ, List, [], ◌∷◌, Ok, refl, sym, ap, ◌∙◌, subst, Option, Some, None}
use Rattle.std.proofs.lemmas.Bool.{cases_eq}
use Rattle.std.specs.List.{All, Any}
use Rattle.std.specs.Prelude.{option_map, set}
use Rattle.sg_base.proofs.Cases.{none_some}
use Rattle.sg_base.specs.declared.addresses.CallId.{CallId}
use Rattle.sg_gateway.specs.Order.{IsOrderly}
use Rattle.sg_gateway.specs.Runs.{world_after}
use Rattle.sg_gateway.specs.Signals.{Signal}
use Rattle.sg_gateway.specs.Step.{Event, Signalled, Datagram, step}
use Rattle.sg_gateway.specs.World.{World, empty}
use Rattle.sg_outcome.specs.declared.outcomes.Outcome.{Outcome}
use Rattle.sg_outcome.specs.declared.outcomes.Outcome.TheVariants.{Made, Live, Ended}
use Rattle.sg_outcome.specs.declared.outcomes.Why.{Why}
use Rattle.sg_session.proofs.Lists.{any_cases, any_none, any_here, any_there}
use Rattle.sg_pairs.proofs.BothWays.{said_begins, said_mates}
use Rattle.sg_pairs.proofs.Calls.{Knows, StaysOrderly, are_the_calls, knows_its_calls, nobody_known, said_goes, said_as_told, said_so}
use Rattle.sg_pairs.proofs.Cases.{IsOfDatagram, all_bridgings, all_lines, each_line, in_each_case}
use Rattle.sg_pairs.proofs.Found.{CanJoin, CanPart, first_in, others_in, second_in}
use Rattle.sg_pairs.proofs.Known.{seen_in, Fits, FitsOne, IsOfId}
use Rattle.sg_pairs.proofs.Mates.{AreMates, no_members_mates, outcome_mates}
use Rattle.sg_pairs.proofs.Stepped.{HasCount, signal_holds}
use Rattle.sg_pairs.proofs.Ties.{AreNamed, InForce, NoneNew, Unties, in_force, is_in_force, named_on, none_joined, one_pair, parted_free, parted_same, parts_kept, parts_new, parts_told, some_tied, tie, tie_of, tied, tied_some, told_does, was_parted, whole_in, Does, IsEndOf, ends_pair, outcome_does}
use Rattle.sg_pairs.specs.Bridged.{Bridging, Said, Happens, Joins, Parts, bridging, bridgings_from, happened, happens, joining, parting, behind, told_and_parted}
use Rattle.sg_pairs.specs.Calls.{AllLines, IsAsTold, JoinsAndPartsSo, KnowsItsCalls}
use Rattle.sg_pairs.specs.Lasting.{EndsPair, IsInForce, IsPartyOf, MakesPair, PairsLast, WasParted}
use Rattle.sg_pairs.specs.Pairs.{Members, joined_pair, member_at, no_members, pair, paired, parted, after_outcome, vacated}
use Rattle.sg_pairs.specs.Telling.{AreTold, EndsOneOf, TellsSignal}
use Rattle.sg_pairs.specs.declared.members.Found.{Found}
use Rattle.sg_pairs.specs.declared.members.Pair.{Pair}
use Rattle.sg_pairs.specs.declared.outcomes.BridgeOutcome.{BridgeOutcome}
use Rattle.sg_pairs.specs.declared.outcomes.BridgeOutcome.TheVariants as tells

-- what a line does to the pairs that were there
pub record Lasts (calls : Members) (s : Said) (b : Bridging) : Type 0 where
  pub named : AreNamed b.calls
  pub kept : (x : Pair) → InForce calls x → InForce b.calls x ⊎ EndsPair s x b.told
  pub only : (x : Pair) → InForce b.calls x → InForce calls x ⊎ MakesPair s x b.told
  pub parted : (first second : CallId) → Any (λ o. o ≡ tells.Parted first second) b.told → Unties calls b.calls first second

-- the only thing that is told
one_told : (P : BridgeOutcome → Type 0) (o : BridgeOutcome) → Any P (o ∷ []) → P o
one_told P o a = elim (any_cases P o [] a) [ inl is ↦ is | inr rest ↦ absurd (any_none P rest) ]

-- where no call is joined or parted, and one thing is told, which is no parting
quiet_lasts : (w : World) (calls : Members) (s : Said) (events : List Event) (o : BridgeOutcome) (world : World) → AreNamed calls → ((first second : CallId) → o ≡ tells.Parted first second → ⊥) → Lasts calls s (happens w calls events (o ∷ []) world)
quiet_lasts w calls s events o world named not = record {
  named = named;
  kept = λ x on. inl on;
  only = λ x on. inl on;
  parted = λ first second a. absurd (not first second (one_told (λ o. o ≡ tells.Parted first second) o a));
}

no_parting : (o : BridgeOutcome) → IsOfDatagram o → (first second : CallId) → o ≡ tells.Parted first second → ⊥
no_parting o of first second is = subst IsOfDatagram is of

-- ---- a line that joins

-- two calls that were in no pair are in one then
module _ (calls : Members) (first second : CallId) (a b : Found) (can : CanJoin calls first second a b) (named : AreNamed calls) where
  first_tie : tie (paired (pair a b) calls) a.slot ≡ tied a.member.id (pair a b)
  first_tie = ap (option_map tie_of) (first_in calls first second a b can)

  second_tie : tie (paired (pair a b) calls) b.slot ≡ tied b.member.id (pair a b)
  second_tie = ap (option_map tie_of) (second_in calls first second a b can)

  other_tie : (s : ℕ) → (s ≡ a.slot → ⊥) → (s ≡ b.slot → ⊥) → tie (paired (pair a b) calls) s ≡ tie calls s
  other_tie s f g = ap (option_map tie_of) (others_in calls first second a b can s f g)

  -- in one of the two slots the pair is the new one; in the others all is as it was
  this_or_old : (s : ℕ) (id : CallId) (x : Pair) → tie (paired (pair a b) calls) s ≡ tied id x → ((x ≡ pair a b) × IsPartyOf (pair a b) id s) ⊎ (tie calls s ≡ tied id x)
  this_or_old s id x is = elim (cases_eq s a.slot) [
    | inl at ↦ (let same = one_pair id a.member.id x (pair a b) (sym is ∙ ap (tie (paired (pair a b) calls)) at ∙ first_tie) in inl (same.1, inl (same.0, at)))
    | inr f ↦ elim (cases_eq s b.slot) [
      | inl at ↦ (let same = one_pair id b.member.id x (pair a b) (sym is ∙ ap (tie (paired (pair a b) calls)) at ∙ second_tie) in inl (same.1, inr (same.0, at)))
      | inr g ↦ inr (sym (other_tie s f g) ∙ is)
    ]
  ]

  -- whoever was in a pair is in neither slot
  as_before : (s : ℕ) (id : CallId) (x : Pair) → tie calls s ≡ tied id x → tie (paired (pair a b) calls) s ≡ tied id x
  as_before s id x is =
      other_tie s
      (λ at. none_joined (member_at calls a.slot) (ap joined_pair can.a_is.at ∙ can.a_free) id x (ap (tie calls) (sym at) ∙ is))
      (λ at. none_joined (member_at calls b.slot) (ap joined_pair can.b_is.at ∙ can.b_free) id x (ap (tie calls) (sym at) ∙ is))
      ∙ is

  join_lasts : (w : World) → Lasts calls (Joins first second) (joining w calls first second (Ok (paired (pair a b) calls)))
  join_lasts w = record {
    named = λ s id x is. elim (this_or_old s id x is) [
      | inl new ↦ subst (λ (y : Pair). IsPartyOf y id s) (sym new.0) new.1
      | inr old ↦ named s id x old
    ];
    kept = λ x on. inl (as_before x.first.slot x.first.id x on.0, as_before x.second.slot x.second.id x on.1);
    only = λ x on. elim (this_or_old x.first.slot x.first.id x on.0) [
      | inl new ↦ inr (makes x new.0)
      | inr was_first ↦ elim (this_or_old x.second.slot x.second.id x on.1) [
        | inl new ↦ inr (makes x new.0)
        | inr was_second ↦ inl (was_first, was_second)
      ]
    ];
    parted = λ y z told. no_end y z (one_told (λ o. o ≡ tells.Parted y z) (tells.Joined first second) told);
  }
    where
      makes : (x : Pair) → x ≡ pair a b → MakesPair (Joins first second) x (tells.Joined first second ∷ [])
      makes x new = (ap (λ (y : Pair). y.first.id) new ∙ can.a_is.named, ap (λ (y : Pair). y.second.id) new ∙ can.b_is.named, refl)

      no_end : (y z : CallId) → tells.Joined first second ≡ tells.Parted y z → Unties calls (paired (pair a b) calls) y z
      no_end y z is = absurd cc

-- ---- a line that parts

module _ (w : World) (calls : Members) (id : CallId) (f : Found) (x : Pair) (can : CanPart calls id f x) (mates : AreMates calls) (named : AreNamed calls) where
  its_tie : tie calls f.slot ≡ tied f.member.id x
  its_tie = some_tied _ f.member f.member.id x can.is.at refl can.paired

  on : InForce calls x
  on = whole_in calls mates named f.slot f.member.id x its_tie

  its_own : (id ≡ x.first.id) ⊎ (id ≡ x.second.id)
  its_own = elim (named f.slot f.member.id x its_tie) [ inl of_first ↦ inl (sym can.is.named ∙ of_first.0) | inr of_second ↦ inr (sym can.is.named ∙ of_second.0) ]

  none_new : NoneNew calls (parted x calls)
  none_new = parts_new calls (parted x calls) x on (parted_free calls x) (parted_same calls x)

  part_lasts : Lasts calls (Parts id) (parting w calls id (Ok (record { calls = parted x calls; pair = x })))
  part_lasts = record {
    named = named_on calls (parted x calls) none_new named;
    kept = λ y was. elim (parts_kept calls (parted x calls) x on (parted_free calls x) (parted_same calls x) y was) [
      | inl still ↦ inl still
      | inr one ↦ inr (subst (λ (z : Pair). EndsPair (Parts id) z (tells.Parted x.first.id x.second.id ∷ [])) (sym one) (its_own, refl))
    ];
    only = λ y now. inl (none_new y.first.slot y.first.id y now.0, none_new y.second.slot y.second.id y now.1);
    parted = λ a z told.
        parts_told calls (parted x calls) x on (parted_free calls x) (parted_same calls x) a z (one_told (λ o. o ≡ tells.Parted a z) (tells.Parted x.first.id x.second.id) told);
  }

-- ---- a line

-- what lines leave of a world and the calls in it
pub record Standing (w : World) (calls : Members) : Type 0 where
  pub stays : StaysOrderly w
  pub mates : AreMates calls
  pub knows : Knows w calls
  pub named : AreNamed calls

pub said_lasts : HasCount → (w : World) (calls : Members) (s : Said) → Standing w calls → Lasts calls s (bridging w calls s)
said_lasts count w calls s is = each_line w calls (Lasts calls) (record {
  signal = signal_lasts;
  datagram = λ port from d. in_each_case w calls port from d (Lasts calls (Happens (Datagram port from d))) (λ events o of. quiet_lasts w calls (Happens (Datagram port from d)) events o (world_after w events) is.named (no_parting o of));
  joins = λ first second a b can. join_lasts calls first second a b can is.named w;
  unjoined = λ first second call cause. quiet_lasts w calls (Joins first second) [] (tells.Unjoined call cause) w is.named (λ a z is. absurd cc);
  parts = λ id f x can. part_lasts w calls id f x can is.mates is.named;
  unparted = λ id cause. quiet_lasts w calls (Parts id) [] (tells.Unjoined id cause) w is.named (λ a z is. absurd cc);
}) s
  where
    signal_lasts : (signal : Signal) → Lasts calls (Happens (Signalled signal)) (happened w calls (Signalled signal))
    signal_lasts signal =
        let holds = signal_holds count w calls (is.stays []) is.mates is.knows.known is.knows.begun signal (is.stays (Signalled signal ∷ [])) in
        let does = told_does calls (step w (Signalled signal)).outcomes is.mates is.named holds.2 in
        record {
          named = named_on calls (happened w calls (Signalled signal)).calls does.new is.named;
          kept = does.kept;
          only = λ x on. inl (does.new x.first.slot x.first.id x on.0, does.new x.second.slot x.second.id x on.1);
          parted = does.parted;
        }

pub lasts : HasCount → (w : World) (calls : Members) (s : Said) → Standing w calls → PairsLast s (bridging w calls s)
lasts count w calls s stand = record {
  whole = λ slot m p at is.
      let its = some_tied (member_at b.calls slot) m m.id p at refl is in
      (last.named slot m.id p its, is_in_force b.calls p (whole_in b.calls (said_mates w calls s stand.mates) last.named slot m.id p its));
  kept = λ p on. elim (last.kept p (in_force calls p (subst (λ (c : Members). IsInForce c p) same on))) [
    | inl still ↦ inl (is_in_force b.calls p still)
    | inr ends ↦ inr ends
  ];
  only = λ p on. elim (last.only p (in_force b.calls p on)) [
    | inl was ↦ inl (subst (λ (c : Members). IsInForce c p) (sym same) (is_in_force calls p was))
    | inr makes ↦ inr makes
  ];
  parted = λ first second told.
      subst (λ (c : Members). WasParted c b.calls first second) (sym same) (was_parted calls b.calls first second (last.parted first second told));
}
  where
    b : Bridging
    b = bridging w calls s

    same : b.pairs ≡ calls
    same = (said_begins w calls s).pairs

    last : Lasts calls s b
    last = said_lasts count w calls s stand

-- ---- a run

pub nobody_named : AreNamed no_members
nobody_named s id x is = let k = tied_some (member_at no_members s) id x is in absurd (none_some _ (sym (nobody_known.known s) ∙ ap (option_map seen_in) k.1))

module _ (count : HasCount) (orderly : (es : List Event) → IsOrderly (world_after empty es)) where
  begins : Standing empty no_members
  begins = record { stays = orderly; mates = no_members_mates; knows = nobody_known; named = nobody_named }

  leaves : (w : World) (calls : Members) (s : Said) → Standing w calls → Standing (bridging w calls s).world (bridging w calls s).calls
  leaves w calls s is =
      let goes = said_goes count w calls is.stays is.mates is.knows s in
      record { stays = goes.1; mates = said_mates w calls s is.mates; knows = goes.0; named = (said_lasts count w calls s is).named }

  -- what holds of each line of what lines leave
  pub all_standing : (P : Said → Bridging → Type 0) → ((w : World) (calls : Members) (s : Said) → Standing w calls → P s (bridging w calls s)) → (said : List Said) → AllLines P said (bridgings_from empty no_members said)
  all_standing = all_lines Standing begins leaves

  pub all_last : (said : List Said) → AllLines PairsLast said (bridgings_from empty no_members said)
  all_last = all_standing PairsLast (lasts count)

  pub all_known : (said : List Said) → All KnowsItsCalls (bridgings_from empty no_members said)
  all_known = all_bridgings Standing begins leaves KnowsItsCalls (λ w calls s is. knows_its_calls count w calls s is.stays is.mates is.knows)

  pub all_so : (said : List Said) → AllLines JoinsAndPartsSo said (bridgings_from empty no_members said)
  all_so = all_standing JoinsAndPartsSo (λ w calls s is. said_so w calls s (is.stays []) (are_the_calls w calls (is.stays []) is.knows))

  pub all_as_told : (said : List Said) → AllLines IsAsTold said (bridgings_from empty no_members said)
  all_as_told = all_standing IsAsTold (λ w calls s is. said_as_told w calls s (is.stays []) (are_the_calls w calls (is.stays []) is.knows) is.mates)

-- ---- what is told of a signal is what the gateway tells of it, and behind each end of a call of a pair that it is parted

to_end : (p : Pair) (o : Outcome) → EndsOneOf p o → IsEndOf p o
to_end p o (id, slot, media, why, is, party) = subst (IsEndOf p) (sym is) party

module _ (calls : Members) where
  -- the pairs in force now are those that were so before, but for those that are gone
  pub record Holds (now : Members) (gone : List Pair) : Type 0 where
    pub was : (x : Pair) → InForce now x → InForce calls x × ¬ Any (λ q. q ≡ x) gone
    pub still : (x : Pair) → InForce calls x → ¬ Any (λ q. q ≡ x) gone → InForce now x

  -- what is told of the outcomes behind one
  abbrev Later : Members → List Outcome → Type 0
  Later after os = (gone : List Pair) → Holds after gone → AreTold calls gone os (told_and_parted after os).told

  module _ (now : Members) (gone : List Pair) (holds : Holds now gone) (os : List Outcome) where
    -- an outcome that parts no pair
    passes : (o : Outcome) (after : Members) → Does now o (record { calls = after; parted = None }) → ((p : Pair) → InForce now p → IsEndOf p o → ⊥) → Later after os
        → AreTold calls gone (o ∷ os) (tells.Table o ∷ (told_and_parted after os).told)
    passes o after does none later = (
      (told_and_parted after os).told,
      inl (
        refl,
        λ p parts. none p (holds.still p (in_force calls p parts.in_force) parts.not_yet) (to_end p o parts.ends),
        later gone (record {
          was = λ x on. holds.was x (does.new x.first.slot x.first.id x on.0, does.new x.second.slot x.second.id x on.1);
          still = λ x on not. elim (does.kept x (holds.still x on not)) [ inl kept ↦ kept | inr end ↦ absurd (none_some _ end.0) ];
        }),
      ),
    )

    -- a call ends
    module _ (id : CallId) (slot media : ℕ) (why : Why) (mates : AreMates now) (named : AreNamed now) (fits : IsOfId now slot id) where
      nobody : joined_pair (member_at now slot) ≡ None → (p : Pair) → InForce now p → IsPartyOf p id slot → ⊥
      nobody none p on (inl is) = none_joined (member_at now slot) none p.first.id p (ap (tie now) is.1 ∙ on.0)
      nobody none p on (inr is) = none_joined (member_at now slot) none p.second.id p (ap (tie now) is.1 ∙ on.1)

      together : (p : Pair) → joined_pair (member_at now slot) ≡ Some p → NoneNew now (set (parted p now) slot None) → Later (set (parted p now) slot None) os
          → AreTold calls gone (Ended id slot media why ∷ os) (tells.Table (Ended id slot media why) ∷ tells.Parted p.first.id p.second.id ∷ (told_and_parted (set (parted p now) slot None) os).told)
      together p is new later =
          let ends = ends_pair now id slot media why mates named fits p is in
          let before = holds.was p ends.on in (
            (told_and_parted (set (parted p now) slot None) os).told,
            inr (
              p,
              refl,
              record { in_force = is_in_force calls p before.0; not_yet = before.1; ends = (id, slot, media, why, refl, ends.party) },
              later (p ∷ gone) (record {
                was = λ x on.
                    let first = holds.was x (new x.first.slot x.first.id x on.0, new x.second.slot x.second.id x on.1) in (
                      first.0,
                      λ a. elim (any_cases (λ q. q ≡ x) p gone a) [
                        | inl same ↦ ends.off (subst (λ (q : Pair). InForce (set (parted p now) slot None) q) (sym same) on)
                        | inr old ↦ first.1 old
                      ],
                    );
                still = λ x on not. elim (ends.others x (holds.still x on (λ a. not (any_there (λ q. q ≡ x) p gone a)))) [
                  | inl kept ↦ kept
                  | inr one ↦ absurd (not (any_here (λ q. q ≡ x) p gone (sym one)))
                ];
              }),
            ),
          )

      by_pair : (j : Option Pair) → joined_pair (member_at now slot) ≡ j → Does now (Ended id slot media why) (vacated slot now j) → Later (vacated slot now j).calls os
          → AreTold calls gone (Ended id slot media why ∷ os) (behind (Ended id slot media why) (vacated slot now j).parted (told_and_parted (vacated slot now j).calls os)).told
      by_pair None is does later = passes (Ended id slot media why) (set now slot None) does (nobody is) later
      by_pair (Some p) is does later = together p is does.new later

    told_behind : (o : Outcome) → AreMates now → AreNamed now → FitsOne now o → Does now o (after_outcome now o) → Later (after_outcome now o).calls os → AreTold calls gone (o ∷ os) (told_and_parted now (o ∷ os)).told
    told_behind (Ended id slot media why) mates named fits does later = by_pair id slot media why mates named fits (joined_pair (member_at now slot)) refl does later
    told_behind (Made id slot media) mates named fits does later = passes (Made id slot media) (after_outcome now (Made id slot media)).calls does (λ p on end. end) later
    told_behind (Live id) mates named fits does later = passes (Live id) (after_outcome now (Live id)).calls does (λ p on end. end) later
    told_behind other mates named fits does later = passes other now does (λ p on end. end) later

  all_told : (now : Members) (gone : List Pair) (os : List Outcome) → AreMates now → AreNamed now → Fits now os → Holds now gone → AreTold calls gone os (told_and_parted now os).told
  all_told now gone [] mates named fits holds = refl
  all_told now gone (o ∷ os) mates named fits holds =
      let does = outcome_does now o mates named fits.0 in
      told_behind now gone holds os o mates named fits.0 does
      (λ others at. all_told (after_outcome now o).calls others os (outcome_mates now o mates) (named_on now (after_outcome now o).calls does.new named) fits.1 at)

-- ---- a line, and a run

said_told : HasCount → (w : World) (calls : Members) (s : Said) → Standing w calls → TellsSignal s (bridging w calls s)
said_told count w calls (Happens (Signalled signal)) is =
    let fits = signal_holds count w calls (is.stays []) is.mates is.knows.known is.knows.begun signal (is.stays (Signalled signal ∷ [])) in
    all_told calls calls [] (step w (Signalled signal)).outcomes is.mates is.named fits.2 (record { was = λ x on. (on, λ a. any_none (λ q. q ≡ x) a); still = λ x on not. on })
said_told count w calls (Happens (Datagram port from d)) is = tt
said_told count w calls other is = tt

pub all_signals : HasCount → ((es : List Event) → IsOrderly (world_after empty es)) → (said : List Said) → AllLines TellsSignal said (bridgings_from empty no_members said)
all_signals count orderly = all_standing count orderly TellsSignal (said_told count)
