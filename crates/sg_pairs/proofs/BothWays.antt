-- In a run each port that goes on comes back, each line makes happen what it says, and without joins all is as in a gateway.
use Rattle.std.proofs.Common.{◌≡◌, ℕ, List, [], ◌∷◌, Some, refl, sym, subst, inl, inr, map, None, ap, ◌∙◌, ◌⊎◌, ◌<◌, ◌≤◌, Bool, true, false, cond, ◌++◌, length, Option, arith, ltb}
use Rattle.std.proofs.lemmas.Bool.{cases_eq, cases_lt}
use Rattle.std.proofs.lemmas.List.{get_or-set_other, get_or-set_same, get_or_past, length-set, map-append}
use Rattle.std.specs.List.{All, flat_map}
use Rattle.std.specs.Prelude.{option_map, option_to_list, set}
use Rattle.sg_base.proofs.Cases.{none_some}
use Rattle.sg_gateway.specs.Runs.{world_after, turns_from}
use Rattle.sg_gateway.specs.Step.{Signalled, step, Datagram, Event}
use Rattle.sg_gateway.specs.World.{World, empty}
use Rattle.sg_outcome.specs.declared.outcomes.Outcome.{Outcome}
use Rattle.sg_outcome.specs.declared.outcomes.Outcome.TheVariants.{Made, Live, Ended}
use Rattle.sg_pairs.proofs.Cases.{all_bridgings, all_lines, each_line, in_each_case, each_case}
use Rattle.sg_pairs.proofs.Found.{at_set, live_keeps, no_member, set_other}
use Rattle.sg_pairs.proofs.Joined.{comes_back, goes_on_joined, joined_goes_on}
use Rattle.sg_pairs.proofs.Mates.{AreMates, joining_mates, no_members_mates, outcome_mates, parting_mates}
use Rattle.sg_pairs.specs.Bridged.{Bridging, GoesBothWays, Said, bridging, bridgings_from, told_and_parted, Happens}
use Rattle.sg_pairs.specs.Calls.{AllLines}
use Rattle.sg_pairs.specs.Happening.{ComesBehind, DatagramHappens, IsJoinedPort, LineHappens}
use Rattle.sg_pairs.specs.Joined.{port_of_leg}
use Rattle.sg_pairs.specs.Onward.{onward, is_plain_port, medium_by_port, onward_in, port_like, slot_by_port}
use Rattle.sg_pairs.specs.Pairs.{Members, after_outcome, no_members, emptied, joined_pair, member_at, new_member, other_slot, vacated}
use Rattle.sg_pairs.specs.Unjoined.{IsToldAsItIs}
use Rattle.sg_pairs.specs.declared.members.Member.{Member}
use Rattle.sg_pairs.specs.declared.members.Pair.{Pair}
use Rattle.sg_pairs.specs.declared.outcomes.BridgeOutcome.TheVariants as tells

told_mates : (calls : Members) (os : List Outcome) → AreMates calls → AreMates (told_and_parted calls os).calls
told_mates calls [] mates = mates
told_mates calls (o ∷ os) mates = told_mates (after_outcome calls o).calls os (outcome_mates calls o mates)

-- What is said leaves mates where they are mates.
pub said_mates : (w : World) (calls : Members) (s : Said) → AreMates calls → AreMates (bridging w calls s).calls
said_mates w calls s mates = each_line w calls (λ s b. AreMates b.calls) (record {
  signal = λ s. told_mates calls (step w (Signalled s)).outcomes mates;
  datagram = λ port from d. in_each_case w calls port from d (λ b. AreMates b.calls) (λ events o of. mates);
  joins = λ first second a b can. joining_mates calls first second a b can mates;
  unjoined = λ first second call cause. mates;
  parts = λ id f x can. parting_mates calls id f x can mates;
  unparted = λ id cause. mates;
}) s

-- It comes to this world and these calls, and its events make the world that it leaves.
pub record Begins (w : World) (calls : Members) (b : Bridging) : Type 0 where
  pub before : b.before ≡ w
  pub pairs : b.pairs ≡ calls
  pub world : b.world ≡ world_after w b.events

pub said_begins : (w : World) (calls : Members) (s : Said) → Begins w calls (bridging w calls s)
said_begins w calls s = each_line w calls (λ s b. Begins w calls b) (record {
  signal = λ s. record { before = refl; pairs = refl; world = refl };
  datagram = λ port from d. in_each_case w calls port from d (Begins w calls) (λ events o of. record { before = refl; pairs = refl; world = refl });
  joins = λ first second a b can. record { before = refl; pairs = refl; world = refl };
  unjoined = λ first second call cause. record { before = refl; pairs = refl; world = refl };
  parts = λ id f x can. record { before = refl; pairs = refl; world = refl };
  unparted = λ id cause. record { before = refl; pairs = refl; world = refl };
}) s

-- ---- a run

-- what holds of each line among mates
pub all_among_mates : (P : Bridging → Type 0) → ((w : World) (calls : Members) (s : Said) → AreMates calls → P (bridging w calls s)) → (said : List Said) → All P (bridgings_from empty no_members said)
all_among_mates = all_bridgings (λ w calls. AreMates calls) no_members_mates said_mates

pub lines_among_mates : (P : Said → Bridging → Type 0) → ((w : World) (calls : Members) (s : Said) → AreMates calls → P s (bridging w calls s)) → (said : List Said) → AllLines P said (bridgings_from empty no_members said)
lines_among_mates = all_lines (λ w calls. AreMates calls) no_members_mates said_mates

pub both_ways : (w : World) (calls : Members) (s : Said) → AreMates calls → GoesBothWays (bridging w calls s)
both_ways w calls s mates = subst (λ (m : Members). (p q : ℕ) → onward m p ≡ Some q → onward m q ≡ Some p) (sym (said_begins w calls s).pairs) (comes_back calls mates)

pub all_both_ways : (said : List Said) → All GoesBothWays (bridgings_from empty no_members said)
all_both_ways = all_among_mates GoesBothWays both_ways

-- ---- each line makes happen what it says, in the world that the lines before it have made

not_joined : (calls : Members) (p : ℕ) → onward calls p ≡ None → ¬ IsJoinedPort calls p
not_joined calls p none j = none_some (port_of_leg j.other j.medium j.leg) (sym none ∙ ap (onward calls) j.is ∙ joined_goes_on calls j.slot j.other j.medium j.leg j.joined j.plain.0 j.plain.1)

is_joined : (calls : Members) → AreMates calls → (p q : ℕ) → onward calls p ≡ Some q → IsJoinedPort calls p
is_joined calls mates p q on = let j = goes_on_joined calls mates p q on in record { slot = j.slot; other = j.other; medium = j.medium; leg = j.leg; plain = j.plain; joined = j.joined; is = j.p_is }

said_happens : (w : World) (calls : Members) (s : Said) → AreMates calls → LineHappens s (bridging w calls s)
said_happens w calls s mates = each_line w calls LineHappens (record {
  signal = λ s. refl;
  datagram = λ port from d. each_case w calls port from d (DatagramHappens (Datagram port from d) port) (record {
    unused = λ q on. inl (is_joined calls mates port q on, refl, refl);
    dropped = λ through cause is. inr (not_joined calls port through, ([], refl, inr (refl, sym (ap (map tells.Table) is))));
    put_out = λ o puts. inr (not_joined calls port puts.through, ([], refl, inr (refl, sym (ap (map tells.Table) puts.was))));
    nowhere = λ p q to x opens at. inr (not_joined calls port opens.through, ([], refl, inl (p, to, x, opens.was, is_joined calls mates p q opens.on)));
    refused = λ p q to x opens a at cause is. inr (not_joined calls port opens.through, (_, refl, inl (p, to, x, opens.was, is_joined calls mates p q opens.on)));
    sealed = λ p q to x opens a at c o by is es. inr (not_joined calls port opens.through, (_, refl, inl (p, to, x, opens.was, is_joined calls mates p q opens.on)));
  });
  joins = λ first second a b can. refl;
  unjoined = λ first second call cause. refl;
  parts = λ id f x can. refl;
  unparted = λ id cause. refl;
}) s

pub all_happen : (said : List Said) → AllLines LineHappens said (bridgings_from empty no_members said)
all_happen = lines_among_mates LineHappens said_happens

each_behind : (w : World) (calls : Members) (said : List Said) → ComesBehind w calls (bridgings_from w calls said)
each_behind w calls [] = tt
each_behind w calls (s ∷ ss) = (
  (said_begins w calls s).before,
  (said_begins w calls s).pairs,
  subst (λ (v : World). ComesBehind v (bridging w calls s).calls (bridgings_from (bridging w calls s).world (bridging w calls s).calls ss)) (said_begins w calls s).world
      (each_behind (bridging w calls s).world (bridging w calls s).calls ss),
)

pub all_behind : (said : List Said) → ComesBehind empty no_members (bridgings_from empty no_members said)
all_behind = each_behind empty no_members

-- ---- where no line joins or parts, no call is ever in a pair, and all is told as it is

-- no call is in a pair
abbrev AreUnjoined : Members → Type 0
AreUnjoined calls = (s : ℕ) → joined_pair (member_at calls s) ≡ None

set_unjoined : (calls : Members) (slot : ℕ) (v : Option Member) → AreUnjoined calls → joined_pair v ≡ None → AreUnjoined (set calls slot v)
set_unjoined calls slot v none is s = elim (cases_eq s slot) [
  | inl same ↦ ap (λ n. joined_pair (member_at (set calls slot v) n)) same ∙ at_set calls slot v (λ o. joined_pair o ≡ None) is refl
  | inr other ↦ set_other calls slot v joined_pair s other ∙ none s
]

emptied_unjoined : (slot : ℕ) (calls : Members) → AreUnjoined calls → AreUnjoined (emptied slot calls).calls × ((emptied slot calls).parted ≡ None)
emptied_unjoined slot calls none =
    subst (λ (o : Option Pair). AreUnjoined (vacated slot calls o).calls × ((vacated slot calls o).parted ≡ None)) (sym (none slot)) (set_unjoined calls slot None none refl, refl)

outcome_unjoined : (calls : Members) (o : Outcome) → AreUnjoined calls → AreUnjoined (after_outcome calls o).calls × ((after_outcome calls o).parted ≡ None)
outcome_unjoined calls (Made id slot media) none = (set_unjoined (emptied slot calls).calls slot (Some (new_member id media)) (emptied_unjoined slot calls none).0 refl, refl)
outcome_unjoined calls (Live id) none = ((λ s. live_keeps joined_pair (λ m. refl) id calls s ∙ none s), refl)
outcome_unjoined calls (Ended id slot media why) none = emptied_unjoined slot calls none
outcome_unjoined calls other none = (none, refl)

told_unjoined : (calls : Members) (os : List Outcome) → AreUnjoined calls → AreUnjoined (told_and_parted calls os).calls × ((told_and_parted calls os).told ≡ map tells.Table os)
told_unjoined calls [] none = (none, refl)
told_unjoined calls (o ∷ os) none =
    let one = outcome_unjoined calls o none in
    let more = told_unjoined (after_outcome calls o).calls os one.0 in
    (more.0, (λ i. tells.Table o ∷ option_to_list (one.1 i) ++ more.1 i))

nowhere : (calls : Members) (p : ℕ) → AreUnjoined calls → onward calls p ≡ None
nowhere calls p none = by (is_plain_port p)
  where
    at : (o : Option Member) → joined_pair o ≡ None → onward_in p o ≡ None
    at None is = refl
    at (Some m) is = go (ltb (medium_by_port p) m.media)
      where
        go : (b : Bool) → cond b (option_map (λ (x : Pair). port_like p (other_slot x (slot_by_port p))) m.pair) None ≡ None
        go true = ap (option_map (λ (x : Pair). port_like p (other_slot x (slot_by_port p)))) is
        go false = refl

    by : (b : Bool) → cond b (onward_in p (member_at calls (slot_by_port p))) None ≡ None
    by true = at (member_at calls (slot_by_port p)) (none (slot_by_port p))
    by false = refl

-- an event as it is told by itself
pub record IsPlain (w : World) (e : Event) (b : Bridging) : Type 0 where
  pub events : b.events ≡ e ∷ []
  pub told : b.told ≡ map tells.Table (step w e).outcomes
  pub world : b.world ≡ (step w e).world
  pub calls : AreUnjoined b.calls

module _ (w : World) (calls : Members) (none : AreUnjoined calls) where
  goes_nowhere : (p q : ℕ) → onward calls p ≡ Some q → ⊥
  goes_nowhere p q on = none_some q (sym (nowhere calls p none) ∙ on)

  event_plain : (e : Event) → IsPlain w e (bridging w calls (Happens e))
  event_plain (Signalled signal) =
      let all = told_unjoined calls (step w (Signalled signal)).outcomes none in
      record { events = refl; told = all.1; world = refl; calls = all.0 }
  event_plain (Datagram port from d) = each_case w calls port from d (IsPlain w (Datagram port from d)) (record {
    unused = λ q on. absurd (goes_nowhere port q on);
    dropped = λ through cause is. record { events = refl; told = sym (ap (map tells.Table) is); world = refl; calls = none };
    put_out = λ o puts. record { events = refl; told = sym (ap (map tells.Table) puts.was); world = refl; calls = none };
    nowhere = λ p q to x opens at. absurd (goes_nowhere p q opens.on);
    refused = λ p q to x opens a at cause is. absurd (goes_nowhere p q opens.on);
    sealed = λ p q to x opens a at c o by is es. absurd (goes_nowhere p q opens.on);
  })

all_plain : (w : World) (calls : Members) (es : List Event) → AreUnjoined calls
    → (flat_map (λ b. b.events) (bridgings_from w calls (map Happens es)) ≡ es)
    × (flat_map (λ b. b.told) (bridgings_from w calls (map Happens es)) ≡ map tells.Table (flat_map (λ t. t.outcomes) (turns_from w es)))
all_plain w calls [] none = (refl, refl)
all_plain w calls (e ∷ es) none =
    let b = bridging w calls (Happens e) in
    let one = event_plain w calls none e in
    let more = all_plain b.world b.calls es one.calls in (
      (λ i. one.events i ++ more.0 i),
      (λ i. one.told i ++ more.1 i)
          ∙ ap (λ (v : World). map tells.Table (step w e).outcomes ++ map tells.Table (flat_map (λ t. t.outcomes) (turns_from v es))) one.world
          ∙ sym (map-append tells.Table (step w e).outcomes (flat_map (λ t. t.outcomes) (turns_from (step w e).world es))),
    )

pub told_as_it_is : (events : List Event) → IsToldAsItIs events
told_as_it_is events =
    let all = all_plain empty no_members events (λ s. ap joined_pair (no_member s)) in
    record { happen = all.0; told = all.1 }
