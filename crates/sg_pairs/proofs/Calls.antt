-- Before and after each line a bridge knows of its calls what they are, and joins and parts them by that.
use Rattle.std.proofs.Common.{◌≡◌, inl, inr, ℕ, Bool, true, false, cond, List, [], ◌∷◌, Option, Some, None, refl, sym, ap, ◌∙◌, subst, eqb, not, Result, Ok, Err}
use Rattle.std.proofs.lemmas.Bool.{not-false, eqb-true, eq-eqb, eqb-false}
use Rattle.std.proofs.lemmas.List.Elements.{All-from_recursion, recursion_from_All}
use Rattle.std.specs.List.{AllByRecursion, Any}
use Rattle.std.specs.Prelude.{option_map}
use Rattle.sg_base.specs.declared.addresses.Address.{Address}
use Rattle.sg_base.specs.declared.addresses.CallId.{CallId}
use Rattle.sg_base.proofs.Cases.{map_some}
use Rattle.sg_gateway.proofs.Pairs.{pairs_from}
use Rattle.sg_gateway.specs.Octets.{Octets, as_octets}
use Rattle.sg_gateway.specs.Order.{IsBefore, IsOrderly}
use Rattle.sg_gateway.specs.Runs.{world_after}
use Rattle.sg_gateway.specs.Step.{Event, Signalled, Datagram, step}
use Rattle.sg_gateway.specs.World.{Call, World, empty, same_id}
use Rattle.sg_session.proofs.Lists.{any_here, any_there, both, each_weaker, any_weaker, each_at}
use Rattle.sg_pairs.proofs.BothWays.{said_begins}
use Rattle.sg_pairs.proofs.Cases.{each_case, each_line}
use Rattle.sg_pairs.proofs.Found.{no_member, CanJoin, CanPart, IsThere, first_in, found_none, is_number, is_there, number_is, second_in, true_false}
use Rattle.sg_pairs.proofs.Known.{each_at_slot, Seen, at_slot, both_look, seen_at, seen_in, seen_of, one_id}
use Rattle.sg_pairs.proofs.Mates.{AreMates, IsFree, Look, free_of, look, look_of}
use Rattle.sg_pairs.proofs.Stepped.{Begun, HasCount, Same, datagram_same, signal_holds}
use Rattle.sg_pairs.specs.Bridged.{Bridging, Said, bridging, happened, inner, Happens, Joins, Parts, joining, parting}
use Rattle.sg_pairs.specs.Calls.{AreTheCalls, IsKnownAs, KnowsItsCalls, AreFree, AreReady, AreThere, AreTwo, HasCall, IsAsTold, IsIn, IsOtherOf, IsPaired, IsReady, IsUnjoined, IsUnparted, JoinsAndPartsSo, JoinTells, PartTells}
use Rattle.sg_pairs.specs.Pairs.{Members, member_at, no_members, pair, Joining, Parting, found, joined, joined_by, joined_free, other_id, paired, parted, parted_found, parted_from, parted_pair}
use Rattle.sg_pairs.specs.declared.faults.JoinFault.{JoinFault}
use Rattle.sg_pairs.specs.declared.faults.JoinFault.TheVariants as faults
use Rattle.sg_pairs.specs.declared.members.Found.{Found}
use Rattle.sg_pairs.specs.declared.members.Member.{Member}
use Rattle.sg_pairs.specs.declared.members.Pair.{Pair}
use Rattle.sg_pairs.specs.declared.outcomes.BridgeOutcome.TheVariants as tells

-- what is known of each slot is what is there, and each call has begun
pub record Knows (w : World) (calls : Members) : Type 0 where
  pub known : (s : ℕ) → seen_at calls s ≡ at_slot w.calls s
  pub begun : AllByRecursion Begun w.calls

-- after any events the calls are in order
abbrev pub StaysOrderly : World → Type 0
StaysOrderly w = (es : List Event) → IsOrderly (world_after w es)

-- ---- one line

abbrev pub Goes : Bridging → Type 0
Goes b = Knows b.world b.calls × StaysOrderly b.world

still : (w v : World) (calls : Members) → Knows w calls → Same w v → Knows v calls
still w v calls knows same = record { known = λ s. knows.known s ∙ sym (same.0 s); begun = same.1 }

module _ (w : World) (calls : Members) (stays : StaysOrderly w) (knows : Knows w calls) (port : ℕ) (from : Address) (d : Octets) where
  abbrev e : Event
  e = Datagram port from d

  abbrev after : World
  after = (step w e).world

  goes_after : Knows after calls × StaysOrderly after
  goes_after = (still w after calls knows (datagram_same w (stays []) knows.begun port from d), (λ es. stays (e ∷ es)))

  -- an inner datagram
  goes_inner : (q : ℕ) (a : Address) (x : List ℕ) → Knows (step after (inner q a x)).world calls × StaysOrderly (step after (inner q a x)).world
  goes_inner q a x = (
    still after (step after (inner q a x)).world calls goes_after.0 (datagram_same after (goes_after.1 []) goes_after.0.begun q a (as_octets x)),
    (λ es. goes_after.1 (inner q a x ∷ es)),
  )

  datagram_goes : Goes (happened w calls (Datagram port from d))
  datagram_goes = each_case w calls port from d Goes (record {
    unused = λ q on. (knows, stays);
    dropped = λ through cause is. goes_after;
    put_out = λ o puts. goes_after;
    nowhere = λ p q to x opens at. goes_after;
    refused = λ p q to x opens a at cause is. goes_inner q a x;
    sealed = λ p q to x opens a at c o by is es. goes_inner q a x;
  })

pub said_goes : HasCount → (w : World) (calls : Members) → StaysOrderly w → AreMates calls → Knows w calls → (s : Said) → Goes (bridging w calls s)
said_goes count w calls stays mates knows s = each_line w calls (λ s b. Goes b) (record {
  signal = λ s.
      let holds = signal_holds count w calls (stays []) mates knows.known knows.begun s (stays (Signalled s ∷ [])) in
      (record { known = holds.0; begun = holds.1 }, (λ es. stays (Signalled s ∷ es)));
  datagram = λ port from d. datagram_goes w calls stays knows port from d;
  joins = λ first second a b can. (record { known = λ s. both_look (Some (pair a b)) a.slot b.slot calls s ∙ knows.known s; begun = knows.begun }, stays);
  unjoined = λ first second call cause. (knows, stays);
  parts = λ id f x can. (record { known = λ s. both_look None x.first.slot x.second.slot calls s ∙ knows.known s; begun = knows.begun }, stays);
  unparted = λ id cause. (knows, stays);
}) s

-- ---- in the law's words

known_as : (m : Member) (c : Call) → seen_in m ≡ seen_of c → IsKnownAs m c
known_as m c is = record { id = ap (λ (x : Seen). x.id) is; media = ap (λ (x : Seen). x.media) is; live = ap (λ (x : Seen). x.live) is }

-- what is at a slot is a call
call_at_slot : (cs : List Call) (s : ℕ) (x : Seen) → at_slot cs s ≡ Some x → Any (λ c. (c.slot ≡ s) × (x ≡ seen_of c)) cs
call_at_slot [] s x is = absurd cc
call_at_slot (c ∷ cs) s x is = go (call_at_slot cs s x) (eqb c.slot s) refl is
  where
    go : (at_slot cs s ≡ Some x → Any (λ c. (c.slot ≡ s) × (x ≡ seen_of c)) cs) → (b : Bool) → eqb c.slot s ≡ b → cond b (Some (seen_of c)) (at_slot cs s) ≡ Some x → Any (λ c. (c.slot ≡ s) × (x ≡ seen_of c)) (c ∷ cs)
    go rest true at e = any_here (λ c. (c.slot ≡ s) × (x ≡ seen_of c)) c cs (eqb-true c.slot s at, (let same : x ≡ seen_of c = cc in same))
    go rest false at e = any_there (λ c. (c.slot ≡ s) × (x ≡ seen_of c)) c cs (rest e)

pub are_the_calls : (w : World) (calls : Members) → IsOrderly w → Knows w calls → AreTheCalls w calls
are_the_calls w calls orderly knows = record {
  known = All-from_recursion (λ c. (m : Member) × (member_at calls c.slot ≡ Some m) × IsKnownAs m c) w.calls
      (each_weaker (λ c. at_slot w.calls c.slot ≡ Some (seen_of c)) (λ c. (m : Member) × (member_at calls c.slot ≡ Some m) × IsKnownAs m c)
      (λ c at. let m = map_some (member_at calls c.slot) seen_in (seen_of c) (knows.known c.slot ∙ at) in (m.0, m.1, known_as m.0 c m.2))
      w.calls (each_at_slot w.calls (pairs_from IsBefore w.calls orderly.rising)));
  only = λ slot m at. Rattle.sg_session.proofs.Lists.any_weaker (λ c. (c.slot ≡ slot) × (seen_in m ≡ seen_of c)) (λ c. (c.slot ≡ slot) × IsKnownAs m c) (λ c is. (is.0, known_as m c is.1)) w.calls
      (call_at_slot w.calls slot (seen_in m) (sym (knows.known slot) ∙ ap (option_map seen_in) at));
}

-- ---- a run

pub knows_its_calls : HasCount → (w : World) (calls : Members) (s : Said) → StaysOrderly w → AreMates calls → Knows w calls → KnowsItsCalls (bridging w calls s)
knows_its_calls count w calls s stays mates knows =
    let goes = said_goes count w calls stays mates knows s in
    let begins = said_begins w calls s in (
      subst (λ (v : World). AreTheCalls v (bridging w calls s).pairs) (sym begins.before) (subst (AreTheCalls w) (sym begins.pairs) (are_the_calls w calls (stays []) knows)),
      are_the_calls (bridging w calls s).world (bridging w calls s).calls (goes.1 []) goes.0,
    )

pub nobody_known : Knows empty no_members
nobody_known = record { known = λ s. ap (option_map seen_in) (no_member s); begun = tt }

-- ---- calls are joined and parted, or aren't for the first cause that holds, by the calls and pairs that are there

module _ (w : World) (calls : Members) (orderly : IsOrderly w) (are : AreTheCalls w calls) where
  -- ---- the call of a number

  pub record IsCallOf (id : CallId) (f : Found) : Type 0 where
    pub call : Call
    pub here : Any (λ x. x ≡ call) w.calls
    pub slot : call.slot ≡ f.slot
    pub named : call.id ≡ id
    pub known : IsKnownAs f.member call
    pub at : member_at calls f.slot ≡ Some f.member

  call_of : (id : CallId) (f : Found) → IsThere calls id f → IsCallOf id f
  call_of id f is =
      let a = are.only f.slot f.member is.at in
      record { call = a.1; here = (a.0, a.1, a.2, a.3, refl); slot = a.4.0; named = sym a.4.1.id ∙ is.named; known = a.4.1; at = is.at }

  call_found : (id : CallId) (f : Found) → found id calls ≡ Some f → IsCallOf id f
  call_found id f is = call_of id f (is_there id calls f is)

  none_there : (id : CallId) → found id calls ≡ None → ¬ HasCall w id
  none_there id none a =
      let known = each_at (λ c. (m : Member) × (member_at calls c.slot ≡ Some m) × IsKnownAs m c) (λ c. c.id ≡ id) w.calls (recursion_from_All (λ c. (m : Member) × (member_at calls c.slot ≡ Some m) × IsKnownAs m c) w.calls are.known) a in
      let m = known.1 in
      true_false (sym (is_number m.0.id id (m.2.id ∙ known.2)) ∙ found_none id calls 0 known.0.slot m.0 none m.1)

  module _ (id : CallId) (f : Found) (k : IsCallOf id f) where
    has : HasCall w id
    has = any_weaker (λ x. x ≡ k.call) (λ c. c.id ≡ id) (λ c is. ap (λ (c : Call). c.id) is ∙ k.named) w.calls k.here

    -- what holds of a call of this number holds of this one
    of_one : (P : Call → Type 0) → Any (λ c. (c.id ≡ id) × P c) w.calls → P k.call
    of_one P a =
        let at = each_at (λ x. x.id ≡ k.call.id → x ≡ k.call) (λ c. (c.id ≡ id) × P c) w.calls (one_id k.call w.calls (pairs_from IsBefore w.calls orderly.rising) k.here) a in
        subst P (at.1 (at.2.0 ∙ sym k.named)) at.2.1

    any_this : (P : Call → Type 0) → P k.call → Any (λ c. (c.id ≡ id) × P c) w.calls
    any_this P p = any_weaker (λ x. x ≡ k.call) (λ c. (c.id ≡ id) × P c) (λ c is. (ap (λ (c : Call). c.id) is ∙ k.named, subst P (sym is) p)) w.calls k.here

    ready : f.member.is_live ≡ true → IsReady w id
    ready live = any_this (λ c. c.generations ≡ 0 → ⊥) (λ none. true_false (sym live ∙ k.known.live ∙ ap not (eq-eqb k.call.generations 0 none)))

    unready : f.member.is_live ≡ false → ¬ IsReady w id
    unready live a = of_one (λ c. c.generations ≡ 0 → ⊥) a (eqb-true k.call.generations 0 (not-false (eqb k.call.generations 0) (sym k.known.live ∙ live)))

    is_in : (p : Option Pair) → f.member.pair ≡ p → IsIn w calls id p
    is_in p is = any_this (λ c. (m : Member) × (member_at calls c.slot ≡ Some m) × (m.pair ≡ p)) (f.member, ap (member_at calls) k.slot ∙ k.at, is)

    id_is : f.member.id ≡ id
    id_is = k.known.id ∙ k.named

  -- ---- joining

  module _ (first second : CallId) where
    abbrev JoinIs : Joining → Type 0
    JoinIs (Ok after) = JoinTells w calls first second (tells.Joined first second)
    JoinIs (Err e) = IsUnjoined w calls first second e.0 e.1

    other_is : (p : Pair) (id named : CallId) → id ≡ named → IsOtherOf p named (other_id p id)
    other_is p id named is = go (same_id p.first.id id) refl
      where
        go : (b : Bool) → same_id p.first.id id ≡ b → IsOtherOf p named (cond b p.second.id p.first.id)
        go true same = inl (number_is p.first.id id same ∙ is, refl)
        go false same = inr ((λ e. true_false (sym (is_number p.first.id id (e ∙ sym is)) ∙ same)), refl)

    module _ (a b : Found) (ka : IsCallOf first a) (kb : IsCallOf second b) where
      there : AreThere w first second
      there = (has first a ka, has second b kb)

      free : AreReady w first second → (p q : Option Pair) → a.member.pair ≡ p → b.member.pair ≡ q → JoinIs (joined_free a b calls p q)
      free both (Some p) q is_p is_q = (both, inl (id_is first a ka, (p, is_in first a ka (Some p) is_p, other_is p a.member.id first (id_is first a ka))))
      free both None (Some q) is_p is_q = (both, inr (id_is second b kb, is_in first a ka None is_p, (q, is_in second b kb (Some q) is_q, other_is q b.member.id second (id_is second b kb))))
      free both None None is_p is_q = go (eqb a.member.media b.member.media) refl
        where
          both_free : AreFree w calls first second
          both_free = (both, is_in first a ka None is_p, is_in second b kb None is_q)

          go : (t : Bool) → eqb a.member.media b.member.media ≡ t → JoinIs (cond t (Ok (paired (pair a b) calls)) (let r : Joining = Err (a.member.id, faults.MediaCount) in r))
          go true same = (
            refl,
            refl,
            both_free,
            any_this first a ka (λ c. Any (λ d. (d.id ≡ second) × (c.media ≡ d.media)) w.calls)
                (any_this second b kb (λ d. ka.call.media ≡ d.media) (sym ka.known.media ∙ eqb-true _ _ same ∙ kb.known.media)),
          )
          go false differ = (
            id_is first a ka,
            both_free,
            λ any.
                let with = of_one first a ka (λ c. Any (λ d. (d.id ≡ second) × (c.media ≡ d.media)) w.calls) any in
                eqb-false _ _ differ (ka.known.media ∙ of_one second b kb (λ d. ka.call.media ≡ d.media) with ∙ sym kb.known.media),
          )

      by_live : AreTwo w first second → (s t : Bool) → a.member.is_live ≡ s → b.member.is_live ≡ t
          → JoinIs (cond (not s) (Err (a.member.id, faults.Unready)) (cond (not t) (Err (b.member.id, faults.Unready)) (joined_free a b calls a.member.pair b.member.pair)))
      by_live two false t is_s is_t = (two, inl (id_is first a ka, unready first a ka is_s))
      by_live two true false is_s is_t = (two, inr (id_is second b kb, ready first a ka is_s, unready second b kb is_t))
      by_live two true true is_s is_t = free (two, ready first a ka is_s, ready second b kb is_t) a.member.pair b.member.pair refl refl

      by_same : (t : Bool) → same_id a.member.id b.member.id ≡ t
          → JoinIs (cond t (Err (a.member.id, faults.Same)) (cond (not a.member.is_live) (Err (a.member.id, faults.Unready)) (cond (not b.member.is_live) (Err (b.member.id, faults.Unready)) (joined_free a b calls a.member.pair b.member.pair))))
      by_same true same = (id_is first a ka, there, sym (id_is first a ka) ∙ number_is a.member.id b.member.id same ∙ id_is second b kb)
      by_same false differ = by_live (there, λ one. true_false (sym (is_number a.member.id b.member.id (id_is first a ka ∙ one ∙ sym (id_is second b kb))) ∙ differ)) a.member.is_live b.member.is_live refl refl

    by_found : (a b : Option Found) → found first calls ≡ a → found second calls ≡ b → JoinIs (joined_by first second calls a b)
    by_found None b is_a is_b = inl (refl, none_there first is_a)
    by_found (Some a) None is_a is_b = inr (refl, has first a (call_found first a is_a), none_there second is_b)
    by_found (Some a) (Some b) is_a is_b = by_same a b (call_found first a is_a) (call_found second b is_b) (same_id a.member.id b.member.id) refl

    joins : (j : Joining) → JoinIs j → JoinsAndPartsSo (Joins first second) (joining w calls first second j)
    joins (Ok others) is = (tells.Joined first second, refl, is)
    joins (Err (call, cause)) is = (tells.Unjoined call cause, refl, is)

    pub joins_so : JoinsAndPartsSo (Joins first second) (bridging w calls (Joins first second))
    joins_so = joins (joined first second calls) (by_found (found first calls) (found second calls) refl refl)

  -- ---- parting

  module _ (id : CallId) where
    abbrev PartIs : Result Parting JoinFault → Type 0
    PartIs (Ok p) = PartTells w calls id (tells.Parted p.pair.first.id p.pair.second.id)
    PartIs (Err cause) = IsUnparted w calls id cause

    by_call : (o : Option Found) → found id calls ≡ o → PartIs (parted_found calls o)
    by_call None is = none_there id is
    by_call (Some f) is = go f.member.pair refl
      where
        go : (p : Option Pair) → f.member.pair ≡ p → PartIs (parted_pair calls p)
        go None at = is_in id f (call_found id f is) None at
        go (Some p) at = (p, is_in id f (call_found id f is) (Some p) at, refl, refl)

    parts : (r : Result Parting JoinFault) → PartIs r → JoinsAndPartsSo (Parts id) (parting w calls id r)
    parts (Ok p) is = (tells.Parted p.pair.first.id p.pair.second.id, refl, is)
    parts (Err cause) is = (tells.Unjoined id cause, refl, (refl, is))

    pub parts_so : JoinsAndPartsSo (Parts id) (bridging w calls (Parts id))
    parts_so = parts (parted_from id calls) (by_call (found id calls) refl)

-- ---- who is joined then

module _ (w : World) (calls : Members) (orderly : IsOrderly w) (are : AreTheCalls w calls) where
  paired_then : (first second : CallId) (a b : Found) → CanJoin calls first second a b → IsPaired w (paired (pair a b) calls) first second
  paired_then first second a b can = (
    pair a b,
    can.a_is.named,
    can.b_is.named,
    in_it first a can.a_is (record a.member { pair = Some (pair a b) }) (first_in calls first second a b can) refl,
    in_it second b can.b_is (record b.member { pair = Some (pair a b) }) (second_in calls first second a b can) refl,
  )
    where
      in_it : (id : CallId) (f : Found) → IsThere calls id f → (m : Member) → member_at (paired (pair a b) calls) f.slot ≡ Some m → m.pair ≡ Some (pair a b) → IsIn w (paired (pair a b) calls) id (Some (pair a b))
      in_it id f is m at joined =
          let k = call_of w calls orderly are id f is in
          any_this w calls orderly are id f k (λ c. (m : Member) × (member_at (paired (pair a b) calls) c.slot ≡ Some m) × (m.pair ≡ Some (pair a b))) (m, ap (member_at (paired (pair a b) calls)) k.slot ∙ at, joined)

  module _ (mates : AreMates calls) (id : CallId) (f : Found) (x : Pair) (can : CanPart calls id f x) where
    -- a slot in which nobody is joined
    none_in : (after : Members) (s : ℕ) → IsFree after s → (o : Option Member) → member_at after s ≡ o → (x : Seen) → option_map seen_in o ≡ Some x → (m : Member) × (member_at after s ≡ Some m) × (m.pair ≡ None)
    none_in after s free None at x is = absurd cc
    none_in after s free (Some m) at x is = go m.pair refl
      where
        go : (o : Option Pair) → m.pair ≡ o → (m : Member) × (member_at after s ≡ Some m) × (m.pair ≡ None)
        go None none = (m, at, none)
        go (Some y) some = absurd (free m.media y (ap (option_map look_of) at ∙ ap (λ (q : Option Pair). Some (let l : Look = record { media = m.media; pair = q } in l)) some))

    unpaired_then : IsIn w (parted x calls) id None
    unpaired_then =
        let k = call_of w calls orderly are id f can.is in
        let here : look calls f.slot ≡ Some (let l : Look = record { media = f.member.media; pair = Some x } in l) = ap (option_map look_of) k.at ∙ ap (λ (q : Option Pair). Some (let l : Look = record { media = f.member.media; pair = q } in l)) can.paired in
        let of_x = (mates.mates f.slot f.member.media x here).0 in
        any_this w calls orderly are id f k (λ c. (m : Member) × (member_at (parted x calls) c.slot ≡ Some m) × (m.pair ≡ None))
        (subst (λ s. (m : Member) × (member_at (parted x calls) s ≡ Some m) × (m.pair ≡ None)) (sym k.slot)
        (none_in (parted x calls) f.slot (free_of calls x f.slot of_x) (member_at (parted x calls) f.slot) refl (seen_in f.member) (both_look None x.first.slot x.second.slot calls f.slot ∙ ap (option_map seen_in) k.at)))

-- ---- a line

pub said_so : (w : World) (calls : Members) (s : Said) → IsOrderly w → AreTheCalls w calls → JoinsAndPartsSo s (bridging w calls s)
said_so w calls (Happens e) orderly are = tt
said_so w calls (Joins first second) orderly are = joins_so w calls orderly are first second
said_so w calls (Parts id) orderly are = parts_so w calls orderly are id

pub said_as_told : (w : World) (calls : Members) (s : Said) → IsOrderly w → AreTheCalls w calls → AreMates calls → IsAsTold s (bridging w calls s)
said_as_told w calls s orderly are mates = each_line w calls IsAsTold (record {
  signal = λ s. tt;
  datagram = λ port from d. tt;
  joins = λ first second a b can told. paired_then w calls orderly are first second a b can;
  unjoined = λ first second call cause told. absurd cc;
  parts = λ id f x can a z told. unpaired_then w calls orderly are mates id f x can;
  unparted = λ id cause a z told. absurd cc;
}) s
