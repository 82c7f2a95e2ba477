-- A datagram among the sessions of a call of which each of a generation has a port of its own.
use Rattle.std.proofs.Common.{◌≡◌, ℕ, ◌+◌, Bool, true, false, cond, List, [], ◌∷◌, ◌++◌, length, get_or, map, Some, None, Result, Ok, Err, refl, sym, ap, ap₂, ◌∙◌, subst, eqb, ltb}
use Rattle.std.proofs.Math.ListN.{set}
use Rattle.std.proofs.lemmas.Bool.{eqb-true, false≢true}
use Rattle.std.proofs.lemmas.List.{set-get_or, map-append}
use Rattle.std.proofs.lemmas.List.Elements.{All-from_recursion, filter-append}
use Rattle.std.specs.List.{AllByRecursion, filter, position}
use Rattle.sg_base.proofs.Cases.{none_some}
use Rattle.sg_base.specs.declared.addresses.Address.{Address}
use Rattle.sg_base.specs.declared.faults.DropCause.{DropCause}
use Rattle.sg_base.specs.declared.faults.DropCause.TheVariants.{PortUnused, TooLong, SourceUnknown}
use Rattle.sg_session.proofs.Lists.{each_weaker}
use Rattle.sg_session.specs.OneSession.{after}
use Rattle.sg_session.specs.Opening.{Taken, opens}
use Rattle.sg_session.specs.Sealing.{seals, datagram_of}
use Rattle.sg_session.specs.Session.{Session, with_done}
use Rattle.sg_session.specs.declared.names.Direction.{Direction}
use Rattle.sg_session.specs.declared.names.Direction.TheVariants.{Opening, Sealing}
use Rattle.sg_session.specs.declared.names.Name.{Name}
use Rattle.sg_gateway.proofs.Passing.{FoundAt, found, none_found, ports_set}
use Rattle.sg_call.proofs.Places.{At, each_set, with_none}
use Rattle.sg_gateway.specs.Datagrams.{same_ip}
use Rattle.sg_gateway.specs.Passing.{taken_from, taken_towards, sent_towards, sent_by}
use Rattle.sg_gateway.specs.Ports.{address_out}
use Rattle.sg_gateway.proofs.Arrivals.{same_direction_at}
use Rattle.sg_call.proofs.Paired.{stands_at, stands_set, position_same}
use Rattle.sg_media.specs.Either.{if_refused}
use Rattle.sg_gateway.specs.Batch as batch
use Rattle.sg_gateway.specs.Datagrams.{Given, Drops, put, call_after, opened_or, drop_of, sealed_or, arrived_towards, arrived_among, arrived_in}
use Rattle.sg_gateway.specs.Ports.{sessions_at, port_out, port_in}
use Rattle.sg_gateway.specs.Generations.{is_current}
use Rattle.sg_gateway.specs.World.{Call}
use Rattle.sg_call.specs.Handling.{OnDrop, kept_or, handled_of, handled_by, handled_by_either, unused, IsPassed}
use Rattle.sg_call.specs.Standing.{OpensFor, RouteStandsFor, SessionsStand}
use Rattle.sg_call.specs.declared.handled.End.{End}
use Rattle.sg_call.specs.declared.handled.End.TheVariants.{Out, Dropped}
use Rattle.sg_call.specs.declared.handled.Handled.{Handled}
use Rattle.sg_call.specs.declared.route.Route.{Route}

-- what follows where a datagram is dropped
pub on_drop : {P Q : Type 0} (e : End) → (P → Q) → OnDrop e P → OnDrop e Q
on_drop (Out port to) f p = tt
on_drop (Dropped cause) f p = f p

-- what one session gives
given_of : ℕ → Call → Session → Direction → Result Taken DropCause → Given
given_of now c s Opening (Ok t) = put now c s t t.done.packet
given_of now c s Sealing (Ok t) = put now c s t (datagram_of s t)
given_of now c s dir (Err cause) = Drops cause

-- the call after a session has taken a datagram, or not
abbrev with_taken : ℕ → Call → Session → Result Taken DropCause → Call
with_taken now c s (Ok t) = call_after now c s t
with_taken now c s (Err cause) = c

pub filter_append : {X : Type 0} (test : X → Bool) (xs ys : List X) → filter test (xs ++ ys) ≡ filter test xs ++ filter test ys
filter_append = filter-append

module _ (now : ℕ) (c : Call) where
  current_by_name : (s t : Session) → s.name ≡ t.name → is_current c s ≡ is_current c t
  current_by_name s t e = ap (λ (n : Name). eqb (n.owner.generation + 1) c.generations) e

  module _ (current earlier : List Route) (stand : SessionsStand current earlier c) where
    -- a session of the current generation takes
    pub stand_now : (port i : ℕ) (t : Session) → position (At c.slot port) stand.now ≡ Some i → (route : Route) (r : Result Taken DropCause)
        → RouteStandsFor c.slot route (after (get_or stand.now i t) r) → SessionsStand (set current i route) earlier (with_taken now c (get_or stand.now i t) r)
    stand_now port i t at route (Ok x) new =
        let one : Session = get_or stand.now i t in
        let here : FoundAt c.slot port stand.now i one = found c.slot port stand.now i t stand.now_stand.own at in
        let is_now : is_current c one ≡ true = All-from_recursion _ stand.now stand.now_current i t here.within in
        record {
          now = set stand.now i (after one (Ok x));
          before = stand.before;
          are = ap (map (with_done one.name x.done)) stand.are ∙ map-append (with_done one.name x.done) stand.now stand.before
              ∙ ap₂ (λ a b. a ++ b) (here.changed x.done) (with_none one.name x.done stand.before
              (each_weaker _ _ (λ b not e. false≢true (sym not ∙ current_by_name b one e ∙ is_now)) stand.before stand.before_not));
          now_stand = record {
            own = ports_set c.slot stand.now i (after one (Ok x)) t stand.now_stand.own refl;
            each = stands_set (RouteStandsFor c.slot) current stand.now i route (after one (Ok x)) stand.now_stand.each new;
          };
          before_stand = stand.before_stand;
          now_current = each_set _ stand.now i (after one (Ok x)) stand.now_current is_now;
          before_not = stand.before_not;
          before_open = stand.before_open;
        }
    stand_now port i t at route (Err cause) new = record {
      now = stand.now;
      before = stand.before;
      are = stand.are;
      now_stand = record {
        own = stand.now_stand.own;
        each = subst (λ ss. Rattle.sg_leg.specs.Pairs.EachPair (RouteStandsFor c.slot) (set current i route) ss) (set-get_or stand.now i t)
            (stands_set (RouteStandsFor c.slot) current stand.now i route (get_or stand.now i t) stand.now_stand.each new);
      };
      before_stand = stand.before_stand;
      now_current = stand.now_current;
      before_not = stand.before_not;
      before_open = stand.before_open;
    }

    -- a session of the earlier generation takes
    pub stand_before : (port i : ℕ) (t : Session) → position (At c.slot port) stand.before ≡ Some i → (route : Route) (r : Result Taken DropCause)
        → RouteStandsFor c.slot route (after (get_or stand.before i t) r) → SessionsStand current (set earlier i route) (with_taken now c (get_or stand.before i t) r)
    stand_before port i t at route (Ok x) new =
        let one : Session = get_or stand.before i t in
        let here : FoundAt c.slot port stand.before i one = found c.slot port stand.before i t stand.before_stand.own at in
        let not_now : is_current c one ≡ false = All-from_recursion _ stand.before stand.before_not i t here.within in
        record {
          now = stand.now;
          before = set stand.before i (after one (Ok x));
          are = ap (map (with_done one.name x.done)) stand.are ∙ map-append (with_done one.name x.done) stand.now stand.before
              ∙ ap₂ (λ a b. a ++ b) (with_none one.name x.done stand.now
              (each_weaker _ _ (λ b is e. false≢true (sym not_now ∙ sym (current_by_name b one e) ∙ is)) stand.now stand.now_current)) (here.changed x.done);
          now_stand = stand.now_stand;
          before_stand = record {
            own = ports_set c.slot stand.before i (after one (Ok x)) t stand.before_stand.own refl;
            each = stands_set (RouteStandsFor c.slot) earlier stand.before i route (after one (Ok x)) stand.before_stand.each new;
          };
          now_current = stand.now_current;
          before_not = each_set _ stand.before i (after one (Ok x)) stand.before_not not_now;
          before_open = each_set _ stand.before i (after one (Ok x)) stand.before_open (All-from_recursion _ stand.before stand.before_open i t here.within);
        }
    stand_before port i t at route (Err cause) new = record {
      now = stand.now;
      before = stand.before;
      are = stand.are;
      now_stand = stand.now_stand;
      before_stand = record {
        own = stand.before_stand.own;
        each = subst (λ ss. Rattle.sg_leg.specs.Pairs.EachPair (RouteStandsFor c.slot) (set earlier i route) ss) (set-get_or stand.before i t)
            (stands_set (RouteStandsFor c.slot) earlier stand.before i route (get_or stand.before i t) stand.before_stand.each new);
      };
      now_current = stand.now_current;
      before_not = stand.before_not;
      before_open = stand.before_open;
    }

module _ (now port : ℕ) (from : Address) (d : List ℕ) (c : Call) where
  one_towards : (s : Session) (dir : Direction) → arrived_towards now from d c s [] dir ≡ given_of now c s dir (taken_towards from d s dir)
  unfolding given_of
  one_towards s Opening = go (ltb 4238 (length d)) (opens s d)
    where
      go : (b : Bool) (r : Result Taken DropCause) → cond b (Drops TooLong) (opened_or now c s (drop_of r) r) ≡ given_of now c s Opening (cond b (Err TooLong) r)
      go true r = refl
      go false (Ok t) = refl
      go false (Err cause) = refl
  one_towards s Sealing = go (ltb 4096 (length d)) (same_ip from s.plain) (seals s d)
    where
      go : (b e : Bool) (r : Result Taken DropCause) → cond b (Drops TooLong) (cond e (sealed_or now c s r) (Drops SourceUnknown)) ≡ given_of now c s Sealing (cond b (Err TooLong) (cond e r (Err SourceUnknown)))
      go true e r = refl
      go false false r = refl
      go false true (Ok t) = refl
      go false true (Err cause) = refl

  one_arrives : (s : Session) → sessions_at c port ≡ s ∷ [] → arrived_in now port from d c ≡ given_of now c s s.name.owner.direction (taken_from from d s)
  one_arrives s only = ap (arrived_among now from d c) only ∙ one_towards s s.name.owner.direction

  handled_one : (s : Session) (dir : Direction) (r : Result Taken DropCause) → handled_by (port_out c s) (address_out s) (kept_or d (sent_towards s r dir)) ≡ handled_of d (given_of now c s dir r)
  unfolding given_of
  handled_one s Opening (Ok t) = refl
  handled_one s Sealing (Ok t) = refl
  handled_one s Opening (Err cause) = refl
  handled_one s Sealing (Err cause) = refl

  after_one : (s : Session) (dir : Direction) (r : Result Taken DropCause) → with_taken now c s r ≡ batch.after (given_of now c s dir r) c
  unfolding given_of
  after_one s Opening (Ok t) = refl
  after_one s Sealing (Ok t) = refl
  after_one s Opening (Err cause) = refl
  after_one s Sealing (Err cause) = refl

  -- two opening sessions
  given_of_two : Session → Session → Result Taken DropCause → Result Taken DropCause → Given
  given_of_two s e (Ok t) r = put now c s t t.done.packet
  given_of_two s e (Err cause) (Ok t) = put now c e t t.done.packet
  given_of_two s e (Err cause) (Err other) = Drops cause

  two_towards : (s e : Session) → arrived_towards now from d c s (e ∷ []) Opening ≡ given_of_two s e (taken_towards from d s Opening) (taken_towards from d e Opening)
  unfolding given_of_two
  two_towards s e = go (ltb 4238 (length d)) (opens s d) (opens e d)
    where
      go : (b : Bool) (r q : Result Taken DropCause) → cond b (Drops TooLong) (opened_or now c s (opened_or now c e (drop_of r) q) r) ≡ given_of_two s e (cond b (Err TooLong) r) (cond b (Err TooLong) q)
      go true r q = refl
      go false (Ok t) q = refl
      go false (Err cause) (Ok t) = refl
      go false (Err cause) (Err other) = refl

  two_arrive : (s e : Session) → s.name.owner.direction ≡ Opening → e.name.owner.direction ≡ Opening → sessions_at c port ≡ s ∷ (e ∷ [])
      → arrived_in now port from d c ≡ given_of_two s e (taken_from from d s) (taken_from from d e)
  two_arrive s e of_s of_e are = ap (arrived_among now from d c) are ∙ ap (arrived_towards now from d c s (e ∷ [])) of_s ∙ two_towards s e
      ∙ ap₂ (given_of_two s e) (ap (taken_towards from d s) (sym of_s)) (ap (taken_towards from d e) (sym of_e))

  handled_two : (s e : Session) (r q : Result Taken DropCause)
      → handled_by_either (port_out c s) (address_out s) (port_out c e) (address_out e) d (sent_towards s r Opening) (sent_towards e q Opening) ≡ handled_of d (given_of_two s e r q)
  unfolding given_of_two
  handled_two s e (Ok t) (Ok u) = refl
  handled_two s e (Ok t) (Err cause) = refl
  handled_two s e (Err cause) (Ok t) = refl
  handled_two s e (Err cause) (Err other) = refl

  -- the one or the other has taken it
  after_two : (s e : Session) (r q : Result Taken DropCause) → with_taken now (with_taken now c s r) e (if_refused r q) ≡ batch.after (given_of_two s e r q) c
  unfolding given_of_two
  after_two s e (Ok t) q = refl
  after_two s e (Err cause) (Ok t) = refl
  after_two s e (Err cause) (Err other) = refl

  module _ (current earlier : List Route) (stand : SessionsStand current earlier c) where
    abbrev at_route : Route → Bool
    at_route l = eqb l.port port

    place_now : position at_route current ≡ position (At c.slot port) stand.now
    place_now = position_same (RouteStandsFor c.slot) at_route (At c.slot port) (λ l s h. ap (λ n. eqb n port) h.port) current stand.now stand.now_stand.each

    place_before : position at_route earlier ≡ position (At c.slot port) stand.before
    place_before = position_same (RouteStandsFor c.slot) at_route (At c.slot port) (λ l s h. ap (λ n. eqb n port) h.port) earlier stand.before stand.before_stand.each

    sessions_are : sessions_at c port ≡ filter (At c.slot port) stand.now ++ filter (At c.slot port) stand.before
    sessions_are = ap (filter (At c.slot port)) stand.are ∙ filter_append (At c.slot port) stand.now stand.before

    -- a list with a place has an element
    with_some : (P : Type 0) (i : ℕ) → ((t : Session) → P) → (ss : List Session) → position (At c.slot port) ss ≡ Some i → P
    with_some P i f [] e = absurd (none_some i e)
    with_some P i f (s ∷ ss) e = f s

    pub no_route : position at_route current ≡ None → position at_route earlier ≡ None → (idle : Bool) → eqb c.generations 0 ≡ idle
        → IsPassed now port from d c (record { pad = d; end = Dropped (unused idle) }) current earlier
    no_route none_now none_before idle is =
        let empty : sessions_at c port ≡ [] = sessions_are ∙ ap₂ (λ a b. a ++ b) (none_found c.slot port stand.now (sym place_now ∙ none_now)) (none_found c.slot port stand.before (sym place_before ∙ none_before)) in
        let given : arrived_in now port from d c ≡ Drops (unused idle) = ap (arrived_among now from d c) empty ∙ ap (λ b. Drops (unused b)) is in
        record { after = c; is = sym (ap (handled_of d) given); after_is = sym (ap (λ g. batch.after g c) given); stand = stand }

    module _ (i : ℕ) (at : position at_route current ≡ Some i) (none : position at_route earlier ≡ None) (other new : Route) (h : Handled)
        (answers : (slot : ℕ) (s : Session) → RouteStandsFor slot (get_or current i other) s → h ≡ handled_by (get_or current i other).out (get_or current i other).to (kept_or d (sent_by s (taken_from from d s))))
        (left : (slot : ℕ) (s : Session) → RouteStandsFor slot (get_or current i other) s → RouteStandsFor slot new (after s (taken_from from d s))) where
      now_one : (t : Session) → position (At c.slot port) stand.now ≡ Some i → IsPassed now port from d c h (set current i new) earlier
      now_one t at_session =
          let one : Session = get_or stand.now i t in
          let here : FoundAt c.slot port stand.now i one = found c.slot port stand.now i t stand.now_stand.own at_session in
          let stands : RouteStandsFor c.slot (get_or current i other) one = stands_at (RouteStandsFor c.slot) current stand.now i other t stand.now_stand.each here.within in
          let only : sessions_at c port ≡ one ∷ [] = sessions_are ∙ ap₂ (λ a b. a ++ b) here.only (none_found c.slot port stand.before (sym place_before ∙ none)) in
          let given = one_arrives one only in
          record {
            after = with_taken now c one (taken_from from d one);
            is = answers c.slot one stands ∙ (λ k. handled_by (stands.out k) (stands.to k) (kept_or d (sent_by one (taken_from from d one)))) ∙ handled_one one one.name.owner.direction (taken_from from d one) ∙ sym (ap (handled_of d) given);
            after_is = after_one one one.name.owner.direction (taken_from from d one) ∙ sym (ap (λ g. batch.after g c) given);
            stand = stand_now now c current earlier stand port i t at_session new (taken_from from d one) (left c.slot one stands);
          }

      pub by_current : IsPassed now port from d c h (set current i new) earlier
      by_current = let at_session : position (At c.slot port) stand.now ≡ Some i = sym place_now ∙ at in with_some _ i (λ t. now_one t at_session) stand.now at_session

    module _ (i : ℕ) (none : position at_route current ≡ None) (at : position at_route earlier ≡ Some i) (other new : Route) (h : Handled)
        (answers : (slot : ℕ) (s : Session) → RouteStandsFor slot (get_or earlier i other) s → h ≡ handled_by (get_or earlier i other).out (get_or earlier i other).to (kept_or d (sent_by s (taken_from from d s))))
        (left : (slot : ℕ) (s : Session) → RouteStandsFor slot (get_or earlier i other) s → RouteStandsFor slot new (after s (taken_from from d s))) where
      before_one : (t : Session) → position (At c.slot port) stand.before ≡ Some i → IsPassed now port from d c h current (set earlier i new)
      before_one t at_session =
          let one : Session = get_or stand.before i t in
          let here : FoundAt c.slot port stand.before i one = found c.slot port stand.before i t stand.before_stand.own at_session in
          let stands : RouteStandsFor c.slot (get_or earlier i other) one = stands_at (RouteStandsFor c.slot) earlier stand.before i other t stand.before_stand.each here.within in
          let only : sessions_at c port ≡ one ∷ [] = sessions_are ∙ ap₂ (λ a b. a ++ b) (none_found c.slot port stand.now (sym place_now ∙ none)) here.only in
          let given = one_arrives one only in
          record {
            after = with_taken now c one (taken_from from d one);
            is = answers c.slot one stands ∙ (λ k. handled_by (stands.out k) (stands.to k) (kept_or d (sent_by one (taken_from from d one)))) ∙ handled_one one one.name.owner.direction (taken_from from d one) ∙ sym (ap (handled_of d) given);
            after_is = after_one one one.name.owner.direction (taken_from from d one) ∙ sym (ap (λ g. batch.after g c) given);
            stand = stand_before now c current earlier stand port i t at_session new (taken_from from d one) (left c.slot one stands);
          }

      pub by_earlier : IsPassed now port from d c h current (set earlier i new)
      by_earlier = let at_session : position (At c.slot port) stand.before ≡ Some i = sym place_before ∙ at in with_some _ i (λ t. before_one t at_session) stand.before at_session

    module _ (i j : ℕ) (at : position at_route current ≡ Some i) (at_too : position at_route earlier ≡ Some j) (other new other_too new_too : Route) (h : Handled)
        (answers : (slot : ℕ) (s e : Session) → OpensFor slot (get_or current i other) s → OpensFor slot (get_or earlier j other_too) e
        → h ≡ handled_by_either (get_or current i other).out (get_or current i other).to (get_or earlier j other_too).out (get_or earlier j other_too).to d (sent_by s (taken_from from d s)) (sent_by e (taken_from from d e)))
        (left : (slot : ℕ) (s : Session) → OpensFor slot (get_or current i other) s → RouteStandsFor slot new (after s (taken_from from d s)))
        (left_too : (slot : ℕ) (s e : Session) → OpensFor slot (get_or current i other) s → OpensFor slot (get_or earlier j other_too) e
        → RouteStandsFor slot new_too (after e (if_refused (taken_from from d s) (taken_from from d e)))) where
      two_one : (t u : Session) → position (At c.slot port) stand.now ≡ Some i → position (At c.slot port) stand.before ≡ Some j → IsPassed now port from d c h (set current i new) (set earlier j new_too)
      unfolding stand_now
      two_one t u at_now at_before =
          let s : Session = get_or stand.now i t in
          let e : Session = get_or stand.before j u in
          let here : FoundAt c.slot port stand.now i s = found c.slot port stand.now i t stand.now_stand.own at_now in
          let there : FoundAt c.slot port stand.before j e = found c.slot port stand.before j u stand.before_stand.own at_before in
          let s_stands : RouteStandsFor c.slot (get_or current i other) s = stands_at (RouteStandsFor c.slot) current stand.now i other t stand.now_stand.each here.within in
          let e_stands : RouteStandsFor c.slot (get_or earlier j other_too) e = stands_at (RouteStandsFor c.slot) earlier stand.before j other_too u stand.before_stand.each there.within in
          let are : sessions_at c port ≡ s ∷ (e ∷ []) = sessions_are ∙ ap₂ (λ a b. a ++ b) here.only there.only in
          let of_e : e.name.owner.direction ≡ Opening = All-from_recursion _ stand.before stand.before_open j u there.within in
          let of_s : s.name.owner.direction ≡ Opening = same_direction_at c s e (at_port stand.now s here.only ∙ sym (at_port stand.before e there.only)) ∙ of_e in
          let given = two_arrive s e of_s of_e are in
          let r : Result Taken DropCause = taken_from from d s in
          let q : Result Taken DropCause = taken_from from d e in
          record {
            after = with_taken now (with_taken now c s r) e (if_refused r q);
            is = answers c.slot s e (s_stands, of_s) (e_stands, of_e) ∙ (λ k. handled_by_either (s_stands.out k) (s_stands.to k) (e_stands.out k) (e_stands.to k) d (sent_towards s r (of_s k)) (sent_towards e q (of_e k)))
                ∙ handled_two s e r q ∙ sym (ap (handled_of d) given);
            after_is = after_two s e r q ∙ sym (ap (λ g. batch.after g c) given);
            stand = two_stand t u at_now at_before r q (left c.slot s (s_stands, of_s)) (left_too c.slot s e (s_stands, of_s) (e_stands, of_e));
          }
        where
          at_port : (ss : List Session) (s : Session) → filter (At c.slot port) ss ≡ s ∷ [] → port_in c s ≡ port
          at_port ss s only = eqb-true _ _ (subst (AllByRecursion (λ x. At c.slot port x ≡ true)) only (each_weaker _ _ (λ x p. p.0) (filter (At c.slot port) ss) (Rattle.sg_gateway.proofs.Arrivals.kept_by (At c.slot port) ss))).0

          two_stand : (t u : Session) → position (At c.slot port) stand.now ≡ Some i → position (At c.slot port) stand.before ≡ Some j → (r q : Result Taken DropCause)
              → RouteStandsFor c.slot new (after (get_or stand.now i t) r) → RouteStandsFor c.slot new_too (after (get_or stand.before j u) (if_refused r q))
              → SessionsStand (set current i new) (set earlier j new_too) (with_taken now (with_taken now c (get_or stand.now i t) r) (get_or stand.before j u) (if_refused r q))
          two_stand t u at_now at_before (Ok x) q a b =
              stand_before now (call_after now c (get_or stand.now i t) x) (set current i new) earlier (stand_now now c current earlier stand port i t at_now new (Ok x) a) port j u at_before new_too (Err PortUnused) b
          two_stand t u at_now at_before (Err cause) q a b =
              stand_before now c (set current i new) earlier (stand_now now c current earlier stand port i t at_now new (Err cause) a) port j u at_before new_too q b

      pub by_either : IsPassed now port from d c h (set current i new) (set earlier j new_too)
      by_either =
          let at_now : position (At c.slot port) stand.now ≡ Some i = sym place_now ∙ at in
          let at_before : position (At c.slot port) stand.before ≡ Some j = sym place_before ∙ at_too in
          with_some _ i (λ t. with_some _ j (λ u. two_one t u at_now at_before) stand.before at_before) stand.now at_now
