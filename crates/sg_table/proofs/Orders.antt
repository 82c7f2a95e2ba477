-- Each arrival of a call tells what it tells among that call's own, whatever comes between them.
use Rattle.std.proofs.Common.{◌≡◌, ◌≤◌, ℕ, Bool, true, false, cond, List, [], ◌∷◌, ◌++◌, map, Option, Some, None, refl, sym, ap, ◌∙◌, subst}
use Rattle.std.proofs.lemmas.Bool.{cond-true, cond-false, false≢true, false_from_ne_true}
use Rattle.std.proofs.lemmas.List.Elements.{filter_agree, recursion_from_All, All-from_recursion}
use Rattle.std.proofs.lemmas.List.Sorted.{IsPermutation-map}
use Rattle.std.specs.List.{AllByRecursion, filter}
use Rattle.std.specs.Prelude.{is_none, IsPermutation}
use Rattle.sg_base.specs.declared.faults.DropCause.TheVariants.{PortUnused}
use Rattle.sg_gateway.proofs.Pairs.{Pairs, each_two, pairs_from}
use Rattle.sg_gateway.proofs.Passing.{each_unmap}
use Rattle.sg_gateway.proofs.Reached.{before_apart}
use Rattle.sg_gateway.specs.Batch.{Arrived, AreDrained, after, drained, given_by, own, told}
use Rattle.sg_gateway.specs.Datagrams.{Given, Drops, Puts, arrived_at, given_to}
use Rattle.sg_gateway.specs.Order.{IsBefore, IsOrderly, EachWorldIsOrderly}
use Rattle.sg_gateway.specs.Ports.{call_at, has_port}
use Rattle.sg_gateway.specs.Runs.{turn_of, turns_from, world_after}
use Rattle.sg_gateway.specs.Step.{Event, Signalled, Datagram, step}
use Rattle.sg_gateway.specs.World.{Call, World, empty, find_call}
use Rattle.sg_outcome.specs.declared.outcomes.Outcome.TheVariants.{Dropped}
use Rattle.sg_outcome.specs.declared.outcomes.Outcome.{Outcome}
use Rattle.sg_session.proofs.Lists.{each_of, each_weaker}
use Rattle.sg_table.proofs.Batching.{events_same}
use Rattle.sg_table.proofs.Ended.{AreEnded}
use Rattle.sg_table.proofs.Stepped.{after_append}
use Rattle.sg_table.proofs.Turns.{map_agree, turn, turn_same, same_ports, one_turn, turns_on, same_moment, delivered_alone}
use Rattle.sg_table.specs.Batches.{arrived}
use Rattle.sg_table.specs.Orders.{at_call, at_no_call, comes_to, told_where, told_at_call, told_at_no_call, told_each, TellTheSame, SameInEveryOrder, IsBatchedAs}
use Rattle.sg_table.specs.Parts.{datagram_of, TakesTurns}
use Rattle.sg_table.specs.Standing.{TableStandsFor}
use Rattle.sg_table.specs.Values.{TableValue}
use Rattle.sg_table.specs.declared.arrival.Arrival.{Arrival}

-- ---- lists

map_same : {X Y : Type 0} (f g : X → Y) (xs : List X) → AllByRecursion (λ x. f x ≡ g x) xs → map f xs ≡ map g xs
map_same f g [] p = refl
map_same f g (x ∷ xs) p = let this = p.0 in let rest = map_same f g xs p.1 in (λ i. this i ∷ rest i)

-- the datagrams of a call are those of its arrivals
pub own_are : (c : Call) (came : List Arrival) → own c (map datagram_of came) ≡ map datagram_of (at_call c came)
own_are c [] = refl
own_are c (a ∷ later) = go (has_port a.port c) (own_are c later)
  where
    go : (b : Bool) → own c (map datagram_of later) ≡ map datagram_of (at_call c later)
        → cond b (datagram_of a ∷ own c (map datagram_of later)) (own c (map datagram_of later)) ≡ map datagram_of (cond b (a ∷ at_call c later) (at_call c later))
    go true rest = ap (λ l. datagram_of a ∷ l) rest
    go false rest = rest

-- ---- the call of a port

-- a call that has the port is the one that is found
each_found : (port : ℕ) (cs : List Call) → AllByRecursion (λ c. (d : Call) → IsBefore c d → has_port port c ≡ true → has_port port d ≡ false) cs → Pairs IsBefore cs
    → AllByRecursion (λ c. has_port port c ≡ true → find_call (has_port port) cs ≡ Some c) cs
each_found port [] apart p = tt
each_found port (c ∷ cs) apart p = (
  λ has. cond-true (has_port port c) (Some c) (find_call (has_port port) cs) has,
  each_two (IsBefore c) (λ d. has_port port d ≡ true → find_call (has_port port) cs ≡ Some d) (λ d. has_port port d ≡ true → find_call (has_port port) (c ∷ cs) ≡ Some d)
      (λ d before found has.
      let other : has_port port c ≡ false = false_from_ne_true (has_port port c) (λ h. false≢true (sym (apart.0 d before h) ∙ has)) in
      cond-false (has_port port c) (Some c) (find_call (has_port port) cs) other ∙ found has) cs p.0 (each_found port cs apart.1 p.1),
)

found_in : (port : ℕ) (w : World) → IsOrderly w → AllByRecursion (λ c. has_port port c ≡ true → call_at w port ≡ Some c) w.calls
found_in port w o =
    each_found port w.calls (each_weaker _ _ (λ c few d before has. (before_apart c d few before).ports port has) w.calls (recursion_from_All (λ (c : Call). c.media ≤ 4) w.calls o.media)) (pairs_from IsBefore w.calls o.rising)

find_some : (port : ℕ) (f : Call → Call) → ((c : Call) → has_port port (f c) ≡ has_port port c) → (cs : List Call) → is_none (find_call (has_port port) (map f cs)) ≡ is_none (find_call (has_port port) cs)
find_some port f same [] = refl
find_some port f same (c ∷ cs) = ap (λ b. is_none (cond b (Some (f c)) (find_call (has_port port) (map f cs)))) (same c) ∙ go (has_port port c) (find_some port f same cs)
  where
    go : (b : Bool) → is_none (find_call (has_port port) (map f cs)) ≡ is_none (find_call (has_port port) cs)
        → is_none (cond b (Some (f c)) (find_call (has_port port) (map f cs))) ≡ is_none (cond b (Some c) (find_call (has_port port) cs))
    go true rest = refl
    go false rest = rest

-- ---- worlds that datagrams lead to

pub record TakesOrders (w : World) : Type 0 where
  pub turns : TakesTurns w
  pub orderly : (later : List Event) → IsOrderly (world_after w later)

orders_on : (w : World) (a : Arrival) → TakesOrders w → TakesOrders (step w (arrived a)).world
orders_on w a t = record { turns = turns_on w (datagram_of a) t.turns; orderly = λ later. t.orderly (arrived a ∷ later) }

-- the worlds of runs are such
pub takes_orders : ((events : List Event) (arrived : List Arrived) → AreDrained (world_after empty events) arrived) → ((events : List Event) → EachWorldIsOrderly events)
    → (events : List Event) → TakesOrders (world_after empty events)
takes_orders drained orderly events = record {
  turns = drained events;
  orderly = λ later. subst IsOrderly (after_append empty events later) (orderly (events ++ later)).1;
}

-- the world after the arrivals: each call by its own
after_own : (w : World) → TakesTurns w → (came : List Arrival) → world_after w (map arrived came) ≡ record w { calls = map (λ c. drained w.moment c (map datagram_of (at_call c came))) w.calls }
after_own w turns came =
    ap (world_after w) (sym (events_same came)) ∙ delivered_alone w (map datagram_of came)
    ∙ ap (λ cs. record w { calls = cs }) (turns (map datagram_of came) ∙ map_agree _ _ (λ c. ap (drained w.moment c) (own_are c came)) w.calls)

same_world : (w : World) → TakesTurns w → (some others : List Arrival) → AllByRecursion (λ c. at_call c some ≡ at_call c others) w.calls → world_after w (map arrived some) ≡ world_after w (map arrived others)
same_world w turns some others agree =
    after_own w turns some
    ∙ ap (λ cs. record w { calls = cs }) (map_same _ _ w.calls (each_weaker _ _ (λ c same. ap (λ l. drained w.moment c (map datagram_of l)) same) w.calls agree))
    ∙ sym (after_own w turns others)

-- ---- what is told

-- the outcomes of a turn
where_agree : (f g : ℕ → Bool) → ((n : ℕ) → f n ≡ g n) → (w : World) (came : List Arrival) → told_where f w came ≡ told_where g w came
where_agree f g same w came = ap (map (λ t. t.outcomes)) (filter_agree (λ t. comes_to f t.event) (λ t. comes_to g t.event) (λ t. at t.event) (turns_from w (map arrived came)))
  where
    at : (e : Event) → comes_to f e ≡ comes_to g e
    at (Signalled signal) = refl
    at (Datagram port from octets) = same port

-- what a datagram tells in the call that has its port
given_outcomes : (w : World) (port : ℕ) (g : Given) → (given_to w port g).outcomes ≡ told port (Some g)
given_outcomes w port (Drops cause) = refl
given_outcomes w port (Puts p) = refl

at_found : (w : World) (a : Arrival) (c : Call) → call_at w a.port ≡ Some c → (step w (arrived a)).outcomes ≡ told a.port (Some (given_by w.moment c (datagram_of a)))
at_found w a c found = ap (λ o. (arrived_at w a.port a.from (datagram_of a).octets.items o).outcomes) found ∙ given_outcomes w a.port (given_by w.moment c (datagram_of a))

-- what a call's arrivals tell in order
abbrev tells_by : ℕ → Call → List Arrival → List (List Outcome)
tells_by now c [] = []
tells_by now c (a ∷ later) = told a.port (Some (given_by now c (datagram_of a))) ∷ tells_by now (after (given_by now c (datagram_of a)) c) later

-- one arrival more
tells_next : (w : World) (a : Arrival) (c : Call) (later : List Arrival) → (has_port a.port c ≡ true → call_at w a.port ≡ Some c)
    → told_at_call (step w (arrived a)).world (turn w.moment (datagram_of a) c) later ≡ tells_by w.moment (turn w.moment (datagram_of a) c) (at_call (turn w.moment (datagram_of a) c) later)
    → told_at_call w c (a ∷ later) ≡ tells_by w.moment c (at_call c (a ∷ later))
tells_next w a c later found rest =
    go (has_port a.port c) refl (sym told_same ∙ rest ∙ ap (tells_by w.moment (turn w.moment (datagram_of a) c)) own_same)
  where
    v : World
    v = (step w (arrived a)).world

    told_same : told_at_call v (turn w.moment (datagram_of a) c) later ≡ told_at_call v c later
    told_same = where_agree (λ port. has_port port (turn w.moment (datagram_of a) c)) (λ port. has_port port c) (λ port. same_ports c (turn w.moment (datagram_of a) c) (turn_same w.moment (datagram_of a) c) port) v later

    own_same : at_call (turn w.moment (datagram_of a) c) later ≡ at_call c later
    own_same = filter_agree (λ (b : Arrival). has_port b.port (turn w.moment (datagram_of a) c)) (λ b. has_port b.port c)
        (λ b. same_ports c (turn w.moment (datagram_of a) c) (turn_same w.moment (datagram_of a) c) b.port) later

    go : (b : Bool) → has_port a.port c ≡ b → told_at_call v c later ≡ tells_by w.moment (cond b (after (given_by w.moment c (datagram_of a)) c) c) (at_call c later)
        → map (λ t. t.outcomes) (cond b (turn_of w (arrived a) ∷ filter (λ t. comes_to (λ port. has_port port c) t.event) (turns_from v (map arrived later))) (filter (λ t. comes_to (λ port. has_port port c) t.event) (turns_from v (map arrived later))))
        ≡ tells_by w.moment c (cond b (a ∷ at_call c later) (at_call c later))
    go true is rest = (λ i. at_found w a c (found is) i ∷ rest i)
    go false is rest = rest

tells_alone : (came : List Arrival) (w : World) → TakesOrders w → AllByRecursion (λ c. told_at_call w c came ≡ tells_by w.moment c (at_call c came)) w.calls
tells_alone [] w t = each_of _ (λ c. refl) w.calls
tells_alone (a ∷ later) w t =
    let v : World = (step w (arrived a)).world in
    let f : Call → Call = turn w.moment (datagram_of a) in
    let rest : AllByRecursion (λ c. told_at_call v c later ≡ tells_by w.moment c (at_call c later)) (map f w.calls) =
    subst (AllByRecursion (λ c. told_at_call v c later ≡ tells_by w.moment c (at_call c later))) (one_turn w (datagram_of a) t.turns)
    (subst (λ now. AllByRecursion (λ c. told_at_call v c later ≡ tells_by now c (at_call c later)) v.calls) (same_moment w (datagram_of a)) (tells_alone later v (orders_on w a t))) in
    each_two (λ c. has_port a.port c ≡ true → call_at w a.port ≡ Some c) (λ c. told_at_call v (f c) later ≡ tells_by w.moment (f c) (at_call (f c) later))
    (λ c. told_at_call w c (a ∷ later) ≡ tells_by w.moment c (at_call c (a ∷ later)))
    (λ c found rest. tells_next w a c later found rest) w.calls (found_in a.port w (t.orderly []))
    (each_unmap f (λ c. told_at_call v c later ≡ tells_by w.moment c (at_call c later)) w.calls rest)

-- what no call takes tells that its port is unused
abbrev unused : Arrival → List Outcome
unused a = Dropped a.port PortUnused ∷ []

none_same : (w : World) → TakesTurns w → (a : Arrival) (port : ℕ) → is_none (call_at (step w (arrived a)).world port) ≡ is_none (call_at w port)
none_same w turns a port =
    ap (λ cs. is_none (find_call (has_port port) cs)) (one_turn w (datagram_of a) turns)
    ∙ find_some port (turn w.moment (datagram_of a)) (λ c. same_ports c (turn w.moment (datagram_of a) c) (turn_same w.moment (datagram_of a) c) port) w.calls

unused_alone : (came : List Arrival) (w : World) → TakesTurns w → told_at_no_call w came ≡ map unused (at_no_call w came)
unused_alone [] w turns = refl
unused_alone (a ∷ later) w turns =
    go (call_at w a.port)
    (sym (where_agree (λ port. is_none (call_at v port)) (λ port. is_none (call_at w port)) (none_same w turns a) v later) ∙ unused_alone later v (turns_on w (datagram_of a) turns)
    ∙ ap (map unused) (filter_agree (λ (b : Arrival). is_none (call_at v b.port)) (λ b. is_none (call_at w b.port)) (λ b. none_same w turns a b.port) later))
  where
    v : World
    v = (step w (arrived a)).world

    go : (o : Option Call) → told_where (λ port. is_none (call_at w port)) v later ≡ map unused (at_no_call w later)
        → map (λ t. t.outcomes) (cond (is_none o) (record { before = w; event = arrived a; outcomes = (arrived_at w a.port a.from (datagram_of a).octets.items o).outcomes; entries = (arrived_at w a.port a.from (datagram_of a).octets.items o).entries } ∷ filter (λ t. comes_to (λ port. is_none (call_at w port)) t.event) (turns_from v (map arrived later)))
        (filter (λ t. comes_to (λ port. is_none (call_at w port)) t.event) (turns_from v (map arrived later))))
        ≡ map unused (cond (is_none o) (a ∷ at_no_call w later) (at_no_call w later))
    go None rest = ap (λ l. unused a ∷ l) rest
    go (Some c) rest = rest

-- ---- the law

tell_alike : (w : World) → TakesOrders w → (some others : List Arrival) → AllByRecursion (λ c. at_call c some ≡ at_call c others) w.calls → AllByRecursion (λ c. told_at_call w c some ≡ told_at_call w c others) w.calls
tell_alike w t some others agree =
    each_two (λ c. told_at_call w c some ≡ tells_by w.moment c (at_call c others)) (λ c. told_at_call w c others ≡ tells_by w.moment c (at_call c others))
    (λ c. told_at_call w c some ≡ told_at_call w c others) (λ c one other. one ∙ sym other) w.calls
    (each_two (λ c. told_at_call w c some ≡ tells_by w.moment c (at_call c some)) (λ c. at_call c some ≡ at_call c others)
    (λ c. told_at_call w c some ≡ tells_by w.moment c (at_call c others)) (λ c one same. one ∙ ap (tells_by w.moment c) same) w.calls (tells_alone some w t) agree)
    (tells_alone others w t)

pub same_in_every_order : (w : World) → TakesOrders w → SameInEveryOrder w
same_in_every_order w t some others agree =
    let calls : AllByRecursion (λ c. at_call c some ≡ at_call c others) w.calls = recursion_from_All (λ (c : Call). at_call c some ≡ at_call c others) w.calls agree.calls in
    record {
      calls = All-from_recursion (λ (c : Call). told_at_call w c some ≡ told_at_call w c others) w.calls (tell_alike w t some others calls);
      no_call = subst (λ l. IsPermutation l (told_at_no_call w others)) (sym (unused_alone some w t.turns))
          (subst (IsPermutation (map unused (at_no_call w some))) (sym (unused_alone others w t.turns)) (IsPermutation-map unused (at_no_call w some) (at_no_call w others) agree.no_call));
      world = same_world w t.turns some others calls;
    }

-- what arrivals at such ports have told
ended_where : (test : ℕ → Bool) (w : World) (old new : List Arrival) → AreEnded w old new → told_each (filter (λ a. test a.port) new) ≡ told_where test w old
ended_where test w [] [] p = refl
ended_where test w (a ∷ old) (b ∷ new) p =
    let rest = ended_where test (step w (arrived a)).world old new p.1 in
    ap (λ n. told_each (cond (test n) (b ∷ filter (λ a. test a.port) new) (filter (λ a. test a.port) new))) p.0.port ∙ go (test a.port) rest
  where
    go : (x : Bool) → told_each (filter (λ a. test a.port) new) ≡ told_where test (step w (arrived a)).world old
        → told_each (cond x (b ∷ filter (λ a. test a.port) new) (filter (λ a. test a.port) new))
        ≡ map (λ t. t.outcomes) (cond x (turn_of w (arrived a) ∷ filter (λ t. comes_to test t.event) (turns_from (step w (arrived a)).world (map arrived old))) (filter (λ t. comes_to test t.event) (turns_from (step w (arrived a)).world (map arrived old))))
    go true rest = (λ i. p.0.told i ∷ rest i)
    go false rest = rest
ended_where test w old new p = absurd p

-- a batch has told what it tells in every other order
pub batched_as : ((events : List Event) → SameInEveryOrder (world_after empty events)) → (w : World) (old new others : List Arrival) (before table : TableValue) → TableStandsFor before w → AreEnded w old new
    → TableStandsFor table (world_after w (map arrived old)) → IsBatchedAs w others old new table
batched_as law w old new others before table stands ended after agree =
    let same : SameInEveryOrder w = subst SameInEveryOrder (sym stands.is_after) (law stands.history) in
    let alike : TellTheSame w old others = same old others agree in
    record {
      calls = All-from_recursion (λ (c : Call). told_each (at_call c new) ≡ told_at_call w c others) w.calls
          (each_weaker (λ c. told_at_call w c old ≡ told_at_call w c others) (λ c. told_each (at_call c new) ≡ told_at_call w c others) (λ c one. ended_where (λ port. has_port port c) w old new ended ∙ one) w.calls
          (recursion_from_All (λ (c : Call). told_at_call w c old ≡ told_at_call w c others) w.calls alike.calls));
      no_call = subst (λ l. IsPermutation l (told_at_no_call w others)) (sym (ended_where (λ port. is_none (call_at w port)) w old new ended)) alike.no_call;
      stands = subst (TableStandsFor table) alike.world after;
    }
