-- Handled datagrams that are taken back in order of arrival.
use Rattle.std.proofs.Common.{◌≡◌, ℕ, ◌+◌, ◌<◌, Bool, true, false, cond, ◌||◌, List, [], ◌∷◌, ◌++◌, append_assoc, length, length-append, drop, get_or, map, Option, Some, None, refl, sym, ap, ◌∙◌, subst}
use Rattle.std.proofs.Math.ListN.{set}
use Rattle.std.proofs.Math.Seq.{set-append_seam, get_or-append_seam}
use Rattle.std.proofs.lemmas.Bool.{false≢true}
use Rattle.std.proofs.lemmas.List.{drop_more, length-map}
use Rattle.std.proofs.lemmas.List.Elements.{filter_agree}
use Rattle.std.specs.List.{AllByRecursion}
use Rattle.std.specs.Prelude.{IsSome}
use Rattle.sg_base.specs.declared.faults.DropCause.TheVariants.{PortUnused}
use Rattle.sg_call.proofs.Standing.{other_inbox}
use Rattle.sg_call.specs.Handling.{handled_of}
use Rattle.sg_call.specs.Standing.{CallStandsFor}
use Rattle.sg_call.specs.Values.{CallValue}
use Rattle.sg_call.specs.declared.handled.End.TheVariants.{Dropped}
use Rattle.sg_call.specs.declared.handled.Handled.{Handled}
use Rattle.sg_gateway.specs.Batch.{Arrived, after, given_by, given_in, delivered, drained, own}
use Rattle.sg_gateway.specs.Ports.{call_at, has_port}
use Rattle.sg_gateway.specs.World.{Books, Call, World, find_call}
use Rattle.sg_leg.specs.Pairs.{EachPair}
use Rattle.sg_psk.specs.declared.pairs.Pair.{Pair}
use Rattle.sg_session.proofs.Lists.{both}
use Rattle.sg_table.proofs.Pairing.{pairs_both}
use Rattle.sg_table.proofs.Sharing.{call_ports}
use Rattle.sg_table.proofs.Turns.{turn, turn_same, same_ports, drained_same, drain_one, one_turn, turns_on, same_moment, same_books}
use Rattle.sg_table.specs.Batches.{answered, with_handled, octets_of, handled_at, handled_in}
use Rattle.sg_table.specs.Parts.{datagram_of, popped, popped_at, handled_all, handed, is_taken, handled_first, first_handled, given_back, all_handed, HasOctets, IsLeft, AreLeft, TakesTurns}
use Rattle.sg_table.specs.Values.{Shape, shape_of, shapes_of, has_call_port}
use Rattle.sg_table.specs.declared.arrival.Arrival.{Arrival}

-- the ports of a call that has handled its datagrams
ports_left : (pairs : List Pair) (now port : ℕ) (later : List Arrived) (call : CallValue) (c : Call) → IsLeft pairs now later call c → has_call_port port call ≡ has_port port c
ports_left pairs now port later call c l =
    call_ports pairs port call (drained now c (own c later)) l.stands
    ∙ same_ports c (drained now c (own c later)) (drained_same now c (own c later)) port

first_of : (h : Handled) (hs : List Handled) (xs : List (ℕ × Handled)) → map (λ x. x.1) xs ≡ h ∷ hs → first_handled xs ≡ Some h
first_of h hs [] e = absurd cc
first_of h hs (x ∷ xs) e = let same : x.1 ≡ h = cc in ap (λ a. Some a) same

rest_of : (h : Handled) (hs : List Handled) (xs : List (ℕ × Handled)) → map (λ x. x.1) xs ≡ h ∷ hs → map (λ x. x.1) (drop 1 xs) ≡ hs
rest_of h hs [] e = absurd cc
rest_of h hs (x ∷ xs) e = let same : map (λ x. x.1) xs ≡ hs = cc in same

-- one is taken back
left_next : (pairs : List Pair) (now : ℕ) (a : Arrived) (later : List Arrived) (call : CallValue) (c : Call) → IsLeft pairs now (a ∷ later) call c → IsLeft pairs now later (popped_at a.port call) (turn now a c)
left_next pairs now a later call c l =
    subst (λ b. IsLeft pairs now later (cond b (popped call) call) (turn now a c)) (sym (ports_left pairs now a.port (a ∷ later) call c l)) (go (has_port a.port c) refl)
  where
    own_is : own (turn now a c) later ≡ own c later
    own_is = filter_agree (λ (b : Arrived). has_port b.port (turn now a c)) (λ b. has_port b.port c) (λ b. same_ports c (turn now a c) (turn_same now a c) b.port) later

    stands : CallStandsFor pairs call (drained now (turn now a c) (own (turn now a c) later))
    stands = subst (CallStandsFor pairs call) (sym (drain_one now a later c)) l.stands

    go : (b : Bool) → has_port a.port c ≡ b → IsLeft pairs now later (cond b (popped call) call) (turn now a c)
    go true is =
        let handled : map (λ x. x.1) call.handled ≡ handled_of a.octets.items (given_by now c a) ∷ handled_all now (after (given_by now c a) c) (own c later) =
        l.are_handled ∙ ap (λ b. handled_all now c (cond b (a ∷ own c later) (own c later))) is in
        record {
          stands = other_inbox pairs call (popped call) (drained now (turn now a c) (own (turn now a c) later)) stands refl;
          none_waits = l.none_waits;
          are_handled = rest_of _ _ call.handled handled ∙ (λ i. handled_all now (cond (sym is i) (after (given_by now c a) c) c) (sym own_is i));
        }
    go false is = record {
      stands = stands;
      none_waits = l.none_waits;
      are_handled = l.are_handled ∙ ap (λ b. handled_all now c (cond b (a ∷ own c later) (own c later))) is ∙ (λ i. handled_all now (cond (sym is i) (after (given_by now c a) c) c) (sym own_is i));
    }

-- what is taken back is what the datagram gives in the world
back_is : (pairs : List Pair) (now : ℕ) (a : Arrived) (later : List Arrived) (calls : List CallValue) (cs : List Call) → EachPair (IsLeft pairs now (a ∷ later)) calls cs → (came : Arrival) → came.pad ≡ Some a.octets.items
    → given_back (handed (is_taken a.port (shapes_of calls)) came) (handled_first a.port calls) ≡ with_handled came (handled_in now a.port a.from a.octets.items (find_call (has_port a.port) cs))
back_is pairs now a later [] [] h came pad = (λ i. record came { pad = pad i; end = Some (Dropped PortUnused) })
back_is pairs now a later (call ∷ calls) (c ∷ cs) h came pad = go (has_port a.port c) refl (ports_left pairs now a.port (a ∷ later) call c h.0) (back_is pairs now a later calls cs h.1 came pad)
  where
    go : (b : Bool) → has_port a.port c ≡ b → has_call_port a.port call ≡ has_port a.port c
        → given_back (handed (is_taken a.port (shapes_of calls)) came) (handled_first a.port calls) ≡ with_handled came (handled_in now a.port a.from a.octets.items (find_call (has_port a.port) cs))
        → given_back (handed (has_call_port a.port call || is_taken a.port (shapes_of calls)) came) (cond (has_call_port a.port call) (first_handled call.handled) (handled_first a.port calls))
        ≡ with_handled came (handled_in now a.port a.from a.octets.items (cond (has_port a.port c) (Some c) (find_call (has_port a.port) cs)))
    go true is e rest =
        let handled : map (λ x. x.1) call.handled ≡ handled_of a.octets.items (given_by now c a) ∷ handled_all now (after (given_by now c a) c) (own c later) =
        h.0.are_handled ∙ ap (λ b. handled_all now c (cond b (a ∷ own c later) (own c later))) is in
        (λ i. given_back (handed ((e ∙ is) i || is_taken a.port (shapes_of calls)) came) (cond ((e ∙ is) i) (first_handled call.handled) (handled_first a.port calls)))
        ∙ ap (given_back (handed true came)) (first_of _ _ call.handled handled)
        ∙ (λ i. with_handled came (handled_in now a.port a.from a.octets.items (cond (sym is i) (Some c) (find_call (has_port a.port) cs))))
    go false is e rest =
        (λ i. given_back (handed ((e ∙ is) i || is_taken a.port (shapes_of calls)) came) (cond ((e ∙ is) i) (first_handled call.handled) (handled_first a.port calls)))
        ∙ rest
        ∙ (λ i. with_handled came (handled_in now a.port a.from a.octets.items (cond (sym is i) (Some c) (find_call (has_port a.port) cs))))
back_is pairs now a later calls cs h came pad = absurd h

left_after : (w : World) (a : Arrived) (later : List Arrived) (calls : List CallValue) → TakesTurns w → AreLeft w.moment (a ∷ later) calls w → AreLeft w.moment later (map (popped_at a.port) calls) (given_in w a).world
left_after w a later calls turns h =
    subst (λ ps. EachPair (IsLeft ps w.moment later) (map (popped_at a.port) calls) (given_in w a).world.calls) (ap (λ (b : Books). b.pairs) (sym (same_books w a)))
    (subst (EachPair (IsLeft w.books.pairs w.moment later) (map (popped_at a.port) calls)) (sym (one_turn w a turns))
    (pairs_both (IsLeft w.books.pairs w.moment (a ∷ later)) (IsLeft w.books.pairs w.moment later) (popped_at a.port) (turn w.moment a) (left_next w.books.pairs w.moment a later) calls w.calls h))

some_is : (o : Option (List ℕ)) → IsSome o → o ≡ Some (octets_of o)
some_is None s = absurd (false≢true s)
some_is (Some x) s = refl

pub shapes_popped : (port : ℕ) (calls : List CallValue) → shapes_of (map (popped_at port) calls) ≡ shapes_of calls
shapes_popped port [] = refl
shapes_popped port (c ∷ cs) = (λ i. both (λ (d : CallValue). shape_of d ≡ shape_of c) (has_call_port port c) (popped c) c refl refl i ∷ shapes_popped port cs i)

-- what is gathered so far: those that came first are answered
pub record Gathers (w : World) (came : List Arrival) (shapes : List Shape) (k : ℕ) (left : List Arrival) (arrivals : List Arrival) (calls : List CallValue) : Type 0 where
  pub done : List Arrival
  pub world : World
  pub count : length done ≡ k
  pub moment_is : world.moment ≡ w.moment
  pub turns : TakesTurns world
  pub pads : AllByRecursion HasOctets left
  pub stand : AreLeft w.moment (map datagram_of left) calls world
  pub same : delivered world (map datagram_of left) ≡ delivered w (map datagram_of came)
  pub arrivals_are : arrivals ≡ done ++ all_handed shapes left
  pub are : done ++ answered world left ≡ answered w came

pub gathers_first : (w : World) (came : List Arrival) (shapes : List Shape) (arrivals : List Arrival) (calls : List CallValue) → TakesTurns w → AllByRecursion HasOctets came
    → AreLeft w.moment (map datagram_of came) calls w → arrivals ≡ all_handed shapes came → Gathers w came shapes 0 came arrivals calls
gathers_first w came shapes arrivals calls turns pads stand is = record { done = []; world = w; count = refl; moment_is = refl; turns = turns; pads = pads; stand = stand; same = refl; arrivals_are = is; are = refl }

pub gathers_next : (w : World) (came : List Arrival) (k : ℕ) (a : Arrival) (later left arrivals : List Arrival) (calls calls' : List CallValue) (d new : Arrival) (shapes : List Shape) → left ≡ a ∷ later → shapes_of calls ≡ shapes
    → calls' ≡ map (popped_at (get_or arrivals k d).port) calls → new ≡ given_back (get_or arrivals k d) (handled_first (get_or arrivals k d).port calls)
    → Gathers w came shapes k left arrivals calls → Gathers w came shapes (k + 1) later (set arrivals k new) calls'
gathers_next w came k a later left arrivals calls calls' d new shapes is of_calls popped_so new_so g =
    let e = datagram_of a in
    let stand_all : AreLeft g.world.moment (e ∷ map datagram_of later) calls g.world =
    subst (λ n. AreLeft n (e ∷ map datagram_of later) calls g.world) (sym g.moment_is) (subst (λ l. AreLeft w.moment (map datagram_of l) calls g.world) is g.stand) in
    let pads_all : HasOctets a × AllByRecursion HasOctets later = subst (AllByRecursion HasOctets) is g.pads in
    let arrivals_so : arrivals ≡ g.done ++ handed (is_taken a.port shapes) a ∷ all_handed shapes later = g.arrivals_are ∙ ap (λ l. g.done ++ all_handed shapes l) is in
    let this : get_or arrivals k d ≡ handed (is_taken a.port shapes) a =
    (λ i. get_or (arrivals_so i) (sym g.count i) d) ∙ get_or-append_seam g.done (handed (is_taken a.port shapes) a) (all_handed shapes later) d in
    let port : (get_or arrivals k d).port ≡ a.port = ap (λ (x : Arrival). x.port) this ∙ port_of (is_taken a.port shapes) in
    let new_is : new ≡ with_handled a (handled_at g.world a) =
    new_so ∙ (λ i. given_back (this i) (handled_first (port i) calls)) ∙ ap (λ s. given_back (handed (is_taken a.port s) a) (handled_first a.port calls)) (sym of_calls)
    ∙ back_is g.world.books.pairs g.world.moment e (map datagram_of later) calls g.world.calls stand_all a (some_is a.pad pads_all.0.0 ∙ ap (λ d. Some d) (sym pads_all.0.1))
    ∙ ap (λ d. with_handled a (handled_in g.world.moment a.port a.from d (call_at g.world a.port))) pads_all.0.1 in
    let next : World = (given_in g.world e).world in
    let moment : next.moment ≡ g.world.moment = same_moment g.world e in
    record {
      done = g.done ++ new ∷ [];
      world = next;
      count = length-append g.done (new ∷ []) ∙ ap (λ n. n + 1) g.count;
      moment_is = moment ∙ g.moment_is;
      turns = turns_on g.world e g.turns;
      pads = pads_all.1;
      stand = subst (λ cs. AreLeft w.moment (map datagram_of later) cs next) (sym (popped_so ∙ ap (λ p. map (popped_at p) calls) port))
          (subst (λ n. AreLeft n (map datagram_of later) (map (popped_at a.port) calls) next) g.moment_is (left_after g.world e (map datagram_of later) calls g.turns stand_all));
      same = ap (λ l. delivered g.world (map datagram_of l)) (sym is) ∙ g.same;
      arrivals_are = (λ i. set (arrivals_so i) (sym g.count i) new) ∙ set-append_seam g.done (handed (is_taken a.port shapes) a) (all_handed shapes later) new ∙ sym (append_assoc g.done (new ∷ []) (all_handed shapes later));
      are = append_assoc g.done (new ∷ []) (answered next later) ∙ ap (λ x. g.done ++ x ∷ answered next later) new_is ∙ ap (λ l. g.done ++ answered g.world l) (sym is) ∙ g.are;
    }
  where
    port_of : (b : Bool) → (handed b a).port ≡ a.port
    port_of true = refl
    port_of false = refl

-- the invariant of the loop over the arrivals, for every world
abbrev pub WillGather : List Arrival → List CallValue → ℕ → List Arrival → List CallValue → Type 0
WillGather handed0 calls0 k arrivals calls =
    (w : World) (came : List Arrival) → handed0 ≡ all_handed (shapes_of calls0) came → TakesTurns w → AllByRecursion HasOctets came → AreLeft w.moment (map datagram_of came) calls0 w
    → Gathers w came (shapes_of calls0) k (drop k came) arrivals calls

pub will_gather_first : (handed0 : List Arrival) (calls0 : List CallValue) → WillGather handed0 calls0 0 handed0 calls0
will_gather_first handed0 calls0 w came is turns pads stand = gathers_first w came (shapes_of calls0) handed0 calls0 turns pads stand is

pub will_gather_next : (handed0 : List Arrival) (calls0 : List CallValue) (k : ℕ) (arrivals : List Arrival) (calls calls' : List CallValue) (d new : Arrival) → k < length handed0 → shapes_of calls ≡ shapes_of calls0
    → calls' ≡ map (popped_at (get_or arrivals k d).port) calls → new ≡ given_back (get_or arrivals k d) (handled_first (get_or arrivals k d).port calls)
    → WillGather handed0 calls0 k arrivals calls → WillGather handed0 calls0 (k + 1) (set arrivals k new) calls'
will_gather_next handed0 calls0 k arrivals calls calls' d new lt shapes popped_so new_so will w came is turns pads stand =
    let within : k < length came = subst (λ n. k < n) (ap length is ∙ length-map came (λ (a : Arrival). handed (is_taken a.port (shapes_of calls0)) a)) lt in
    gathers_next w came k (get_or came k d) (drop (k + 1) came) (drop k came) arrivals calls calls' d new (shapes_of calls0) (drop_more came k d within) shapes popped_so new_so (will w came is turns pads stand)
