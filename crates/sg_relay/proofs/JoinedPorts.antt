-- Where calls are joined, what is asked of a link is what the table's outcomes ask for, with some sends left out: so the ports are
-- those of the calls all the same.
use Rattle.std.proofs.Common.{◌≡◌, inl, inr, ℕ, false, List, [], ◌∷◌, ◌++◌, map, Option, Some, None, Result, Ok, Err, refl, sym, ap, ◌∙◌, subst, append-nil, flat_map, option_to_list}
use Rattle.sg_gateway.specs.PlainOf.{plain_at}
use Rattle.sg_pairs.specs.Onward.{onward}
use Rattle.sg_pairs.specs.declared.faults.JoinFault.{JoinFault}
use Rattle.sg_pairs.specs.declared.members.Pair.{Pair}
use Rattle.sg_pairs.specs.declared.outcomes.BridgeOutcome.TheVariants as tells
use Rattle.sg_relay.specs.Plain as plain
use Rattle.sg_relay.proofs.Common.{Address, Ask, BridgeOutcome, Bridging, CallId, Datagram, Dropped, Ended, Event, Happens, Joining, Joins, Live, Made}
use Rattle.sg_relay.proofs.Common.{Members, Out, Outcome, Parting, Parts, PortsAreOfCalls, Said, Signalled, World, act_of_bridge, acts, acts_of_all}
use Rattle.sg_relay.proofs.Common.{after_outcome, arrived, asks_of, bridging, bridgings_from, empty, handed_on, inner, inner_told, joined, joined_pair}
use Rattle.sg_relay.proofs.Common.{joining, member_at, no_members, opened, outcomes_from, outcomes_from-append, parted_from, parting, passed, step}
use Rattle.sg_relay.proofs.Common.{told_and_parted, vacated, world, world_after}
use Rattle.sg_relay.proofs.Asks.{asked_by, asks_of_acts}
use Rattle.sg_relay.proofs.Deeds.{flat_append}
use Rattle.sg_relay.proofs.Leaving.{LeavesOutSends, leaves_more, leaves_none, ports_left}

-- ---- what a bridge tells

abbrev asked_for : BridgeOutcome → List Ask
asked_for o = asks_of (act_of_bridge o)

asks_for_all : (told : List BridgeOutcome) → flat_map asks_of (acts_of_all told) ≡ flat_map asked_for told
asks_for_all [] = refl
asks_for_all (o ∷ told) = ap (λ (l : List Ask). asked_for o ++ l) (asks_for_all told)

table_asks : (os : List Outcome) → flat_map asked_for (map tells.Table os) ≡ flat_map asked_by os
table_asks [] = refl
table_asks (o ∷ os) = ap (λ (l : List Ask). asked_by o ++ l) (table_asks os)

inner_asked : (o : Outcome) → asked_for (inner_told o) ≡ asked_by o
inner_asked (Dropped port cause) = refl
inner_asked other = refl

inner_asks : (os : List Outcome) → flat_map asked_for (map inner_told os) ≡ flat_map asked_by os
inner_asks [] = refl
inner_asks (o ∷ os) = (λ i. inner_asked o i ++ inner_asks os i)

parted_asks : (slot : ℕ) (calls : Members) (p : Option Pair) → flat_map asked_for (option_to_list (vacated slot calls p).parted) ≡ []
parted_asks slot calls None = refl
parted_asks slot calls (Some p) = refl

noted_asks : (calls : Members) (o : Outcome) → flat_map asked_for (option_to_list (after_outcome calls o).parted) ≡ []
noted_asks calls (Made id slot media) = refl
noted_asks calls (Live id) = refl
noted_asks calls (Ended id slot media why) = parted_asks slot calls (joined_pair (member_at calls slot))
noted_asks calls other = refl

-- those of a signal's outcomes, each with the pair that it parts
signal_asks : (calls : Members) (os : List Outcome) → flat_map asked_for (told_and_parted calls os).told ≡ flat_map asked_by os
signal_asks calls [] = refl
signal_asks calls (o ∷ os) =
    let after = after_outcome calls o in
    ap (λ (l : List Ask). asked_by o ++ l)
    (flat_append asked_for (option_to_list after.parted) (told_and_parted after.calls os).told
    ∙ (λ i. noted_asks calls o i ++ signal_asks after.calls os i))

-- ---- one thing that is said

-- from a world on: the world behind its events, and that of what they ask for some sends are left out
pub record Asks (w : World) (b : Bridging) : Type 0 where
  pub world : b.world ≡ world_after w b.events
  pub left : LeavesOutSends (flat_map asked_by (outcomes_from w b.events)) (flat_map asked_for b.told)

module _ (w : World) (calls : Members) (e : Event) where
  one_asks : (os : List Outcome) (xs : List Ask) → (step w e).outcomes ≡ os → LeavesOutSends (flat_map asked_by (os ++ [])) xs → LeavesOutSends (flat_map asked_by (outcomes_from w (e ∷ []))) xs
  one_asks os xs was left = subst (λ (l : List Outcome). LeavesOutSends (flat_map asked_by (l ++ [])) xs) (sym was) left

  handed_asks : (p q : ℕ) (to : Address) (x : List ℕ) → (step w e).outcomes ≡ Out p to x ∷ [] → (o : Option Address) → Asks w (handed_on w calls e (step w e).world q x o)
  handed_asks p q to x was None = record { world = refl; left = one_asks (Out p to x ∷ []) [] was (inl refl) }
  handed_asks p q to x was (Some from) =
      let after : World = (step w e).world in
      let os : List Outcome = (step after (inner q from x)).outcomes in record {
        world = refl;
        left = subst (λ (l : List Outcome). LeavesOutSends (flat_map asked_by (l ++ (os ++ []))) (flat_map asked_for (map inner_told os))) (sym was)
            (inl (subst (LeavesOutSends (flat_map asked_by (os ++ []))) (ap (flat_map asked_by) (append-nil os) ∙ sym (inner_asks os)) (leaves_none (flat_map asked_by (os ++ [])))));
      }

  opened_asks : (p : ℕ) (to : Address) (x : List ℕ) → (step w e).outcomes ≡ Out p to x ∷ [] → (o : Option ℕ) → Asks w (opened w calls e (step w e).world p to x o)
  opened_asks p to x was None = record { world = refl; left = one_asks (Out p to x ∷ []) _ was (inr ([], refl, refl)) }
  opened_asks p to x was (Some q) = handed_asks p q to x was (plain_at (step w e).world q)

  all_told : (os : List Outcome) → (step w e).outcomes ≡ os → LeavesOutSends (flat_map asked_by (outcomes_from w (e ∷ []))) (flat_map asked_for (map tells.Table os))
  all_told os was = one_asks os _ was (subst (LeavesOutSends (flat_map asked_by (os ++ []))) (ap (flat_map asked_by) (append-nil os) ∙ sym (table_asks os)) (leaves_none (flat_map asked_by (os ++ []))))

  passed_asks : (os : List Outcome) → (step w e).outcomes ≡ os → Asks w (passed w calls e (step w e).world os)
  passed_asks (Out p to x ∷ []) was = opened_asks p to x was (onward calls p)
  passed_asks other was = record { world = refl; left = all_told other was }

arrived_asks : (w : World) (calls : Members) (port : ℕ) (from : Address) (d : _) (o : Option ℕ) → Asks w (arrived w calls port (Datagram port from d) (step w (Datagram port from d)) o)
arrived_asks w calls port from d None = passed_asks w calls (Datagram port from d) (step w (Datagram port from d)).outcomes refl
arrived_asks w calls port from d (Some q) = record { world = refl; left = refl }

joining_asks : (w : World) (calls : Members) (first second : CallId) (j : Joining) → Asks w (joining w calls first second j)
joining_asks w calls first second (Ok others) = record { world = refl; left = refl }
joining_asks w calls first second (Err (call, cause)) = record { world = refl; left = refl }

parting_asks : (w : World) (calls : Members) (call : CallId) (r : Result Parting JoinFault) → Asks w (parting w calls call r)
parting_asks w calls call (Ok p) = record { world = refl; left = refl }
parting_asks w calls call (Err cause) = record { world = refl; left = refl }

said_asks : (w : World) (calls : Members) (s : Said) → Asks w (bridging w calls s)
said_asks w calls (Happens (Signalled signal)) =
    let os : List Outcome = (step w (Signalled signal)).outcomes in record {
      world = refl;
      left = subst (LeavesOutSends (flat_map asked_by (os ++ []))) (ap (flat_map asked_by) (append-nil os) ∙ sym (signal_asks calls os)) (leaves_none (flat_map asked_by (os ++ [])));
    }
said_asks w calls (Happens (Datagram port from d)) = arrived_asks w calls port from d (onward calls port)
said_asks w calls (Joins first second) = joining_asks w calls first second (joined first second calls)
said_asks w calls (Parts call) = parting_asks w calls call (parted_from call calls)

-- ---- all that is said

abbrev events_in : List Bridging → List Event
events_in bs = flat_map (λ b. b.events) bs

abbrev told_in : List Bridging → List BridgeOutcome
told_in bs = flat_map (λ b. b.told) bs

all_asks : (w : World) (calls : Members) (said : List Said) → LeavesOutSends (flat_map asked_by (outcomes_from w (events_in (bridgings_from w calls said)))) (flat_map asked_for (told_in (bridgings_from w calls said)))
all_asks w calls [] = refl
all_asks w calls (s ∷ ss) =
    let b : Bridging = bridging w calls s in
    let bs : List Bridging = bridgings_from b.world b.calls ss in
    let one = said_asks w calls s in
    let more : LeavesOutSends (flat_map asked_by (outcomes_from (world_after w b.events) (events_in bs))) (flat_map asked_for (told_in bs)) =
    subst (λ (v : World). LeavesOutSends (flat_map asked_by (outcomes_from v (events_in bs))) (flat_map asked_for (told_in bs))) one.world (all_asks b.world b.calls ss) in
    subst (λ (l : List Ask). LeavesOutSends l (flat_map asked_for (b.told ++ told_in bs)))
    (sym (ap (flat_map asked_by) (outcomes_from-append w b.events (events_in bs)) ∙ flat_append asked_by (outcomes_from w b.events) (outcomes_from (world_after w b.events) (events_in bs))))
    (subst (LeavesOutSends (flat_map asked_by (outcomes_from w b.events) ++ flat_map asked_by (outcomes_from (world_after w b.events) (events_in bs)))) (sym (flat_append asked_for b.told (told_in bs)))
    (leaves_more (flat_map asked_by (outcomes_from w b.events)) (flat_map asked_for b.told) _ _ one.left more))

-- where the ports of plain calls are those of the calls, so are those of calls that are joined
pub ports_of_joined : ((events : List Event) → PortsAreOfCalls (plain.acts false events) (plain.world false events)) → (said : List Said) → PortsAreOfCalls (acts said) (world said)
ports_of_joined law said =
    let bs : List Bridging = bridgings_from empty no_members said in
    ports_left (plain.acts false (events_in bs)) (acts said) (world said)
    (subst (λ (l : List Ask). LeavesOutSends l (flat_map asks_of (acts said))) (sym (asks_of_acts (outcomes_from empty (events_in bs))))
    (subst (LeavesOutSends (flat_map asked_by (outcomes_from empty (events_in bs)))) (sym (asks_for_all (told_in bs))) (all_asks empty no_members said)))
    (law (events_in bs))
