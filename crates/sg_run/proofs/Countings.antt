-- The numbers of a demonstration count what its gateway tells.
use Rattle.std.proofs.Common.{◌≡◌, ◌⊎◌, inl, inr, ℕ, zero, suc, ◌+◌, ◌-◌, ◌%◌, ◌≤◌, Bool, true, false, cond, eqb, List, [], ◌∷◌, ◌++◌, map, fold, Option, Some, None, Result, Ok, Err, refl, sym, ap, ◌∙◌, subst, arith}
use Rattle.std.proofs.lemmas.List.Sums.{sum_by-append, sum_by-cons}
use Rattle.sg_session.specs.Opening.{opens}
use Rattle.std.specs.Prelude.{is_ok, is_some, length, option_to_list, slice_get}
use Rattle.std.specs.List.{AllByRecursion, count_by, flat_map, sum_by}
use Rattle.sg_agreement.specs.Manual.{ManualCall, manual_medium}
use Rattle.sg_base.specs.Keys.{Master}
use Rattle.sg_base.specs.declared.addresses.Address.{Address}
use Rattle.sg_base.specs.declared.addresses.CallId.{CallId}
use Rattle.sg_base.specs.declared.faults.DropCause.{DropCause}
use Rattle.sg_base.specs.declared.faults.DropCause.TheVariants as cause
use Rattle.sg_base.specs.declared.faults.Refusal.{Refusal}
use Rattle.sg_base.specs.declared.faults.Refusal.TheVariants.{CallKnown, TableFull}
use Rattle.sg_demo.specs.Actions.{action_of}
use Rattle.sg_demo.specs.Callers.{Caller, after_sealing, next_datagram}
use Rattle.sg_demo.specs.Counting.{Count, counted, none_counted, peers_counted, plain_counted, sealed_counted, dropped_for, checked_by, counted_of}
use Rattle.sg_demo.specs.Demonstration.{Demo, called_by, calls_made, demo_of, demonstration, events_shown, manual_call, slot_told, with_call, with_caller, with_keys, with_round, with_rounds, world_of}
use Rattle.sg_demo.specs.Packets.{with_last_bit_changed}
use Rattle.sg_demo.specs.Words.{key_drawn, next_word}
use Rattle.sg_demo.specs.Turns.{Arriving, Turns, address_of, event_of, from_peer, origin_of, turn_of as demo_turn, turns_of, with_turn}
use Rattle.sg_demo.specs.declared.action.Action.{Action}
use Rattle.sg_demo.specs.declared.action.Action.TheVariants as action
use Rattle.sg_demo.specs.declared.origin.Origin.{Origin}
use Rattle.sg_demo.specs.declared.origin.Origin.TheVariants as origin
use Rattle.sg_demo.specs.declared.summary.Summary.{Summary}
use Rattle.sg_gateway.specs.CallSignals.{keyed_manually}
use Rattle.sg_gateway.specs.Datagrams.{Given, Drops, Puts, arrived_at, arrived_in, given_to}
use Rattle.sg_gateway.specs.Events.{outcomes_from}
use Rattle.sg_gateway.specs.Generations.{Settled}
use Rattle.sg_gateway.specs.Octets.{as_octets}
use Rattle.sg_gateway.specs.Ports.{call_at, port_at}
use Rattle.sg_gateway.specs.Runs.{Turn, turn_of, turns, turns_from, world_after}
use Rattle.sg_gateway.specs.Signals.{in_new, new_call, manual_answer, refused, tells_live}
use Rattle.sg_gateway.specs.Signals as signals
use Rattle.sg_gateway.specs.Step.{Event, Datagram, Signalled, step}
use Rattle.sg_gateway.specs.World.{Call, World, call_of, empty, is_full}
use Rattle.sg_outcome.specs.declared.outcomes.Outcome.{Outcome}
use Rattle.sg_outcome.specs.declared.outcomes.Outcome.TheVariants.{Made, Live, Refused, Out, Dropped}
use Rattle.rand_pcg.specs.Lcg.{Lcg}
use Rattle.sg_run.specs.Counted.{CountsWhatIsTold, comes_to, comes_to_plain, comes_to_secure, is_bad_tag, is_made, is_manual, is_out, is_repeat}

-- ---- counts of a run are sums over its turns

-- such outcomes of a turn, where its event is such
abbrev of_turn : (Event → Bool) → (Outcome → Bool) → Turn → ℕ
of_turn is_such is_one t = count_by is_one (cond (is_such t.event) t.outcomes [])

abbrev bit : Bool → ℕ
bit b = cond b 1 0

abbrev any : Event → Bool
any e = true

counted_flat : {X Y : Type 0} (p : Y → Bool) (f : X → List Y) (xs : List X) → count_by p (flat_map f xs) ≡ sum_by (λ x. count_by p (f x)) xs
counted_flat {X} {Y} p f [] = refl
counted_flat {X} {Y} p f (x ∷ xs) =
    sum_by-append (λ (y : Y). cond (p y) 1 0) (f x) (flat_map f xs) ∙ ap (λ (n : ℕ). count_by p (f x) + n) (counted_flat p f xs) ∙ sym (sum_by-cons (λ (y : X). count_by p (f y)) x xs)

-- each turn is that of its event
counted_events : (p : Event → Bool) (w : World) (es : List Event) → count_by p es ≡ sum_by (λ t. bit (p t.event)) (turns_from w es)
counted_events p w [] = refl
counted_events p w (e ∷ es) =
    sum_by-cons (λ (x : Event). cond (p x) 1 0) e es ∙ ap (λ (n : ℕ). bit (p e) + n) (counted_events p (step w e).world es)
    ∙ sym (sum_by-cons (λ (t : Turn). bit (p t.event)) (turn_of w e) (turns_from (step w e).world es))

turns_more : (w : World) (es fs : List Event) → turns_from w (es ++ fs) ≡ turns_from w es ++ turns_from (world_after w es) fs
turns_more w [] fs = refl
turns_more w (e ∷ es) fs = ap (λ (l : List Turn). turn_of w e ∷ l) (turns_more (step w e).world es fs)

-- ---- numbers

same_plus : (a : ℕ) → a ≡ a + 0
same_plus a = omega arith

zero_plus : (n : ℕ) → 0 + n ≡ n
zero_plus n = omega arith

plus_zero : (n : ℕ) → n + 0 ≡ n
plus_zero n = omega arith

plus_one : (n : ℕ) → n + 1 ≡ suc n
plus_one n = omega arith

zero_most : (n : ℕ) → 0 ≤ n
zero_most n = omega arith

both_more : (a b : ℕ) → a ≤ b → a + 1 ≤ b + 1
both_more a b most = omega (arith, most)

one_more : (a b : ℕ) → a ≤ b → a ≤ b + 1
one_more a b most = omega (arith, most)

plus : (a b c x y : ℕ) → b ≡ a + x → c ≡ b + y → c ≡ a + (x + y)
plus a b c x y one two = omega (arith, one, two)

module _ (a o r b x : ℕ) (is : a ≡ o + r + b + x) where
  more_out : a + 1 ≡ o + 1 + r + b + x
  more_out = omega (arith, is)

  more_repeat : a + 1 ≡ o + (r + 1) + b + x
  more_repeat = omega (arith, is)

  more_tag : a + 1 ≡ o + r + (b + 1) + x
  more_tag = omega (arith, is)

  more_other : a + 1 ≡ o + r + b + (x + 1)
  more_other = omega (arith, is)

-- ---- turns add to the numbers

abbrev came_secure : Turn → ℕ
came_secure t = bit (comes_to_secure t.event)

abbrev all_of : Summary → ℕ
all_of s = s.out + s.repeat + s.badtag + s.other

record Adds (ts : List Turn) (s s' : Summary) : Type 0 where
  made : s'.calls ≡ s.calls + sum_by (of_turn any is_made) ts
  arrived : s'.arrived ≡ s.arrived + sum_by came_secure ts
  out : s'.out ≡ s.out + sum_by (of_turn comes_to_secure is_out) ts
  repeat : s'.repeat ≡ s.repeat + sum_by (of_turn comes_to_secure is_repeat) ts
  bad_tag : s'.badtag ≡ s.badtag + sum_by (of_turn comes_to_secure is_bad_tag) ts
  sent : s'.sent ≡ s.sent + sum_by (of_turn comes_to_plain is_out) ts
  other : s.arrived ≡ all_of s → s'.arrived ≡ all_of s'
  opened : s.opened ≤ s.sent → s'.opened ≤ s'.sent

-- what one turn adds
record AddsOne (t : Turn) (s s' : Summary) : Type 0 where
  made : s'.calls ≡ s.calls + of_turn any is_made t
  arrived : s'.arrived ≡ s.arrived + bit (comes_to_secure t.event)
  out : s'.out ≡ s.out + of_turn comes_to_secure is_out t
  repeat : s'.repeat ≡ s.repeat + of_turn comes_to_secure is_repeat t
  bad_tag : s'.badtag ≡ s.badtag + of_turn comes_to_secure is_bad_tag t
  sent : s'.sent ≡ s.sent + of_turn comes_to_plain is_out t
  other : s.arrived ≡ all_of s → s'.arrived ≡ all_of s'
  opened : s.opened ≤ s.sent → s'.opened ≤ s'.sent

adds_none : (s : Summary) → Adds [] s s
adds_none s = record {
  made = same_plus s.calls;
  arrived = same_plus s.arrived;
  out = same_plus s.out;
  repeat = same_plus s.repeat;
  bad_tag = same_plus s.badtag;
  sent = same_plus s.sent;
  other = λ is. is;
  opened = λ most. most;
}

adds_next : (t : Turn) (ts : List Turn) (s s' s'' : Summary) → AddsOne t s s' → Adds ts s' s'' → Adds (t ∷ ts) s s''
adds_next t ts s s' s'' one more = record {
  made = plus _ _ _ _ _ one.made more.made ∙ ap (λ (n : ℕ). s.calls + n) (sym (sum_by-cons (of_turn any is_made) t ts));
  arrived = plus _ _ _ _ _ one.arrived more.arrived ∙ ap (λ (n : ℕ). s.arrived + n) (sym (sum_by-cons came_secure t ts));
  out = plus _ _ _ _ _ one.out more.out ∙ ap (λ (n : ℕ). s.out + n) (sym (sum_by-cons (of_turn comes_to_secure is_out) t ts));
  repeat = plus _ _ _ _ _ one.repeat more.repeat ∙ ap (λ (n : ℕ). s.repeat + n) (sym (sum_by-cons (of_turn comes_to_secure is_repeat) t ts));
  bad_tag = plus _ _ _ _ _ one.bad_tag more.bad_tag ∙ ap (λ (n : ℕ). s.badtag + n) (sym (sum_by-cons (of_turn comes_to_secure is_bad_tag) t ts));
  sent = plus _ _ _ _ _ one.sent more.sent ∙ ap (λ (n : ℕ). s.sent + n) (sym (sum_by-cons (of_turn comes_to_plain is_out) t ts));
  other = λ is. more.other (one.other is);
  opened = λ most. more.opened (one.opened most);
}

adds_more : (ts us : List Turn) (s s' s'' : Summary) → Adds ts s s' → Adds us s' s'' → Adds (ts ++ us) s s''
adds_more ts us s s' s'' first more = record {
  made = plus _ _ _ _ _ first.made more.made ∙ ap (λ (n : ℕ). s.calls + n) (sym (sum_by-append (of_turn any is_made) ts us));
  arrived = plus _ _ _ _ _ first.arrived more.arrived ∙ ap (λ (n : ℕ). s.arrived + n) (sym (sum_by-append came_secure ts us));
  out = plus _ _ _ _ _ first.out more.out ∙ ap (λ (n : ℕ). s.out + n) (sym (sum_by-append (of_turn comes_to_secure is_out) ts us));
  repeat = plus _ _ _ _ _ first.repeat more.repeat ∙ ap (λ (n : ℕ). s.repeat + n) (sym (sum_by-append (of_turn comes_to_secure is_repeat) ts us));
  bad_tag = plus _ _ _ _ _ first.bad_tag more.bad_tag ∙ ap (λ (n : ℕ). s.badtag + n) (sym (sum_by-append (of_turn comes_to_secure is_bad_tag) ts us));
  sent = plus _ _ _ _ _ first.sent more.sent ∙ ap (λ (n : ℕ). s.sent + n) (sym (sum_by-append (of_turn comes_to_plain is_out) ts us));
  other = λ is. more.other (first.other is);
  opened = λ most. more.opened (first.opened most);
}

-- ---- what one outcome of a datagram adds

-- at a secure port, and at a plain one
record AddsAtSecure (o : Outcome) (s s' : Summary) : Type 0 where
  made : s'.calls ≡ s.calls + 0
  arrived : s'.arrived ≡ s.arrived + 1
  out : s'.out ≡ s.out + bit (is_out o)
  repeat : s'.repeat ≡ s.repeat + bit (is_repeat o)
  bad_tag : s'.badtag ≡ s.badtag + bit (is_bad_tag o)
  sent : s'.sent ≡ s.sent + 0
  other : s.arrived ≡ all_of s → s'.arrived ≡ all_of s'
  opened : s.opened ≤ s.sent → s'.opened ≤ s'.sent

record AddsAtPlain (o : Outcome) (s s' : Summary) : Type 0 where
  made : s'.calls ≡ s.calls + 0
  arrived : s'.arrived ≡ s.arrived + 0
  out : s'.out ≡ s.out + 0
  repeat : s'.repeat ≡ s.repeat + 0
  bad_tag : s'.badtag ≡ s.badtag + 0
  sent : s'.sent ≡ s.sent + bit (is_out o)
  other : s.arrived ≡ all_of s → s'.arrived ≡ all_of s'
  opened : s.opened ≤ s.sent → s'.opened ≤ s'.sent

drop_adds : (port : ℕ) (why : DropCause) (s : Summary) → AddsAtSecure (Dropped port why) s (dropped_for why s)
drop_adds port cause.Repeat s = record { made = same_plus s.calls; arrived = refl; out = same_plus s.out; repeat = refl; bad_tag = same_plus s.badtag; sent = same_plus s.sent; other = λ is. more_repeat s.arrived s.out s.repeat s.badtag s.other is; opened = λ most. most }
drop_adds port cause.BadTag s = record { made = same_plus s.calls; arrived = refl; out = same_plus s.out; repeat = same_plus s.repeat; bad_tag = refl; sent = same_plus s.sent; other = λ is. more_tag s.arrived s.out s.repeat s.badtag s.other is; opened = λ most. most }
drop_adds port other s = record { made = same_plus s.calls; arrived = refl; out = same_plus s.out; repeat = same_plus s.repeat; bad_tag = same_plus s.badtag; sent = same_plus s.sent; other = λ is. more_other s.arrived s.out s.repeat s.badtag s.other is; opened = λ most. most }

peers_add : (o : Outcome) (s : Summary) → AddsAtSecure o s (peers_counted o s)
peers_add (Out port to octets) s = record { made = same_plus s.calls; arrived = refl; out = refl; repeat = same_plus s.repeat; bad_tag = same_plus s.badtag; sent = same_plus s.sent; other = λ is. more_out s.arrived s.out s.repeat s.badtag s.other is; opened = λ most. most }
peers_add (Dropped port why) s = drop_adds port why s
peers_add other s = record { made = same_plus s.calls; arrived = refl; out = same_plus s.out; repeat = same_plus s.repeat; bad_tag = same_plus s.badtag; sent = same_plus s.sent; other = λ is. more_other s.arrived s.out s.repeat s.badtag s.other is; opened = λ most. most }

sealed_adds : (port : ℕ) (to : Address) (octets : List ℕ) (b : Bool) (s : Summary) → AddsAtPlain (Out port to octets) s (sealed_counted b s)
sealed_adds port to octets true s = record { made = same_plus s.calls; arrived = same_plus s.arrived; out = same_plus s.out; repeat = same_plus s.repeat; bad_tag = same_plus s.badtag; sent = refl; other = λ is. is; opened = both_more s.opened s.sent }
sealed_adds port to octets false s = record { made = same_plus s.calls; arrived = same_plus s.arrived; out = same_plus s.out; repeat = same_plus s.repeat; bad_tag = same_plus s.badtag; sent = refl; other = λ is. is; opened = one_more s.opened s.sent }

checked_adds : (port : ℕ) (to : Address) (octets : List ℕ) (c : Option Caller) (position : ℕ) (k : Count) → AddsAtPlain (Out port to octets) k.summary (checked_by c position octets k).summary
checked_adds port to octets None position k = sealed_adds port to octets false k.summary
checked_adds port to octets (Some c) position k = sealed_adds port to octets (is_ok (opens c.opening octets)) k.summary

nothing_adds : (o : Outcome) (s : Summary) → is_out o ≡ false → AddsAtPlain o s s
nothing_adds o s none = record { made = same_plus s.calls; arrived = same_plus s.arrived; out = same_plus s.out; repeat = same_plus s.repeat; bad_tag = same_plus s.badtag; sent = same_plus s.sent ∙ ap (λ (b : Bool). s.sent + bit b) (sym none); other = λ is. is; opened = λ most. most }

plain_adds : (position : ℕ) (o : Outcome) (k : Count) → AddsAtPlain o k.summary (plain_counted position o k).summary
plain_adds position (Out port to octets) k = checked_adds port to octets (slice_get k.callers position) position k
plain_adds position other k = nothing_adds other k.summary refl

-- ---- a datagram tells one outcome, and makes no call

abbrev TellsOne : List Outcome → Type 0
TellsOne os = (o : Outcome) × (os ≡ o ∷ []) × (is_made o ≡ false)

given_tells : (w : World) (port : ℕ) (g : Given) → TellsOne (given_to w port g).outcomes
given_tells w port (Drops why) = (Dropped port why, refl, refl)
given_tells w port (Puts p) = (Out p.port p.to p.octets, refl, refl)

arrived_tells : (w : World) (port : ℕ) (from : Address) (d : List ℕ) (c : Option Call) → TellsOne (arrived_at w port from d c).outcomes
arrived_tells w port from d None = (Dropped port cause.PortUnused, refl, refl)
arrived_tells w port from d (Some c) = given_tells w port (arrived_in w.moment port from d c)

-- ---- arrivals come to their ports

abbrev leg_at : ℕ → ℕ
leg_at port = (port - 20000) % 4

abbrev PlacedBy : Origin → ℕ → Type 0
PlacedBy origin.Peer port = leg_at port ≡ 0
PlacedBy (origin.Plain position) port = leg_at port ≡ 2

abbrev IsPlaced : Arriving → Type 0
IsPlaced a = PlacedBy a.origin a.port

-- what an event adds of which this outcome is told
abbrev OneTurn : World → ℕ → Address → List ℕ → Turn
OneTurn w port from octets = turn_of w (Datagram port from (as_octets octets))

-- of a turn that tells this outcome alone, at a port of this leg
module _ (w : World) (port : ℕ) (from : Address) (octets : List ℕ) (o : Outcome) (leg : ℕ) (at : leg_at port ≡ leg) (told : (OneTurn w port from octets).outcomes ≡ o ∷ []) where
  abbrev turn_here : Turn
  turn_here = OneTurn w port from octets

  comes : (here : ℕ) → comes_to here turn_here.event ≡ eqb leg here
  comes here = ap (λ (l : ℕ). eqb l here) at

  counts : (here : ℕ) (p : Outcome → Bool) → of_turn (comes_to here) p turn_here ≡ cond (eqb leg here) (bit (p o)) 0
  counts here p = (λ i. count_by p (cond (comes here i) (told i) [])) ∙ go (eqb leg here)
    where
      go : (b : Bool) → count_by p (cond b (o ∷ []) []) ≡ cond b (bit (p o)) 0
      go true = zero_plus (bit (p o))
      go false = refl

  makes : is_made o ≡ false → of_turn any is_made turn_here ≡ 0
  makes none = ap (count_by is_made) told ∙ (λ i. 0 + cond (none i) 1 0)

one_adds : (w : World) (a : Arriving) (k : Count) (o : Outcome) → IsPlaced a → (OneTurn w a.port (address_of a.origin) a.octets).outcomes ≡ o ∷ [] → is_made o ≡ false
    → AddsOne (OneTurn w a.port (address_of a.origin) a.octets) k.summary (counted_of a.origin o k).summary
one_adds w a k o placed told none = go a.origin placed told
  where
    go : (from : Origin) → PlacedBy from a.port → (OneTurn w a.port (address_of from) a.octets).outcomes ≡ o ∷ []
        → AddsOne (OneTurn w a.port (address_of from) a.octets) k.summary (counted_of from o k).summary
    go origin.Peer at told =
        let adds = peers_add o k.summary in
        let here = counts w a.port (address_of origin.Peer) a.octets o 0 at told in record {
          made = adds.made ∙ ap (λ (n : ℕ). k.summary.calls + n) (sym (makes w a.port (address_of origin.Peer) a.octets o 0 at told none));
          arrived = adds.arrived ∙ ap (λ (b : Bool). k.summary.arrived + bit b) (sym (comes w a.port (address_of origin.Peer) a.octets o 0 at told 0));
          out = adds.out ∙ ap (λ (n : ℕ). k.summary.out + n) (sym (here 0 is_out));
          repeat = adds.repeat ∙ ap (λ (n : ℕ). k.summary.repeat + n) (sym (here 0 is_repeat));
          bad_tag = adds.bad_tag ∙ ap (λ (n : ℕ). k.summary.badtag + n) (sym (here 0 is_bad_tag));
          sent = adds.sent ∙ ap (λ (n : ℕ). k.summary.sent + n) (sym (here 2 is_out));
          other = adds.other;
          opened = adds.opened;
        }
    go (origin.Plain position) at told =
        let adds = plain_adds position o k in
        let from : Address = address_of (origin.Plain position) in
        let here = counts w a.port from a.octets o 2 at told in record {
          made = adds.made ∙ ap (λ (n : ℕ). k.summary.calls + n) (sym (makes w a.port from a.octets o 2 at told none));
          arrived = adds.arrived ∙ ap (λ (b : Bool). k.summary.arrived + bit b) (sym (comes w a.port from a.octets o 2 at told 0));
          out = adds.out ∙ ap (λ (n : ℕ). k.summary.out + n) (sym (here 0 is_out));
          repeat = adds.repeat ∙ ap (λ (n : ℕ). k.summary.repeat + n) (sym (here 0 is_repeat));
          bad_tag = adds.bad_tag ∙ ap (λ (n : ℕ). k.summary.badtag + n) (sym (here 0 is_bad_tag));
          sent = adds.sent ∙ ap (λ (n : ℕ). k.summary.sent + n) (sym (here 2 is_out));
          other = adds.other;
          opened = adds.opened;
        }

arrivals_add : (w : World) (came : List Arriving) (k : Count) → AllByRecursion IsPlaced came
    → Adds (turns_from w (map event_of came)) k.summary (counted (map origin_of came) (outcomes_from w (map event_of came)) k).summary
arrivals_add w [] k placed = adds_none k.summary
arrivals_add w (a ∷ came) k placed =
    let e : Event = event_of a in
    let w' : World = (step w e).world in
    let tells = arrived_tells w a.port (address_of a.origin) (as_octets a.octets).items (call_at w a.port) in
    let o : Outcome = tells.0 in
    let k' : Count = counted_of a.origin o k in
    let more : Adds (turns_from w' (map event_of came)) k'.summary (counted (map origin_of came) (outcomes_from w' (map event_of came)) k').summary = arrivals_add w' came k' placed.1 in
    subst (λ (os : List Outcome). Adds (turns_from w (map event_of (a ∷ came))) k.summary (counted (map origin_of (a ∷ came)) (os ++ outcomes_from w' (map event_of came)) k).summary) (sym tells.1)
    (adds_next (turn_of w e) (turns_from w' (map event_of came)) k.summary k'.summary _ (one_adds w a k o placed.0 tells.1 tells.2) more)

-- ---- the rounds

all_more : {X : Type 0} (P : X → Type 0) (xs ys : List X) → AllByRecursion P xs → AllByRecursion P ys → AllByRecursion P (xs ++ ys)
all_more P [] ys first more = more
all_more P (x ∷ xs) ys first more = (first.0, all_more P xs ys first.1 more)

at_secure : (slot : ℕ) → leg_at (port_at slot 0 0) ≡ 0
at_secure slot = omega arith

at_plain : (slot : ℕ) → leg_at (port_at slot 0 2) ≡ 2
at_plain slot = omega arith

peers_placed : (c : Caller) (ds : List (List ℕ)) → AllByRecursion IsPlaced (from_peer c ds)
peers_placed c [] = tt
peers_placed c (d ∷ ds) = (at_secure c.slot, peers_placed c ds)

turn_placed : (does : Action) (position : ℕ) (c : Caller) → AllByRecursion IsPlaced (demo_turn does position c).arrivals
unfolding demo_turn
turn_placed action.Lose position c = tt
turn_placed action.Repeat position c = peers_placed c (option_to_list c.last)
turn_placed action.Swap position c = peers_placed c (next_datagram (after_sealing c) ++ next_datagram c)
turn_placed action.Answer position c = (at_plain c.slot, tt)
turn_placed action.Change position c = peers_placed c (map with_last_bit_changed (next_datagram c))
turn_placed action.Send position c = peers_placed c (next_datagram c)

turns_placed : (t : Turns) (cs : List Caller) → AllByRecursion IsPlaced t.arrivals → AllByRecursion IsPlaced (fold with_turn t cs).arrivals
turns_placed t [] placed = placed
turns_placed t (c ∷ cs) placed =
    let does : Action = action_of (next_word t.words).0 in
    let position : ℕ = length t.callers in
    turns_placed (with_turn t c) cs (all_more IsPlaced t.arrivals (demo_turn does position c).arrivals placed (turn_placed does position c))

-- ---- the demonstration so far

record IsCounted (n : ℕ) (d : Demo) : Type 0 where
  keyed : count_by is_manual d.events ≡ n
  adds : Adds (turns d.events) none_counted d.summary

none_keyed : (came : List Arriving) → count_by is_manual (map event_of came) ≡ 0
none_keyed [] = refl
none_keyed (a ∷ came) = sum_by-cons (λ (e : Event). cond (is_manual e) 1 0) (event_of a) (map event_of came) ∙ (λ i. 0 + none_keyed came i)

round_counted : (n : ℕ) (d : Demo) → IsCounted n d → IsCounted n (with_round d)
unfolding with_round
round_counted n d is =
    let t : Turns = turns_of d.words d.callers in
    let came : List Event = map event_of t.arrivals in
    let k : Count = record { callers = t.callers; summary = record d.summary { sealed = d.summary.sealed + t.sealed } } in
    let begun : Turns = record { words = d.words; callers = []; sealed = 0; arrivals = [] } in
    let more = arrivals_add (world_of d) t.arrivals k (turns_placed begun d.callers tt) in
    let keyed = sum_by-append (λ (e : Event). cond (is_manual e) 1 0) d.events came in
    let none = none_keyed t.arrivals in record {
      keyed = keyed ∙ (λ i. is.keyed i + none i) ∙ plus_zero n;
      adds = subst (λ (ts : List Turn). Adds ts none_counted (counted (map origin_of t.arrivals) (outcomes_from (world_of d) came) k).summary) (sym (turns_more empty d.events came))
          (adds_more (turns d.events) (turns_from (world_of d) came) none_counted d.summary _ is.adds
          (record { made = more.made; arrived = more.arrived; out = more.out; repeat = more.repeat; bad_tag = more.bad_tag; sent = more.sent; other = more.other; opened = more.opened }));
    }

rounds_counted : (rounds n : ℕ) (d : Demo) → IsCounted n d → IsCounted n (with_rounds rounds d)
unfolding with_rounds
rounds_counted zero n d is = is
rounds_counted (suc rounds) n d is = round_counted n _ (rounds_counted rounds n d is)

-- ---- the calls

abbrev MakesOrNot : List Outcome → Type 0
MakesOrNot os = ((id : Option CallId) × (why : Refusal) × (os ≡ Refused id why ∷ [])) ⊎ ((id : CallId) × (slot media : ℕ) × (os ≡ Made id slot media ∷ Live id ∷ []))

manual_by : (w : World) (h : ManualCall) (known full : Bool) (r : Result Settled Refusal)
    → MakesOrNot (cond known (refused w (Some h.id) CallKnown) (cond full (refused w (Some h.id) TableFull) (in_new w h.id (tells_live h.id) r))).outcomes
manual_by w h true full r = inl (Some h.id, CallKnown, refl)
manual_by w h false true r = inl (Some h.id, TableFull, refl)
manual_by w h false false (Err why) = inl (Some h.id, why, refl)
manual_by w h false false (Ok r) = inr (h.id, r.call.slot, r.call.media, refl)

manual_told : (w : World) (h : ManualCall) → MakesOrNot (manual_answer w h).outcomes
manual_told w h = manual_by w h (is_some (call_of w h.id)) (is_full w) (keyed_manually w.moment w.books (new_call w h.id) (manual_medium h))

abbrev ManualTurn : World → ManualCall → Turn
ManualTurn w h = turn_of w (Signalled (signals.Manual h))

-- what the turn of a call adds
call_adds : (w : World) (h : ManualCall) (number : ℕ) (from to : Master) (d : Demo) (os : List Outcome) → MakesOrNot os → (ManualTurn w h).outcomes ≡ os
    → AddsOne (ManualTurn w h) d.summary (with_caller (slot_told (os ++ [])) number from to d).summary
call_adds w h number from to d os (inl (id, why, is)) told =
    let none : of_turn any is_made (ManualTurn w h) ≡ 0 = ap (count_by is_made) (told ∙ is) in
    subst (λ (l : List Outcome). AddsOne (ManualTurn w h) d.summary (with_caller (slot_told (l ++ [])) number from to d).summary) (sym is)
    (record { made = same_plus d.summary.calls ∙ ap (λ (n : ℕ). d.summary.calls + n) (sym none); arrived = same_plus d.summary.arrived; out = same_plus d.summary.out; repeat = same_plus d.summary.repeat; bad_tag = same_plus d.summary.badtag; sent = same_plus d.summary.sent; other = λ is. is; opened = λ most. most })
call_adds w h number from to d os (inr (id, slot, media, is)) told =
    let one : of_turn any is_made (ManualTurn w h) ≡ 1 = ap (count_by is_made) (told ∙ is) in
    subst (λ (l : List Outcome). AddsOne (ManualTurn w h) d.summary (with_caller (slot_told (l ++ [])) number from to d).summary) (sym is)
    (record { made = ap (λ (n : ℕ). d.summary.calls + n) (sym one); arrived = same_plus d.summary.arrived; out = same_plus d.summary.out; repeat = same_plus d.summary.repeat; bad_tag = same_plus d.summary.badtag; sent = same_plus d.summary.sent; other = λ is. is; opened = λ most. most })

same_events : (slot : Option ℕ) (number : ℕ) (from to : Master) (d : Demo) → (with_caller slot number from to d).events ≡ d.events
same_events None number from to d = refl
same_events (Some slot) number from to d = refl

keys_counted : (n number : ℕ) (from to : Master) (words : Lcg) (d : Demo) → IsCounted n d → IsCounted (suc n) (with_keys number from to words d)
keys_counted n number from to words d is =
    let call : Event = called_by number from to in
    let w : World = world_of d in
    let h : ManualCall = manual_call number from to in
    let os : List Outcome = (step w call).outcomes in
    let d' : Demo = record d { words = words; events = d.events ++ call ∷ [] } in
    let x : Demo = with_caller (slot_told (os ++ [])) number from to d' in
    let same : x.events ≡ d.events ++ call ∷ [] = same_events (slot_told (os ++ [])) number from to d' in
    let one : AddsOne (turn_of w call) d.summary x.summary = call_adds w h number from to d' os (manual_told w h) refl in
    let keyed = sum_by-append (λ (e : Event). cond (is_manual e) 1 0) d.events (call ∷ []) in record {
      keyed = ap (count_by is_manual) same ∙ keyed ∙ (λ i. is.keyed i + 1) ∙ plus_one n;
      adds = subst (λ (es : List Event). Adds (turns es) none_counted x.summary) (sym same)
          (subst (λ (ts : List Turn). Adds ts none_counted x.summary) (sym (turns_more empty d.events (call ∷ [])))
          (adds_more (turns d.events) (turn_of w call ∷ []) none_counted d.summary x.summary is.adds (adds_next (turn_of w call) [] d.summary x.summary x.summary one (adds_none x.summary))));
    }

call_counted : (n number : ℕ) (d : Demo) → IsCounted n d → IsCounted (suc n) (with_call number d)
unfolding with_call
call_counted n number d is =
    let from = key_drawn d.words in
    let to = key_drawn from.1 in
    keys_counted n number from.0 to.0 to.1 d is

calls_counted : (n start : ℕ) → IsCounted n (calls_made n start)
unfolding calls_made
calls_counted zero start = record { keyed = refl; adds = adds_none none_counted }
calls_counted (suc n) start = call_counted n (suc n) _ (calls_counted n start)

-- ---- the whole

from_none : (a n : ℕ) → a ≡ 0 + n → a ≡ n
from_none a n is = is ∙ zero_plus n

whole_counts : (calls : ℕ) (d : Demo) → IsCounted calls d → CountsWhatIsTold calls d.summary d.events
whole_counts calls d is =
    let ts : List Turn = turns d.events in record {
      keyed = is.keyed;
      made = from_none _ _ is.adds.made ∙ sym (counted_flat is_made (λ (t : Turn). t.outcomes) ts);
      arrived = from_none _ _ is.adds.arrived ∙ sym (counted_events comes_to_secure empty d.events);
      out = from_none _ _ is.adds.out ∙ sym (counted_flat is_out (λ (t : Turn). cond (comes_to_secure t.event) t.outcomes []) ts);
      repeat = from_none _ _ is.adds.repeat ∙ sym (counted_flat is_repeat (λ (t : Turn). cond (comes_to_secure t.event) t.outcomes []) ts);
      bad_tag = from_none _ _ is.adds.bad_tag ∙ sym (counted_flat is_bad_tag (λ (t : Turn). cond (comes_to_secure t.event) t.outcomes []) ts);
      other = is.adds.other refl;
      sent = from_none _ _ is.adds.sent ∙ sym (counted_flat is_out (λ (t : Turn). cond (comes_to_plain t.event) t.outcomes []) ts);
      opened = is.adds.opened (zero_most 0);
    }

pub demonstration_counts : (calls start : ℕ) → CountsWhatIsTold calls (demonstration calls start) (events_shown calls start)
unfolding demo_of
demonstration_counts calls start = whole_counts calls _ (rounds_counted 320 calls _ (calls_counted calls start))
