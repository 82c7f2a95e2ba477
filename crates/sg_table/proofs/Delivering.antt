-- A datagram in a world that a table stands for.
use Rattle.std.proofs.Common.{◌≡◌, ℕ, suc, ◌+◌, ◌<◌, ◌≤◌, true, false, List, [], ◌∷◌, length, get_or, map, Some, None, refl, sym, ap, ◌∙◌, subst, arith}
use Rattle.std.proofs.Math.ListN.{set}
use Rattle.std.proofs.Math.Seq.{map-set_same}
use Rattle.std.proofs.lemmas.Bool.{cond-true, cond-false}
use Rattle.std.proofs.lemmas.List.Elements.{recursion_from_All}
use Rattle.std.specs.List.{AllByRecursion, position}
use Rattle.sg_base.specs.declared.addresses.Address.{Address}
use Rattle.sg_base.specs.declared.faults.DropCause.TheVariants.{PortUnused}
use Rattle.sg_call.specs.Handling.{handled_of}
use Rattle.sg_call.specs.Settling.{BooksStandFor}
use Rattle.sg_call.specs.Standing.{CallStandsFor}
use Rattle.sg_call.specs.Values.{CallValue}
use Rattle.sg_call.specs.declared.handled.End.TheVariants.{Dropped}
use Rattle.sg_call.specs.declared.handled.Handled.{Handled}
use Rattle.sg_gateway.proofs.Pairs.{Pairs, pairs_from}
use Rattle.sg_gateway.proofs.ToldInWorld.{told_of}
use Rattle.sg_gateway.specs.Batch.{Arrived, AreDrained, after, event_of, given_by, given_in}
use Rattle.sg_gateway.specs.Datagrams.{Given, Drops, Puts, arrived_at, arrived_in, given_to}
use Rattle.sg_gateway.specs.Octets.{as_octets}
use Rattle.sg_gateway.specs.Order.{IsBefore, IsOrderly, EachWorldIsOrderly}
use Rattle.sg_gateway.specs.Ports.{call_at, has_port}
use Rattle.sg_gateway.specs.Runs.{world_after}
use Rattle.sg_gateway.specs.Step.{Event}
use Rattle.sg_gateway.specs.World.{Books, Call, World, empty, find_call}
use Rattle.sg_leg.specs.Pairs.{EachPair}
use Rattle.sg_leg.specs.declared.books.Books as declared
use Rattle.sg_psk.specs.declared.pairs.Pair.{Pair}
use Rattle.sg_table.proofs.Answered.{quiet_set, quiet_at}
use Rattle.sg_table.proofs.Found.{no_port}
use Rattle.sg_table.proofs.Pairing.{by_pairs}
use Rattle.sg_table.proofs.Sharing.{call_ports}
use Rattle.sg_table.proofs.Slots.{none_of, found_where, others}
use Rattle.sg_table.proofs.Stepped.{run_goes_on}
use Rattle.sg_table.proofs.Turns.{turn, one_turn, same_moment, same_books}
use Rattle.sg_table.specs.Handling.{outcome_of, IsBack, IsHandled}
use Rattle.sg_table.specs.Octets.{AreOctets}
use Rattle.sg_table.specs.Parts.{TakesTurns}
use Rattle.sg_table.specs.Standing.{TableStandsFor}
use Rattle.sg_table.specs.Values.{TableValue, Shape, shape_of, shapes_of, has_call_port, AreRising, AreQuiet}

-- a world that a table stands for is one of a run
pub turns_of : ((events : List Event) (arrived : List Arrived) → AreDrained (world_after empty events) arrived) → (table : TableValue) (w : World) → TableStandsFor table w → TakesTurns w
turns_of law table w s = subst TakesTurns (sym s.is_after) (law s.history)

orderly_of : ((events : List Event) → EachWorldIsOrderly events) → (table : TableValue) (w : World) → TableStandsFor table w → IsOrderly w
orderly_of law table w s = subst IsOrderly (sym s.is_after) (law s.history).1

-- the calls of a table rise
later_shapes : (pairs : List Pair) (c : Call) (call : CallValue) → c.slot ≡ call.slot → (calls : List CallValue) (cs : List Call) → EachPair (CallStandsFor pairs) calls cs → AllByRecursion (IsBefore c) cs
    → AllByRecursion (λ (t : Shape). call.slot < t.slot) (shapes_of calls)
later_shapes pairs c call is = by_pairs (CallStandsFor pairs) (λ calls cs. AllByRecursion (IsBefore c) cs → AllByRecursion (λ (t : Shape). call.slot < t.slot) (shapes_of calls)) (λ p. tt)
    (λ k d calls ds h rest p. ((let a = p.0.slot in let b = h.slot_is in omega (arith, a, b, is)), rest p.1))

rising_from : (pairs : List Pair) (calls : List CallValue) (cs : List Call) → EachPair (CallStandsFor pairs) calls cs → Pairs IsBefore cs → AllByRecursion (λ c. c.slot < 256) cs → AreRising (shapes_of calls)
rising_from pairs [] [] h o low = tt
rising_from pairs (call ∷ calls) (c ∷ cs) h o low = (
  subst (λ n. n ≤ 4) h.0.media_are h.0.few,
  subst (λ n. n < 256) h.0.slot_is low.0,
  later_shapes pairs c call h.0.slot_is calls cs h.1 o.0,
  rising_from pairs calls cs h.1 o.1 low.1,
)
rising_from pairs calls cs h o low = absurd h

pub rising_of : ((events : List Event) → EachWorldIsOrderly events) → (table : TableValue) (w : World) → TableStandsFor table w → AreRising (shapes_of table.calls)
rising_of law table w s =
    let orderly = orderly_of law table w s in
    rising_from w.books.pairs table.calls w.calls s.holds.calls (pairs_from IsBefore w.calls orderly.rising) (recursion_from_All (λ (c : Call). c.slot < 256) w.calls orderly.slots)

module _ (pairs : List Pair) (now : ℕ) (a : Arrived) where
  unturned : (calls : List CallValue) (cs : List Call) → EachPair (CallStandsFor pairs) calls cs → AllByRecursion (λ c. has_call_port a.port c ≡ false) calls → EachPair (CallStandsFor pairs) calls (map (turn now a) cs)
  unturned = by_pairs (CallStandsFor pairs) (λ calls cs. AllByRecursion (λ c. has_call_port a.port c ≡ false) calls → EachPair (CallStandsFor pairs) calls (map (turn now a) cs)) (λ p. tt)
      (λ call c calls cs h rest p. (subst (CallStandsFor pairs call) (sym (cond-false _ _ _ (sym (call_ports pairs a.port call c h) ∙ p.0))) h, rest p.1))

  -- the call at a place
  pub record FoundAt (calls : List CallValue) (cs : List Call) (j : ℕ) (e : CallValue) (new : CallValue) : Type 0 where
    pub call : Call
    pub stands : CallStandsFor pairs (get_or calls j e) call
    pub found : find_call (has_port a.port) cs ≡ Some call
    pub turned : CallStandsFor pairs new (after (given_by now call a) call) → EachPair (CallStandsFor pairs) (set calls j new) (map (turn now a) cs)

  found_in : (e new : CallValue) (i : ℕ) (calls : List CallValue) → position (has_call_port a.port) calls ≡ Some i → (cs : List Call) → EachPair (CallStandsFor pairs) calls cs
      → AreRising (shapes_of calls) → FoundAt calls cs i e new
  found_in e new = found_where (has_call_port a.port) (λ calls j. (cs : List Call) → EachPair (CallStandsFor pairs) calls cs → AreRising (shapes_of calls) → FoundAt calls cs j e new) here there
    where
      here : (call : CallValue) (calls : List CallValue) → has_call_port a.port call ≡ true → (cs : List Call) → EachPair (CallStandsFor pairs) (call ∷ calls) cs → AreRising (shapes_of (call ∷ calls))
          → FoundAt (call ∷ calls) cs 0 e new
      here call calls has [] h r = absurd h
      here call calls has (c ∷ cs) h r =
          let of_c : has_port a.port c ≡ true = sym (call_ports pairs a.port call c h.0) ∙ has in
          record {
            call = c;
            stands = h.0;
            found = cond-true _ _ _ of_c;
            turned = λ s. (subst (CallStandsFor pairs new) (sym (cond-true _ _ _ of_c)) s, unturned calls cs h.1 (others a.port (λ x. x) call calls r has));
          }

      there : (call : CallValue) (calls : List CallValue) (j : ℕ) → has_call_port a.port call ≡ false → ((cs : List Call) → EachPair (CallStandsFor pairs) calls cs → AreRising (shapes_of calls) → FoundAt calls cs j e new)
          → (cs : List Call) → EachPair (CallStandsFor pairs) (call ∷ calls) cs → AreRising (shapes_of (call ∷ calls)) → FoundAt (call ∷ calls) cs (suc j) e new
      there call calls j no_port rest [] h r = absurd h
      there call calls j no_port rest (c ∷ cs) h r =
          let f = rest cs h.1 r.3 in
          let of_c : has_port a.port c ≡ false = sym (call_ports pairs a.port call c h.0) ∙ no_port in
          record {
            call = f.call;
            stands = f.stands;
            found = cond-false _ _ _ of_c ∙ f.found;
            turned = λ s. (subst (CallStandsFor pairs call) (sym (cond-false _ _ _ of_c)) h.0, f.turned s);
          }

-- what is handed back tells what is given
pub given_told : (w : World) (port : ℕ) (d : List ℕ) (g : Given) → outcome_of port (handled_of d g) ∷ [] ≡ (given_to w port g).outcomes
given_told w port d (Drops cause) = refl
given_told w port d (Puts p) = refl

pub is_back : (d : List ℕ) (g : Given) → IsBack d (handled_of d g).pad (handled_of d g).end
is_back d (Drops cause) = refl
is_back d (Puts p) = tt

module _ (calls : List CallValue) (books : declared.Books) (now port : ℕ) (from : Address) (d : List ℕ) (octets : AreOctets d) (w : World)
    (stands : TableStandsFor (record { calls = calls; books = books; moment = now }) w) (turns : TakesTurns w) where
  abbrev a : Arrived
  a = record { port = port; from = from; octets = as_octets d }

  table_after : (calls' : List CallValue) → EachPair (CallStandsFor w.books.pairs) calls' (map (turn w.moment a) w.calls) → AreQuiet calls'
      → TableStandsFor (record { calls = calls'; books = books; moment = now }) (world_after w (event_of a ∷ []))
  table_after calls' h q = run_goes_on (record { calls = calls; books = books; moment = now }) (record { calls = calls'; books = books; moment = now }) w (event_of a ∷ []) stands (record {
    calls = subst (λ (b : Books). EachPair (CallStandsFor b.pairs) calls' (given_in w a).world.calls) (sym (same_books w a)) (subst (EachPair (CallStandsFor w.books.pairs) calls') (sym (one_turn w a turns)) h);
    books = subst (BooksStandFor books) (sym (same_books w a)) stands.holds.books;
    moment_is = same_moment w a ∙ stands.holds.moment_is;
    quiet = q;
  })

  pub no_call : position (has_call_port port) calls ≡ None → IsHandled w port from d (record { pad = d; end = Dropped PortUnused }) (record { calls = calls; books = books; moment = now })
  no_call none =
      let each = none_of _ calls none in
      let unfound : call_at w port ≡ None = no_port w.books.pairs port calls w.calls stands.holds.calls none in
      record {
        told = told_of w port from d (outcome_of port (record { pad = d; end = Dropped PortUnused })) octets (sym (ap (λ o. (arrived_at w port from d o).outcomes) unfound));
        back = refl;
        stands = table_after calls (unturned w.books.pairs w.moment a calls w.calls stands.holds.calls each) stands.holds.quiet;
      }

  pub some_call : AreRising (shapes_of calls) → (i : ℕ) (e new : CallValue) (h : Handled) → position (has_call_port port) calls ≡ Some i
      → ((pairs : List Pair) (c : Call) → CallStandsFor pairs (get_or calls i e) c → h ≡ handled_of d (arrived_in now port from d c))
      → ((pairs : List Pair) (c : Call) → CallStandsFor pairs (get_or calls i e) c → CallStandsFor pairs new (after (arrived_in now port from d c) c))
      → (new.waiting ≡ (get_or calls i e).waiting) × (new.handled ≡ (get_or calls i e).handled) → i < length calls → IsHandled w port from d h (record { calls = set calls i new; books = books; moment = now })
  some_call rising i e new h is answer left inbox within =
      let ps = w.books.pairs in
      let g : FoundAt ps w.moment a calls w.calls i e new = found_in ps w.moment a e new i calls is w.calls stands.holds.calls rising in
      let handled : h ≡ handled_of d (arrived_in w.moment port from d g.call) = answer ps g.call g.stands ∙ ap (λ n. handled_of d (arrived_in n port from d g.call)) (sym stands.holds.moment_is) in
      record {
        told = told_of w port from d (outcome_of port h) octets (ap (λ h. outcome_of port h ∷ []) handled ∙ given_told w port d (arrived_in w.moment port from d g.call) ∙ sym (ap (λ o. (arrived_at w port from d o).outcomes) g.found));
        back = subst (λ (h : Handled). IsBack d h.pad h.end) (sym handled) (is_back d (arrived_in w.moment port from d g.call));
        stands = table_after (set calls i new)
            (g.turned (subst (λ n. CallStandsFor ps new (after (arrived_in n port from (as_octets d).items g.call) g.call)) (sym stands.holds.moment_is)
            (subst (λ x. CallStandsFor ps new (after (arrived_in now port from x g.call) g.call)) (sym octets) (left ps g.call g.stands))))
            (quiet_set calls i new stands.holds.quiet (let q = quiet_at calls i e stands.holds.quiet within in (inbox.0 ∙ q.0, inbox.1 ∙ q.1)));
      }

pub shapes_set : (calls : List CallValue) (i : ℕ) (d new : CallValue) → shape_of new ≡ shape_of (get_or calls i d) → shapes_of (set calls i new) ≡ shapes_of calls
shapes_set calls i d new e = map-set_same shape_of calls i new d e
