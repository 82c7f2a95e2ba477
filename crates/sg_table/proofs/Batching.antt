-- The three parts of a batch together.
use Rattle.std.proofs.Common.{◌≡◌, ℕ, List, [], ◌∷◌, ◌++◌, length, map, Option, Some, None, refl, sym, ap, ◌∙◌, subst, arith}
use Rattle.std.specs.List.{AllByRecursion}
use Rattle.std.specs.Prelude.{IsSome}
use Rattle.sg_base.specs.declared.addresses.Address.{Address}
use Rattle.sg_call.specs.Drained.{IsDrained}
use Rattle.sg_call.specs.Settling.{BooksStandFor}
use Rattle.sg_call.specs.Standing.{CallStandsFor}
use Rattle.sg_call.specs.Values.{CallValue}
use Rattle.sg_call.specs.declared.handled.Handled.{Handled}
use Rattle.sg_gateway.proofs.Pairs.{each_two}
use Rattle.sg_gateway.specs.Batch.{delivered, event_of}
use Rattle.sg_gateway.specs.Datagrams.{arrived_at, arrived_in}
use Rattle.sg_gateway.specs.Events.{outcomes_from}
use Rattle.sg_gateway.specs.Ports.{call_at}
use Rattle.sg_gateway.specs.Runs.{world_after}
use Rattle.sg_gateway.specs.Step.{step}
use Rattle.sg_gateway.specs.World.{Call, World}
use Rattle.sg_leg.specs.Pairs.{EachPair}
use Rattle.sg_leg.specs.declared.books.Books as declared
use Rattle.sg_psk.specs.declared.pairs.Pair.{Pair}
use Rattle.sg_table.proofs.Delivering.{given_told}
use Rattle.sg_table.proofs.Pairing.{by_pairs, pairs_by, pairs_weaker}
use Rattle.sg_table.proofs.Sharing.{left_of, ready_first}
use Rattle.sg_table.proofs.Stepped.{run_goes_on}
use Rattle.sg_table.proofs.Turns.{moments, books_stay}
use Rattle.sg_table.specs.Batches.{arrived, answered, handled_in, octets_of, told_of, IsBatched}
use Rattle.sg_table.specs.Handling.{outcome_of}
use Rattle.sg_table.specs.Octets.{AreOctets}
use Rattle.sg_table.specs.Parts.{datagram_of, AreReady, AreLeft, IsReady, IsLeft, HaveRoom, HasOctets, TakesTurns, IsGathered}
use Rattle.sg_table.specs.Standing.{Holds, TableStandsFor}
use Rattle.sg_table.specs.Values.{shapes_of, AreQuiet}
use Rattle.sg_table.specs.declared.arrival.Arrival.{Arrival}

pub have_room : (calls : List CallValue) → AreQuiet calls → HaveRoom 0 calls
have_room [] q = tt
have_room (c ∷ cs) q = ((let a = ap length q.0.0 in let b = ap length q.0.1 in omega (arith, a, b)), have_room cs q.1)

ready_all : (pairs : List Pair) (now : ℕ) (calls : List CallValue) (cs : List Call) → EachPair (CallStandsFor pairs) calls cs → AreQuiet calls → EachPair (IsReady pairs now []) calls cs
ready_all pairs now = by_pairs (CallStandsFor pairs) (λ calls cs. AreQuiet calls → EachPair (IsReady pairs now []) calls cs) (λ q. tt)
    (λ call c calls cs h rest q. (ready_first pairs now call c h q.0.0 q.0.1, rest q.1))

pub drained_shapes : (calls new : List CallValue) → EachPair IsDrained calls new → shapes_of new ≡ shapes_of calls
drained_shapes = by_pairs IsDrained (λ calls new. shapes_of new ≡ shapes_of calls) refl
    (λ c n cs ns h rest. (let slot = h.same_slot in let media = h.same_media in (λ i. record { slot = slot i; media = media i } ∷ rest i)))

none_handled : (xs : List (ℕ × Handled)) → map (λ h. h.1) xs ≡ [] → xs ≡ []
none_handled [] e = refl
none_handled (x ∷ xs) e = absurd cc

quiet_left : (pairs : List Pair) (now : ℕ) (calls : List CallValue) (cs : List Call) → EachPair (IsLeft pairs now []) calls cs → AreQuiet calls
quiet_left pairs now = by_pairs (IsLeft pairs now []) (λ calls cs. AreQuiet calls) tt (λ call c calls cs h rest. ((h.none_waits, none_handled call.handled h.are_handled), rest))

-- the outcome of what is handed back is what the datagram tells
pub handled_told : (w : World) (port : ℕ) (from : Address) (d : List ℕ) (o : Option Call) → outcome_of port (handled_in w.moment port from d o) ∷ [] ≡ (arrived_at w port from d o).outcomes
handled_told w port from d None = refl
handled_told w port from d (Some c) = given_told w port d (arrived_in w.moment port from d c)

pub told_answered : (w : World) (came : List Arrival) → AllByRecursion HasOctets came → told_of (answered w came) ≡ outcomes_from w (map arrived came)
told_answered w [] p = refl
told_answered w (a ∷ later) p =
    let v : World = (step w (arrived a)).world in
    let one = handled_told w a.port a.from (octets_of a.pad) (call_at w a.port) ∙ ap (λ d. (arrived_at w a.port a.from d (call_at w a.port)).outcomes) (sym p.0.1) in
    (λ i. one i ++ told_answered v later p.1 i)

pub events_same : (came : List Arrival) → map event_of (map datagram_of came) ≡ map arrived came
events_same [] = refl
events_same (a ∷ later) = ap (λ es. arrived a ∷ es) (events_same later)

pub have_octets : (came : List Arrival) → AllByRecursion (λ a. IsSome a.pad) came → AllByRecursion (λ a. AreOctets (octets_of a.pad)) came → AllByRecursion HasOctets came
have_octets came pads octets = each_two _ _ HasOctets (λ a pad are. (pad, are)) came pads octets

module _ (now : ℕ) (calls : List CallValue) (books : declared.Books) (w : World) (stands : TableStandsFor (record { calls = calls; books = books; moment = now }) w) (came : List Arrival) where
  pub ready : AreReady now [] calls w
  ready = ready_all w.books.pairs now calls w.calls stands.holds.calls stands.holds.quiet

  holds_left : (new : List CallValue) → AreLeft w.moment [] new (delivered w (map datagram_of came)) → Holds (record { calls = new; books = books; moment = now }) (delivered w (map datagram_of came))
  holds_left new stand =
      let v : World = delivered w (map datagram_of came) in
      record {
        calls = pairs_weaker (IsLeft v.books.pairs w.moment []) (CallStandsFor v.books.pairs) (λ call c l. l.stands) new v.calls stand;
        books = subst (BooksStandFor books) (sym (books_stay w (map datagram_of came))) stands.holds.books;
        moment_is = moments w (map datagram_of came) ∙ stands.holds.moment_is;
        quiet = quiet_left v.books.pairs w.moment new v.calls stand;
      }

  pub batched : (shared drained new : List CallValue) (arrivals : List Arrival) → TakesTurns w → AreReady now (map datagram_of came) shared w → EachPair IsDrained shared drained
      → AllByRecursion HasOctets came → IsGathered w came drained arrivals new → IsBatched w came arrivals (record { calls = new; books = books; moment = now })
  batched shared drained new arrivals turns is_ready is_drained pads gathered =
      let ps = w.books.pairs in
      let left : AreLeft w.moment (map datagram_of came) drained w = subst (λ n. AreLeft n (map datagram_of came) drained w) (sym stands.holds.moment_is)
      (pairs_by (IsReady ps now (map datagram_of came)) IsDrained (IsLeft ps now (map datagram_of came)) (left_of ps now (map datagram_of came)) shared w.calls drained is_ready is_drained) in
      let (are, stand) = gathered turns pads left in
      record {
        are = are;
        told = ap told_of are ∙ told_answered w came pads;
        stands = run_goes_on (record { calls = calls; books = books; moment = now }) (record { calls = new; books = books; moment = now }) w (map arrived came) stands
            (subst (λ es. Holds (record { calls = new; books = books; moment = now }) (world_after w es)) (events_same came) (holds_left new stand));
      }
