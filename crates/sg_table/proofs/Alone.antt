-- An arrival tells what it tells after those at the ports of its own call alone.
use Rattle.std.proofs.Common.{◌≡◌, Bool, true, false, cond, List, [], ◌∷◌, ◌++◌, map, Option, Some, None, refl, sym, ap, ◌∙◌, subst}
use Rattle.std.proofs.lemmas.List.{map-append}
use Rattle.std.specs.List.{filter}
use Rattle.std.specs.Prelude.{option_map}
use Rattle.sg_gateway.specs.Batch.{Arrived, IsToldAlone, drained, given_after, given_by, own, told}
use Rattle.sg_gateway.specs.Ports.{call_at}
use Rattle.sg_gateway.specs.Runs.{world_after}
use Rattle.sg_gateway.specs.Step.{Event, step}
use Rattle.sg_gateway.specs.World.{Call, World, empty}
use Rattle.sg_table.proofs.Batching.{events_same}
use Rattle.sg_table.proofs.Ended.{AreEnded}
use Rattle.sg_table.proofs.Orders.{own_are}
use Rattle.sg_table.proofs.Stepped.{after_append}
use Rattle.sg_table.specs.Batches.{arrived}
use Rattle.sg_table.specs.Orders.{at_call, at_its_call, of_call_at, HaveEndedAlone, OnlyItsOwnCount}
use Rattle.sg_table.specs.Parts.{datagram_of}
use Rattle.sg_table.specs.Standing.{TableStandsFor}
use Rattle.sg_table.specs.Values.{TableValue}
use Rattle.sg_table.specs.declared.arrival.Arrival.{Arrival}

filtered_twice : {X : Type 0} (test : X → Bool) (xs : List X) → filter test (filter test xs) ≡ filter test xs
filtered_twice test [] = refl
filtered_twice test (x ∷ xs) = go (test x) refl (filtered_twice test xs)
  where
    go : (b : Bool) → test x ≡ b → filter test (filter test xs) ≡ filter test xs → filter test (cond b (x ∷ filter test xs) (filter test xs)) ≡ cond b (x ∷ filter test xs) (filter test xs)
    go true is rest = ap (λ b. cond b (x ∷ filter test (filter test xs)) (filter test (filter test xs))) is ∙ ap (λ l. x ∷ l) rest
    go false is rest = rest

module _ (w : World) (law : (before : List Arrived) (a : Arrived) → IsToldAlone w before a) where
  -- what its call gives after these
  told_after : (before : List Arrival) (a : Arrival) → (step (world_after w (map arrived before)) (arrived a)).outcomes ≡ told a.port (given_after w (map datagram_of before) (datagram_of a))
  told_after before a = ap (λ es. (step (world_after w es) (arrived a)).outcomes) (sym (events_same before)) ∙ law (map datagram_of before) (datagram_of a)

  given_same : (before : List Arrival) (a : Arrival) → given_after w (map datagram_of before) (datagram_of a) ≡ given_after w (map datagram_of (of_call_at w a.port before)) (datagram_of a)
  given_same before a = go (call_at w a.port)
    where
      go : (o : Option Call) → option_map (λ c. given_by w.moment (drained w.moment c (own c (map datagram_of before))) (datagram_of a)) o
          ≡ option_map (λ c. given_by w.moment (drained w.moment c (own c (map datagram_of (at_its_call o before)))) (datagram_of a)) o
      go None = refl
      go (Some c) = ap (λ l. Some (given_by w.moment (drained w.moment c l) (datagram_of a)))
          (own_are c before ∙ sym (own_are c (at_call c before) ∙ ap (map datagram_of) (filtered_twice _ before)))

  pub only_its_own : OnlyItsOwnCount w
  only_its_own before a = told_after before a ∙ ap (told a.port) (given_same before a) ∙ sym (told_after (of_call_at w a.port before) a)

ended_alone : (w : World) → OnlyItsOwnCount w → (before old new : List Arrival) → AreEnded (world_after w (map arrived before)) old new → HaveEndedAlone w before old new
ended_alone w law before [] [] p = tt
ended_alone w law before (a ∷ old) (b ∷ new) p = (
  record { port = p.0.port; from = p.0.from; told = p.0.told ∙ law before a; back = p.0.back },
  ended_alone w law (before ++ a ∷ []) old new (subst (λ v. AreEnded v old new) (sym (ap (world_after w) (map-append arrived before (a ∷ [])) ∙ after_append w (map arrived before) (arrived a ∷ []))) p.1),
)
ended_alone w law before old new p = absurd p

-- a batch has ended so
pub batched_alone : ((events : List Event) → OnlyItsOwnCount (world_after empty events)) → (w : World) (old new : List Arrival) (before : TableValue) → TableStandsFor before w → AreEnded w old new → HaveEndedAlone w [] old new
batched_alone law w old new before stands ended = ended_alone w (subst OnlyItsOwnCount (sym stands.is_after) (law stands.history)) [] old new ended
