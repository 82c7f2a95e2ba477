-- Each arrival of a batch has ended as its datagram does, in the world that those before it leave.
use Rattle.std.proofs.Common.{◌≡◌, List, [], ◌∷◌, ◌++◌, map, Option, Some, None, refl, sym, ap, ◌∙◌, subst}
use Rattle.sg_gateway.specs.Datagrams.{arrived_in}
use Rattle.sg_gateway.specs.Events.{outcomes_from}
use Rattle.sg_gateway.specs.Octets.{as_octets}
use Rattle.sg_gateway.specs.Ports.{call_at}
use Rattle.sg_gateway.specs.Step.{step}
use Rattle.sg_gateway.specs.World.{Call, World}
use Rattle.sg_outcome.specs.declared.outcomes.Outcome.{Outcome}
use Rattle.sg_table.proofs.Batching.{handled_told}
use Rattle.sg_table.proofs.Delivering.{is_back}
use Rattle.sg_table.specs.Batches.{arrived, answered, handled_at, handled_in, octets_of, told_of, IsBatched}
use Rattle.sg_table.specs.Handling.{IsBack, outcome_of}
use Rattle.sg_table.specs.Orders.{HasEnded}
use Rattle.sg_table.specs.Values.{TableValue}
use Rattle.sg_table.specs.declared.arrival.Arrival.{Arrival}

-- each in the world that those before it leave
abbrev pub AreEnded : World → List Arrival → List Arrival → Type 0
AreEnded w [] [] = Unit {0}
AreEnded w (a ∷ old) (b ∷ new) = HasEnded w a b × AreEnded (step w (arrived a)).world old new
AreEnded w [] (b ∷ new) = ⊥
AreEnded w (a ∷ old) [] = ⊥

-- where it is dropped, its octets are handed back
pub given_back : (w : World) (a : Arrival) → IsBack (octets_of a.pad) (handled_at w a).pad (handled_at w a).end
given_back w a = at (call_at w a.port)
  where
    at : (found : Option Call) → IsBack (octets_of a.pad) (handled_in w.moment a.port a.from (octets_of a.pad) found).pad (handled_in w.moment a.port a.from (octets_of a.pad) found).end
    at None = refl
    at (Some c) = is_back (octets_of a.pad) (arrived_in w.moment a.port a.from (octets_of a.pad) c)

are_ended : (w : World) (old : List Arrival) → told_of (answered w old) ≡ outcomes_from w (map arrived old) → AreEnded w old (answered w old)
are_ended w [] same = tt
are_ended w (a ∷ later) same =
    let v : World = (step w (arrived a)).world in
    let o : Outcome = outcome_of a.port (handled_in w.moment a.port a.from (as_octets (octets_of a.pad)).items (call_at w a.port)) in
    let is : (step w (arrived a)).outcomes ≡ o ∷ [] = sym (handled_told w a.port a.from (as_octets (octets_of a.pad)).items (call_at w a.port)) in
    let all : outcome_of a.port (handled_at w a) ∷ told_of (answered v later) ≡ o ∷ outcomes_from v (map arrived later) = same ∙ ap (λ l. l ++ outcomes_from v (map arrived later)) is in
    let first : outcome_of a.port (handled_at w a) ≡ o = cc in
    let rest : told_of (answered v later) ≡ outcomes_from v (map arrived later) = cc in
    (record { port = refl; from = refl; told = ap (λ x. x ∷ []) first ∙ sym is; back = given_back w a }, are_ended v later rest)

-- what is batched is so
pub ended : (w : World) (old new : List Arrival) (table : TableValue) → IsBatched w old new table → AreEnded w old new
ended w old new table b = subst (AreEnded w old) (sym b.are) (are_ended w old (sym (ap told_of b.are) ∙ b.told))
