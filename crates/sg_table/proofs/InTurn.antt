-- Arrivals that are handled one at a time.
use Rattle.std.proofs.Common.{◌≡◌, ℕ, ◌+◌, ◌<◌, ◌≤◌, List, [], ◌∷◌, ◌++◌, append_assoc, length, length-append, drop, get_or, map, refl, sym, ap, ◌∙◌, subst}
use Rattle.std.proofs.Math.ListN.{set, drop_of_length-le}
use Rattle.std.proofs.Math.Seq.{set-append_seam, get_or-append_seam}
use Rattle.std.proofs.lemmas.Grind.{flat_map-append}
use Rattle.std.proofs.lemmas.List.{append-nil, drop_more}
use Rattle.sg_call.specs.declared.handled.End.{End}
use Rattle.sg_call.specs.declared.handled.End.TheVariants as ends
use Rattle.sg_call.specs.declared.handled.Handled.{Handled}
use Rattle.sg_gateway.specs.Datagrams.{arrived_at}
use Rattle.sg_gateway.specs.Events.{outcomes_from}
use Rattle.sg_gateway.specs.Ports.{call_at}
use Rattle.sg_gateway.specs.Runs.{world_after}
use Rattle.sg_gateway.specs.Step.{step}
use Rattle.sg_gateway.specs.World.{World}
use Rattle.sg_outcome.specs.declared.outcomes.Outcome.{Outcome}
use Rattle.sg_table.proofs.Batching.{handled_told}
use Rattle.sg_table.proofs.Ended.{given_back}
use Rattle.sg_table.specs.Batches.{answered, arrived, handled_at, octets_of, told_by, told_of, with_handled, IsBatched, IsDelivered}
use Rattle.sg_table.specs.Handling.{outcome_of, IsBack, IsHandled}
use Rattle.sg_table.specs.Octets.{AreOctets}
use Rattle.sg_table.specs.Standing.{TableStandsFor}
use Rattle.sg_table.specs.Values.{TableValue}
use Rattle.sg_table.specs.declared.arrival.Arrival.{Arrival}

abbrev made : List ℕ → End → Handled
made pad end = record { pad = pad; end = end }

-- what is told and what is handed back of a drop are all
same_handled : (port : ℕ) (d pad pad' : List ℕ) (end end' : End) → outcome_of port (made pad end) ≡ outcome_of port (made pad' end') → IsBack d pad end → IsBack d pad' end' → made pad end ≡ made pad' end'
same_handled port d pad pad' (ends.Out from to) (ends.Out from' to') same back back' =
    let f : from ≡ from' = cc in
    let t : to ≡ to' = cc in
    let p : pad ≡ pad' = cc in
    (λ i. made (p i) (ends.Out (f i) (t i)))
same_handled port d pad pad' (ends.Dropped cause) (ends.Dropped cause') same back back' =
    let c : cause ≡ cause' = cc in
    (λ i. made ((back ∙ sym back') i) (ends.Dropped (c i)))
same_handled port d pad pad' end end' same back back' = absurd cc

one_of : (o p : Outcome) → o ∷ [] ≡ p ∷ [] → o ≡ p
one_of o p e = cc

-- a datagram by itself
pub delivered : (w : World) (a b : Arrival) (h : Handled) (table : TableValue) → AreOctets (octets_of a.pad) → IsHandled w a.port a.from (octets_of a.pad) h table → b ≡ with_handled a h → IsDelivered w a b table
delivered w a b h table octets handled is =
    let k = handled_at w a in
    let told : outcome_of a.port h ∷ [] ≡ (step w (arrived a)).outcomes = handled.told ∙ append-nil (step w (arrived a)).outcomes in
    let meant : outcome_of a.port k ∷ [] ≡ (step w (arrived a)).outcomes =
    handled_told w a.port a.from (octets_of a.pad) (call_at w a.port) ∙ ap (λ d. (arrived_at w a.port a.from d (call_at w a.port)).outcomes) (sym octets) in
    let same : h ≡ k = same_handled a.port (octets_of a.pad) h.pad k.pad h.end k.end (one_of _ _ (told ∙ sym meant)) handled.back (given_back w a) in
    record {
      is = is ∙ ap (with_handled a) same;
      told = ap (λ (x : Arrival). told_by x.port x.pad x.end) is ∙ told;
      stands = handled.stands;
    }

-- the first of them are done, in this world
pub record Goes (w : World) (came : List Arrival) (k : ℕ) (done : List Arrival) (table : TableValue) : Type 0 where
  pub world : World
  pub stands : TableStandsFor table world
  pub are : done ++ answered world (drop k came) ≡ answered w came
  pub told : told_of done ++ outcomes_from world (map arrived (drop k came)) ≡ outcomes_from w (map arrived came)
  pub after : world_after world (map arrived (drop k came)) ≡ world_after w (map arrived came)

pub record AreDone (came : List Arrival) (before : TableValue) (k : ℕ) (arrivals : List Arrival) (table : TableValue) : Type 0 where
  pub done : List Arrival
  pub count : length done ≡ k
  pub arrivals_are : arrivals ≡ done ++ drop k came
  pub worlds : (w : World) → TableStandsFor before w → Goes w came k done table

pub done_first : (came : List Arrival) (before : TableValue) → AreDone came before 0 came before
done_first came before = record {
  done = [];
  count = refl;
  arrivals_are = refl;
  worlds = λ w s. record { world = w; stands = s; are = refl; told = refl; after = refl };
}

module _ (came : List Arrival) (before : TableValue) (k : ℕ) (arrivals : List Arrival) (table : TableValue) (d : Arrival) (lt : k < length came) (s : AreDone came before k arrivals table) where
  abbrev this : Arrival
  this = get_or came k d

  abbrev later : List Arrival
  later = drop (k + 1) came

  left_is : drop k came ≡ this ∷ later
  left_is = drop_more came k d lt

  arrivals_so : arrivals ≡ s.done ++ this ∷ later
  arrivals_so = s.arrivals_are ∙ ap (λ l. s.done ++ l) left_is

  pub this_is : get_or arrivals k d ≡ this
  this_is = (λ i. get_or (arrivals_so i) (sym s.count i) d) ∙ get_or-append_seam s.done this later d

  goes_on : (w : World) (new : Arrival) (table' : TableValue) (g : Goes w came k s.done table) → IsDelivered g.world this new table' → Goes w came (k + 1) (s.done ++ new ∷ []) table'
  goes_on w new table' g h =
      let next : World = (step g.world (arrived this)).world in
      record {
        world = next;
        stands = h.stands;
        are = append_assoc s.done (new ∷ []) (answered next later) ∙ ap (λ x. s.done ++ x ∷ answered next later) h.is ∙ ap (λ l. s.done ++ answered g.world l) (sym left_is) ∙ g.are;
        told = ap (λ l. l ++ outcomes_from next (map arrived later)) (flat_map-append (λ (a : Arrival). told_by a.port a.pad a.end) s.done (new ∷ []))
            ∙ append_assoc (told_of s.done) (told_of (new ∷ [])) (outcomes_from next (map arrived later))
            ∙ ap (λ l. told_of s.done ++ (l ++ outcomes_from next (map arrived later))) (append-nil (told_by new.port new.pad new.end) ∙ h.told)
            ∙ ap (λ l. told_of s.done ++ outcomes_from g.world (map arrived l)) (sym left_is) ∙ g.told;
        after = ap (λ l. world_after g.world (map arrived l)) (sym left_is) ∙ g.after;
      }

  pub done_next : (new : Arrival) (table' : TableValue) → ((w : World) → TableStandsFor table w → IsDelivered w (get_or arrivals k d) new table') → AreDone came before (k + 1) (set arrivals k new) table'
  done_next new table' h = record {
    done = s.done ++ new ∷ [];
    count = length-append s.done (new ∷ []) ∙ ap (λ n. n + 1) s.count;
    arrivals_are = (λ i. set (arrivals_so i) (sym s.count i) new) ∙ set-append_seam s.done this later new ∙ sym (append_assoc s.done (new ∷ []) later);
    worlds = λ w is. let g = s.worlds w is in goes_on w new table' g (subst (λ a. IsDelivered g.world a new table') this_is (h g.world g.stands));
  }

pub done_all : (came : List Arrival) (before : TableValue) (k : ℕ) (arrivals : List Arrival) (table : TableValue) → length came ≤ k → AreDone came before k arrivals table
    → (w : World) → TableStandsFor before w → IsBatched w came arrivals table
done_all came before k arrivals table all s w is =
    let g = s.worlds w is in
    let none : drop k came ≡ [] = drop_of_length-le came all in
    let arrivals_are : arrivals ≡ s.done = s.arrivals_are ∙ ap (λ l. s.done ++ l) none ∙ append-nil s.done in
    record {
      are = s.arrivals_are ∙ ap (λ l. s.done ++ l) none ∙ ap (λ l. s.done ++ answered g.world l) (sym none) ∙ g.are;
      told = ap told_of arrivals_are ∙ sym (append-nil (told_of s.done)) ∙ ap (λ l. told_of s.done ++ outcomes_from g.world (map arrived l)) (sym none) ∙ g.told;
      stands = subst (TableStandsFor table) (ap (λ l. world_after g.world (map arrived l)) (sym none) ∙ g.after) g.stands;
    }
