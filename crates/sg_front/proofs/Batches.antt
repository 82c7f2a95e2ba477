-- A batch whose datagrams come at other ports to the table, and are given back at theirs.
use Rattle.std.proofs.Common.{◌≡◌, ℕ, zero, suc, ◌+◌, ◌<◌, List, [], ◌∷◌, ◌++◌, map, take, drop, length, get_or, refl, sym, ap, ◌∙◌, subst, arith, add-one, Option}
use Rattle.std.specs.Prelude.{slice_set}
use Rattle.sg_call.specs.declared.handled.Handled.{Handled}
use Rattle.sg_front.proofs.Sharing.{end_told, one_told}
use Rattle.sg_front.specs.Parts.{all_given_back, given_back, shared, sharing, taken}
use Rattle.sg_front.specs.States.{FrontStandsFor, IsBatched, state_after, told_from}
use Rattle.sg_gateway.specs.Events.{outcomes_from}
use Rattle.sg_gateway.specs.Octets.{as_octets}
use Rattle.sg_gateway.specs.Runs.{world_after}
use Rattle.sg_gateway.specs.Step.{step}
use Rattle.sg_gateway.specs.World.{World}
use Rattle.sg_mux.specs.Via.{told_at}
use Rattle.sg_mux.specs.declared.known.Known.{Known}
use Rattle.sg_outcome.specs.declared.outcomes.Outcome.{Outcome}
use Rattle.sg_table.specs.Batches as tables
use Rattle.sg_table.specs.Batches.{answered, arrived, handled_at, octets_of, told_of}
use Rattle.sg_table.specs.Handling.{outcome_by}
use Rattle.sg_table.specs.Values.{TableValue}
use Rattle.sg_table.specs.declared.arrival.Arrival.{Arrival}

-- ---- lists that are filled in turn

-- the first of them from another list
pub kept_more : {A B : Type 0} (f : A → B) (xs : List A) (zs now : List B) (i : ℕ) (d : A) (v : B) → i < length xs → i < length zs → now ≡ map f (take i xs) ++ drop i zs → v ≡ f (get_or xs i d)
    → slice_set now i v ≡ map f (take (i + 1) xs) ++ drop (i + 1) zs
kept_more f xs zs now i d v inside within is value = rw (is, value, add-one) (go xs zs i inside within)
  where
    go : (xs : List _) (zs : List _) (i : ℕ) → i < length xs → i < length zs → slice_set (map f (take i xs) ++ drop i zs) i (f (get_or xs i d)) ≡ map f (take (suc i) xs) ++ drop (suc i) zs
    go [] zs i inside within = absurd (omega arith)
    go (x ∷ xs) [] i inside within = absurd (omega arith)
    go (x ∷ xs) (z ∷ zs) zero inside within = refl
    go (x ∷ xs) (z ∷ zs) (suc i) inside within = ap (λ (l : List _). f x ∷ l) (go xs zs i (omega arith) (omega arith))

module _ (calls : List (Option Known)) where
  given_at : (ports : List ℕ) (xs : List Arrival) (i : ℕ) (d : Arrival) → i < length xs → i < length ports → get_or (all_given_back calls ports (take i xs) ++ drop i xs) i d ≡ get_or xs i d
  given_at ports [] i d inside within = absurd (omega arith)
  given_at [] (x ∷ xs) i d inside within = absurd (omega arith)
  given_at (p ∷ ports) (x ∷ xs) zero d inside within = refl
  given_at (p ∷ ports) (x ∷ xs) (suc i) d inside within = given_at ports xs i d (omega arith) (omega arith)

  given_set : (ports : List ℕ) (xs : List Arrival) (i : ℕ) (e : ℕ) (d : Arrival) → i < length xs → i < length ports
      → slice_set (all_given_back calls ports (take i xs) ++ drop i xs) i (given_back calls (get_or ports i e) (get_or xs i d)) ≡ all_given_back calls ports (take (suc i) xs) ++ drop (suc i) xs
  given_set ports [] i e d inside within = absurd (omega arith)
  given_set [] (x ∷ xs) i e d inside within = absurd (omega arith)
  given_set (p ∷ ports) (x ∷ xs) zero e d inside within = refl
  given_set (p ∷ ports) (x ∷ xs) (suc i) e d inside within = ap (λ (l : List Arrival). given_back calls p x ∷ l) (given_set ports xs i e d (omega arith) (omega arith))

  pub given_more : (ports : List ℕ) (xs now : List Arrival) (i e : ℕ) (d v : Arrival) → i < length xs → i < length ports → now ≡ all_given_back calls ports (take i xs) ++ drop i xs
      → v ≡ given_back calls (get_or ports i e) (get_or now i d) → slice_set now i v ≡ all_given_back calls ports (take (i + 1) xs) ++ drop (i + 1) xs
  given_more ports xs now i e d v inside within is value =
      let this : v ≡ given_back calls (get_or ports i e) (get_or xs i d) =
      value ∙ ap (λ (l : List Arrival). given_back calls (get_or ports i e) (get_or l i d)) is ∙ ap (given_back calls (get_or ports i e)) (given_at ports xs i d inside within) in
      rw (this, is, add-one) (given_set ports xs i e d inside within)

  -- ---- what is told of a batch

  abbrev ports_of : List Arrival → List ℕ
  ports_of came = map (λ a. a.port) came

  head_is : (o q : Outcome) (os qs : List Outcome) → o ∷ os ≡ q ∷ qs → (o ≡ q) × (os ≡ qs)
  head_is o q os qs e = (ap (λ (l : List Outcome). get_or l 0 o) e, ap (drop 1) e)

  told : (w : World) (came : List Arrival) (rest : List ℕ) → told_of (answered w (map (taken calls) came)) ≡ outcomes_from w (map arrived (map (taken calls) came))
      → told_of (all_given_back calls (ports_of came ++ rest) (answered w (map (taken calls) came))) ≡ told_from (shared w calls) (map arrived came)
  told w [] rest is = refl
  told w (a ∷ came) rest is =
      let t : Arrival = taken calls a in
      let one = one_told w t.port t.from (as_octets (octets_of a.pad)) in
      let h : Handled = handled_at w t in
      let later : List Arrival = answered (step w (arrived t)).world (map (taken calls) came) in
      let parts = head_is (outcome_by t.port h.pad h.end) one.0 (told_of later) (outcomes_from (step w (arrived t)).world (map arrived (map (taken calls) came)))
      (is ∙ ap (λ (os : List Outcome). os ++ outcomes_from (step w (arrived t)).world (map arrived (map (taken calls) came))) one.1) in
      (λ i. end_told calls a.port t.port h.pad h.end i ∷ told (step w (arrived t)).world came rest parts.1 i)
      ∙ (λ i. told_at calls a.port (parts.0 i) ∷ told_from (shared (step w (arrived t)).world calls) (map arrived came))
      ∙ ap (λ (os : List Outcome). map (told_at calls a.port) os ++ told_from (shared (step w (arrived t)).world calls) (map arrived came)) (sym one.1)

  after : (w : World) (came : List Arrival) → state_after (shared w calls) (map arrived came) ≡ shared (world_after w (map arrived (map (taken calls) came))) calls
  after w [] = refl
  after w (a ∷ came) = after (step w (arrived (taken calls a))).world came

  pub shared_batch : (w : World) (came news : List Arrival) (rest : List ℕ) (table : TableValue) → tables.IsBatched w (map (taken calls) came) news table
      → IsBatched (shared w calls) came (all_given_back calls (ports_of came ++ rest) news) (sharing table calls)
  shared_batch w came news rest table is = record {
    told = ap (λ (l : List Arrival). told_of (all_given_back calls (ports_of came ++ rest) l)) is.are
        ∙ told w came rest (ap told_of (sym is.are) ∙ is.told);
    stands = subst (FrontStandsFor (sharing table calls)) (sym (after w came)) (record { muxes = refl; calls = refl; world = is.stands });
  }
