-- What became of arrivals, counted one by one.
use Rattle.std.proofs.Common.{◌≡◌, ℕ, suc, ◌+◌, ◌<◌, ◌≤◌, min, List, [], ◌∷◌, ◌++◌, length, get_or, drop, Option, Some, refl, sym, ap, ◌∙◌, subst, arith}
use Rattle.std.proofs.lemmas.List.{drop_more, length-drop}
use Rattle.std.specs.List.{AllZip, AllByRecursion}
use Rattle.sg_outcome.specs.declared.outcomes.Outcome.{Outcome}
use Rattle.sg_table.specs.Batches.{octets_of, told_by, told_of}
use Rattle.sg_table.specs.declared.arrival.Arrival.{Arrival}
use Rattle.sg_call.specs.declared.handled.End.{End}
use Rattle.sg_demo.specs.Callers as demo
use Rattle.sg_demo.specs.Counting.{Count, counted, counted_of}
use Rattle.sg_demo.specs.Standing.{CallerStandsFor, CountStands, IsHandled, told_as, told_of_end}
use Rattle.sg_demo.specs.declared.caller.Caller.{Caller}
use Rattle.sg_demo.specs.declared.origin.Origin.{Origin}
use Rattle.sg_demo.specs.declared.summary.Summary.{Summary}

-- so many arrivals were counted
pub record IsCounting (origins : List Origin) (arrivals : List Arrival) (whole : Count) (callers : List Caller) (summary : Summary) (i : ℕ) : Type 0 where
  pub count : Count
  pub goes : counted (drop i origins) (told_of (drop i arrivals)) count ≡ whole
  pub handled : AllByRecursion IsHandled (drop i arrivals)
  pub stands : CountStands callers summary count

told_by_is : (port : ℕ) (pad : Option (List ℕ)) (end : Option End) (d : List ℕ) (e : End) → pad ≡ Some d → end ≡ Some e → told_by port pad end ≡ told_of_end port (octets_of pad) end ∷ []
told_by_is port pad end d e pad_is end_is =
    subst (λ (p : Option (List ℕ)). told_by port p end ≡ told_of_end port (octets_of p) end ∷ []) (sym pad_is)
    (subst (λ (x : Option End). told_by port (Some d) x ≡ told_of_end port d x ∷ []) (sym end_is) refl)

-- an arrival that is handled tells one outcome
told_next : (a : Arrival) (later : List Arrival) → IsHandled a → told_of (a ∷ later) ≡ told_as a ∷ told_of later
told_next a later h = ap (λ (l : List Outcome). l ++ told_of later) (told_by_is a.port a.pad a.end h.pad h.end h.has_pad h.has_end)

-- what the counting of one arrival does
abbrev pub Counts : Origin → Arrival → List Caller → Summary → List Caller → Summary → Type 0
Counts origin a callers summary callers' summary' = (cs : List demo.Caller) → AllZip CallerStandsFor callers cs → IsHandled a
    → CountStands callers' summary' (counted_of origin (told_as a) (record { callers = cs; summary = summary }))

pub counting_goes : (origins : List Origin) (arrivals : List Arrival) (whole : Count) (callers callers' : List Caller) (summary summary' : Summary) (i : ℕ) (origin e : Origin) (a : Arrival)
    → i < length origins → i < length arrivals → origin ≡ get_or origins i e → a ≡ get_or arrivals i a → Counts origin a callers summary callers' summary'
    → IsCounting origins arrivals whole callers summary i → IsCounting origins arrivals whole callers' summary' (i + 1)
counting_goes origins arrivals whole callers callers' summary summary' i origin e a in_origins in_arrivals origin_is a_is counts going =
    let os : drop i origins ≡ origin ∷ drop (i + 1) origins = drop_more origins i e in_origins ∙ ap (λ (o : Origin). o ∷ drop (i + 1) origins) (sym origin_is) in
    let arrived_are : drop i arrivals ≡ a ∷ drop (i + 1) arrivals = drop_more arrivals i a in_arrivals ∙ ap (λ (x : Arrival). x ∷ drop (i + 1) arrivals) (sym a_is) in
    let handled : AllByRecursion IsHandled (a ∷ drop (i + 1) arrivals) = subst (λ (l : List Arrival). AllByRecursion IsHandled l) arrived_are going.handled in
    let k : Count = record { callers = going.count.callers; summary = summary } in
    let same : k ≡ going.count = ap (λ (s : Summary). record { callers = going.count.callers; summary = s }) going.stands.same in
    let told : told_of (drop i arrivals) ≡ told_as a ∷ told_of (drop (i + 1) arrivals) = ap told_of arrived_are ∙ told_next a (drop (i + 1) arrivals) handled.0 in
    record {
      count = counted_of origin (told_as a) k;
      goes = ap (λ (x : Count). counted (drop (i + 1) origins) (told_of (drop (i + 1) arrivals)) (counted_of origin (told_as a) x)) same
          ∙ sym (ap (λ (l : List Outcome). counted (origin ∷ drop (i + 1) origins) l going.count) told)
          ∙ sym (ap (λ (l : List Origin). counted l (told_of (drop i arrivals)) going.count) os) ∙ going.goes;
      handled = handled.1;
      stands = counts going.count.callers going.stands.each handled.0;
    }

nothing_left : (os : List Origin) (ts : List Outcome) (k : Count) → min (length os) (length ts) ≡ 0 → counted os ts k ≡ k
nothing_left [] ts k none = refl
nothing_left (o ∷ os) [] k none = refl
nothing_left (o ∷ os) (t ∷ ts) k none = absurd (omega (arith, none))

told_long : (xs : List Arrival) → AllByRecursion IsHandled xs → length (told_of xs) ≡ length xs
told_long [] handled = refl
told_long (x ∷ xs) handled = ap length (told_next x xs handled.0) ∙ ap (λ (n : ℕ). suc n) (told_long xs handled.1)

pub counting_ends : (origins : List Origin) (arrivals : List Arrival) (whole : Count) (callers : List Caller) (summary : Summary) (i : ℕ)
    → min (length origins) (length arrivals) ≤ i → IsCounting origins arrivals whole callers summary i → CountStands callers summary whole
counting_ends origins arrivals whole callers summary i past going =
    let long = told_long (drop i arrivals) going.handled in
    let none : min (length (drop i origins)) (length (told_of (drop i arrivals))) ≡ 0 = omega (arith, past, long, length-drop i origins, length-drop i arrivals) in
    subst (λ (k : Count). CountStands callers summary k) (sym (nothing_left (drop i origins) (told_of (drop i arrivals)) going.count none) ∙ going.goes) going.stands
