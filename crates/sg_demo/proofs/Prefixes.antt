-- A demonstration goes on from its events so far.
use Rattle.std.proofs.Common.{◌≡◌, ℕ, zero, suc, ◌+◌, ◌-◌, ◌<◌, ◌≤◌, List, [], ◌++◌, Option, Some, None, refl, sym, ap, ◌∙◌, subst, append_assoc, arith}
use Rattle.std.proofs.lemmas.List.{append-nil}
use Rattle.rand_pcg.specs.Lcg.{Lcg}
use Rattle.sg_base.specs.Keys.{Master}
use Rattle.sg_gateway.specs.Runs.{world_after}
use Rattle.sg_gateway.specs.Step.{Event}
use Rattle.sg_gateway.specs.World.{empty}
use Rattle.sg_table.specs.Standing.{TableStandsFor}
use Rattle.sg_table.specs.Values.{TableValue}
use Rattle.sg_demo.specs.Demonstration.{Demo, HasTakenPrefix, calls_made, demo_of, with_call, with_caller, with_keys, with_round, with_rounds}

-- the events begin with these
pub record IsPrefix (prefix all : List Event) : Type 0 where
  pub rest : List Event
  pub are : prefix ++ rest ≡ all

pub prefix_whole : (es : List Event) → IsPrefix es es
prefix_whole es = record { rest = []; are = append-nil es }

pub prefix_more : (es fs : List Event) → IsPrefix es (es ++ fs)
prefix_more es fs = record { rest = fs; are = refl }

pub prefix_further : (a b c : List Event) → IsPrefix a b → IsPrefix b c → IsPrefix a c
prefix_further a b c f g = record { rest = f.rest ++ g.rest; are = sym (append_assoc a f.rest g.rest) ∙ ap (λ (l : List Event). l ++ g.rest) f.are ∙ g.are }

with_caller_events : (slot : Option ℕ) (n : ℕ) (a b : Master) (d : Demo) → (with_caller slot n a b d).events ≡ d.events
with_caller_events None n a b d = refl
with_caller_events (Some slot) n a b d = refl

with_keys_events : (n : ℕ) (a b : Master) (words : Lcg) (d : Demo) → IsPrefix d.events (with_keys n a b words d).events
with_keys_events n a b words d = subst (λ l. IsPrefix d.events l) (sym (with_caller_events _ n a b _)) (prefix_more d.events _)

pub call_prefix : (n : ℕ) (d : Demo) → IsPrefix d.events (with_call n d).events
unfolding with_call
call_prefix n d = with_keys_events n _ _ _ d

pub round_prefix : (d : Demo) → IsPrefix d.events (with_round d).events
unfolding with_round
round_prefix d = prefix_more d.events _

calls_prefix : (k n start : ℕ) → IsPrefix (calls_made n start).events (calls_made (k + n) start).events
unfolding calls_made
calls_prefix zero n start =
    let same : n ≡ 0 + n = omega arith in
    subst (λ (m : ℕ). IsPrefix (calls_made n start).events (calls_made m start).events) same (prefix_whole _)
calls_prefix (suc k) n start =
    let same : suc (k + n) ≡ suc k + n = omega arith in
    subst (λ (m : ℕ). IsPrefix (calls_made n start).events (calls_made m start).events) same
    (prefix_further _ _ _ (calls_prefix k n start) (call_prefix (suc (k + n)) (calls_made (k + n) start)))

rounds_prefix : (k n : ℕ) (d : Demo) → IsPrefix (with_rounds n d).events (with_rounds (k + n) d).events
unfolding with_rounds
rounds_prefix zero n d =
    let same : n ≡ 0 + n = omega arith in
    subst (λ (m : ℕ). IsPrefix (with_rounds n d).events (with_rounds m d).events) same (prefix_whole _)
rounds_prefix (suc k) n d =
    let same : suc (k + n) ≡ suc k + n = omega arith in
    subst (λ (m : ℕ). IsPrefix (with_rounds n d).events (with_rounds m d).events) same
    (prefix_further _ _ _ (rounds_prefix k n d) (round_prefix (with_rounds (k + n) d)))

all_rounds : (n : ℕ) (d : Demo) → IsPrefix d.events (with_rounds n d).events
unfolding with_rounds
all_rounds n d =
    let same : n + 0 ≡ n = omega arith in
    subst (λ (m : ℕ). IsPrefix d.events (with_rounds m d).events) same (rounds_prefix n 0 d)

-- what some of the calls, or of the rounds, have told is told in the whole
pub calls_in_whole : (n calls start : ℕ) → n ≤ calls → IsPrefix (calls_made n start).events (demo_of calls start).events
unfolding demo_of
calls_in_whole n calls start below =
    let same : calls - n + n ≡ calls = omega (arith, below) in
    prefix_further _ _ _
    (subst (λ (m : ℕ). IsPrefix (calls_made n start).events (calls_made m start).events) same (calls_prefix (calls - n) n start))
    (all_rounds 320 (calls_made calls start))

pub rounds_in_whole : (n calls start : ℕ) → n ≤ 320 → IsPrefix (with_rounds n (calls_made calls start)).events (demo_of calls start).events
unfolding demo_of
rounds_in_whole n calls start below =
    let same : 320 - n + n ≡ 320 = omega (arith, below) in
    subst (λ (m : ℕ). IsPrefix (with_rounds n (calls_made calls start)).events (with_rounds m (calls_made calls start)).events) same (rounds_prefix (320 - n) n (calls_made calls start))

-- a table that has taken a prefix of a prefix has taken a prefix
pub taken_further : (t : TableValue) (es fs : List Event) → HasTakenPrefix t es → IsPrefix es fs → HasTakenPrefix t fs
taken_further t es fs taken prefix =
    let further = prefix_further taken.taken es fs (record { rest = taken.rest; are = taken.are }) prefix in
    record { taken = taken.taken; rest = further.rest; are = further.are; stands = taken.stands }

pub taken_so_far : (t : TableValue) (es fs : List Event) → TableStandsFor t (world_after empty es) → IsPrefix es fs → HasTakenPrefix t fs
taken_so_far t es fs stands prefix = record { taken = es; rest = prefix.rest; are = prefix.are; stands = stands }

-- one call more, and one round more
pub called_is : (n m start : ℕ) → m ≡ n + 1 → with_call m (calls_made n start) ≡ calls_made (n + 1) start
unfolding calls_made
called_is n m start is =
    let next : m ≡ suc n = omega (arith, is) in
    let same : suc n ≡ n + 1 = omega arith in
    ap (λ (k : ℕ). with_call k (calls_made n start)) next ∙ ap (λ (k : ℕ). calls_made k start) same

pub round_is : (n : ℕ) (d : Demo) → with_round (with_rounds n d) ≡ with_rounds (n + 1) d
unfolding with_rounds
round_is n d =
    let same : suc n ≡ n + 1 = omega arith in
    ap (λ (k : ℕ). with_rounds k d) same

pub no_rounds : (n calls start : ℕ) → n ≡ calls → calls_made n start ≡ with_rounds 0 (calls_made calls start)
unfolding with_rounds
no_rounds n calls start is = ap (λ (k : ℕ). calls_made k start) is

pub whole_is : (n calls start : ℕ) → n ≡ 320 → with_rounds n (calls_made calls start) ≡ demo_of calls start
unfolding demo_of
whole_is n calls start is = ap (λ (k : ℕ). with_rounds k (calls_made calls start)) is

-- what a call or a round has told that failed
pub call_in_whole : (t : TableValue) (n m calls start : ℕ) → m ≡ n + 1 → n < calls → HasTakenPrefix t (with_call m (calls_made n start)).events → HasTakenPrefix t (demo_of calls start).events
call_in_whole t n m calls start is below taken =
    let most : n + 1 ≤ calls = omega (arith, below) in
    taken_further t _ _ (subst (λ (d : Demo). HasTakenPrefix t d.events) (called_is n m start is) taken) (calls_in_whole (n + 1) calls start most)

pub round_in_whole : (t : TableValue) (n calls start : ℕ) → n < 320 → HasTakenPrefix t (with_round (with_rounds n (calls_made calls start))).events → HasTakenPrefix t (demo_of calls start).events
round_in_whole t n calls start below taken =
    let most : n + 1 ≤ 320 = omega (arith, below) in
    taken_further t _ _ (subst (λ (d : Demo). HasTakenPrefix t d.events) (round_is n (calls_made calls start)) taken) (rounds_in_whole (n + 1) calls start most)
