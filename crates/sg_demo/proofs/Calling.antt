-- A demonstration after one call more.
use Rattle.std.proofs.Common.{◌≡◌, ℕ, ◌+◌, List, [], ◌∷◌, ◌++◌, Option, Some, None, refl, sym, ap, ◌∙◌, subst}
use Rattle.std.specs.List.{AllZip}
use Rattle.rand_pcg.specs.Lcg.{Lcg}
use Rattle.sg_base.specs.Keys.{Master}
use Rattle.sg_gateway.specs.Events.{outcomes_from}
use Rattle.sg_gateway.specs.Runs.{world_after}
use Rattle.sg_gateway.specs.Step.{Event}
use Rattle.sg_gateway.specs.World.{World, empty}
use Rattle.sg_table.specs.Standing.{TableStandsFor}
use Rattle.sg_table.specs.Values.{TableValue}
use Rattle.sg_demo.specs.Callers.{new_caller}
use Rattle.sg_demo.specs.Demonstration as demo
use Rattle.sg_demo.specs.Demonstration.{called_by, slot_told, with_call, with_caller, with_keys, world_of}
use Rattle.sg_demo.specs.Going.{DemoStandsFor}
use Rattle.sg_demo.specs.Standing.{CallerStandsFor}
use Rattle.sg_demo.specs.Words.{key_drawn}
use Rattle.sg_demo.specs.declared.state.Demo.{Demo}
use Rattle.sg_demo.specs.declared.summary.Summary.{Summary}
use Rattle.sg_demo.proofs.Batching.{world_after-append}

-- the call with the keys as they were drawn
pub with_call_is : (number : ℕ) (d : demo.Demo) (words middle after : Lcg) (a b : Master) → words ≡ d.words → a ≡ (key_drawn words).0 → middle ≡ (key_drawn words).1 → b ≡ (key_drawn middle).0 → after ≡ (key_drawn middle).1
    → with_call number d ≡ with_keys number a b after d
unfolding with_call
with_call_is number d words middle after a b words_are a_is middle_is b_is after_is =
    let first : a ≡ (key_drawn d.words).0 = a_is ∙ ap (λ (g : Lcg). (key_drawn g).0) words_are in
    let between : middle ≡ (key_drawn d.words).1 = middle_is ∙ ap (λ (g : Lcg). (key_drawn g).1) words_are in
    let second : b ≡ (key_drawn (key_drawn d.words).1).0 = b_is ∙ ap (λ (g : Lcg). (key_drawn g).0) between in
    let last : after ≡ (key_drawn (key_drawn d.words).1).1 = after_is ∙ ap (λ (g : Lcg). (key_drawn g).1) between in
    sym (ap (λ (x : Master). with_keys number x b after d) first
    ∙ ap (λ (x : Master). with_keys number (key_drawn d.words).0 x after d) second
    ∙ ap (λ (x : Lcg). with_keys number (key_drawn d.words).0 (key_drawn (key_drawn d.words).1).0 x d) last)

-- the slot that is told of first after these events, and the table after them
abbrev pub IsAsked : Option ℕ → TableValue → World → List Event → Type 0
IsAsked slot table w events = (slot ≡ slot_told (outcomes_from w events)) × TableStandsFor table (world_after w events)

with_caller_events : (slot : Option ℕ) (n : ℕ) (a b : Master) (d : demo.Demo) → (with_caller slot n a b d).events ≡ d.events
with_caller_events None n a b d = refl
with_caller_events (Some slot) n a b d = refl

-- the table after the call was told
pub call_taken : (number : ℕ) (d : demo.Demo) (a b : Master) (after : Lcg) (table : TableValue) → TableStandsFor table (world_after (world_of d) (called_by number a b ∷ [])) → TableStandsFor table (world_of (with_keys number a b after d))
call_taken number d a b after table stands =
    let events : (with_keys number a b after d).events ≡ d.events ++ called_by number a b ∷ [] = with_caller_events _ number a b _ in
    subst (λ (w : World). TableStandsFor table w) (sym (world_after-append empty d.events (called_by number a b ∷ [])) ∙ ap (λ (l : List Event). world_after empty l) (sym events)) stands

pub call_refused : (shown : Demo) (table : TableValue) (number : ℕ) (d : demo.Demo) (a b : Master) (after : Lcg) → shown.words ≡ after → AllZip CallerStandsFor shown.callers.items d.callers → shown.summary ≡ d.summary
    → None ≡ slot_told (outcomes_from (world_of d) (called_by number a b ∷ [])) → TableStandsFor table (world_of (with_keys number a b after d)) → DemoStandsFor shown table (with_keys number a b after d)
call_refused shown table number d a b after words_are stand summary_is none =
    subst (λ (s : Option ℕ). TableStandsFor table (world_of (with_caller s number a b (record d { words = after; events = d.events ++ called_by number a b ∷ [] })))
    → DemoStandsFor shown table (with_caller s number a b (record d { words = after; events = d.events ++ called_by number a b ∷ [] }))) none
    (λ taken. record { words = words_are; callers = stand; summary = summary_is; taken = taken })

pub call_made : (shown : Demo) (table : TableValue) (number slot : ℕ) (d : demo.Demo) (a b : Master) (after : Lcg) (before : Summary) → shown.words ≡ after
    → AllZip CallerStandsFor shown.callers.items (d.callers ++ new_caller number slot a b ∷ []) → shown.summary ≡ record before { calls = before.calls + 1 } → before ≡ d.summary
    → Some slot ≡ slot_told (outcomes_from (world_of d) (called_by number a b ∷ [])) → TableStandsFor table (world_of (with_keys number a b after d)) → DemoStandsFor shown table (with_keys number a b after d)
call_made shown table number slot d a b after before words_are stand summary_is before_is some =
    subst (λ (s : Option ℕ). TableStandsFor table (world_of (with_caller s number a b (record d { words = after; events = d.events ++ called_by number a b ∷ [] })))
    → DemoStandsFor shown table (with_caller s number a b (record d { words = after; events = d.events ++ called_by number a b ∷ [] }))) some
    (λ taken. record {
      words = words_are;
      callers = stand;
      summary = summary_is ∙ ap (λ (s : Summary). record s { calls = s.calls + 1 }) before_is;
      taken = taken;
    })
