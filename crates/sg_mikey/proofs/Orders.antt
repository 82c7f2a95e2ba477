-- The order of a chain: the reader's stages, and what may stand where.
use Rattle.std.proofs.Common.{◌≡◌, ◌≢◌, ℕ, zero, suc, ◌+◌, ◌<◌, ◌≤◌, Bool, true, false, ◌&&◌, cond, nat_eq, nat_lt, List, [], ◌∷◌, ◌++◌, Some, None, refl, sym, ap, subst, ◌∙◌, add-zero, zero-add, arith, ◌⊎◌, inl, inr}
use Rattle.std.specs.Prelude.{count_by}
use Rattle.std.specs.List.{list_all}
use Rattle.std.proofs.lemmas.Bool.{cases_Bool, cases_eq, eqb-true, ne_eqb, lt-ltb, ltb-true, and_parts}
use Rattle.std.proofs.lemmas.List.Sums.{sum_by-cons}
use Rattle.sg_base.proofs.Cases.{chosen, some_is}
use Rattle.sg_mikey.specs.declared.chain.Stage.{Stage}
use Rattle.sg_mikey.specs.declared.chain.Stage.TheVariants.{BeforeTime, BeforeRandom, Between, Over}
use Rattle.sg_mikey.specs.Chain.{stage_after, is_over}
use Rattle.sg_mikey.specs.Spelling.{is_between, opening_of, closing_of, most_ids, IsChain}
use Rattle.sg_mikey.proofs.PayloadLaws.{IsPlaced}

-- The stages take these numbers, and the chain is over behind them.
abbrev pub Accepts : ℕ → Stage → List ℕ → Type 0
Accepts kind stage [] = is_over stage ≡ true
Accepts kind stage (n ∷ ns) = (behind : Stage) × (stage_after kind stage n ≡ Some behind) × Accepts kind behind ns

-- a step between the first payloads and the last
pub data Step (kind ids n : ℕ) (behind : Stage) : Type 0 where
  an_id : n ≡ 6 → ids < most_ids kind → behind ≡ Between (ids + 1) → Step kind ids n behind
  another : n ≢ 6 → is_between kind n ≡ true → (n ≡ 21) ⊎ (n ≡ 10) → behind ≡ Between ids → Step kind ids n behind
  the_last : n ≡ closing_of kind → behind ≡ Over → Step kind ids n behind

not_six : (n m : ℕ) → n ≡ m → m ≢ 6 → n ≢ 6
not_six n m e h f = h (sym e ∙ f)

step_of : (kind ids n : ℕ) (behind : Stage) → stage_after kind (Between ids) n ≡ Some behind → Step kind ids n behind
step_of kind ids n behind e =
    elim (chosen (nat_eq n 6) (cond (nat_lt ids (most_ids kind)) (Some (Between (ids + 1))) None) (cond (nat_eq n 21) (Some (Between ids)) (cond (nat_eq n 10 && nat_eq kind 0) (Some (Between ids)) (cond (nat_eq n (closing_of kind)) (Some Over) None))) (Some behind) e) [
      | inl six ↦
          (elim (chosen (nat_lt ids (most_ids kind)) (Some (Between (ids + 1))) None (Some behind) six.1) [
            | inl few ↦ an_id (eqb-true n 6 six.0) (ltb-true ids (most_ids kind) few.0) (sym (some_is _ _ few.1))
            | inr many ↦ absurd (let no = many.1 in cc)
          ])
      | inr other ↦
          (elim (chosen (nat_eq n 21) (Some (Between ids)) (cond (nat_eq n 10 && nat_eq kind 0) (Some (Between ids)) (cond (nat_eq n (closing_of kind)) (Some Over) None)) (Some behind) other.1) [
            | inl extension ↦
                (let is : n ≡ 21 = eqb-true n 21 extension.0 in
                another (not_six n 21 is (omega arith)) (rw (other.0, extension.0) refl) (inl is) (sym (some_is _ _ extension.1)))
            | inr rest ↦
                (elim (chosen (nat_eq n 10 && nat_eq kind 0) (Some (Between ids)) (cond (nat_eq n (closing_of kind)) (Some Over) None) (Some behind) rest.1) [
                  | inl policy ↦
                      (let parts = and_parts (nat_eq n 10) (nat_eq kind 0) policy.0 in
                      let is : n ≡ 10 = eqb-true n 10 parts.0 in
                      another (not_six n 10 is (omega arith)) (rw (other.0, rest.0, policy.0) refl) (inr is) (sym (some_is _ _ policy.1)))
                  | inr last ↦
                      (elim (chosen (nat_eq n (closing_of kind)) (Some Over) None (Some behind) last.1) [
                        | inl closing ↦ the_last (eqb-true n (closing_of kind) closing.0) (sym (some_is _ _ closing.1))
                        | inr nothing ↦ absurd (let no = nothing.1 in cc)
                      ])
                ])
          ])
    ]

-- what stands from between the first payloads and the last on
pub record Ends (kind ids : ℕ) (numbers : List ℕ) : Type 0 where
  pub between : List ℕ
  pub order : numbers ≡ between ++ closing_of kind ∷ []
  pub only : list_all (is_between kind) between ≡ true
  pub count : ids + count_by (λ n. nat_eq n 6) between ≤ most_ids kind

-- how many of these are IDs
abbrev ids_of : List ℕ → ℕ
ids_of ns = count_by (λ n. nat_eq n 6) ns

ids_of-six : (ns : List ℕ) → ids_of (6 ∷ ns) ≡ 1 + ids_of ns
ids_of-six ns = sum_by-cons (λ n. cond (nat_eq n 6) 1 0) 6 ns

ids_of-other : (n : ℕ) (ns : List ℕ) → n ≢ 6 → ids_of (n ∷ ns) ≡ ids_of ns
ids_of-other n ns ne = sum_by-cons (λ m. cond (nat_eq m 6) 1 0) n ns ∙ rw (ne_eqb n 6 ne) (zero-add (ids_of ns))

id_first : (kind ids n : ℕ) (ns : List ℕ) → n ≡ 6 → Ends kind (ids + 1) ns → Ends kind ids (n ∷ ns)
id_first kind ids n ns is e = record {
  between = n ∷ e.between;
  order = ap (λ (l : List ℕ). n ∷ l) e.order;
  only = rw is e.only;
  count = rw is (omega (arith, e.count, ids_of-six e.between));
}

other_first : (kind ids n : ℕ) (ns : List ℕ) → n ≢ 6 → is_between kind n ≡ true → Ends kind ids ns → Ends kind ids (n ∷ ns)
other_first kind ids n ns is_not is_one e = record {
  between = n ∷ e.between;
  order = ap (λ (l : List ℕ). n ∷ l) e.order;
  only = rw is_one e.only;
  count = omega (arith, e.count, ids_of-other n e.between is_not);
}

over_ends : (kind : ℕ) (ns : List ℕ) → Accepts kind Over ns → ns ≡ []
over_ends kind [] a = refl
over_ends kind (n ∷ ns) a = absurd (let no = a.1 in cc)

ends_of : (kind ids : ℕ) (ns : List ℕ) → ids ≤ most_ids kind → Accepts kind (Between ids) ns → Ends kind ids ns
ends_of kind ids [] le a = absurd cc
ends_of kind ids (n ∷ ns) le a =
    elim (step_of kind ids n a.0 a.1) [
      | an_id is few behind ↦ id_first kind ids n ns is (ends_of kind (ids + 1) ns (omega arith) (subst (λ s. Accepts kind s ns) behind a.2))
      | another is_not is_one which behind ↦ other_first kind ids n ns is_not is_one (ends_of kind ids ns le (subst (λ s. Accepts kind s ns) behind a.2))
      | the_last is behind ↦
          (let nothing : ns ≡ [] = over_ends kind ns (subst (λ s. Accepts kind s ns) behind a.2) in
          record { between = []; order = rw (is, nothing) refl; only = refl; count = rw (add-zero) le })
    ]

-- ---- and back

accepts_id : (kind ids : ℕ) (ns : List ℕ) → ids < most_ids kind → Accepts kind (Between (ids + 1)) ns → Accepts kind (Between ids) (6 ∷ ns)
accepts_id kind ids ns few a = (Between (ids + 1), rw (lt-ltb ids (most_ids kind) few) refl, a)

other_step : (kind ids n : ℕ) → n ≢ 6 → is_between kind n ≡ true → stage_after kind (Between ids) n ≡ Some (Between ids)
other_step kind ids n is_not is_one =
    elim (cases_Bool (nat_eq n 21)) [
      | inl extension ↦ rw (ne_eqb n 6 is_not, extension) refl
      | inr other ↦
          (let policy : (nat_eq n 10 && nat_eq kind 0) ≡ true = rw (ne_eqb n 6 is_not, other) at is_one in
          rw (ne_eqb n 6 is_not, other, policy) refl)
    ]

accepts_other : (kind ids n : ℕ) (ns : List ℕ) → n ≢ 6 → is_between kind n ≡ true → Accepts kind (Between ids) ns → Accepts kind (Between ids) (n ∷ ns)
accepts_other kind ids n ns is_not is_one a = (Between ids, other_step kind ids n is_not is_one, a)

accepts_last : (kind ids : ℕ) → Accepts kind (Between ids) (closing_of kind ∷ [])
accepts_last kind ids =
    elim (cases_Bool (nat_eq kind 0)) [
      | inl first ↦ (Over, rw first refl, refl)
      | inr second ↦ (Over, rw second refl, refl)
    ]

accepts_between : (kind ids : ℕ) (between : List ℕ) → list_all (is_between kind) between ≡ true → ids + count_by (λ n. nat_eq n 6) between ≤ most_ids kind
    → Accepts kind (Between ids) (between ++ closing_of kind ∷ [])
accepts_between kind ids [] only few = accepts_last kind ids
accepts_between kind ids (n ∷ ns) only few =
    let parts = and_parts (is_between kind n) (list_all (is_between kind) ns) only in
    elim (cases_eq n 6) [
      | inl six ↦
          (let fewer : ids + ids_of (6 ∷ ns) ≤ most_ids kind = rw six at few in
          let count = ids_of-six ns in
          rw six (accepts_id kind ids (ns ++ closing_of kind ∷ []) (omega arith) (accepts_between kind (ids + 1) ns parts.1 (omega arith))))
      | inr other ↦
          (let same : ids + ids_of ns ≤ most_ids kind = omega (arith, few, ids_of-other n ns other) in
          accepts_other kind ids n (ns ++ closing_of kind ∷ []) other parts.0 (accepts_between kind ids ns parts.1 same))
    ]

-- ---- the whole chain

-- behind T comes RAND in the initiator's message
abbrev second_stage : ℕ → Stage
second_stage kind = cond (nat_eq kind 0) BeforeRandom (Between 0)

opt_is : (b : Bool) (x : Stage) (behind : Stage) → cond b (Some x) None ≡ Some behind → (b ≡ true) × (behind ≡ x)
opt_is true x behind e = (refl, sym (some_is _ _ e))
opt_is false x behind e = absurd cc

first_is : (kind n : ℕ) (behind : Stage) → stage_after kind BeforeTime n ≡ Some behind → (n ≡ 5) × (behind ≡ second_stage kind)
first_is kind n behind e = let p = opt_is (nat_eq n 5) (second_stage kind) behind e in (eqb-true n 5 p.0, p.1)

second_is : (kind n : ℕ) (behind : Stage) → stage_after kind BeforeRandom n ≡ Some behind → (n ≡ 11) × (behind ≡ Between 0)
second_is kind n behind e = let p = opt_is (nat_eq n 11) (Between 0) behind e in (eqb-true n 11 p.0, p.1)

-- a number that may stand where it stands is a payload's
pub placed_of : (kind n : ℕ) (stage behind : Stage) → stage_after kind stage n ≡ Some behind → IsPlaced n
placed_of kind n BeforeTime behind e = inr (inl (first_is kind n behind e).0)
placed_of kind n BeforeRandom behind e = inr (inr (inr (inr (inr (inl (second_is kind n behind e).0)))))
placed_of kind n (Between ids) behind e =
    elim (step_of kind ids n behind e) [
      | an_id is few same ↦ inr (inr (inl is))
      | another is_not is_one which same ↦
          (elim which [
            | inl extension ↦ inr (inr (inr (inr (inr (inr extension)))))
            | inr policy ↦ inr (inr (inr (inr (inl policy))))
          ])
      | the_last is same ↦
          (elim (cases_Bool (nat_eq kind 0)) [
            | inl first ↦ inl (is ∙ rw first refl)
            | inr second ↦ inr (inr (inr (inl (is ∙ rw second refl))))
          ])
    ]
placed_of kind n Over behind e = absurd cc

random_first : (ns : List ℕ) → Accepts 0 BeforeRandom ns → (ms : List ℕ) × (ns ≡ 11 ∷ ms) × Ends 0 0 ms
random_first [] a = absurd cc
random_first (m ∷ ms) a =
    let p = second_is 0 m a.0 a.1 in
    (ms, ap (λ (k : ℕ). k ∷ ms) p.0, ends_of 0 0 ms (omega arith) (subst (λ s. Accepts 0 s ms) p.1 a.2))

not_first : (kind : ℕ) → nat_eq (suc kind) 0 ≡ false
not_first kind = ne_eqb (suc kind) 0 (omega arith)

opening_second : (kind : ℕ) → opening_of (suc kind) ≡ 5 ∷ []
opening_second kind = rw (not_first kind) refl

second_stage_second : (kind : ℕ) → second_stage (suc kind) ≡ Between 0
second_stage_second kind = rw (not_first kind) refl

pub chain_of : (kind : ℕ) (ns : List ℕ) → Accepts kind BeforeTime ns → IsChain kind ns
chain_of kind [] a = absurd cc
chain_of zero (n ∷ ns) a =
    let p = first_is 0 n a.0 a.1 in
    let q = random_first ns (subst (λ s. Accepts 0 s ns) p.1 a.2) in
    record {
      between = q.2.between;
      order = ap (λ (k : ℕ). k ∷ ns) p.0 ∙ ap (λ (l : List ℕ). 5 ∷ l) (q.1 ∙ ap (λ (l : List ℕ). 11 ∷ l) q.2.order);
      only = q.2.only;
      ids = omega (arith, q.2.count);
    }
chain_of (suc kind) (n ∷ ns) a =
    let p = first_is (suc kind) n a.0 a.1 in
    let q = ends_of (suc kind) 0 ns (omega arith) (subst (λ s. Accepts (suc kind) s ns) (p.1 ∙ second_stage_second kind) a.2) in
    record {
      between = q.between;
      order = ap (λ (k : ℕ). k ∷ ns) p.0 ∙ ap (λ (l : List ℕ). 5 ∷ l) q.order
          ∙ ap (λ (o : List ℕ). o ++ q.between ++ closing_of (suc kind) ∷ []) (sym (opening_second kind));
      only = q.only;
      ids = omega (arith, q.count);
    }

pub accepts_chain : (kind : ℕ) (ns : List ℕ) → IsChain kind ns → Accepts kind BeforeTime ns
accepts_chain zero ns c =
    subst (λ (l : List ℕ). Accepts 0 BeforeTime l) (sym c.order)
    (BeforeRandom, refl, (Between 0, refl, accepts_between 0 0 c.between c.only (omega (arith, c.ids))))
accepts_chain (suc kind) ns c =
    let order : ns ≡ 5 ∷ (c.between ++ closing_of (suc kind) ∷ []) =
    c.order ∙ ap (λ (o : List ℕ). o ++ c.between ++ closing_of (suc kind) ∷ []) (opening_second kind) in
    subst (λ (l : List ℕ). Accepts (suc kind) BeforeTime l) (sym order)
    (Between 0, rw (not_first kind) refl, accepts_between (suc kind) 0 c.between c.only (omega (arith, c.ids)))
