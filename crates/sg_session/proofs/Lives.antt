-- No key of a session serves more packets than its life.
use Rattle.std.proofs.Common.{◌≡◌, ◌⊎◌, inl, inr, ℕ, ◌+◌, ◌≤◌, ◌++◌, Bool, true, false, cond, List, [], ◌∷◌, Result, Ok, Err, refl, sym, ap, ◌∙◌, subst, arith, eqb}
use Rattle.std.proofs.lemmas.Bool.{eqb-true, ltb-true}
use Rattle.std.proofs.lemmas.List.Sums.{sum_by_push}
use Rattle.std.specs.List.{AllByRecursion, Any}
use Rattle.sg_base.specs.declared.faults.DropCause.{DropCause}
use Rattle.sg_session.specs.OneSession.{HaveOwnNumbers, IsWithinLives, after, opened_all, sealed_all}
use Rattle.sg_session.specs.Opening.{Taken, opens}
use Rattle.sg_session.specs.Sealing.{seals}
use Rattle.sg_session.specs.Session.{Key, Done, Session, count_of, is_live}
use Rattle.sg_session.proofs.Lists.{each_weaker, each_both, each_at_this, any_cases}
use Rattle.sg_session.proofs.Taking.{IsNewIn, opened_new, seals_is}

-- the key of a number is one
one_number : (t : Key) (ks : List Key) → HaveOwnNumbers ks → Any (λ k. k ≡ t) ks → AllByRecursion (λ k. k.number ≡ t.number → k ≡ t) ks
one_number t [] own a = tt
one_number t (x ∷ xs) own a = go (λ rest. one_number t xs own.1 rest) (any_cases (λ k. k ≡ t) x xs a)
  where
    go : (Any (λ k. k ≡ t) xs → AllByRecursion (λ k. k.number ≡ t.number → k ≡ t) xs) → (x ≡ t) ⊎ Any (λ k. k ≡ t) xs → AllByRecursion (λ k. k.number ≡ t.number → k ≡ t) (x ∷ xs)
    go more (inl same) = ((λ e. same), each_weaker (λ l. x.number ≡ l.number → ⊥) _ (λ k differ e. absurd (differ (ap (λ (k : Key). k.number) same ∙ sym e))) xs own.0)
    go more (inr rest) = ((λ e. absurd (each_at_this (λ l. x.number ≡ l.number → ⊥) xs t own.0 rest e)), more rest)

module _ (s : Session) (t : Taken) (new : IsNewIn s t) where
  counted : (k : Key) (b : Bool) → eqb t.done.key k.number ≡ b → count_of (record s { done = s.done ++ t.done ∷ [] }) k ≡ count_of s k + cond b 1 0
  counted k b is = sum_by_push (λ (d : Done). cond (eqb d.key k.number) 1 0) s.done t.done ∙ ap (λ b. count_of s k + cond b 1 0) is

  one_more : (k : Key) → (k.number ≡ t.key.number → k ≡ t.key) → count_of s k ≤ k.life → count_of (record s { done = s.done ++ t.done ∷ [] }) k ≤ k.life
  one_more k only within = go (eqb t.done.key k.number) refl
    where
      go : (b : Bool) → eqb t.done.key k.number ≡ b → count_of (record s { done = s.done ++ t.done ∷ [] }) k ≤ k.life
      go true is =
          let live : is_live s k ≡ true = subst (λ k. is_live s k ≡ true) (sym (only (sym (eqb-true _ _ is) ∙ new.number))) new.live in
          let below = ltb-true _ _ live in
          omega (arith, counted k true is, below)
      go false is = omega (arith, counted k false is, within)

  pub taken_within : HaveOwnNumbers s.keys → IsWithinLives s → IsWithinLives (record s { done = s.done ++ t.done ∷ [] })
  taken_within own within = each_both _ _ s.keys (each_weaker _ _ one_more s.keys (one_number t.key s.keys own new.key)) within

after_within : (s : Session) (r : Result Taken DropCause) → ((t : Taken) → r ≡ Ok t → IsNewIn s t) → HaveOwnNumbers s.keys → IsWithinLives s
    → HaveOwnNumbers (after s r).keys × IsWithinLives (after s r)
after_within s (Err cause) new own within = (own, within)
after_within s (Ok t) new own within = (own, taken_within s t (new t refl) own within)

pub opened_within : (s : Session) (ds : List (List ℕ)) → HaveOwnNumbers s.keys → IsWithinLives s → IsWithinLives (opened_all s ds)
opened_within s [] own within = within
opened_within s (d ∷ ds) own within =
    let next = after_within s (opens s d) (λ t e. opened_new s d t e) own within in opened_within (after s (opens s d)) ds next.0 next.1

pub sealed_within : (s : Session) (ps : List (List ℕ)) → HaveOwnNumbers s.keys → IsWithinLives s → IsWithinLives (sealed_all s ps)
sealed_within s [] own within = within
sealed_within s (p ∷ ps) own within =
    let next = after_within s (seals s p) (λ t e. (seals_is s p t e).3.taken) own within in sealed_within (after s (seals s p)) ps next.0 next.1
