-- A session takes no source and index twice.
use Rattle.std.proofs.Common.{◌≡◌, inl, inr, ℕ, Bool, true, false, cond, List, [], ◌∷◌, Result, Ok, Err, refl, sym, ◌∙◌, eqb, eq-eqb}
use Rattle.std.proofs.lemmas.Bool.{or_left, or_right, or_cases, eqb-true, false≢true}
use Rattle.std.proofs.lemmas.List.Elements.{All-from_recursion}
use Rattle.std.proofs.lemmas.List.Quantifiers.{all_pairs_push}
use Rattle.std.specs.List.{AllByRecursion, Any}
use Rattle.sg_base.specs.declared.faults.DropCause.{DropCause}
use Rattle.sg_session.specs.OneSession.{IsSameIndex, NoneTwiceIn, after, opened_all, sealed_all}
use Rattle.sg_session.specs.Opening.{Taken, opens}
use Rattle.sg_session.specs.Sealing.{seals}
use Rattle.sg_session.specs.Session.{Done, Session, indices_of, has_done}
use Rattle.sg_replay.specs.Freshness.{is_in}
use Rattle.sg_session.proofs.Lists.{each_weaker, any_here, any_there}
use Rattle.sg_session.proofs.Taking.{opened_new, seals_is}

-- the first entry is done, and what the others have done
pub done_here : (d : Done) (ds : List Done) → has_done (d ∷ ds) d.ssrc d.index ≡ true
done_here d ds = go (eqb d.ssrc d.ssrc) (eq-eqb d.ssrc d.ssrc refl)
  where
    go : (b : Bool) → b ≡ true → is_in (cond b (d.index ∷ indices_of ds d.ssrc) (indices_of ds d.ssrc)) d.index ≡ true
    go true is = or_left _ _ (eq-eqb d.index d.index refl)
    go false is = absurd (false≢true is)

pub done_there : (d : Done) (ds : List Done) (ssrc index : ℕ) → has_done ds ssrc index ≡ true → has_done (d ∷ ds) ssrc index ≡ true
done_there d ds ssrc index h = go (eqb d.ssrc ssrc)
  where
    go : (b : Bool) → is_in (cond b (d.index ∷ indices_of ds ssrc) (indices_of ds ssrc)) index ≡ true
    go true = or_right _ _ h
    go false = h

-- an index that is done is that of an entry
pub done_at : (done : List Done) (ssrc index : ℕ) → has_done done ssrc index ≡ true → Any (λ d. (d.ssrc ≡ ssrc) × (d.index ≡ index)) done
done_at [] ssrc index e = absurd (false≢true e)
done_at (d ∷ ds) ssrc index e = go (done_at ds ssrc index) (eqb d.ssrc ssrc) refl e
  where
    go : (has_done ds ssrc index ≡ true → Any (λ d. (d.ssrc ≡ ssrc) × (d.index ≡ index)) ds) → (b : Bool) → eqb d.ssrc ssrc ≡ b
        → is_in (cond b (d.index ∷ indices_of ds ssrc) (indices_of ds ssrc)) index ≡ true → Any (λ d. (d.ssrc ≡ ssrc) × (d.index ≡ index)) (d ∷ ds)
    go rest true of e = elim (or_cases (eqb d.index index) (is_in (indices_of ds ssrc) index) e) [
      | inl here ↦ any_here (λ d. (d.ssrc ≡ ssrc) × (d.index ≡ index)) d ds (eqb-true _ _ of, eqb-true _ _ here)
      | inr there ↦ any_there (λ d. (d.ssrc ≡ ssrc) × (d.index ≡ index)) d ds (rest there)
    ]
    go rest false of e = any_there (λ d. (d.ssrc ≡ ssrc) × (d.index ≡ index)) d ds (rest e)

-- each entry is done
pub each_is_done : (done : List Done) → AllByRecursion (λ d. has_done done d.ssrc d.index ≡ true) done
each_is_done [] = tt
each_is_done (d ∷ ds) = (done_here d ds, each_weaker _ _ (λ e p. done_there d ds e.ssrc e.index p) ds (each_is_done ds))

-- what is new stands apart from all that is done
pub new_apart : (done : List Done) (e : Done) → has_done done e.ssrc e.index ≡ false → AllByRecursion (λ d. IsSameIndex d e → ⊥) done
new_apart done e new = each_weaker _ _ (λ d is same.
    let moved : has_done done d.ssrc d.index ≡ has_done done e.ssrc e.index = (λ i. has_done done (same.ssrc i) (same.index i)) in
    false≢true (sym new ∙ sym moved ∙ is)) done (each_is_done done)

after_new : (s : Session) (r : Result Taken DropCause) → ((t : Taken) → r ≡ Ok t → has_done s.done t.done.ssrc t.done.index ≡ false) → NoneTwiceIn s → NoneTwiceIn (after s r)
after_new s (Err cause) new none = none
after_new s (Ok t) new none =
    all_pairs_push (λ a b. IsSameIndex a b → ⊥) s.done t.done none (All-from_recursion (λ d. IsSameIndex d t.done → ⊥) s.done (new_apart s.done t.done (new t refl)))

pub none_opened_twice : (s : Session) (ds : List (List ℕ)) → NoneTwiceIn s → NoneTwiceIn (opened_all s ds)
none_opened_twice s [] none = none
none_opened_twice s (d ∷ ds) none = none_opened_twice (after s (opens s d)) ds (after_new s (opens s d) (λ t e. (opened_new s d t e).new) none)

pub none_sealed_twice : (s : Session) (ps : List (List ℕ)) → NoneTwiceIn s → NoneTwiceIn (sealed_all s ps)
none_sealed_twice s [] none = none
none_sealed_twice s (p ∷ ps) none = none_sealed_twice (after s (seals s p)) ps (after_new s (seals s p) (λ t e. (seals_is s p t e).3.taken.new) none)
