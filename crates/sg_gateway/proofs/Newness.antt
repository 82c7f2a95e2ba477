-- An index is new by what is done exactly where it is by the replay list.
use Rattle.std.proofs.Common.{◌≡◌, ℕ, ◌+◌, ◌<◌, Bool, true, false, cond, List, [], ◌∷◌, Option, Some, None, refl, sym, arith, eqb, eq-eqb}
use Rattle.std.proofs.lemmas.Bool.{or_parts, ne_eqb, eqb-true, eqb-false, leb-false, lt-leb, lt-ltb}
use Rattle.sg_replay.specs.Freshness.{highest_of, highest_with, is_behind, is_in}
use Rattle.sg_replay.specs.declared.seen.Freshness.TheVariants.{New, Repeat, TooOld}
use Rattle.sg_session.specs.Session.{Done, Key, Session, indices_of, is_admitted, is_live}
use Rattle.sg_base.specs.declared.sources.Admit.{Admit}
use Rattle.sg_base.specs.declared.sources.Admit.TheVariants as admit
use Rattle.sg_gateway.proofs.Common.{AllByRecursion, Call, Sealed, World, each_weaker}
use Rattle.sg_gateway.proofs.Pairs.{each_two}
use Rattle.sg_gateway.specs.Arriving.{Arrives}
use Rattle.sg_gateway.specs.Newness.{IsNewIn, IsLiveIn, IsFresh, IsAdmittedBy, ArrivesNew}

-- the highest, where there is one, is below
abbrev IsUnder : ℕ → Option ℕ → Type 0
IsUnder m None = Unit {0}
IsUnder m (Some h) = h < m

with_under : (o : Option ℕ) (x m : ℕ) → IsUnder m o → x < m → highest_with o x < m
with_under None x m under lt = lt
with_under (Some h) x m under lt = omega arith

under_parts : (o : Option ℕ) (x m : ℕ) → highest_with o x < m → (x < m) × IsUnder m o
under_parts None x m lt = (lt, tt)
under_parts (Some h) x m lt = (omega arith, omega arith)

not_behind : (window i : ℕ) (o : Option ℕ) → IsUnder (i + window) o → is_behind window o i ≡ false
not_behind window i None under = refl
not_behind window i (Some h) under = lt-leb (i + window) h under

is_under : (window i : ℕ) (o : Option ℕ) → is_behind window o i ≡ false → IsUnder (i + window) o
is_under window i None e = tt
is_under window i (Some h) e = leb-false (i + window) h e

module _ (ssrc : ℕ) where
  -- all that is done of the source is below, and so is the highest
  highest_under : (m : ℕ) (done : List Done) → AllByRecursion (λ d. d.ssrc ≡ ssrc → d.index < m) done → IsUnder m (highest_of (indices_of done ssrc))
  highest_under m [] p = tt
  highest_under m (d ∷ ds) p = go (eqb d.ssrc ssrc) refl (highest_under m ds p.1)
    where
      go : (b : Bool) → eqb d.ssrc ssrc ≡ b → IsUnder m (highest_of (indices_of ds ssrc)) → IsUnder m (highest_of (cond b (d.index ∷ indices_of ds ssrc) (indices_of ds ssrc)))
      go true is rest = with_under (highest_of (indices_of ds ssrc)) d.index m rest (p.0 (eqb-true d.ssrc ssrc is))
      go false is rest = rest

  all_under : (m : ℕ) (done : List Done) → IsUnder m (highest_of (indices_of done ssrc)) → AllByRecursion (λ d. d.ssrc ≡ ssrc → d.index < m) done
  all_under m [] p = tt
  all_under m (d ∷ ds) p = go (eqb d.ssrc ssrc) refl (all_under m ds) p
    where
      go : (b : Bool) → eqb d.ssrc ssrc ≡ b → (IsUnder m (highest_of (indices_of ds ssrc)) → AllByRecursion (λ d. d.ssrc ≡ ssrc → d.index < m) ds)
          → IsUnder m (highest_of (cond b (d.index ∷ indices_of ds ssrc) (indices_of ds ssrc))) → AllByRecursion (λ d. d.ssrc ≡ ssrc → d.index < m) (d ∷ ds)
      go true is rest p = let parts = under_parts (highest_of (indices_of ds ssrc)) d.index m p in ((λ e. parts.0), rest parts.1)
      go false is rest p = ((λ e. absurd (eqb-false d.ssrc ssrc is e)), rest p)

  not_in : (i : ℕ) (done : List Done) → AllByRecursion (λ d. d.ssrc ≡ ssrc → d.index ≡ i → ⊥) done → is_in (indices_of done ssrc) i ≡ false
  not_in i [] p = refl
  not_in i (d ∷ ds) p = go (eqb d.ssrc ssrc) refl (not_in i ds p.1)
    where
      go : (b : Bool) → eqb d.ssrc ssrc ≡ b → is_in (indices_of ds ssrc) i ≡ false → is_in (cond b (d.index ∷ indices_of ds ssrc) (indices_of ds ssrc)) i ≡ false
      go true is rest = rw (ne_eqb d.index i (p.0 (eqb-true d.ssrc ssrc is)), rest) refl
      go false is rest = rest

  none_is : (i : ℕ) (done : List Done) → is_in (indices_of done ssrc) i ≡ false → AllByRecursion (λ d. d.ssrc ≡ ssrc → d.index ≡ i → ⊥) done
  none_is i [] p = tt
  none_is i (d ∷ ds) p = go (eqb d.ssrc ssrc) refl (none_is i ds) p
    where
      go : (b : Bool) → eqb d.ssrc ssrc ≡ b → (is_in (indices_of ds ssrc) i ≡ false → AllByRecursion (λ d. d.ssrc ≡ ssrc → d.index ≡ i → ⊥) ds)
          → is_in (cond b (d.index ∷ indices_of ds ssrc) (indices_of ds ssrc)) i ≡ false → AllByRecursion (λ d. d.ssrc ≡ ssrc → d.index ≡ i → ⊥) (d ∷ ds)
      go true is rest p = let parts = or_parts (eqb d.index i) (is_in (indices_of ds ssrc) i) p in ((λ e same. eqb-false d.index i parts.0 same), rest parts.1)
      go false is rest p = ((λ e. absurd (eqb-false d.ssrc ssrc is e)), rest p)

pub new_is_fresh : (s : Session) (ssrc index : ℕ) → IsNewIn s ssrc index → IsFresh s ssrc index
new_is_fresh s ssrc index new =
    let behind = not_behind s.window index (highest_of (indices_of s.done ssrc)) (highest_under ssrc (index + s.window) s.done (each_weaker _ _ (λ d p e. (p e).1) s.done new)) in
    let in_it = not_in ssrc index s.done (each_weaker _ _ (λ d p e. (p e).0) s.done new) in
    rw (behind, in_it) refl

pub fresh_is_new : (s : Session) (ssrc index : ℕ) → IsFresh s ssrc index → IsNewIn s ssrc index
fresh_is_new s ssrc index fresh =
    let parts = go (is_behind s.window (highest_of (indices_of s.done ssrc)) index) (is_in (indices_of s.done ssrc) index) fresh in
    each_two (λ d. d.ssrc ≡ ssrc → d.index ≡ index → ⊥) (λ d. d.ssrc ≡ ssrc → d.index < index + s.window) (λ d. d.ssrc ≡ ssrc → (d.index ≡ index → ⊥) × (d.index < index + s.window))
    (λ d p q e. (p e, q e)) s.done
    (none_is ssrc index s.done parts.1) (all_under ssrc (index + s.window) s.done (is_under s.window index (highest_of (indices_of s.done ssrc)) parts.0))
  where
    go : (a b : Bool) → cond a TooOld (cond b Repeat New) ≡ New → (a ≡ false) × (b ≡ false)
    go true b e = absurd cc
    go false true e = absurd cc
    go false false e = (refl, refl)

pub live_is : (s : Session) (k : Key) → IsLiveIn s k → is_live s k ≡ true
live_is s k lt = lt-ltb _ _ lt

admitted_is : (a : Admit) (done : List Done) (ssrc : ℕ) → IsAdmittedBy a done ssrc → is_admitted a done ssrc ≡ true
admitted_is admit.Any done ssrc is = refl
admitted_is (admit.One own) done ssrc is = eq-eqb own ssrc (sym is)
admitted_is admit.FirstSeen [] ssrc is = refl
admitted_is admit.FirstSeen (d ∷ ds) ssrc is = eq-eqb d.ssrc ssrc (sym is)

pub arrives : (w : World) (port : ℕ) (d : List ℕ) (c : Call) (s : Session) (k : Key) (x : Sealed) → ArrivesNew w port d c s k x → Arrives w port d c s k x
arrives w port d c s k x is = record {
  comes = is.comes;
  live = live_is s k is.live;
  within = record { admitted = admitted_is s.admit s.done x.ssrc is.admitted; room = is.room; near = is.near; new = new_is_fresh s x.ssrc x.index is.new };
}
