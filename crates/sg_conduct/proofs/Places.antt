-- A source has a place where all that is done is of fewer than 64 sources.
use Rattle.std.proofs.Common.{◌≡◌, inl, inr, ℕ, ◌+◌, ◌≤◌, Bool, true, false, cond, List, [], ◌∷◌, ◌++◌, length, refl, sym, ap, ◌∙◌, subst, arith, eqb, ltb}
use Rattle.std.proofs.lemmas.Bool.{eq-eqb, eqb-false, lt-ltb, ltb-true, or_parts}
use Rattle.std.specs.List.{AllByRecursion, Any}
use Rattle.std.specs.Prelude.{◌||◌}
use Rattle.sg_base.specs.declared.sources.Admit.{Admit}
use Rattle.sg_base.specs.declared.sources.Admit.TheVariants as admit
use Rattle.sg_gateway.proofs.Common.{Call, Kind, Rtcp, Rtp, Turn, World}
use Rattle.sg_gateway.proofs.Newness.{live_is, new_is_fresh}
use Rattle.sg_gateway.specs.Departing as departing
use Rattle.sg_gateway.specs.Newness.{ArrivesNew, IsAdmittedBy}
use Rattle.sg_replay.specs.Freshness.{is_in}
use Rattle.sg_session.proofs.Lists.{any_append, any_cases, any_here, any_last, any_none, any_there, any_weaker, both, each_append}
use Rattle.sg_session.specs.Reach.{IsFree, Sealed}
use Rattle.sg_session.specs.Session.{Done, Key, Session, has_room, is_admitted, source_with, sources, sources_from}
use Rattle.sg_base.specs.declared.addresses.Address.{Address}
use Rattle.sg_conduct.specs.Place.{ArrivesWithinReach, DepartsWithinReach, HasPlace, IsFreeIn, IsSealedUnder}

-- ---- what is in the list of sources

abbrev is : ℕ → ℕ → Bool
is ssrc x = eqb x ssrc

acc_stays : (acc : List ℕ) (ds : List Done) (x : ℕ) → is_in acc x ≡ true → is_in (sources_from acc ds) x ≡ true
acc_stays acc [] x e = e
acc_stays acc (d ∷ ds) x e =
    acc_stays (source_with acc d.ssrc) ds x (both (λ (l : List ℕ). is_in l x ≡ true) (is_in acc d.ssrc) acc (acc ++ d.ssrc ∷ []) e (any_append (is x) acc (d.ssrc ∷ []) e))

with_has : (acc : List ℕ) (x : ℕ) → is_in (source_with acc x) x ≡ true
with_has acc x = go (is_in acc x) refl
  where
    go : (b : Bool) → is_in acc x ≡ b → is_in (cond b acc (acc ++ x ∷ [])) x ≡ true
    go true e = e
    go false e = any_last (is x) acc x (eq-eqb x x refl)

pub done_is_there : (acc : List ℕ) (ds : List Done) (ssrc : ℕ) → Any (λ d. d.ssrc ≡ ssrc) ds → is_in (sources_from acc ds) ssrc ≡ true
done_is_there acc [] ssrc a = absurd (any_none (λ (d : Done). d.ssrc ≡ ssrc) a)
done_is_there acc (d ∷ ds) ssrc a = elim (any_cases (λ (d : Done). d.ssrc ≡ ssrc) d ds a) [
  | inl same ↦ acc_stays (source_with acc d.ssrc) ds ssrc (subst (λ x. is_in (source_with acc d.ssrc) x ≡ true) same (with_has acc d.ssrc))
  | inr more ↦ done_is_there (source_with acc d.ssrc) ds ssrc more
]

-- ---- a list without repeats is no longer than one that has all of it

abbrev AreApart : List ℕ → Type 0
AreApart [] = Unit {0}
AreApart (x ∷ xs) = AllByRecursion (λ y. x ≡ y → ⊥) xs × AreApart xs

abbrev Has : List ℕ → ℕ → Type 0
Has zs x = Any (λ z. z ≡ x) zs

record Without (x : ℕ) (zs : List ℕ) : Type 0 where
  rest : List ℕ
  size : length zs ≡ length rest + 1
  has : (y : ℕ) → (x ≡ y → ⊥) → Has zs y → Has rest y

without : (x : ℕ) (zs : List ℕ) → Has zs x → Without x zs
without x [] a = absurd (any_none (λ z. z ≡ x) a)
without x (z ∷ zs) a = elim (any_cases (λ z. z ≡ x) z zs a) [
  | inl same ↦ record {
    rest = zs;
    size = omega arith;
    has = λ y other b. elim (any_cases (λ z. z ≡ y) z zs b) [
      | inl at ↦ absurd (other (sym same ∙ at))
      | inr more ↦ more
    ];
  }
  | inr more ↦ let r = without x zs more in record {
    rest = z ∷ r.rest;
    size = (let n = r.size in omega (arith, n));
    has = λ y other b. elim (any_cases (λ z. z ≡ y) z zs b) [
      | inl at ↦ any_here (λ z. z ≡ y) z r.rest at
      | inr later ↦ any_there (λ z. z ≡ y) z r.rest (r.has y other later)
    ];
  }
]

each_two : {X : Type 0} (P Q R : X → Type 0) → ((x : X) → P x → Q x → R x) → (xs : List X) → AllByRecursion P xs → AllByRecursion Q xs → AllByRecursion R xs
each_two P Q R h [] p q = tt
each_two P Q R h (x ∷ xs) p q = (h x p.0 q.0, each_two P Q R h xs p.1 q.1)

no_longer : (xs zs : List ℕ) → AreApart xs → AllByRecursion (Has zs) xs → length xs ≤ length zs
no_longer [] zs apart all = omega arith
no_longer (x ∷ xs) zs apart all =
    let r = without x zs all.0 in
    let le = no_longer xs r.rest apart.1 (each_two (λ y. x ≡ y → ⊥) (Has zs) (Has r.rest) (λ y other a. r.has y other a) xs apart.0 all.1) in
    let n = r.size in
    omega (arith, le, n)

-- ---- the sources are apart

absent : (acc : List ℕ) (x : ℕ) → is_in acc x ≡ false → AllByRecursion (λ y. y ≡ x → ⊥) acc
absent [] x e = tt
absent (y ∷ ys) x e = let parts = or_parts (eqb y x) (is_in ys x) e in (eqb-false y x parts.0, absent ys x parts.1)

apart_last : (acc : List ℕ) (x : ℕ) → AreApart acc → AllByRecursion (λ y. y ≡ x → ⊥) acc → AreApart (acc ++ x ∷ [])
apart_last [] x apart other = (tt, tt)
apart_last (y ∷ ys) x apart other = (each_append (λ z. y ≡ z → ⊥) ys (x ∷ []) apart.0 (other.0, tt), apart_last ys x apart.1 other.1)

few_sources : (zs acc : List ℕ) (ds : List Done) → AreApart acc → AllByRecursion (Has zs) acc → AllByRecursion (λ d. Has zs d.ssrc) ds → length (sources_from acc ds) ≤ length zs
few_sources zs acc [] apart all done = no_longer acc zs apart all
few_sources zs acc (d ∷ ds) apart all done = go (λ bs part has. few_sources zs bs ds part has done.1) (is_in acc d.ssrc) refl
  where
    go : ((bs : List ℕ) → AreApart bs → AllByRecursion (Has zs) bs → length (sources_from bs ds) ≤ length zs) → (b : Bool) → is_in acc d.ssrc ≡ b → length (sources_from (cond b acc (acc ++ d.ssrc ∷ [])) ds) ≤ length zs
    go rest true e = rest acc apart all
    go rest false e = rest (acc ++ d.ssrc ∷ []) (apart_last acc d.ssrc apart (absent acc d.ssrc e)) (each_append (Has zs) acc (d.ssrc ∷ []) all (done.0, tt))

pub place_is : (s : Session) (ssrc : ℕ) → HasPlace s ssrc → has_room s ssrc ≡ true
place_is s ssrc (inl there) = ap (λ b. b || ltb (length (sources s.done)) 64) (done_is_there [] s.done ssrc there)
place_is s ssrc (inr few) =
    let le = few_sources few.0 [] s.done tt tt few.2 in
    let lt = few.1 in
    either (is_in (sources s.done) ssrc) (lt-ltb (length (sources s.done)) 64 (omega (arith, le, lt)))
  where
    either : (b : Bool) → ltb (length (sources s.done)) 64 ≡ true → b || ltb (length (sources s.done)) 64 ≡ true
    either true e = refl
    either false e = e

-- ---- what arrives and departs

pub admitted_is : (a : Admit) (done : List Done) (ssrc : ℕ) → IsAdmittedBy a done ssrc → is_admitted a done ssrc ≡ true
admitted_is admit.Any done ssrc is = refl
admitted_is (admit.One own) done ssrc is = eq-eqb own ssrc (sym is)
admitted_is admit.FirstSeen [] ssrc is = refl
admitted_is admit.FirstSeen (d ∷ ds) ssrc is = eq-eqb d.ssrc ssrc (sym is)

pub arrives_new : (w : World) (port : ℕ) (d : List ℕ) (c : Call) (s : Session) (k : Key) (x : Sealed) → ArrivesWithinReach w port d c s k x → ArrivesNew w port d c s k x
arrives_new w port d c s k x a = record { comes = a.comes; live = a.live; admitted = a.admitted; room = place_is s x.ssrc a.place; near = a.near; new = a.new }

free_is : (kind : Kind) (s : Session) (ssrc index : ℕ) → IsFreeIn kind s ssrc index → IsFree kind s ssrc index
free_is Rtp s ssrc index is = (is.0, new_is_fresh s ssrc index is.1)
free_is Rtcp s ssrc index is = is

pub departs : (w : World) (port : ℕ) (from : Address) (p : List ℕ) (c : Call) (s : Session) (ssrc index : ℕ) → DepartsWithinReach w port from p c s ssrc index → departing.Departs w port from p c s ssrc index
departs w port from p c s ssrc index a = record {
  call = a.call;
  session = a.session;
  sealing = a.sealing;
  at_port = a.at_port;
  source = a.source;
  short = a.short;
  can = record {
    head = a.head;
    admitted = admitted_is s.admit s.done ssrc a.admitted;
    room = place_is s ssrc a.place;
    live = any_weaker _ _ (λ k lt. live_is s k lt) s.keys a.live;
    free = free_is s.name.kind s ssrc index a.free;
  };
}

pub sealed_live : (t : Turn) (c : Call) (s : Session) (ssrc index : ℕ) (p : List ℕ) (k : Key) → departing.IsSealedUnder t c s ssrc index p k → IsSealedUnder t c s ssrc index p k
sealed_live t c s ssrc index p k is = record { live = ltb-true _ _ is.live; sealed = is.sealed; out = is.out }
