-- A signal that is taken does its part.
use Rattle.std.proofs.Common.{◌≡◌, ◌⊎◌, inl, inr, ℕ, ◌+◌, ◌<◌, ◌≤◌, Bool, true, false, cond, not, ◌&&◌, List, [], ◌∷◌, ◌++◌, get_or, map, Option, Some, None, Result, Ok, Err, refl, sym, ap, ◌∙◌, subst, arith, eqb, ltb, eq-eqb, length}
use Rattle.std.proofs.lemmas.Bool.{cond-true, and_from, and_parts, eqb-true, eqb-false, ltb-true, leb-true, lt-leb}
use Rattle.std.specs.Option.{is_some}
use Rattle.sg_base.specs.declared.faults.Refusal.TheVariants.{State, TickBack}
use Rattle.sg_outcome.specs.declared.outcomes.Why.TheVariants as why
use Rattle.sg_session.specs.Session.{Session, same_direction}
use Rattle.sg_gateway.proofs.Common.{All-from_recursion, AllByRecursion, Any, Call, CallId, Contains, IsBefore, IsRefusal, Offer, Opening, Refusal, Signalled}
use Rattle.sg_gateway.proofs.Common.{World, any_cases, any_here, any_none, any_there, any_weaker, both, call_of, each_append, each_weaker, filter, find_call}
use Rattle.sg_gateway.proofs.Common.{is_current, is_opening, none_some, same_id, sessions_from, some_is, with_call}
use Rattle.sg_gateway.proofs.Arrivals.{kept_by}
use Rattle.sg_gateway.proofs.Freed.{Frees, event_frees}
use Rattle.sg_gateway.proofs.InTurn.{found_passes}
use Rattle.sg_gateway.proofs.Lists.{all_any, any_second}
use Rattle.sg_gateway.proofs.Pairs.{Pairs}
use Rattle.sg_gateway.proofs.StepCases.{after_tick, answer_of, renewed_by}
use Rattle.sg_gateway.specs.CallSignals.{rejected_in, is_idle, drops_earlier, without_earlier, call_at_tick}
use Rattle.sg_gateway.specs.CarriedOut.{IsKeptTo}
use Rattle.sg_gateway.specs.Signals.{Reject, Bye, refused, ticked, rejected_to, rejected, left, answer_to, Answer, Answered}

-- the call that is found has the id
pub id_found : (id : CallId) (c : Call) (cs : List Call) → find_call (λ x. same_id x.id id) cs ≡ Some c → same_id c.id id ≡ true
id_found id c cs e = found_passes (λ x. same_id x.id id) cs c e

pub same_call_id : (id : CallId) (c : Call) (cs : List Call) → find_call (λ x. same_id x.id id) cs ≡ Some c → c.id ≡ id
same_call_id id c cs e = let is : c.id.0 ≡ id.0 = eqb-true _ _ (id_found id c cs e) in (λ i. record { 0 = is i })

-- a call that is put in the place of the one of an id is found by that id
pub found_with : (id : CallId) (c d : Call) (cs : List Call) → d.serial ≡ c.serial → same_id d.id id ≡ true → find_call (λ x. same_id x.id id) cs ≡ Some c
    → find_call (λ x. same_id x.id id) (with_call d cs) ≡ Some d
found_with id c d [] serial own e = absurd cc
found_with id c d (x ∷ xs) serial own e = at (find_call (λ x. same_id x.id id) (with_call d xs)) (found_with id c d xs serial own) (eqb x.serial d.serial) refl
  where
    by_id : (later : Option Call) → (find_call (λ x. same_id x.id id) xs ≡ Some c → later ≡ Some d) → (x.serial ≡ d.serial → ⊥) → (b : Bool)
        → cond b (Some x) (find_call (λ x. same_id x.id id) xs) ≡ Some c → cond b (Some x) later ≡ Some d
    by_id later rest other true e = absurd (other (ap (λ (y : Call). y.serial) (some_is x c e) ∙ sym serial))
    by_id later rest other false e = rest e

    at : (later : Option Call) → (find_call (λ x. same_id x.id id) xs ≡ Some c → later ≡ Some d) → (b : Bool) → eqb x.serial d.serial ≡ b
        → cond (same_id (cond b d x).id id) (Some (cond b d x)) later ≡ Some d
    at later rest true is = cond-true (same_id d.id id) (Some d) later own
    at later rest false is = by_id later rest (eqb-false x.serial d.serial is) (same_id x.id id) e

-- ---- a tick

pub tick_moves : (w : World) (now : ℕ) → w.moment ≤ now → (ticked w now).world.moment ≡ now
tick_moves w now le = go (ltb now w.moment) refl
  where
    go : (b : Bool) → ltb now w.moment ≡ b → (cond b (refused w None (TickBack w.moment)) (after_tick w now)).world.moment ≡ now
    go true is = let lt = ltb-true now w.moment is in absurd (omega (arith, le, lt))
    go false is = refl

-- ---- a bye and a rejection

module _ (w : World) (before : Pairs IsBefore w.calls) (older : AllByRecursion (λ c. c.serial < w.made) w.calls) where
  bye_at : (id : CallId) (o : Option Call) → call_of w id ≡ o → AllByRecursion (Frees w (left w id o).world) (left w id o).outcomes → call_of (left w id o).world id ≡ None
  bye_at id None is free = is
  bye_at id (Some c) is free =
      subst (λ i. call_of (left w id (Some c)).world i ≡ None) (same_call_id id c w.calls is) (free.0 c.id c.slot c.media why.Bye refl).id_free

  pub bye_ends : (id : CallId) → call_of (answer_to w (Bye id)).world id ≡ None
  bye_ends id = bye_at id (call_of w id) refl (event_frees w before older (Signalled (Bye id)))

  rejection_at : (id : CallId) (o : Option Call) → call_of w id ≡ o → AllByRecursion (Frees w (rejected w id o).world) (rejected w id o).outcomes
      → (d : Call) → call_of (rejected w id o).world id ≡ Some d → d.offer ≡ None
  rejection_at id None is free d e = absurd (none_some d (sym is ∙ e))
  rejection_at id (Some c) is free d e = go (rejected_in w.moment c) refl free e
    where
      closed : (cause : Refusal) (next : Result (Option Call) Refusal) (o : Option Offer) → ((r : Option Call) × (next ≡ Ok r)) → cond (is_some o) next (Err State) ≡ Err cause → o ≡ None
      closed cause next None ok e = refl
      closed cause next (Some o) ok e = absurd (let same = ok.1 in cc)

      next_is : (x y : Call) (a b : Bool) → cond a (Ok (cond b None (Some x))) (Err State) ≡ Ok (Some y) → x ≡ y
      next_is x y true true e = absurd cc
      next_is x y true false e = cc
      next_is x y false b e = absurd cc

      go : (r : Result (Option Call) Refusal) → rejected_in w.moment c ≡ r → AllByRecursion (Frees w (rejected_to w c r).world) (rejected_to w c r).outcomes
          → call_of (rejected_to w c r).world id ≡ Some d → d.offer ≡ None
      go (Err cause) r free e = subst (λ (x : Call). x.offer ≡ None) (some_is c d (sym is ∙ e)) (closed cause _ c.offer (_, refl) r)
      go (Ok None) r free e = absurd (none_some d (sym (subst (λ i. call_of (rejected_to w c (Ok None)).world i ≡ None) (same_call_id id c w.calls is) (free.0 c.id c.slot c.media why.Rejected refl).id_free) ∙ e))
      go (Ok (Some next)) r free e =
          let same : record c { offer = None; moment = w.moment } ≡ next = next_is (record c { offer = None; moment = w.moment }) next (is_some c.offer) (eqb c.generations 0) r in
          let at = found_with id c next w.calls (sym (ap (λ (x : Call). x.serial) same)) (subst (λ (x : Call). same_id x.id id ≡ true) same (id_found id c w.calls is)) is in
          subst (λ (x : Call). x.offer ≡ None) (same ∙ some_is next d (sym at ∙ e)) refl

  pub rejection_closes : (id : CallId) (d : Call) → call_of (answer_to w (Reject id)).world id ≡ Some d → d.offer ≡ None
  rejection_closes id d e = rejection_at id (call_of w id) refl (event_frees w before older (Signalled (Reject id))) d e

-- ---- an answer

abbrev pub stays : Call → Session → Bool
stays c s = is_opening s && is_current c s

-- what holds of the sessions that an agreement makes, holds of those of the current generation
pub of_generation : (c d : Call) (new : List Session) (P : Session → Type 0) → d.sessions ≡ new ++ filter (stays c) c.sessions → d.generations ≡ c.generations + 1 → AllByRecursion P new
    → AllByRecursion (λ s. s.name.owner.generation + 1 ≡ d.generations → P s) d.sessions
of_generation c d new P sessions generations are =
    subst (AllByRecursion (λ s. s.name.owner.generation + 1 ≡ d.generations → P s)) (sym sessions)
    (each_append (λ s. s.name.owner.generation + 1 ≡ d.generations → P s) new (filter (stays c) c.sessions)
    (each_weaker P (λ s. s.name.owner.generation + 1 ≡ d.generations → P s) (λ s is at. is) new are)
    (each_weaker (λ s. (stays c s ≡ true) × Any (λ x. x ≡ s) c.sessions) (λ s. s.name.owner.generation + 1 ≡ d.generations → P s)
    (λ s p at.
    let old_one : s.name.owner.generation + 1 ≡ c.generations = eqb-true _ _ (and_parts (is_opening s) (is_current c s) p.0).1 in
    let more = generations in
    absurd (omega (arith, old_one, at, more)))
    (filter (stays c) c.sessions) (kept_by (stays c) c.sessions)))

module _ {X : Type 0} where
  -- what passes a test stays
  pub stays_in : (test : X → Bool) (xs : List X) → AllByRecursion (λ x. test x ≡ true → Any (λ y. y ≡ x) (filter test xs)) xs
  stays_in test [] = tt
  stays_in test (x ∷ xs) = (
    λ on. subst (λ (l : List X). Any (λ y. y ≡ x) l) (sym (cond-true (test x) (x ∷ filter test xs) (filter test xs) on)) (any_here (λ y. y ≡ x) x (filter test xs) refl),
    each_weaker (λ z. test z ≡ true → Any (λ y. y ≡ z) (filter test xs)) _
        (λ z h on. both (λ (l : List X). Any (λ y. y ≡ z) l) (test x) (x ∷ filter test xs) (filter test xs) (any_there (λ y. y ≡ z) x (filter test xs) (h on)) (h on)) xs (stays_in test xs),
  )

  contains : (x : X) (xs : List X) → Any (λ y. y ≡ x) xs → Contains xs x
  contains x xs a = (a.0, a.2, subst (λ (y : X). get_or xs a.0 y ≡ y) a.4 a.3)

module _ (w : World) (id : CallId) (noise text : List ℕ) (c : Call) (is : call_of w id ≡ Some c) where
  abbrev Renews : Answer → Type 0
  Renews a = ¬ Any IsRefusal a.outcomes → (d : Call) × (call_of a.world id ≡ Some d) × (d.generations ≡ c.generations + 1) × (d.offer ≡ None) × (d.moment ≡ w.moment)

  pub answer_renews : Renews (answer_to w (Answered id noise text))
  answer_renews = answer_of w id noise text c Renews (λ cause free. absurd (free (any_here IsRefusal _ [] tt)))
      (λ o is_open g agreed ring installs free.
      let d : Call = (renewed_by w.moment w.books c g.text g.media ring).call in
      (d, found_with id c d w.calls refl (id_found id c w.calls is) is, refl, refl, refl))
      is

  abbrev KeepsEarlier : Call → Type 0
  KeepsEarlier d = AllByRecursion (λ s. s.name.owner.direction ≡ Opening → s.name.owner.generation + 1 ≡ c.generations → Contains d.sessions s) c.sessions

  kept_behind : (d : Call) (news : List Session) → d.sessions ≡ news ++ filter (stays c) c.sessions → KeepsEarlier d
  kept_behind d news sessions = each_weaker (λ s. stays c s ≡ true → Any (λ y. y ≡ s) (filter (stays c) c.sessions)) _
      (λ s h opening current. contains s d.sessions (subst (λ (l : List Session). Any (λ y. y ≡ s) l) (sym sessions)
      (any_second (λ y. y ≡ s) news (filter (stays c) c.sessions) (h (and_from _ _ (ap (λ x. same_direction x Opening) opening) (eq-eqb _ _ current))))))
      c.sessions (stays_in (stays c) c.sessions)

  pub answer_keeps_earlier : (d : Call) → call_of (answer_to w (Answered id noise text)).world id ≡ Some d → d.generations ≡ c.generations + 1 → KeepsEarlier d
  answer_keeps_earlier d now more = answer_of w id noise text c (λ a. call_of a.world id ≡ Some d → KeepsEarlier d)
      (λ cause now. let same = ap (λ (x : Call). x.generations) (some_is c d (sym is ∙ now)) in absurd (omega (arith, same, more)))
      (λ o is_open g agreed ring installs now.
      let e : Call = (renewed_by w.moment w.books c g.text g.media ring).call in
      subst KeepsEarlier (some_is e d (sym (found_with id c e w.calls refl (id_found id c w.calls is) is) ∙ now))
      (kept_behind e (sessions_from c.serial c.generations 0 (length w.books.ring) g.media) refl))
      is now

-- ---- what a tick leaves

module _ {X : Type 0} where
  pub any_mapped : {Y : Type 0} (P : Y → Type 0) (f : X → Y) (x : X) (xs : List X) → P (f x) → Any (λ y. y ≡ x) xs → Any P (map f xs)
  any_mapped P f x [] p a = absurd (any_none (λ y. y ≡ x) a)
  any_mapped P f x (y ∷ ys) p a = go (any_mapped P f x ys p) (any_cases (λ z. z ≡ x) y ys a)
    where
      go : (Any (λ z. z ≡ x) ys → Any P (map f ys)) → (y ≡ x) ⊎ Any (λ z. z ≡ x) ys → Any P (f y ∷ map f ys)
      go rest (inl same) = any_here P (f y) (map f ys) (subst (λ z. P (f z)) (sym same) p)
      go rest (inr more) = any_there P (f y) (map f ys) (rest more)

itself : (now : ℕ) (c : Call) → IsKeptTo now c c
itself now c = record {
  serial = refl;
  offer = refl;
  current = All-from_recursion _ c.sessions
      (each_weaker (λ s. Any (λ y. y ≡ s) c.sessions) (λ s. s.name.owner.generation + 1 ≡ c.generations → Contains c.sessions s) (λ s a of_it. contains s c.sessions a) c.sessions (all_any c.sessions));
  earlier = λ before. refl;
}

kept_at : (now : ℕ) (c : Call) → IsKeptTo now c (call_at_tick now c)
kept_at now c = go (drops_earlier now c) refl
  where
    go : (b : Bool) → drops_earlier now c ≡ b → IsKeptTo now c (cond b (without_earlier c) c)
    go true drops = record {
      serial = refl;
      offer = refl;
      current = All-from_recursion _ c.sessions
          (each_weaker (λ s. is_current c s ≡ true → Any (λ y. y ≡ s) (filter (is_current c) c.sessions)) (λ s. s.name.owner.generation + 1 ≡ c.generations → Contains (filter (is_current c) c.sessions) s)
          (λ s h of_it. contains s (filter (is_current c) c.sessions) (h (eq-eqb _ _ of_it))) c.sessions (stays_in (is_current c) c.sessions));
      earlier = λ before. let le = leb-true (c.replaced + 2000) now drops in absurd (omega (arith, le, before));
    }
    go false stays = itself now c

pub tick_keeps : (w : World) (now : ℕ) → AllByRecursion (λ c. now < c.moment + 60000 → Any (IsKeptTo now c) (ticked w now).world.calls) w.calls
tick_keeps w now = go (ltb now w.moment)
  where
    go : (b : Bool) → AllByRecursion (λ c. now < c.moment + 60000 → Any (IsKeptTo now c) (cond b (refused w None (TickBack w.moment)) (after_tick w now)).world.calls) w.calls
    go true = each_weaker (λ c. Any (λ y. y ≡ c) w.calls) (λ c. now < c.moment + 60000 → Any (IsKeptTo now c) w.calls) (λ c a busy. any_weaker (λ y. y ≡ c) (IsKeptTo now c) (λ y same. subst (IsKeptTo now c) (sym same) (itself now c)) w.calls a) w.calls (all_any w.calls)
    go false =
        each_weaker (λ c. not (is_idle now c) ≡ true → Any (λ y. y ≡ c) (filter (λ c. not (is_idle now c)) w.calls))
        (λ c. now < c.moment + 60000 → Any (IsKeptTo now c) (map (call_at_tick now) (filter (λ c. not (is_idle now c)) w.calls)))
        (λ c h busy. any_mapped (IsKeptTo now c) (call_at_tick now) c (filter (λ c. not (is_idle now c)) w.calls) (kept_at now c) (h (ap not (lt-leb (c.moment + 60000) now busy))))
        w.calls (stays_in (λ c. not (is_idle now c)) w.calls)
