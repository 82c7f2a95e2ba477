-- What is dropped shows its cause.
use Rattle.std.proofs.Common.{◌≡◌, inl, inr, ℕ, ◌+◌, ◌<◌, ◌≤◌, Bool, true, false, cond, List, [], ◌∷◌, length, Option, Some, None, Result, Ok, Err, refl, sym, ap, ◌∙◌, subst, arith, eqb, leb, ltb}
use Rattle.std.proofs.lemmas.Bool.{and_from, eq-eqb, eqb-false, eqb-true, false≢true, le-leb, lt-ltb, ltb-false, ltb-true, and_parts, leb-true}
use Rattle.std.specs.List.{AllByRecursion, Any, filter}
use Rattle.sg_base.proofs.SameOctets.{same_octets_is, same_octets_true}
use Rattle.sg_base.specs.declared.faults.DropCause.TheVariants as causes
use Rattle.sg_outcome.specs.declared.outcomes.Outcome.TheVariants.{Dropped}
use Rattle.sg_session.specs.Opening.{Taken, opens}
use Rattle.sg_session.specs.Reach.{IsSound}
use Rattle.sg_session.specs.Sealing.{seals}
use Rattle.sg_gateway.proofs.Arrivals.{Is, kept_by}
use Rattle.sg_gateway.proofs.Common.{Address, Call, Direction, DropCause, Entry, Event, Given, Octets, Opening, Sealing, Session, World}
use Rattle.sg_gateway.proofs.Common.{any_weaker, arrived_at, arrived_in, call_at, each_weaker, find_call, given_to, has_port, port_at, port_in, sessions_at, step, turn_of}
use Rattle.sg_gateway.proofs.Found.{plain_in, secure_in}
use Rattle.sg_gateway.proofs.InTurn.{found_passes}
use Rattle.sg_gateway.proofs.Kept.{IsKept}
use Rattle.sg_gateway.proofs.OpenedAndPut.{held_kept}
use Rattle.sg_gateway.proofs.Ordered.{not_found, pairs_filter}
use Rattle.sg_gateway.proofs.Orderly.{IsCall, Ordered}
use Rattle.sg_gateway.proofs.Pairs.{Pairs, pairs_append, pairs_weaker}
use Rattle.sg_gateway.proofs.Reached.{before_apart}
use Rattle.sg_gateway.proofs.Signals.{found, is_found}
use Rattle.sg_gateway.specs.Batch.{AreApart}
use Rattle.sg_gateway.specs.Datagrams.{Drops, Puts, arrived_among, arrived_towards, drop_of, opened_in, opened_or, same_ip, sealed_or}
use Rattle.sg_gateway.specs.Legs.{plain_leg_port, secure_leg_port}
use Rattle.sg_gateway.specs.Order.{HasGenerations, IsBefore}
use Rattle.sg_conduct.proofs.Shown.{NearestIs, open_refused, seal_refused}
use Rattle.sg_conduct.specs.Drops.{DropShowsCause, HasNoneAt, IsLatestAt, IsPortOf, Opens, Seals, Shows}
use Rattle.sg_conduct.specs.Shown.{OpenedShows, SealedShows}

-- ---- the port

has_port_is : (port : ℕ) (c : Call) → has_port port c ≡ true → IsPortOf port c
has_port_is port c at =
    let parts = and_parts (leb (port_at c.slot 0 0) port) (ltb port (port_at c.slot c.media 0)) at in
    let low = leb-true (port_at c.slot 0 0) port parts.0 in let high = ltb-true port (port_at c.slot c.media 0) parts.1 in
    (omega (arith, low), omega (arith, high))

is_port_has : (port : ℕ) (c : Call) → IsPortOf port c → has_port port c ≡ true
is_port_has port c is =
    let low = is.0 in let high = is.1 in
    and_from _ _ (le-leb (port_at c.slot 0 0) port (omega (arith, low))) (lt-ltb port (port_at c.slot c.media 0) (omega (arith, high)))

-- no session of the call is at the port
none_at : (port : ℕ) (c : Call) → sessions_at c port ≡ [] → HasNoneAt port c
none_at port c none = each_weaker (λ s. ¬ port_in c s ≡ port) _
    (λ s away. ((λ dir at. away (sym (secure_in c s dir) ∙ sym at)), λ dir at. away (sym (plain_in c s dir) ∙ sym at))) c.sessions (all c.sessions none)
  where
    all : (ss : List Session) → filter (λ s. eqb (port_in c s) port) ss ≡ [] → AllByRecursion (λ s. ¬ port_in c s ≡ port) ss
    all [] e = tt
    all (s ∷ ss) e = go (all ss) (eqb (port_in c s) port) refl e
      where
        go : (filter (λ s. eqb (port_in c s) port) ss ≡ [] → AllByRecursion (λ s. ¬ port_in c s ≡ port) ss) → (b : Bool) → eqb (port_in c s) port ≡ b
            → cond b (s ∷ filter (λ s. eqb (port_in c s) port) ss) (filter (λ s. eqb (port_in c s) port) ss) ≡ [] → AllByRecursion (λ s. ¬ port_in c s ≡ port) (s ∷ ss)
        go rest true at e = absurd cc
        go rest false at e = ((λ same. eqb-false _ _ at same), rest e)

-- what holds of the call that has the port holds of each that has it
of_one : (port : ℕ) (P : Call → Type 0) (c : Call) → P c → (cs : List Call) → Pairs AreApart cs → find_call (has_port port) cs ≡ Some c → AllByRecursion (λ x. has_port port x ≡ true → P x) cs
of_one port P c p [] apart e = tt
of_one port P c p (x ∷ xs) apart e = go (of_one port P c p xs apart.1) (has_port port x) refl e
  where
    go : (find_call (has_port port) xs ≡ Some c → AllByRecursion (λ x. has_port port x ≡ true → P x) xs) → (b : Bool) → has_port port x ≡ b → cond b (Some x) (find_call (has_port port) xs) ≡ Some c
        → AllByRecursion (λ x. has_port port x ≡ true → P x) (x ∷ xs)
    go rest true at e =
        let same : c ≡ x = cc in
        ((λ has. subst P same p), each_weaker (AreApart x) _ (λ y is has. absurd (false≢true (sym (is.ports port at) ∙ has))) xs apart.0)
    go rest false at e = ((λ has. absurd (false≢true (sym at ∙ has))), rest e)

-- ---- generations

abbrev IsNoLater : Session → Session → Type 0
IsNoLater s x = x.name.owner.generation ≤ s.name.owner.generation

of_one_generation : (g n : ℕ) (ss : List Session) → AllByRecursion (λ s. s.name.owner.generation + n ≡ g) ss → Pairs IsNoLater ss
of_one_generation g n [] all = tt
of_one_generation g n (s ∷ ss) all = (each_weaker _ _ (λ x at. let own = all.0 in omega (arith, at, own)) ss all.1, of_one_generation g n ss all.1)

by_generation : (c : Call) → HasGenerations c → Pairs IsNoLater c.sessions
by_generation c has =
    let earlier = each_weaker _ (λ s. s.name.owner.generation + 2 ≡ c.generations) (λ s at. at.0) has.earlier has.of_earlier in
    subst (Pairs IsNoLater) (sym has.are)
    (pairs_append IsNoLater has.current has.earlier (of_one_generation c.generations 1 has.current has.of_current) (of_one_generation c.generations 2 has.earlier earlier)
    (each_weaker _ _ (λ s at. each_weaker _ _ (λ x at_x. omega (arith, at, at_x)) has.earlier earlier) has.current has.of_current))

unfiltered : {X : Type 0} (test : X → Bool) (P : X → Type 0) (xs : List X) → AllByRecursion P (filter test xs) → AllByRecursion (λ x. test x ≡ true → P x) xs
unfiltered test P [] all = tt
unfiltered test P (x ∷ xs) all = go (unfiltered test P xs) (test x) refl all
  where
    go : (AllByRecursion P (filter test xs) → AllByRecursion (λ x. test x ≡ true → P x) xs) → (b : Bool) → test x ≡ b → AllByRecursion P (cond b (x ∷ filter test xs) (filter test xs))
        → AllByRecursion (λ x. test x ≡ true → P x) (x ∷ xs)
    go rest true at all = ((λ e. all.0), rest all.1)
    go rest false at all = ((λ e. absurd (false≢true (sym at ∙ e))), rest all)

-- the first session at the port is of the latest generation that has one there
first_is_latest : (port : ℕ) (c : Call) (s : Session) (ss : List Session) → HasGenerations c → sessions_at c port ≡ s ∷ ss → IsLatestAt port c s
first_is_latest port c s ss has are =
    let test : Session → Bool = λ x. eqb (port_in c x) port in
    let pairs : Pairs IsNoLater (s ∷ ss) = subst (Pairs IsNoLater) are (pairs_filter IsNoLater test c.sessions (by_generation c has)) in
    each_weaker _ _ (λ x no_later dir at. no_later (eq-eqb _ _ (sym (secure_in c x dir) ∙ sym at))) c.sessions
    (unfiltered test (IsNoLater s) c.sessions (subst (AllByRecursion (IsNoLater s)) (sym are) (omega arith, pairs.0)))

-- ---- a datagram at the port of a call

module _ (nearest : NearestIs) (past : List Entry) (w : World) (kept : IsKept IsSound past w) (ordered : Ordered w) (port : ℕ) (from : Address) (d : Octets) where
  abbrev IsShown : Given → Type 0
  IsShown (Drops cause) = Shows w port from d.items cause
  IsShown (Puts p) = Unit {0}

  apart : Pairs AreApart w.calls
  apart = pairs_weaker IsBefore AreApart (λ c. c.media ≤ 4) (λ c d few u before. before_apart c d few before) w.calls (each_weaker _ _ (λ c of_c. of_c.media) w.calls ordered.each) ordered.calls

  unused : call_at w port ≡ None → Shows w port from d.items causes.PortUnused
  unused none = each_weaker _ _ (λ c no is. absurd (false≢true (sym no ∙ is_port_has port c is))) w.calls (not_found (has_port port) w.calls none)

  module _ (c : Call) (at : call_at w port ≡ Some c) where
    of_call : (P : Call → Type 0) → P c → Any P w.calls
    of_call P p = any_weaker (λ x. x ≡ c) P (λ x is. subst P (sym is) p) w.calls (is_found (has_port port) w.calls c at)

    has : IsPortOf port c
    has = has_port_is port c (found_passes (has_port port) w.calls c at)

    of_session : (P : Call → Session → Type 0) (s : Session) → Any (Is s) c.sessions → P c s → Any (λ c. Any (P c) c.sessions) w.calls
    of_session P s held p = of_call (λ c. Any (P c) c.sessions) (any_weaker (Is s) (P c) (λ x is. subst (P c) (sym is) p) c.sessions held)

    none_there : sessions_at c port ≡ [] → (b : Bool) → eqb c.generations 0 ≡ b → IsShown (Drops (cond b causes.NotLive causes.PortUnused))
    none_there none true waits = of_call (λ c. IsPortOf port c × (c.generations ≡ 0) × HasNoneAt port c) (has, eqb-true _ _ waits, none_at port c none)
    none_there none false begun =
        each_weaker _ _ (λ x is of_port. is (is_port_has port x of_port)) w.calls
        (of_one port (λ c. (¬ c.generations ≡ 0) × HasNoneAt port c) c ((λ zero. eqb-false _ _ begun zero), none_at port c none) w.calls apart at)

    -- put out, or else what was to be told
    put_or : (drop : Given) (ss : List Session) → IsShown drop → IsShown (opened_in w.moment c d.items drop ss)
    put_or drop [] shown = shown
    put_or drop (s ∷ ss) shown = go (put_or drop ss shown) (opens s d.items)
      where
        go : IsShown (opened_in w.moment c d.items drop ss) → (r : Result Taken DropCause) → IsShown (opened_or w.moment c s (opened_in w.moment c d.items drop ss) r)
        go rest (Ok t) = tt
        go rest (Err cause) = rest

    module _ (s : Session) (held : Any (Is s) c.sessions) (here : port_in c s ≡ port) (latest : IsLatestAt port c s) where
      sound : IsSound s
      sound = (held_kept IsSound past w kept port c s at held).extra

      opens_here : (P : Session → Type 0) → s.name.owner.direction ≡ Opening → P s → Opens w port P
      opens_here P dir p = of_session (λ c s. (s.name.owner.direction ≡ Opening) × (port ≡ secure_leg_port c s) × IsLatestAt port c s × P s) s held (dir, sym (secure_in c s dir ∙ here), latest, p)

      seals_here : (P : Session → Type 0) → s.name.owner.direction ≡ Sealing → P s → Seals w port P
      seals_here P dir p = of_session (λ c s. (s.name.owner.direction ≡ Sealing) × (port ≡ plain_leg_port c s) × P s) s held (dir, sym (plain_in c s dir ∙ here), p)

      -- ---- of the session that is there

      open_cause : s.name.owner.direction ≡ Opening → (cause : DropCause) → (length d.items ≤ 4238) × OpenedShows s.name.kind s d.items cause → Shows w port from d.items cause
      open_cause dir causes.PortUnused is = elim is.1.1 [
        | inl none ↦ absurd none
        | inr none ↦ absurd none.2
      ]
      open_cause dir causes.NotLive is = elim is.1.1 [
        | inl none ↦ absurd none
        | inr none ↦ absurd none.2
      ]
      open_cause dir causes.TooLong is = elim is.1.1 [
        | inl none ↦ absurd none
        | inr none ↦ absurd none.2
      ]
      open_cause dir causes.SourceUnknown is = elim is.1.1 [
        | inl none ↦ absurd none
        | inr none ↦ absurd none.2
      ]
      open_cause dir other is = inl (opens_here (λ s. (length d.items ≤ 4238) × OpenedShows s.name.kind s d.items other) dir is)

      seal_cause : s.name.owner.direction ≡ Sealing → (cause : DropCause) → (length d.items ≤ 4096) × (from.ip ≡ s.plain.ip) × SealedShows s.name.kind s d.items cause → Shows w port from d.items cause
      seal_cause dir causes.PortUnused is = elim is.2.1 [
        | inl none ↦ absurd none
        | inr none ↦ absurd none.3
      ]
      seal_cause dir causes.NotLive is = elim is.2.1 [
        | inl none ↦ absurd none
        | inr none ↦ absurd none.3
      ]
      seal_cause dir causes.TooLong is = elim is.2.1 [
        | inl none ↦ absurd none
        | inr none ↦ absurd none.3
      ]
      seal_cause dir causes.SourceUnknown is = elim is.2.1 [
        | inl none ↦ absurd none
        | inr none ↦ absurd none.3
      ]
      seal_cause dir other is = inr (seals_here (λ s. (length d.items ≤ 4096) × (from.ip ≡ s.plain.ip) × SealedShows s.name.kind s d.items other) dir is)

      opened_first : s.name.owner.direction ≡ Opening → length d.items ≤ 4238 → (ss : List Session) (r : Result Taken DropCause) → opens s d.items ≡ r
          → IsShown (opened_or w.moment c s (opened_in w.moment c d.items (drop_of r) ss) r)
      opened_first dir short ss (Ok t) is = tt
      opened_first dir short ss (Err cause) is = put_or (Drops cause) ss (open_cause dir cause (short, open_refused nearest s d.items d.small sound cause is))

      sealed_there : s.name.owner.direction ≡ Sealing → length d.items ≤ 4096 → from.ip ≡ s.plain.ip → (r : Result Taken DropCause) → seals s d.items ≡ r → IsShown (sealed_or w.moment c s r)
      sealed_there dir short own (Ok t) is = tt
      sealed_there dir short own (Err cause) is = seal_cause dir cause (short, own, seal_refused nearest s d.items d.small cause is)

      towards : (ss : List Session) (dir : Direction) → s.name.owner.direction ≡ dir → IsShown (arrived_towards w.moment from d.items c s ss dir)
      towards ss Opening dir = go (ltb 4238 (length d.items)) refl
        where
          go : (b : Bool) → ltb 4238 (length d.items) ≡ b → IsShown (cond b (Drops causes.TooLong) (opened_in w.moment c d.items (drop_of (opens s d.items)) (s ∷ ss)))
          go true long = inl (opens_here (λ s. 4238 < length d.items) dir (ltb-true _ _ long))
          go false short = opened_first dir (ltb-false _ _ short) ss (opens s d.items) refl
      towards ss Sealing dir = go (ltb 4096 (length d.items)) refl
        where
          by_host : length d.items ≤ 4096 → (b : Bool) → same_ip from s.plain ≡ b → IsShown (cond b (sealed_or w.moment c s (seals s d.items)) (Drops causes.SourceUnknown))
          by_host short true own = sealed_there dir short (same_octets_is _ _ own) (seals s d.items) refl
          by_host short false other = seals_here (λ s. (length d.items ≤ 4096) × (¬ from.ip ≡ s.plain.ip)) dir (short, λ same. false≢true (sym other ∙ same_octets_true _ _ same))

          go : (b : Bool) → ltb 4096 (length d.items) ≡ b → IsShown (cond b (Drops causes.TooLong) (cond (same_ip from s.plain) (sealed_or w.moment c s (seals s d.items)) (Drops causes.SourceUnknown)))
          go true long = inr (seals_here (λ s. 4096 < length d.items) dir (ltb-true _ _ long))
          go false short = by_host (ltb-false _ _ short) (same_ip from s.plain) refl

    among : (ss : List Session) → sessions_at c port ≡ ss → AllByRecursion (λ s. (eqb (port_in c s) port ≡ true) × Any (Is s) c.sessions) ss → IsShown (arrived_among w.moment from d.items c ss)
    among [] none held = none_there none (eqb c.generations 0) refl
    among (s ∷ ss) are held = towards s held.0.1 (eqb-true _ _ held.0.0)
        (first_is_latest port c s ss (found IsCall (has_port port) w.calls c at ordered.each).generations are) ss s.name.owner.direction refl

    shown_in : IsShown (arrived_in w.moment port from d.items c)
    shown_in = among (sessions_at c port) refl (kept_by (λ s. eqb (port_in c s) port) c.sessions)

  -- ---- and of what is told

  told_is : (g : Given) → IsShown g → (told : ℕ) (cause : DropCause) → (given_to w port g).outcomes ≡ Dropped told cause ∷ [] → Shows w port from d.items cause
  told_is (Drops c) shown told cause is = let same : c ≡ cause = cc in subst (Shows w port from d.items) same shown
  told_is (Puts p) shown told cause is = absurd cc

  by_call : (o : Option Call) → call_at w port ≡ o → (told : ℕ) (cause : DropCause) → (arrived_at w port from d.items o).outcomes ≡ Dropped told cause ∷ [] → Shows w port from d.items cause
  by_call None none told cause is = told_is (Drops causes.PortUnused) (unused none) told cause is
  by_call (Some c) at told cause is = told_is (arrived_in w.moment port from d.items c) (shown_in c at) told cause is

pub drop_shows : NearestIs → (past : List Entry) (w : World) (e : Event) → IsKept IsSound past w → Ordered w → DropShowsCause (turn_of w e)
drop_shows nearest past w e kept ordered port told from d cause is outs =
    by_call nearest past w kept ordered port from d (call_at w port) refl told cause (sym (ap (λ e. (step w e).outcomes) is) ∙ outs)
