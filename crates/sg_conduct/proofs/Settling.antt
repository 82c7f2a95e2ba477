-- What becomes of a datagram.
use Rattle.std.proofs.Common.{◌≡◌, ◌⊎◌, inl, inr, ℕ, Bool, true, false, cond, not, List, [], ◌∷◌, ◌++◌, Option, Some, None, Ok, Err, refl, sym, ap, subst, arith}
use Rattle.std.proofs.lemmas.Bool.{ltb-false, ltb-true}
use Rattle.std.specs.List.{AllByRecursion, Any}
use Rattle.sg_base.specs.declared.addresses.Address.{Address}
use Rattle.sg_base.specs.declared.faults.DropCause.TheVariants.{KeySpent, PortUnused, SsrcUnknown, StreamsFull}
use Rattle.sg_session.specs.Sealing.{head_out, number_out, sealing_key, seals}
use Rattle.sg_session.specs.Session.{Key, Session, admits, count_of, has_room, is_live}
use Rattle.sg_gateway.proofs.Arrivals.{Arrival, Is, IsDrop, IsOpening, IsSeal, arrival, not_both}
use Rattle.sg_gateway.proofs.Common.{Call, Datagram, Event, Octets, Sealing, Taken, Turn, World, after_ok_is, any_weaker, call_at, has_port, ok_is, step, stop_if_is, turn_of, turns_from}
use Rattle.sg_gateway.proofs.Origins.{entry_of}
use Rattle.sg_gateway.proofs.Signals.{is_found}
use Rattle.sg_gateway.specs.Datagrams.{Drops, Given, Puts, arrived_at, arrived_in, given_to}
use Rattle.sg_gateway.specs.Newness.{IsLiveIn}
use Rattle.sg_conduct.specs.Settled.{DatagramIsSettled, IsDropped, IsOneOut, IsUnderFirstLive}

-- ---- the key that seals

-- the first live key of these
record IsFirstLive (s : Session) (ks : List Key) (k : Key) : Type 0 where
  earlier : List Key
  later : List Key
  keys : ks ≡ earlier ++ k ∷ later
  spent : AllByRecursion (λ k. ¬ IsLiveIn s k) earlier
  live : IsLiveIn s k

module _ (s : Session) where
  not_live : (k : Key) → is_live s k ≡ false → ¬ IsLiveIn s k
  not_live k e live = let le = ltb-false (count_of s k) k.life e in omega (arith, le, live)

  this_one : (x : Key) (ks : List Key) (k : Key) → is_live s x ≡ true → x ≡ k → IsFirstLive s (x ∷ ks) k
  this_one x ks k live same = subst (IsFirstLive s (x ∷ ks)) same (record { earlier = []; later = ks; keys = refl; spent = tt; live = ltb-true _ _ live })

  first_live : (ks : List Key) (k : Key) → sealing_key s ks ≡ Ok k → IsFirstLive s ks k
  first_live [] k e = absurd cc
  first_live (x ∷ []) k e = go (is_live s x) refl e
    where
      go : (b : Bool) → is_live s x ≡ b → cond b (Ok x) (Err (KeySpent x.number (count_of s x))) ≡ Ok k → IsFirstLive s (x ∷ []) k
      go true at e = this_one x [] k at (ok_is x k e)
      go false at e = absurd cc
  first_live (x ∷ y ∷ ks) k e = go (first_live (y ∷ ks) k) (is_live s x) refl e
    where
      go : (sealing_key s (y ∷ ks) ≡ Ok k → IsFirstLive s (y ∷ ks) k) → (b : Bool) → is_live s x ≡ b → cond b (Ok x) (sealing_key s (y ∷ ks)) ≡ Ok k → IsFirstLive s (x ∷ y ∷ ks) k
      go rest true at e = this_one x (y ∷ ks) k at (ok_is x k e)
      go rest false at e = let r = rest e in record { earlier = x ∷ r.earlier; later = r.later; keys = ap (λ (ks : List Key). x ∷ ks) r.keys; spent = (not_live x at, r.spent); live = r.live }

  sealed_first : (p : List ℕ) (t : Taken) → seals s p ≡ Ok t → IsFirstLive s s.keys t.key
  sealed_first p t e =
      let a = after_ok_is (head_out s p) _ t e in
      let b = stop_if_is (not (admits s a.0.ssrc)) SsrcUnknown _ t a.2 in
      let c = stop_if_is (not (has_room s a.0.ssrc)) StreamsFull _ t b.1 in
      let f = after_ok_is (sealing_key s s.keys) _ t c.1 in
      let g = after_ok_is (number_out s a.0) _ t f.2 in
      subst (λ (t : Taken). IsFirstLive s s.keys t.key) (ok_is _ t g.2) (first_live s.keys f.0 f.1)

-- ---- what is told

module _ (w : World) (port : ℕ) (from : Address) (d : Octets) where
  abbrev turn : Turn
  turn = turn_of w (Datagram port from d)

  abbrev IsByFirst : Given → Type 0
  IsByFirst (Drops cause) = Unit {0}
  IsByFirst (Puts p) = p.entry.session.owner.direction ≡ Sealing → Any (λ c. Any (IsUnderFirstLive p.entry) c.sessions) w.calls

  by_first : (c : Call) → call_at w port ≡ Some c → (g : Given) → Arrival w.moment port d.items c g → IsByFirst g
  by_first c at g (IsDrop cause is) = subst IsByFirst (sym is) tt
  by_first c at g (IsOpening o) = subst IsByFirst (sym o.gives) (λ sealing. absurd (not_both o.session.name.owner.direction o.opening sealing))
  by_first c at g (IsSeal o) =
      let first = sealed_first o.session d.items o.taken o.sealed in
      subst IsByFirst (sym o.gives) (λ sealing.
      any_weaker (λ x. x ≡ c) _ (λ x is_c. subst (λ (x : Call). Any (IsUnderFirstLive (entry_of o.session o.taken)) x.sessions) (sym is_c)
      (any_weaker (Is o.session) _ (λ y is_s. subst (IsUnderFirstLive (entry_of o.session o.taken)) (sym is_s) (record { name = refl; earlier = first.earlier; later = first.later; keys = first.keys; spent = first.spent; live = first.live }))
      c.sessions o.is_held)) w.calls (is_found (has_port port) w.calls c at))

  by_given : (g : Given) → IsByFirst g → step w (Datagram port from d) ≡ given_to w port g → IsDropped turn port ⊎ IsOneOut turn
  by_given (Drops cause) first is = inl (record {
    cause = cause;
    told = (λ i. (is i).outcomes);
    nothing = (λ i. (is i).entries);
    same = (λ i. (is i).world);
  })
  by_given (Puts p) first is = inr (record {
    port = p.port;
    to = p.to;
    octets = p.octets;
    entry = p.entry;
    told = (λ i. (is i).outcomes);
    one = (λ i. (is i).entries);
    first = first;
  })

  by_call : (o : Option Call) → call_at w port ≡ o → IsDropped turn port ⊎ IsOneOut turn
  by_call None is =
      let same : step w (Datagram port from d) ≡ arrived_at w port from d.items None = (λ i. arrived_at w port from d.items (is i)) in
      inl (record { cause = PortUnused; told = (λ i. (same i).outcomes); nothing = (λ i. (same i).entries); same = (λ i. (same i).world) })
  by_call (Some c) is = by_given (arrived_in w.moment port from d.items c) (by_first c is (arrived_in w.moment port from d.items c) (arrival w.moment port from d.items c)) (λ i. arrived_at w port from d.items (is i))

pub settled_at : (w : World) (e : Event) → DatagramIsSettled (turn_of w e)
settled_at w e port from d is = subst (λ (e : Event). IsDropped (turn_of w e) port ⊎ IsOneOut (turn_of w e)) (sym is) (by_call w port from d (call_at w port) refl)

pub each_settled : (w : World) (es : List Event) → AllByRecursion DatagramIsSettled (turns_from w es)
each_settled w [] = tt
each_settled w (e ∷ es) = (settled_at w e, each_settled (step w e).world es)
