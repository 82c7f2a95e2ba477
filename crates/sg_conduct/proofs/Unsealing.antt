-- Each opening of a run.
use Rattle.std.proofs.Common.{◌≡◌, ℕ, List, Option, Some, None, refl, sym, subst}
use Rattle.std.specs.List.{AllByRecursion, Any}
use Rattle.sg_base.specs.declared.addresses.Address.{Address}
use Rattle.sg_gateway.proofs.Common.{Call, Datagram, Direction, Entry, Event, Given, IsSound, Octets, Opening, Sealing, Signalled, World, any_weaker}
use Rattle.sg_gateway.proofs.Common.{arrived_at, arrived_in, call_at, each_weaker, given_to, has_port, opened_new, step}
use Rattle.sg_gateway.proofs.Arrivals.{Arrival, Is, IsDrop, IsOpening, IsSeal, arrival}
use Rattle.sg_gateway.proofs.Kept.{IsKept}
use Rattle.sg_gateway.proofs.OpenedAndPut.{held_kept}
use Rattle.sg_gateway.proofs.Signals.{is_found}
use Rattle.sg_conduct.proofs.Sealings.{opened_again}
use Rattle.sg_conduct.specs.Unsealed.{IsUnsealed, IsUnsealedFrom}

two : (dir : Direction) → dir ≡ Opening → dir ≡ Sealing → ⊥
two dir a b = absurd cc

module _ (past : List Entry) (w : World) (kept : IsKept IsSound past w) (port : ℕ) (from : Address) (d : Octets) (c : Call) (is_call : call_at w port ≡ Some c) where
  abbrev Here : Entry → Type 0
  Here e = e.session.owner.direction ≡ Opening → Any (IsUnsealed d.items e) c.sessions

  abbrev AreHere : Given → Type 0
  AreHere g = AllByRecursion Here (given_to w port g).entries

  opened_here : (g : Given) → Arrival w.moment port d.items c g → AreHere g
  opened_here g (IsDrop cause is) = subst AreHere (sym is) tt
  opened_here g (IsSeal o) = subst AreHere (sym o.gives) ((λ opening. absurd (two o.session.name.owner.direction opening o.sealing)), tt)
  opened_here g (IsOpening o) =
      let sound : IsSound o.session = (held_kept IsSound past w kept port c o.session is_call o.is_held).extra in
      let again = opened_again o.session d.items o.taken sound d.small o.opened in
      let e : Entry = record { session = o.session.name; key = o.taken.key; encrypts = o.session.encrypts; done = o.taken.done } in
      subst AreHere (sym o.gives) (
        (λ opening. any_weaker (Is o.session) (IsUnsealed d.items e)
            (λ y is. subst (IsUnsealed d.items e) (sym is) (record { name = refl; key = (opened_new o.session d.items o.taken o.opened).key; on = again.0; text = again.1 })) c.sessions o.is_held),
        tt,
      )

pub unsealed_at : (past : List Entry) (w : World) → IsKept IsSound past w → (e : Event)
    → AllByRecursion (λ x. x.session.owner.direction ≡ Opening → Any (IsUnsealedFrom e x) w.calls) (step w e).entries
unsealed_at past w kept (Signalled signal) = tt
unsealed_at past w kept (Datagram port from d) = go (call_at w port) refl
  where
    go : (o : Option Call) → call_at w port ≡ o
        → AllByRecursion (λ x. x.session.owner.direction ≡ Opening → Any (λ c. Any (IsUnsealed d.items x) c.sessions) w.calls) (arrived_at w port from d.items o).entries
    go None is = tt
    go (Some c) is = each_weaker (λ x. x.session.owner.direction ≡ Opening → Any (IsUnsealed d.items x) c.sessions) _
        (λ x here opening. any_weaker (λ y. y ≡ c) _ (λ y is_c. subst (λ (y : Call). Any (IsUnsealed d.items x) y.sessions) (sym is_c) (here opening)) w.calls (is_found (has_port port) w.calls c is))
        (given_to w port (arrived_in w.moment port from d.items c)).entries
        (opened_here past w kept port from d c is (arrived_in w.moment port from d.items c) (arrival w.moment port from d.items c))
