-- A call after a datagram.
use Rattle.std.proofs.Common.{◌≡◌, ℕ, Option, Some, None, List, [], ◌++◌, ◌≤◌, drop, refl, sym, ap, ◌∙◌, subst, eqb}
use Rattle.std.proofs.lemmas.List.{append-nil}
use Rattle.sg_base.specs.declared.addresses.Address.{Address}
use Rattle.sg_gateway.proofs.Arrivals.{Arrival, IsDrop, IsOpening, IsSeal, arrival}
use Rattle.sg_gateway.specs.Batch as batch
use Rattle.sg_gateway.specs.Datagrams.{Given, arrived_in}
use Rattle.sg_gateway.specs.World.{Call}
use Rattle.sg_call.specs.Drained.{IsDrained}
use Rattle.sg_call.specs.Handling.{OnDrop, handled_of, moment_after, call_after, all_handled, IsPassed}
use Rattle.sg_call.specs.Standing.{SessionsStand, CallStandsFor}
use Rattle.sg_call.specs.Values.{CallValue, InboxValue, RoutesValue}
use Rattle.sg_call.specs.declared.handled.End.{End}
use Rattle.sg_call.specs.declared.handled.End.TheVariants.{Out, Dropped}
use Rattle.sg_call.specs.declared.handled.Handled.{Handled}
use Rattle.sg_call.specs.States.{StateStandsFor, IsFormer}
use Rattle.sg_call.specs.declared.route.Route.{Route}
use Rattle.sg_call.specs.declared.state.State.{State}
use Rattle.sg_call.specs.declared.state.State.TheVariants.{Idle, Offered, Live}
use Rattle.sg_psk.specs.declared.pairs.Pair.{Pair}
use Rattle.sg_leg.specs.Values.{LiveValue}
use Rattle.sg_session.specs.Session.{Session}

-- a datagram changes sessions and moment alone
pub record IsKeptBy (d : List ℕ) (now : ℕ) (c : Call) (g : Given) : Type 0 where
  pub id_is : (batch.after g c).id ≡ c.id
  pub slot_is : (batch.after g c).slot ≡ c.slot
  pub media_are : (batch.after g c).media ≡ c.media
  pub generations_are : (batch.after g c).generations ≡ c.generations
  pub replaced_is : (batch.after g c).replaced ≡ c.replaced
  pub moment_is : (batch.after g c).moment ≡ moment_after (handled_of d g).end now c.moment

kept : (now port : ℕ) (d : List ℕ) (c : Call) (g : Given) → Arrival now port d c g → IsKeptBy d now c g
kept now port d c g (IsDrop cause is) = subst (IsKeptBy d now c) (sym is) (record { id_is = refl; slot_is = refl; media_are = refl; generations_are = refl; replaced_is = refl; moment_is = refl })
kept now port d c g (IsOpening o) = subst (IsKeptBy d now c) (sym o.gives) (record { id_is = refl; slot_is = refl; media_are = refl; generations_are = refl; replaced_is = refl; moment_is = refl })
kept now port d c g (IsSeal o) = subst (IsKeptBy d now c) (sym o.gives) (record { id_is = refl; slot_is = refl; media_are = refl; generations_are = refl; replaced_is = refl; moment_is = refl })

-- a call whose routes stay where the datagram is dropped stays there
pub drop_stays : (P : Type 0) (v w : CallValue) (e : End) (now n : ℕ) (routes : RoutesValue) → v ≡ w → n ≡ moment_after e now v.moment
    → OnDrop e (P × (routes ≡ record { current = v.current; earlier = v.earlier })) → OnDrop e (P × (record v { current = routes.current; earlier = routes.earlier; moment = n } ≡ w))
drop_stays P v w (Out port to) now n routes same at p = tt
drop_stays P v w (Dropped cause) now n routes same at p = (p.0, (λ i. record v { current = (p.1 i).current; earlier = (p.1 i).earlier; moment = at i }) ∙ same)

-- sessions and moment are nothing to the state
pub state_moved : (pairs : List Pair) (st : State) (c : Call) (ss : List Session) (n : ℕ) → StateStandsFor pairs st c → StateStandsFor pairs st (record c { sessions = ss; moment = n })
state_moved pairs (Idle slot) c ss n h = record { slot_is = h.slot_is; not_manual = h.not_manual; no_offer = h.no_offer; no_generation = h.no_generation }
state_moved pairs (Offered o) c ss n h = record { slot_is = h.slot_is; not_manual = h.not_manual; media_are = h.media_are; former_is = former_moved o.former h.former_is; offer = h.offer; is_offer = h.is_offer; is_open = h.is_open }
  where
    former_moved : (f : Option LiveValue) → IsFormer f c → IsFormer f (record c { sessions = ss; moment = n })
    former_moved None p = p
    former_moved (Some l) p = p
state_moved pairs (Live l) c ss n h = record { slot_is = h.slot_is; media_are = h.media_are; manual_is = h.manual_is; no_offer = h.no_offer; some_generation = h.some_generation }

state_after : (pairs : List Pair) (now port : ℕ) (d : List ℕ) (st : State) (c : Call) (g : Given) → Arrival now port d c g → StateStandsFor pairs st c → StateStandsFor pairs st (batch.after g c)
state_after pairs now port d st c g (IsDrop cause is) h = subst (λ g. StateStandsFor pairs st (batch.after g c)) (sym is) h
state_after pairs now port d st c g (IsOpening o) h = subst (λ g. StateStandsFor pairs st (batch.after g c)) (sym o.gives) (state_moved pairs st c _ now h)
state_after pairs now port d st c g (IsSeal o) h = subst (λ g. StateStandsFor pairs st (batch.after g c)) (sym o.gives) (state_moved pairs st c _ now h)

pub call_passed : (pairs : List Pair) (now port : ℕ) (from : Address) (d : List ℕ) (call : CallValue) (c : Call) (h : Handled) (current earlier : List Route) → CallStandsFor pairs call c → IsPassed now port from d c h current earlier
    → CallStandsFor pairs (record call { current = current; earlier = earlier; moment = moment_after h.end now call.moment }) (batch.after (arrived_in now port from d c) c)
call_passed pairs now port from d call c h current earlier s p =
    let k = kept now port d c (arrived_in now port from d c) (arrival now port from d c) in
    record {
      id_is = k.id_is ∙ s.id_is;
      slot_is = k.slot_is ∙ s.slot_is;
      media_are = k.media_are ∙ s.media_are;
      few = subst (λ n. n ≤ 4) (sym k.media_are) s.few;
      new_is = ap (λ n. eqb n 0) k.generations_are ∙ s.new_is;
      sessions = subst (SessionsStand current earlier) p.after_is p.stand;
      state_stands = state_after pairs now port d call.state c (arrived_in now port from d c) (arrival now port from d c) s.state_stands;
      replaced_is = k.replaced_is ∙ s.replaced_is;
      moment_is = k.moment_is ∙ (λ i. moment_after (sym p.is i).end now (s.moment_is i));
    }

-- the inbox doesn't matter
pub other_inbox : (pairs : List Pair) (call other : CallValue) (c : Call) → CallStandsFor pairs call c → other ≡ record call { waiting = other.waiting; handled = other.handled } → CallStandsFor pairs other c
other_inbox pairs call other c s is = subst (λ v. CallStandsFor pairs v c) (sym is)
    (record { id_is = s.id_is; slot_is = s.slot_is; media_are = s.media_are; few = s.few; new_is = s.new_is; sessions = s.sessions; state_stands = s.state_stands; replaced_is = s.replaced_is; moment_is = s.moment_is })

-- what is drained so far, from the start
abbrev pub Drains : CallValue → CallValue → Type 0
Drains start call =
    (pairs : List Pair) (c : Call) → CallStandsFor pairs start c
    → (d : Call) × CallStandsFor pairs call d × (call.handled ++ all_handled d call.waiting ≡ start.handled ++ all_handled c start.waiting) × (call_after d call.waiting ≡ call_after c start.waiting)

pub drained_all : (start call : CallValue) → call.waiting ≡ [] → (call.slot ≡ start.slot) × (call.media ≡ start.media) × (call.id ≡ start.id) → Drains start call → IsDrained start call
drained_all start call none same drains = record {
  none_waits = none;
  same_slot = same.0;
  same_media = same.1;
  same_id = same.2;
  handles = λ pairs c s. (let (d, stands, handled, after) = drains pairs c s in sym (ap (λ ws. call.handled ++ all_handled d ws) none ∙ append-nil call.handled) ∙ handled);
  stands = λ pairs c s. (let (d, stands, handled, after) = drains pairs c s in subst (CallStandsFor pairs call) (sym (ap (call_after d) none) ∙ after) stands);
}

-- where none waits, taking the next out of the inbox changes nothing
pub drained_none : (start call : CallValue) (inbox : InboxValue) → call.waiting ≡ [] → inbox ≡ record { waiting = drop 1 call.waiting; handled = call.handled }
    → (call.slot ≡ start.slot) × (call.media ≡ start.media) × (call.id ≡ start.id) → Drains start call → IsDrained start (record call { waiting = inbox.waiting; handled = inbox.handled })
drained_none start call inbox none is same drains =
    let stays : ◌≡◌ {A = CallValue} (record call { waiting = inbox.waiting; handled = inbox.handled }) call =
    ap (λ (x : InboxValue). record call { waiting = x.waiting; handled = x.handled }) is ∙ (λ i. record call { waiting = (ap (drop 1) none ∙ sym none) i }) in
    subst (IsDrained start) (sym stays) (drained_all start call none same drains)
