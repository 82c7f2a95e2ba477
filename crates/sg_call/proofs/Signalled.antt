-- Accepted offers, rejected offers and ticks in a call.
use Rattle.std.proofs.Common.{◌≡◌, ℕ, ◌+◌, ◌≤◌, Bool, true, false, cond, not, List, [], ◌∷◌, ◌++◌, length, Option, Some, None, Result, Ok, Err, refl, sym, ap, ◌∙◌, subst, eqb, leb}
use Rattle.std.specs.List.{AllByRecursion, filter}
use Rattle.std.specs.Option.{is_some}
use Rattle.sg_agreement.specs.Offers.{AgreedOffer, agreed_offer}
use Rattle.sg_agreement.specs.declared.ways.Way.{Way}
use Rattle.sg_base.specs.declared.faults.Refusal.{Refusal}
use Rattle.sg_base.specs.declared.faults.Refusal.TheVariants as refusals
use Rattle.sg_gateway.specs.CallSignals.{at_hand, call_at_tick, offered_in, rejected_in, takes_offer, with_notes, without_earlier}
use Rattle.sg_gateway.specs.Generations.{Settled, is_current}
use Rattle.sg_gateway.specs.World as world
use Rattle.sg_gateway.specs.World.{Call}
use Rattle.sg_leg.specs.Values.{LiveValue, OfferedValue}
use Rattle.sg_leg.specs.declared.books.Books.{Books}
use Rattle.sg_psk.specs.declared.pairs.Pair.{Pair}
use Rattle.sg_session.specs.Session.{Session}
use Rattle.sg_session.specs.Stages.{after_ok, stop_if}
use Rattle.sg_call.proofs.Passing.{filter_append}
use Rattle.sg_call.proofs.Standing.{state_moved}
use Rattle.sg_call.specs.Settling.{IsRejected, Settles}
use Rattle.sg_call.specs.Standing.{CallStandsFor, RoutesStandFor, SessionsStand}
use Rattle.sg_call.specs.States.{IsOffered, former_live}
use Rattle.sg_call.specs.Values.{CallValue}
use Rattle.sg_call.specs.declared.route.Route.{Route}
use Rattle.sg_call.specs.declared.state.State.TheVariants.{Offered, Live}

-- an offer changes media, offer and moment alone
offered_keeps : (now : ℕ) (b : world.Books) (c : Call) (way : Way) (noise text : List ℕ) (s : Settled) → offered_in now b c way noise text ≡ Ok s
    → s.call ≡ record c { media = s.call.media; offer = s.call.offer; moment = now }
offered_keeps now b c way noise text s e = go (not (takes_offer c)) (agreed_offer (at_hand now b c noise) way text) e
  where
    with_agreed : AgreedOffer → Settled
    with_agreed a = record {
      text = a.text;
      call = record c { media = a.media; offer = Some a.offer; moment = now };
      books = record b { noted = with_notes b.noted a.noted };
    }

    same : (a : AgreedOffer) → with_agreed a ≡ s → s.call ≡ record c { media = s.call.media; offer = s.call.offer; moment = now }
    same a is = subst (λ (t : Settled). t.call ≡ record c { media = t.call.media; offer = t.call.offer; moment = now }) is refl

    go : (t : Bool) (r : Result AgreedOffer Refusal) → stop_if t refusals.State (after_ok r (λ a. Ok (with_agreed a))) ≡ Ok s → s.call ≡ record c { media = s.call.media; offer = s.call.offer; moment = now }
    go true r e = absurd cc
    go false (Ok a) e = same a (let is : with_agreed a ≡ s = cc in is)
    go false (Err cause) e = absurd cc

-- what doesn't touch generations and sessions leaves the routes' part
pub sessions_as : (current earlier : List Route) (c d : Call) → d.slot ≡ c.slot → d.generations ≡ c.generations → d.sessions ≡ c.sessions → SessionsStand current earlier c → SessionsStand current earlier d
sessions_as current earlier c d slot generations sessions h = record {
  now = h.now;
  before = h.before;
  are = sessions ∙ h.are;
  now_stand = subst (λ n. RoutesStandFor n current h.now) (sym slot) h.now_stand;
  before_stand = subst (λ n. RoutesStandFor n earlier h.before) (sym slot) h.before_stand;
  now_current = subst (λ n. AllByRecursion (λ (s : Session). eqb (s.name.owner.generation + 1) n ≡ true) h.now) (sym generations) h.now_current;
  before_not = subst (λ n. AllByRecursion (λ (s : Session). eqb (s.name.owner.generation + 1) n ≡ false) h.before) (sym generations) h.before_not;
  before_open = h.before_open;
}

pub call_offered : (pairs : List Pair) (call : CallValue) (c : Call) (now : ℕ) (b : world.Books) (way : Way) (noise text : List ℕ) (o : OfferedValue) (out : List ℕ) (books : Books)
    → CallStandsFor pairs call c → length o.description.media ≤ 4 → Settles IsOffered o out books (offered_in now b c way noise text)
    → Settles CallStandsFor (record call { media = length o.description.media; moment = now; state = Offered o }) out books (offered_in now b c way noise text)
call_offered pairs call c now b way noise text o out books h few s =
    let keeps = offered_keeps now b c way noise text s.settled s.is_settled in
    let d : Call = s.settled.call in
    record {
      settled = s.settled;
      is_settled = s.is_settled;
      text_is = s.text_is;
      stands = record {
        id_is = ap (λ (x : Call). x.id) keeps ∙ h.id_is;
        slot_is = ap (λ (x : Call). x.slot) keeps ∙ h.slot_is;
        media_are = sym s.stands.media_are;
        few = subst (λ n. n ≤ 4) s.stands.media_are few;
        new_is = ap (λ (x : Call). eqb x.generations 0) keeps ∙ h.new_is;
        sessions = sessions_as call.current call.earlier c d (ap (λ (x : Call). x.slot) keeps) (ap (λ (x : Call). x.generations) keeps) (ap (λ (x : Call). x.sessions) keeps) h.sessions;
        state_stands = s.stands;
        replaced_is = ap (λ (x : Call). x.replaced) keeps ∙ h.replaced_is;
        moment_is = ap (λ (x : Call). x.moment) keeps;
      };
      books_stand = s.books_stand;
    }

-- A tick.
each_kept : (test : Session → Bool) (ss : List Session) → AllByRecursion (λ s. test s ≡ true) ss → filter test ss ≡ ss
each_kept test [] p = refl
each_kept test (s ∷ ss) p = (λ i. cond (p.0 i) (s ∷ each_kept test ss p.1 i) (filter test ss))

none_kept : (test : Session → Bool) (ss : List Session) → AllByRecursion (λ s. test s ≡ false) ss → filter test ss ≡ []
none_kept test [] p = refl
none_kept test (s ∷ ss) p = ap (λ b. cond b (s ∷ filter test ss) (filter test ss)) p.0 ∙ none_kept test ss p.1

call_dropped : (pairs : List Pair) (call : CallValue) (c : Call) → CallStandsFor pairs call c → CallStandsFor pairs (record call { earlier = [] }) (without_earlier c)
call_dropped pairs call c h = record {
  id_is = h.id_is;
  slot_is = h.slot_is;
  media_are = h.media_are;
  few = h.few;
  new_is = h.new_is;
  sessions = record {
    now = h.sessions.now;
    before = [];
    are = ap (filter (is_current c)) h.sessions.are ∙ filter_append (is_current c) h.sessions.now h.sessions.before
        ∙ (λ i. each_kept (is_current c) h.sessions.now h.sessions.now_current i ++ none_kept (is_current c) h.sessions.before h.sessions.before_not i);
    now_stand = h.sessions.now_stand;
    before_stand = record { own = tt; each = tt };
    now_current = h.sessions.now_current;
    before_not = tt;
    before_open = tt;
  };
  state_stands = state_moved pairs call.state c (filter (is_current c) c.sessions) c.moment h.state_stands;
  replaced_is = h.replaced_is;
  moment_is = h.moment_is;
}

past_is : (pairs : List Pair) (call : CallValue) (c : Call) (now : ℕ) (b : Bool) → CallStandsFor pairs call c → b ≡ leb (call.replaced + 2000) now → leb (c.replaced + 2000) now ≡ b
past_is pairs call c now b h is = ap (λ n. leb (n + 2000) now) h.replaced_is ∙ sym is

pub ticked : (pairs : List Pair) (call : CallValue) (c : Call) (now : ℕ) (b : Bool) → CallStandsFor pairs call c → b ≡ leb (call.replaced + 2000) now
    → CallStandsFor pairs (cond b (record call { earlier = [] }) call) (call_at_tick now c)
ticked pairs call c now true h is = subst (λ b. CallStandsFor pairs (record call { earlier = [] }) (cond b (without_earlier c) c)) (sym (past_is pairs call c now true h is)) (call_dropped pairs call c h)
ticked pairs call c now false h is = subst (λ b. CallStandsFor pairs call (cond b (without_earlier c) c)) (sym (past_is pairs call c now false h is)) h

-- A rejected offer.
abbrev with_rejected : ℕ → Call → Bool → Bool → Result (Option Call) Refusal
with_rejected now c is_open is_new = cond is_open (Ok (cond is_new None (Some (record c { offer = None; moment = now })))) (Err refusals.State)

module _ (pairs : List Pair) (now : ℕ) (c : Call) (o : OfferedValue) (h : IsOffered pairs o c) where
  rejected_as : (is_new : Bool) → eqb c.generations 0 ≡ is_new → rejected_in now c ≡ with_rejected now c true is_new
  rejected_as is_new e = (λ i. with_rejected now c (is_some (h.is_offer i)) (e i))

  pub went_on : (call : CallValue) (l : LiveValue) → CallStandsFor pairs call c → o.former ≡ Some l → IsRejected pairs (Ok true) (record call { state = Live l; moment = now }) (rejected_in now c)
  went_on call l k some =
      let former : (eqb c.generations 0 ≡ false) × (l ≡ former_live c) = subst (λ f. Rattle.sg_call.specs.States.IsFormer f c) some h.former_is in
      let d : Call = record c { offer = None; moment = now } in (
        d,
        rejected_as false former.0,
        record {
          id_is = k.id_is;
          slot_is = k.slot_is;
          media_are = k.media_are;
          few = k.few;
          new_is = k.new_is;
          sessions = sessions_as call.current call.earlier c d refl refl refl k.sessions;
          state_stands = record {
            slot_is = ap (λ (x : LiveValue). x.slot) former.1;
            media_are = ap (λ (x : LiveValue). x.media) former.1;
            manual_is = ap (λ (x : LiveValue). x.manual) former.1 ∙ sym h.not_manual;
            no_offer = refl;
            some_generation = former.0;
          };
          replaced_is = k.replaced_is;
          moment_is = refl;
        },
      )
