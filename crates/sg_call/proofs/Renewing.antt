-- A call under a new generation.
use Rattle.std.proofs.Common.{◌≡◌, ℕ, ◌+◌, ◌≤◌, Bool, true, false, cond, ◌&&◌, List, [], ◌∷◌, ◌++◌, map, length, Option, Some, None, Result, Ok, Err, refl, sym, ap, ◌∙◌, subst, eqb, ltb, arith}
use Rattle.std.proofs.lemmas.Bool.{eqb-true, eq-eqb, ne_eqb, false≢true}
use Rattle.std.proofs.Math.Bool.{and-true}
use Rattle.std.proofs.lemmas.List.{append-nil}
use Rattle.std.specs.Global.{Vec}
use Rattle.std.specs.List.{AllByRecursion, filter}
use Rattle.sg_agreement.specs.Answers.{AgreedAnswer, agreed_answer}
use Rattle.sg_agreement.specs.Generations.{Generation, generation_of, keys_from, owner_at, numbered, stream_session, stream_sessions, sessions_from}
use Rattle.sg_agreement.specs.Keying.{Offer}
use Rattle.sg_agreement.specs.Media.{Medium, Stream}
use Rattle.sg_base.specs.declared.addresses.Kind.{Kind}
use Rattle.sg_base.specs.declared.addresses.Kind.TheVariants.{Rtp, Rtcp}
use Rattle.sg_base.specs.declared.faults.Fault.{Fault}
use Rattle.sg_base.specs.declared.faults.Fault.TheVariants.{Refused, NoMemory}
use Rattle.sg_base.specs.declared.faults.Refusal.{Refusal}
use Rattle.sg_base.specs.declared.faults.Refusal.TheVariants.{State}
use Rattle.sg_gateway.proofs.Ordered.{InGeneration, generation_named, generation_differ}
use Rattle.sg_gateway.proofs.Pairs.{Pairs}
use Rattle.sg_gateway.specs.CallSignals.{answered_in, answered_to, has_begun, keyed_manually}
use Rattle.sg_gateway.specs.Generations.{Settled, is_current, is_opening, keyed, renewed}
use Rattle.sg_gateway.specs.Order.{DifferInName}
use Rattle.sg_gateway.specs.Passing.{HaveOwnPorts}
use Rattle.sg_gateway.specs.Ports.{leg_of, port_of}
use Rattle.sg_gateway.specs.World as world
use Rattle.sg_gateway.specs.World.{Call}
use Rattle.sg_leg.specs.Open.{IsAnswered, IsGiven, answered_with, live_after}
use Rattle.sg_leg.specs.Pairs.{EachPair}
use Rattle.sg_leg.specs.Planned.{ArePlanned, Planned, planned_sides}
use Rattle.sg_leg.specs.Standing.{Begins, manual_live}
use Rattle.sg_leg.specs.Values.{LiveValue, OfferedValue}
use Rattle.sg_leg.specs.declared.books.Books.{Books}
use Rattle.sg_leg.specs.declared.media_spec.SideSpec.{SideSpec}
use Rattle.sg_psk.specs.declared.pairs.Pair.{Pair}
use Rattle.sg_session.proofs.Inversions.{after_ok_is, ok_is}
use Rattle.sg_session.proofs.Lists.{each_weaker, each_append, each_filter, both}
use Rattle.sg_session.specs.Ring.{Installed, RingKey, install}
use Rattle.sg_session.specs.Session.{Key, Session, same_direction}
use Rattle.sg_session.specs.Stages.{after_ok, stop_if}
use Rattle.sg_session.specs.declared.names.Direction.{Direction}
use Rattle.sg_session.specs.declared.names.Direction.TheVariants.{Opening, Sealing}
use Rattle.sg_call.proofs.Offering.{idle_begun}
use Rattle.sg_call.proofs.Passing.{filter_append}
use Rattle.sg_call.proofs.Signalled.{sessions_as}
use Rattle.sg_call.specs.Adding.{Adds, opens_route, opens_side, renewed_value}
use Rattle.sg_call.specs.Settling.{BooksStandFor, IsSettled, Settles}
use Rattle.sg_call.specs.Standing.{SideStandsFor, RouteStandsFor, SessionsStand, CallStandsFor}
use Rattle.sg_call.specs.States.{IsIdle, IsOffered}
use Rattle.sg_call.specs.Values.{CallValue}
use Rattle.sg_call.specs.declared.route.MediaSide.{MediaSide}
use Rattle.sg_call.specs.declared.route.MediaSide.TheVariants.{Opens, Seals}
use Rattle.sg_call.specs.declared.route.Route.{Route}

-- Within a generation a session's owner is told by medium and direction.
abbrev pub IsOwn : ℕ → ℕ → Session → Type 0
IsOwn call generation s = s.name.owner ≡ owner_at call generation s.name.owner.medium s.name.owner.direction

streams_own : (call generation m : ℕ) (dir : Direction) (keys : List Key) (s : Stream) (window : ℕ) (x : Medium) → AllByRecursion (IsOwn call generation) (stream_sessions (owner_at call generation m dir) keys s window x)
streams_own call generation m dir keys s window x =
    (refl, both (AllByRecursion (IsOwn call generation)) x.has_rtcp (stream_session (owner_at call generation m dir) keys s window x Rtcp s.encrypts_rtcp 10 ∷ []) [] (refl, tt) tt)

all_own : (call generation m n : ℕ) (media : List (Option Medium)) → AllByRecursion (IsOwn call generation) (sessions_from call generation m n media)
all_own call generation m n [] = tt
all_own call generation m n (None ∷ ms) = all_own call generation (m + 1) n ms
all_own call generation m n (Some x ∷ ms) =
    let opening : List Session = stream_sessions (owner_at call generation m Opening) (numbered n x.from_peer.keys) x.from_peer x.window x in
    let sealing : List Session = stream_sessions (owner_at call generation m Sealing) (numbered (n + length x.from_peer.keys) x.to_peer.keys) x.to_peer 1024 x in
    let later : List Session = sessions_from call generation (m + 1) (n + length x.from_peer.keys + length x.to_peer.keys) ms in
    each_append (IsOwn call generation) opening (sealing ++ later) (streams_own call generation m Opening (numbered n x.from_peer.keys) x.from_peer x.window x)
    (each_append (IsOwn call generation) sealing later (streams_own call generation m Sealing (numbered (n + length x.from_peer.keys) x.to_peer.keys) x.to_peer 1024 x)
    (all_own call generation (m + 1) (n + length x.from_peer.keys + length x.to_peer.keys) ms))

leg_most : (d : Direction) (k : Kind) → leg_of d k ≤ 3
leg_most Opening Rtp = omega arith
leg_most Opening Rtcp = omega arith
leg_most Sealing Rtp = omega arith
leg_most Sealing Rtcp = omega arith

-- what a leg is told by
abbrev of_leg : ℕ → Direction × Kind
of_leg n = cond (ltb n 2) (Opening, cond (eqb n 0) Rtp Rtcp) (Sealing, cond (eqb n 2) Rtp Rtcp)

leg_back : (d : Direction) (k : Kind) → of_leg (leg_of d k) ≡ (d, k)
leg_back Opening Rtp = refl
leg_back Opening Rtcp = refl
leg_back Sealing Rtp = refl
leg_back Sealing Rtcp = refl

name_same : (slot call generation : ℕ) (s t : Session) → IsOwn call generation s → IsOwn call generation t → port_of slot s ≡ port_of slot t → s.name ≡ t.name
name_same slot call generation s t p q e =
    let a : leg_of s.name.owner.direction s.name.kind ≤ 3 = leg_most s.name.owner.direction s.name.kind in
    let b : leg_of t.name.owner.direction t.name.kind ≤ 3 = leg_most t.name.owner.direction t.name.kind in
    let route : leg_of s.name.owner.direction s.name.kind ≡ leg_of t.name.owner.direction t.name.kind = omega (arith, a, b, e) in
    let medium : s.name.owner.medium ≡ t.name.owner.medium = omega (arith, a, b, e) in
    let both : (s.name.owner.direction, s.name.kind) ≡ (t.name.owner.direction, t.name.kind) = sym (leg_back s.name.owner.direction s.name.kind) ∙ ap of_leg route ∙ leg_back t.name.owner.direction t.name.kind in
    let owner : s.name.owner ≡ t.name.owner = p ∙ (λ i. owner_at call generation (medium i) (both i).0) ∙ sym q in
    (λ i. record { owner = owner i; kind = (both i).1 })

ports_apart : (slot call generation : ℕ) (s : Session) (ss : List Session) → IsOwn call generation s → AllByRecursion (IsOwn call generation) ss → AllByRecursion (DifferInName s) ss → AllByRecursion (λ n. port_of slot s ≡ n → ⊥) (map (port_of slot) ss)
ports_apart slot call generation s [] p q d = tt
ports_apart slot call generation s (t ∷ ts) p q d = ((λ e. d.0 (name_same slot call generation s t p q.0 e)), ports_apart slot call generation s ts p q.1 d.1)

own_ports : (slot call generation : ℕ) (ss : List Session) → AllByRecursion (IsOwn call generation) ss → Pairs DifferInName ss → HaveOwnPorts slot ss
own_ports slot call generation [] q d = tt
own_ports slot call generation (s ∷ ss) q d = (ports_apart slot call generation s ss q.0 q.1 d.0, own_ports slot call generation ss q.1 d.1)

-- The opening routes of the generation before.
each_place : (P : ℕ → Type 0) (g : Session → ℕ) (test : Session → Bool) (ss : List Session) → AllByRecursion P (map g ss) → AllByRecursion P (map g (filter test ss))
each_place P g test [] p = tt
each_place P g test (s ∷ ss) p =
    let rest = each_place P g test ss p.1 in
    both (λ l. AllByRecursion P (map g l)) (test s) (s ∷ filter test ss) (filter test ss) (p.0, rest) rest

fewer_ports : (slot : ℕ) (test : Session → Bool) (ss : List Session) → HaveOwnPorts slot ss → HaveOwnPorts slot (filter test ss)
fewer_ports slot test [] p = tt
fewer_ports slot test (s ∷ ss) p =
    let rest = fewer_ports slot test ss p.1 in
    both (HaveOwnPorts slot) (test s) (s ∷ filter test ss) (filter test ss) (each_place (λ n. port_of slot s ≡ n → ⊥) (port_of slot) test ss p.0, rest) rest

opens_same : (side : MediaSide) (s : Session) → SideStandsFor side s → opens_side side ≡ is_opening s
opens_same (Opens o) s h = ap (λ d. same_direction d Opening) (sym h.0)
opens_same (Seals o) s h = ap (λ d. same_direction d Opening) (sym h.0)

fewer_routes : (slot : ℕ) (routes : List Route) (ss : List Session) → EachPair (RouteStandsFor slot) routes ss → EachPair (RouteStandsFor slot) (filter opens_route routes) (filter is_opening ss)
fewer_routes slot [] [] h = tt
fewer_routes slot (route ∷ routes) (s ∷ ss) h =
    subst (λ b. EachPair (RouteStandsFor slot) (cond (opens_route route) (route ∷ filter opens_route routes) (filter opens_route routes)) (cond b (s ∷ filter is_opening ss) (filter is_opening ss))) (opens_same route.side s h.0.side)
    (go (opens_route route) (fewer_routes slot routes ss h.1))
  where
    go : (b : Bool) → EachPair (RouteStandsFor slot) (filter opens_route routes) (filter is_opening ss)
        → EachPair (RouteStandsFor slot) (cond b (route ∷ filter opens_route routes) (filter opens_route routes)) (cond b (s ∷ filter is_opening ss) (filter is_opening ss))
    go true rest = (h.0, rest)
    go false rest = rest
fewer_routes slot routes ss h = absurd h

opening_is : (d : Direction) → same_direction d Opening ≡ true → d ≡ Opening
opening_is Opening e = refl
opening_is Sealing e = absurd (false≢true e)

all_opening : (ss : List Session) → AllByRecursion (λ s. s.name.owner.direction ≡ Opening) (filter is_opening ss)
all_opening [] = tt
all_opening (s ∷ ss) = go (is_opening s) refl (all_opening ss)
  where
    go : (b : Bool) → is_opening s ≡ b → AllByRecursion (λ s. s.name.owner.direction ≡ Opening) (filter is_opening ss)
        → AllByRecursion (λ s. s.name.owner.direction ≡ Opening) (cond b (s ∷ filter is_opening ss) (filter is_opening ss))
    go true e rest = (opening_is s.name.owner.direction e, rest)
    go false e rest = rest

and_false : (a : Bool) → (a && false) ≡ false
and_false true = refl
and_false false = refl

now_kept : (c : Call) (ss : List Session) → AllByRecursion (λ s. is_current c s ≡ true) ss → filter (λ s. is_opening s && is_current c s) ss ≡ filter is_opening ss
now_kept c [] p = refl
now_kept c (s ∷ ss) p = let rest = now_kept c ss p.1 in let test : (is_opening s && is_current c s) ≡ is_opening s = ap (λ b. is_opening s && b) p.0 ∙ and-true (is_opening s) in
    (λ i. cond (test i) (s ∷ rest i) (rest i))

before_gone : (c : Call) (ss : List Session) → AllByRecursion (λ s. is_current c s ≡ false) ss → filter (λ s. is_opening s && is_current c s) ss ≡ []
before_gone c [] p = refl
before_gone c (s ∷ ss) p = let rest = before_gone c ss p.1 in let test : (is_opening s && is_current c s) ≡ false = ap (λ b. is_opening s && b) p.0 ∙ and_false (is_opening s) in
    ap (λ b. cond b (s ∷ filter (λ s. is_opening s && is_current c s) ss) (filter (λ s. is_opening s && is_current c s) ss)) test ∙ rest

no_longer : (g n : ℕ) → eqb (g + 1) n ≡ true → eqb (g + 1) (n + 1) ≡ false
no_longer g n e = let same : g + 1 ≡ n = eqb-true (g + 1) n e in ne_eqb (g + 1) (n + 1) (λ f. (let x = f in let y = same in absurd (omega (arith, x, y))))

-- what is used of the call before
record IsBefore (call : CallValue) (c : Call) : Type 0 where
  id_is : c.id ≡ call.id
  slot_is : c.slot ≡ call.slot
  media_are : c.media ≡ call.media
  few : c.media ≤ 4
  sessions : SessionsStand call.current call.earlier c

-- a call that is keyed manually has one medium
before_manual : (pairs : List Pair) (call : CallValue) (c : Call) → CallStandsFor pairs call c → IsBefore (record call { media = 1 }) (record c { media = 1; manual = true })
before_manual pairs call c h = record {
  id_is = h.id_is;
  slot_is = h.slot_is;
  media_are = refl;
  few = omega arith;
  sessions = sessions_as call.current call.earlier c (record c { media = 1; manual = true }) refl refl refl h.sessions;
}

-- the call's new sessions are those of its next generation
record AreNew (c : Call) (news : List Session) : Type 0 where
  own : AllByRecursion (IsOwn c.serial c.generations) news
  named : AllByRecursion (InGeneration c.generations 0) news
  differ : Pairs DifferInName news

are_new : (c : Call) (ring : List Installed) (media : List (Option Medium)) (g : Generation) → generation_of c.serial c.generations ring media ≡ Ok g → AreNew c g.sessions
are_new c ring media g e =
    let i = after_ok_is (install ring (keys_from c.serial c.generations 0 media)) _ g e in
    subst (λ (g : Generation). AreNew c g.sessions) (ok_is _ g i.2) (record {
      own = all_own c.serial c.generations 0 (length ring) media;
      named = generation_named c.serial c.generations 0 (length ring) media;
      differ = generation_differ c.serial c.generations 0 (length ring) media;
    })

call_renewed : (pairs : List Pair) (call : CallValue) (c : Call) (now : ℕ) (l : LiveValue) (news : List Session) (plan : List Planned) (routes : List Route) → IsBefore call c → AreNew c news
    → l ≡ record { slot = c.slot; media = c.media; manual = c.manual } → ArePlanned plan news → Adds call.slot plan [] routes
    → CallStandsFor pairs (renewed_value call now l routes) (renewed now c news)
call_renewed pairs call c now l news plan routes h new live each adds =
    let some : eqb (c.generations + 1) 0 ≡ false = ne_eqb (c.generations + 1) 0 (λ e. (let x = e in absurd (omega (arith, x)))) in
    record {
      id_is = h.id_is;
      slot_is = h.slot_is;
      media_are = h.media_are;
      few = h.few;
      new_is = some;
      sessions = record {
        now = news;
        before = filter is_opening h.sessions.now;
        are = ap (λ ss. news ++ ss) (ap (filter (λ s. is_opening s && is_current c s)) h.sessions.are ∙ filter_append (λ s. is_opening s && is_current c s) h.sessions.now h.sessions.before
            ∙ (λ i. now_kept c h.sessions.now h.sessions.now_current i ++ before_gone c h.sessions.before h.sessions.before_not i) ∙ append-nil (filter is_opening h.sessions.now));
        now_stand = record {
          own = own_ports c.slot c.serial c.generations news new.own new.differ;
          each = subst (λ n. EachPair (RouteStandsFor n) routes news) (sym h.slot_is) (adds [] news tt each);
        };
        before_stand = record {
          own = fewer_ports c.slot is_opening h.sessions.now h.sessions.now_stand.own;
          each = fewer_routes c.slot call.current h.sessions.now h.sessions.now_stand.each;
        };
        now_current = each_weaker _ _ (λ s p. ap (λ n. eqb (n + 1) (c.generations + 1)) p.0 ∙ eq-eqb _ (c.generations + 1) refl) news new.named;
        before_not = each_filter (λ (s : Session). eqb (s.name.owner.generation + 1) (c.generations + 1) ≡ false) is_opening h.sessions.now
            (each_weaker _ _ (λ (s : Session) e. no_longer s.name.owner.generation c.generations e) h.sessions.now h.sessions.now_current);
        before_open = all_opening h.sessions.now;
      };
      state_stands = record {
        slot_is = ap (λ (x : LiveValue). x.slot) live;
        media_are = ap (λ (x : LiveValue). x.media) live;
        manual_is = ap (λ (x : LiveValue). x.manual) live;
        no_offer = refl;
        some_generation = some;
      };
      replaced_is = refl;
      moment_is = refl;
    }

-- ---- an answer

module _ (now : ℕ) (b : world.Books) (c : Call) (noise text : List ℕ) (o : Offer) (is_offer : c.offer ≡ Some o) where
  abbrev with_generation : List ℕ → Generation → Settled
  with_generation out g = record { text = out; call = renewed now c g.sessions; books = record b { ring = g.ring } }

  abbrev begins : AgreedAnswer → Result Generation Refusal
  begins a = generation_of c.serial c.generations b.ring a.media

  refused_too : (r : Result AgreedAnswer Refusal) (cause : Refusal) → after_ok {Y = List ℕ × Generation} r (λ a. after_ok {Y = List ℕ × Generation} (begins a) (λ g. Ok (a.text, g))) ≡ Err cause
      → after_ok r (λ a. after_ok (begins a) (λ g. Ok (with_generation a.text g))) ≡ Err cause
  refused_too (Err other) cause e = let same : other ≡ cause = cc in ap (λ x. Err x) same
  refused_too (Ok a) cause e = go (begins a) e
    where
      go : (r : Result Generation Refusal) → after_ok {Y = List ℕ × Generation} r (λ g. Ok (a.text, g)) ≡ Err cause → after_ok r (λ g. Ok (with_generation a.text g)) ≡ Err cause
      go (Ok g) e = absurd cc
      go (Err other) e = let same : other ≡ cause = cc in ap (λ x. Err x) same

  pub answer_refused : (cause : Refusal) → answered_with c.slot o noise text c.serial c.generations b.ring ≡ Err cause → answered_in now b c noise text ≡ Err cause
  answer_refused cause e = ap (answered_to now b c noise text) is_offer ∙ refused_too (agreed_answer c.slot o noise text) cause e

  -- no answer is given
  pub answer_failed : {F : Type 0} (v : OfferedValue) (f : F) (fault : Fault) (ring : List RingKey) (call : CallValue) (new : Books)
      → IsAnswered {S = Vec SideSpec} {F = F} (λ (sides : Vec SideSpec). planned_sides sides.items) v (Err (f, fault)) ring (answered_with c.slot o noise text c.serial c.generations b.ring) → IsSettled (Err fault) call new (answered_in now b c noise text)
  answer_failed v f (Refused cause) ring call new e = answer_refused cause e
  answer_failed v f NoMemory ring call new e = tt

  record WasAnswered (x : List ℕ × Generation) : Type 0 where
    media : List (Option Medium)
    begun : generation_of c.serial c.generations b.ring media ≡ Ok x.1
    gives : answered_in now b c noise text ≡ Ok (with_generation x.0 x.1)

  was_answered : (x : List ℕ × Generation) → answered_with c.slot o noise text c.serial c.generations b.ring ≡ Ok x → WasAnswered x
  was_answered x e =
      let a = after_ok_is (agreed_answer c.slot o noise text) _ x e in
      let g = after_ok_is (begins a.0) _ x a.2 in
      subst WasAnswered (ok_is _ x g.2) (record {
        media = a.0.media;
        begun = g.1;
        gives = ap (answered_to now b c noise text) is_offer ∙ ap (λ r. after_ok r (λ a. keyed now b c a.text a.media)) a.1
            ∙ ap (λ r. after_ok r (λ g. Ok (with_generation a.0.text g))) g.1;
      })

  module _ (old new : Books) (books : BooksStandFor old b) (same : (new.psks ≡ old.psks) × (new.seen ≡ old.seen)) (call : CallValue) (h : CallStandsFor b.pairs call c) (v : OfferedValue) (open_is : IsOffered b.pairs v c)
      (out : List ℕ) (plan : List Planned) (routes : List Route) where
    pub answered_so : IsGiven out plan new.ring (answered_with c.slot o noise text c.serial c.generations b.ring) → Adds call.slot plan [] routes
        → Settles CallStandsFor (renewed_value call now (live_after v) routes) out new (answered_in now b c noise text)
    answered_so (x, is, text_is, g) adds =
        let w = was_answered x is in
        record {
          settled = with_generation x.0 x.1;
          is_settled = w.gives;
          text_is = text_is;
          stands = call_renewed b.pairs call c now (live_after v) x.1.sessions plan routes
              (record { id_is = h.id_is; slot_is = h.slot_is; media_are = h.media_are; few = h.few; sessions = h.sessions })
              (are_new c b.ring w.media x.1 w.begun)
              (λ i. record { slot = open_is.slot_is i; media = open_is.media_are i; manual = sym open_is.not_manual i })
              g.planned adds;
          books_stand = record { pairs = same.0 ∙ books.pairs; noted = same.1 ∙ books.noted; ring = g.installed };
        }

-- ---- keyed manually

module _ (now : ℕ) (b : world.Books) (c : Call) (x : Medium) where
  abbrev one_medium : Call
  one_medium = record c { media = 1; manual = true }

  abbrev manual_generation : Result Generation Refusal
  manual_generation = generation_of c.serial c.generations b.ring (Some x ∷ [])

  keyed_as : has_begun c ≡ false → (r : Result Generation Refusal) → manual_generation ≡ r
      → keyed_manually now b c x ≡ after_ok r (λ g. Ok (record { text = []; call = renewed now one_medium g.sessions; books = record b { ring = g.ring } }))
  keyed_as is r e = ap (λ t. stop_if t State (keyed now b one_medium [] (Some x ∷ []))) is
      ∙ ap (λ r. after_ok r (λ g. Ok (record { text = []; call = renewed now one_medium g.sessions; books = record b { ring = g.ring } }))) e

  module _ (slot : ℕ) (idle : IsIdle slot c) where
    pub keyed_so : (old new : Books) → BooksStandFor old b → (new.psks ≡ old.psks) × (new.seen ≡ old.seen) → (call : CallValue) → CallStandsFor b.pairs call c → (plan : List Planned) (routes : List Route)
        → Begins (Ok plan) new.ring manual_generation → Adds call.slot plan [] routes
        → Settles CallStandsFor (renewed_value (record call { media = 1 }) now (manual_live slot) routes) [] new (keyed_manually now b c x)
    keyed_so old new books same call h plan routes (g, is, begun) adds = record {
      settled = record { text = []; call = renewed now one_medium g.sessions; books = record b { ring = g.ring } };
      is_settled = keyed_as (idle_begun slot c idle) (Ok g) is;
      text_is = refl;
      stands = call_renewed b.pairs (record call { media = 1 }) one_medium now (manual_live slot) g.sessions plan routes (before_manual b.pairs call c h)
          (let n = are_new c b.ring (Some x ∷ []) g is in record { own = n.own; named = n.named; differ = n.differ })
          (λ i. record { slot = idle.slot_is i; media = 1; manual = true }) begun.planned adds;
      books_stand = record { pairs = same.0 ∙ books.pairs; noted = same.1 ∙ books.noted; ring = begun.installed };
    }
