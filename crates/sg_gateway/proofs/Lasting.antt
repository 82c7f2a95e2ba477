-- Each session was made in an earlier turn, and stays what it was made.
use Rattle.std.proofs.Common.{◌≡◌, ◌⊎◌, inl, inr, ℕ, ◌+◌, not, List, [], ◌∷◌, ◌++◌, length, map, Option, Some, None, refl, sym, ap, ◌∙◌, subst, arith, eqb}
use Rattle.sg_agreement.specs.Manual.{ManualCall, manual_medium, manual_stream}
use Rattle.sg_gateway.proofs.Common.{All-from_recursion, AllByRecursion, Any, Books, Call, CallId, Datagram, Direction, Done, Event, Installed, Medium, Name}
use Rattle.sg_gateway.proofs.Common.{Opening, Sealing, Session, Signalled, Turn, World, any_here, any_there, any_weaker, both, call_at_tick, call_of}
use Rattle.sg_gateway.proofs.Common.{drops_earlier, each_append, each_filter, each_map, each_of, each_weaker, empty, filter, has_port, is_current, is_idle}
use Rattle.sg_gateway.proofs.Common.{none_some, numbered, owner_at, same_id, same_name, sessions_from, some_is, step, stream_sessions, turn_of, turns_from}
use Rattle.sg_gateway.proofs.Common.{with_done, without_call, without_earlier, world_after}
use Rattle.sg_gateway.proofs.ByTexts.{same_call_id}
use Rattle.sg_gateway.proofs.CarriedOut.{found_with, id_found, stays}
use Rattle.sg_gateway.proofs.Lists.{any_last, any_first}
use Rattle.sg_gateway.proofs.MediaSessions.{each_session, each_stream}
use Rattle.sg_gateway.proofs.Signals.{each_and_call, each_with_call, found}
use Rattle.sg_gateway.proofs.StepCases.{each_signal, renewed_by, each_datagram, each_manual, manual_call}
use Rattle.sg_gateway.proofs.Taken.{found_new, same_id_itself}
use Rattle.sg_gateway.proofs.TurnByTurn.{kept_after, kept_before}
use Rattle.sg_gateway.specs.Lasting.{IsAnsweredIn, IsManualIn, IsMadeIn, WereMadeIn, SessionsLast, key_towards, IsOfManual}
use Rattle.sg_gateway.specs.Signals.{Manual, Answered, Answer, answer_to, new_call, Signal}

-- ---- the sessions of a generation

abbrev IsOf : ℕ → Session → Type 0
IsOf generation s = s.name.owner.generation ≡ generation

of_generation : (call generation m n : ℕ) (xs : List (Option Medium)) → AllByRecursion (IsOf generation) (sessions_from call generation m n xs)
of_generation call generation m n xs = each_session (IsOf generation) (λ o. Unit {0}) call generation (λ m n x u. each_stream (IsOf generation) _ _ x.from_peer x.window x refl (λ on. refl))
    (λ m n x u. each_stream (IsOf generation) _ _ x.to_peer 1024 x refl (λ on. refl)) m n xs (each_of (λ o. Unit {0}) (λ o. tt) xs)

-- each of the first ones, and what more is to be had of each
each_held : (P : Session → Type 0) (xs more : List Session) → AllByRecursion P xs → AllByRecursion (λ s. Any (λ x. x ≡ s) (xs ++ more) × P s) xs
each_held P [] more p = tt
each_held P (x ∷ xs) more p =
    ((any_here _ x (xs ++ more) refl, p.0), each_weaker _ _ (λ s q. (any_there _ x (xs ++ more) q.0, q.1)) xs (each_held P xs more p.1))

-- the call under a new generation
record IsKeyed (c : Call) (media : List (Option Medium)) (d : Call) : Type 0 where
  serial : d.serial ≡ c.serial
  id : d.id ≡ c.id
  generations : d.generations ≡ c.generations + 1
  number : ℕ
  sessions : d.sessions ≡ sessions_from c.serial c.generations 0 number media ++ filter (stays c) c.sessions

renewed_is : (now : ℕ) (books : Books) (c : Call) (text : List ℕ) (media : List (Option Medium)) (ring : List Installed) → IsKeyed c media (renewed_by now books c text media ring).call
renewed_is now books c text media ring = record { serial = refl; id = refl; generations = refl; number = length books.ring; sessions = refl }

manual_is : (w : World) (h : ManualCall) (ring : List Installed)
    → IsKeyed (new_call w h.id) (Some (manual_medium h) ∷ []) (renewed_by w.moment w.books (manual_call w h) [] (Some (manual_medium h) ∷ []) ring).call
manual_is w h ring = record { serial = refl; id = refl; generations = refl; number = length w.books.ring; sessions = refl }

-- ---- an event

-- each of the call's sessions was made in one of these turns
abbrev pub Lasts : List Turn → Call → Type 0
Lasts ts c = AllByRecursion (λ s. Any (IsMadeIn c.id s) ts) c.sessions

abbrev pub AllLast : List Turn → World → Type 0
AllLast ts w = AllByRecursion (Lasts ts) w.calls

-- a session that does one packet more was made where it was made
done_made : (id : CallId) (n : Name) (d : Done) (s : Session) (u : Turn) → IsMadeIn id s u → IsMadeIn id (with_done n d s) u
done_made id n d s u is = both (λ x. IsMadeIn id x u) (same_name s.name n) (record s { done = s.done ++ d ∷ [] }) s
    (record { call = is.call; there = is.there; keyed = is.keyed; made = is.made; held = is.held; current = is.current; same = ap (λ (x : Session). record x { done = s.done ++ d ∷ [] }) is.same }) is

module _ (ts : List Turn) (w : World) (last : AllLast ts w) (e : Event) where
  abbrev Now : List Turn
  Now = ts ++ turn_of w e ∷ []

  still : AllLast Now w
  still = each_weaker (Lasts ts) (Lasts Now) (λ c is. each_weaker _ _ (λ s made. any_first (IsMadeIn c.id s) ts (turn_of w e ∷ []) made) c.sessions is) w.calls last

  -- the sessions of the new generation are made now, and the others were made before
  keyed_lasts : (c d : Call) (media : List (Option Medium)) → IsKeyed c media d → Lasts Now c → call_of (step w e).world d.id ≡ Some d
      → IsAnsweredIn (turn_of w e) d.id d ⊎ IsManualIn (turn_of w e) d.id → Lasts Now d
  keyed_lasts c d media is lasts there by =
      let new : List Session = sessions_from c.serial c.generations 0 is.number media in
      let old : List Session = filter (stays c) c.sessions in
      subst (AllByRecursion (λ s. Any (IsMadeIn d.id s) Now)) (sym is.sessions)
      (each_append (λ s. Any (IsMadeIn d.id s) Now) new old
      (each_weaker (λ s. Any (λ x. x ≡ s) (new ++ old) × IsOf c.generations s) (λ s. Any (IsMadeIn d.id s) Now)
      (λ s p. any_last (IsMadeIn d.id s) ts (turn_of w e) (record {
        call = d;
        there = there;
        keyed = by;
        made = s;
        held = subst (Any (λ x. x ≡ s)) (sym is.sessions) p.0;
        current = (let at = p.1 in let more = is.generations in omega (arith, at, more));
        same = refl;
      }))
      new (each_held (IsOf c.generations) new old (of_generation c.serial c.generations 0 is.number media)))
      (each_filter (λ s. Any (IsMadeIn d.id s) Now) (stays c) c.sessions
      (subst (λ i. AllByRecursion (λ s. Any (IsMadeIn i s) Now) c.sessions) (sym is.id) lasts)))

  goes : (c : Call) → AllByRecursion (Lasts Now) (without_call c.serial w.calls)
  goes c = each_filter (Lasts Now) (λ x. not (eqb x.serial c.serial)) w.calls still

  of_call : (id : CallId) (c : Call) → call_of w id ≡ Some c → Lasts Now c
  of_call id c at = found (Lasts Now) (λ x. same_id x.id id) w.calls c at still

  did : (c : Call) (n : Name) (d : Done) → Lasts Now c → AllByRecursion (λ s. Any (IsMadeIn c.id s) Now) (map (with_done n d) c.sessions)
  did c n d lasts = each_map (λ s. Any (IsMadeIn c.id s) Now) (λ s. Any (IsMadeIn c.id s) Now) (with_done n d) (λ s made. any_weaker (IsMadeIn c.id s) (IsMadeIn c.id (with_done n d s)) (done_made c.id n d s) Now made) c.sessions lasts

-- a signal's turn
module _ (ts : List Turn) (w : World) (last : AllLast ts w) (signal : Signal) where
  abbrev After : List Turn
  After = Now ts w last (Signalled signal)

  as_before : AllLast After w
  as_before = still ts w last (Signalled signal)

  signal_lasts : AllLast After (answer_to w signal).world
  signal_lasts = each_signal w (λ s a. s ≡ signal → answer_to w signal ≡ a → AllLast After a.world) (record {
    refuses = λ s id cause this same. as_before;
    ticks = λ now on this same. each_map (Lasts After) (Lasts After) (call_at_tick now)
        (λ c is. both (Lasts After) (drops_earlier now c) (without_earlier c) c (each_filter (λ s. Any (IsMadeIn c.id s) After) (is_current c) c.sessions is) is)
        (filter (λ c. not (is_idle now c)) w.calls) (each_filter (Lasts After) (λ c. not (is_idle now c)) w.calls as_before);
    pairs = λ p this same. as_before;
    keys = λ h none room ring is this same.
        let d : Call = (renewed_by w.moment w.books (manual_call w h) [] (Some (manual_medium h) ∷ []) ring).call in
        let there = found_new (λ c. same_id c.id h.id) d w.calls (same_id_itself h.id) none in
        each_and_call (Lasts After) d w.calls
        (keyed_lasts ts w last (Signalled signal) (new_call w h.id) d (Some (manual_medium h) ∷ []) (manual_is w h ring) tt (ap (λ (a : Answer). call_of a.world h.id) same ∙ there)
        (inr (h, refl, ap (λ s. Signalled s) (sym this), none))) as_before;
    begins = λ id way noise text none room a agreed this same. each_and_call (Lasts After) _ w.calls tt as_before;
    offers = λ id way noise text c at a agreed this same. each_with_call (Lasts After) _ w.calls (of_call ts w last (Signalled signal) id c at) as_before;
    answers = λ id noise text c at o is_open g agreed ring is this same.
        let d : Call = (renewed_by w.moment w.books c g.text g.media ring).call in
        let own : c.id ≡ id = same_call_id id c w.calls at in
        let there = found_with id c d w.calls refl (id_found id c w.calls at) at in
        each_with_call (Lasts After) d w.calls
        (keyed_lasts ts w last (Signalled signal) c d g.media (renewed_is w.moment w.books c g.text g.media ring) (of_call ts w last (Signalled signal) id c at)
        (ap (call_of (answer_to w signal).world) own ∙ (ap (λ (a : Answer). call_of a.world id) same ∙ there))
        (inl (noise, text, c, ap (λ s. Signalled s) (sym this) ∙ ap (λ i. Signalled (Answered i noise text)) (sym own), ap (call_of w) own ∙ at, refl))) as_before;
    rejects = λ id c at none this same. goes ts w last (Signalled signal) c;
    closes = λ id c at this same. each_with_call (Lasts After) _ w.calls (of_call ts w last (Signalled signal) id c at) as_before;
    leaves = λ id c at this same. goes ts w last (Signalled signal) c;
  }) signal refl refl

event_lasts : (ts : List Turn) (w : World) → AllLast ts w → (e : Event) → AllLast (ts ++ turn_of w e ∷ []) (step w e).world
event_lasts ts w last (Signalled signal) = signal_lasts ts w last signal
event_lasts ts w last (Datagram port from d) =
    let e : Event = Datagram port from d in
    each_datagram w port (λ h. AllLast (Now ts w last e) h.world) (record {
      drops = λ cause. still ts w last e;
      puts = λ c at s t octets held. each_with_call (Lasts (Now ts w last e)) _ w.calls
          (did ts w last e c s.name t.done (found (Lasts (Now ts w last e)) (has_port port) w.calls c at (still ts w last e))) (still ts w last e);
    }) from d.items

-- ---- a run

were_made : (ts : List Turn) (w : World) → AllLast ts w → WereMadeIn ts w
were_made ts w last =
    All-from_recursion _ w.calls (each_weaker (Lasts ts) _ (λ c is. All-from_recursion (λ s. Any (IsMadeIn c.id s) ts) c.sessions is) w.calls last)

pub sessions_last : (events : List Event) → SessionsLast events
sessions_last events = record {
  before = kept_before AllLast event_lasts (λ ts t. WereMadeIn ts t.before) (λ ts w last e. were_made ts w last) [] empty events tt;
  last = were_made (turns_from empty events) (world_after empty events) (kept_after AllLast event_lasts [] empty events tt);
}

-- ---- a call that is keyed manually

module _ (h : ManualCall) where
  direction_manual : (call generation n : ℕ) (direction : Direction) (window : ℕ)
      → AllByRecursion (IsOfManual h)
      (stream_sessions (owner_at call generation 0 direction) (numbered n (manual_stream h.roc (key_towards direction h)).keys) (manual_stream h.roc (key_towards direction h)) window (manual_medium h))
  direction_manual call generation n direction window =
      each_stream (IsOfManual h) _ _ (manual_stream h.roc (key_towards direction h)) window (manual_medium h)
      (record { masters = refl; encrypts = refl; roc = refl; secure = refl; plain = refl })
      (λ on. record { masters = refl; encrypts = refl; roc = refl; secure = refl; plain = refl })

  sessions_manual : (call generation n : ℕ) → AllByRecursion (IsOfManual h) (sessions_from call generation 0 n (Some (manual_medium h) ∷ []))
  sessions_manual call generation n =
      each_append (IsOfManual h) (stream_sessions (owner_at call generation 0 Opening) (numbered n (manual_stream h.roc h.from_peer).keys) (manual_stream h.roc h.from_peer) (manual_medium h).window (manual_medium h)) _
      (direction_manual call generation n Opening (manual_medium h).window)
      (each_append (IsOfManual h) (stream_sessions (owner_at call generation 0 Sealing) (numbered (n + 1) (manual_stream h.roc h.to_peer).keys) (manual_stream h.roc h.to_peer) 1024 (manual_medium h)) []
      (direction_manual call generation (n + 1) Sealing 1024) tt)

module _ (h : ManualCall) (w : World) (none : call_of w h.id ≡ None) where
  abbrev AreManual : Answer → Type 0
  AreManual a = (d : Call) → call_of a.world h.id ≡ Some d → AllByRecursion (IsOfManual h) d.sessions

  pub manual_told : AreManual (answer_to w (Manual h))
  manual_told = each_manual w h AreManual (λ cause d is. absurd (none_some d (sym none ∙ is))) (λ free room ring installs d is.
      let made : Call = (renewed_by w.moment w.books (manual_call w h) [] (Some (manual_medium h) ∷ []) ring).call in
      let here = found_new (λ c. same_id c.id h.id) made w.calls (same_id_itself h.id) none in
      subst (λ (d : Call). AllByRecursion (IsOfManual h) d.sessions) (some_is made d (sym here ∙ is))
      (each_append (IsOfManual h) (sessions_from w.made 0 0 (length w.books.ring) (Some (manual_medium h) ∷ [])) [] (sessions_manual h w.made 0 (length w.books.ring)) tt))
