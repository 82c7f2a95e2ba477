-- What a relay does for one thing that is said, where calls may be joined.
use Rattle.std.proofs.Common.{◌≡◌, ◌∷◌, [], ℕ, Bool, false, cond, List, Result, Ok, Err, refl, sym, ap, ◌∙◌, subst, OnOk}
use Rattle.sg_lines.specs.declared.lines.Signal.{Signal}
use Rattle.sg_switchboard.proofs.Order.{state_after-append, told_from-append, told_of_one}
use Rattle.sg_switchboard.specs.Switching.{State, after, state_after, told_from}
use Rattle.sg_relay.proofs.Common.{Act, AreCarriedOut, AreHandled, BridgeOutcome, GoInOrder, Happens, IsDone, LinkCall, Said, Signalled, Status, StopsWith}
use Rattle.sg_relay.proofs.Common.{act_of_bridge, acting, acts_of_all, bridging, ended_as, events_of_signal, happen_all, map-append, signal_lacks_noise}
use Rattle.sg_relay.proofs.Common.{signal_of}

pub in_order : GoInOrder acting
in_order = record {
  none_done = λ s. refl;
  none_after = λ s. refl;
  acts = λ s ds es. ap acts_of_all (told_from-append s ds es) ∙ map-append act_of_bridge (told_from s ds) (told_from (state_after s ds) es);
  after = state_after-append;
}

pub on_ok : {P Q : Type 0} (r : Result (Unit {0}) Status) → (P → Q) → OnOk r P → OnOk r Q
on_ok (Ok u) to is = to is
on_ok (Err s) to is = tt

-- ---- one thing that is said, of which this is told

module _ (state : State) (x : Said) (told : List BridgeOutcome) (is : (bridging state.world state.calls x).told ≡ told) (stands_for : State → Type 0) (calls : List LinkCall) (out : List ℕ) where
  acts_are : acting.acts state (x ∷ []) ≡ acts_of_all told
  acts_are = ap acts_of_all (told_of_one state x ∙ is)

  pub one_done : {T : Type 0} (y : T) → AreCarriedOut (Ok tt) (acts_of_all told) calls out → stands_for (after (bridging state.world state.calls x)) → AreHandled (Ok y) acting state (x ∷ []) stands_for calls out
  one_done y done stands = (subst (λ (l : List Act). IsDone l calls out) (sym acts_are) done.0, done.1, done.2, stands)

  pub one_stops : (T : Type 0) (s : Status) → AreCarriedOut (Err s) (acts_of_all told) calls out → AreHandled {T = T} (Err s) acting state (x ∷ []) stands_for calls out
  one_stops T s done = (subst (λ (l : List Act). StopsWith s l calls out) (sym acts_are) done.0, done.1)

  pub one_handled : (r : Result (Unit {0}) Status) → AreCarriedOut r (acts_of_all told) calls out → OnOk r (stands_for (after (bridging state.world state.calls x))) → AreHandled r acting state (x ∷ []) stands_for calls out
  one_handled (Ok u) done stands = one_done u done stands
  one_handled (Err s) done stands = one_stops (Unit {0}) s done

  pub one_carried_out : {T : Type 0} (r : Result T Status) → AreCarriedOut (ended_as r) (acts_of_all told) calls out → stands_for (after (bridging state.world state.calls x)) → AreHandled r acting state (x ∷ []) stands_for calls out
  one_carried_out (Ok y) done stands = one_done y done stands
  one_carried_out {T} (Err s) done stands = one_stops T s done

-- a signal that has its noise
pub happens_one : (signal : Signal) → signal_lacks_noise signal ≡ false → happen_all (events_of_signal signal) ≡ Happens (Signalled (signal_of signal)) ∷ []
happens_one signal ready = ap (λ (b : Bool). happen_all (cond b [] (Signalled (signal_of signal) ∷ []))) ready
