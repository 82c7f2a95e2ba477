-- How a run that plays a script ends: whose failure it was.
use Rattle.std.proofs.Common.{◌≡◌, ◌⊎◌, ◌≤◌, ℕ, true, Bool, List, [], Option, Some, Err, refl, sym, ap, ◌∙◌, subst, inl, inr, arith, IsErrOf, append-nil}
use Rattle.sg_edge.specs.Told.{Rose, Tally, Tells, TookIn}
use Rattle.sg_trace.proofs.Common.{AtFault, Closes, Course, Done, Effects, EndedBy, Given, HasFailed, IsNextBy, IsPlayed, IsRun, IsWant, LoopEnds, NoMemory}
use Rattle.sg_trace.proofs.Common.{Noise, Read, Reading, Script, ScriptFault, Spelling, Status, Tellings, Ways, Write, added_none, course, took_none}
use Rattle.sg_trace.proofs.Common.{wrote_none}
use Rattle.sg_trace.proofs.Causes.{ended_as, failed_now, not_failed}
use Rattle.sg_trace.proofs.Grammars.{none_fails}

pub next_isnt : {L : Type 0} (spelled : Spelling L) (followed : ℕ → L → ℕ) (status other : Status) (old new : Reading) (got : List ℕ) (left : Tally)
    → (IsNextBy spelled followed (Err other) old new got left → ⊥) → IsNextBy spelled followed (Err status) old new got left → status ≡ other → ⊥
next_isnt spelled followed status other old new got left never next is = never (subst (λ s. IsNextBy spelled followed (Err s) old new got left) is next)

pub want_not : (status other : Status) → IsWant status → (Write ≡ other → ⊥) → (NoMemory ≡ other → ⊥) → status ≡ other → ⊥
want_not status other (inl is) a b same = a (sym is ∙ same)
want_not status other (inr is) a b same = b (sym is ∙ same)

module _ {S D : Type 0} (e : Effects S D) (batch : ℕ) where
  -- another status than the end, and than those of telling, isn't answered
  pub closes_not : (end status other : Status) (s : S) (waited : List D) (out : List ℕ) → Closes end status e batch s waited out → (end ≡ other → ⊥) → (Write ≡ other → ⊥) → (NoMemory ≡ other → ⊥) → status ≡ other → ⊥
  closes_not end status other s waited out (inl is) a b c same = a (sym is.0 ∙ same)
  closes_not end status other s waited out (inr cut) a b c same = want_not status other cut.0 b c same

pub played_not_read : {S D : Type 0} (status : Status) (e : Effects S D) (gives : List ℕ → Option (Given D)) (batch : ℕ) (s : S) (waited waits : List D) (stands : S → Type 0) (draws out : List ℕ)
    → IsPlayed (Err status) e gives batch s waited waits stands draws out → status ≡ Read → ⊥
played_not_read status e gives batch s waited waits stands draws out played is = subst (λ other. IsPlayed (Err other) e gives batch s waited waits stands draws out) is played

-- where nothing failed
pub ended_quiet : (own instead : Type 0) (old new : ℕ) (failed : Option Bool) → new ≡ old → (own → ⊥) → EndedBy own instead old new failed
ended_quiet own instead old new failed same isnt = ended_as own instead old new failed (not_failed own old new failed same isnt)

-- where it failed, if the reading did
ended_failed : (own instead : Type 0) (old new : ℕ) (failed : Option Bool) → old ≤ new → Rose old new → Tells failed true → own ⊎ instead → EndedBy own instead old new failed
ended_failed own instead old new failed later rose told how = record {
  later = later;
  rose = λ is. rose;
  told = λ is. told;
  quiet = λ a b. absurd (neither how a b);
  last = λ a b. inr (rose, told);
}
  where
    neither : own ⊎ instead → (own → ⊥) → (instead → ⊥) → ⊥
    neither (inl is) a b = a is
    neither (inr is) a b = b is

either : (status : Status) → (status ≡ Read) ⊎ (status ≡ Read → ⊥)
either Read = inl refl
either other = inr (λ is. cc)

module _ {S D : Type 0} (e : Effects S D) (batch : ℕ) where
  -- a reading that came to an end, which was closed
  pub ended_closed : (T : Type 0) (end status : Status) (s : S) (waited : List D) (out : List ℕ) → Closes end status e batch s waited out → (a b c : ℕ) (failed : Option Bool) → b ≡ a
      → HasFailed (IsErrOf {T = T} (Err end) Read) b c failed → EndedBy (status ≡ Read) (IsWant status) a c failed
  ended_closed T end status s waited out closed a b c failed same cause = elim (either end) [
    | inl is ↦ let now = failed_now _ a b c failed same cause in ended_failed (status ≡ Read) (IsWant status) a c failed now.later (now.rose (ap Err is)) (now.told (ap Err is)) (how is closed)
    | inr isnt ↦ ended_quiet (status ≡ Read) (IsWant status) a c failed (cause.quiet (λ is. isnt (let told : end ≡ Read = cc in told)) ∙ same) (closes_not e batch end status Read s waited out closed isnt (λ is. cc) (λ is. cc))
  ]
    where
      how : end ≡ Read → Closes end status e batch s waited out → (status ≡ Read) ⊎ IsWant status
      how is (inl all) = inl (all.0 ∙ is)
      how is (inr cut) = inr cut.0

-- where the source's octets have no fault, the loop comes to their end
module _ {L D : Type 0} (w : Ways L D) (tells : List D → List ℕ) (batch : ℕ) (octets draws out : List ℕ) (left left' : Tally) (took : TookIn left left' octets) where
  pub completes : (status : Status) → LoopEnds w tells batch status octets draws out left' → (status ≡ Read → ⊥) → (status ≡ Write → ⊥) → (status ≡ Noise → ⊥)
      → (all rest : List ℕ) → left.told ≡ Some all → left'.told ≡ Some rest → ((n : ℕ) (fault : ScriptFault) → (course w all draws).stop ≡ AtFault n fault → ⊥) → (status ≡ Done) ⊎ (status ≡ NoMemory)
  completes Done ends a b c all rest told told' none = inl refl
  completes NoMemory ends a b c all rest told told' none = inr refl
  completes Read ends a b c all rest told told' none = absurd (a refl)
  completes Write ends a b c all rest told told' none = absurd (b refl)
  completes Noise ends a b c all rest told told' none = absurd (c refl)
  completes (Script n fault) ends a b c all rest told told' none =
      absurd (none_fails left left' octets all rest fault (λ o. (course w o draws).stop ≡ AtFault n fault) took told told' (none n fault) ends.0.stops ends.1
      (λ other more. ap (λ (c : Course D). c.stop) (ends.2 other more) ∙ ends.0.stops))
  completes other ends a b c all rest told told' none = absurd ends

-- memory ran out before anything was read
pub nothing_run : {L D : Type 0} (w : Ways L D) (tells : List D → List ℕ) (batch : ℕ) (is_prompt : Bool) (old : Tellings) → tells [] ≡ [] → IsRun w tells batch is_prompt NoMemory old old [] [] []
nothing_run w tells batch is_prompt old none = record {
  took = took_none old.left;
  drew = added_none old.drawn;
  wrote = wrote_none old.written;
  ends = record {
    played = [];
    ahead = [];
    split = refl;
    near = omega arith;
    no_last = λ at is. cc;
    told = [];
    late = [];
    alike = refl;
    few = omega arith;
    begun = ([], sym (append-nil (tells []) ∙ none));
    within = (tells [], refl);
  };
  at_once = λ prompt. record {
    lines = [];
    line = [];
    ahead = [];
    split = refl;
    one = inr refl;
    near = omega arith;
    sound = refl;
    begun = ([], sym (append-nil (tells []) ∙ none));
    within = (tells [], refl);
  };
  unended = λ is. cc;
  bound = omega arith;
}
