-- A script of its kind is relayed to its end, where nothing fails, sends aside.
use Rattle.std.proofs.Common.{◌≡◌, List, [], ◌∷◌, ◌++◌, ℕ, refl, sym, subst, inl, inr, arith}
use Rattle.sg_trace.proofs.Grammars.{none_fails}
use Rattle.sg_relay.proofs.Common.{Act, AreGood, AtFault, Capture, Clock, Done, EndsBadly, Failing, IsCompleteRelay, IsGood, IsPart, IsRelay, Link, LinkCall}
use Rattle.sg_relay.proofs.Common.{NoMemory, Noise, Passed, Read, Receive, RelayEnds, RelayTellings, Rose, Script, Status, Tally, TurnsSpent, Usage, Weaves}
use Rattle.sg_relay.proofs.Common.{Write, acts_by, added_none, called_none, receipts_in, stop_by, took_none, woven, wrote_none}
use Rattle.sg_relay.proofs.Deeds.{cut_off_bad, done_none, part_of}
use Rattle.sg_relay.proofs.Order.{due_none, order_none}

good_last : (a : List LinkCall) (x : LinkCall) → AreGood (a ++ x ∷ []) → IsGood x
good_last [] x good = good.0
good_last (y ∷ a) x good = good_last a x good.1

not_bad : (calls : List LinkCall) → AreGood calls → EndsBadly calls → ⊥
not_bad calls good ends = ends.bad (good_last ends.before ends.last (subst AreGood ends.calls_are good))

-- with Link the last call failed
pub link_failed : {L D : Type 0} (w : Weaves L D) (acts : List D → List Act) (turns : ℕ) (p : Passed) (left : Tally) → RelayEnds w acts Link turns p left → EndsBadly p.calls
link_failed w acts turns p left (inl (before, failed, whole)) = record { before = before; last = Receive Failing; calls_are = failed; good = whole.good; bad = λ is. is }
link_failed w acts turns p left (inr cut) = cut_off_bad _ p.calls p.out cut

pub complete : {L D : Type 0} (w : Weaves L D) (acts : List D → List Act) (status : Status) (turns link link' : ℕ) (old new : RelayTellings) (p : Passed) → IsRelay w acts status turns old new p
    → (status ≡ Read → ⊥) → (status ≡ Write → ⊥) → (status ≡ Clock → ⊥) → (status ≡ Noise → ⊥) → (status ≡ Link → Rose link link') → IsCompleteRelay w status turns old.left new.left link link' p
complete w acts Done turns link link' old new p run a b c d e = λ all rest told told' script few well. inl refl
complete w acts NoMemory turns link link' old new p run a b c d e = λ all rest told told' script few well. inr refl
complete w acts Usage turns link link' old new p run a b c d e = absurd run.ends
complete w acts (Capture offset fault) turns link link' old new p run a b c d e = absurd run.ends
complete w acts Read turns link link' old new p run a b c d e = absurd (a refl)
complete w acts Write turns link link' old new p run a b c d e = absurd (b refl)
complete w acts Clock turns link link' old new p run a b c d e = absurd (c refl)
complete w acts Noise turns link link' old new p run a b c d e = absurd (d refl)
complete w acts Link turns link link' old new p run a b c d e = λ all rest told told' script few well. absurd (elim well [
  | inl still ↦ still (e refl)
  | inr good ↦ not_bad p.calls good (link_failed w acts turns p new.left run.ends)
])
complete w acts TurnsSpent turns link link' old new p run a b c d e = λ all rest told told' script few well. absurd (few run.ends.0.stops run.ends.1)
complete w acts (Script n f) turns link link' old new p run a b c d e = λ all rest told told' script few well. absurd
    (none_fails old.left new.left p.octets all rest f (λ (o : List ℕ). (woven w o p.readings (receipts_in p.calls) p.draws).stop ≡ AtFault n f) run.took told told'
    (script p.readings (receipts_in p.calls) p.draws n f) run.ends.0.stops run.ends.1 run.ends.2)

-- ---- a run that ends before anything is done

abbrev pub none_passed : Passed
none_passed = record { octets = []; out = []; calls = []; readings = []; draws = [] }

pub none_relayed : {L D : Type 0} (w : Weaves L D) (acts : List D → List Act) → acts [] ≡ [] → (old : RelayTellings) (turns : ℕ) → IsRelay w acts NoMemory turns old old none_passed
none_relayed w acts none old turns = record {
  took = took_none _;
  wrote = wrote_none _;
  called = called_none _;
  read = added_none _;
  drew = added_none _;
  ends = record { part = subst (λ (os : List Act). IsPart os [] []) (sym none) (part_of [] [] [] done_none); good = tt };
  bound = omega arith;
  most = omega arith;
  paced = refl;
  in_order = order_none (acts_by w acts none_passed) [] refl;
  due = due_none (stop_by w none_passed) [] refl;
}
