-- What a relay asked its link for is a prefix of what some acts ask for, and so are the ports that it holds.
use Rattle.std.proofs.Common.{◌≡◌, inl, inr, refl, ℕ, List, [], ◌∷◌, ◌++◌, sym, ap, ◌∙◌, subst, append_assoc, length, length-append, arith, append-nil, flat_map}
use Rattle.sg_relay.proofs.Common.{Act, AreOfCalls, Ask, Capture, Clock, Done, EachFits, Failing, Failures, HasPassed, HoldsItsCallsPorts, IsAtNext, IsCutOff}
use Rattle.sg_relay.proofs.Common.{IsPart, IsPrefixOf, IsRelay, IsWholeRelay, Link, LinkCall, NoMemory, Noise, Passed, PortsAreOfCalls, Read, Receive}
use Rattle.sg_relay.proofs.Common.{RelayEnds, RelayTellings, Rose, Script, Status, Tally, TurnsSpent, Usage, Weaves, World, Write, ask_in, asks_in, asks_of}
use Rattle.sg_relay.proofs.Common.{deeds_by, receipts_in, world_by, woven_of}
use Rattle.sg_relay.proofs.Complete.{complete, none_passed, none_relayed}
use Rattle.sg_relay.proofs.Deeds.{flat_append, prefix_after, prefix_all, prefix_longer}

-- the asks are a prefix of those that are of some deeds
abbrev IsPrefix : {D : Type 0} → (List D → List Act) → List Ask → Type 0
IsPrefix {D} acts asks = (ds : List D) × IsPrefixOf asks (flat_map asks_of (acts ds))

-- calls whose asks are of some acts, and others of which a prefix is of the next act
prefix_of : (done others : List Act) (next : Act) (before last : List LinkCall) → asks_in before ≡ flat_map asks_of done → IsPrefixOf (asks_in last) (asks_of next)
    → IsPrefixOf (asks_in (before ++ last)) (flat_map asks_of (done ++ next ∷ others))
prefix_of done others next before last asked prefix =
    subst (λ (a : List Ask). IsPrefixOf a (flat_map asks_of (done ++ next ∷ others))) (ap (λ (l : List Ask). l ++ asks_in last) (sym asked) ∙ sym (flat_append ask_in before last))
    (subst (IsPrefixOf (flat_map asks_of done ++ asks_in last)) (sym (flat_append asks_of done (next ∷ others)))
    (prefix_after (flat_map asks_of done) (asks_in last) (asks_of next ++ flat_map asks_of others) (prefix_longer (asks_in last) (asks_of next) (flat_map asks_of others) prefix)))

whole_prefix : {L D : Type 0} (w : Weaves L D) (acts : List D → List Act) (p : Passed) (stop : _) → IsWholeRelay w acts p stop → IsPrefix acts (asks_in p.calls)
whole_prefix w acts p stop whole = ((woven_of w p).deeds, subst (IsPrefixOf (asks_in p.calls)) whole.done.asked (prefix_all (asks_in p.calls)))

part_prefix : {D : Type 0} (acts : List D → List Act) (ds : List D) (calls : List LinkCall) (out : List ℕ) → IsPart (acts ds) calls out → IsPrefix acts (asks_in calls)
part_prefix acts ds calls out part = (
  ds,
  subst (λ (os : List Act). IsPrefixOf (asks_in calls) (flat_map asks_of os)) (sym part.acts_are)
      (subst (λ (l : List LinkCall). IsPrefixOf (asks_in l) (flat_map asks_of (part.done ++ part.others))) (sym part.calls_are) (go part.others part.last part.piece part.next)),
)
  where
    go : (others : List Act) (last : List LinkCall) (piece : List ℕ) → IsAtNext others last piece → IsPrefixOf (asks_in (part.before ++ last)) (flat_map asks_of (part.done ++ others))
    go others last piece (inl none) =
        subst (λ (l : List LinkCall). IsPrefixOf (asks_in l) (flat_map asks_of (part.done ++ others))) (sym (ap (λ l. part.before ++ l) none.0 ∙ append-nil part.before))
        (subst (λ (a : List Ask). IsPrefixOf a (flat_map asks_of (part.done ++ others))) (sym part.whole.asked)
        (flat_map asks_of others, flat_append asks_of part.done others))
    go others last piece (inr (next, rest, is, untold)) =
        subst (λ (os : List Act). IsPrefixOf (asks_in (part.before ++ last)) (flat_map asks_of (part.done ++ os))) (sym is)
        (prefix_of part.done rest next part.before last part.whole.asked (subst (IsPrefixOf (asks_in last)) untold.asked (prefix_all (asks_in last))))

cut_prefix : {D : Type 0} (acts : List D → List Act) (ds : List D) (calls : List LinkCall) (out : List ℕ) → IsCutOff (acts ds) calls out → IsPrefix acts (asks_in calls)
cut_prefix acts ds calls out cut = (
  ds,
  subst (λ (os : List Act). IsPrefixOf (asks_in calls) (flat_map asks_of os)) (sym cut.acts_are)
      (subst (λ (l : List LinkCall). IsPrefixOf (asks_in l) (flat_map asks_of (cut.done ++ cut.next ∷ cut.others))) (sym cut.calls_are)
      (prefix_of cut.done cut.others cut.next cut.before cut.last cut.whole.asked cut.fails.asked)),
)

prefix : {L D : Type 0} (w : Weaves L D) (acts : List D → List Act) (s : Status) (turns : ℕ) (p : Passed) (left : Tally) → RelayEnds w acts s turns p left → IsPrefix acts (asks_in p.calls)
prefix w acts Done turns p left ends = whole_prefix w acts p _ ends.0
prefix w acts (Script n fault) turns p left ends = whole_prefix w acts p _ ends.0
prefix w acts TurnsSpent turns p left ends = whole_prefix w acts p _ ends.0
prefix w acts Clock turns p left ends = whole_prefix w acts p _ ends.0
prefix w acts Noise turns p left ends = whole_prefix w acts p _ ends
prefix w acts Link turns p left (inl (before, failed, whole)) =
    subst (λ (l : List LinkCall). IsPrefix acts (asks_in l)) (sym failed) (subst (IsPrefix acts) (sym (flat_append ask_in before (Receive Failing ∷ []) ∙ append-nil (asks_in before))) (whole_prefix w acts (record p { calls = before }) _ whole))
prefix w acts Link turns p left (inr cut) = cut_prefix acts (woven_of w p).deeds p.calls p.out cut
prefix w acts Usage turns p left ends = absurd ends
prefix w acts (Capture offset fault) turns p left ends = absurd ends
prefix w acts other turns p left ends = part_prefix acts (woven_of w p).deeds p.calls p.out ends.part

fits_prefix : (asks all : List Ask) → IsPrefixOf asks all → EachFits all → EachFits asks
fits_prefix asks all (rest, is) fits = λ before more ask at. fits before (more ++ rest) ask (is ∙ ap (λ (l : List Ask). l ++ rest) at ∙ append_assoc before (ask ∷ more) rest)

-- The ports are those of the calls, as a law has it for all deeds.
pub holds : {L D : Type 0} (w : Weaves L D) (acts : List D → List Act) (world : List D → World) → ((ds : List D) → PortsAreOfCalls (acts ds) (world ds)) → (s : Status) (turns : ℕ) (old new : RelayTellings) (p : Passed)
    → IsRelay w acts s turns old new p → HoldsItsCallsPorts w world p
holds w acts world law s turns old new p run =
    let asked = prefix w acts s turns p new.left run.ends in
    record {
      at_receives = λ before rest x is. subst (λ (a : List Ask). AreOfCalls a (world_by w world p (receipts_in before))) (sym (run.in_order before rest x is))
          (law (deeds_by w p (receipts_in before))).ports;
      each = fits_prefix (asks_in p.calls) (flat_map asks_of (acts asked.0)) asked.1 (law asked.0).each;
    }

-- A run of which each failure shows in the status, sends aside, with its ports, by acts that are the same.
pub has_passed : {L D : Type 0} (w : Weaves L D) (acts acts' : List D → List Act) (world : List D → World) → ((ds : List D) → acts ds ≡ acts' ds) → ((ds : List D) → PortsAreOfCalls (acts' ds) (world ds))
    → (s : Status) (turns : ℕ) (old new : RelayTellings) (failures failures' : Failures) → (p : Passed) × IsRelay w acts s turns old new p
    → (s ≡ Read → Rose failures.source failures'.source) → (s ≡ Write → Rose failures.sink failures'.sink) → (s ≡ Clock → Rose failures.clock failures'.clock) → (s ≡ Noise → Rose failures.noise failures'.noise)
    → (s ≡ Link → Rose failures.link failures'.link) → HasPassed w acts' world s turns old new failures failures'
has_passed {L} {D} w acts acts' world same law s turns old new failures failures' (p, is) read write clock noise link =
    let run : IsRelay w acts' s turns old new p = subst (λ (f : List D → List Act). IsRelay w f s turns old new p) (λ i ds. same ds i) is in record {
      passed = p;
      is = run;
      ports = holds w acts' world law s turns old new p run;
      complete = λ only. complete w acts' s turns failures.link failures'.link old new p run
          (λ e. only.source (read e)) (λ e. only.sink (write e)) (λ e. only.clock (clock e)) (λ e. only.noise (noise e)) link;
    }

-- a relay that asked its link for nothing
pub holds_none : {L D : Type 0} (w : Weaves L D) (world : List D → World) (p : Passed) → p.calls ≡ [] → HoldsItsCallsPorts w world p
holds_none w world p none = record {
  at_receives = λ before rest x is. absurd (omega (arith, ap length (sym none ∙ is), length-append before (Receive x ∷ rest)));
  each = λ before rest ask is. absurd (omega (arith, ap length (sym (ap asks_in none) ∙ is), length-append before (ask ∷ rest)));
}

-- memory ran out before anything was done
abbrev pub nothing_passed : {L D : Type 0} (w : Weaves L D) (acts : List D → List Act) (world : List D → World) → acts [] ≡ [] → (turns : ℕ) (old : RelayTellings) (failures : Failures) → HasPassed w acts world NoMemory turns old old failures failures
nothing_passed w acts world none turns old failures = record {
  passed = none_passed;
  is = none_relayed w acts none old turns;
  ports = holds_none w world none_passed refl;
  complete = λ only all rest told told' script few well. inr refl;
}
