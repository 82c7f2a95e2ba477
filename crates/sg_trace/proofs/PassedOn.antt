-- A run that ends passes on what its sink holds: what was so of the end is so of the status.
use Rattle.std.proofs.Common.{◌≡◌, ◌⊎◌, ◌≤◌, ℕ, List, [], ◌++◌, length, Bool, Option, refl, sym, ◌∙◌, subst, inl, inr, arith, append-nil}
use Rattle.sg_trace.proofs.Common.{Done, EndedBy, HasFailed, IsAll, IsCut, IsOfOutside, IsPassedOn, IsWant, LoopEnds, NoMemory, Noise, Read, Script}
use Rattle.sg_trace.proofs.Common.{Status, Tally, Ways, Write, Wrote, course, rose_later, wrote_none}
use Rattle.sg_trace.proofs.Causes.{failed_as}
use Rattle.sg_trace.specs.Trace.{AtCapture, AtEnd, AtFault, ForDraw, Stop}

either : (end : Status) → IsOfOutside end ⊎ (IsOfOutside end → ⊥)
either Read = inl (inl refl)
either Write = inl (inr (inl refl))
either Noise = inl (inr (inr refl))
either other = inr (λ is. elim is [
  | inl read ↦ cc
  | inr more ↦ elim more [
    | inl write ↦ cc
    | inr noise ↦ cc
  ]
])

is_want : (end : Status) → IsWant end ⊎ (IsWant end → ⊥)
is_want Write = inl (inl refl)
is_want NoMemory = inl (inr refl)
is_want other = inr (λ is. elim is [
  | inl write ↦ cc
  | inr memory ↦ cc
])

-- what was written stays as it is passed on
pub behind_kept : (a b c : Tally) (out : List ℕ) → b ≡ a → Wrote b c out → Wrote a c out
behind_kept a b c out same wrote = subst (λ (o : Tally). Wrote o c out) same wrote

pub before_kept : (a b c : Tally) (out : List ℕ) → c ≡ b → Wrote a b out → Wrote a c out
before_kept a b c out same wrote = subst (λ (o : Tally). Wrote a o out) (sym same) wrote

pub nothing_kept : (a b : Tally) → b ≡ a → Wrote a b []
nothing_kept a b same = before_kept a a b [] same (wrote_none a)

-- with Write nothing else failed
pub write_not : (status other : Status) → status ≡ Write → (Write ≡ other → ⊥) → status ≡ other → ⊥
write_not status other is isnt same = isnt (sym is ∙ same)

module _ {K : Type 0} (end status : Status) (faults : K → ℕ) (failed : K → Option Bool) (old new : K) (passed : IsPassedOn end status faults failed old new) where
  -- the status is the end, or Write
  pub passed_so : (status ≡ end) ⊎ (status ≡ Write)
  passed_so = elim (either end) [
    | inl is ↦ inl (passed.before is).0
    | inr isnt ↦ (passed.else isnt).0
  ]

  -- whose failure it was that something wasn't written
  pub write_passed : (a : ℕ) → HasFailed (end ≡ Write) a (faults old) (failed old) → HasFailed (status ≡ Write) a (faults new) (failed new)
  write_passed a now = elim (either end) [
    | inl is ↦ let same = (passed.before is).0 in subst (λ (k : K). HasFailed (status ≡ Write) a (faults k) (failed k)) (sym (passed.before is).1)
        (failed_as (end ≡ Write) (status ≡ Write) a (faults old) (failed old) (λ wrote. sym same ∙ wrote) (λ wrote. same ∙ wrote) now)
    | inr isnt ↦ let then = (passed.else isnt).1 in let same = now.quiet (λ wrote. isnt (inr (inl wrote))) in record {
      later = omega (arith, same, then.later);
      rose = λ so. rose_later a (faults old) (faults new) now.later (then.rose so);
      told = then.told;
      quiet = λ so. then.quiet so ∙ same;
    }
  ]

  -- something else of the outside that failed is the end, as it was before
  failed_passed : (other : Status) → IsOfOutside other → (other ≡ Write → ⊥) → (a b : ℕ) (f : Option Bool) → HasFailed (end ≡ other) a b f → HasFailed (status ≡ other) a b f
  failed_passed other is isnt a b f now = failed_as (end ≡ other) (status ≡ other) a b f
      (λ so. elim passed_so [
        | inl same ↦ sym same ∙ so
        | inr wrote ↦ absurd (isnt (sym so ∙ wrote))
      ])
      (λ so. (passed.before (subst IsOfOutside (sym so) is)).0 ∙ so) now

  pub read_passed : (a b : ℕ) (f : Option Bool) → HasFailed (end ≡ Read) a b f → HasFailed (status ≡ Read) a b f
  read_passed a b f now = failed_passed Read (inl refl) (λ is. cc) a b f now

  pub noise_passed : (a b : ℕ) (f : Option Bool) → HasFailed (end ≡ Noise) a b f → HasFailed (status ≡ Noise) a b f
  noise_passed a b f now = failed_passed Noise (inr (inr refl)) (λ is. cc) a b f now

  -- where telling what waited may have failed behind the source
  pub ended_passed : (a b : ℕ) (f : Option Bool) → EndedBy (end ≡ Read) (IsWant end) a b f → EndedBy (status ≡ Read) (IsWant status) a b f
  ended_passed a b f by = elim (either end) [
    | inl is ↦ subst (λ s. EndedBy (s ≡ Read) (IsWant s) a b f) (sym (passed.before is).0) by
    | inr isnt ↦ elim (passed.else isnt).0 [
      | inl same ↦ subst (λ s. EndedBy (s ≡ Read) (IsWant s) a b f) (sym same) by
      | inr wrote ↦ record {
        later = by.later;
        rose = λ is. let other = sym wrote ∙ is in cc;
        told = λ is. let other = sym wrote ∙ is in cc;
        quiet = λ not none. absurd (none (inl wrote));
        last = λ not want. elim (is_want end) [
          | inl wants ↦ by.last (λ is. isnt (inl is)) wants
          | inr wants_not ↦ inl (by.quiet (λ is. isnt (inl is)) wants_not)
        ];
      }
    ]
  ]

-- ---- what was told, as far as it was passed on

module _ {L D : Type 0} (w : Ways L D) (tells : List D → List ℕ) (batch : ℕ) (octets draws out : List ℕ) where
  -- where all of the lines that were read was told, whatever stands behind them
  all_cut : (lines ahead : List ℕ) (stop : Stop) → octets ≡ lines ++ ahead → length ahead ≤ 74097 → ((at : ℕ) → stop ≡ AtCapture at → ⊥) → IsAll w tells lines draws out stop → IsCut w tells batch octets draws out
  all_cut lines ahead stop split near no_last all = record {
    played = lines;
    ahead = ahead;
    split = split;
    near = near;
    no_last = λ at is. no_last at (sym all.stops ∙ is);
    told = (course w lines draws).deeds;
    late = [];
    alike = (λ i. tells (sym (append-nil (course w lines draws).deeds) i));
    few = omega arith;
    begun = ([], all.told ∙ sym (append-nil (tells (course w lines draws).deeds)));
    within = ([], (λ i. tells (append-nil (course w lines draws).deeds i)) ∙ sym all.told ∙ sym (append-nil out));
  }

  whole_cut : (stop : Stop) → ((at : ℕ) → stop ≡ AtCapture at → ⊥) → IsAll w tells octets draws out stop → IsCut w tells batch octets draws out
  whole_cut stop no_last all = all_cut octets [] stop (sym (append-nil octets)) (omega arith) no_last all

  -- whatever the end, it is one of a run whose sink failed
  cut_of : (end : Status) (left : Tally) → LoopEnds w tells batch end octets draws out left → IsCut w tells batch octets draws out
  cut_of Done left is = whole_cut AtEnd (λ at same. cc) is.0
  cut_of (Script n fault) left is = whole_cut (AtFault n fault) (λ at same. cc) is.0
  cut_of Noise left is = whole_cut ForDraw (λ at same. cc) is
  cut_of Read left is = all_cut is.lines is.part AtEnd is.split is.near (λ at same. cc) is.all
  cut_of Write left is = is
  cut_of NoMemory left is = is
  cut_of other left is = absurd is

  pub loop_passed : (end status : Status) (left : Tally) → (status ≡ end) ⊎ (status ≡ Write) → LoopEnds w tells batch end octets draws out left → LoopEnds w tells batch status octets draws out left
  loop_passed end status left (inl same) is = subst (λ s. LoopEnds w tells batch s octets draws out left) (sym same) is
  loop_passed end status left (inr wrote) is = subst (λ s. LoopEnds w tells batch s octets draws out left) (sym wrote) (cut_of end left is)
