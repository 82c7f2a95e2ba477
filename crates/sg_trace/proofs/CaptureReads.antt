-- How a capture is read part by part.
use Rattle.std.proofs.Common.{◌≡◌, ◌⊎◌, ◌+◌, ◌≤◌, ◌<◌, ℕ, Bool, true, false, cond, ltb, List, [], ◌∷◌, ◌++◌, length, max, Some, None, Result, Ok, Err, refl, sym, ap, ◌∙◌, subst, inl, inr, append_assoc, length-append, arith, ltb-false, append-nil}
use Rattle.sg_pcap.specs.Fields.{u32_by_order}
use Rattle.sg_pcap.specs.declared.records.Record.{Record}
use Rattle.sg_trace.proofs.Common.{AtEnd, Capture, CaptureFault, Capturing, Cut, Form, HasPart, HasRecord, IsCaptureFault, IsHeaderRead, IsRecordRead, Length}
use Rattle.sg_trace.proofs.Common.{Moves, Status, Tally, capture_of, faulty, header_faulty, header_stays, header_there, header_within, length_by}
use Rattle.sg_trace.proofs.Common.{length_front, length_least, record_faulty, record_length, record_of, record_stays, record_there, record_within, records_in}
use Rattle.sg_trace.specs.declared.status.Status.TheVariants as statuses

-- once more has come to wait
pub moves_filled : (waited got waits had has more waits' : List ℕ) → Moves waited got waits had has → waits' ≡ waits ++ more → Moves waited (got ++ more) waits' had has
moves_filled waited got waits had has more waits' moves is =
    (moves.0, (sym (append_assoc waited got more) ∙ ap (λ (l : List ℕ). l ++ more) moves.1.0 ∙ append_assoc moves.0 waits more ∙ ap (λ (l : List ℕ). moves.0 ++ l) (sym is), moves.1.1))

-- once more was moved
pub moves_more : (waited got waits had has part waits' has' : List ℕ) → Moves waited got waits had has → waits ≡ part ++ waits' → has' ≡ has ++ part → Moves waited got waits' had has'
moves_more waited got waits had has part waits' has' moves is now =
    (moves.0 ++ part, (moves.1.0 ∙ ap (λ (l : List ℕ). moves.0 ++ l) is ∙ sym (append_assoc moves.0 part waits'), now ∙ ap (λ (l : List ℕ). l ++ part) moves.1.1 ∙ append_assoc had moves.0 part))

-- ---- how many octets there are

pub moves_of : {E : Type 0} (r : Result (Unit {0}) E) (count : ℕ) (had has waited waits got : List ℕ) (left : Tally) (budget : ℕ) → HasPart r count had has waited waits got left budget → Moves waited got waits had has
moves_of (Ok u) count had has waited waits got left budget is = is.0
moves_of (Err e) count had has waited waits got left budget is = is

pub split_of : {E : Type 0} (form : Form) (r : Result (Unit {0}) E) (has waited waits got : List ℕ) (left : Tally) (budget : ℕ) → HasRecord form r has waited waits got left budget → waited ++ got ≡ has ++ waits
split_of form (Ok u) has waited waits got left budget is = is.0
split_of form (Err e) has waited waits got left budget is = is

pub room_so : (at most budget budget' : ℕ) (waited got waits had part : List ℕ) → Moves waited got waits had part → at + length had + length waited + budget ≡ most + 1 → length got + budget' ≡ budget
    → at + length part + length waits + budget' ≡ most + 1
room_so at most budget budget' waited got waits had part moves room paid =
    omega (arith, room, paid, ap length moves.1.0, ap length moves.1.1, length-append waited got, length-append moves.0 waits, length-append had moves.0)

-- how many octets wait behind a part, and are ahead where there is none
pub near_part : (part old new got : List ℕ) (budget budget' : ℕ) → old ++ got ≡ part ++ new → length got + budget' ≡ budget → (length old ≤ 4096 → (length new ≤ 4096) × (length part ≤ 262160))
    → length old ≤ 4096 → (length new ≤ 4096) × (length old + budget ≤ budget' + 266256)
near_part part old new got budget budget' split paid near few = let most = near few in (most.0, omega (arith, most.0, most.1, paid, ap length split, length-append old got, length-append part new))

-- a record has 262,160 octets at most
pub length_most : (form : Form) (xs : List ℕ) → record_length form xs ≤ 262160
length_most form xs = by_bit (ltb (length xs) 12)
  where
    said_so : (far : Bool) (millis size : ℕ) → (far ≡ false → size ≤ 262144) → length_by (cond far (Err Length) (Ok (record { millis = millis; length = size }))) ≤ 262160
    said_so true millis size near = omega arith
    said_so false millis size near = let most = near refl in omega (arith, most)

    by_bit : (short : Bool) → cond short 16 (length_by (record_of form xs)) ≤ 262160
    by_bit true = omega arith
    by_bit false = said_so (ltb 262144 (u32_by_order form.big xs 8)) _ (u32_by_order form.big xs 8) (ltb-false 262144 (u32_by_order form.big xs 8))

-- ---- a record

module _ (form : Form) (waited got waits had head more waits' part : List ℕ) (none : had ≡ []) (first : Moves waited got waits had head) where
  split_so : Moves waits more waits' head part → waited ++ (got ++ more) ≡ part ++ waits'
  split_so then =
      let front : head ≡ first.0 = first.1.1 ∙ ap (λ (l : List ℕ). l ++ first.0) none in
      sym (append_assoc waited got more) ∙ ap (λ (l : List ℕ). l ++ more) (first.1.0 ∙ ap (λ (l : List ℕ). l ++ waits) (sym front)) ∙ append_assoc head waits more
      ∙ ap (λ (l : List ℕ). head ++ l) then.1.0 ∙ sym (append_assoc head then.0 waits') ∙ ap (λ (l : List ℕ). l ++ waits') (sym then.1.1)

  -- a head, and then as many octets as it says
  pub record_so : {E : Type 0} (r : Result (Unit {0}) E) (count : ℕ) (left : Tally) (budget : ℕ) → count ≡ record_length form head → length head ≤ max 16 (length had) → 16 ≤ length head
      → HasPart r count head part waits waits' more left budget → HasRecord form r part waited waits' (got ++ more) left budget
  record_so (Err e) count left budget is short long then = split_so then
  record_so (Ok u) count left budget is short long then =
      let least : 16 ≤ record_length form head = length_least form head in
      let same : record_length form part ≡ count = ap (record_length form) then.0.1.1 ∙ length_front form head then.0.0 (omega (arith, long)) ∙ sym is in
      let few = then.1 in (
        split_so then.0,
        omega (arith, few, same, is, least, short, ap length none),
        subst (λ (n : ℕ). (n ≤ length part) ⊎ ((waits' ≡ []) × (AtEnd left ⊎ (budget ≡ 0)))) (sym same) then.2,
      )

-- ---- where the source failed

-- a header that isn't whole has no record behind it
pub header_short : (most : ℕ) (part : List ℕ) → length part < 24 → (capture_of most part).records ≡ []
header_short most part short = by_answer (header_within most part) refl
  where
    by_answer : (r : Result Form (ℕ × CaptureFault)) → header_within most part ≡ r → (capture_of most part).records ≡ []
    by_answer (Ok form) is = let there = (header_there most part form is).0 in absurd (omega (arith, short, there))
    by_answer (Err fault) is = ap (λ (c : Capture). c.records) (header_faulty most part fault is)

-- nor is a record that isn't whole any
pub record_short : (most : ℕ) (form : Form) (at : ℕ) (part : List ℕ) → length part < record_length form part → (records_in most form at part).records ≡ []
record_short most form at [] short = refl
record_short most form at (x ∷ xs) short = by_answer (record_within most form at (x ∷ xs)) refl
  where
    by_answer : (r : Result Record (ℕ × CaptureFault)) → record_within most form at (x ∷ xs) ≡ r → (records_in most form at (x ∷ xs)).records ≡ []
    by_answer (Ok r) is = let there = record_there most form at (x ∷ xs) r is in let long = there.0 in absurd (omega (arith, short, long, there.2))
    by_answer (Err fault) is = ap (λ (c : Capture). c.records) (record_faulty most form at (x ∷ xs) fault (omega arith) is)

-- a source that failed, or memory that is wanting
pub failed_as : (P : Status → Type 0) (status : Status) → (status ≡ statuses.Read) ⊎ (status ≡ statuses.NoMemory) → (status ≡ statuses.Read → P statuses.Read) → P statuses.NoMemory → P status
failed_as P status (inl is) read memory = subst P (sym is) (read is)
failed_as P status (inr is) read memory = subst P (sym is) memory

-- ---- faults

-- a fault of the part that was read, at the end of the source or whatever comes behind
fault_so : (reads : List ℕ → Capture) (octets part waits : List ℕ) (fault : ℕ × CaptureFault) (left : Tally) → octets ≡ part ++ waits
    → ((fault.1 ≡ Cut) × (waits ≡ []) × AtEnd left × (reads part ≡ faulty fault)) ⊎ ((¬ (fault.1 ≡ Cut)) × ((more : List ℕ) → reads (part ++ more) ≡ faulty fault)) → IsCaptureFault reads octets fault left
fault_so reads octets part waits fault left split (inl (cut, none, end, is)) = record {
  first = ap reads (split ∙ ap (λ (l : List ℕ). part ++ l) none ∙ append-nil part) ∙ is;
  ended = λ same. end;
  still = λ other more. absurd (other cut);
}
fault_so reads octets part waits fault left split (inr (other, is)) = record {
  first = ap reads split ∙ is waits;
  ended = λ same. absurd (other same);
  still = λ other more. ap reads (ap (λ (l : List ℕ). l ++ more) split ∙ append_assoc part waits more) ∙ is (waits ++ more);
}

end_so : {P Q : Type 0} → P ⊎ Q → (Q → ⊥) → P
end_so (inl p) isnt = p
end_so (inr q) isnt = absurd (isnt q)

other_so : {P Q : Type 0} → P ⊎ Q → (P → ⊥) → Q
other_so (inl p) isnt = absurd (isnt p)
other_so (inr q) isnt = q

module _ (most at before budget budget' : ℕ) (had waited got waits part : List ℕ) (left : Tally) (room : at + length part + length waits + budget' ≡ most + 1) (same_at : before ≡ at) where
  abbrev old_so : Capturing
  old_so = record { waits = waited; part = had; at = before; most = most; budget = budget }

  abbrev new_so : Capturing
  new_so = record { waits = waits; part = part; at = at + length part; most = most; budget = budget' }

  pub header_ok : (form : Form) → had ≡ [] → at ≡ 0 → HasPart {E = Status} (Ok tt) 24 had part waited waits got left budget' → header_within most part ≡ Ok form → IsHeaderRead (Ok form) old_so new_so got left
  header_ok form none first has is =
      let there = header_there most part form is in
      let long = there.0 in
      let within = there.1 in
      let few = has.1 in
      let size : length part ≡ 24 = omega (arith, few, long, ap length none) in (
        record {
          split = has.0.1.0 ∙ ap (λ (l : List ℕ). l ++ waits) (sym (has.0.1.1 ∙ ap (λ (l : List ℕ). l ++ has.0.0) none));
          whole = size;
          at = omega (arith, size, same_at);
          within = omega (arith, size, within, first);
        },
        is,
      )

  pub header_err : (offset : ℕ) (fault : CaptureFault) → had ≡ [] → at ≡ 0 → HasPart {E = Status} (Ok tt) 24 had part waited waits got left budget' → header_within most part ≡ Err (offset, fault)
      → IsHeaderRead (Err (statuses.Capture offset fault)) old_so new_so got left
  header_err offset fault none first has is =
      fault_so (capture_of most) (waited ++ got) part waits (offset, fault) left (has.0.1.0 ∙ ap (λ (l : List ℕ). l ++ waits) (sym (has.0.1.1 ∙ ap (λ (l : List ℕ). l ++ has.0.0) none)))
      (elim (header_stays most part (offset, fault) is) [
        | inl wants ↦
            (let short = wants.0.1 in
            let near = wants.1 in
            let last = other_so has.2 (λ long. omega (arith, short, long)) in
            inl (wants.0.0, last.0, end_so last.1 (λ zero. omega (arith, zero, near, room, first, ap length last.0)), header_faulty most part (offset, fault) is))
        | inr stays ↦ inr (stays.0, λ more. header_faulty most (part ++ more) (offset, fault) (stays.1 more))
      ])

  module _ (form : Form) (has : HasRecord {E = Status} form (Ok tt) part waited waits got left budget') where
    pub record_none : part ≡ [] → IsRecordRead form (Ok None) old_so new_so got left
    record_none empty =
        let least = length_least form part in
        let last = other_so has.2 (λ long. omega (arith, long, least, ap length empty)) in
        (has.0 ∙ (λ i. empty i ++ last.0 i), to_budget last.1 (λ zero. omega (arith, zero, room, same_at, ap length empty, ap length last.0)))
      where
        to_budget : {P Q R : Type 0} → P ⊎ Q → (Q → R) → P ⊎ R
        to_budget (inl p) f = inl p
        to_budget (inr q) f = inr (f q)

    pub record_ok : (r : Record) → record_within most form at part ≡ Ok r → IsRecordRead form (Ok (Some r)) old_so new_so got left
    record_ok r is =
        let there = record_there most form at part r is in
        let long = there.0 in
        let within = there.1 in
        let few = has.1 in
        let size : length part ≡ 16 + r.length = omega (arith, few, long, there.2) in (
          record {
            split = has.0;
            whole = size;
            at = omega (arith, size, same_at);
            within = omega (arith, size, within);
          },
          subst (λ (n : ℕ). record_within most form n part ≡ Ok r) (sym same_at) is,
        )

    pub record_err : (offset : ℕ) (fault : CaptureFault) → 0 < length part → record_within most form at part ≡ Err (offset, fault) → IsRecordRead form (Err (statuses.Capture offset fault)) old_so new_so got left
    record_err offset fault some is =
        subst (λ (n : ℕ). IsCaptureFault (records_in most form n) (waited ++ got) (offset, fault) left) (sym same_at)
        (fault_so (records_in most form at) (waited ++ got) part waits (offset, fault) left has.0
        (elim (record_stays most form at part (offset, fault) is) [
          | inl wants ↦
              (let short = wants.0.1 in
              let near = wants.1 in
              let last = other_so has.2 (λ long. omega (arith, short, long)) in
              inl (wants.0.0, last.0, end_so last.1 (λ zero. omega (arith, zero, near, room, ap length last.0)), record_faulty most form at part (offset, fault) some is))
          | inr stays ↦ inr (stays.0, λ more. record_faulty most form at (part ++ more) (offset, fault) (omega (arith, some, length-append part more)) (stays.1 more))
        ]))

pub nothing_had : (had : List ℕ) → length had ≡ 0 → had ≡ []
nothing_had [] is = refl
nothing_had (x ∷ had) is = absurd (omega (arith, is))
