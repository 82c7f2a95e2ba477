-- How the records of a capture are played, one by one, and how that ends.
use Rattle.std.proofs.Common.{◌≡◌, ◌+◌, ◌≤◌, ℕ, Bool, true, false, cond, ltb, max, arith, length-append, List, [], ◌∷◌, ◌++◌, length, map, drop, Some, None, Ok, Err, refl, sym, ap, ◌∙◌, subst, inl, inr, append_assoc}
use Rattle.sg_capture.proofs.Common.{AtEnd, Capture, CaptureFault, Captured, Capturing, Closes, EndsReading, Event, Form, Framed, Happens, IsCaptureFault}
use Rattle.sg_capture.proofs.Common.{IsCutReading, IsHeaderRead, IsMet, IsPrefixOf, IsRecordRead, IsToldOf, Occurrence, Progress, Record, Status, Tally}
use Rattle.sg_capture.proofs.Common.{World, all_behind, append-nil, capture_occurs, capture_of, captured_events, faulty, first_of, frame_occurs, frame_of}
use Rattle.sg_capture.proofs.Common.{length-map, moment_in, next_record, output_of, record_occurs, record_within, records_in, records_occur, ticks_at}
use Rattle.sg_capture.proofs.Common.{unshared, with_record, world_after}
use Rattle.sg_capture.proofs.Meets.{prefix_of-behind}
use Rattle.sg_capture.proofs.Outputs.{happens_text, output_of-append}
use Rattle.sg_pcap.specs.Frames as frames
use Rattle.sg_playback.specs.Playing.{IsWant, effects, text_from}
use Rattle.sg_trace.proofs.CaptureReads.{header_short}
use Rattle.sg_trace.specs.declared.status.Status.TheVariants as statuses

-- ---- what records give

abbrev pub with_records : List Captured → Capture → Capture
with_records seen c = record c { records = seen ++ c.records }

-- the records that come next
abbrev pub occurs_on : Progress → List Captured → List Occurrence
occurs_on p [] = []
occurs_on p (r ∷ rs) = records_occur p.last (first_of p.first r.millis) p.top p.number (r ∷ rs)

-- behind one of them
abbrev pub behind : Progress → ℕ → Progress
behind p millis = record { last = p.last; first = Some (first_of p.first millis); top = max p.top (moment_in p.last (first_of p.first millis) millis); number = p.number + 1 }

occurs_next : (p : Progress) (r : Captured) (rs : List Captured)
    → occurs_on p (r ∷ rs) ≡ record_occurs p.last (first_of p.first r.millis) p.top p.number r ++ occurs_on (behind p r.millis) rs
occurs_next p r [] = refl
occurs_next p r (s ∷ rs) = refl

pub occurs_all : (last : ℕ) (rs : List Captured) → capture_occurs last rs ≡ occurs_on (record { last = last; first = None; top = last; number = 1 }) rs
occurs_all last [] = refl
occurs_all last (r ∷ rs) = refl

-- ---- where telling failed

-- where a prefix of what came last was written
pub cut_reading : (w : World) (waited : List Event) (last : ℕ) (reads : List ℕ → Capture) (octets played ahead : List ℕ) (told late : List Occurrence) (out : List ℕ) → octets ≡ played ++ ahead → all_behind waited last (reads played) ≡ told ++ late
    → IsPrefixOf out (output_of (world_after w (captured_events told)) late) → length late ≤ 258 → length ahead ≤ 266256 → IsCutReading w waited last reads octets (output_of w told ++ out)
cut_reading w waited last reads octets played ahead told late out split all part few near = record {
  played = played;
  ahead = ahead;
  split = split;
  near = near;
  told = told;
  late = late;
  all = all;
  few = few;
  begun = (out, refl);
  within = prefix_of-behind w told late out part;
}

-- a record gives a tick and a datagram, or a line, at most
two_occur : (last first top number : ℕ) (r : Captured) → length (record_occurs last first top number r) ≤ 2
two_occur last first top number r =
    let ticks : length (map Happens (ticks_at top (moment_in last first r.millis))) ≤ 1 = one_tick (ltb top (moment_in last first r.millis)) _ (omega arith) in
    let frames = one_frame (frame_of r.frame) in
    omega (arith, ticks, frames, length-append (map Happens (ticks_at top (moment_in last first r.millis))) (frame_occurs number (frame_of r.frame)))
  where
    one_tick : (b : Bool) (es : List Event) → length es ≤ 1 → length (map Happens (cond b es [])) ≤ 1
    one_tick true es few = omega (arith, few, length-map es Happens)
    one_tick false es few = omega arith

    one_frame : (f : Framed) → length (frame_occurs number f) ≤ 1
    one_frame frames.Passed = omega arith
    one_frame other = omega arith

-- how many octets are ahead, by how many fewer may be asked for
pub near_rest : (waits got : List ℕ) (budget budget' : ℕ) → length waits + budget ≤ budget' + 266256 → length got + budget' ≡ budget → length (waits ++ got) ≤ 266256
near_rest waits got budget budget' few paid = omega (arith, few, paid, length-append waits got)

-- ---- so far

-- The records that were read are these. What they give came behind what waited; a prefix of it all was handled and told,
-- and the rest waits.
pub record IsReadingOn (reads : List ℕ → Capture) (most : ℕ) (form : Form) (consumed : List ℕ) (at last : ℕ) (waited ps : List Event) (told : List Occurrence) (p : Progress) : Type 0 where
  pub seen : List Captured
  pub reads_on : (rest : List ℕ) → reads (consumed ++ rest) ≡ with_records seen (records_in most form at rest)
  pub occurs : (rs : List Captured) → map Happens waited ++ capture_occurs last (seen ++ rs) ≡ told ++ (map Happens ps ++ occurs_on p rs)

pub starts : (reads : List ℕ → Capture) (most : ℕ) (form : Form) (at last : ℕ) (waited : List Event) (p : Progress) → ((rest : List ℕ) → reads rest ≡ records_in most form at rest)
    → p ≡ record { last = last; first = None; top = last; number = 1 } → IsReadingOn reads most form [] at last waited waited [] p
starts reads most form at last waited p is start = record {
  seen = [];
  reads_on = λ rest. is rest;
  occurs = λ rs. ap (λ (l : List Occurrence). map Happens waited ++ l) (occurs_all last rs ∙ ap (λ (q : Progress). occurs_on q rs) (sym start));
}

module _ (reads : List ℕ → Capture) (most : ℕ) (form : Form) (consumed : List ℕ) (at last : ℕ) (waited ps : List Event) (told : List Occurrence) (p : Progress)
    (going : IsReadingOn reads most form consumed at last waited ps told p) where
  -- where a record was read and played
  pub record_goes : (r : Record) (part : List ℕ) → record_within most form at part ≡ Ok r → length part ≡ 16 + r.length
      → (p' : Progress) → p' ≡ behind p r.millis → (w : World) (ps' : List Event) (stands_for : World → Type 0) (out : List ℕ)
      → (met : IsToldOf w ps ps' (record_occurs p.last (first_of p.first r.millis) p.top p.number (record { millis = r.millis; frame = drop 16 part })) stands_for out)
      → IsReadingOn reads most form (consumed ++ part) (at + length part) last waited ps' (told ++ met.told) p'
  record_goes r part is size p' next w ps' stands_for out met =
      let c : Captured = record { millis = r.millis; frame = drop 16 part } in record {
        seen = going.seen ++ (c ∷ []);
        reads_on = λ rest.
            ap reads (append_assoc consumed part rest) ∙ going.reads_on (part ++ rest) ∙ ap (with_records going.seen) (next_record most form at part r is size rest)
            ∙ ap (λ (l : List Captured). record { records = l; fault = (records_in most form (at + length part) rest).fault }) (sym (append_assoc going.seen (c ∷ []) (records_in most form (at + length part) rest).records));
        occurs = λ rs.
            ap (λ (l : List Captured). map Happens waited ++ capture_occurs last l) (append_assoc going.seen (c ∷ []) rs)
            ∙ going.occurs (c ∷ rs)
            ∙ ap (λ (l : List Occurrence). told ++ (map Happens ps ++ l)) (occurs_next p c rs)
            ∙ ap (λ (l : List Occurrence). told ++ l)
            (sym (append_assoc (map Happens ps) (record_occurs p.last (first_of p.first r.millis) p.top p.number c) (occurs_on (behind p r.millis) rs))
            ∙ ap (λ (l : List Occurrence). l ++ occurs_on (behind p r.millis) rs) met.all ∙ append_assoc met.told (map Happens ps') (occurs_on (behind p r.millis) rs))
            ∙ sym (append_assoc told met.told (map Happens ps' ++ occurs_on (behind p r.millis) rs))
            ∙ ap (λ (q : Progress). (told ++ met.told) ++ (map Happens ps' ++ occurs_on q rs)) (sym next);
      }

  module _ (w : World) where
    abbrev now : World
    now = world_after w (captured_events told)

    -- all that these octets give
    all_is : (octets : List ℕ) (c : Capture) → reads octets ≡ with_records going.seen c → all_behind waited last (reads octets) ≡ told ++ (map Happens ps ++ occurs_on p c.records)
    all_is octets c is = ap (all_behind waited last) is ∙ going.occurs c.records

    -- the records that were read, alone
    lines_all : all_behind waited last (reads consumed) ≡ told ++ map Happens ps
    lines_all =
        ap (λ (l : List ℕ). all_behind waited last (reads l)) (sym (append-nil consumed)) ∙ all_is (consumed ++ []) (records_in most form at []) (going.reads_on [])
        ∙ ap (λ (l : List Occurrence). told ++ l) (append-nil (map Happens ps))

    pub ends_cut : (status : Status) (octets out : List ℕ) (left : Tally) → IsWant status → IsCutReading w waited last reads octets out → EndsReading status w waited last reads octets out left
    ends_cut status octets out left (inl is) cut = subst (λ s. EndsReading s w waited last reads octets out left) (sym is) cut
    ends_cut status octets out left (inr is) cut = subst (λ s. EndsReading s w waited last reads octets out left) (sym is) cut

    -- telling what waits failed
    pub cut_at_end : (status : Status) (rest out : List ℕ) (left : Tally) → length rest ≤ 266256 → IsWant status × IsPrefixOf out (text_from (unshared now) ps) × (length ps ≤ 258)
        → EndsReading status w waited last reads (consumed ++ rest) (output_of w told ++ out) left
    cut_at_end status rest out left near cut =
        ends_cut status (consumed ++ rest) (output_of w told ++ out) left cut.0
        (cut_reading w waited last reads (consumed ++ rest) consumed rest told (map Happens ps) out refl lines_all (subst (IsPrefixOf out) (sym (happens_text now ps)) cut.1) (omega (arith, cut.2, length-map ps Happens)) near)

    -- at an end that is closed, where no record comes
    closed_so : (end status : Status) (rest : List ℕ) (c : Capture) (out : List ℕ) (left : Tally) → length rest ≤ 266256 → reads (consumed ++ rest) ≡ with_records going.seen c → c.records ≡ []
        → (output_of w told ++ out ≡ output_of w (all_behind waited last (reads (consumed ++ rest))) → EndsReading end w waited last reads (consumed ++ rest) (output_of w told ++ out) left)
        → Closes end status effects 258 (unshared now) ps out → EndsReading status w waited last reads (consumed ++ rest) (output_of w told ++ out) left
    closed_so end status rest c out left near is none ends (inl all) =
        subst (λ s. EndsReading s w waited last reads (consumed ++ rest) (output_of w told ++ out) left) (sym all.0)
        (ends
        (ap (λ (l : List ℕ). output_of w told ++ l) (all.1 ∙ sym (happens_text now ps)) ∙ sym (output_of-append w told (map Happens ps))
        ∙ ap (λ (l : List Occurrence). output_of w (told ++ l)) (sym (append-nil (map Happens ps)) ∙ ap (λ (l : List Captured). map Happens ps ++ occurs_on p l) (sym none))
        ∙ ap (output_of w) (sym (all_is (consumed ++ rest) c is))))
    closed_so end status rest c out left near is none ends (inr cut) = cut_at_end status rest out left near cut

    -- at the end
    pub closed_at_end : (status : Status) (rest out : List ℕ) (left : Tally) → rest ≡ [] → AtEnd left → Closes statuses.Done status effects 258 (unshared now) ps out
        → EndsReading status w waited last reads (consumed ++ rest) (output_of w told ++ out) left
    closed_at_end status rest out left none end closed =
        let is : reads (consumed ++ rest) ≡ with_records going.seen (record { records = []; fault = None }) = going.reads_on rest ∙ ap (λ (l : List ℕ). with_records going.seen (records_in most form at l)) none in
        closed_so statuses.Done status rest (record { records = []; fault = None }) out left (omega (arith, ap length none)) is refl (λ told_so. (told_so, ap (λ (c : Capture). c.fault) is, end)) closed

    -- at a fault
    closed_at_fault : (offset : ℕ) (fault : CaptureFault) (status : Status) (rest out : List ℕ) (left : Tally) → length rest ≤ 266256 → IsCaptureFault (records_in most form at) rest (offset, fault) left
        → Closes (statuses.Capture offset fault) status effects 258 (unshared now) ps out → EndsReading status w waited last reads (consumed ++ rest) (output_of w told ++ out) left
    closed_at_fault offset fault status rest out left near is closed =
        let here : reads (consumed ++ rest) ≡ with_records going.seen (faulty (offset, fault)) = going.reads_on rest ∙ ap (with_records going.seen) is.first in
        closed_so (statuses.Capture offset fault) status rest (faulty (offset, fault)) out left near here refl
        (λ told_so. record {
          told = told_so;
          is = ap (λ (c : Capture). c.fault) here;
          ended = is.ended;
          still = λ other more. ap (λ (l : List ℕ). (reads l).fault) (append_assoc consumed rest more) ∙ ap (λ (c : Capture). c.fault) (going.reads_on (rest ++ more) ∙ ap (with_records going.seen) (is.still other more));
        }) closed

    -- where memory was wanting
    closed_at_memory : (status : Status) (rest out : List ℕ) (left : Tally) → length rest ≤ 266256 → Closes statuses.NoMemory status effects 258 (unshared now) ps out
        → EndsReading status w waited last reads (consumed ++ rest) (output_of w told ++ out) left
    closed_at_memory status rest out left near (inl all) =
        subst (λ s. EndsReading s w waited last reads (consumed ++ rest) (output_of w told ++ out) left) (sym all.0)
        (subst (λ (o : List ℕ). IsCutReading w waited last reads (consumed ++ rest) o)
        (append-nil (output_of w (told ++ map Happens ps)) ∙ output_of-append w told (map Happens ps) ∙ ap (λ (o : List ℕ). output_of w told ++ o) (happens_text now ps ∙ sym all.1))
        (cut_reading w waited last reads (consumed ++ rest) consumed rest (told ++ map Happens ps) [] [] refl (lines_all ∙ sym (append-nil (told ++ map Happens ps))) ([], refl) (omega arith) near))
    closed_at_memory status rest out left near (inr cut) = cut_at_end status rest out left near cut

    -- where no record was read
    pub closed_at_err : (end status : Status) (old new : Capturing) (got out : List ℕ) (left : Tally) → length (old.waits ++ got) ≤ 266256 → old.most ≡ most → old.at ≡ at → IsRecordRead form (Err end) old new got left
        → Closes end status effects 258 (unshared now) ps out → EndsReading status w waited last reads (consumed ++ (old.waits ++ got)) (output_of w told ++ out) left
    closed_at_err (statuses.Capture offset fault) status old new got out left near same_most same_at next closed =
        closed_at_fault offset fault status (old.waits ++ got) out left near
        (subst (λ (m : ℕ). IsCaptureFault (records_in m form at) (old.waits ++ got) (offset, fault) left) same_most
        (subst (λ (a : ℕ). IsCaptureFault (records_in old.most form a) (old.waits ++ got) (offset, fault) left) same_at next)) closed
    closed_at_err statuses.Read status old new got out left near same_most same_at next closed =
        closed_so statuses.Read status (old.waits ++ got) (records_in most form at (old.waits ++ got)) out left near (going.reads_on (old.waits ++ got))
        ((λ i. (records_in (sym same_most i) form (sym same_at i) (old.waits ++ got)).records) ∙ next) (λ told_so. told_so) closed
    closed_at_err statuses.NoMemory status old new got out left near same_most same_at next closed = closed_at_memory status (old.waits ++ got) out left near closed
    closed_at_err other status old new got out left near same_most same_at next closed = absurd next

    -- where a record ends the run
    pub ends_met : (status : Status) (r : Record) (part rest : List ℕ) (ps' : List Event) (stands_for : World → Type 0) (out : List ℕ) (left : Tally) → length ps ≤ 256 → length rest ≤ 4096
        → record_within most form at part ≡ Ok r → length part ≡ 16 + r.length
        → IsMet (Err status) now ps ps' (record_occurs p.last (first_of p.first r.millis) p.top p.number (record { millis = r.millis; frame = drop 16 part })) stands_for out
        → EndsReading status w waited last reads (consumed ++ (part ++ rest)) (output_of w told ++ out) left
    ends_met status r part rest ps' stands_for out left short near is size met =
        let c : Captured = record { millis = r.millis; frame = drop 16 part } in
        let more : Capture = records_in most form (at + length part) [] in
        let occurs : List Occurrence = record_occurs p.last (first_of p.first r.millis) p.top p.number c in
        let here : reads (consumed ++ part) ≡ with_records going.seen (with_record c more) =
        going.reads_on part ∙ ap (with_records going.seen) (ap (records_in most form at) (sym (append-nil part)) ∙ next_record most form at part r is size []) in
        ends_cut status (consumed ++ (part ++ rest)) (output_of w told ++ out) left met.0
        (cut_reading w waited last reads (consumed ++ (part ++ rest)) (consumed ++ part) rest told (map Happens ps ++ occurs) out (sym (append_assoc consumed part rest))
        (all_is (consumed ++ part) (with_record c more) here ∙ ap (λ (l : List Occurrence). told ++ (map Happens ps ++ l)) (occurs_next p c [] ∙ append-nil occurs)) met.1
        (omega (arith, short, two_occur p.last (first_of p.first r.millis) p.top p.number c, length-append (map Happens ps) occurs, length-map ps Happens)) (omega (arith, near)))

-- ---- the header

cut_behind : (w : World) (waited : List Event) (last : ℕ) (reads reads' : List ℕ → Capture) (octets part rest out : List ℕ)
    → ((more : List ℕ) → reads (part ++ more) ≡ reads' more) → octets ≡ part ++ rest → IsCutReading w waited last reads' rest out → IsCutReading w waited last reads octets out
cut_behind w waited last reads reads' octets part rest out same split cut = record {
  played = part ++ cut.played;
  ahead = cut.ahead;
  split = split ∙ ap (λ (l : List ℕ). part ++ l) cut.split ∙ sym (append_assoc part cut.played cut.ahead);
  near = cut.near;
  told = cut.told;
  late = cut.late;
  all = ap (all_behind waited last) (same cut.played) ∙ cut.all;
  few = cut.few;
  begun = cut.begun;
  within = cut.within;
}

-- what comes behind the header is what the capture gives
pub behind_header : (status : Status) (w : World) (waited : List Event) (last : ℕ) (reads reads' : List ℕ → Capture) (octets part rest out : List ℕ) (left : Tally)
    → ((more : List ℕ) → reads (part ++ more) ≡ reads' more) → octets ≡ part ++ rest → EndsReading status w waited last reads' rest out left → EndsReading status w waited last reads octets out left
behind_header statuses.Done w waited last reads reads' octets part rest out left same split ends =
    let here : reads octets ≡ reads' rest = ap reads split ∙ same rest in
    (ends.0 ∙ ap (λ (c : Capture). output_of w (all_behind waited last c)) (sym here), ap (λ (c : Capture). c.fault) here ∙ ends.1, ends.2)
behind_header (statuses.Capture offset fault) w waited last reads reads' octets part rest out left same split ends =
    let here : reads octets ≡ reads' rest = ap reads split ∙ same rest in record {
      told = ends.told ∙ ap (λ (c : Capture). output_of w (all_behind waited last c)) (sym here);
      is = ap (λ (c : Capture). c.fault) here ∙ ends.is;
      ended = ends.ended;
      still = λ other more.
          ap (λ (l : List ℕ). (reads l).fault) (ap (λ (l : List ℕ). l ++ more) split ∙ append_assoc part rest more) ∙ ap (λ (c : Capture). c.fault) (same (rest ++ more)) ∙ ends.still other more;
    }
behind_header statuses.Read w waited last reads reads' octets part rest out left same split ends = subst (λ (c : Capture). out ≡ output_of w (all_behind waited last c)) (sym (ap reads split ∙ same rest)) ends
behind_header statuses.Write w waited last reads reads' octets part rest out left same split ends = cut_behind w waited last reads reads' octets part rest out same split ends
behind_header statuses.NoMemory w waited last reads reads' octets part rest out left same split ends = cut_behind w waited last reads reads' octets part rest out same split ends
behind_header other w waited last reads reads' octets part rest out left same split ends = absurd ends

-- where there is none
module _ (w : World) (waited : List Event) (last most : ℕ) where
  -- nothing of the capture was handled
  none_all : all_behind waited last (capture_of most []) ≡ map Happens waited
  none_all = ap (λ (l : List Captured). map Happens waited ++ capture_occurs last l) (header_short most [] (omega arith)) ∙ append-nil (map Happens waited)

  want_so : (status : Status) (octets out : List ℕ) (left : Tally) → length octets ≤ 266256 → IsWant status × IsPrefixOf out (text_from (unshared w) waited) × (length waited ≤ 258)
      → EndsReading status w waited last (capture_of most) octets out left
  want_so status octets out left near cut = by_want cut.0
      (cut_reading w waited last (capture_of most) octets [] octets [] (map Happens waited) out refl none_all (subst (IsPrefixOf out) (sym (happens_text w waited)) cut.1) (omega (arith, cut.2, length-map waited Happens)) near)
    where
      by_want : IsWant status → IsCutReading w waited last (capture_of most) octets out → EndsReading status w waited last (capture_of most) octets out left
      by_want (inl is) cut_so = subst (λ s. EndsReading s w waited last (capture_of most) octets out left) (sym is) cut_so
      by_want (inr is) cut_so = subst (λ s. EndsReading s w waited last (capture_of most) octets out left) (sym is) cut_so

  memory_so : (octets out : List ℕ) → length octets ≤ 266256 → out ≡ text_from (unshared w) waited → IsCutReading w waited last (capture_of most) octets out
  memory_so octets out near told =
      subst (λ (o : List ℕ). IsCutReading w waited last (capture_of most) octets o) (append-nil (output_of w (map Happens waited)) ∙ happens_text w waited ∙ sym told)
      (cut_reading w waited last (capture_of most) octets [] octets (map Happens waited) [] [] refl (none_all ∙ sym (append-nil (map Happens waited))) ([], refl) (omega arith) near)

  -- all that waited is all that there is
  waited_told : (octets out : List ℕ) → (capture_of most octets).records ≡ [] → out ≡ text_from (unshared w) waited → out ≡ output_of w (all_behind waited last (capture_of most octets))
  waited_told octets out none told =
      told ∙ sym (happens_text w waited) ∙ ap (output_of w) (sym (ap (λ (l : List Captured). map Happens waited ++ capture_occurs last l) none ∙ append-nil (map Happens waited)))

  pub header_err : (end status : Status) (old new : Capturing) (got out : List ℕ) (left : Tally) → length (old.waits ++ got) ≤ 266256 → old.most ≡ most → IsHeaderRead (Err end) old new got left → Closes end status effects 258 (unshared w) waited out
      → EndsReading status w waited last (capture_of most) (old.waits ++ got) out left
  header_err (statuses.Capture offset fault) status old new got out left near same next (inl all) =
      let is : IsCaptureFault (capture_of most) (old.waits ++ got) (offset, fault) left = subst (λ (m : ℕ). IsCaptureFault (capture_of m) (old.waits ++ got) (offset, fault) left) same next in
      subst (λ s. EndsReading s w waited last (capture_of most) (old.waits ++ got) out left) (sym all.0)
      (record {
        told = waited_told (old.waits ++ got) out (ap (λ (c : Capture). c.records) is.first) all.1;
        is = ap (λ (c : Capture). c.fault) is.first;
        ended = is.ended;
        still = λ other more. ap (λ (c : Capture). c.fault) (is.still other more);
      })
  header_err (statuses.Capture offset fault) status old new got out left near same next (inr cut) = want_so status (old.waits ++ got) out left near cut
  header_err statuses.Read status old new got out left near same next (inl all) =
      subst (λ s. EndsReading s w waited last (capture_of most) (old.waits ++ got) out left) (sym all.0)
      (waited_told (old.waits ++ got) out ((λ i. (capture_of (sym same i) (old.waits ++ got)).records) ∙ next) all.1)
  header_err statuses.Read status old new got out left near same next (inr cut) = want_so status (old.waits ++ got) out left near cut
  header_err statuses.NoMemory status old new got out left near same next (inl all) =
      subst (λ s. EndsReading s w waited last (capture_of most) (old.waits ++ got) out left) (sym all.0) (memory_so (old.waits ++ got) out near all.1)
  header_err statuses.NoMemory status old new got out left near same next (inr cut) = want_so status (old.waits ++ got) out left near cut
  header_err other status old new got out left near same next closed = absurd next

-- ---- whose failure it was

-- where a write failed or memory is wanting, no read failed
pub met_not_read : (status : Status) (w : World) (waited waits : List Event) (os : List Occurrence) (stands_for : World → Type 0) (out : List ℕ) → IsMet (Err status) w waited waits os stands_for out → status ≡ statuses.Read → ⊥
met_not_read status w waited waits os stands_for out (inl is, prefix) same = let both : statuses.Write ≡ statuses.Read = sym is ∙ same in cc
met_not_read status w waited waits os stands_for out (inr is, prefix) same = let both : statuses.NoMemory ≡ statuses.Read = sym is ∙ same in cc
