-- What is met of a capture that is cut off or damaged.
use Rattle.std.proofs.Common.{◌≡◌, ◌+◌, ◌-◌, ◌*◌, ◌≤◌, ◌<◌, ◌^◌, ℕ, Bool, true, false, cond, eqb, ltb, not, List, [], ◌∷◌, ◌++◌, length, map, take, drop, slice_index, Some, None, Result, Ok, Err, refl, sym, ap, ◌∙◌, inl, inr, arith, append_assoc, length-append}
use Rattle.std.specs.Prelude.{◌/◌, ◌%◌}
use Rattle.std.specs.List.{AllByRecursion, flat_map}
use Rattle.std.proofs.Math.Seq.{take-length}
use Rattle.std.proofs.lemmas.Bool.{cases_lt, cond-false, cond-true, eq-eqb, le-ltb, lt-ltb, ne_eqb}
use Rattle.std.proofs.lemmas.List.{append-nil, get_or_append_left}
use Rattle.sg_pcap.proofs.Captures.{capture_begins, counted_near, next_record, record_faulty}
use Rattle.sg_pcap.proofs.Headers.{again}
use Rattle.sg_pcap.specs.Capture.{Capture, Captured, after_header, capture_of, counted, faulty, header_as_counted, header_within, record_within, records_in, too_few, whole_record, with_record}
use Rattle.sg_pcap.specs.Fields.{u16_by_order, u32_by_order}
use Rattle.sg_pcap.specs.Header.{form_of, header_as, header_of}
use Rattle.sg_pcap.specs.Records.{fractions, record_of}
use Rattle.sg_pcap.specs.Readings.{IsOfVersion}
use Rattle.sg_pcap.specs.Written.{FitsHeader, FitsTaken, Header, Taken, capture_written, four, header_written, moment_taken, record_written}
use Rattle.sg_pcap.specs.declared.faults.CaptureFault.{CaptureFault}
use Rattle.sg_pcap.specs.declared.faults.CaptureFault.TheVariants.{Cut, Length, LinkType, Magic, Version}
use Rattle.sg_pcap.specs.declared.header.Form.{Form}
use Rattle.sg_pcap.specs.declared.records.Record.{Record}
use Rattle.sg_trace.specs.Captured.{CaptureTrace, after_script, captured, script_of, then_capture}
use Rattle.sg_trace.specs.Trace.{AtCapture}
use Rattle.sg_run.specs.Captures.{DamageIsTold, IsMetUpTo, magic_words}

-- ---- numbers in octets

four_true : (n : ℕ) → n < 2 ^ 32 → (n / 65536 / 256 * 256 + n / 65536 % 256) * 65536 + (n % 65536 / 256 * 256 + n % 65536 % 256) ≡ n
four_true n fits = omega (arith, fits)

four_false : (n : ℕ) → n < 2 ^ 32 → (n % 65536 % 256 + n % 65536 / 256 * 256) + (n / 65536 % 256 + n / 65536 / 256 * 256) * 65536 ≡ n
four_false n fits = omega (arith, fits)

at_front : (xs more : List ℕ) (i : ℕ) → i < length xs → slice_index (xs ++ more) i ≡ slice_index xs i
at_front xs more i within = get_or_append_left xs more 0 i within

u16_front : (big : Bool) (xs more : List ℕ) (at : ℕ) → at + 2 ≤ length xs → u16_by_order big (xs ++ more) at ≡ u16_by_order big xs at
u16_front big xs more at within =
    let a = at_front xs more at (omega (arith, within)) in
    let b = at_front xs more (at + 1) (omega (arith, within)) in
    λ i. cond big (a i * 256 + b i) (a i + b i * 256)

u32_front : (big : Bool) (xs more : List ℕ) (at : ℕ) → at + 4 ≤ length xs → u32_by_order big (xs ++ more) at ≡ u32_by_order big xs at
u32_front big xs more at within =
    let a = u16_front big xs more at (omega (arith, within)) in
    let b = u16_front big xs more (at + 2) (omega (arith, within)) in
    λ i. cond big (a i * 65536 + b i) (a i + b i * 65536)

-- ---- headers

module _ (h : Header) where
  abbrev octets : Bool → Bool → List ℕ
  octets big nano = header_written (record { big = big; nano = nano }) h

  size : (big nano : Bool) → length (octets big nano) ≡ 24
  size true nano = refl
  size false nano = refl

  magic : (big nano : Bool) → form_of (u32_by_order true (octets big nano) 0) ≡ Some (record { big = big; nano = nano })
  magic true true = refl
  magic true false = refl
  magic false true = refl
  magic false false = refl

  major : FitsHeader h → (big nano : Bool) → u16_by_order big (octets big nano) 4 ≡ h.major
  major fits true nano = let small = fits.major in let e : h.major / 256 * 256 + h.major % 256 ≡ h.major = omega (arith, small) in e
  major fits false nano = let small = fits.major in let e : h.major % 256 + h.major / 256 * 256 ≡ h.major = omega (arith, small) in e

  minor : FitsHeader h → (big nano : Bool) → u16_by_order big (octets big nano) 6 ≡ h.minor
  minor fits true nano = let small = fits.minor in let e : h.minor / 256 * 256 + h.minor % 256 ≡ h.minor = omega (arith, small) in e
  minor fits false nano = let small = fits.minor in let e : h.minor % 256 + h.minor / 256 * 256 ≡ h.minor = omega (arith, small) in e

  link : FitsHeader h → (big nano : Bool) → u32_by_order big (octets big nano) 20 ≡ h.link
  link fits true nano = let small = fits.link in four_true h.link small
  link fits false nano = let small = fits.link in four_false h.link small

-- a good header is read, and its records stand behind it
module _ (most : ℕ) (form : Form) (h : Header) (fits : FitsHeader h) (version : IsOfVersion h) (ethernet : h.link ≡ 1) (counts : 24 ≤ most) where
  header_size : length (header_written form h) ≡ 24
  header_size = size h form.big form.nano

  is_header : header_of (header_written form h) ≡ Ok form
  is_header =
      again (header_written form h) form
      (record {
        long = omega (arith, header_size);
        magic = magic h form.big form.nano;
        major = major h fits form.big form.nano ∙ version.major;
        minor = minor h fits form.big form.nano ∙ version.minor;
        link = link h fits form.big form.nano ∙ ethernet;
      })

  is_within : header_within most (header_written form h) ≡ Ok form
  is_within =
      let all : counted most 0 (header_written form h) ≡ length (header_written form h) = omega (arith, header_size, counts) in
      ap (λ (l : List ℕ). header_as_counted most (header_written form h) (header_of l)) (ap (λ (n : ℕ). take n (header_written form h)) all ∙ take-length (header_written form h))
      ∙ ap (header_as_counted most (header_written form h)) is_header

  behind_header : (rest : List ℕ) → capture_of most (header_written form h ++ rest) ≡ records_in most form 24 rest
  behind_header rest = capture_begins most (header_written form h) form is_within header_size rest

-- one that ends before its end
module _ (most : ℕ) (form : Form) (h : Header) (fits : FitsHeader h) (version : IsOfVersion h) (part more : List ℕ) (split : header_written form h ≡ part ++ more) (some : 0 < length more) (counts : length part ≤ most) where
  abbrev cut : Result Form (ℕ × CaptureFault)
  cut = Err (length part, Cut)

  short : length part < 24
  short =
      let whole : length (header_written form h) ≡ 24 = size h form.big form.nano in
      let same = ap (length {A = ℕ}) split in
      let both = length-append part more in
      omega (arith, whole, same, both, some)

  u16_same : (at : ℕ) → at + 2 ≤ length part → u16_by_order form.big part at ≡ u16_by_order form.big (header_written form h) at
  u16_same at within = sym (u16_front form.big part more at within) ∙ ap (λ (l : List ℕ). u16_by_order form.big l at) (sym split)

  abbrev link_in : Result Form (ℕ × CaptureFault)
  link_in = cond (not (eqb (u32_by_order form.big part 20) 1)) (Err (20, LinkType)) (Ok form)

  abbrev minor_in : Result Form (ℕ × CaptureFault)
  minor_in = cond (not (eqb (u16_by_order form.big part 6) 4)) (Err (4, Version)) (cond (ltb (length part) 24) cut link_in)

  abbrev major_in : Result Form (ℕ × CaptureFault)
  major_in = cond (not (eqb (u16_by_order form.big part 4) 2)) (Err (4, Version)) (cond (ltb (length part) 8) cut minor_in)

  cut_or : (k : ℕ) (rest : Result Form (ℕ × CaptureFault)) → (k ≤ length part → rest ≡ cut) → cond (ltb (length part) k) cut rest ≡ cut
  cut_or k rest later = elim (cases_lt (length part) k) [
    | inl less ↦ cond-true (ltb (length part) k) _ _ (lt-ltb (length part) k less)
    | inr least ↦ cond-false (ltb (length part) k) _ _ (le-ltb (length part) k least) ∙ later least
  ]

  header_cut : header_of part ≡ cut
  header_cut =
      cut_or 4 (header_as part (form_of (u32_by_order true part 0))) (λ four.
      ap (λ (n : ℕ). header_as part (form_of n)) (sym (u32_front true part more 0 (omega (arith, four))) ∙ ap (λ (l : List ℕ). u32_by_order true l 0) (sym split))
      ∙ ap (header_as part) (magic h form.big form.nano)
      ∙ cut_or 6 major_in (λ six.
      cond-false (not (eqb (u16_by_order form.big part 4) 2)) _ _ (ap not (eq-eqb _ _ (u16_same 4 (omega (arith, six)) ∙ major h fits form.big form.nano ∙ version.major)))
      ∙ cut_or 8 minor_in (λ eight.
      cond-false (not (eqb (u16_by_order form.big part 6) 4)) _ _ (ap not (eq-eqb _ _ (u16_same 6 (omega (arith, eight)) ∙ minor h fits form.big form.nano ∙ version.minor)))
      ∙ cut_or 24 link_in (λ whole. absurd (omega (arith, whole, short))))))

  none_behind : capture_of most part ≡ faulty (length part, Cut)
  none_behind =
      let all : counted most 0 part ≡ length part = omega (arith, counts) in
      ap (λ (l : List ℕ). after_header most part (header_as_counted most part (header_of l))) (ap (λ (n : ℕ). take n part) all ∙ take-length part)
      ∙ ap (λ r. after_header most part (header_as_counted most part r)) header_cut
      ∙ ap (λ (f : ℕ × CaptureFault). faulty f) (cond-false (ltb most (0 + length part)) _ _ (le-ltb most (0 + length part) (omega (arith, counts))) ∙ ap (λ (n : ℕ). (n, Cut)) (omega arith))

-- ---- records

module _ (form : Form) (t : Taken) where
  record_size : length (record_written form t) ≡ 16 + length t.frame
  record_size = by_order form.big
    where
      by_order : (big : Bool) → length (record_written (record { big = big; nano = form.nano }) t) ≡ 16 + length t.frame
      by_order true = omega arith
      by_order false = omega arith

  frame_held : drop 16 (record_written form t) ≡ t.frame
  frame_held = by_order form.big
    where
      by_order : (big : Bool) → drop 16 (record_written (record { big = big; nano = form.nano }) t) ≡ t.frame
      by_order true = refl
      by_order false = refl

  abbrev the_head : Record
  the_head = record { millis = (moment_taken form t).millis; length = length t.frame }

  head_is : FitsTaken t → record_of form (record_written form t) ≡ Ok the_head
  head_is fits =
      let small = fits.captured in
      (λ i. cond (ltb 262144 (sizes form.big form.nano i)) (Err Length) (Ok (record { millis = seconds form.big form.nano i * 1000 + fraction form.big form.nano i / fractions form.nano; length = sizes form.big form.nano i })))
      ∙ cond-false (ltb 262144 (length t.frame)) _ _ (le-ltb 262144 (length t.frame) small) ∙ ap (λ (n : ℕ). Ok (record { millis = t.seconds * 1000 + n; length = length t.frame })) (by_unit form.nano)
    where
      by_unit : (nano : Bool) → t.fraction / fractions nano ≡ cond nano (t.fraction / 1000000) (t.fraction / 1000)
      by_unit true = refl
      by_unit false = refl

      seconds : (big nano : Bool) → u32_by_order big (record_written (record { big = big; nano = nano }) t) 0 ≡ t.seconds
      seconds true nano = four_true t.seconds fits.seconds
      seconds false nano = four_false t.seconds fits.seconds

      fraction : (big nano : Bool) → u32_by_order big (record_written (record { big = big; nano = nano }) t) 4 ≡ t.fraction
      fraction true nano = four_true t.fraction fits.fraction
      fraction false nano = four_false t.fraction fits.fraction

      sizes : (big nano : Bool) → u32_by_order big (record_written (record { big = big; nano = nano }) t) 8 ≡ length t.frame
      sizes true nano = four_true (length t.frame) (let small = fits.captured in omega (arith, small))
      sizes false nano = four_false (length t.frame) (let small = fits.captured in omega (arith, small))

  record_is : (most at : ℕ) → FitsTaken t → at + length (record_written form t) ≤ most → record_within most form at (record_written form t) ≡ Ok the_head
  record_is most at fits within =
      let size = record_size in
      cond-false (ltb (counted most at (record_written form t)) 12) _ _ (le-ltb (counted most at (record_written form t)) 12 (omega (arith, size, within)))
      ∙ ap (whole_record most at (record_written form t)) (head_is fits)
      ∙ cond-false (ltb (counted most at (record_written form t)) (16 + length t.frame)) _ _ (le-ltb (counted most at (record_written form t)) (16 + length t.frame) (omega (arith, size, within)))

  -- one that is cut
  record_cut : (most at : ℕ) (part more : List ℕ) → FitsTaken t → record_written form t ≡ part ++ more → 0 < length more → at + length part ≤ most → record_within most form at part ≡ Err (at + length part, Cut)
  record_cut most at part more fits split some within =
      let size = record_size in
      let whole = ap (length {A = ℕ}) split in
      let both = length-append part more in
      let far : too_few most at part ≡ (at + length part, Cut) = cond-false (ltb most (at + length part)) _ _ (le-ltb most (at + length part) within) in
      elim (cases_lt (length part) 12) [
        | inl short ↦ cond-true (ltb (counted most at part) 12) _ _ (lt-ltb (counted most at part) 12 (omega (arith, short))) ∙ ap Err far
        | inr long ↦
            (let front : record_of form part ≡ Ok the_head =
            (λ i. cond (ltb 262144 (sym (u32_front form.big part more 8 (omega (arith, long))) i)) (Err Length)
            (Ok (record { millis = sym (u32_front form.big part more 0 (omega (arith, long))) i * 1000 + sym (u32_front form.big part more 4 (omega (arith, long))) i / fractions form.nano; length = sym (u32_front form.big part more 8 (omega (arith, long))) i })))
            ∙ ap (record_of form) (sym split) ∙ head_is fits in
            cond-false (ltb (counted most at part) 12) _ _ (le-ltb (counted most at part) 12 (omega (arith, long, within)))
            ∙ ap (whole_record most at part) front
            ∙ cond-true (ltb (counted most at part) (16 + length t.frame)) _ _ (lt-ltb (counted most at part) (16 + length t.frame) (omega (arith, size, whole, both, some)))
            ∙ ap Err far)
      ]

-- one that says that too many octets were captured
module _ (form : Form) (seconds fraction n : ℕ) (rest : List ℕ) where
  abbrev long_head : Bool → List ℕ
  long_head big = four big seconds ++ four big fraction ++ four big n ++ rest

  long_size : 12 ≤ length (long_head form.big)
  long_size = by_order form.big
    where
      by_order : (big : Bool) → 12 ≤ length (long_head big)
      by_order true = omega arith
      by_order false = omega arith

  long_number : n < 2 ^ 32 → (big : Bool) → u32_by_order big (long_head big) 8 ≡ n
  long_number fits true = four_true n fits
  long_number fits false = four_false n fits

  record_long : (most at : ℕ) → n < 2 ^ 32 → 262144 < n → at + 12 ≤ most → record_within most form at (long_head form.big) ≡ Err (at + 8, Length)
  record_long most at fits more within =
      let size = long_size in
      cond-false (ltb (counted most at (long_head form.big)) 12) _ _ (le-ltb (counted most at (long_head form.big)) 12 (omega (arith, size, within)))
      ∙ ap (whole_record most at (long_head form.big))
      (cond-true (ltb 262144 (u32_by_order form.big (long_head form.big) 8)) _ _ (ap (λ (m : ℕ). ltb 262144 m) (long_number fits form.big) ∙ lt-ltb 262144 n more))

-- whole records, and what stands behind them
abbrev with_records : List Captured → Capture → Capture
with_records records c = record c { records = records ++ c.records }

all_then : (most : ℕ) (form : Form) (rest : List ℕ) (ts : List Taken) (at end : ℕ) → AllByRecursion FitsTaken ts → end ≡ at + length (flat_map (record_written form) ts) → end ≤ most
    → records_in most form at (flat_map (record_written form) ts ++ rest) ≡ with_records (map (moment_taken form) ts) (records_in most form end rest)
all_then most form rest [] at end fit is within = ap (λ (n : ℕ). records_in most form n rest) (let e : at ≡ end = omega (arith, is) in e)
all_then most form rest (t ∷ ts) at end fit is within =
    let size = record_size form t in
    let all = length-append (record_written form t) (flat_map (record_written form) ts) in
    ap (records_in most form at) (append_assoc (record_written form t) (flat_map (record_written form) ts) rest)
    ∙ next_record most form at (record_written form t) (the_head form t) (record_is form t most at fit.0 (omega (arith, all, is, within))) size (flat_map (record_written form) ts ++ rest)
    ∙ (λ i. with_record (record { millis = (moment_taken form t).millis; frame = frame_held form t i }) (all_then most form rest ts (at + length (record_written form t)) end fit.1 (omega (arith, all, is)) within i))

-- ---- a capture up to its fault

module _ (most : ℕ) (form : Form) (h : Header) (ts : List Taken) (rest : List ℕ) (fits : FitsHeader h) (version : IsOfVersion h) (ethernet : h.link ≡ 1) (fit : AllByRecursion FitsTaken ts) where
  up_to : (fault : ℕ × CaptureFault) → 0 < length rest → length (capture_written form h ts) ≤ most
      → ((at : ℕ) → at ≡ length (capture_written form h ts) → record_within most form at rest ≡ Err fault)
      → capture_of most (capture_written form h ts ++ rest) ≡ record { records = map (moment_taken form) ts; fault = Some fault }
  up_to fault some within is =
      let head : length (header_written form h) ≡ 24 = size h form.big form.nano in
      let whole = length-append (header_written form h) (flat_map (record_written form) ts) in
      ap (capture_of most) (append_assoc (header_written form h) (flat_map (record_written form) ts) rest)
      ∙ behind_header most form h fits version ethernet (omega (arith, head, whole, within)) (flat_map (record_written form) ts ++ rest)
      ∙ all_then most form rest ts 24 (length (capture_written form h ts)) fit (omega (arith, head, whole)) within
      ∙ ap (with_records (map (moment_taken form) ts)) (record_faulty most form (length (capture_written form h ts)) rest fault some (is (length (capture_written form h ts)) refl))
      ∙ ap (λ (rs : List Captured). record { records = rs; fault = Some fault }) (append-nil (map (moment_taken form) ts))

-- ---- no capture

module _ (a b c d : ℕ) (rest : List ℕ) (bytes : AllByRecursion (λ octet. octet < 256) (a ∷ b ∷ c ∷ d ∷ [])) (none : AllByRecursion (λ magic. ¬ (a ∷ b ∷ c ∷ d ∷ [] ≡ magic)) magic_words) where
  abbrev number : ℕ
  number = (a * 256 + b) * 65536 + (c * 256 + d)

  is_word : (p q r s : ℕ) → p < 256 → q < 256 → r < 256 → s < 256 → number ≡ (p * 256 + q) * 65536 + (r * 256 + s) → a ∷ b ∷ c ∷ d ∷ [] ≡ p ∷ q ∷ r ∷ s ∷ []
  is_word p q r s small_p small_q small_r small_s same =
      let small_a = bytes.0 in
      let small_b = bytes.1.0 in
      let small_c = bytes.1.1.0 in
      let small_d = bytes.1.1.1.0 in
      let one : a ≡ p = omega (arith, same, small_a, small_b, small_c, small_d, small_p, small_q, small_r, small_s) in
      let two : b ≡ q = omega (arith, same, small_a, small_b, small_c, small_d, small_p, small_q, small_r, small_s) in
      let three : c ≡ r = omega (arith, same, small_a, small_b, small_c, small_d, small_p, small_q, small_r, small_s) in
      let last : d ≡ s = omega (arith, same, small_a, small_b, small_c, small_d, small_p, small_q, small_r, small_s) in
      (λ i. one i ∷ two i ∷ three i ∷ last i ∷ [])

  no_form : form_of number ≡ None
  no_form =
      cond-false (eqb number 2712847316) _ _ (ne_eqb number 2712847316 (λ same. none.0 (is_word 161 178 195 212 (omega arith) (omega arith) (omega arith) (omega arith) same)))
      ∙ cond-false (eqb number 2712812621) _ _ (ne_eqb number 2712812621 (λ same. none.1.1.0 (is_word 161 178 60 77 (omega arith) (omega arith) (omega arith) (omega arith) same)))
      ∙ cond-false (eqb number 3569595041) _ _ (ne_eqb number 3569595041 (λ same. none.1.0 (is_word 212 195 178 161 (omega arith) (omega arith) (omega arith) (omega arith) same)))
      ∙ cond-false (eqb number 1295823521) _ _ (ne_eqb number 1295823521 (λ same. none.1.1.1.0 (is_word 77 60 178 161 (omega arith) (omega arith) (omega arith) (omega arith) same)))

  none_read : (most : ℕ) → 4 ≤ most → capture_of most ((a ∷ b ∷ c ∷ d ∷ []) ++ rest) ≡ faulty (0, Magic)
  none_read most counts =
      let word : List ℕ = a ∷ b ∷ c ∷ d ∷ [] in
      let part = counted_near most word rest counts in
      ap (λ (l : List ℕ). after_header most (word ++ rest) (header_as_counted most (word ++ rest) (header_of l))) part.1
      ∙ ap (λ r. after_header most (word ++ rest) (header_as_counted most (word ++ rest) r))
      (cond-false (ltb (length (word ++ part.0)) 4) _ _ (le-ltb (length (word ++ part.0)) 4 (omega arith)) ∙ ap (header_as (word ++ part.0)) no_form)

-- ---- the run

pub damage_is_told : (octets draws : List ℕ) → DamageIsTold octets draws
damage_is_told octets draws = record {
  magic = no_magic;
  header = λ at form h part more begins behind within split others fits version. (
      met at [] (length part, Cut) begins (ap (capture_of (2 ^ 30 - at)) behind ∙ none_behind (2 ^ 30 - at) form h fits version part more split (not_none more others) (omega (arith, within))));
  cut = λ at form h ts t part more stands within split some others fits. (
      let size = length-append (capture_written form h ts) part in
      met at (map (moment_taken form) ts) (length (capture_written form h ts) + length part, Cut) stands.begins
      (ap (capture_of (2 ^ 30 - at)) stands.is
      ∙ up_to (2 ^ 30 - at) form h ts part stands.fits stands.version stands.link stands.fit (length (capture_written form h ts) + length part, Cut) (not_none part some) (omega (arith, size, within))
      (λ here is. record_cut form t (2 ^ 30 - at) here part more fits split (not_none more others) (omega (arith, size, within, is)) ∙ ap (λ (n : ℕ). Err (n + length part, Cut)) is)));
  long = λ at form h ts seconds fraction n rest stands within small_seconds small_fraction small more. (
      met at (map (moment_taken form) ts) (length (capture_written form h ts) + 8, Length) stands.begins
      (ap (capture_of (2 ^ 30 - at)) stands.is
      ∙ up_to (2 ^ 30 - at) form h ts (long_head form seconds fraction n rest form.big) stands.fits stands.version stands.link stands.fit (length (capture_written form h ts) + 8, Length)
      (let long = long_size form seconds fraction n rest in omega (arith, long)) (omega (arith, within))
      (λ here is. record_long form seconds fraction n rest (2 ^ 30 - at) here small more (omega (arith, within, is)) ∙ ap (λ (m : ℕ). Err (m + 8, Length)) is)));
}
  where
    met : (at : ℕ) (records : List Captured) (fault : ℕ × CaptureFault) → (script_of octets draws).stop ≡ AtCapture at → capture_of (2 ^ 30 - at) (drop at octets) ≡ record { records = records; fault = Some fault }
        → IsMetUpTo octets draws records fault
    met at records fault begins read =
        let all : captured octets draws ≡ then_capture (script_of octets draws) (record { records = records; fault = Some fault }) =
        ap (after_script octets (script_of octets draws)) begins ∙ ap (then_capture (script_of octets draws)) read in
        record { occurs = ap (λ (t : CaptureTrace). t.occurrences) all; stop = ap (λ (t : CaptureTrace). t.stop) all }

    not_none : (xs : List ℕ) → ¬ (xs ≡ []) → 0 < length xs
    not_none [] some = absurd (some refl)
    not_none (x ∷ xs) some = omega arith

    no_magic : (at : ℕ) (word rest : List ℕ) → (script_of octets draws).stop ≡ AtCapture at → drop at octets ≡ word ++ rest → at + 4 ≤ 2 ^ 30
        → length word ≡ 4 → AllByRecursion (λ octet. octet < 256) word → AllByRecursion (λ magic. ¬ (word ≡ magic)) magic_words → IsMetUpTo octets draws [] (0, Magic)
    no_magic at (a ∷ b ∷ c ∷ d ∷ []) rest begins behind counts size bytes none =
        met at [] (0, Magic) begins (ap (capture_of (2 ^ 30 - at)) behind ∙ none_read a b c d rest bytes none (2 ^ 30 - at) (omega (arith, counts)))
    no_magic at [] rest begins behind counts size bytes none = absurd (omega (arith, size))
    no_magic at (a ∷ []) rest begins behind counts size bytes none = absurd (omega (arith, size))
    no_magic at (a ∷ b ∷ []) rest begins behind counts size bytes none = absurd (omega (arith, size))
    no_magic at (a ∷ b ∷ c ∷ []) rest begins behind counts size bytes none = absurd (omega (arith, size))
    no_magic at (a ∷ b ∷ c ∷ d ∷ e ∷ more) rest begins behind counts size bytes none = absurd (omega (arith, size))
