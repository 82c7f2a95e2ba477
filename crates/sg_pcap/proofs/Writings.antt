-- Captures as they are written are read.
use Rattle.std.proofs.Common.{◌≡◌, ◌+◌, ◌*◌, ◌≤◌, ◌<◌, ◌^◌, ℕ, Bool, true, false, cond, not, eqb, ltb, List, [], ◌∷◌, ◌++◌, length, map, drop, Some, None, Result, Ok, Err, refl, sym, ap, ◌∙◌, inl, inr, arith, length-append}
use Rattle.std.specs.Prelude.{◌/◌, ◌%◌}
use Rattle.std.specs.List.{AllByRecursion, flat_map}
use Rattle.std.proofs.lemmas.Bool.{cases_eq, cond-true, cond-false, eq-eqb, le-ltb, ne_eqb}
use Rattle.std.proofs.Math.Seq.{drop-append_seam}
use Rattle.sg_pcap.proofs.Captures.{counted_near, next_record}
use Rattle.sg_pcap.specs.Capture.{after_header, capture_of, counted, faulty, header_as_counted, header_within, record_within, records_in, whole_record, with_record}
use Rattle.sg_pcap.specs.Fields.{u16_by_order, u32_by_order}
use Rattle.sg_pcap.specs.Header.{form_of, header_as, header_of}
use Rattle.sg_pcap.specs.Records.{fractions, record_of}
use Rattle.sg_pcap.specs.Readings.{CapturesAreRead}
use Rattle.sg_pcap.specs.Written.{FitsHeader, FitsTaken, Header, Taken, header_written, moment_taken, record_written}
use Rattle.sg_pcap.specs.declared.faults.CaptureFault.{CaptureFault}
use Rattle.sg_pcap.specs.declared.faults.CaptureFault.TheVariants.{Version, LinkType, Length}
use Rattle.sg_pcap.specs.declared.header.Form.{Form}
use Rattle.sg_pcap.specs.declared.records.Record.{Record}

-- ---- numbers

four_true : (n : ℕ) → n < 2 ^ 32 → (n / 65536 / 256 * 256 + n / 65536 % 256) * 65536 + (n % 65536 / 256 * 256 + n % 65536 % 256) ≡ n
four_true n fits = omega (arith, fits)

four_false : (n : ℕ) → n < 2 ^ 32 → (n % 65536 % 256 + n % 65536 / 256 * 256) + (n / 65536 % 256 + n / 65536 / 256 * 256) * 65536 ≡ n
four_false n fits = omega (arith, fits)

-- ---- headers

module _ (h : Header) (rest : List ℕ) where
  abbrev octets : Bool → Bool → List ℕ
  octets big nano = header_written (record { big = big; nano = nano }) h ++ rest

  long : (big nano : Bool) → 24 ≤ length (octets big nano)
  long true nano = omega arith
  long false nano = omega arith

  magic : (big nano : Bool) → form_of (u32_by_order true (octets big nano) 0) ≡ Some (record { big = big; nano = nano })
  magic true true = refl
  magic true false = refl
  magic false true = refl
  magic false false = refl

  major : FitsHeader h → (big nano : Bool) → u16_by_order big (octets big nano) 4 ≡ h.major
  major fits true nano = let small = fits.major in let e : h.major / 256 * 256 + h.major % 256 ≡ h.major = omega (arith, small) in e
  major fits false nano = let small = fits.major in let e : h.major % 256 + h.major / 256 * 256 ≡ h.major = omega (arith, small) in e

  minor : FitsHeader h → (big nano : Bool) → u16_by_order big (octets big nano) 6 ≡ h.minor
  minor fits true nano = let small = fits.minor in let e : h.minor / 256 * 256 + h.minor % 256 ≡ h.minor = omega (arith, small) in e
  minor fits false nano = let small = fits.minor in let e : h.minor % 256 + h.minor / 256 * 256 ≡ h.minor = omega (arith, small) in e

  link : FitsHeader h → (big nano : Bool) → u32_by_order big (octets big nano) 20 ≡ h.link
  link fits true nano = let small = fits.link in four_true h.link small
  link fits false nano = let small = fits.link in four_false h.link small

  -- a header with those fields, judged by the two numbers of its version and its link type
  abbrev judged : Form → ℕ → ℕ → ℕ → Result Form (ℕ × CaptureFault)
  judged form a b c =
      cond (not (eqb a 2)) (Err (4, Version)) (cond (not (eqb b 4)) (Err (4, Version)) (cond (not (eqb c 1)) (Err (20, LinkType)) (Ok form)))

  header_judged : FitsHeader h → (form : Form) → header_of (header_written form h ++ rest) ≡ judged form h.major h.minor h.link
  header_judged fits form =
      let size = long form.big form.nano in
      cond-false (ltb (length (octets form.big form.nano)) 4) _ _ (le-ltb (length (octets form.big form.nano)) 4 (omega (arith, size)))
      ∙ ap (header_as (octets form.big form.nano)) (magic form.big form.nano)
      ∙ cond-false (ltb (length (octets form.big form.nano)) 6) _ _ (le-ltb (length (octets form.big form.nano)) 6 (omega (arith, size)))
      ∙ ap (λ (r : Result Form (ℕ × CaptureFault)). cond (not (eqb (u16_by_order form.big (octets form.big form.nano) 4) 2)) (Err (4, Version)) r)
      (cond-false (ltb (length (octets form.big form.nano)) 8) _ _ (le-ltb (length (octets form.big form.nano)) 8 (omega (arith, size)))
      ∙ ap (λ (r : Result Form (ℕ × CaptureFault)). cond (not (eqb (u16_by_order form.big (octets form.big form.nano) 6) 4)) (Err (4, Version)) r)
      (cond-false (ltb (length (octets form.big form.nano)) 24) _ _ (le-ltb (length (octets form.big form.nano)) 24 size)))
      ∙ (λ i. judged form (major fits form.big form.nano i) (minor fits form.big form.nano i) (link fits form.big form.nano i))

pub header_size : (form : Form) (h : Header) → length (header_written form h) ≡ 24
header_size form h = by_order form.big
  where
    by_order : (big : Bool) → length (header_written (record { big = big; nano = form.nano }) h) ≡ 24
    by_order true = refl
    by_order false = refl

-- ---- a capture with a header that is there, and what stands behind it

module _ (most : ℕ) (form : Form) (h : Header) (rest : List ℕ) (fits : FitsHeader h) (counts : 24 ≤ most) where
  judged_within : header_within most (header_written form h ++ rest) ≡ header_as_counted most (header_written form h ++ rest) (judged h rest form h.major h.minor h.link)
  judged_within =
      let part = counted_near most (header_written form h) rest (omega (arith, header_size form h, counts)) in
      ap (λ (l : List ℕ). header_as_counted most (header_written form h ++ rest) (header_of l)) part.1
      ∙ ap (header_as_counted most (header_written form h ++ rest)) (header_judged h part.0 fits form)

  -- another version
  pub other_version : ¬ ((h.major ≡ 2) × (h.minor ≡ 4)) → capture_of most (header_written form h ++ rest) ≡ faulty (4, Version)
  other_version isnt =
      ap (after_header most (header_written form h ++ rest))
      (judged_within ∙ ap (header_as_counted most (header_written form h ++ rest)) (elim (cases_eq h.major 2) [
        | inr none ↦ cond-true (not (eqb h.major 2)) _ _ (ap not (ne_eqb h.major 2 none))
        | inl major ↦
            cond-false (not (eqb h.major 2)) _ _ (ap not (eq-eqb h.major 2 major))
            ∙ cond-true (not (eqb h.minor 4)) _ _ (ap not (ne_eqb h.minor 4 (λ minor. isnt (major, minor))))
      ]))

  -- frames of another link
  pub other_link : h.major ≡ 2 → h.minor ≡ 4 → ¬ (h.link ≡ 1) → capture_of most (header_written form h ++ rest) ≡ faulty (20, LinkType)
  other_link major minor isnt =
      ap (after_header most (header_written form h ++ rest))
      (judged_within ∙ ap (header_as_counted most (header_written form h ++ rest)) (
      cond-false (not (eqb h.major 2)) _ _ (ap not (eq-eqb h.major 2 major))
      ∙ cond-false (not (eqb h.minor 4)) _ _ (ap not (eq-eqb h.minor 4 minor))
      ∙ cond-true (not (eqb h.link 1)) _ _ (ap not (ne_eqb h.link 1 isnt))))

  good : h.major ≡ 2 → h.minor ≡ 4 → h.link ≡ 1 → capture_of most (header_written form h ++ rest) ≡ records_in most form 24 rest
  good major minor link =
      ap (after_header most (header_written form h ++ rest))
      (judged_within ∙ ap (header_as_counted most (header_written form h ++ rest)) (
      cond-false (not (eqb h.major 2)) _ _ (ap not (eq-eqb h.major 2 major))
      ∙ cond-false (not (eqb h.minor 4)) _ _ (ap not (eq-eqb h.minor 4 minor))
      ∙ cond-false (not (eqb h.link 1)) _ _ (ap not (eq-eqb h.link 1 link))))
      ∙ ap (records_in most form 24) (ap (λ (n : ℕ). drop n (header_written form h ++ rest)) (sym (header_size form h)) ∙ drop-append_seam (header_written form h) rest)

-- ---- records

module _ (form : Form) (t : Taken) where
  record_size : length (record_written form t) ≡ 16 + length t.frame
  record_size = by_order form.big
    where
      by_order : (big : Bool) → length (record_written (record { big = big; nano = form.nano }) t) ≡ 16 + length t.frame
      by_order true = omega arith
      by_order false = omega arith

  frame_held : drop 16 (record_written form t) ≡ t.frame
  frame_held = by_order form.big
    where
      by_order : (big : Bool) → drop 16 (record_written (record { big = big; nano = form.nano }) t) ≡ t.frame
      by_order true = refl
      by_order false = refl

  abbrev the_head : Record
  the_head = record { millis = (moment_taken form t).millis; length = length t.frame }

  head_is : FitsTaken t → record_of form (record_written form t) ≡ Ok the_head
  head_is fits =
      let small = fits.captured in
      (λ i. cond (ltb 262144 (sizes form.big form.nano i)) (Err Length) (Ok (record { millis = seconds form.big form.nano i * 1000 + fraction form.big form.nano i / fractions form.nano; length = sizes form.big form.nano i })))
      ∙ cond-false (ltb 262144 (length t.frame)) _ _ (le-ltb 262144 (length t.frame) small) ∙ ap (λ (n : ℕ). Ok (record { millis = t.seconds * 1000 + n; length = length t.frame })) (by_unit form.nano)
    where
      by_unit : (nano : Bool) → t.fraction / fractions nano ≡ cond nano (t.fraction / 1000000) (t.fraction / 1000)
      by_unit true = refl
      by_unit false = refl

      seconds : (big nano : Bool) → u32_by_order big (record_written (record { big = big; nano = nano }) t) 0 ≡ t.seconds
      seconds true nano = four_true t.seconds fits.seconds
      seconds false nano = four_false t.seconds fits.seconds

      fraction : (big nano : Bool) → u32_by_order big (record_written (record { big = big; nano = nano }) t) 4 ≡ t.fraction
      fraction true nano = four_true t.fraction fits.fraction
      fraction false nano = four_false t.fraction fits.fraction

      sizes : (big nano : Bool) → u32_by_order big (record_written (record { big = big; nano = nano }) t) 8 ≡ length t.frame
      sizes true nano = four_true (length t.frame) (let small = fits.captured in omega (arith, small))
      sizes false nano = four_false (length t.frame) (let small = fits.captured in omega (arith, small))

  record_is : (most at : ℕ) → FitsTaken t → at + length (record_written form t) ≤ most → record_within most form at (record_written form t) ≡ Ok the_head
  record_is most at fits within =
      let size = record_size in
      cond-false (ltb (counted most at (record_written form t)) 12) _ _ (le-ltb (counted most at (record_written form t)) 12 (omega (arith, size, within)))
      ∙ ap (whole_record most at (record_written form t)) (head_is fits)
      ∙ cond-false (ltb (counted most at (record_written form t)) (16 + length t.frame)) _ _ (le-ltb (counted most at (record_written form t)) (16 + length t.frame) (omega (arith, size, within)))

all_read : (most : ℕ) (form : Form) (at : ℕ) (ts : List Taken) → AllByRecursion FitsTaken ts → at + length (flat_map (record_written form) ts) ≤ most
    → records_in most form at (flat_map (record_written form) ts) ≡ record { records = map (moment_taken form) ts; fault = None }
all_read most form at [] fit within = refl
all_read most form at (t ∷ ts) fit within =
    let size = record_size form t in
    let all = length-append (record_written form t) (flat_map (record_written form) ts) in
    next_record most form at (record_written form t) (the_head form t) (record_is form t most at fit.0 (omega (arith, all, within))) size (flat_map (record_written form) ts)
    ∙ (λ i. with_record (record { millis = (moment_taken form t).millis; frame = frame_held form t i }) (all_read most form (at + length (record_written form t)) ts fit.1 (omega (arith, all, within)) i))

pub captures_read : (most : ℕ) (form : Form) (h : Header) → FitsHeader h → CapturesAreRead most form h
captures_read most form h fits = record {
  whole = λ ts version link fit within. (let size = header_size form h in
      let all = length-append (header_written form h) (flat_map (record_written form) ts) in
      good most form h (flat_map (record_written form) ts) fits (omega (arith, size, all, within)) version.major version.minor link
      ∙ all_read most form 24 ts fit (omega (arith, size, all, within)));
  version = λ rest counts isnt. other_version most form h rest fits counts (λ both. isnt (record { major = both.0; minor = both.1 }));
  link = λ rest counts version isnt. other_link most form h rest fits counts version.major version.minor isnt;
}
