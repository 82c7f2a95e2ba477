-- How a capture is read from its front: what its first octets say stays, whatever comes behind them.
use Rattle.std.proofs.Common.{◌≡◌, ◌⊎◌, ◌+◌, ◌-◌, ◌*◌, ◌≤◌, ◌<◌, ℕ, zero, suc, Bool, true, false, cond, not, eqb, ltb, List, [], ◌∷◌, ◌++◌, length, take, drop, slice_index, Option, Some, None, Result, Ok, Err, refl, sym, ap, ◌∙◌, subst, inl, inr, arith, length-append}
use Rattle.std.specs.Prelude.{◌/◌, min}
use Rattle.std.proofs.Math.Seq.{take-append_seam, take-append-add, drop-append_seam, take-length}
use Rattle.std.proofs.lemmas.Bool.{cases_lt, cond-true, cond-false, le-ltb, lt-ltb, ltb-false, ltb-true}
use Rattle.std.proofs.lemmas.List.{drop-append-le, get_or_append_left, length-drop, length-take, take-append-le}
use Rattle.sg_base.proofs.Cases.{chosen}
use Rattle.sg_pcap.proofs.Headers.{again, takes}
use Rattle.sg_pcap.specs.Capture.{after_header, after_record, capture_of, counted, faulty, header_as_counted, header_fault, header_within, records_from, records_in, record_within, too_few, whole_record, with_record}
use Rattle.sg_pcap.specs.Fields.{u16_by_order, u32_by_order}
use Rattle.sg_pcap.specs.Header.{form_of, header_as, header_of}
use Rattle.sg_pcap.specs.Records.{fractions, length_by, record_length, record_of}
use Rattle.sg_pcap.specs.declared.faults.CaptureFault.{CaptureFault}
use Rattle.sg_pcap.specs.declared.faults.CaptureFault.TheVariants.{Magic, Version, LinkType, Cut, Length}
use Rattle.sg_pcap.specs.declared.header.Form.{Form}
use Rattle.sg_pcap.specs.declared.records.Record.{Record}

-- ---- numbers

at_front : (xs more : List ℕ) (i : ℕ) → i < length xs → slice_index (xs ++ more) i ≡ slice_index xs i
at_front xs more i within = get_or_append_left xs more 0 i within

u16_front : (big : Bool) (xs more : List ℕ) (at : ℕ) → at + 2 ≤ length xs → u16_by_order big (xs ++ more) at ≡ u16_by_order big xs at
u16_front big xs more at within =
    let a = at_front xs more at (omega (arith, within)) in
    let b = at_front xs more (at + 1) (omega (arith, within)) in
    λ i. cond big (a i * 256 + b i) (a i + b i * 256)

u32_front : (big : Bool) (xs more : List ℕ) (at : ℕ) → at + 4 ≤ length xs → u32_by_order big (xs ++ more) at ≡ u32_by_order big xs at
u32_front big xs more at within =
    let a = u16_front big xs more at (omega (arith, within)) in
    let b = u16_front big xs more (at + 2) (omega (arith, within)) in
    λ i. cond big (a i * 65536 + b i) (a i + b i * 65536)

-- ---- faults

-- it comes of octets that are wanting, of which there are fewer than this
abbrev Wants : ℕ × CaptureFault → List ℕ → ℕ → Type 0
Wants fault xs size = (fault.1 ≡ Cut) × (length xs < size)

-- it stays, whatever comes behind
abbrev Stays : {A : Type 0} → (List ℕ → Result A (ℕ × CaptureFault)) → ℕ × CaptureFault → List ℕ → Type 0
Stays answer fault xs = (¬ (fault.1 ≡ Cut)) × ((more : List ℕ) → answer (xs ++ more) ≡ Err fault)

not_cut : (fault : ℕ × CaptureFault) (other : CaptureFault) → other ≡ fault.1 → ¬ (other ≡ Cut) → ¬ (fault.1 ≡ Cut)
not_cut fault other is isnt same = isnt (is ∙ same)

err_is : {A : Type 0} (x y : ℕ × CaptureFault) → (let r : Result A (ℕ × CaptureFault) = Err x in r ≡ Err y) → x ≡ y
err_is x y is = cc

ok_err : {A : Type 0} (x : A) (y : ℕ × CaptureFault) → (let r : Result A (ℕ × CaptureFault) = Ok x in r ≡ Err y) → ⊥
ok_err x y is = cc

err_ok : {A : Type 0} (x : ℕ × CaptureFault) (y : A) → (let r : Result A (ℕ × CaptureFault) = Err x in r ≡ Ok y) → ⊥
err_ok x y is = cc

-- ---- headers

abbrev link : Form → List ℕ → Result Form (ℕ × CaptureFault)
link form ys = cond (not (eqb (u32_by_order form.big ys 20) 1)) (Err (20, LinkType)) (Ok form)

abbrev at_link : Form → List ℕ → Result Form (ℕ × CaptureFault)
at_link form ys = cond (ltb (length ys) 24) (Err (length ys, Cut)) (link form ys)

abbrev minor : Form → List ℕ → Result Form (ℕ × CaptureFault)
minor form ys = cond (not (eqb (u16_by_order form.big ys 6) 4)) (Err (4, Version)) (at_link form ys)

abbrev at_minor : Form → List ℕ → Result Form (ℕ × CaptureFault)
at_minor form ys = cond (ltb (length ys) 8) (Err (length ys, Cut)) (minor form ys)

abbrev major : Form → List ℕ → Result Form (ℕ × CaptureFault)
major form ys = cond (not (eqb (u16_by_order form.big ys 4) 2)) (Err (4, Version)) (at_minor form ys)

module _ (xs : List ℕ) (fault : ℕ × CaptureFault) where
  abbrev Judged : (List ℕ → Result Form (ℕ × CaptureFault)) → Type 0
  Judged answer = Wants fault xs 24 ⊎ Stays answer fault xs

  by_length : (k : ℕ) (rest : List ℕ → Result Form (ℕ × CaptureFault)) → k ≤ 24 → (k ≤ length xs → rest xs ≡ Err fault → Judged rest)
      → cond (ltb (length xs) k) (Err (length xs, Cut)) (rest xs) ≡ Err fault → Judged (λ ys. cond (ltb (length ys) k) (Err (length ys, Cut)) (rest ys))
  by_length k rest small later is = elim (chosen (ltb (length xs) k) _ (rest xs) (Err fault) is) [
    | inl p ↦ inl (sym (ap (λ (f : ℕ × CaptureFault). f.1) (err_is _ fault p.1)), (let less = ltb-true (length xs) k p.0 in omega (arith, less, small)))
    | inr p ↦
        (let long = ltb-false (length xs) k p.0 in
        elim (later long p.1) [
          | inl wants ↦ inl wants
          | inr stays ↦ inr (stays.0, λ more. cond-false (ltb (length (xs ++ more)) k) _ _ (le-ltb (length (xs ++ more)) k (omega (arith, long, length-append xs more))) ∙ stays.1 more)
        ])
  ]

  by_field : (field : List ℕ → ℕ) (k : ℕ) (at : ℕ) (other : CaptureFault) (rest : List ℕ → Result Form (ℕ × CaptureFault)) → ¬ (other ≡ Cut) → ((more : List ℕ) → field (xs ++ more) ≡ field xs)
      → (rest xs ≡ Err fault → Judged rest) → cond (not (eqb (field xs) k)) (Err (at, other)) (rest xs) ≡ Err fault → Judged (λ ys. cond (not (eqb (field ys) k)) (Err (at, other)) (rest ys))
  by_field field k at other rest isnt same later is = elim (chosen (not (eqb (field xs) k)) _ (rest xs) (Err fault) is) [
    | inl p ↦ inr (
      not_cut fault other (ap (λ (f : ℕ × CaptureFault). f.1) (err_is _ fault p.1)) isnt,
      λ more. cond-true (not (eqb (field (xs ++ more)) k)) _ _ (ap (λ (v : ℕ). not (eqb v k)) (same more) ∙ p.0) ∙ p.1,
    )
    | inr p ↦ elim (later p.1) [
      | inl wants ↦ inl wants
      | inr stays ↦ inr (stays.0, λ more. cond-false (not (eqb (field (xs ++ more)) k)) _ _ (ap (λ (v : ℕ). not (eqb v k)) (same more) ∙ p.0) ∙ stays.1 more)
    ]
  ]

  as_form : (o : Option Form) → 4 ≤ length xs → header_as xs o ≡ Err fault → Judged (λ ys. header_as ys o)
  as_form None long is = inr (not_cut fault Magic (ap (λ (f : ℕ × CaptureFault). f.1) (err_is _ fault is)) (λ same. cc), λ more. is)
  as_form (Some form) long is =
      by_length 6 (major form) (omega arith) (λ six.
      by_field (λ ys. u16_by_order form.big ys 4) 2 4 Version (at_minor form) (λ same. cc) (λ more. u16_front form.big xs more 4 (omega (arith, six)))
      (by_length 8 (minor form) (omega arith) (λ eight.
      by_field (λ ys. u16_by_order form.big ys 6) 4 4 Version (at_link form) (λ same. cc) (λ more. u16_front form.big xs more 6 (omega (arith, eight)))
      (by_length 24 (link form) (omega arith) (λ whole.
      by_field (λ ys. u32_by_order form.big ys 20) 1 20 LinkType (λ ys. Ok form) (λ same. cc) (λ more. u32_front form.big xs more 20 (omega (arith, whole)))
      (λ none. absurd (ok_err form fault none))))))) is

  header_judged : header_of xs ≡ Err fault → Judged header_of
  header_judged is =
      by_length 4 (λ ys. header_as ys (form_of (u32_by_order true ys 0))) (omega arith) (λ four said. elim (as_form (form_of (u32_by_order true xs 0)) four said) [
        | inl wants ↦ inl wants
        | inr stays ↦ inr (stays.0, λ more. ap (λ (v : ℕ). header_as (xs ++ more) (form_of v)) (u32_front true xs more 0 (omega (arith, four))) ∙ stays.1 more)
      ]) is

header_front : (xs more : List ℕ) (form : Form) → header_of xs ≡ Ok form → header_of (xs ++ more) ≡ Ok form
header_front xs more form is =
    let h = takes xs form is in
    let long = h.long in
    again (xs ++ more) form
    (record {
      long = omega (arith, long, length-append xs more);
      magic = ap form_of (u32_front true xs more 0 (omega (arith, long))) ∙ h.magic;
      major = u16_front form.big xs more 4 (omega (arith, long)) ∙ h.major;
      minor = u16_front form.big xs more 6 (omega (arith, long)) ∙ h.minor;
      link = u32_front form.big xs more 20 (omega (arith, long)) ∙ h.link;
    })

-- ---- octets that are wanting

too_few_far : (most at : ℕ) (xs : List ℕ) → most < at + length xs → too_few most at xs ≡ (most, Length)
too_few_far most at xs far = cond-true (ltb most (at + length xs)) _ _ (lt-ltb most (at + length xs) far)

too_few_near : (most at : ℕ) (xs : List ℕ) → at + length xs ≤ most → too_few most at xs ≡ (at + length xs, Cut)
too_few_near most at xs near = cond-false (ltb most (at + length xs)) _ _ (le-ltb most (at + length xs) near)

-- what counts of octets that all count, and of those with others behind
pub counted_near : (most : ℕ) (xs more : List ℕ) → length xs ≤ most → (rest : List ℕ) × (take (counted most 0 (xs ++ more)) (xs ++ more) ≡ xs ++ rest)
counted_near most xs more near =
    let n : ℕ = min (length more) (most - length xs) in
    let size : counted most 0 (xs ++ more) ≡ length xs + n = omega (arith, near, length-append xs more) in
    (take n more, ap (λ (m : ℕ). take m (xs ++ more)) size ∙ take-append-add xs more n)

counted_all : (most : ℕ) (xs : List ℕ) → length xs ≤ most → take (counted most 0 xs) xs ≡ xs
counted_all most xs near = let size : counted most 0 xs ≡ length xs = omega (arith, near) in ap (λ (m : ℕ). take m xs) size ∙ take-length xs

counted_far : (most : ℕ) (xs more : List ℕ) → most < length xs → take (counted most 0 (xs ++ more)) (xs ++ more) ≡ take (counted most 0 xs) xs
counted_far most xs more far =
    let size : counted most 0 (xs ++ more) ≡ counted most 0 xs = omega (arith, far, length-append xs more) in
    ap (λ (m : ℕ). take m (xs ++ more)) size ∙ take-append-le (counted most 0 xs) xs more (omega (arith, far))

-- ---- headers, as they count

either : (f : CaptureFault) → (f ≡ Cut) ⊎ (¬ (f ≡ Cut))
either Cut = inl refl
either other = inr (λ is. cc)

header_fault_other : (most : ℕ) (xs : List ℕ) (at : ℕ) (f : CaptureFault) → ¬ (f ≡ Cut) → header_fault most xs (at, f) ≡ (at, f)
header_fault_other most xs at Cut isnt = absurd (isnt refl)
header_fault_other most xs at other isnt = refl

header_fault_cut : (most : ℕ) (xs : List ℕ) (at : ℕ) (f : CaptureFault) → f ≡ Cut → header_fault most xs (at, f) ≡ too_few most 0 xs
header_fault_cut most xs at f is = ap (λ g. header_fault most xs (at, g)) is

module _ (most : ℕ) (xs : List ℕ) (fault : ℕ × CaptureFault) where
  -- a header's fault comes of octets that are wanting at the end of all, or it stays
  abbrev pub HeaderJudged : Type 0
  HeaderJudged = (Wants fault xs 24 × (length xs ≤ most)) ⊎ Stays (header_within most) fault xs

  far_so : most < length xs → (r : Result Form (ℕ × CaptureFault)) → header_of (take (counted most 0 xs) xs) ≡ r → header_as_counted most xs r ≡ Err fault → HeaderJudged
  far_so far (Ok form) was is = absurd (ok_err form fault is)
  far_so far (Err (at, f)) was is =
      let again_so : (more : List ℕ) → header_within most (xs ++ more) ≡ header_as_counted most (xs ++ more) (Err (at, f)) =
      λ more. ap (λ (l : List ℕ). header_as_counted most (xs ++ more) (header_of l)) (counted_far most xs more far) ∙ ap (header_as_counted most (xs ++ more)) was in
      elim (either f) [
        | inl cut ↦
            (let here : (most, Length) ≡ fault = sym (too_few_far most 0 xs (omega (arith, far))) ∙ sym (header_fault_cut most xs at f cut) ∙ err_is _ fault is in
            inr (
              not_cut fault Length (ap (λ (p : ℕ × CaptureFault). p.1) here) (λ same. cc),
              λ more. again_so more ∙ ap Err (header_fault_cut most (xs ++ more) at f cut ∙ too_few_far most 0 (xs ++ more) (omega (arith, far, length-append xs more)) ∙ here),
            ))
        | inr isnt ↦
            (let here : (at, f) ≡ fault = sym (header_fault_other most xs at f isnt) ∙ err_is _ fault is in
            inr (not_cut fault f (ap (λ (p : ℕ × CaptureFault). p.1) here) isnt, λ more. again_so more ∙ ap Err (header_fault_other most (xs ++ more) at f isnt ∙ here)))
      ]

  near_so : length xs ≤ most → (r : Result Form (ℕ × CaptureFault)) → header_of xs ≡ r → header_as_counted most xs r ≡ Err fault → HeaderJudged
  near_so near (Ok form) was is = absurd (ok_err form fault is)
  near_so near (Err (at, f)) was is = elim (header_judged xs (at, f) was) [
    | inl wants ↦
        (let here : (0 + length xs, Cut) ≡ fault = sym (too_few_near most 0 xs (omega (arith, near))) ∙ sym (header_fault_cut most xs at f wants.0) ∙ err_is _ fault is in
        inl ((sym (ap (λ (p : ℕ × CaptureFault). p.1) here), wants.1), near))
    | inr stays ↦
        (let here : (at, f) ≡ fault = sym (header_fault_other most xs at f stays.0) ∙ err_is _ fault is in
        inr (
          not_cut fault f (ap (λ (p : ℕ × CaptureFault). p.1) here) stays.0,
          λ more. (let part = counted_near most xs more near in
              ap (λ (l : List ℕ). header_as_counted most (xs ++ more) (header_of l)) part.1 ∙ ap (header_as_counted most (xs ++ more)) (stays.1 part.0)
              ∙ ap Err (header_fault_other most (xs ++ more) at f stays.0 ∙ here)),
        ))
  ]

  pub header_stays : header_within most xs ≡ Err fault → HeaderJudged
  header_stays is = elim (cases_lt most (length xs)) [
    | inl far ↦ far_so far (header_of (take (counted most 0 xs) xs)) refl is
    | inr near ↦ near_so near (header_of xs) refl (sym (ap (λ (l : List ℕ). header_as_counted most xs (header_of l)) (counted_all most xs near)) ∙ is)
  ]

  pub header_faulty : header_within most xs ≡ Err fault → capture_of most xs ≡ faulty fault
  header_faulty is = ap (after_header most xs) is

module _ (most : ℕ) (xs : List ℕ) (form : Form) where
  as_ok : (r : Result Form (ℕ × CaptureFault)) → header_as_counted most xs r ≡ Ok form → r ≡ Ok form
  as_ok (Ok f) is = is
  as_ok (Err fault) is = absurd (err_ok _ form is)

  -- where it is read it is there, and counts
  pub header_there : header_within most xs ≡ Ok form → (24 ≤ length xs) × (24 ≤ most)
  header_there is =
      let long = (takes (take (counted most 0 xs) xs) form (as_ok _ is)).long in
      (omega (arith, long, length-take (counted most 0 xs) xs), omega (arith, long, length-take (counted most 0 xs) xs))

  pub capture_begins : header_within most xs ≡ Ok form → length xs ≡ 24 → (more : List ℕ) → capture_of most (xs ++ more) ≡ records_in most form 24 more
  capture_begins is size more =
      let near : length xs ≤ most = (let there = header_there is in let b = there.1 in omega (arith, size, b)) in
      let part = counted_near most xs more near in
      let here : header_of xs ≡ Ok form = sym (ap header_of (counted_all most xs near)) ∙ as_ok _ is in
      let read : header_within most (xs ++ more) ≡ Ok form =
      ap (λ (l : List ℕ). header_as_counted most (xs ++ more) (header_of l)) part.1 ∙ ap (header_as_counted most (xs ++ more)) (header_front xs part.0 form here) in
      ap (after_header most (xs ++ more)) read
      ∙ ap (records_in most form 24) (ap (λ (n : ℕ). drop n (xs ++ more)) (sym size) ∙ drop-append_seam xs more)

-- ---- one record

abbrev said : Form → ℕ → ℕ → ℕ → Result Record CaptureFault
said form seconds fraction size = cond (ltb 262144 size) (Err Length) (Ok (record { millis = seconds * 1000 + fraction / fractions form.nano; length = size }))

record_front : (form : Form) (xs more : List ℕ) → 12 ≤ length xs → record_of form (xs ++ more) ≡ record_of form xs
record_front form xs more long =
    let a = u32_front form.big xs more 0 (omega (arith, long)) in
    let b = u32_front form.big xs more 4 (omega (arith, long)) in
    let c = u32_front form.big xs more 8 (omega (arith, long)) in
    λ i. said form (a i) (b i) (c i)

-- ---- how many octets a record has

pub length_front : (form : Form) (xs more : List ℕ) → 12 ≤ length xs → record_length form (xs ++ more) ≡ record_length form xs
length_front form xs more long =
    cond-false (ltb (length (xs ++ more)) 12) _ _ (le-ltb (length (xs ++ more)) 12 (omega (arith, long, length-append xs more)))
    ∙ ap length_by (record_front form xs more long)
    ∙ sym (cond-false (ltb (length xs) 12) 16 (length_by (record_of form xs)) (le-ltb (length xs) 12 long))

pub length_least : (form : Form) (xs : List ℕ) → 16 ≤ record_length form xs
length_least form xs = by_bit (ltb (length xs) 12) (record_of form xs)
  where
    by_answer : (r : Result Record CaptureFault) → 16 ≤ length_by r
    by_answer (Err f) = omega arith
    by_answer (Ok r) = omega arith

    by_bit : (b : Bool) (r : Result Record CaptureFault) → 16 ≤ cond b 16 (length_by r)
    by_bit true r = omega arith
    by_bit false r = by_answer r

-- ---- faults of records

too_long : (form : Form) (xs : List ℕ) (f : CaptureFault) → record_of form xs ≡ Err f → ¬ (f ≡ Cut)
too_long form xs f is same = elim (chosen (ltb 262144 (u32_by_order form.big xs 8)) _ _ (Err f) is) [
  | inl p ↦ (let length_is : Length ≡ f = fault_of p.1 in let both : Length ≡ Cut = length_is ∙ same in absurd (cut_length both))
  | inr p ↦ absurd (said_not p.1)
]
  where
    cut_length : Length ≡ Cut → ⊥
    cut_length e = cc

    fault_of : (let r : Result Record CaptureFault = Err Length in r ≡ Err f) → Length ≡ f
    fault_of e = cc

    said_not : {r : Record} → (let s : Result Record CaptureFault = Ok r in s ≡ Err f) → ⊥
    said_not e = cc

module _ (most : ℕ) (form : Form) (at : ℕ) (xs : List ℕ) where
  module _ (fault : ℕ × CaptureFault) where
    -- a record's fault comes of octets that are wanting at the end of all, or it stays
    abbrev pub RecordJudged : Type 0
    RecordJudged = (Wants fault xs (record_length form xs) × (at + length xs ≤ most)) ⊎ Stays (record_within most form at) fault xs

    short_so : too_few most at xs ≡ fault → (at + length xs ≤ most → length xs < record_length form xs)
        → (most < at + length xs → (more : List ℕ) → record_within most form at (xs ++ more) ≡ Err (too_few most at (xs ++ more))) → RecordJudged
    short_so is wanted still = elim (cases_lt most (at + length xs)) [
      | inl far ↦
          (let here : (most, Length) ≡ fault = sym (too_few_far most at xs far) ∙ is in
          inr (
            not_cut fault Length (ap (λ (p : ℕ × CaptureFault). p.1) here) (λ same. cc),
            λ more. still far more ∙ ap Err (too_few_far most at (xs ++ more) (omega (arith, far, length-append xs more)) ∙ here),
          ))
      | inr near ↦
          (let here : (at + length xs, Cut) ≡ fault = sym (too_few_near most at xs near) ∙ is in
          inl ((sym (ap (λ (p : ℕ × CaptureFault). p.1) here), wanted near), near))
    ]

    by_record : 12 ≤ counted most at xs → (r : Result Record CaptureFault) → record_of form xs ≡ r → whole_record most at xs r ≡ Err fault → RecordJudged
    by_record long (Err f) was is =
        let here : (at + 8, f) ≡ fault = err_is _ fault is in
        inr (
          not_cut fault f (ap (λ (p : ℕ × CaptureFault). p.1) here) (too_long form xs f was),
          λ more.
              cond-false (ltb (counted most at (xs ++ more)) 12) _ _ (le-ltb (counted most at (xs ++ more)) 12 (omega (arith, long, length-append xs more)))
              ∙ ap (whole_record most at (xs ++ more)) (record_front form xs more (omega (arith, long)) ∙ was) ∙ is,
        )
    by_record long (Ok r) was is = elim (chosen (ltb (counted most at xs) (16 + r.length)) _ _ (Err fault) is) [
      | inl p ↦
          (let less = ltb-true (counted most at xs) (16 + r.length) p.0 in
          short_so (err_is _ fault p.1)
          (λ near. subst (λ (n : ℕ). length xs < n) (sym (cond-false (ltb (length xs) 12) _ _ (le-ltb (length xs) 12 (omega (arith, long))) ∙ ap length_by was)) (omega (arith, less, near)))
          (λ far more.
          cond-false (ltb (counted most at (xs ++ more)) 12) _ _ (le-ltb (counted most at (xs ++ more)) 12 (omega (arith, long, length-append xs more)))
          ∙ ap (whole_record most at (xs ++ more)) (record_front form xs more (omega (arith, long)) ∙ was)
          ∙ cond-true (ltb (counted most at (xs ++ more)) (16 + r.length)) _ _ (lt-ltb (counted most at (xs ++ more)) (16 + r.length) (omega (arith, less, far, length-append xs more)))))
      | inr p ↦ absurd (ok_err r fault p.1)
    ]

    pub record_stays : record_within most form at xs ≡ Err fault → RecordJudged
    record_stays is = elim (chosen (ltb (counted most at xs) 12) _ _ (Err fault) is) [
      | inl p ↦
          (let less = ltb-true (counted most at xs) 12 p.0 in
          short_so (err_is _ fault p.1)
          (λ near. subst (λ (n : ℕ). length xs < n) (sym (cond-true (ltb (length xs) 12) 16 _ (lt-ltb (length xs) 12 (omega (arith, less, near))))) (omega (arith, less, near)))
          (λ far more. cond-true (ltb (counted most at (xs ++ more)) 12) _ _ (lt-ltb (counted most at (xs ++ more)) 12 (omega (arith, less, far, length-append xs more)))))
      | inr p ↦ by_record (ltb-false (counted most at xs) 12 p.0) (record_of form xs) refl p.1
    ]

    pub record_faulty : 0 < length xs → record_within most form at xs ≡ Err fault → records_in most form at xs ≡ faulty fault
    record_faulty some is = by_list xs some is
      where
        by_list : (ys : List ℕ) → 0 < length ys → record_within most form at ys ≡ Err fault → records_in most form at ys ≡ faulty fault
        by_list [] some is = absurd (omega (arith, some))
        by_list (y ∷ ys) some is = ap (after_record at (y ∷ ys) (records_from most form (length ys))) is

  module _ (r : Record) where
    whole_ok : (q : Result Record CaptureFault) → whole_record most at xs q ≡ Ok r → (q ≡ Ok r) × (16 + r.length ≤ counted most at xs)
    whole_ok (Err f) is = absurd (err_ok _ r is)
    whole_ok (Ok s) is = elim (chosen (ltb (counted most at xs) (16 + s.length)) _ _ (Ok r) is) [
      | inl p ↦ absurd (err_ok _ r p.1)
      | inr p ↦
          (let same : s ≡ r = (let both : (let t : Result Record (ℕ × CaptureFault) = Ok s in t ≡ Ok r) = p.1 in cc) in
          (ap Ok same, subst (λ (t : Record). 16 + t.length ≤ counted most at xs) same (ltb-false (counted most at xs) (16 + s.length) p.0)))
    ]

    record_read : record_within most form at xs ≡ Ok r → (record_of form xs ≡ Ok r) × (16 + r.length ≤ counted most at xs)
    record_read is = elim (chosen (ltb (counted most at xs) 12) _ _ (Ok r) is) [
      | inl p ↦ absurd (err_ok _ r p.1)
      | inr p ↦ whole_ok (record_of form xs) p.1
    ]

    -- where it is read it is there, and counts
    pub record_there : record_within most form at xs ≡ Ok r → (16 + r.length ≤ length xs) × (at + (16 + r.length) ≤ most) × (record_length form xs ≡ 16 + r.length)
    record_there is =
        let read = record_read is in
        let count = read.1 in (
          omega (arith, count),
          omega (arith, count),
          cond-false (ltb (length xs) 12) _ _ (le-ltb (length xs) 12 (omega (arith, count))) ∙ ap length_by read.0,
        )

    record_again : record_within most form at xs ≡ Ok r → (more : List ℕ) → record_within most form at (xs ++ more) ≡ Ok r
    record_again is more =
        let read = record_read is in
        let count = read.1 in
        cond-false (ltb (counted most at (xs ++ more)) 12) _ _ (le-ltb (counted most at (xs ++ more)) 12 (omega (arith, count, length-append xs more)))
        ∙ ap (whole_record most at (xs ++ more)) (record_front form xs more (omega (arith, count)) ∙ read.0)
        ∙ cond-false (ltb (counted most at (xs ++ more)) (16 + r.length)) _ _ (le-ltb (counted most at (xs ++ more)) (16 + r.length) (omega (arith, count, length-append xs more)))

-- ---- all records

module _ (most : ℕ) (form : Form) where
  -- more than enough is enough
  enough : (n m at : ℕ) (xs : List ℕ) → length xs ≤ n → length xs ≤ m → records_from most form n at xs ≡ records_from most form m at xs
  enough zero zero at [] a b = refl
  enough zero (suc m) at [] a b = refl
  enough (suc n) zero at [] a b = refl
  enough (suc n) (suc m) at [] a b = refl
  enough zero m at (x ∷ xs) a b = absurd (omega (arith, a))
  enough (suc n) zero at (x ∷ xs) a b = absurd (omega (arith, b))
  enough (suc n) (suc m) at (x ∷ xs) a b =
      by_answer (record_within most form at (x ∷ xs))
      (λ r. enough n m (at + (16 + r.length)) (drop (16 + r.length) (x ∷ xs)) (omega (arith, a, length-drop (16 + r.length) (x ∷ xs))) (omega (arith, b, length-drop (16 + r.length) (x ∷ xs))))
    where
      by_answer : (q : Result Record (ℕ × CaptureFault))
          → ((r : Record) → records_from most form n (at + (16 + r.length)) (drop (16 + r.length) (x ∷ xs)) ≡ records_from most form m (at + (16 + r.length)) (drop (16 + r.length) (x ∷ xs)))
          → after_record at (x ∷ xs) (records_from most form n) q ≡ after_record at (x ∷ xs) (records_from most form m) q
      by_answer (Err fault) later = refl
      by_answer (Ok r) later = ap (with_record (record { millis = r.millis; frame = take r.length (drop 16 (x ∷ xs)) })) (later r)

  pub next_record : (at : ℕ) (xs : List ℕ) (r : Record) → record_within most form at xs ≡ Ok r → length xs ≡ 16 + r.length → (more : List ℕ)
      → records_in most form at (xs ++ more) ≡ with_record (record { millis = r.millis; frame = drop 16 xs }) (records_in most form (at + length xs) more)
  next_record at [] r is size more = absurd (omega (arith, size))
  next_record at (x ∷ xs) r is size more =
      let whole : List ℕ = x ∷ xs in
      let frame : take r.length (drop 16 (whole ++ more)) ≡ drop 16 whole =
      ap (take r.length) (drop-append-le 16 whole more (omega (arith, size)))
      ∙ ap (λ (n : ℕ). take n (drop 16 whole ++ more)) (omega (arith, size, length-drop 16 whole)) ∙ take-append_seam (drop 16 whole) more in
      let rest : drop (16 + r.length) (whole ++ more) ≡ more = ap (λ (n : ℕ). drop n (whole ++ more)) (sym size) ∙ drop-append_seam whole more in
      ap (after_record at (whole ++ more) (records_from most form (length (xs ++ more)))) (record_again most form at whole r is more)
      ∙ (λ i. with_record (record { millis = r.millis; frame = frame i }) (records_from most form (length (xs ++ more)) (at + sym size i) (rest i)))
      ∙ ap (with_record (record { millis = r.millis; frame = drop 16 whole })) (enough (length (xs ++ more)) (length more) (at + length whole) more (omega (arith, length-append xs more)) (omega arith))
