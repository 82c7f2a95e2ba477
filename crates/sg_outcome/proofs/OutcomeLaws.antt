-- Each outcome has one line: what is spelled so is read, and what is read is spelled so.
use Rattle.std.proofs.Common.{◌≡◌, ℕ, ◌^◌, ◌<◌, ◌≤◌, true, false, ltb, List, [], ◌∷◌, ◌++◌, length, take, Option, Some, None, Result, Ok, Err, refl, sym, ap, subst, ◌∙◌, arith, inl, inr, append_assoc, lit<}
use Rattle.std.specs.Prelude.{codes, IfOk, not}
use Rattle.std.specs.List.{join_with_byte}
use Rattle.std.specs.Fmt.{decimal}
use Rattle.std.specs.Str.{bytes_eq}
use Rattle.std.proofs.lemmas.Bool.{eqb-true, le-ltb, ltb-false, not-false}
use Rattle.std.proofs.lemmas.Fmt.{decimal_is_IsNumeral_wide}
use Rattle.std.proofs.lemmas.List.Splits.{join_with_byte-slice_split}
use Rattle.sg_base.specs.declared.CallId.{CallId}
use Rattle.sg_base.specs.declared.ScriptFault.TheVariants as script
use Rattle.sg_base.specs.declared.DropCause.{DropCause}
use Rattle.sg_base.specs.declared.DropCause.TheVariants as drops
use Rattle.sg_base.specs.declared.PskFault.{PskFault}
use Rattle.sg_base.specs.declared.PskFault.TheVariants as psk
use Rattle.sg_base.specs.declared.Refusal.{Refusal}
use Rattle.sg_base.specs.declared.Refusal.TheVariants as refusals
use Rattle.sg_base.specs.Fields.{Lacks, address_text}
use Rattle.sg_base.proofs.FourNumbers.{decimal_lacks}
use Rattle.sg_base.proofs.Cases.{chosen, is_name}
use Rattle.sg_outcome.specs.declared.outcomes.Outcome.{Outcome}
use Rattle.sg_outcome.specs.declared.outcomes.Outcome.TheVariants.{Made, Live, Sdp, Refused, Ended, Out, Dropped, Unsent}
use Rattle.sg_lines.specs.declared.ReadLineFault.{ReadLineFault}
use Rattle.sg_lines.specs.Fields.{Gives, or_fault, call_from, port_from, address_from, hex_from}
use Rattle.sg_lines.specs.LineOf.{fields_of, body_of, is_ended}
use Rattle.sg_lines.specs.LineText.{hex_text}
use Rattle.sg_outcome.specs.OutcomeText.{drop_cause_name, drop_cause_numbers, psk_fault_text, refusal_text, call_text, outcome_line}
use Rattle.sg_outcome.specs.OutcomeFields.{drop_cause_fields, psk_fault_fields, refusal_fields, outcome_fields, FitsCall, FitsOutcome}
use Rattle.sg_outcome.specs.OutcomeOf.{side_at, why_at, byte_from, some_call_from, drop_cause_from, refusal_from, made_from, live_from, described_from, refused_from, ended_from, out_from, dropped_from, unsent_from, made_by, live_by, described_by, ended_by, out_by, unsent_by, outcome_by, outcome_from, outcome_of}
use Rattle.sg_lines.proofs.Dense.{IsDense, AreDense, dense_test, dense_decimal, dense_address, dense_hex}
use Rattle.sg_lines.proofs.FieldLaws
use Rattle.sg_lines.proofs.LineLaws.{cut_some, body_ends, is_ended_so, last_is}
use Rattle.sg_outcome.proofs.NameLaws
use Rattle.sg_outcome.proofs.CauseLaws.{byte_again, byte_takes, drop_cause_again, drop_cause_takes, dense_drop_cause, refusal_again, refusal_takes, dense_refusal, small_dense, two_same, three_same, four_same, five_same}

-- ---- an outcome's line is its fields, joined

some_psk_fault : (x : PskFault) → psk_fault_text x ≡ join_with_byte 32 (psk_fault_fields x)
some_psk_fault (psk.Skew stamp now) = simp append_assoc refl
some_psk_fault other = refl

psk_more : (x : PskFault) → (g : List ℕ) × (gs : List (List ℕ)) × (psk_fault_fields x ≡ g ∷ gs)
psk_more psk.IdUnknown = (_, _, refl)
psk_more other = (_, _, refl)

-- fields behind a first one
pub join_more : (f : List ℕ) (fs : List (List ℕ)) (g : List ℕ) (gs : List (List ℕ)) → fs ≡ g ∷ gs → join_with_byte 32 (f ∷ fs) ≡ f ++ 32 ∷ join_with_byte 32 fs
join_more f fs g gs e = rw e refl

refusal_joined : (x : Refusal) → refusal_text x ≡ join_with_byte 32 (refusal_fields x)
refusal_joined (refusals.Sdp line fault) = simp append_assoc refl
refusal_joined (refusals.Sdes medium fault) = simp append_assoc refl
refusal_joined (refusals.Mikey medium offset fault) = simp append_assoc refl
refusal_joined (refusals.Psk medium fault) =
    let more = psk_more fault in
    let inner : join_with_byte 32 (decimal medium ∷ psk_fault_fields fault) ≡ decimal medium ++ 32 ∷ join_with_byte 32 (psk_fault_fields fault) = join_more (decimal medium) (psk_fault_fields fault) more.0 more.1 more.2 in
    rw (some_psk_fault fault, inner) (ap (λ (l : List ℕ). 80 ∷ 115 ∷ 107 ∷ 32 ∷ l) (append_assoc (decimal medium) (32 ∷ []) (join_with_byte 32 (psk_fault_fields fault))))
refusal_joined (refusals.Cs medium fault) = simp append_assoc refl
refusal_joined other = refl

refusal_more : (x : Refusal) → (g : List ℕ) × (gs : List (List ℕ)) × (refusal_fields x ≡ g ∷ gs)
refusal_more (refusals.Sdp line fault) = (_, _, refl)
refusal_more other = (_, _, refl)

drop_joined : (x : DropCause) → drop_cause_name x ++ drop_cause_numbers x ≡ join_with_byte 32 (drop_cause_fields x)
drop_joined (drops.KeySpent number count) = simp append_assoc refl
drop_joined other = refl

drop_more : (x : DropCause) → (g : List ℕ) × (gs : List (List ℕ)) × (drop_cause_fields x ≡ g ∷ gs)
drop_more drops.Short = (_, _, refl)
drop_more other = (_, _, refl)

named : (p q a n x y : List ℕ) → n ++ x ≡ y → p ++ a ++ q ++ n ++ x ++ 10 ∷ [] ≡ p ++ (a ++ (q ++ (y ++ 10 ∷ [])))
named p q a n x y e = rw (← e) (simp append_assoc refl)

two_parts : (a b : List ℕ) → a ++ 32 ∷ [] ++ b ++ 10 ∷ [] ≡ a ++ 32 ∷ b ++ 10 ∷ []
two_parts a b = simp append_assoc refl

three_parts : (a b c : List ℕ) → a ++ 32 ∷ [] ++ b ++ 32 ∷ [] ++ c ++ 10 ∷ [] ≡ a ++ 32 ∷ (b ++ 32 ∷ c) ++ 10 ∷ []
three_parts a b c = simp append_assoc refl

pub outcome_joined : (o : Outcome) → outcome_line o ≡ join_with_byte 32 (outcome_fields o) ++ 10 ∷ []
unfolding outcome_line
outcome_joined (Refused call cause) =
    let more = refusal_more cause in
    let inner : join_with_byte 32 (call_text call ∷ refusal_fields cause) ≡ call_text call ++ 32 ∷ join_with_byte 32 (refusal_fields cause) = join_more (call_text call) (refusal_fields cause) more.0 more.1 more.2 in
    rw (refusal_joined cause, inner) (ap (λ (l : List ℕ). 114 ∷ 101 ∷ 102 ∷ 117 ∷ 115 ∷ 101 ∷ 100 ∷ 32 ∷ l ++ 10 ∷ []) (append_assoc (call_text call) (32 ∷ []) (join_with_byte 32 (refusal_fields cause))))
outcome_joined (Out port to octets) = ap (λ (l : List ℕ). 111 ∷ 117 ∷ 116 ∷ 32 ∷ l) (three_parts (decimal port) (address_text to) (hex_text octets))
outcome_joined (Dropped port cause) =
    let more = drop_more cause in
    let inner : join_with_byte 32 (decimal port ∷ drop_cause_fields cause) ≡ decimal port ++ 32 ∷ join_with_byte 32 (drop_cause_fields cause) = join_more (decimal port) (drop_cause_fields cause) more.0 more.1 more.2 in
    rw inner (named (codes "drop ") (codes " ") (decimal port) (drop_cause_name cause) (drop_cause_numbers cause) (join_with_byte 32 (drop_cause_fields cause)) (drop_joined cause) ∙ simp append_assoc refl)
outcome_joined (Unsent port to) = ap (λ (l : List ℕ). 117 ∷ 110 ∷ 115 ∷ 101 ∷ 110 ∷ 116 ∷ 32 ∷ l) (two_parts (decimal port) (address_text to))
outcome_joined other = simp append_assoc refl

-- ---- no field has a space or a line end

dense_call : (o : Option CallId) → FitsCall o → IsDense (call_text o)
dense_call None fits = dense_test (codes "-") refl
dense_call (Some call) fits = dense_decimal call.0 (omega (arith, fits))

pub dense_outcome : (o : Outcome) → FitsOutcome o → AreDense (outcome_fields o)
dense_outcome (Made call slot media) fits =
    let a = fits.0 in let b = fits.1 in let c = fits.2 in
    (dense_test (codes "made") refl, (small_dense call.0 (omega (arith, a)), (small_dense slot (omega (arith, b)), (small_dense media (omega (arith, c)), tt))))
dense_outcome (Live call) fits = (dense_test (codes "live") refl, (small_dense call.0 (omega (arith, fits)), tt))
dense_outcome (Sdp call side text) fits =
    let a = fits.0 in (dense_test (codes "sdp") refl, (small_dense call.0 (omega (arith, a)), (NameLaws.dense_side side, (dense_hex text fits.1, tt))))
dense_outcome (Refused call cause) fits = (dense_test (codes "refused") refl, (dense_call call fits.0, dense_refusal cause fits.1))
dense_outcome (Ended call slot media why) fits =
    let a = fits.0 in let b = fits.1 in let c = fits.2 in
    (dense_test (codes "ended") refl, (small_dense call.0 (omega (arith, a)), (small_dense slot (omega (arith, b)), (small_dense media (omega (arith, c)), (NameLaws.dense_why why, tt)))))
dense_outcome (Out port to octets) fits =
    let a = fits.0 in (dense_test (codes "out") refl, (small_dense port (omega (arith, a)), (dense_address to fits.1, (dense_hex octets fits.2, tt))))
dense_outcome (Dropped port cause) fits =
    let a = fits.0 in (dense_test (codes "drop") refl, (small_dense port (omega (arith, a)), dense_drop_cause cause fits.1))
dense_outcome (Unsent port to) fits =
    let a = fits.0 in (dense_test (codes "unsent") refl, (small_dense port (omega (arith, a)), (dense_address to fits.1, tt)))

-- ---- what is spelled so is read

not_hyphen : (n : ℕ) (t : List ℕ) → t ≡ decimal n → n < 2 ^ 32 → bytes_eq t (codes "-") ≡ false
not_hyphen n [] e fits =
    let some : 0 < length (decimal n) = (decimal_is_IsNumeral_wide n (omega (arith, fits))).0.0 in
    let none : length (decimal n) ≡ 0 = sym (ap length e) in
    absurd (omega (arith, some, none))
not_hyphen n (x ∷ xs) e fits =
    let lacks : Lacks 45 (x ∷ xs) = subst (Lacks 45) (sym e) (decimal_lacks 45 n (omega (arith, fits)) (inl (omega arith))) in
    rw lacks.0 refl

some_call_again : (o : Option CallId) → FitsCall o → some_call_from (call_text o) ≡ Ok o
unfolding some_call_from
some_call_again None fits = refl
some_call_again (Some call) fits = rw (not_hyphen call.0 (decimal call.0) refl fits, FieldLaws.call_again call fits) refl

outcome_in_again : (o : Outcome) → FitsOutcome o → outcome_from (outcome_fields o) ≡ Ok o
unfolding outcome_by made_from live_from described_from refused_from ended_from out_from dropped_from unsent_from
outcome_in_again (Made call slot media) fits = rw (FieldLaws.call_again call fits.0, byte_again slot fits.1, byte_again media fits.2) refl
outcome_in_again (Live call) fits = rw (FieldLaws.call_again call fits) refl
outcome_in_again (Sdp call side text) fits = rw (FieldLaws.call_again call fits.0, NameLaws.side_again side, FieldLaws.hex_again text fits.1) refl
outcome_in_again (Refused call cause) fits = rw (some_call_again call fits.0, refusal_again cause fits.1) refl
outcome_in_again (Ended call slot media why) fits = rw (FieldLaws.call_again call fits.0, byte_again slot fits.1, byte_again media fits.2, NameLaws.why_again why) refl
outcome_in_again (Out port to octets) fits = rw (FieldLaws.number_in_again 65535 port fits.0 (lit< tt), FieldLaws.address_in_again to fits.1, FieldLaws.hex_again octets fits.2) refl
outcome_in_again (Dropped port cause) fits = rw (FieldLaws.number_in_again 65535 port fits.0 (lit< tt), drop_cause_again cause fits.1) refl
outcome_in_again (Unsent port to) fits = rw (FieldLaws.number_in_again 65535 port fits.0 (lit< tt), FieldLaws.address_in_again to fits.1) refl

some_fields : (o : Outcome) → (f : List ℕ) × (fs : List (List ℕ)) × (outcome_fields o ≡ f ∷ fs)
some_fields (Made call slot media) = (_, _, refl)
some_fields other = (_, _, refl)

read_again : (o : Outcome) (t : List ℕ) → FitsOutcome o → length t ≤ 70000 → t ≡ join_with_byte 32 (outcome_fields o) ++ 10 ∷ [] → outcome_of t ≡ Ok o
unfolding outcome_of
read_again o t fits short e =
    let s = some_fields o in
    let body = join_with_byte 32 (outcome_fields o) in
    let end : is_ended t ≡ true = ap is_ended e ∙ is_ended_so body in
    let prefix : body_of t ≡ body = ap body_of e ∙ body_ends body in
    let cut : fields_of body ≡ outcome_fields o = cut_some (outcome_fields o) s.0 s.1 s.2 (dense_outcome o fits) in
    rw (le-ltb 70000 (length t) short, end, prefix, cut) (outcome_in_again o fits)

pub outcome_again : (o : Outcome) → FitsOutcome o → length (outcome_line o) ≤ 70000 → outcome_of (outcome_line o) ≡ Ok o
outcome_again o fits short = read_again o (outcome_line o) fits short (outcome_joined o)

-- ---- what is read is spelled so

unfoldable Reads : List (List ℕ) → Outcome → Type 0
Reads fs o = (fs ≡ outcome_fields o) × FitsOutcome o

more_same : (a b a' b' : List ℕ) (fs fs' : List (List ℕ)) → a ≡ a' → b ≡ b' → fs ≡ fs' → a ∷ b ∷ fs ≡ a' ∷ b' ∷ fs'
more_same a b a' b' fs fs' p q r = rw (p, q, r) refl

some_call_takes : (t : List ℕ) (o : Option CallId) → some_call_from t ≡ Ok o → (t ≡ call_text o) × FitsCall o
unfolding some_call_from
some_call_takes t o e =
    elim (chosen (bytes_eq t (codes "-")) _ _ (Ok o) e) [
      | inl p ↦
          let none : None ≡ o = FieldLaws.ok_is None o p.1 in
          subst (λ (x : Option CallId). (t ≡ call_text x) × FitsCall x) none (is_name t (codes "-") p.0, tt)
      | inr p ↦
          let c = FieldLaws.bind_ok (call_from t) (λ call. Ok (Some call)) o p.1 in
          let s = FieldLaws.call_takes t c.0 c.1 in
          subst (λ (x : Option CallId). (t ≡ call_text x) × FitsCall x) (FieldLaws.ok_is (Some c.0) o c.2) s
    ]

made_takes : (w a b c : List ℕ) (o : Outcome) → w ≡ codes "made" → made_from a b c ≡ Ok o → Reads (w ∷ a ∷ b ∷ c ∷ []) o
unfolding made_from Reads
made_takes w a b c o word e =
    let x = FieldLaws.bind_ok (call_from a) _ o e in
    let y = FieldLaws.bind_ok (byte_from b) _ o x.2 in
    let z = FieldLaws.bind_ok (byte_from c) _ o y.2 in
    let p = FieldLaws.call_takes a x.0 x.1 in
    let q = byte_takes b y.0 y.1 in
    let r = byte_takes c z.0 z.1 in
    subst (Reads (w ∷ a ∷ b ∷ c ∷ [])) (FieldLaws.ok_is (Made x.0 y.0 z.0) o z.2) (four_same w a b c _ _ _ _ word p.0 q.0 r.0, (p.1, q.1, r.1))

live_takes : (w a : List ℕ) (o : Outcome) → w ≡ codes "live" → live_from a ≡ Ok o → Reads (w ∷ a ∷ []) o
unfolding live_from Reads
live_takes w a o word e =
    let x = FieldLaws.bind_ok (call_from a) _ o e in
    let p = FieldLaws.call_takes a x.0 x.1 in
    subst (Reads (w ∷ a ∷ [])) (FieldLaws.ok_is (Live x.0) o x.2) (two_same w a _ _ word p.0, p.1)

described_takes : (w a b c : List ℕ) (o : Outcome) → w ≡ codes "sdp" → described_from a b c ≡ Ok o → Reads (w ∷ a ∷ b ∷ c ∷ []) o
unfolding described_from Reads
described_takes w a b c o word e =
    let x = FieldLaws.bind_ok (call_from a) _ o e in
    let y = FieldLaws.bind_ok (or_fault script.Word (side_at b)) _ o x.2 in
    let z = FieldLaws.bind_ok (hex_from c) _ o y.2 in
    let p = FieldLaws.call_takes a x.0 x.1 in
    let q = NameLaws.side_takes b y.0 (FieldLaws.or_fault_ok script.Word (side_at b) y.0 y.1) in
    let r = FieldLaws.hex_takes c z.0 z.1 in
    subst (Reads (w ∷ a ∷ b ∷ c ∷ [])) (FieldLaws.ok_is (Sdp x.0 y.0 z.0) o z.2) (four_same w a b c _ _ _ _ word p.0 q r.0, (p.1, r.1))

refused_takes : (w a : List ℕ) (fs : List (List ℕ)) (o : Outcome) → w ≡ codes "refused" → refused_from a fs ≡ Ok o → Reads (w ∷ a ∷ fs) o
unfolding refused_from Reads
refused_takes w a fs o word e =
    let x = FieldLaws.bind_ok (some_call_from a) _ o e in
    let y = FieldLaws.bind_ok (refusal_from fs) _ o x.2 in
    let p = some_call_takes a x.0 x.1 in
    let q = refusal_takes fs y.0 y.1 in
    subst (Reads (w ∷ a ∷ fs)) (FieldLaws.ok_is (Refused x.0 y.0) o y.2) (more_same w a _ _ fs _ word p.0 q.0, (p.1, q.1))

ended_takes : (w a b c d : List ℕ) (o : Outcome) → w ≡ codes "ended" → ended_from a b c d ≡ Ok o → Reads (w ∷ a ∷ b ∷ c ∷ d ∷ []) o
unfolding ended_from Reads
ended_takes w a b c d o word e =
    let x = FieldLaws.bind_ok (call_from a) _ o e in
    let y = FieldLaws.bind_ok (byte_from b) _ o x.2 in
    let z = FieldLaws.bind_ok (byte_from c) _ o y.2 in
    let v = FieldLaws.bind_ok (or_fault script.Word (why_at d)) _ o z.2 in
    let p = FieldLaws.call_takes a x.0 x.1 in
    let q = byte_takes b y.0 y.1 in
    let r = byte_takes c z.0 z.1 in
    let s = NameLaws.why_takes d v.0 (FieldLaws.or_fault_ok script.Word (why_at d) v.0 v.1) in
    subst (Reads (w ∷ a ∷ b ∷ c ∷ d ∷ [])) (FieldLaws.ok_is (Ended x.0 y.0 z.0 v.0) o v.2) (five_same w a b c d _ _ _ _ _ word p.0 q.0 r.0 s, (p.1, q.1, r.1))

out_takes : (w a b c : List ℕ) (o : Outcome) → w ≡ codes "out" → out_from a b c ≡ Ok o → Reads (w ∷ a ∷ b ∷ c ∷ []) o
unfolding out_from Reads
out_takes w a b c o word e =
    let x = FieldLaws.bind_ok (port_from a) _ o e in
    let y = FieldLaws.bind_ok (address_from b) _ o x.2 in
    let z = FieldLaws.bind_ok (hex_from c) _ o y.2 in
    let p = FieldLaws.number_in_takes 65535 a x.0 x.1 in
    let q = FieldLaws.address_in_takes b y.0 y.1 in
    let r = FieldLaws.hex_takes c z.0 z.1 in
    subst (Reads (w ∷ a ∷ b ∷ c ∷ [])) (FieldLaws.ok_is (Out x.0 y.0 z.0) o z.2) (four_same w a b c _ _ _ _ word p.0 q.0 r.0, (p.1, q.1, r.1))

dropped_takes : (w a : List ℕ) (fs : List (List ℕ)) (o : Outcome) → w ≡ codes "drop" → dropped_from a fs ≡ Ok o → Reads (w ∷ a ∷ fs) o
unfolding dropped_from Reads
dropped_takes w a fs o word e =
    let x = FieldLaws.bind_ok (port_from a) _ o e in
    let y = FieldLaws.bind_ok (drop_cause_from fs) _ o x.2 in
    let p = FieldLaws.number_in_takes 65535 a x.0 x.1 in
    let q = drop_cause_takes fs y.0 y.1 in
    subst (Reads (w ∷ a ∷ fs)) (FieldLaws.ok_is (Dropped x.0 y.0) o y.2) (more_same w a _ _ fs _ word p.0 q.0, (p.1, q.1))

unsent_takes : (w a b : List ℕ) (o : Outcome) → w ≡ codes "unsent" → unsent_from a b ≡ Ok o → Reads (w ∷ a ∷ b ∷ []) o
unfolding unsent_from Reads
unsent_takes w a b o word e =
    let x = FieldLaws.bind_ok (port_from a) _ o e in
    let y = FieldLaws.bind_ok (address_from b) _ o x.2 in
    let p = FieldLaws.number_in_takes 65535 a x.0 x.1 in
    let q = FieldLaws.address_in_takes b y.0 y.1 in
    subst (Reads (w ∷ a ∷ b ∷ [])) (FieldLaws.ok_is (Unsent x.0 y.0) o y.2) (three_same w a b _ _ _ word p.0 q.0, (p.1, q.1))

made_more : (w a : List ℕ) (fs : List (List ℕ)) (o : Outcome) → w ≡ codes "made" → made_by a fs ≡ Ok o → Reads (w ∷ a ∷ fs) o
made_more w a (b ∷ c ∷ []) o word e = made_takes w a b c o word e
made_more w a fs o word e = absurd (FieldLaws.err_ok script.Word o e)

live_more : (w a : List ℕ) (fs : List (List ℕ)) (o : Outcome) → w ≡ codes "live" → live_by a fs ≡ Ok o → Reads (w ∷ a ∷ fs) o
live_more w a [] o word e = live_takes w a o word e
live_more w a (b ∷ fs) o word e = absurd (FieldLaws.err_ok script.Word o e)

described_more : (w a : List ℕ) (fs : List (List ℕ)) (o : Outcome) → w ≡ codes "sdp" → described_by a fs ≡ Ok o → Reads (w ∷ a ∷ fs) o
described_more w a (b ∷ c ∷ []) o word e = described_takes w a b c o word e
described_more w a fs o word e = absurd (FieldLaws.err_ok script.Word o e)

ended_more : (w a : List ℕ) (fs : List (List ℕ)) (o : Outcome) → w ≡ codes "ended" → ended_by a fs ≡ Ok o → Reads (w ∷ a ∷ fs) o
ended_more w a (b ∷ c ∷ d ∷ []) o word e = ended_takes w a b c d o word e
ended_more w a fs o word e = absurd (FieldLaws.err_ok script.Word o e)

out_more : (w a : List ℕ) (fs : List (List ℕ)) (o : Outcome) → w ≡ codes "out" → out_by a fs ≡ Ok o → Reads (w ∷ a ∷ fs) o
out_more w a (b ∷ c ∷ []) o word e = out_takes w a b c o word e
out_more w a fs o word e = absurd (FieldLaws.err_ok script.Word o e)

unsent_more : (w a : List ℕ) (fs : List (List ℕ)) (o : Outcome) → w ≡ codes "unsent" → unsent_by a fs ≡ Ok o → Reads (w ∷ a ∷ fs) o
unsent_more w a (b ∷ []) o word e = unsent_takes w a b o word e
unsent_more w a fs o word e = absurd (FieldLaws.err_ok script.Word o e)

by_word : (w a : List ℕ) (fs : List (List ℕ)) (o : Outcome) → outcome_by w a fs ≡ Ok o → Reads (w ∷ a ∷ fs) o
unfolding outcome_by
by_word w a fs o e =
    elim (chosen (bytes_eq w (codes "made")) _ _ (Ok o) e) [
      | inl p ↦ made_more w a fs o (is_name w _ p.0) p.1
      | inr p1 ↦ elim (chosen (bytes_eq w (codes "live")) _ _ (Ok o) p1.1) [
        | inl p ↦ live_more w a fs o (is_name w _ p.0) p.1
        | inr p2 ↦ elim (chosen (bytes_eq w (codes "sdp")) _ _ (Ok o) p2.1) [
          | inl p ↦ described_more w a fs o (is_name w _ p.0) p.1
          | inr p3 ↦ elim (chosen (bytes_eq w (codes "refused")) _ _ (Ok o) p3.1) [
            | inl p ↦ refused_takes w a fs o (is_name w _ p.0) p.1
            | inr p4 ↦ elim (chosen (bytes_eq w (codes "ended")) _ _ (Ok o) p4.1) [
              | inl p ↦ ended_more w a fs o (is_name w _ p.0) p.1
              | inr p5 ↦ elim (chosen (bytes_eq w (codes "out")) _ _ (Ok o) p5.1) [
                | inl p ↦ out_more w a fs o (is_name w _ p.0) p.1
                | inr p6 ↦ elim (chosen (bytes_eq w (codes "drop")) _ _ (Ok o) p6.1) [
                  | inl p ↦ dropped_takes w a fs o (is_name w _ p.0) p.1
                  | inr p7 ↦ elim (chosen (bytes_eq w (codes "unsent")) _ _ (Ok o) p7.1) [
                    | inl p ↦ unsent_more w a fs o (is_name w _ p.0) p.1
                    | inr p8 ↦ absurd (FieldLaws.err_ok script.Word o p8.1)
                  ]
                ]
              ]
            ]
          ]
        ]
      ]
    ]

outcome_in_takes : (fs : List (List ℕ)) (o : Outcome) → outcome_from fs ≡ Ok o → Reads fs o
outcome_in_takes (w ∷ a ∷ fs) o e = by_word w a fs o e
outcome_in_takes fs o e = absurd (FieldLaws.err_ok script.Word o e)

pub outcome_takes : (t : List ℕ) (o : Outcome) → outcome_of t ≡ Ok o → (t ≡ outcome_line o) × FitsOutcome o × (length t ≤ 70000)
unfolding outcome_of Reads
outcome_takes t o e =
    let body = body_of t in
    elim (chosen (ltb 70000 (length t)) _ _ (Ok o) e) [
      | inl p ↦ absurd (FieldLaws.err_ok script.Length o p.1)
      | inr p ↦
          elim (chosen (not (is_ended t)) _ _ (Ok o) p.1) [
            | inl q ↦ absurd (FieldLaws.err_ok script.Unended o q.1)
            | inr q ↦
                let whole : t ≡ body ++ 10 ∷ [] = last_is t (eqb-true _ _ (not-false _ q.0)) in
                let f = outcome_in_takes (fields_of body) o q.1 in
                let back : body ≡ join_with_byte 32 (outcome_fields o) = sym (join_with_byte-slice_split 32 body) ∙ ap (join_with_byte 32) f.0 in
                (whole ∙ ap (λ (b : List ℕ). b ++ 10 ∷ []) back ∙ sym (outcome_joined o), f.1, ltb-false _ _ p.0)
          ]
    ]

pub is_found : (t : List ℕ) (r : Result Outcome ReadLineFault) → Gives r (outcome_of t) → IfOk r (λ o. FitsOutcome o × (t ≡ outcome_line o))
is_found t (Ok o) given = let p = outcome_takes t o given in (p.1, p.0)
is_found t (Err e) given = tt

-- behind eight fields nothing is told apart
pub first_nine : (fs : List (List ℕ)) → outcome_from (take 9 fs) ≡ outcome_from fs
unfolding outcome_by refused_from dropped_from
first_nine (w ∷ a ∷ b ∷ c ∷ d ∷ e ∷ f ∷ g ∷ h ∷ rest) = refl
first_nine fs = refl
