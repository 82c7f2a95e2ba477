-- What is read of a text is spelled by it.
use Rattle.std.proofs.Common.{◌≡◌, ℕ, zero, suc, ◌+◌, ◌-◌, ◌<◌, ◌≤◌, Bool, true, false, eqb, ltb, leb, List, [], ◌∷◌, ◌++◌, length, take, drop, map, Option, Some, None, Ok, refl, sym, ap, subst, ◌∙◌, arith, inl, inr, append_assoc}
use Rattle.std.specs.Prelude.{◌&&◌, ◌⊎◌, not, is_none, nat_le, codes, decimal, slice_index}
use Rattle.std.specs.List.{list_all, flat_map, slice_split, join_with_byte, AllByRecursion}
use Rattle.std.proofs.lemmas.Bool.{cases_eq, eqb-true, eqb-false, eq-eqb, ne_eqb, ltb-false, leb-false, and_parts, not-false}
use Rattle.std.proofs.lemmas.List.{length-append, append-nil, length-map, length-take, nil_from_length}
use Rattle.std.proofs.lemmas.List.Splits.{length-slice_split, join_with_byte-slice_split}
use Rattle.std.proofs.lemmas.Grind.{flat_map-append}
use Rattle.sg_base.specs.declared.SdpFault.{SdpFault}
use Rattle.sg_base.specs.declared.SdpFault.TheVariants.{Order, Form, TooLong, TooManyMedia, Address}
use Rattle.sg_base.proofs.Cases.{chosen}
use Rattle.sg_sdp.specs.declared.medium.Medium.{Medium}
use Rattle.sg_sdp.specs.declared.sdp.Sdp.{Sdp}
use Rattle.sg_sdp.specs.Descriptions.{IsKept, IsMedium, IsShort, Spells, all_lines, medium_line, medium_lines}
use Rattle.sg_sdp.specs.LineForm.{HeadParts, connection_of, has_form, head_of, is_inner, is_letter, without_cr}
use Rattle.sg_sdp.specs.Parts.{with_last_line, with_line_at, with_medium}
use Rattle.sg_sdp.specs.Faults.{Fault, is_in_order, last_part}
use Rattle.sg_sdp.specs.Reading.{at_line, end_of, form_of, lines_of, none_yet, opened, placed, some_head, step, steps}
use Rattle.sg_sdp.proofs.Cases.{all_append, at_line_ok, bind_ok, err_ok, guard_false, none_some, ok_is}
use Rattle.sg_sdp.proofs.Prefixes.{InOrder}
use Rattle.sg_sdp.proofs.HeadLaws.{FitsHead, head_takes, head_text, inner_end}

-- ---- the lines of what was read

flat-append : (ms : List Medium) (m : Medium) → flat_map medium_lines (ms ++ m ∷ []) ≡ flat_map medium_lines ms ++ medium_lines m
flat-append ms m = flat_map-append medium_lines ms (m ∷ []) ∙ ap (λ (l : List (List ℕ)). flat_map medium_lines ms ++ l) (append-nil (medium_lines m))

flat-last : (ms : List Medium) (i : ℕ) (l : List ℕ) → i + 1 ≡ length ms → flat_map medium_lines (with_line_at i l ms) ≡ flat_map medium_lines ms ++ l ∷ []
unfolding with_line_at
flat-last [] i l last = absurd (omega arith)
flat-last (m ∷ []) zero l last = ap (λ (t : List (List ℕ)). medium_line m ∷ t) (append-nil (m.lines ++ l ∷ []) ∙ ap (λ (x : List (List ℕ)). x ++ l ∷ []) (sym (append-nil m.lines)))
flat-last (m ∷ []) (suc i) l last = absurd (omega arith)
flat-last (m ∷ n ∷ ms) zero l last = absurd (omega arith)
flat-last (m ∷ n ∷ ms) (suc i) l last =
    ap (λ (t : List (List ℕ)). medium_line m ∷ (m.lines ++ t)) (flat-last (n ∷ ms) i l (omega arith)) ∙ ap (λ (t : List (List ℕ)). medium_line m ∷ t) (sym (append_assoc m.lines (flat_map medium_lines (n ∷ ms)) (l ∷ [])))

more_so : (session : List (List ℕ)) (ms : List Medium) (l : List ℕ) → all_lines (with_last_line l (record { session = session; media = ms })) ≡ (session ++ flat_map medium_lines ms) ++ l ∷ []
unfolding with_last_line
more_so session [] l = append-nil (session ++ l ∷ []) ∙ ap (λ (x : List (List ℕ)). x ++ l ∷ []) (sym (append-nil session))
more_so session (m ∷ ms) l =
    rw (ne_eqb (length (m ∷ ms)) 0 (λ e. omega arith)) (ap (λ (t : List (List ℕ)). session ++ t) (flat-last (m ∷ ms) (length (m ∷ ms) - 1) l (omega arith)) ∙ sym (append_assoc session (flat_map medium_lines (m ∷ ms)) (l ∷ [])))

lines_opened : (s : Sdp) (m : Medium) → m.lines ≡ [] → all_lines (with_medium m s) ≡ all_lines s ++ medium_line m ∷ []
lines_opened s m none =
    ap (λ (t : List (List ℕ)). s.session ++ t) (flat-append s.media m ∙ ap (λ (x : List (List ℕ)). flat_map medium_lines s.media ++ medium_line m ∷ x) none)
    ∙ sym (append_assoc s.session (flat_map medium_lines s.media) (medium_line m ∷ []))

-- what is true of a description so far
pub record Good (s : Sdp) : Type 0 where
  pub session : AllByRecursion IsKept s.session
  pub media : AllByRecursion IsMedium s.media
  pub few : length s.media ≤ 4

pub with_line : (m : Medium) (l : List ℕ) → IsKept l → IsMedium m → IsMedium (record m { lines = m.lines ++ l ∷ [] })
with_line m l kept is =
    record { word = is.word; port = is.port; proto = is.proto; profile = is.profile; formats = is.formats; inner = is.inner; lines = all_append IsKept m.lines (l ∷ []) is.lines (kept, tt) }

pub line_kept : (ms : List Medium) (i : ℕ) (l : List ℕ) → IsKept l → AllByRecursion IsMedium ms → AllByRecursion IsMedium (with_line_at i l ms)
unfolding with_line_at
line_kept [] i l kept all = tt
line_kept (m ∷ ms) zero l kept all = (with_line m l kept all.0, all.1)
line_kept (m ∷ ms) (suc i) l kept all = (all.0, line_kept ms i l kept all.1)

pub length-with_line_at : (ms : List Medium) (i : ℕ) (l : List ℕ) → length (with_line_at i l ms) ≡ length ms
unfolding with_line_at
length-with_line_at [] i l = refl
length-with_line_at (m ∷ ms) zero l = refl
length-with_line_at (m ∷ ms) (suc i) l = ap suc (length-with_line_at ms i l)

kept_so : (session : List (List ℕ)) (ms : List Medium) (l : List ℕ) → IsKept l → AllByRecursion IsKept session → AllByRecursion IsMedium ms → length ms ≤ 4 → Good (with_last_line l (record { session = session; media = ms }))
unfolding with_last_line
kept_so session [] l kept a b c = record { session = all_append IsKept session (l ∷ []) a (kept, tt); media = b; few = c }
kept_so session (m ∷ ms) l kept a b c =
    rw (ne_eqb (length (m ∷ ms)) 0 (λ e. omega arith))
    (record { session = a; media = line_kept (m ∷ ms) (length (m ∷ ms) - 1) l kept b; few = omega (arith, length-with_line_at (m ∷ ms) (length (m ∷ ms) - 1) l) })

add_opened : (s : Sdp) (m : Medium) → IsMedium m → length s.media < 4 → Good s → Good (with_medium m s)
add_opened s m is room good = record { session = good.session; media = all_append IsMedium s.media (m ∷ []) good.media (is, tt); few = omega (arith, length-append s.media (m ∷ [])) }

-- ---- one line

-- what a form says of the line
abbrev pub HeadIs : List ℕ → Option HeadParts → Type 0
HeadIs l None = is_letter 109 l ≡ false
HeadIs l (Some p) = (l ≡ codes "m=" ++ head_text p) × FitsHead p

begins : (l : List ℕ) → has_form l ≡ true → is_letter 109 l ≡ true → l ≡ 109 ∷ 61 ∷ drop 2 l
unfolding has_form
begins [] form letter = absurd cc
begins (a ∷ []) form letter = absurd cc
begins (a ∷ b ∷ rest) form letter =
    let p = and_parts (nat_le 97 a && nat_le a 122 && (eqb b 61)) (list_all is_inner rest) form in
    let q = and_parts (nat_le 97 a && nat_le a 122) (eqb b 61) p.0 in
    let x : a ≡ 109 = eqb-true a 109 letter in
    let y : b ≡ 61 = eqb-true b 61 q.1 in
    rw (x, y) refl

head_case : (l : List ℕ) (o : Option HeadParts) (h : Option HeadParts) → has_form l ≡ true → is_letter 109 l ≡ true → head_of (drop 2 l) ≡ o → some_head o ≡ Ok h → HeadIs l h
head_case l None h form letter was e = absurd cc
head_case l (Some p) h form letter was e =
    let t = head_takes (drop 2 l) p was in
    let same : Some p ≡ h = ok_is {E = SdpFault} (Some p) h e in
    subst (HeadIs l) same (begins l form letter ∙ ap (λ (x : List ℕ). 109 ∷ 61 ∷ x) t.0, t.1)

-- a line of the form, of at most so many octets
pub record IsLine (most : ℕ) (l : List ℕ) : Type 0 where
  pub form : has_form l ≡ true
  pub short : length l ≤ most

pub form_takes : (most : ℕ) (l : List ℕ) (h : Option HeadParts) → form_of most l ≡ Ok h → IsLine most l × HeadIs l h
unfolding form_of
form_takes most l h e =
    elim (chosen (ltb most (length l)) _ _ (Ok h) e) [
      | inl p ↦ absurd (err_ok TooLong h p.1)
      | inr p ↦
          elim (chosen (not (has_form l)) _ _ (Ok h) p.1) [
            | inl q ↦ absurd (err_ok Form h q.1)
            | inr q ↦
                let form : has_form l ≡ true = not-false (has_form l) q.0 in
                let line : IsLine most l = record { form = form; short = ltb-false _ _ p.0 } in
                elim (chosen (is_letter 109 l) _ _ (Ok h) q.1) [
                  | inl r ↦ (line, head_case l (head_of (drop 2 l)) h form r.0 refl r.1)
                  | inr r ↦ let same : None ≡ h = ok_is {E = SdpFault} None h r.1 in (line, subst (HeadIs l) same r.0)
                ]
          ]
    ]

-- what a step keeps
record Steps (most n : ℕ) (s t : Sdp) (l : List ℕ) : Type 0 where
  lines : all_lines t ≡ all_lines s ++ l ∷ []
  order : is_in_order n l ≡ true
  pub short : length l ≤ most
  good : Good t

address_of : (a b : Bool) → (a && b) ≡ false → a ≡ true → b ≡ false
address_of true b e h = e
address_of false b e h = absurd cc

below_four : (n : ℕ) → n ≤ 4 → eqb n 4 ≡ false → n < 4
below_four n few e = let other = eqb-false n 4 e in grind (arith, other)

-- the formats of a line are octets that end no line
formats_inner : (h : HeadParts) → has_form (codes "m=" ++ head_text h) ≡ true → list_all is_inner h.formats ≡ true
unfolding has_form
formats_inner h form =
    inner_end h.proto h.formats (inner_end (decimal h.port) (h.proto ++ 32 ∷ h.formats) (inner_end h.word (decimal h.port ++ 32 ∷ (h.proto ++ 32 ∷ h.formats)) form))

place_takes : (most n : ℕ) (s t : Sdp) (l : List ℕ) (h : Option HeadParts) → IsLine most l → HeadIs l h → is_in_order n l ≡ true → Good s → placed s l h ≡ Ok t → Steps most n s t l
unfolding placed opened
place_takes most n s t l None line head order good e =
    let g = guard_false (is_letter 99 l && is_none (connection_of (drop 2 l))) Address (with_last_line l s) t e in
    let kept : IsKept l = record { form = line.form; no_medium = head; address = λ h. none_some (connection_of (drop 2 l)) (address_of (is_letter 99 l) _ g.0 h) } in
    subst (λ (x : Sdp). Steps most n s x l) g.1 (record { lines = more_so s.session s.media l; order = order; short = line.short; good = kept_so s.session s.media l kept good.session good.media good.few })
place_takes most n s t l (Some p) line head order good e =
    let g = guard_false (eqb (length s.media) 4) TooManyMedia (with_medium (opened p) s) t e in
    let m = opened p in
    let room : length s.media < 4 = below_four (length s.media) good.few g.0 in
    let form : has_form (codes "m=" ++ head_text p) ≡ true = subst (λ (x : List ℕ). has_form x ≡ true) head.0 line.form in
    let is : IsMedium m = record { word = head.1.word; port = head.1.port; proto = head.1.proto; profile = refl; formats = head.1.formats; inner = formats_inner p form; lines = tt } in
    subst (λ (x : Sdp). Steps most n s x l) g.1 (record { lines = lines_opened s m refl ∙ ap (λ (x : List ℕ). all_lines s ++ x ∷ []) (sym head.0); order = order; short = line.short; good = add_opened s m is room good })

step_takes : (most n : ℕ) (s t : Sdp) (l : List ℕ) → Good s → step most n s l ≡ Ok t → Steps most n s t l
unfolding step
step_takes most n s t l good e =
    let h = bind_ok (form_of most l) _ t e in
    let f = form_takes most l h.0 h.1 in
    elim (chosen (is_in_order n l) _ _ (Ok t) h.2) [
      | inl p ↦ place_takes most n s t l h.0 f.0 f.1 p.0 good p.1
      | inr p ↦ absurd (err_ok Order t p.1)
    ]

-- what was read of many lines
record Took (most n : ℕ) (s t : Sdp) (ls : List (List ℕ)) : Type 0 where
  lines : all_lines t ≡ all_lines s ++ ls
  order : InOrder n ls
  short : AllByRecursion (IsShort most) ls
  good : Good t

steps_take : (most n : ℕ) (s t : Sdp) (raws : List (List ℕ)) → Good s → steps most n s raws ≡ Ok t → Took most n s t (map without_cr raws)
unfolding steps
steps_take most n s t [] good e =
    let same : s ≡ t = ok_is {E = Fault} s t e in
    subst (λ (x : Sdp). Took most n s x []) same (record { lines = sym (append-nil (all_lines s)); order = tt; short = tt; good = good })
steps_take most n s t (raw ∷ raws) good e =
    let a = bind_ok (at_line n (step most n s (without_cr raw))) _ t e in
    let one = step_takes most n s a.0 (without_cr raw) good (at_line_ok n (step most n s (without_cr raw)) a.0 a.1) in
    let more = steps_take most (n + 1) a.0 t raws one.good a.2 in
    record {
      lines = more.lines ∙ ap (λ (x : List (List ℕ)). x ++ map without_cr raws) one.lines ∙ append_assoc (all_lines s) (without_cr raw ∷ []) (map without_cr raws);
      order = (one.order, more.order);
      short = (one.short, more.short);
      good = more.good;
    }

-- ---- whole texts

last_is : (t : List ℕ) → slice_index t (length t - 1) ≡ 13 → t ≡ take (length t - 1) t ++ 13 ∷ []
last_is [] e = absurd (omega arith)
last_is (x ∷ []) e = rw e refl
last_is (x ∷ y ∷ ys) e =
    let k : length (x ∷ y ∷ ys) - 1 ≡ suc (length (y ∷ ys) - 1) = omega arith in
    let f : slice_index (y ∷ ys) (length (y ∷ ys) - 1) ≡ 13 = rw k at e in
    rw k (ap (λ (l : List ℕ). x ∷ l) (last_is (y ∷ ys) f))

cr_cases : (p : List ℕ) → (p ≡ without_cr p ++ 13 ∷ []) ⊎ (p ≡ without_cr p)
unfolding without_cr
cr_cases p =
    elim (cases_eq (slice_index p (length p - 1)) 13) [
      | inl e ↦ let b = eq-eqb (slice_index p (length p - 1)) 13 e in inl (last_is p e ∙ rw b refl)
      | inr e ↦ let b = ne_eqb (slice_index p (length p - 1)) 13 e in inr (rw b refl)
    ]

spells_parts : (p : List ℕ) (ps : List (List ℕ)) → length (last_part (p ∷ ps)) ≡ 0 → Spells (map without_cr (take (length (p ∷ ps) - 1) (p ∷ ps))) (join_with_byte 10 (p ∷ ps))
spells_parts p [] last = nil_from_length p last
spells_parts p (q ∷ ps) last =
    let k : length (p ∷ q ∷ ps) - 1 ≡ suc (length (q ∷ ps) - 1) = omega arith in
    let f : length (last_part (q ∷ ps)) ≡ 0 = rw k at last in
    let more = spells_parts q ps f in
    rw k (
      join_with_byte 10 (q ∷ ps),
      elim (cr_cases p) [
        | inl e ↦ inl (ap (λ (x : List ℕ). x ++ 10 ∷ join_with_byte 10 (q ∷ ps)) e ∙ append_assoc (without_cr p) (13 ∷ []) (10 ∷ join_with_byte 10 (q ∷ ps)))
        | inr e ↦ inr (ap (λ (x : List ℕ). x ++ 10 ∷ join_with_byte 10 (q ∷ ps)) e)
      ],
      more,
    )

none_good : Good none_yet
none_good = record { session = tt; media = tt; few = omega arith }

end_takes : (most n : ℕ) (rest : List ℕ) (u : Unit {0}) → end_of most n rest ≡ Ok u → (length rest ≡ 0) × (3 < n)
unfolding end_of
end_takes most n rest u e =
    elim (chosen (ltb most (length rest)) _ _ (Ok u) e) [
      | inl p ↦ absurd (err_ok TooLong u p.1)
      | inr p ↦
          elim (chosen (not (eqb (length rest) 0)) _ _ (Ok u) p.1) [
            | inl q ↦ absurd (err_ok Form u q.1)
            | inr q ↦
                elim (chosen (leb n 3) _ _ (Ok u) q.1) [
                  | inl r ↦ absurd (err_ok Order u r.1)
                  | inr r ↦ (eqb-true _ _ (not-false _ q.0), leb-false n 3 r.0)
                ]
          ]
    ]

-- what was read of a whole text, before its addresses
pub record Read (most : ℕ) (text : List ℕ) (s : Sdp) : Type 0 where
  pub good : Good s
  pub order : InOrder 1 (all_lines s)
  pub three : 3 ≤ length (all_lines s)
  pub short : AllByRecursion (IsShort most) (all_lines s)
  pub spelled : Spells (all_lines s) text

whole_takes : (most : ℕ) (text : List ℕ) (p : List ℕ) (ps : List (List ℕ)) (s : Sdp) → slice_split (λ b. eqb b 10) text ≡ p ∷ ps → lines_of most (p ∷ ps) ≡ Ok s → Read most text s
unfolding lines_of
whole_takes most text p ps s parts e =
    let prefix = take (length (p ∷ ps) - 1) (p ∷ ps) in
    let a = bind_ok (steps most 1 none_yet prefix) _ s e in
    let u = bind_ok (at_line (length (p ∷ ps)) (end_of most (length (p ∷ ps)) (last_part (p ∷ ps)))) _ s a.2 in
    let fine = end_takes most (length (p ∷ ps)) (last_part (p ∷ ps)) u.0 (at_line_ok (length (p ∷ ps)) (end_of most (length (p ∷ ps)) (last_part (p ∷ ps))) u.0 u.1) in
    let read = steps_take most 1 none_yet a.0 prefix none_good a.1 in
    let same : a.0 ≡ s = ok_is {E = Fault} a.0 s u.2 in
    let lines : all_lines a.0 ≡ map without_cr prefix = read.lines in
    let text_is : join_with_byte 10 (p ∷ ps) ≡ text = ap (join_with_byte 10) (sym parts) ∙ join_with_byte-slice_split 10 text in
    let count : length (all_lines a.0) ≡ length (p ∷ ps) - 1 = ap length lines ∙ length-map prefix without_cr ∙ (omega (arith, length-take (length (p ∷ ps) - 1) (p ∷ ps))) in
    subst (λ (x : Sdp). Read most text x) same (record {
      good = read.good;
      order = subst (InOrder 1) (sym lines) read.order;
      three = omega (arith, count, fine.1);
      short = subst (AllByRecursion (IsShort most)) (sym lines) read.short;
      spelled = subst (λ (x : List ℕ). Spells (all_lines a.0) x) text_is (subst (λ (x : List (List ℕ)). Spells x (join_with_byte 10 (p ∷ ps))) (sym lines) (spells_parts p ps fine.0));
    })

split_some : (most : ℕ) (text : List ℕ) (parts : List (List ℕ)) (s : Sdp) → slice_split (λ b. eqb b 10) text ≡ parts → lines_of most parts ≡ Ok s → Read most text s
split_some most text [] s parts e = absurd (omega (arith, length-slice_split (λ b. eqb b 10) text, ap length parts))
split_some most text (p ∷ ps) s parts e = whole_takes most text p ps s parts e

pub lines_take : (most : ℕ) (text : List ℕ) (s : Sdp) → lines_of most (slice_split (λ b. eqb b 10) text) ≡ Ok s → Read most text s
lines_take most text s e = split_some most text (slice_split (λ b. eqb b 10) text) s refl e
