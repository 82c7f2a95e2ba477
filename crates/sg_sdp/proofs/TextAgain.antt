-- What a text spells is read of it.
use Rattle.std.proofs.Common.{◌≡◌, ℕ, zero, suc, ◌+◌, ◌-◌, ◌<◌, ◌≤◌, Bool, true, false, eqb, List, [], ◌∷◌, ◌++◌, length, take, drop, map, Some, None, Result, Ok, Err, refl, sym, ap, subst, ◌∙◌, arith, inl, inr, append_assoc}
use Rattle.std.specs.Prelude.{◌&&◌, not, is_none, nat_le, slice_index}
use Rattle.std.specs.List.{list_all, flat_map, slice_split, AllByRecursion}
use Rattle.std.proofs.lemmas.Bool.{eqb-true, eqb-false, eq-eqb, ne_eqb, le-ltb, leb-true, lt-leb, and_parts, not-true}
use Rattle.std.proofs.lemmas.List.{length-append, append-nil, length-map, take_at}
use Rattle.std.proofs.Math.Seq.{get_or-append_seam}
use Rattle.std.proofs.lemmas.List.Elements.{All-from_recursion}
use Rattle.std.proofs.lemmas.List.Splits.{slice_split_at}
use Rattle.sg_base.specs.Fields.{Lacks}
use Rattle.sg_base.proofs.Cuts.{lacks_append}
use Rattle.sg_sdp.specs.declared.medium.Medium.{Medium}
use Rattle.sg_sdp.specs.declared.sdp.Sdp.{Sdp}
use Rattle.sg_sdp.specs.Descriptions.{IsKept, IsMedium, IsSdp, IsShort, Spells, all_lines, medium_line, medium_lines}
use Rattle.sg_sdp.specs.LineForm.{HeadParts, connection_of, has_form, head_of, is_inner, is_letter, without_cr}
use Rattle.sg_sdp.specs.Parts.{with_last_line, with_line_at, with_medium}
use Rattle.sg_sdp.specs.Faults.{Fault, is_in_order, last_part}
use Rattle.sg_sdp.specs.Reading.{◌>>=◌, at_line, end_of, form_of, lines_of, none_yet, opened, placed, step, steps}
use Rattle.sg_sdp.proofs.Cases.{all_append, none_is}
use Rattle.sg_sdp.proofs.Prefixes.{InOrder, prefix_again, prefix_three}
use Rattle.sg_sdp.proofs.HeadLaws.{head_again, head_text, medium_form}

-- ---- one line

no_fault : (a b : Bool) → (a ≡ true → b ≡ false) → (a && b) ≡ false
no_fault true b h = h refl
no_fault false b h = refl

step_kept : (most n : ℕ) (s : Sdp) (l : List ℕ) → IsKept l → length l ≤ most → is_in_order n l ≡ true → step most n s l ≡ Ok (with_last_line l s)
unfolding step form_of placed
step_kept most n s l kept short order =
    let fine : (is_letter 99 l && is_none (connection_of (drop 2 l))) ≡ false = no_fault (is_letter 99 l) _ (λ h. none_is (connection_of (drop 2 l)) (kept.address h)) in
    rw (le-ltb most (length l) short, kept.form, kept.no_medium, order, fine) refl

head_parts : Medium → HeadParts
head_parts m = record { word = m.word; port = m.port; proto = m.proto; formats = m.formats }

-- a medium before its lines and its address
abbrev start : Medium → Medium
start m = record { word = m.word; port = m.port; profile = m.profile; proto = m.proto; formats = m.formats; address = None; lines = [] }

-- a medium before its address
abbrev pub bare_medium : Medium → Medium
bare_medium m = record m { address = None }

abbrev pub bare : Sdp → Sdp
bare s = record { session = s.session; media = map bare_medium s.media }

opened_is : (m : Medium) → IsMedium m → opened (head_parts m) ≡ start m
unfolding opened head_parts
opened_is m is = rw is.profile refl

step_head : (most n : ℕ) (s : Sdp) (m : Medium) → IsMedium m → length (medium_line m) ≤ most → is_in_order n (medium_line m) ≡ true → length s.media < 4 → step most n s (medium_line m) ≡ Ok (with_medium (start m) s)
unfolding step form_of placed head_parts
step_head most n s m is short order room =
    let read : head_of (head_text (head_parts m)) ≡ Some (head_parts m) = head_again (head_parts m) (record { word = is.word; port = is.port; proto = is.proto; formats = is.formats }) in
    let more : eqb (length s.media) 4 ≡ false = ne_eqb (length s.media) 4 (λ e. omega arith) in
    rw (le-ltb most (length (medium_line m)) short, medium_form m is, read, order, more, opened_is m is) refl

-- ---- many lines

run : ℕ → ℕ → Sdp → List (List ℕ) → Result Sdp Fault
run most n s [] = Ok s
run most n s (l ∷ ls) = at_line n (step most n s l) >>= λ t. run most (n + 1) t ls

after : (most n : ℕ) (r : Result Sdp Fault) (raws : List (List ℕ)) → ((t : Sdp) → steps most n t raws ≡ run most n t (map without_cr raws))
    → (r >>= λ t. steps most n t raws) ≡ (r >>= λ t. run most n t (map without_cr raws))
after most n (Ok t) raws h = h t
after most n (Err f) raws h = refl

steps-run : (most n : ℕ) (s : Sdp) (raws : List (List ℕ)) → steps most n s raws ≡ run most n s (map without_cr raws)
unfolding steps run
steps-run most n s [] = refl
steps-run most n s (raw ∷ raws) = after most (n + 1) (at_line n (step most n s (without_cr raw))) raws (λ t. steps-run most (n + 1) t raws)

-- the lines from this number on stand in order, and are short
Stands : ℕ → ℕ → List (List ℕ) → Type 0
Stands most n ls = InOrder n ls × AllByRecursion (IsShort most) ls

-- what is left to run
record Rest (most n : ℕ) (s t : Sdp) (ls more : List (List ℕ)) : Type 0 where
  from : ℕ
  stands : Stands most from more
  same : run most n s (ls ++ more) ≡ run most from t more

run_one : (most n : ℕ) (s t u : Sdp) (l : List ℕ) (ls more : List (List ℕ)) → step most n s l ≡ Ok t → Rest most (n + 1) t u ls more → Rest most n s u (l ∷ ls) more
unfolding run
run_one most n s t u l ls more e rest = record { from = rest.from; stands = rest.stands; same = rw e rest.same }

run_session : (most n : ℕ) (session ls more : List (List ℕ)) → AllByRecursion IsKept ls → Stands most n (ls ++ more)
    → Rest most n (record { session = session; media = [] }) (record { session = session ++ ls; media = [] }) ls more
unfolding Stands with_last_line
run_session most n session [] more kept stands =
    record { from = n; stands = stands; same = ap (λ (x : List (List ℕ)). run most n (record { session = x; media = [] }) more) (sym (append-nil session)) }
run_session most n session (l ∷ ls) more kept stands =
    let s : Sdp = record { session = session; media = [] } in
    let t : Sdp = record { session = session ++ l ∷ []; media = [] } in
    let u : Sdp = record { session = session ++ l ∷ ls; media = [] } in
    let one : step most n s l ≡ Ok t = step_kept most n s l kept.0 stands.1.0 stands.0.0 in
    let rest = run_session most (n + 1) (session ++ l ∷ []) ls more kept.1 (stands.0.1, stands.1.1) in
    let regrouped : Rest most (n + 1) t u ls more = subst (λ (x : List (List ℕ)). Rest most (n + 1) t (record { session = x; media = [] }) ls more) (append_assoc session (l ∷ []) ls) rest in
    run_one most n s t u l ls more one regrouped

line_last : (ms : List Medium) (m : Medium) (l : List ℕ) → with_line_at (length ms) l (ms ++ m ∷ []) ≡ ms ++ record m { lines = m.lines ++ l ∷ [] } ∷ []
unfolding with_line_at
line_last [] m l = refl
line_last (x ∷ ms) m l = ap (λ (t : List Medium). x ∷ t) (line_last ms m l)

later_line : (session : List (List ℕ)) (ms : List Medium) (m : Medium) (l : List ℕ)
    → with_last_line l (record { session = session; media = ms ++ m ∷ [] }) ≡ record { session = session; media = ms ++ record m { lines = m.lines ++ l ∷ [] } ∷ [] }
unfolding with_last_line
later_line session ms m l =
    let some : eqb (length (ms ++ m ∷ [])) 0 ≡ false = ne_eqb (length (ms ++ m ∷ [])) 0 (λ e. omega (arith, length-append ms (m ∷ []))) in
    let place : length (ms ++ m ∷ []) - 1 ≡ length ms = omega (arith, length-append ms (m ∷ [])) in
    rw (some, place, line_last ms m l) refl

run_lines : (most n : ℕ) (session : List (List ℕ)) (ms : List Medium) (m : Medium) (ls more : List (List ℕ)) → AllByRecursion IsKept ls → Stands most n (ls ++ more)
    → Rest most n (record { session = session; media = ms ++ m ∷ [] }) (record { session = session; media = ms ++ record m { lines = m.lines ++ ls } ∷ [] }) ls more
unfolding Stands
run_lines most n session ms m [] more kept stands =
    record { from = n; stands = stands; same = ap (λ (x : List (List ℕ)). run most n (record { session = session; media = ms ++ record m { lines = x } ∷ [] }) more) (sym (append-nil m.lines)) }
run_lines most n session ms m (l ∷ ls) more kept stands =
    let s : Sdp = record { session = session; media = ms ++ m ∷ [] } in
    let m' : Medium = record m { lines = m.lines ++ l ∷ [] } in
    let t : Sdp = record { session = session; media = ms ++ m' ∷ [] } in
    let u : Sdp = record { session = session; media = ms ++ record m { lines = m.lines ++ l ∷ ls } ∷ [] } in
    let one : step most n s l ≡ Ok t = step_kept most n s l kept.0 stands.1.0 stands.0.0 ∙ ap (λ (x : Sdp). Ok x) (later_line session ms m l) in
    let rest = run_lines most (n + 1) session ms m' ls more kept.1 (stands.0.1, stands.1.1) in
    let regrouped : Rest most (n + 1) t u ls more = subst (λ (x : List (List ℕ)). Rest most (n + 1) t (record { session = session; media = ms ++ record m { lines = x } ∷ [] }) ls more) (append_assoc m.lines (l ∷ []) ls) rest in
    run_one most n s t u l ls more one regrouped

run_media : (most n : ℕ) (session : List (List ℕ)) (before ms : List Medium) → AllByRecursion IsMedium ms → length before + length ms ≤ 4 → Stands most n (flat_map medium_lines ms)
    → run most n (record { session = session; media = before }) (flat_map medium_lines ms) ≡ Ok (record { session = session; media = before ++ map bare_medium ms })
unfolding run Stands
run_media most n session before [] is few stands = ap (λ (x : List Medium). Ok (record { session = session; media = x })) (sym (append-nil before))
run_media most n session before (m ∷ ms) is few stands =
    let s : Sdp = record { session = session; media = before } in
    let t : Sdp = record { session = session; media = before ++ start m ∷ [] } in
    let room : length before < 4 = omega arith in
    let one : step most n s (medium_line m) ≡ Ok t = step_head most n s m is.0 stands.1.0 stands.0.0 room in
    let rest = run_lines most (n + 1) session before (start m) m.lines (flat_map medium_lines ms) is.0.lines (stands.0.1, stands.1.1) in
    let fits : length (before ++ bare_medium m ∷ []) + length ms ≤ 4 = omega (arith, length-append before (bare_medium m ∷ [])) in
    let last = run_media most rest.from session (before ++ bare_medium m ∷ []) ms is.1 fits rest.stands in
    let whole : run most (n + 1) t (m.lines ++ flat_map medium_lines ms) ≡ Ok (record { session = session; media = before ++ bare_medium m ∷ map bare_medium ms }) =
    rest.same ∙ last ∙ ap (λ (x : List Medium). Ok (record { session = session; media = x })) (append_assoc before (bare_medium m ∷ []) (map bare_medium ms)) in
    rw one whole

run_all : (most : ℕ) (s : Sdp) → IsSdp s → AllByRecursion (IsShort most) (all_lines s) → run most 1 none_yet (all_lines s) ≡ Ok (bare s)
unfolding Stands
run_all most s is short =
    let rest = run_session most 1 [] s.session (flat_map medium_lines s.media) is.session (prefix_again s.session (flat_map medium_lines s.media) is.prefix, short) in
    rest.same ∙ run_media most rest.from s.session [] s.media is.media (omega (arith, is.few)) rest.stands

-- ---- the text

inner_lacks : (t : List ℕ) → list_all is_inner t ≡ true → Lacks 10 t × Lacks 13 t
inner_lacks [] e = (tt, tt)
inner_lacks (c ∷ t) e =
    let p = and_parts (is_inner c) (list_all is_inner t) e in
    let q = and_parts (not (eqb c 0) && not (eqb c 10)) (not (eqb c 13)) p.0 in
    let r = and_parts (not (eqb c 0)) (not (eqb c 10)) q.0 in
    let more = inner_lacks t p.1 in
    ((not-true (eqb c 10) r.1, more.0), (not-true (eqb c 13) q.1, more.1))

-- a line of the form ends no line
form_lacks : (l : List ℕ) → has_form l ≡ true → Lacks 10 l × Lacks 13 l
unfolding has_form
form_lacks [] form = absurd cc
form_lacks (a ∷ []) form = absurd cc
form_lacks (a ∷ b ∷ rest) form =
    let p = and_parts (nat_le 97 a && nat_le a 122 && (eqb b 61)) (list_all is_inner rest) form in
    let q = and_parts (nat_le 97 a && nat_le a 122) (eqb b 61) p.0 in
    let low : 97 ≤ a = leb-true 97 a (and_parts (nat_le 97 a) (nat_le a 122) q.0).0 in
    let equals : b ≡ 61 = eqb-true b 61 q.1 in
    let r = inner_lacks rest p.1 in
    ((ne_eqb a 10 (λ e. omega arith), (ne_eqb b 10 (λ e. omega arith), r.0)), (ne_eqb a 13 (λ e. omega arith), (ne_eqb b 13 (λ e. omega arith), r.1)))

abbrev HasForm : List ℕ → Type 0
HasForm l = has_form l ≡ true

kept_form : (ls : List (List ℕ)) → AllByRecursion IsKept ls → AllByRecursion HasForm ls
kept_form [] k = tt
kept_form (l ∷ ls) k = (k.0.form, kept_form ls k.1)

media_form : (ms : List Medium) → AllByRecursion IsMedium ms → AllByRecursion HasForm (flat_map medium_lines ms)
media_form [] k = tt
media_form (m ∷ ms) k = (medium_form m k.0, all_append HasForm m.lines (flat_map medium_lines ms) (kept_form m.lines k.0.lines) (media_form ms k.1))

split_first : (l rest : List ℕ) → Lacks 10 l → slice_split (λ b. eqb b 10) (l ++ 10 ∷ rest) ≡ l ∷ slice_split (λ b. eqb b 10) rest
split_first l rest none = slice_split_at (λ b. eqb b 10) l 10 rest (All-from_recursion (λ x. eqb x 10 ≡ false) l none) refl

strip_cr : (l : List ℕ) → without_cr (l ++ 13 ∷ []) ≡ l
unfolding without_cr
strip_cr l =
    let n : length (l ++ 13 ∷ []) - 1 ≡ length l = omega (arith, length-append l (13 ∷ [])) in
    let end : slice_index (l ++ 13 ∷ []) (length (l ++ 13 ∷ []) - 1) ≡ 13 = rw n (get_or-append_seam l 13 [] 0) in
    rw (eq-eqb _ 13 end, n) (take_at l (13 ∷ []) (length l) refl)

never : (l : List ℕ) (i : ℕ) → Lacks 13 l → slice_index l i ≡ 13 → ⊥
never [] i none e = absurd (omega arith)
never (x ∷ l) zero none e = eqb-false x 13 none.0 e
never (x ∷ l) (suc i) none e = never l i none.1 e

strip_none : (l : List ℕ) → Lacks 13 l → without_cr l ≡ l
unfolding without_cr
strip_none l none = rw (ne_eqb (slice_index l (length l - 1)) 13 (λ e. never l (length l - 1) none e)) refl

end_fine : (most n : ℕ) → 3 < n → end_of most n [] ≡ Ok tt
unfolding end_of
end_fine most n many = rw (le-ltb most 0 (omega arith), lt-leb n 3 many) refl

-- the raw parts of a text of these lines
record Raws (ls : List (List ℕ)) (text : List ℕ) : Type 0 where
  raws : List (List ℕ)
  parts : slice_split (λ b. eqb b 10) text ≡ raws ++ [] ∷ []
  lines : map without_cr raws ≡ ls

raws_of : (ls : List (List ℕ)) (text : List ℕ) → AllByRecursion HasForm ls → Spells ls text → Raws ls text
raws_of [] text lines e = record { raws = []; parts = rw e refl; lines = refl }
raws_of (l ∷ ls) text lines e =
    let f = form_lacks l lines.0 in
    let more = raws_of ls e.0 lines.1 e.2 in
    elim e.1 [
      | inl cr ↦
          let none : Lacks 10 (l ++ 13 ∷ []) = lacks_append 10 l (13 ∷ []) f.0 (refl, tt) in
          let whole : text ≡ (l ++ 13 ∷ []) ++ 10 ∷ e.0 = cr ∙ sym (append_assoc l (13 ∷ []) (10 ∷ e.0)) in
          record { raws = (l ++ 13 ∷ []) ∷ more.raws; parts = ap (slice_split (λ b. eqb b 10)) whole ∙ split_first (l ++ 13 ∷ []) e.0 none ∙ ap (λ (x : List (List ℕ)). (l ++ 13 ∷ []) ∷ x) more.parts; lines = rw (strip_cr l, more.lines) refl }
      | inr lf ↦
          record { raws = l ∷ more.raws; parts = ap (slice_split (λ b. eqb b 10)) lf ∙ split_first l e.0 f.0 ∙ ap (λ (x : List (List ℕ)). l ∷ x) more.parts; lines = rw (strip_none l f.1, more.lines) refl }
    ]

whole_again : (most : ℕ) (s : Sdp) (raws : List (List ℕ)) → IsSdp s → AllByRecursion (IsShort most) (all_lines s) → map without_cr raws ≡ all_lines s → lines_of most (raws ++ [] ∷ []) ≡ Ok (bare s)
unfolding lines_of
whole_again most s raws is short lines =
    let n : length (raws ++ [] ∷ []) ≡ length raws + 1 = length-append raws ([] ∷ []) in
    let k : length (raws ++ [] ∷ []) - 1 ≡ length raws = omega arith in
    let prefix : take (length (raws ++ [] ∷ []) - 1) (raws ++ [] ∷ []) ≡ raws = rw k (take_at raws ([] ∷ []) (length raws) refl) in
    let last : last_part (raws ++ [] ∷ []) ≡ [] = rw k (get_or-append_seam raws [] [] []) in
    let read : steps most 1 none_yet raws ≡ Ok (bare s) = steps-run most 1 none_yet raws ∙ ap (run most 1 none_yet) lines ∙ run_all most s is short in
    let three : 3 ≤ length s.session = prefix_three s.session is.prefix in
    let many : 3 < length (raws ++ [] ∷ []) = omega (arith, sym (length-map raws without_cr) ∙ ap length lines, length-append s.session (flat_map medium_lines s.media)) in
    rw (prefix, last, read, end_fine most (length (raws ++ [] ∷ [])) many) refl

-- what a text spells is read of it, before its addresses
pub lines_again : (most : ℕ) (text : List ℕ) (s : Sdp) → IsSdp s → AllByRecursion (IsShort most) (all_lines s) → Spells (all_lines s) text → lines_of most (slice_split (λ b. eqb b 10) text) ≡ Ok (bare s)
lines_again most text s is short spelled =
    let r = raws_of (all_lines s) text (all_append HasForm s.session (flat_map medium_lines s.media) (kept_form s.session is.session) (media_form s.media is.media)) spelled in
    rw r.parts (whole_again most s r.raws is short r.lines)
