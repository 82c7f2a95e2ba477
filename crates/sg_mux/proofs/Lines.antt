-- Which lines a text has that is told with lines of RFC 5761.
use Rattle.std.proofs.Common.{◌≡◌, inl, inr, ℕ, zero, suc, ◌<◌, Bool, true, false, cond, ltb, List, [], ◌∷◌, ◌++◌, append_assoc, length, Result, Ok, Err, refl, sym, ap, ◌∙◌, subst, arith, ◌⊎◌}
use Rattle.std.proofs.lemmas.Bool.{and_parts}
use Rattle.std.proofs.lemmas.List.Elements.{All-contains_itself, All-from_recursion, Contains-append_left, Contains-append_right, recursion_from_All}
use Rattle.std.proofs.lemmas.List.Splits.{length-slice_split, slice_split-cons_yes}
use Rattle.std.specs.List.{All, AllByRecursion, Any, Contains, flat_map, onto_first, slice_split}
use Rattle.std.specs.Prelude.{◌&&◌, ◌⊎◌}
use Rattle.sg_gateway.specs.PlainTexts.{ends_line}
use Rattle.sg_passages.specs.Passages.{AddsMuxLines, mux_line}
use Rattle.sg_sdp.specs.Descriptions.{IsSdp, IsShort, Spells, all_lines, ended, medium_lines, spelling}
use Rattle.sg_sdp.specs.Faults.{Fault}
use Rattle.sg_sdp.specs.Parts.{with_line_at, with_media_line}
use Rattle.sg_sdp.specs.Reading.{description_of, description_within}
use Rattle.sg_sdp.specs.declared.medium.Medium.{Medium}
use Rattle.sg_sdp.specs.declared.sdp.Sdp.{Sdp}
use Rattle.sg_session.proofs.Lists.{each_append, each_flat_map, each_weaker}
use Rattle.sg_mux.specs.Texts.{is_some_marked, mark, spelled_with, with_line_if, with_lines, with_mux_lines}

-- ---- a text that is parted where lines end

module _ {X : Type 0} (test : X → Bool) where
  onto : (x : X) (some others : List (List X)) → 0 < length some → onto_first x (some ++ others) ≡ onto_first x some ++ others
  onto x [] others there = absurd (omega arith)
  onto x (part ∷ some) others there = refl

  either : (b : Bool) (x : X) (some others : List (List X)) → 0 < length some
      → cond b ([] ∷ (some ++ others)) (onto_first x (some ++ others)) ≡ cond b ([] ∷ some) (onto_first x some) ++ others
  either true x some others there = refl
  either false x some others there = onto x some others there

  parted : (xs : List X) (y : X) (ys : List X) → test y ≡ true → slice_split test (xs ++ y ∷ ys) ≡ slice_split test xs ++ slice_split test ys
  parted [] y ys end = slice_split-cons_yes test y ys end
  parted (x ∷ xs) y ys end =
      ap (λ (parts : List (List X)). cond (test x) ([] ∷ parts) (onto_first x parts)) (parted xs y ys end)
      ∙ either (test x) x (slice_split test xs) (slice_split test ys) (omega (arith, length-slice_split test xs))

abbrev parts_of : List ℕ → List (List ℕ)
parts_of text = slice_split ends_line text

-- a line that CR LF ends, and what comes behind it
parts_behind : (l rest : List ℕ) → parts_of (l ++ 13 ∷ 10 ∷ rest) ≡ parts_of l ++ [] ∷ parts_of rest
parts_behind l rest = parted ends_line l 13 (10 ∷ rest) refl ∙ ap (λ (parts : List (List ℕ)). parts_of l ++ parts) (parted ends_line [] 10 rest refl)

-- ---- the text that lines spell

module _ (P : List ℕ → Type 0) (nothing : P []) where
  spelled : (ls : List (List ℕ)) → AllByRecursion (λ l. AllByRecursion P (parts_of l)) ls → AllByRecursion P (parts_of (flat_map ended ls))
  spelled [] each = (nothing, tt)
  spelled (l ∷ ls) each =
      subst (AllByRecursion P) (sym (ap parts_of (append_assoc l (13 ∷ 10 ∷ []) (flat_map ended ls)) ∙ parts_behind l (flat_map ended ls)))
      (each_append P (parts_of l) ([] ∷ parts_of (flat_map ended ls)) each.0 (nothing, spelled ls each.1))

  -- each line ended by CR LF or by LF alone
  spelt : (ls : List (List ℕ)) (text : List ℕ) → Spells ls text → AllByRecursion (λ l. AllByRecursion P (parts_of l)) ls → AllByRecursion P (parts_of text)
  spelt [] text is each = subst (λ text. AllByRecursion P (parts_of text)) (sym is) (nothing, tt)
  spelt (l ∷ ls) text (rest, inl is, later) each =
      subst (AllByRecursion P) (sym (ap parts_of is ∙ parts_behind l rest)) (each_append P (parts_of l) ([] ∷ parts_of rest) each.0 (nothing, spelt ls rest later each.1))
  spelt (l ∷ ls) text (rest, inr is, later) each =
      subst (AllByRecursion P) (sym (ap parts_of is ∙ parted ends_line l 10 rest refl)) (each_append P (parts_of l) (parts_of rest) each.0 (spelt ls rest later each.1))

pub spells : (ls : List (List ℕ)) → Spells ls (flat_map ended ls)
spells [] = refl
spells (l ∷ ls) = (flat_map ended ls, inl (append_assoc l (13 ∷ 10 ∷ []) (flat_map ended ls)), spells ls)

-- all parts of the line are parts of the text
abbrev IsIn : List ℕ → List ℕ → Type 0
IsIn text l = AllByRecursion (Contains (parts_of text)) (parts_of l)

-- the parts of the text are those of the line, and others, among which are all of the rest
module _ (text l rest : List ℕ) (others : List (List ℕ)) (are : parts_of text ≡ parts_of l ++ others) (behind : (x : List ℕ) → Contains (parts_of rest) x → Contains others x) where
  its_own : IsIn text l
  its_own =
      subst (λ (parts : List (List ℕ)). AllByRecursion (Contains parts) (parts_of l)) (sym are)
      (each_weaker (Contains (parts_of l)) (Contains (parts_of l ++ others)) (λ x has. Contains-append_left (parts_of l) others x has) (parts_of l)
      (recursion_from_All (Contains (parts_of l)) (parts_of l) (All-contains_itself (parts_of l))))

  of_the_rest : (x : List ℕ) → Contains (parts_of rest) x → Contains (parts_of text) x
  of_the_rest x has = subst (λ (parts : List (List ℕ)). Contains parts x) (sym are) (Contains-append_right (parts_of l) others x (behind x has))

  more : (ls : List (List ℕ)) → AllByRecursion (IsIn rest) ls × Contains (parts_of rest) [] → AllByRecursion (IsIn text) (l ∷ ls) × Contains (parts_of text) []
  more ls earlier = (
    (its_own, each_weaker (IsIn rest) (IsIn text) (λ k is. each_weaker (Contains (parts_of rest)) (Contains (parts_of text)) of_the_rest (parts_of k) is) ls earlier.0),
    of_the_rest [] earlier.1,
  )

all_in : (ls : List (List ℕ)) (text : List ℕ) → Spells ls text → AllByRecursion (IsIn text) ls × Contains (parts_of text) []
all_in [] text is = (tt, subst (λ (text : List ℕ). Contains (parts_of text) []) (sym is) (0, omega arith, refl))
all_in (l ∷ ls) text (rest, inl is, later) =
    more text l rest ([] ∷ parts_of rest) (ap parts_of is ∙ parts_behind l rest) (λ x has. Contains-append_right ([] ∷ []) (parts_of rest) x has) ls (all_in ls rest later)
all_in (l ∷ ls) text (rest, inr is, later) =
    more text l rest (parts_of rest) (ap parts_of is ∙ parted ends_line l 10 rest refl) (λ x has. has) ls (all_in ls rest later)

-- ---- lists of two parts

pub first_of : {X : Type 0} (P : X → Type 0) (xs ys : List X) → AllByRecursion P (xs ++ ys) → AllByRecursion P xs
first_of P [] ys each = tt
first_of P (x ∷ xs) ys each = (each.0, first_of P xs ys each.1)

pub rest_of : {X : Type 0} (P : X → Type 0) (xs ys : List X) → AllByRecursion P (xs ++ ys) → AllByRecursion P ys
rest_of P [] ys each = each
rest_of P (x ∷ xs) ys each = rest_of P xs ys each.1

-- ---- the lines of a description that gets some

-- what holds with a line more and with none, medium by medium, holds with all that are marked
module _ (Q : ℕ → Sdp → Type 0) (marks : List Bool) (add : (i : ℕ) (s : Sdp) → mark marks i ≡ true → Q i s → Q (suc i) (with_media_line i mux_line s))
    (stay : (i : ℕ) (s : Sdp) → mark marks i && ltb i (length s.media) ≡ false → Q i s → Q (suc i) s) where
  by_bit : (i : ℕ) (s : Sdp) (b : Bool) → mark marks i && ltb i (length s.media) ≡ b → Q i s → Q (suc i) (cond b (with_media_line i mux_line s) s)
  by_bit i s true on is = add i s (and_parts (mark marks i) (ltb i (length s.media)) on).0 is
  by_bit i s false off is = stay i s off is

  next : (i : ℕ) (s : Sdp) → Q i s → Q (suc i) (with_line_if (mark marks i) i s)
  next i s is = by_bit i s (mark marks i && ltb i (length s.media)) refl is

  pub with_each : (s : Sdp) → Q 0 s → Q 4 (with_lines marks s)
  with_each s is =
      let a = with_line_if (mark marks 0) 0 s in
      let b = with_line_if (mark marks 1) 1 a in
      let c = with_line_if (mark marks 2) 2 b in
      next 3 c (next 2 b (next 1 a (next 0 s is)))

module _ (P : List ℕ → Type 0) where
  abbrev EachOf : Medium → Type 0
  EachOf m = AllByRecursion P (medium_lines m)

  by_medium : (ms : List Medium) → AllByRecursion P (flat_map medium_lines ms) → AllByRecursion EachOf ms
  by_medium [] each = tt
  by_medium (m ∷ ms) each = (first_of P (medium_lines m) (flat_map medium_lines ms) each, by_medium ms (rest_of P (medium_lines m) (flat_map medium_lines ms) each))

  abbrev Each : Sdp → Type 0
  Each s = AllByRecursion P s.session × AllByRecursion EachOf s.media

  by_lines : (s : Sdp) → AllByRecursion P (all_lines s) → Each s
  by_lines s each = (first_of P s.session (flat_map medium_lines s.media) each, by_medium s.media (rest_of P s.session (flat_map medium_lines s.media) each))

  in_lines : (s : Sdp) → Each s → AllByRecursion P (all_lines s)
  in_lines s lines = each_append P s.session (flat_map medium_lines s.media) lines.0 (each_flat_map EachOf P medium_lines (λ m of. of) s.media lines.1)

  -- of the lines with those that are added, the ones of before

  at_medium_before : (i : ℕ) (ms : List Medium) → AllByRecursion EachOf (with_line_at i mux_line ms) → AllByRecursion EachOf ms
  unfolding with_line_at
  at_medium_before i [] each = tt
  at_medium_before zero (m ∷ ms) each = ((each.0.0, first_of P m.lines (mux_line ∷ []) each.0.1), each.1)
  at_medium_before (suc i) (m ∷ ms) each = (each.0, at_medium_before i ms each.1)

  each_before : (marks : List Bool) (s : Sdp) → AllByRecursion P (all_lines (with_lines marks s)) → AllByRecursion P (all_lines s)
  each_before marks s each =
      in_lines s (with_each (λ i t. Each t → Each s) marks (λ i t on before each. before (each.0, at_medium_before i t.media each.1)) (λ i t off before. before) s (λ each. each) (by_lines (with_lines marks s) each))

  module _ (line : P mux_line) where
    at_medium : (i : ℕ) (ms : List Medium) → AllByRecursion EachOf ms → AllByRecursion EachOf (with_line_at i mux_line ms)
    unfolding with_line_at
    at_medium i [] each = tt
    at_medium zero (m ∷ ms) each = ((each.0.0, each_append P m.lines (mux_line ∷ []) each.0.1 (line, tt)), each.1)
    at_medium (suc i) (m ∷ ms) each = (each.0, at_medium i ms each.1)

    each_line : (marks : List Bool) (s : Sdp) → AllByRecursion P (all_lines s) → AllByRecursion P (all_lines (with_lines marks s))
    each_line marks s each =
        in_lines (with_lines marks s) (with_each (λ i t. Each t) marks (λ i t on each. (each.0, at_medium i t.media each.1)) (λ i t off each. each) s (by_lines s each))

-- ---- a text as it is told

module _ (first : List ℕ) where
  abbrev IsTold : List ℕ → Type 0
  IsTold line = Any (λ l. l ≡ line) (parts_of first) ⊎ (line ≡ mux_line)

  as_it_was : (line : List ℕ) → Contains (parts_of first) line → IsTold line
  as_it_was line (k, within, is) = inl (k, line, within, is, refl)

  abbrev IsStill : List ℕ → List ℕ → Type 0
  IsStill text line = Any (λ l. l ≡ line) (parts_of text)

  kept_in : (text line : List ℕ) → Contains (parts_of text) line → IsStill text line
  kept_in text line (k, within, is) = (k, line, within, is, refl)

  pub same_lines : AddsMuxLines first first
  same_lines =
      let own = recursion_from_All (Contains (parts_of first)) (parts_of first) (All-contains_itself (parts_of first)) in record {
        added = All-from_recursion IsTold (parts_of first) (each_weaker (Contains (parts_of first)) IsTold as_it_was (parts_of first) own);
        kept = All-from_recursion (IsStill first) (parts_of first) (each_weaker (Contains (parts_of first)) (IsStill first) (kept_in first) (parts_of first) own);
      }

  more_lines : (marks : List Bool) (s : Sdp) → Spells (all_lines s) first → AddsMuxLines first (spelled_with first marks (Ok s))
  more_lines marks s is = record { added = are_told; kept = are_kept }
    where
      are_told : All IsTold (parts_of (spelling (with_lines marks s)))
      are_told =
          let were = all_in (all_lines s) first is in
          All-from_recursion IsTold (parts_of (spelling (with_lines marks s)))
          (spelled IsTold (as_it_was [] were.1) (all_lines (with_lines marks s))
          (each_line (λ l. AllByRecursion IsTold (parts_of l)) (inr refl, tt) marks s
          (each_weaker (IsIn first) (λ l. AllByRecursion IsTold (parts_of l)) (λ l is. each_weaker (Contains (parts_of first)) IsTold as_it_was (parts_of l) is) (all_lines s) were.0)))

      in_told : (l : List ℕ) → IsIn (spelling (with_lines marks s)) l → AllByRecursion (IsStill (spelling (with_lines marks s))) (parts_of l)
      in_told l is = each_weaker (Contains (parts_of (spelling (with_lines marks s)))) (IsStill (spelling (with_lines marks s))) (kept_in (spelling (with_lines marks s))) (parts_of l) is

      are_kept : All (IsStill (spelling (with_lines marks s))) (parts_of first)
      are_kept =
          let now = all_in (all_lines (with_lines marks s)) (spelling (with_lines marks s)) (spells (all_lines (with_lines marks s))) in
          All-from_recursion (IsStill (spelling (with_lines marks s))) (parts_of first)
          (spelt (IsStill (spelling (with_lines marks s))) (kept_in (spelling (with_lines marks s)) [] now.1) (all_lines s) first is
          (each_weaker (IsIn (spelling (with_lines marks s))) (λ l. AllByRecursion (IsStill (spelling (with_lines marks s))) (parts_of l)) in_told (all_lines s)
          (each_before (IsIn (spelling (with_lines marks s))) marks s now.0)))

-- what a description that is read spells, by the law of sg_sdp
abbrev pub ReadIsSpelled : Type 0
ReadIsSpelled = (most : ℕ) (text : List ℕ) (s : Sdp) → description_within most text ≡ Ok s → IsSdp s × Spells (all_lines s) text × AllByRecursion (IsShort most) (all_lines s)

not_long : (b : Bool) (f : Fault) (r : Result Sdp Fault) (s : Sdp) → cond b (Err f) r ≡ Ok s → r ≡ Ok s
not_long true f r s e = absurd cc
not_long false f r s e = e

pub within : (text : List ℕ) (s : Sdp) → description_of text ≡ Ok s → description_within 2048 text ≡ Ok s
unfolding description_of
within text s e = not_long (ltb 16384 (length text)) _ (description_within 2048 text) s e

pub adds_lines : ReadIsSpelled → (text : List ℕ) (marks : List Bool) → AddsMuxLines text (with_mux_lines text marks)
adds_lines spelled text marks = go (is_some_marked marks) (description_of text) refl
  where
    go : (b : Bool) (r : Result Sdp Fault) → description_of text ≡ r → AddsMuxLines text (cond b (spelled_with text marks r) text)
    go false r is = same_lines text
    go true (Err fault) is = same_lines text
    go true (Ok s) is = more_lines text marks s (spelled 2048 text s (within text s is)).1
