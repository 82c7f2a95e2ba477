-- What is said by the front of a script is said by the script: what whole lines give stays, and an unended one gives nothing.
use Rattle.std.proofs.Common.{◌≡◌, ◌⊎◌, ◌+◌, inl, inr, ℕ, Bool, true, false, cond, eqb, List, [], ◌∷◌, ◌++◌, length, Option, Some, None, Result, Ok, Err, refl, sym, ap, ◌∙◌, arith, append_assoc}
use Rattle.std.proofs.lemmas.Bool.{cond-false, cond-true, false≢true, eq-eqb}
use Rattle.sg_base.specs.declared.faults.ScriptFault.{ScriptFault}
use Rattle.sg_base.specs.declared.faults.ScriptFault.TheVariants.{Length, Unended}
use Rattle.sg_lines.proofs.Splits.{lines_of_rest}
use Rattle.sg_lines.specs.ScriptLines.{NoEnd, lines_of, onto}
use Rattle.sg_trace.proofs.Frames.{IsFar, IsLong, IsOpen, Opening, at_far, at_long, opening}
use Rattle.sg_trace.specs.Course.{Given, Ways, behind_given, behind_line, course, course_from, ended, read_at}
use Rattle.sg_trace.specs.Output.{IsPrefixOf}
use Rattle.sg_trace.specs.Reading.{IsFramed}
use Rattle.sg_trace.specs.Trace.{AtCapture}

-- ---- lines

-- there is none of these lines, or one that is unended
abbrev pub AreOpen : List (List ℕ) → Type 0
AreOpen ls = (ls ≡ []) ⊎ ((line : List ℕ) × (ls ≡ line ∷ []) × NoEnd line)

-- the lines of octets, and of these with more behind them: both begin with the whole lines of the former
pub record Fronts (a b : List ℕ) : Type 0 where
  pub whole : List (List ℕ)
  pub left : List (List ℕ)
  pub more : List (List ℕ)
  pub first : lines_of a ≡ whole ++ left
  pub none : AreOpen left
  pub all : lines_of (a ++ b) ≡ whole ++ more
  pub ends : NoEnd b → AreOpen more

open_alone : (b : List ℕ) → NoEnd b → AreOpen (lines_of b)
open_alone [] none = inl refl
open_alone (x ∷ b) none = inr (x ∷ b, lines_of_rest (x ∷ b) none (omega arith), none)

open_onto : (x : ℕ) (ls : List (List ℕ)) → (x ≡ 10 → ⊥) → AreOpen ls → AreOpen (onto x ls)
open_onto x ls ne (inl is) = inr (x ∷ [], ap (onto x) is, (ne, tt))
open_onto x ls ne (inr (line, is, none)) = inr (x ∷ line, ap (onto x) is, (ne, none))

module _ (x : ℕ) (a b : List ℕ) where
  other : (c : List ℕ) → eqb x 10 ≡ false → lines_of (x ∷ c) ≡ onto x (lines_of c)
  other c is = cond-false (eqb x 10) _ _ is

  end : (c : List ℕ) → eqb x 10 ≡ true → lines_of (x ∷ c) ≡ (x ∷ []) ∷ lines_of c
  end c is = cond-true (eqb x 10) _ _ is

  isnt : eqb x 10 ≡ false → x ≡ 10 → ⊥
  isnt is same = false≢true (sym is ∙ eq-eqb x 10 same)

  goes : (whole left more : List (List ℕ)) → eqb x 10 ≡ false → lines_of a ≡ whole ++ left → AreOpen left → lines_of (a ++ b) ≡ whole ++ more → (NoEnd b → AreOpen more) → Fronts (x ∷ a) b
  goes (l ∷ whole) left more is first none all ends = record {
    whole = (x ∷ l) ∷ whole;
    left = left;
    more = more;
    first = other a is ∙ ap (onto x) first;
    none = none;
    all = other (a ++ b) is ∙ ap (onto x) all;
    ends = ends;
  }
  goes [] left more is first none all ends = record {
    whole = [];
    left = onto x left;
    more = onto x more;
    first = other a is ∙ ap (onto x) first;
    none = open_onto x left (isnt is) none;
    all = other (a ++ b) is ∙ ap (onto x) all;
    ends = λ no. open_onto x more (isnt is) (ends no);
  }

  behind : (is : Bool) → eqb x 10 ≡ is → Fronts a b → Fronts (x ∷ a) b
  behind true is f = record {
    whole = (x ∷ []) ∷ f.whole;
    left = f.left;
    more = f.more;
    first = end a is ∙ ap (λ ls. (x ∷ []) ∷ ls) f.first;
    none = f.none;
    all = end (a ++ b) is ∙ ap (λ ls. (x ∷ []) ∷ ls) f.all;
    ends = f.ends;
  }
  behind false is f = goes f.whole f.left f.more is f.first f.none f.all f.ends

pub fronts : (a b : List ℕ) → Fronts a b
fronts [] b = record { whole = []; left = []; more = lines_of b; first = refl; none = inl refl; all = refl; ends = open_alone b }
fronts (x ∷ a) b = behind x a b (eqb x 10) refl (fronts a b)

-- ---- courses

pub prefix_none : {X : Type 0} (some all : List X) → some ≡ [] → IsPrefixOf some all
prefix_none some all none = (all, ap (λ l. l ++ all) (sym none))

pub prefix_behind : {X : Type 0} (front some all : List X) → IsPrefixOf some all → IsPrefixOf (front ++ some) (front ++ all)
prefix_behind front some all (rest, is) = (rest, ap (λ l. front ++ l) is ∙ sym (append_assoc front some rest))

module _ {L D : Type 0} (w : Ways L D) (framed : IsFramed w.spelled) where
  abbrev deeds : ℕ → ℕ → ℕ → List (List ℕ) → List ℕ → List D
  deeds version n at ls draws = (course_from w version n at ls draws).deeds

  -- an unended line gives nothing
  unended : (version n at : ℕ) (line : List ℕ) (draws : List ℕ) → NoEnd line → deeds version n at (line ∷ []) draws ≡ []
  unended version n at line draws none = at_opening (opening w.spelled framed version n at line none)
    where
      so : (fault : ScriptFault) → read_at w version n at line ≡ Err fault → deeds version n at (line ∷ []) draws ≡ []
      so fault fails = ap (λ r. (behind_line w version n (at + length line) r (λ v. course_from w v (n + 1) (at + length line) []) draws).deeds) fails

      at_opening : Opening w.spelled framed version n at line → deeds version n at (line ∷ []) draws ≡ []
      at_opening (IsFar far) = so Length (at_far w.spelled version n at line far)
      at_opening (IsLong long) = so Length (at_long w.spelled framed version n at line long)
      at_opening (IsOpen open_so) = so Unended open_so

  open_none : (version n at : ℕ) (ls : List (List ℕ)) (draws : List ℕ) → AreOpen ls → deeds version n at ls draws ≡ []
  open_none version n at ls draws (inl is) = ap (λ ls. deeds version n at ls draws) is
  open_none version n at ls draws (inr (line, is, none)) = ap (λ ls. deeds version n at ls draws) is ∙ unended version n at line draws none

  -- with other lines behind the same ones
  module _ (left more : List (List ℕ)) (none : AreOpen left) where
    abbrev Begin : ℕ → ℕ → List (List ℕ) → Type 0
    Begin n at ls = (v : ℕ) (rest : List ℕ) → IsPrefixOf (deeds v n at (ls ++ left) rest) (deeds v n at (ls ++ more) rest)

    abbrev Are : ℕ → ℕ → List (List ℕ) → Type 0
    Are n at ls = (v : ℕ) (rest : List ℕ) → deeds v n at (ls ++ left) rest ≡ deeds v n at (ls ++ more) rest

    begin : (version n at : ℕ) (ls : List (List ℕ)) (draws : List ℕ) → IsPrefixOf (deeds version n at (ls ++ left) draws) (deeds version n at (ls ++ more) draws)
    begin version n at [] draws = prefix_none _ _ (open_none version n at left draws none)
    begin version n at (l ∷ ls) draws = read (read_at w version n at l) (λ v rest. begin v (n + 1) (at + length l) ls rest)
      where
        given : (v : ℕ) (last : Bool) (g : Option (Given D)) → Begin (n + 1) (at + length l) ls → IsPrefixOf
            (cond last (ended (AtCapture (at + length l)) draws) (behind_given g draws (course_from w v (n + 1) (at + length l) (ls ++ left)))).deeds
            (cond last (ended (AtCapture (at + length l)) draws) (behind_given g draws (course_from w v (n + 1) (at + length l) (ls ++ more)))).deeds
        given v true g later = ([], refl)
        given v false None later = ([], refl)
        given v false (Some g) later = prefix_behind g.deeds _ _ (later v g.left)

        read : (r : Result L ScriptFault) → Begin (n + 1) (at + length l) ls → IsPrefixOf
            (behind_line w version n (at + length l) r (λ v. course_from w v (n + 1) (at + length l) (ls ++ left)) draws).deeds
            (behind_line w version n (at + length l) r (λ v. course_from w v (n + 1) (at + length l) (ls ++ more)) draws).deeds
        read (Err fault) later = ([], refl)
        read (Ok this) later = given (w.followed version this) (w.is_last this) (w.gives this draws) later

    are : AreOpen more → (version n at : ℕ) (ls : List (List ℕ)) (draws : List ℕ) → deeds version n at (ls ++ left) draws ≡ deeds version n at (ls ++ more) draws
    are none' version n at [] draws = open_none version n at left draws none ∙ sym (open_none version n at more draws none')
    are none' version n at (l ∷ ls) draws = read (read_at w version n at l) (λ v rest. are none' v (n + 1) (at + length l) ls rest)
      where
        given : (v : ℕ) (last : Bool) (g : Option (Given D)) → Are (n + 1) (at + length l) ls →
            (cond last (ended (AtCapture (at + length l)) draws) (behind_given g draws (course_from w v (n + 1) (at + length l) (ls ++ left)))).deeds
            ≡ (cond last (ended (AtCapture (at + length l)) draws) (behind_given g draws (course_from w v (n + 1) (at + length l) (ls ++ more)))).deeds
        given v true g later = refl
        given v false None later = refl
        given v false (Some g) later = ap (λ l. g.deeds ++ l) (later v g.left)

        read : (r : Result L ScriptFault) → Are (n + 1) (at + length l) ls →
            (behind_line w version n (at + length l) r (λ v. course_from w v (n + 1) (at + length l) (ls ++ left)) draws).deeds
            ≡ (behind_line w version n (at + length l) r (λ v. course_from w v (n + 1) (at + length l) (ls ++ more)) draws).deeds
        read (Err fault) later = refl
        read (Ok this) later = given (w.followed version this) (w.is_last this) (w.gives this draws) later

  -- the deeds of the front are the first of all
  pub begun : (played ahead draws : List ℕ) → IsPrefixOf (course w played draws).deeds (course w (played ++ ahead) draws).deeds
  begun played ahead draws =
      let f = fronts played ahead in
      let is : IsPrefixOf (deeds 1 1 0 (f.whole ++ f.left) draws) (deeds 1 1 0 (f.whole ++ f.more) draws) = begin f.left f.more f.none 1 1 0 f.whole draws in
      let of : deeds 1 1 0 (lines_of played) draws ≡ deeds 1 1 0 (f.whole ++ f.left) draws = ap (λ ls. deeds 1 1 0 ls draws) f.first in
      let all : deeds 1 1 0 (lines_of (played ++ ahead)) draws ≡ deeds 1 1 0 (f.whole ++ f.more) draws = ap (λ ls. deeds 1 1 0 ls draws) f.all in
      (is.0, all ∙ is.1 ∙ ap (λ l. l ++ is.0) (sym of))

  -- an unended line behind them adds none
  pub ends_open : (lines part draws : List ℕ) → NoEnd part → (course w lines draws).deeds ≡ (course w (lines ++ part) draws).deeds
  ends_open lines part draws none =
      let f = fronts lines part in
      ap (λ ls. deeds 1 1 0 ls draws) f.first ∙ are f.left f.more f.none (f.ends none) 1 1 0 f.whole draws ∙ ap (λ ls. deeds 1 1 0 ls draws) (sym f.all)
