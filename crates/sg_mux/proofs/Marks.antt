-- What is marked of a text's media is what the text says of them.
use Rattle.std.proofs.Common.{◌≡◌, ℕ, zero, suc, ◌<◌, Bool, true, false, not, List, [], ◌∷◌, ◌++◌, length, Option, Some, None, Result, Ok, Err, refl, sym, ap, ◌∙◌, arith}
use Rattle.std.specs.Prelude.{◌&&◌, codes}
use Rattle.std.specs.List.{Any, slice_get}
use Rattle.std.specs.Str.{bytes_eq}
use Rattle.std.proofs.lemmas.Bool.{and_parts, eq-eqb, false≢true, ne_eqb}
use Rattle.std.proofs.lemmas.List.Folds.{Any-from_list_any, list_any-from_Any}
use Rattle.std.proofs.lemmas.Slice.Eq.{bytes_eq-Decides}
use Rattle.sg_session.proofs.Lists.{any_here, any_there, any_weaker}
use Rattle.sg_sdp.specs.Faults.{Fault}
use Rattle.sg_sdp.specs.Reading.{description_of}
use Rattle.sg_sdp.specs.declared.medium.Medium.{Medium}
use Rattle.sg_sdp.specs.declared.sdp.Sdp.{Sdp}
use Rattle.sg_passages.specs.Passages.{mux_line}
use Rattle.sg_mux.specs.Shares.{HasMuxLine, HasPort, IsMediumOf}
use Rattle.sg_mux.specs.Texts.{answers_port, at_places, both, has_media_port, has_mux_line, is_some_marked, is_such, mark, marks_by, media_read, no_marks, offers_mux}

-- ---- a medium of a list

pub record IsAt (ms : List Medium) (n : ℕ) (m : Medium) : Type 0 where
  pub before : List Medium
  pub after : List Medium
  pub are : ms ≡ before ++ m ∷ after
  pub number : length before ≡ n

at_place : (ms : List Medium) (n : ℕ) (m : Medium) → slice_get ms n ≡ Some m → IsAt ms n m
at_place [] n m is = absurd cc
at_place (x ∷ ms) zero m is = record { before = []; after = ms; are = ap (λ (o : Medium). o ∷ ms) (let same : x ≡ m = cc in same); number = refl }
at_place (x ∷ ms) (suc n) m is =
    let later = at_place ms n m is in
    record { before = x ∷ later.before; after = later.after; are = ap (λ (l : List Medium). x ∷ l) later.are; number = ap suc later.number }

of_place : (before after : List Medium) (m : Medium) → slice_get (before ++ m ∷ after) (length before) ≡ Some m
of_place [] after m = refl
of_place (x ∷ before) after m = of_place before after m

-- ---- marks

-- what is marked of the four places
module _ (test : ℕ → Bool) where
  pub marked : (medium : ℕ) → mark (at_places test) medium ≡ true → (medium < 4) × (test medium ≡ true)
  marked zero is = (omega arith, is)
  marked (suc zero) is = (omega arith, is)
  marked (suc (suc zero)) is = (omega arith, is)
  marked (suc (suc (suc zero))) is = (omega arith, is)
  marked (suc (suc (suc (suc n)))) is = absurd cc

  pub mark_of : (medium : ℕ) → medium < 4 → test medium ≡ true → mark (at_places test) medium ≡ true
  mark_of zero few is = is
  mark_of (suc zero) few is = is
  mark_of (suc (suc zero)) few is = is
  mark_of (suc (suc (suc zero))) few is = is
  mark_of (suc (suc (suc (suc n)))) few is = absurd (omega (arith, few))

pub none_marked : (medium : ℕ) → mark no_marks medium ≡ true → ⊥
none_marked medium e = false≢true (marked (λ medium. false) medium e).1

pub both_marked : (some others : List Bool) (medium : ℕ) → mark (both some others) medium ≡ true → (mark some medium ≡ true) × (mark others medium ≡ true)
both_marked some others medium e = and_parts _ _ (marked (λ medium. mark some medium && mark others medium) medium e).1

any_marked : (marks : List Bool) (medium : ℕ) → mark marks medium ≡ true → Any (λ m. m ≡ true) marks
any_marked [] medium is = absurd cc
any_marked (m ∷ ms) zero is = any_here (λ m. m ≡ true) m ms is
any_marked (m ∷ ms) (suc n) is = any_there (λ m. m ≡ true) m ms (any_marked ms n is)

pub some_marked : (marks : List Bool) (medium : ℕ) → mark marks medium ≡ true → is_some_marked marks ≡ true
some_marked marks medium is = list_any-from_Any (λ m. m) marks (any_marked marks medium is)

module _ (test : Medium → Bool) where
  such : (o : Option Medium) → is_such test o ≡ true → (m : Medium) × (o ≡ Some m) × (test m ≡ true)
  such None is = absurd cc
  such (Some m) is = (m, refl, is)

  of_description : (text : List ℕ) (medium : ℕ) (r : Result Sdp Fault) → description_of text ≡ r → mark (marks_by test (media_read r)) medium ≡ true → (m : Medium) × IsMediumOf text medium m × (test m ≡ true)
  of_description text medium (Err fault) read is = (let none = (marked (λ n. is_such test (slice_get [] n)) medium is).1 in absurd cc)
  of_description text medium (Ok s) read is =
      let there = marked (λ n. is_such test (slice_get s.media n)) medium is in
      let one = such (slice_get s.media medium) there.1 in
      let place = at_place s.media medium one.0 one.1 in
      (one.0, record { description = s; is_one = read; before = place.before; after = place.after; media_are = place.are; number = place.number; few = there.0 }, one.2)

  to_mark : (text : List ℕ) (medium : ℕ) (m : Medium) → IsMediumOf text medium m → test m ≡ true → mark (marks_by test (media_read (description_of text))) medium ≡ true
  to_mark text medium m is such =
      ap (λ (r : Result Sdp Fault). mark (marks_by test (media_read r)) medium) is.is_one
      ∙ mark_of (λ n. is_such test (slice_get is.description.media n)) medium is.few
      (ap (λ (l : List Medium). is_such test (slice_get l medium)) is.media_are
      ∙ ap (λ (n : ℕ). is_such test (slice_get (is.before ++ m ∷ is.after) n)) (sym is.number)
      ∙ ap (is_such test) (of_place is.before is.after m) ∙ such)

pub line_from : (text : List ℕ) (medium : ℕ) → mark (offers_mux text) medium ≡ true → HasMuxLine text medium
line_from text medium is =
    let one = of_description has_mux_line text medium (description_of text) refl is in
    (one.0, one.1, any_weaker (λ line. bytes_eq line mux_line ≡ true) (λ line. line ≡ codes "a=rtcp-mux") (λ line same. (bytes_eq-Decides line mux_line).0 same) one.0.lines (Any-from_list_any (λ line. bytes_eq line mux_line) one.0.lines one.2))

pub line_to : (text : List ℕ) (medium : ℕ) → HasMuxLine text medium → mark (offers_mux text) medium ≡ true
line_to text medium is =
    to_mark has_mux_line text medium is.0 is.1
    (list_any-from_Any (λ line. bytes_eq line mux_line) is.0.lines
    (any_weaker (λ line. line ≡ codes "a=rtcp-mux") (λ line. bytes_eq line mux_line ≡ true) (λ line same. (bytes_eq-Decides line mux_line).1 same) is.0.lines is.2))

pub port_from : (text : List ℕ) (medium : ℕ) → mark (answers_port text) medium ≡ true → HasPort text medium
port_from text medium is =
    let one = of_description has_media_port text medium (description_of text) refl is in
    (one.0, one.1, λ none. false≢true (sym (ap not (eq-eqb one.0.port 0 none)) ∙ one.2))

pub port_to : (text : List ℕ) (medium : ℕ) → HasPort text medium → mark (answers_port text) medium ≡ true
port_to text medium is = to_mark has_media_port text medium is.0 is.1 (ap not (ne_eqb is.0.port 0 is.2))
