-- The text of an answer is told with the line in each medium whose leg shares its port, and in no other.
use Rattle.std.proofs.Common.{◌≡◌, ◌↔◌, inl, inr, ℕ, zero, suc, ◌≤◌, Bool, true, false, cond, List, [], ◌∷◌, ◌++◌, length, Option, Some, None, Result, Ok, Err, refl, sym, ap, ◌∙◌, subst, arith, ltb}
use Rattle.std.proofs.lemmas.Bool.{and_from, and_parts, eq-eqb, false≢true, ltb-false}
use Rattle.std.specs.List.{AllByRecursion}
use Rattle.std.specs.Prelude.{◌&&◌, slice_index_or}
use Rattle.sg_base.specs.declared.addresses.CallId.{CallId}
use Rattle.sg_base.specs.declared.addresses.Side.{Side}
use Rattle.sg_gateway.specs.Signals.{Answered}
use Rattle.sg_gateway.specs.Step.{Event, Signalled}
use Rattle.sg_gateway.specs.World.{World, empty, same_id}
use Rattle.sg_outcome.specs.declared.outcomes.Outcome.{Outcome}
use Rattle.sg_passages.specs.Passages.{mux_line}
use Rattle.sg_sdp.specs.Descriptions.{IsKept, IsSdp, all_lines}
use Rattle.sg_sdp.specs.Faults.{Fault}
use Rattle.sg_sdp.specs.LineForm.{has_form, is_letter}
use Rattle.sg_sdp.specs.Parts.{with_line_at, with_media_line}
use Rattle.sg_sdp.specs.Reading.{description_of}
use Rattle.sg_sdp.specs.declared.medium.Medium.{Medium}
use Rattle.sg_sdp.specs.declared.sdp.Sdp.{Sdp}
use Rattle.sg_mux.proofs.Latest.{its_side, same}
use Rattle.sg_mux.proofs.Lines.{ReadIsSpelled, spells, with_each, within}
use Rattle.sg_mux.proofs.Marks.{both_marked, marked, none_marked, port_from, some_marked}
use Rattle.sg_mux.proofs.Sharings.{next_passage, world_from}
use Rattle.sg_mux.specs.Latest.{known_after, known_from}
use Rattle.sg_mux.specs.Legs.{is_muxed, muxes, same_side}
use Rattle.sg_mux.specs.Lined.{GetLines, GetsLine, IsToldBy, IsToldWithLines, LegShares}
use Rattle.sg_mux.specs.Muxed.{agreed, nobody, offered_by, signalled, with_change}
use Rattle.sg_mux.specs.Texts.{answers_port, is_some_marked, mark, no_marks, spelled_with, with_lines, with_mux_lines}
use Rattle.sg_mux.specs.Via.{muxing_after, passage_at, stepped}
use Rattle.sg_mux.specs.declared.known.Known.{Known}

-- ---- media

-- of the first so many each has the line last where its leg shares its port, and the others are as they were
abbrev FirstGet : (ℕ → Type 0) → ℕ → List Medium → List Medium → Type 0
FirstGet Shares zero ms ns = ns ≡ ms
FirstGet Shares (suc i) [] ns = ns ≡ []
FirstGet Shares (suc i) (m ∷ ms) ns = (n : Medium) × (others : List Medium) × (ns ≡ n ∷ others) × GetsLine (Shares 0) m n × FirstGet (λ j. Shares (suc j)) i ms others

one_more : (Shares : ℕ → Type 0) (i : ℕ) (ms ns : List Medium) → Shares i → FirstGet Shares i ms ns → FirstGet Shares (suc i) ms (with_line_at i mux_line ns)
unfolding with_line_at
one_more Shares zero [] ns on is = ap (with_line_at zero mux_line) is
one_more Shares zero (m ∷ ms) ns on is = (record m { lines = m.lines ++ mux_line ∷ [] }, ms, ap (with_line_at zero mux_line) is, inl (on, refl), refl)
one_more Shares (suc i) [] ns on is = ap (with_line_at (suc i) mux_line) is
one_more Shares (suc i) (m ∷ ms) ns on (n, others, is, gets, later) = (n, with_line_at i mux_line others, ap (with_line_at (suc i) mux_line) is, gets, one_more (λ j. Shares (suc j)) i ms others on later)

none_more : (Shares : ℕ → Type 0) (i : ℕ) (ms ns : List Medium) → ¬ Shares i → FirstGet Shares i ms ns → FirstGet Shares (suc i) ms ns
none_more Shares zero [] ns off is = is
none_more Shares zero (m ∷ ms) ns off is = (m, ms, is, inr (off, refl), refl)
none_more Shares (suc i) [] ns off is = is
none_more Shares (suc i) (m ∷ ms) ns off (n, others, is, gets, later) = (n, others, is, gets, none_more (λ j. Shares (suc j)) i ms others off later)

-- there is no medium of the number
past : (Shares : ℕ → Type 0) (i : ℕ) (ms ns : List Medium) → length ns ≤ i → FirstGet Shares i ms ns → FirstGet Shares (suc i) ms ns
past Shares zero [] ns le is = is
past Shares zero (m ∷ ms) ns le is = (let more : length ns ≡ suc (length ms) = ap length is in absurd (omega (arith, le, more)))
past Shares (suc i) [] ns le is = is
past Shares (suc i) (m ∷ ms) ns le (n, others, is, gets, later) =
    let more : length ns ≡ suc (length others) = ap length is in
    (n, others, is, gets, past (λ j. Shares (suc j)) i ms others (omega (arith, le, more)) later)

all_get : (Shares : ℕ → Type 0) (i : ℕ) (ms ns : List Medium) → ((j : ℕ) → i ≤ j → ¬ Shares j) → FirstGet Shares i ms ns → GetLines Shares ms ns
all_get Shares zero [] ns none is = is
all_get Shares zero (m ∷ ms) ns none is = (m, ms, is, inr (none 0 (omega arith), refl), all_get (λ j. Shares (suc j)) zero ms ms (λ j le. none (suc j) (omega arith)) refl)
all_get Shares (suc i) [] ns none is = is
all_get Shares (suc i) (m ∷ ms) ns none (n, others, is, gets, later) =
    (n, others, is, gets, all_get (λ j. Shares (suc j)) i ms others (λ j le. none (suc j) (omega (arith, le))) later)

-- ---- a description

abbrev StaysOne : Type 0
StaysOne = (s : Sdp) (medium : ℕ) (line : List ℕ) → IsSdp s → IsKept line → is_letter 99 line ≡ false → IsSdp (with_media_line medium line s)

kept : IsKept mux_line
unfolding has_form
kept = record { form = refl; no_medium = refl; address = λ is. cc }

module _ (stays : StaysOne) (first : Sdp) (Shares : ℕ → Type 0) (marks : List Bool) (exact : (i : ℕ) → (mark marks i ≡ true) ↔ Shares i) where
  -- so far the description is one, with the same session part, and its first media have the line or have it not
  pub record IsSoFar (i : ℕ) (s : Sdp) : Type 0 where
    pub one : IsSdp s
    pub session : s.session ≡ first.session
    pub media : FirstGet Shares i first.media s.media

  unmarked : (i : ℕ) (s : Sdp) (b : Bool) → mark marks i ≡ b → b && ltb i (length s.media) ≡ false → FirstGet Shares i first.media s.media → FirstGet Shares (suc i) first.media s.media
  unmarked i s true on short is = past Shares i first.media s.media (ltb-false i (length s.media) short) is
  unmarked i s false off short is = none_more Shares i first.media s.media (λ shares. false≢true (sym off ∙ (exact i).1 shares)) is

  with_all : IsSdp first → IsSoFar 4 (with_lines marks first)
  with_all one = with_each IsSoFar marks
      (λ i s on is. record { one = stays s i mux_line is.one kept refl; session = is.session; media = one_more Shares i first.media s.media ((exact i).0 on) is.media })
      (λ i s off is. record { one = is.one; session = is.session; media = unmarked i s (mark marks i) refl off is.media })
      first (record { one = one; session = refl; media = refl })

-- ---- the text

module _ (spelled : ReadIsSpelled) (stays : StaysOne) (text : List ℕ) (Shares : ℕ → Type 0) (offered : List Bool) (exact : (i : ℕ) → (mark (agreed text offered) i ≡ true) ↔ Shares i) where
  abbrev marks : List Bool
  marks = agreed text offered

  none_shares : ((i : ℕ) → mark marks i ≡ true → ⊥) → (i : ℕ) → ¬ Shares i
  none_shares none i shares = none i ((exact i).1 shares)

  -- none but the first four are marked
  few : (i : ℕ) → 4 ≤ i → ¬ Shares i
  few i le shares = let lt = (marked (λ medium. mark (answers_port text) medium && mark offered medium) i ((exact i).1 shares)).0 in omega (arith, le, lt)

  -- no medium of a text that is no description has a port
  unread : (fault : Fault) → description_of text ≡ Err fault → (i : ℕ) → mark marks i ≡ true → ⊥
  unread fault is i on =
      let port = port_from text i (both_marked (answers_port text) offered i on).0 in
      let never : Err fault ≡ Ok port.1.description = sym is ∙ port.1.is_one in
      absurd cc

  by_mark : (b : Bool) → is_some_marked marks ≡ b → (r : Result Sdp Fault) → description_of text ≡ r → IsToldBy Shares text (cond b (spelled_with text marks r) text)
  by_mark false none r is = inr (refl, none_shares (λ i on. false≢true (sym none ∙ some_marked marks i on)))
  by_mark true some (Err fault) is = inr (refl, none_shares (unread fault is))
  by_mark true some (Ok s) is =
      let lined = with_all stays s Shares marks exact (spelled 2048 text s (within text s is)).0 in
      inl (record {
        first = s;
        second = with_lines marks s;
        was = is;
        is_one = lined.one;
        spells = spells (all_lines (with_lines marks s));
        session = lined.session;
        media = all_get Shares 4 s.media (with_lines marks s).media few lined.media;
      })

  told_by : IsToldBy Shares text (with_mux_lines text marks)
  told_by = by_mark (is_some_marked marks) refl (description_of text) refl

-- ---- legs

indexed : (before : List (Option Known)) (o : Option Known) (after : List (Option Known)) → slice_index_or (before ++ o ∷ after) (length before) None ≡ o
indexed [] o after = refl
indexed (x ∷ before) o after = indexed before o after

module _ (id : CallId) (side : Side) (text : List ℕ) (i : ℕ) where
  abbrev change : Known → Known
  change k = record k { side = side; muxed = agreed text k.offered }

  abbrev Others : List (Option Known) → Type 0
  Others calls = AllByRecursion (λ o. (k : Known) → o ≡ Some k → ¬ k.id ≡ id) calls

  -- a call of another id in front
  more : (o : Option Known) (calls : List (Option Known)) → ((k : Known) → o ≡ Some k → ¬ k.id ≡ id) → LegShares calls id side i → LegShares (o ∷ calls) id side i
  more o calls other is = record {
    before = o ∷ is.before;
    call = is.call;
    after = is.after;
    are = ap (λ (l : List (Option Known)). o ∷ l) is.are;
    own = is.own;
    first = (other, is.first);
    shares = is.shares;
  }

  not_own : (k x : Known) → same_id k.id id ≡ false → k ≡ x → ¬ x.id ≡ id
  not_own k x other one own = false≢true (sym other ∙ eq-eqb k.id.0 id.0 (ap (λ (y : Known). y.id.0) one ∙ ap (λ (j : CallId). j.0) own))

  shares_of : (calls : List (Option Known)) → mark (agreed text (offered_by id calls)) i ≡ true → LegShares (with_change id change calls) id side i
  shares_of [] on = absurd (none_marked i (both_marked (answers_port text) no_marks i on).1)
  shares_of (None ∷ others) on = more None (with_change id change others) (λ k e. absurd cc) (shares_of others on)
  shares_of (Some k ∷ others) on = go (shares_of others) (same_id k.id id) refl on
    where
      go : (mark (agreed text (offered_by id others)) i ≡ true → LegShares (with_change id change others) id side i) → (b : Bool) → same_id k.id id ≡ b
          → mark (agreed text (cond b k.offered (offered_by id others))) i ≡ true → LegShares (Some (cond b (change k) k) ∷ with_change id change others) id side i
      go rest true mine on = record {
        before = [];
        call = change k;
        after = with_change id change others;
        are = refl;
        own = same k.id id mine;
        first = tt;
        shares = and_from (same_side side side) (mark (agreed text k.offered) i) (its_side side) on;
      }
      go rest false other on = more (Some k) (with_change id change others) (λ x e. not_own k x other (let one : k ≡ x = cc in one)) (rest on)

  module _ (call : Known) (after : List (Option Known)) (own : call.id ≡ id) (on : muxes (Some call) i side ≡ true) where
    marked_of : (calls before : List (Option Known)) → with_change id change calls ≡ before ++ Some call ∷ after → Others before → mark (agreed text (offered_by id calls)) i ≡ true
    marked_of [] [] are first = absurd cc
    marked_of [] (x ∷ before) are first = absurd cc
    marked_of (None ∷ others) [] are first = absurd (let head : None ≡ Some call = cc in cc)
    marked_of (None ∷ others) (x ∷ before) are first = marked_of others before (let rest : with_change id change others ≡ before ++ Some call ∷ after = cc in rest) first.1
    marked_of (Some k ∷ others) before are first = go (marked_of others) (same_id k.id id) refl before are first
      where
        go : ((before : List (Option Known)) → with_change id change others ≡ before ++ Some call ∷ after → Others before → mark (agreed text (offered_by id others)) i ≡ true)
            → (b : Bool) → same_id k.id id ≡ b → (before : List (Option Known)) → Some (cond b (change k) k) ∷ with_change id change others ≡ before ++ Some call ∷ after → Others before
            → mark (agreed text (cond b k.offered (offered_by id others))) i ≡ true
        go rest true mine [] are first =
            let one : change k ≡ call = cc in
            subst (λ (x : Known). mark x.muxed i ≡ true) (sym one) (and_parts (same_side call.side side) (mark call.muxed i) on).1
        go rest true mine (x ∷ before) are first = (let one : x ≡ Some (change k) = cc in absurd (first.0 (change k) one (same k.id id mine)))
        go rest false other [] are first = (let one : k ≡ call = cc in absurd (not_own k call other one own))
        go rest false other (x ∷ before) are first = rest before (let later : with_change id change others ≡ before ++ Some call ∷ after = cc in later) first.1

  exact : (calls : List (Option Known)) → (mark (agreed text (offered_by id calls)) i ≡ true) ↔ LegShares (with_change id change calls) id side i
  exact calls = (
    shares_of calls,
    λ is. marked_of is.call is.after is.own
        (sym (ap (λ (l : List (Option Known)). is_muxed l (length is.before) i side) is.are ∙ ap (λ (o : Option Known). muxes o i side) (indexed is.before (Some is.call) is.after)) ∙ is.shares)
        calls is.before is.are is.first,
  )

-- ---- an answer in a run

next_known : (w : World) (calls : List (Option Known)) (es : List Event) (e : Event) → known_from w calls (es ++ e ∷ []) ≡ (muxing_after (world_from w calls es) (known_from w calls es) e).calls
next_known w calls [] e = refl
next_known w calls (x ∷ es) e = next_known (stepped w calls x).world (muxing_after w calls x).calls es e

pub told_with_lines : ReadIsSpelled → StaysOne → (before : List Event) (id : CallId) (noise answer : List ℕ) → IsToldWithLines before id noise answer
told_with_lines spelled stays before id noise answer =
    let e : Event = Signalled (Answered id noise answer) in
    let w : World = world_from empty nobody before in
    let known : List (Option Known) = known_after before in record {
      passage = passage_at w known e;
      passes = next_passage empty nobody before e;
      tells = λ side text others is. (
        with_mux_lines text (agreed text (offered_by id known)),
        ap (λ (os : List Outcome). (signalled (Answered id noise answer) known os).told) is,
        subst (λ (l : List (Option Known)). IsToldBy (LegShares l id side) text (with_mux_lines text (agreed text (offered_by id known))))
            (sym (next_known empty nobody before e ∙ ap (λ (os : List Outcome). (signalled (Answered id noise answer) known os).calls) is))
            (told_by spelled stays text _ (offered_by id known) (λ i. exact id side text i known)),
      );
    }
