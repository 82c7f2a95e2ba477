-- How the loop that plays a script goes on, line by line, and how it ends.
use Rattle.std.proofs.Common.{◌≡◌, ◌+◌, ◌≤◌, ◌^◌, ℕ, true, false, List, [], ◌∷◌, ◌++◌, length, Option, Some, None, Ok, Err, refl, sym, ap, ◌∙◌, subst, inl, inr, append_assoc, length-append, arith, append-nil}
pub use Rattle.sg_trace.specs.Loop.{Tellings}
use Rattle.sg_trace.specs.Trace.{AtCapture, AtEnd as BehindAll, AtFault, ForDraw, Stop}
use Rattle.sg_trace.proofs.Common.{Added, AreAlike, AtEnd, Closes, Course, Done, Effects, FirstFailsBy, Given, GoInOrder, HasNoLast, IsAll, IsCut, IsCutLine}
use Rattle.sg_trace.proofs.Common.{IsCutShort, IsFaultBy, IsNextBy, IsPlayed, IsPrefixOf, IsReadBy, IsTaken, IsWant, IsWhole, LoopEnds, NoEnd, NoMemory}
use Rattle.sg_trace.proofs.Common.{Noise, Read, Reading, Script, ScriptFault, Status, Tally, TookIn, Ways, Write, Wrote, added_more, added_none, behind_given}
use Rattle.sg_trace.proofs.Common.{behind_line, cond-false, cond-true, course, course_from, deeds_of, ended, lines_of, lines_of_whole, read_at, took_more}
use Rattle.sg_trace.proofs.Common.{took_none, with_deeds, wrote_more, wrote_none}

-- ---- courses

module _ {L D : Type 0} (w : Ways L D) where
  abbrev from : ℕ → ℕ → ℕ → List (List ℕ) → List ℕ → Course D
  from = course_from w

  -- a line that is read
  reads : (version n at : ℕ) (line rest : List ℕ) (l : L) (draws : List ℕ) → IsWhole line → read_at w version n at line ≡ Ok l
      → from version n at (lines_of (line ++ rest)) draws ≡ behind_line w version n (at + length line) (Ok l) (λ v. from v (n + 1) (at + length line) (lines_of rest)) draws
  reads version n at line rest l draws whole is =
      ap (λ ls. from version n at ls draws) (lines_of_whole line rest whole)
      ∙ ap (λ r. behind_line w version n (at + length line) r (λ v. from v (n + 1) (at + length line) (lines_of rest)) draws) is

  -- one behind which others may stand
  reads_on : (version n at : ℕ) (line rest : List ℕ) (l : L) (draws : List ℕ) → w.is_last l ≡ false → IsWhole line → read_at w version n at line ≡ Ok l
      → from version n at (lines_of (line ++ rest)) draws ≡ behind_given (w.gives l draws) draws (from (w.followed version l) (n + 1) (at + length line) (lines_of rest))
  reads_on version n at line rest l draws on whole is = reads version n at line rest l draws whole is ∙ cond-false (w.is_last l) _ _ on

  -- the last
  reads_last : (version n at : ℕ) (line rest : List ℕ) (l : L) (draws : List ℕ) → w.is_last l ≡ true → IsWhole line → read_at w version n at line ≡ Ok l
      → from version n at (lines_of (line ++ rest)) draws ≡ ended (AtCapture (at + length line)) draws
  reads_last version n at line rest l draws last whole is = reads version n at line rest l draws whole is ∙ cond-true (w.is_last l) _ _ last

  -- a line outside the grammar
  stops_at : (version n at : ℕ) (octets : List ℕ) (fault : ScriptFault) (draws : List ℕ) → FirstFailsBy w.spelled version n at octets fault → from version n at (lines_of octets) draws ≡ ended (AtFault n fault) draws
  stops_at version n at octets fault draws fails =
      ap (λ ls. from version n at ls draws) fails.split
      ∙ ap (λ r. behind_line w version n (at + length fails.line) r (λ v. from v (n + 1) (at + length fails.line) fails.others) draws) fails.fails

  with_deeds_again : (ds es : List D) (c : Course D) → with_deeds ds (with_deeds es c) ≡ with_deeds (ds ++ es) c
  with_deeds_again ds es c = ap (λ (l : List D). record c { deeds = l }) (sym (append_assoc ds es c.deeds))

  -- the deeds of a line alone
  alone : (g : Option (Given D)) (draws : List ℕ) → (behind_given g draws (ended BehindAll)).deeds ≡ deeds_of g
  alone None draws = refl
  alone (Some g) draws = append-nil g.deeds

  alone_no_last : (g : Option (Given D)) (draws : List ℕ) → HasNoLast (behind_given g draws (ended BehindAll))
  alone_no_last None draws = λ at is. cc
  alone_no_last (Some g) draws = λ at is. cc

-- ---- deeds that tell the same

module _ {S D : Type 0} (e : Effects S D) where
  pub then_alike : (s : S) (ds es fs : List D) → AreAlike e s ds es → AreAlike e s es fs → AreAlike e s ds fs
  then_alike s ds es fs a b = record { told = a.told ∙ b.told; left = a.left ∙ b.left }

  module _ (order : GoInOrder e) where
    -- with the same deeds behind them
    pub alike_more : (s : S) (ds es more : List D) → AreAlike e s ds es → AreAlike e s (ds ++ more) (es ++ more)
    alike_more s ds es more a = record {
      told = order.told s ds more ∙ (λ i. a.told i ++ e.tells (a.left i) more) ∙ sym (order.told s es more);
      left = order.after s ds more ∙ ap (λ (t : S). e.after t more) a.left ∙ sym (order.after s es more);
    }

    -- with the same deeds before them
    pub alike_behind : (s : S) (before ds es : List D) → AreAlike e (e.after s before) ds es → AreAlike e s (before ++ ds) (before ++ es)
    alike_behind s before ds es a = record {
      told = order.told s before ds ∙ ap (λ (o : List ℕ). e.tells s before ++ o) a.told ∙ sym (order.told s before es);
      left = order.after s before ds ∙ a.left ∙ sym (order.after s before es);
    }

-- ---- the invariant

module _ {L D S : Type 0} (w : Ways L D) (e : Effects S D) (begun : S) where
  -- Whole lines were taken and octets drawn. Of what is like their deeds some were told, and the others wait.
  pub record IsPlaying (old now : Tellings) (taken waits drawn : List ℕ) (es ps : List D) (version n at : ℕ) : Type 0 where
    pub deeds : List D
    pub alike : AreAlike e begun deeds (es ++ ps)
    pub took : TookIn old.left now.left (taken ++ waits)
    pub drew : Added old.drawn now.drawn drawn
    pub wrote : Wrote old.written now.written (e.tells begun es)
    pub goes : (rest more : List ℕ) → course w (taken ++ rest) (drawn ++ more) ≡ with_deeds deeds (course_from w version n at (lines_of rest) more)

none_before : (out rest : List ℕ) → [] ≡ out ++ rest → out ≡ []
none_before [] rest is = refl
none_before (x ∷ xs) rest is = absurd cc

module _ {L D S : Type 0} (w : Ways L D) (e : Effects S D) (order : GoInOrder e) (begun : S) where
  abbrev run : List ℕ → List ℕ → Course D
  run = course w

  -- nothing is read, drawn, told or written yet
  pub begins : (old : Tellings) (ps : List D) (script : Reading) → ps ≡ [] → script ≡ record { waits = []; version = 1; number = 1; offset = 0; budget = 2 ^ 30 + 1 }
      → IsPlaying w e begun old old [] script.waits [] [] ps script.version script.number script.offset
  begins old ps script none is = record {
    deeds = [];
    alike = record { told = ap (e.tells begun) (sym none); left = ap (e.after begun) (sym none) };
    took = subst (λ (s : Reading). TookIn old.left old.left s.waits) (sym is) (took_none old.left);
    drew = added_none old.drawn;
    wrote = subst (Wrote old.written old.written) (sym (order.none_told begun)) (wrote_none old.written);
    goes = λ rest more. (λ i. course_from w (sym is i).version (sym is i).number (sym is i).offset (lines_of rest) more);
  }

  -- ---- what is written

  -- where what is like all deeds was told
  whole_so : (octets drawn : List ℕ) (deeds es : List D) (stop : Stop) → AreAlike e begun deeds es → run octets drawn ≡ with_deeds deeds (ended stop [])
      → IsAll w (e.tells begun) octets drawn (e.tells begun es) stop
  whole_so octets drawn deeds es stop alike is = record {
    stops = ap (λ (c : Course D). c.stop) is;
    left = ap (λ (c : Course D). c.left) is;
    told = sym (ap (λ (c : Course D). e.tells begun c.deeds) is ∙ ap (e.tells begun) (append-nil deeds) ∙ alike.told);
  }

  -- where a prefix of what came behind was written
  cut_so : (batch : ℕ) (octets played ahead draws : List ℕ) (es late : List D) (out : List ℕ) → octets ≡ played ++ ahead → HasNoLast (run played draws) → e.tells begun (run played draws).deeds ≡ e.tells begun (es ++ late)
      → IsPrefixOf out (e.tells (e.after begun es) late) → length late ≤ batch → length ahead ≤ 74097 → IsCut w (e.tells begun) batch octets draws (e.tells begun es ++ out)
  cut_so batch octets played ahead draws es late out split no_last alike part few near = record {
    played = played;
    ahead = ahead;
    split = split;
    near = near;
    no_last = no_last;
    told = es;
    late = late;
    alike = alike;
    few = few;
    begun = (out, refl);
    within = (part.0, order.told begun es late ∙ ap (λ (o : List ℕ). e.tells begun es ++ o) part.1 ∙ sym (append_assoc (e.tells begun es) out part.0));
  }

  -- a status of a run that was cut
  ends_cut : (batch : ℕ) (status : Status) (octets draws out : List ℕ) (left : Tally) → IsWant status → IsCut w (e.tells begun) batch octets draws out
      → LoopEnds w (e.tells begun) batch status octets draws out left
  ends_cut batch status octets draws out left (inl is) cut = subst (λ s. LoopEnds w (e.tells begun) batch s octets draws out left) (sym is) cut
  ends_cut batch status octets draws out left (inr is) cut = subst (λ s. LoopEnds w (e.tells begun) batch s octets draws out left) (sym is) cut

  module _ (batch : ℕ) (old now : Tellings) (taken drawn : List ℕ) (es ps : List D) (script : Reading)
      (going : IsPlaying w e begun old now taken script.waits drawn es ps script.version script.number script.offset)
      (left' : Tally) (got : List ℕ) (came : TookIn now.left left' got) (near : length (script.waits ++ got) ≤ 74097) where
    -- the octets read by then
    abbrev pub octets : List ℕ
    octets = taken ++ (script.waits ++ got)

    abbrev Ends : Status → List ℕ → Type 0
    Ends status out = LoopEnds w (e.tells begun) batch status octets drawn (e.tells begun es ++ out) left'

    pub took_all : TookIn old.left left' octets
    took_all = subst (TookIn old.left left') (append_assoc taken script.waits got) (took_more old.left now.left left' (taken ++ script.waits) got going.took came)

    course_is : (draws : List ℕ) → run octets (drawn ++ draws) ≡ with_deeds going.deeds (course_from w script.version script.number script.offset (lines_of (script.waits ++ got)) draws)
    course_is draws = going.goes (script.waits ++ got) draws

    no_draw : run octets drawn ≡ run octets (drawn ++ [])
    no_draw = ap (run octets) (sym (append-nil drawn))

    -- the lines that were taken, alone
    lines_with : (draws : List ℕ) → run taken (drawn ++ draws) ≡ with_deeds going.deeds (ended BehindAll draws)
    lines_with draws = ap (λ (o : List ℕ). run o (drawn ++ draws)) (sym (append-nil taken)) ∙ going.goes [] draws

    lines_are : run taken drawn ≡ with_deeds going.deeds (ended BehindAll [])
    lines_are = ap (run taken) (sym (append-nil drawn)) ∙ lines_with []

    lines_no_last : HasNoLast (run taken drawn)
    lines_no_last at is = let both : BehindAll ≡ AtCapture at = sym (ap (λ (c : Course D). c.stop) lines_are) ∙ is in cc

    lines_told : e.tells begun (run taken drawn).deeds ≡ e.tells begun (es ++ ps)
    lines_told = ap (λ (c : Course D). e.tells begun c.deeds) lines_are ∙ ap (e.tells begun) (append-nil going.deeds) ∙ going.alike.told

    -- telling what waits failed
    pub cut_at_end : (status : Status) (out : List ℕ) → IsWant status × IsPrefixOf out (e.tells (e.after begun es) ps) × (length ps ≤ batch) → Ends status out
    cut_at_end status out cut = ends_cut batch status octets drawn (e.tells begun es ++ out) left' cut.0 (cut_so batch octets taken (script.waits ++ got) drawn es ps out refl lines_no_last lines_told cut.1 cut.2 near)

    all_told : (out : List ℕ) → out ≡ e.tells (e.after begun es) ps → e.tells begun (es ++ ps) ≡ e.tells begun es ++ out
    all_told out is = order.told begun es ps ∙ ap (λ (o : List ℕ). e.tells begun es ++ o) (sym is)

    -- at an end of all that was read
    closed_whole : (end status : Status) (stop : Stop) (out : List ℕ) → course_from w script.version script.number script.offset (lines_of (script.waits ++ got)) [] ≡ ended stop []
        → (IsAll w (e.tells begun) octets drawn (e.tells begun es ++ out) stop → Ends end out) → Closes end status e batch (e.after begun es) ps out → Ends status out
    closed_whole end status stop out stops ends (inl all) =
        subst (λ s. Ends s out) (sym all.0)
        (ends (subst (λ (o : List ℕ). IsAll w (e.tells begun) octets drawn o stop) (all_told out all.1)
        (whole_so octets drawn going.deeds (es ++ ps) stop going.alike (no_draw ∙ course_is [] ∙ ap (with_deeds going.deeds) stops))))
    closed_whole end status stop out stops ends (inr cut) = cut_at_end status out cut

    -- at the end of the source
    pub closed_at_end : (status : Status) (out : List ℕ) → script.waits ++ got ≡ [] → AtEnd left' → Closes Done status e batch (e.after begun es) ps out → Ends status out
    closed_at_end status out none end closed =
        closed_whole Done status BehindAll out (ap (λ (l : List ℕ). course_from w script.version script.number script.offset (lines_of l) []) none) (λ whole. (whole, end)) closed

    closed_at_fault : (fault : ScriptFault) (status : Status) (out : List ℕ) → IsFaultBy w.spelled script.version script.number script.offset (script.waits ++ got) fault left'
        → Closes (Script script.number fault) status e batch (e.after begun es) ps out → Ends status out
    closed_at_fault fault status out is closed =
        let stops = stops_at w script.version script.number script.offset (script.waits ++ got) fault [] is.first in
        closed_whole (Script script.number fault) status (AtFault script.number fault) out stops
        (λ whole. (
          whole,
          is.ended,
          λ other more.
              ap (λ (l : List ℕ). run l drawn) (append_assoc taken (script.waits ++ got) more)
              ∙ ap (run (taken ++ ((script.waits ++ got) ++ more))) (sym (append-nil drawn))
              ∙ going.goes ((script.waits ++ got) ++ more) []
              ∙ ap (with_deeds going.deeds) (stops_at w script.version script.number script.offset ((script.waits ++ got) ++ more) fault [] (is.still other more) ∙ sym stops)
              ∙ sym (no_draw ∙ course_is []),
        )) closed

    -- where the source failed
    closed_at_read : (status : Status) (out : List ℕ) → NoEnd (script.waits ++ got) → Closes Read status e batch (e.after begun es) ps out → Ends status out
    closed_at_read status out none (inl all) = subst (λ s. Ends s out) (sym all.0) (record {
      lines = taken;
      part = script.waits ++ got;
      split = refl;
      unended = none;
      near = near;
      all = subst (λ (o : List ℕ). IsAll (w) (e.tells begun) taken drawn o BehindAll) (all_told out all.1) (whole_so taken drawn going.deeds (es ++ ps) BehindAll going.alike lines_are);
    })
    closed_at_read status out none (inr cut) = cut_at_end status out cut

    -- where no memory was left for a line
    closed_at_memory : (status : Status) (out : List ℕ) → Closes NoMemory status e batch (e.after begun es) ps out → Ends status out
    closed_at_memory status out (inl all) =
        subst (λ s. Ends s out) (sym all.0)
        (subst (λ (o : List ℕ). IsCut w (e.tells begun) batch octets drawn o) (append-nil (e.tells begun (es ++ ps)) ∙ all_told out all.1)
        (cut_so batch octets taken (script.waits ++ got) drawn (es ++ ps) [] [] refl lines_no_last (lines_told ∙ ap (e.tells begun) (sym (append-nil (es ++ ps)))) (e.tells (e.after begun (es ++ ps)) [], refl) (omega arith) near))
    closed_at_memory status out (inr cut) = cut_at_end status out cut

    -- where no line was read
    pub closed_at_err : (end status : Status) (new : Reading) (out : List ℕ) → IsNextBy w.spelled w.followed (Err end) script new got left' → Closes end status e batch (e.after begun es) ps out → Ends status out
    closed_at_err (Script n fault) status new out next closed =
        closed_at_fault fault status out (subst (λ (m : ℕ). IsFaultBy w.spelled script.version m script.offset (script.waits ++ got) fault left') next.0 next.1)
        (subst (λ (m : ℕ). Closes (Script m fault) status e batch (e.after begun es) ps out) next.0 closed)
    closed_at_err Read status new out next closed = closed_at_read status out next closed
    closed_at_err NoMemory status new out next closed = closed_at_memory status out closed
    closed_at_err other status new out next closed = absurd next

    -- where nothing waits
    module _ (none : ps ≡ []) where
      lines_tell : e.tells begun going.deeds ≡ e.tells begun es
      lines_tell = going.alike.told ∙ ap (λ (l : List D). e.tells begun (es ++ l)) none ∙ ap (e.tells begun) (append-nil es)

      told_with : (draws : List ℕ) → e.tells begun (run taken (drawn ++ draws)).deeds ≡ e.tells begun es
      told_with draws = ap (λ (c : Course D). e.tells begun c.deeds) (lines_with draws) ∙ ap (e.tells begun) (append-nil going.deeds) ∙ lines_tell

      -- no line is under way
      between : (out : List ℕ) → out ≡ [] → IsCutLine w (e.tells begun) octets drawn (e.tells begun es ++ out)
      between out bare =
          let told : e.tells begun (run taken drawn).deeds ≡ e.tells begun es = ap (λ (d : List ℕ). e.tells begun (run taken d).deeds) (sym (append-nil drawn)) ∙ told_with [] in
          let all : e.tells begun es ++ out ≡ e.tells begun es = ap (λ (o : List ℕ). e.tells begun es ++ o) bare ∙ append-nil (e.tells begun es) in
          record {
            lines = taken;
            line = [];
            ahead = script.waits ++ got;
            split = refl;
            one = inr refl;
            near = near;
            sound = ap (λ (c : Course D). c.stop) lines_are;
            begun = ([], all ∙ sym told ∙ sym (append-nil (e.tells begun (run taken drawn).deeds)));
            within = ([], ap (λ (o : List ℕ). e.tells begun (run o drawn).deeds) (append-nil taken) ∙ told ∙ sym all ∙ sym (append-nil (e.tells begun es ++ out)));
          }

      pub closed_between : (end status : Status) (out : List ℕ) → Closes end status e batch (e.after begun es) ps out → IsCutLine w (e.tells begun) octets drawn (e.tells begun es ++ out)
      closed_between end status out closed = between out (bare closed)
        where
          nothing : [] ≡ e.tells (e.after begun es) ps
          nothing = sym (ap (e.tells (e.after begun es)) none ∙ order.none_told (e.after begun es))

          bare : Closes end status e batch (e.after begun es) ps out → out ≡ []
          bare (inl all) = all.1 ∙ sym nothing
          bare (inr cut) = none_before out cut.1.0 (nothing ∙ cut.1.1)

    -- behind the last line, whatever stands there
    pub last_goes : (l : L) (new : Reading) (read : IsReadBy w.spelled w.followed l script new got) → w.is_last l ≡ true → (rest : List ℕ)
        → run ((taken ++ read.line) ++ rest) drawn ≡ with_deeds going.deeds (ended (AtCapture new.offset) [])
    last_goes l new read last rest =
        (λ i. run (append_assoc taken read.line rest i) (sym (append-nil drawn) i))
        ∙ going.goes (read.line ++ rest) []
        ∙ ap (with_deeds going.deeds) (reads_last w script.version script.number script.offset read.line rest l [] last read.whole read.is)
        ∙ ap (λ (at : ℕ). with_deeds going.deeds (ended (AtCapture at) [])) (sym read.offset)

    module _ (l : L) (new : Reading) (read : IsReadBy w.spelled w.followed l script new got) (on : w.is_last l ≡ false) where
      abbrev later : List ℕ → List ℕ → Course D
      later rest = course_from w (w.followed script.version l) (script.number + 1) (script.offset + length read.line) (lines_of rest)

      line_goes : (rest draws : List ℕ) → course_from w script.version script.number script.offset (lines_of (read.line ++ rest)) draws ≡ behind_given (w.gives l draws) draws (later rest)
      line_goes rest draws = reads_on w script.version script.number script.offset read.line rest l draws on read.whole read.is

      -- all octets read, with those drawn
      all_is : (draws : List ℕ) → run octets (drawn ++ draws) ≡ with_deeds going.deeds (behind_given (w.gives l draws) draws (later new.waits))
      all_is draws =
          course_is draws ∙ ap (λ (r : List ℕ). with_deeds going.deeds (course_from w script.version script.number script.offset (lines_of r) draws)) read.split
          ∙ ap (with_deeds going.deeds) (line_goes new.waits draws)

      -- the line's deeds behind all others
      line_alike : (ds : List D) → AreAlike e begun (going.deeds ++ ds) (es ++ (ps ++ ds))
      line_alike ds = subst (AreAlike e begun (going.deeds ++ ds)) (append_assoc es ps ds) (alike_more e order begun going.deeds (es ++ ps) ds going.alike)

      -- the lines as far as this one, alone
      played_goes : (draws : List ℕ) → run (taken ++ read.line) (drawn ++ draws) ≡ with_deeds going.deeds (behind_given (w.gives l draws) draws (ended BehindAll))
      played_goes draws =
          going.goes read.line draws
          ∙ ap (λ (r : List ℕ). with_deeds going.deeds (course_from w script.version script.number script.offset (lines_of r) draws)) (sym (append-nil read.line))
          ∙ ap (with_deeds going.deeds) (line_goes [] draws)

      played_is : (draws : List ℕ) → (run (taken ++ read.line) (drawn ++ draws)).deeds ≡ going.deeds ++ deeds_of (w.gives l draws)
      played_is draws = ap (λ (c : Course D). c.deeds) (played_goes draws) ∙ ap (λ (ds : List D). going.deeds ++ ds) (alone w (w.gives l draws) draws)

      cut_played : (draws out : List ℕ) → IsCutShort e (w.gives l) batch (e.after begun es) ps draws out → IsCut w (e.tells begun) batch octets (drawn ++ draws) (e.tells begun es ++ out)
      cut_played draws out cut =
          cut_so batch octets (taken ++ read.line) new.waits (drawn ++ draws) es (ps ++ deeds_of (w.gives l draws)) out
          (ap (λ (o : List ℕ). taken ++ o) read.split ∙ sym (append_assoc taken read.line new.waits))
          (λ at is. alone_no_last w (w.gives l draws) draws at (sym (ap (λ (c : Course D). c.stop) (played_goes draws)) ∙ is))
          (ap (e.tells begun) (played_is draws) ∙ (line_alike (deeds_of (w.gives l draws))).told) cut.told cut.few
          (omega (arith, near, ap length read.split, length-append read.line new.waits))

      -- where a line ends the run
      pub ends_played : (status : Status) (waits' : List D) (stands : S → Type 0) (draws out : List ℕ) → IsPlayed (Err status) e (w.gives l) batch (e.after begun es) ps waits' stands draws out
          → LoopEnds w (e.tells begun) batch status octets (drawn ++ draws) (e.tells begun es ++ out) left'
      ends_played Write waits' stands draws out cut = cut_played draws out cut
      ends_played NoMemory waits' stands draws out cut = cut_played draws out cut
      ends_played Noise waits' stands draws out is =
          let stops : run octets (drawn ++ draws) ≡ with_deeds going.deeds (ended ForDraw []) =
          all_is draws ∙ ap (λ (d : List ℕ). with_deeds going.deeds (behind_given (w.gives l d) d (later new.waits))) is.drew ∙ ap (λ (g : Option (Given D)). with_deeds going.deeds (behind_given g [] (later new.waits))) is.stops in
          subst (λ (o : List ℕ). IsAll w (e.tells begun) octets (drawn ++ draws) o ForDraw) (all_told out is.told) (whole_so octets (drawn ++ draws) going.deeds (es ++ ps) ForDraw going.alike stops)
      ends_played other waits' stands draws out is = absurd is

      -- where nothing waited
      under_way : (draws out : List ℕ) → ps ≡ [] → IsCutShort e (w.gives l) batch (e.after begun es) ps draws out → IsCutLine w (e.tells begun) octets (drawn ++ draws) (e.tells begun es ++ out)
      under_way draws out none short = record {
        lines = taken;
        line = read.line;
        ahead = new.waits;
        split = ap (λ (o : List ℕ). taken ++ o) read.split;
        one = inl read.whole;
        near = subst (λ (o : List ℕ). length o ≤ 74097) read.split near;
        sound = ap (λ (c : Course D). c.stop) (lines_with draws);
        begun = (out, ap (λ (o : List ℕ). o ++ out) (sym (told_with none draws)));
        within = (
          short.told.0,
          ap (e.tells begun) (played_is draws) ∙ (line_alike (deeds_of (w.gives l draws))).told ∙ order.told begun es (ps ++ deeds_of (w.gives l draws))
              ∙ ap (λ (o : List ℕ). e.tells begun es ++ o) short.told.1 ∙ sym (append_assoc (e.tells begun es) out short.told.0),
        );
      }

      pub cut_under_way : (status : Status) (waits' : List D) (stands : S → Type 0) (draws out : List ℕ) → ps ≡ [] → IsPlayed (Err status) e (w.gives l) batch (e.after begun es) ps waits' stands draws out
          → IsCutLine w (e.tells begun) octets (drawn ++ draws) (e.tells begun es ++ out)
      cut_under_way status waits' stands draws out none is = under_way draws out none (short status is)
        where
          short : (s : Status) → IsPlayed (Err s) e (w.gives l) batch (e.after begun es) ps waits' stands draws out → IsCutShort e (w.gives l) batch (e.after begun es) ps draws out
          short Write cut = cut
          short NoMemory cut = cut
          short Noise lacks =
              let bare : deeds_of (w.gives l draws) ≡ [] = ap (λ (d : List ℕ). deeds_of (w.gives l d)) lacks.drew ∙ ap deeds_of lacks.stops in record {
                told = ([], ap (λ (ds : List D). e.tells (e.after begun es) (ps ++ ds)) bare ∙ ap (e.tells (e.after begun es)) (append-nil ps) ∙ sym lacks.told ∙ sym (append-nil out));
                few = omega (arith, ap length none, ap length bare, length-append ps (deeds_of (w.gives l draws)));
              }
          short other never = absurd never

      -- where it doesn't
      pub goes_on : (drawn' written' : Tally) (waits' : List D) (stands : S → Type 0) (draws out : List ℕ) (taken_so : IsTaken e (w.gives l) (e.after begun es) ps waits' stands draws out)
          → Added now.drawn drawn' draws → Wrote now.written written' out
          → IsPlaying w e begun old (record { left = left'; written = written'; drawn = drawn' }) (taken ++ read.line) new.waits (drawn ++ draws) (es ++ taken_so.told) waits' new.version new.number new.offset
      goes_on drawn' written' waits' stands draws out taken_so drew wrote = record {
        deeds = going.deeds ++ taken_so.fresh;
        alike =
            subst (AreAlike e begun (going.deeds ++ taken_so.fresh)) (sym (append_assoc es taken_so.told waits'))
            (then_alike e begun (going.deeds ++ taken_so.fresh) (es ++ (ps ++ taken_so.fresh)) (es ++ (taken_so.told ++ waits')) (line_alike taken_so.fresh)
            (alike_behind e order begun es (ps ++ taken_so.fresh) (taken_so.told ++ waits') taken_so.alike));
        took = subst (TookIn old.left left') (ap (λ (o : List ℕ). taken ++ o) read.split ∙ sym (append_assoc taken read.line new.waits)) took_all;
        drew = added_more old.drawn now.drawn drawn' drawn draws going.drew drew;
        wrote = subst (Wrote old.written written') (ap (λ (o : List ℕ). e.tells begun es ++ o) taken_so.written ∙ sym (order.told begun es taken_so.told)) (wrote_more old.written now.written written' (e.tells begun es) out going.wrote wrote);
        goes = λ rest more.
            (λ i. run (append_assoc taken read.line rest i) (append_assoc drawn draws more i))
            ∙ going.goes (read.line ++ rest) (draws ++ more)
            ∙ ap (with_deeds going.deeds) (line_goes rest (draws ++ more) ∙ ap (λ (g : Option (Given D)). behind_given g (draws ++ more) (later rest)) (taken_so.goes more))
            ∙ with_deeds_again w going.deeds taken_so.fresh _
            ∙ (λ i. with_deeds (going.deeds ++ taken_so.fresh) (course_from w (sym read.version i) (sym read.number i) (sym read.offset i) (lines_of rest) more));
      }

-- how many octets were read
pub bounded : (taken waits got : List ℕ) (at budget budget' : ℕ) → length taken ≡ at → at + length waits + budget ≡ 2 ^ 30 + 1 → length got + budget' ≡ budget → length (taken ++ (waits ++ got)) ≤ 2 ^ 30 + 1
bounded taken waits got at budget budget' size room paid = omega (arith, size, room, paid, length-append taken (waits ++ got), length-append waits got)

-- how many octets are ahead, by how many fewer may be asked for
pub near_by : (waits got : List ℕ) (budget budget' : ℕ) → length waits + budget ≤ budget' + 74097 → length got + budget' ≡ budget → length (waits ++ got) ≤ 74097
near_by waits got budget budget' few paid = omega (arith, few, paid, length-append waits got)
