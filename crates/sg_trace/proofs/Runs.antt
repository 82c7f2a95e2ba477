-- What a run of the loop that plays a script leaves, by how far it has come.
use Rattle.std.proofs.Common.{◌≡◌, ◌⊎◌, ◌≤◌, ◌+◌, ◌^◌, ℕ, Bool, true, false, List, [], ◌++◌, length, Result, Ok, Err, IfErr, refl, sym, ap, ◌∙◌, subst, inl, inr, append_assoc, length-append, arith, IsOk, OnOk, Option, append-nil}
use Rattle.sg_trace.proofs.Common.{Added, AtEnd, Closes, Done, Effects, EndedBy, GoInOrder, HasFailed, IsCutLine, IsNextBy, IsPlayed, IsPrefixOf, IsReadBy}
use Rattle.sg_trace.proofs.Common.{IsRun, IsScriptPlayed, IsSettled, IsUnended, IsWant, LoopEnds, NoMemory, Read, Reading, Status, Tally, Tellings, TookIn}
use Rattle.sg_trace.proofs.Common.{Ways, Write, Wrote, added_more, course, wrote_more}
use Rattle.sg_trace.proofs.Ends.{closes_not, ended_quiet, played_not_read, want_not}
use Rattle.sg_trace.proofs.Loops.{IsPlaying, bounded, closed_at_end, closed_at_err, closed_between, cut_at_end, cut_under_way, ends_played, last_goes, took_all}

pub want_not_read : (status : Status) → IsWant status → status ≡ Read → ⊥
want_not_read status want = want_not status Read want (λ is. cc) (λ is. cc)

pub err_so : (a b : Status) → (let r : Result (Unit {0}) Status = Err a in r ≡ Err b) → a ≡ b
err_so a b is = cc

-- a failed read isn't one that telling brought about
pub read_so : (end status : Status) → (status ≡ end) ⊎ (status ≡ Write) → status ≡ Read → end ≡ Read
read_so end status (inl same) is = sym same ∙ is
read_so end status (inr wrote) is = absurd (want_not_read status (inl wrote) is)

-- settling reads nothing
pub settled_read : (r : Result (Unit {0}) Status) (old new : ℕ) (failed : Option Bool) → IfErr r (λ status. IsWant status) → new ≡ old → IfErr r (λ status. EndedBy (status ≡ Read) (IsWant status) old new failed)
settled_read (Ok u) old new failed only same = tt
settled_read (Err status) old new failed only same = ended_quiet _ _ old new failed same (want_not_read status only)

-- behind settling nothing waits
pub none_wait : {S D : Type 0} (r : Result (Unit {0}) Status) (e : Effects S D) (batch : ℕ) (s : S) (waited waits : List D) (stands : S → Type 0) (out : List ℕ) → IsSettled r e batch s waited waits stands out → OnOk r (waits ≡ [])
none_wait (Ok u) e batch s waited waits stands out settled = settled.1
none_wait (Err status) e batch s waited waits stands out settled = tt

pub sure_read : (r : Result (Unit {0}) Status) (old new : ℕ) (failed : Option Bool) → IsOk r → IfErr r (λ status. HasFailed (status ≡ Read) old new failed)
sure_read (Ok u) old new failed ok = tt
sure_read (Err status) old new failed ok = absurd cc

module _ {L D S : Type 0} (w : Ways L D) (e : Effects S D) (order : GoInOrder e) (begun : S) (batch : ℕ) (old now : Tellings) (taken drawn : List ℕ) (es ps : List D) (script : Reading)
    (going : IsPlaying w e begun old now taken script.waits drawn es ps script.version script.number script.offset)
    (left' : Tally) (got : List ℕ) (came : TookIn now.left left' got) (near : length (script.waits ++ got) ≤ 74097)
    (size : length taken ≡ script.offset) (room : script.offset + length script.waits + script.budget ≡ 2 ^ 30 + 1) (budget' : ℕ) (paid : length got + budget' ≡ script.budget)
    (is_prompt : Bool) (prompt : is_prompt ≡ true → ps ≡ []) where
  abbrev pub octets : List ℕ
  octets = taken ++ (script.waits ++ got)

  abbrev Ends : Status → Tally → Tally → List ℕ → List ℕ → Type 0
  Ends status written' drawn' draws out =
      IsRun w (e.tells begun) batch is_prompt status old (record { left = left'; written = written'; drawn = drawn' }) octets draws (e.tells begun es ++ out)

  -- however it ended
  run_so : (status : Status) (written' drawn' : Tally) (draws out : List ℕ) → Wrote now.written written' out → Added old.drawn drawn' draws → LoopEnds w (e.tells begun) batch status octets draws (e.tells begun es ++ out) left'
      → (is_prompt ≡ true → IsCutLine w (e.tells begun) octets draws (e.tells begun es ++ out)) → (status ≡ Read → IsUnended w (e.tells begun) octets draws (e.tells begun es ++ out)) → Ends status written' drawn' draws out
  run_so status written' drawn' draws out wrote drew ends at_once unended = record {
    took = took_all w e order begun batch old now taken drawn es ps script going left' got came near;
    drew = drew;
    wrote = wrote_more old.written now.written written' (e.tells begun es) out going.wrote wrote;
    ends = ends;
    at_once = at_once;
    unended = unended;
    bound = bounded taken script.waits got script.offset script.budget budget' size room paid;
  }

  between : (end status : Status) (out : List ℕ) → Closes end status e batch (e.after begun es) ps out → is_prompt ≡ true → IsCutLine w (e.tells begun) octets drawn (e.tells begun es ++ out)
  between end status out closed is = closed_between w e order begun batch old now taken drawn es ps script going left' got came near (prompt is) end status out closed

  -- where no line was read
  pub ended_so : (end status : Status) (new : Reading) (written' : Tally) (out : List ℕ) → Wrote now.written written' out → IsNextBy w.spelled w.followed (Err end) script new got left'
      → Closes end status e batch (e.after begun es) ps out → Ends status written' now.drawn drawn out
  ended_so end status new written' out wrote next closed =
      run_so status written' now.drawn drawn out wrote going.drew (closed_at_err w e order begun batch old now taken drawn es ps script going left' got came near end status new out next closed) (between end status out closed) (unended_so closed)
    where
      unended_so : Closes end status e batch (e.after begun es) ps out → status ≡ Read → IsUnended w (e.tells begun) octets drawn (e.tells begun es ++ out)
      unended_so (inl all) is = record {
        lines = taken;
        part = script.waits ++ got;
        split = refl;
        unended = subst (λ s. IsNextBy w.spelled w.followed (Err s) script new got left') (sym all.0 ∙ is) next;
        deeds = going.deeds;
        told = ap (λ (o : List ℕ). e.tells begun es ++ o) all.1 ∙ sym (order.told begun es ps) ∙ sym going.alike.told;
        version = script.version;
        number = script.number;
        offset = script.offset;
        goes = λ rest. ap (course w (taken ++ rest)) (sym (append-nil drawn)) ∙ going.goes rest [];
      }
      unended_so (inr cut) is = absurd (want_not_read status cut.0 is)

  -- at the source's end
  pub ended_whole : (status : Status) (written' : Tally) (out : List ℕ) → Wrote now.written written' out → script.waits ++ got ≡ [] → AtEnd left' → Closes Done status e batch (e.after begun es) ps out
      → Ends status written' now.drawn drawn out
  ended_whole status written' out wrote nothing end closed =
      run_so status written' now.drawn drawn out wrote going.drew (closed_at_end w e order begun batch old now taken drawn es ps script going left' got came near status out nothing end closed) (between Done status out closed)
      (λ is. absurd (closes_not e batch Done status Read (e.after begun es) ps out closed (λ same. cc) (λ same. cc) (λ same. cc) is))

  -- where telling failed
  pub cut_short : (status : Status) (written' : Tally) (out : List ℕ) → Wrote now.written written' out → IsWant status × IsPrefixOf out (e.tells (e.after begun es) ps) × (length ps ≤ batch) → Ends status written' now.drawn drawn out
  cut_short status written' out wrote cut =
      run_so status written' now.drawn drawn out wrote going.drew (cut_at_end w e order begun batch old now taken drawn es ps script going left' got came near status out cut) (between Done status out (inr cut))
      (λ is. absurd (want_not_read status cut.0 is))

  module _ (l : L) (new : Reading) (read : IsReadBy w.spelled w.followed l script new got) where
    -- in a line
    pub ended_in : (on : w.is_last l ≡ false) (status : Status) (written' drawn' : Tally) (waits' : List D) (stands : S → Type 0) (draws out : List ℕ) → Wrote now.written written' out → Added now.drawn drawn' draws
        → IsPlayed (Err status) e (w.gives l) batch (e.after begun es) ps waits' stands draws out → Ends status written' drawn' (drawn ++ draws) out
    ended_in on status written' drawn' waits' stands draws out wrote drew played =
        run_so status written' drawn' (drawn ++ draws) out wrote (added_more old.drawn now.drawn drawn' drawn draws going.drew drew)
        (ends_played w e order begun batch old now taken drawn es ps script going left' got came near l new read on status waits' stands draws out played)
        (λ is. cut_under_way w e order begun batch old now taken drawn es ps script going left' got came near l new read on status waits' stands draws out (prompt is) played)
        (λ is. absurd (played_not_read status e (w.gives l) batch (e.after begun es) ps waits' stands draws out played is))

    -- behind the last line, once what waits is told
    pub behind_last : (last : w.is_last l ≡ true) (same : new.budget ≡ budget') (few : length new.waits ≤ 4096) (written' : Tally) (waits' : List D) (stands : S → Type 0) (out : List ℕ) → Wrote now.written written' out
        → (r : Result (Unit {0}) Status) → IsSettled r e batch (e.after begun es) ps waits' stands out
        → IsScriptPlayed r w e begun batch is_prompt old (record { left = left'; written = written'; drawn = now.drawn }) new stands octets drawn (e.tells begun es ++ out)
    behind_last last same few written' waits' stands out wrote (Ok u) settled = record {
      lines = taken ++ read.line;
      last = l;
      is_last = last;
      deeds = going.deeds;
      split = ap (λ (o : List ℕ). taken ++ o) read.split ∙ sym (append_assoc taken read.line new.waits);
      size = (let offset = read.offset in omega (arith, length-append taken read.line, size, offset));
      within = read.within;
      near = few;
      room = omega (arith, size, room, paid, same, length-append taken (script.waits ++ got), length-append script.waits got);
      took = took_all w e order begun batch old now taken drawn es ps script going left' got came near;
      drew = going.drew;
      wrote = wrote_more old.written now.written written' (e.tells begun es) out going.wrote wrote;
      goes = last_goes w e order begun batch old now taken drawn es ps script going left' got came near l new read last;
      told = ap (λ (o : List ℕ). e.tells begun es ++ o) settled.0 ∙ sym (order.told begun es ps) ∙ sym going.alike.told;
      stands = subst stands (sym (order.after begun es ps) ∙ sym going.alike.left) settled.2;
    }
    behind_last last same few written' waits' stands out wrote (Err status) settled = cut_short status written' out wrote settled
