-- A script, and the capture behind it, make one run; and a run without a fault comes to its end.
use Rattle.std.proofs.Common.{◌≡◌, ◌⊎◌, ◌-◌, ◌≤◌, ◌^◌, ℕ, false, List, [], ◌++◌, length, map, drop, Option, Some, None, refl, sym, ap, ◌∙◌, subst, inl, inr, append_assoc, length-append, arith, IfSome, append-nil}
use Rattle.sg_capture.proofs.Common.{AtCapture, AtEnd, AtFault, Capture, CaptureEnds, CaptureFault, CaptureStop, CaptureTrace, EndsReading, Event, Happens}
use Rattle.sg_capture.proofs.Common.{InCapture, InScript, IsAllTold, IsBehindLast, IsCapture, IsCompleteCapture, IsCutCapture, IsCutReading, IsWholeCapture}
use Rattle.sg_capture.proofs.Common.{Occurrence, Reading, ScriptFault, State, Status, Tally, Tellings, TookIn, Trace, Unended, World, Wrote, all_behind}
use Rattle.sg_capture.proofs.Common.{as_trace, capture_occurs, capture_of, captured, drawing, drop-append_seam, effects, empty, of_capture, output, output_of}
use Rattle.sg_capture.proofs.Common.{start, stopped, then_capture, took_more, took_none, with_events, world_after, wrote_more, wrote_none}
use Rattle.sg_capture.proofs.Scripts.{captured_at, output_so, script_so}
use Rattle.sg_capture.proofs.Outputs.{happens_events, output_of-append}
use Rattle.sg_trace.proofs.Capturings.{happens_output}
use Rattle.sg_edge.proofs.Links.{added_none}
use Rattle.sg_pcap.specs.declared.faults.CaptureFault.TheVariants as capture_faults
use Rattle.sg_trace.specs.declared.status.Status.TheVariants as statuses

module _ (old mid new : Tellings) (script : Reading) (stands_for : State → Type 0) (octets draws out : List ℕ) (so_far : IsBehindLast of_capture effects (start false) old mid script stands_for octets draws out)
    (got out' : List ℕ) (took : TookIn mid.left new.left got) (wrote : Wrote mid.written new.written out') (drawn : new.drawn ≡ mid.drawn) (few : length got ≤ script.budget)
    (last : ℕ) (moment : last ≡ (world_after empty so_far.deeds).moment) where
  abbrev most : ℕ
  most = 2 ^ 30 - script.offset

  abbrev script_trace : Trace
  script_trace = with_events so_far.deeds (stopped (AtCapture script.offset) (drawing []))

  told_before : out ≡ output so_far.deeds
  told_before = so_far.told ∙ output_so so_far.deeds

  -- what these octets behind the lines give
  captured_is : (rest : List ℕ) → captured (so_far.lines ++ rest) draws ≡ then_capture script_trace (capture_of most rest)
  captured_is rest =
      captured_at (so_far.lines ++ rest) draws script_trace (script_so (so_far.lines ++ rest) draws ∙ ap as_trace (so_far.goes rest))
      ∙ ap (λ (l : List ℕ). then_capture script_trace (capture_of most l)) (ap (λ (n : ℕ). drop n (so_far.lines ++ rest)) (sym so_far.size) ∙ drop-append_seam so_far.lines rest)

  told_so : (rest : List ℕ) → output_of empty (captured (so_far.lines ++ rest) draws).occurrences ≡ output so_far.deeds ++ output_of (world_after empty so_far.deeds) (all_behind [] last (capture_of most rest))
  told_so rest =
      let records = (capture_of most rest).records in
      ap (λ (t : CaptureTrace). output_of empty t.occurrences) (captured_is rest)
      ∙ ap (λ (es : List Event). output_of empty (map Happens es ++ capture_occurs (world_after empty es).moment records)) (append-nil so_far.deeds)
      ∙ ap (λ (m : ℕ). output_of empty (map Happens so_far.deeds ++ capture_occurs m records)) (sym moment)
      ∙ output_of-append empty (map Happens so_far.deeds) (capture_occurs last records)
      ∙ (λ i. happens_output empty so_far.deeds i ++ output_of (world_after empty (happens_events so_far.deeds i)) (capture_occurs last records))

  all_octets : octets ++ got ≡ so_far.lines ++ (script.waits ++ got)
  all_octets = ap (λ (l : List ℕ). l ++ got) so_far.split ∙ append_assoc so_far.lines script.waits got

  whole_so : (fault : Option (ℕ × CaptureFault)) → (capture_of most (script.waits ++ got)).fault ≡ fault → out' ≡ output_of (world_after empty so_far.deeds) (all_behind [] last (capture_of most (script.waits ++ got)))
      → IsWholeCapture (octets ++ got) draws (out ++ out') (InCapture fault)
  whole_so fault is told =
      subst (λ (o : List ℕ). IsWholeCapture o draws (out ++ out') (InCapture fault)) (sym all_octets)
      (record {
        stops = ap (λ (t : CaptureTrace). t.stop) (captured_is (script.waits ++ got)) ∙ ap InCapture is;
        left = ap (λ (t : CaptureTrace). t.left) (captured_is (script.waits ++ got));
        told = (λ i. told_before i ++ told i) ∙ sym (told_so (script.waits ++ got));
      })

  front_so : (os : List Occurrence) → output_of empty (map Happens so_far.deeds ++ os) ≡ out ++ output_of (world_after empty so_far.deeds) os
  front_so os =
      output_of-append empty (map Happens so_far.deeds) os
      ∙ (λ i. (happens_output empty so_far.deeds ∙ sym told_before) i ++ output_of (world_after empty (happens_events so_far.deeds i)) os)

  cut_so : IsCutReading (world_after empty so_far.deeds) [] last (capture_of most) (script.waits ++ got) out' → IsCutCapture (octets ++ got) draws (out ++ out')
  cut_so cut =
      let events : List Occurrence = map Happens so_far.deeds in
      let all : output_of empty ((events ++ cut.told) ++ cut.late) ≡ out ++ output_of (world_after empty so_far.deeds) (cut.told ++ cut.late) = ap (output_of empty) (append_assoc events cut.told cut.late) ∙ front_so (cut.told ++ cut.late) in record {
        played = so_far.lines ++ cut.played;
        ahead = cut.ahead;
        split = all_octets ∙ ap (λ (l : List ℕ). so_far.lines ++ l) cut.split ∙ sym (append_assoc so_far.lines cut.played cut.ahead);
        near = cut.near;
        told = events ++ cut.told;
        late = cut.late;
        alike = told_so cut.played ∙ (λ i. sym told_before i ++ output_of (world_after empty so_far.deeds) (cut.all i)) ∙ sym all;
        few = cut.few;
        begun = (
          cut.begun.0,
          ap (λ (o : List ℕ). out ++ o) cut.begun.1 ∙ sym (append_assoc out (output_of (world_after empty so_far.deeds) cut.told) cut.begun.0) ∙ ap (λ (o : List ℕ). o ++ cut.begun.0) (sym (front_so cut.told)),
        );
        within = (cut.within.0, all ∙ ap (λ (o : List ℕ). out ++ o) cut.within.1 ∙ sym (append_assoc out out' cut.within.0));
      }

  ends_so : (status : Status) → EndsReading status (world_after empty so_far.deeds) [] last (capture_of most) (script.waits ++ got) out' new.left → CaptureEnds status (octets ++ got) draws (out ++ out') new.left
  ends_so statuses.Done ends = (inr (whole_so None ends.1 ends.0), ends.2)
  ends_so (statuses.Capture offset fault) ends = (
    whole_so (Some (offset, fault)) ends.is ends.told,
    ends.ended,
    λ other more.
        ap (λ (o : List ℕ). (captured o draws).stop) (ap (λ (l : List ℕ). l ++ more) all_octets ∙ append_assoc so_far.lines (script.waits ++ got) more)
        ∙ ap (λ (t : CaptureTrace). t.stop) (captured_is ((script.waits ++ got) ++ more)) ∙ ap InCapture (ends.still other more),
  )
  ends_so statuses.Read ends =
      subst (λ (o : List ℕ). IsAllTold o draws (out ++ out')) (sym all_octets)
      (record {
        left = ap (λ (t : CaptureTrace). t.left) (captured_is (script.waits ++ got));
        told = (λ i. told_before i ++ ends i) ∙ sym (told_so (script.waits ++ got));
      })
  ends_so statuses.Write ends = cut_so ends
  ends_so statuses.NoMemory ends = cut_so ends
  ends_so other ends = absurd ends

  pub composed : (status : Status) → EndsReading status (world_after empty so_far.deeds) [] last (capture_of most) (script.waits ++ got) out' new.left → IsCapture status old new (octets ++ got) draws (out ++ out')
  composed status ends =
      let room = so_far.room in record {
        took = took_more old.left mid.left new.left octets got so_far.took took;
        drew = subst (λ (d : Tally). Rattle.sg_edge.specs.Links.Added old.drawn d draws) (sym drawn) so_far.drew;
        wrote = wrote_more old.written mid.written new.written out out' so_far.wrote wrote;
        ends = ends_so status ends;
        bound = omega (arith, room, few, length-append octets got);
      }

-- nothing of the script's noise is drawn by a capture
pub ends_not_noise : (status : Status) (w : World) (waited : List Event) (last : ℕ) (reads : List ℕ → Capture) (octets out : List ℕ) (left : Tally) → EndsReading status w waited last reads octets out left → status ≡ statuses.Noise → ⊥
ends_not_noise status w waited last reads octets out left ends same = subst (λ s. EndsReading s w waited last reads octets out left) same ends

-- ---- where nothing fails

none_left : (left : Option (List ℕ)) (rest : List ℕ) → IfSome left (λ l. l ≡ []) → left ≡ Some rest → rest ≡ []
none_left None rest end is = cc
none_left (Some l) rest end is = let same : l ≡ rest = cc in sym same ∙ end

script_either : (f : ScriptFault) → (f ≡ Unended) ⊎ (¬ (f ≡ Unended))
script_either Unended = inl refl
script_either other = inr (λ is. cc)

capture_either : (f : CaptureFault) → (f ≡ capture_faults.Cut) ⊎ (¬ (f ≡ capture_faults.Cut))
capture_either capture_faults.Cut = inl refl
capture_either other = inr (λ is. cc)

-- a trace that stops so for the octets read stops so for all octets
stops_all : {E : Type 0} (left left' : Tally) (octets all rest draws : List ℕ) (stop : CaptureStop) (last : E) (at : E) → TookIn left left' octets → left.told ≡ Some all → left'.told ≡ Some rest → (captured octets draws).stop ≡ stop
    → (at ≡ last) ⊎ (¬ (at ≡ last)) → (at ≡ last → AtEnd left') → (¬ (at ≡ last) → (more : List ℕ) → (captured (octets ++ more) draws).stop ≡ stop) → (captured all draws).stop ≡ stop
stops_all left left' octets all rest draws stop last at took told told' here which ended still =
    let same : all ≡ octets ++ rest = (let both : Some all ≡ Some (octets ++ rest) = sym told ∙ took.0 rest told' in cc) in
    elim which [
      | inl end ↦
          (let none : octets ++ rest ≡ octets = ap (λ (l : List ℕ). octets ++ l) (none_left left'.told rest (ended end) told') ∙ append-nil octets in
          ap (λ (o : List ℕ). (captured o draws).stop) (same ∙ none) ∙ here)
      | inr other ↦ ap (λ (o : List ℕ). (captured o draws).stop) same ∙ still other rest
    ]

pub complete : (status : Status) (old new : Tellings) (octets draws out : List ℕ) → IsCapture status old new octets draws out
    → (status ≡ statuses.Read → ⊥) → (status ≡ statuses.Write → ⊥) → (status ≡ statuses.Noise → ⊥) → IsCompleteCapture status old.left new.left
complete statuses.Done old new octets draws out run a b c = λ all rest told told' none. inl refl
complete statuses.NoMemory old new octets draws out run a b c = λ all rest told told' none. inr refl
complete (statuses.Script n fault) old new octets draws out run a b c = λ all rest told told' none.
    let ends = run.ends in
    absurd (none.script draws n fault (stops_all old.left new.left octets all rest draws (InScript (AtFault n fault)) Unended fault run.took told told' ends.0.stops (script_either fault) ends.1 ends.2))
complete (statuses.Capture offset fault) old new octets draws out run a b c = λ all rest told told' none.
    let ends = run.ends in
    absurd (none.capture draws (offset, fault) (stops_all old.left new.left octets all rest draws (InCapture (Some (offset, fault))) capture_faults.Cut fault run.took told told' ends.0.stops (capture_either fault) ends.1 ends.2))
complete statuses.Read old new octets draws out run a b c = absurd (a refl)
complete statuses.Write old new octets draws out run a b c = absurd (b refl)
complete statuses.Noise old new octets draws out run a b c = absurd (c refl)
complete other old new octets draws out run a b c = absurd run.ends

-- nothing was done
pub untouched : (old : Tellings) → IsCapture statuses.NoMemory old old [] [] []
untouched old = record {
  took = took_none old.left;
  drew = added_none old.drawn;
  wrote = wrote_none old.written;
  ends = record {
    played = [];
    ahead = [];
    split = refl;
    near = omega arith;
    told = [];
    late = [];
    alike = refl;
    few = omega arith;
    begun = ([], refl);
    within = ([], refl);
  };
  bound = omega arith;
}

-- ---- what was told, as far as it was passed on

module _ (octets draws out : List ℕ) where
  cut_of_all : out ≡ output_of empty (captured octets draws).occurrences → IsCutCapture octets draws out
  cut_of_all told = record {
    played = octets;
    ahead = [];
    split = sym (append-nil octets);
    near = omega arith;
    told = (captured octets draws).occurrences;
    late = [];
    alike = ap (output_of empty) (sym (append-nil (captured octets draws).occurrences));
    few = omega arith;
    begun = ([], told ∙ sym (append-nil (output_of empty (captured octets draws).occurrences)));
    within = ([], ap (output_of empty) (append-nil (captured octets draws).occurrences) ∙ sym told ∙ sym (append-nil out));
  }

  -- whatever the end, it is one of a run whose sink failed
  cut_of : (end : Status) (left : Tally) → CaptureEnds end octets draws out left → IsCutCapture octets draws out
  cut_of statuses.Done left (inl whole, at) = cut_of_all whole.told
  cut_of statuses.Done left (inr whole, at) = cut_of_all whole.told
  cut_of (statuses.Script n fault) left is = cut_of_all is.0.told
  cut_of (statuses.Capture offset fault) left is = cut_of_all is.0.told
  cut_of statuses.Noise left is = cut_of_all is.told
  cut_of statuses.Read left is = cut_of_all is.told
  cut_of statuses.Write left is = is
  cut_of statuses.NoMemory left is = is
  cut_of other left is = absurd is

  pub capture_passed : (end status : Status) (left : Tally) → (status ≡ end) ⊎ (status ≡ statuses.Write) → CaptureEnds end octets draws out left → CaptureEnds status octets draws out left
  capture_passed end status left (inl same) is = subst (λ s. CaptureEnds s octets draws out left) (sym same) is
  capture_passed end status left (inr wrote) is = subst (λ s. CaptureEnds s octets draws out left) (sym wrote) (cut_of end left is)
