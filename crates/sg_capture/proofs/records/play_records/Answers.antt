use Rattle.std.proofs.Common.{rules, ◌≡◌, ◌≤◌, ◌⊎◌, ◌∙◌, ◌++◌, ℕ, List, [], length, drop, Option, Some, None, Ok, Err, refl, sym, ap, subst, inl, inr, append_assoc, length-append, arith}
use Rattle.sg_capture.proofs.Common.{Done, EndsReading, IsMet, IsRecordRead, IsToldOf, Occurrence, Progress, Read, Record, StandsFor, Wrote, append-nil}
use Rattle.sg_capture.proofs.Common.{arrived, captured_events, closes_not, effects, ended_closed, ended_quiet, first_of, length-map, ok_not, output_of}
use Rattle.sg_capture.proofs.Common.{record_occurs, record_within, records_in, text_from, took_more, took_none, unshared, waiting, world_after}
use Rattle.sg_capture.proofs.Common.{world_after-append, wrote_more, wrote_none}
use Rattle.sg_capture.proofs.Readings.{IsReadingOn, closed_at_end, closed_at_err, cut_at_end, ends_met, met_not_read, near_rest, record_goes, starts}
use Rattle.sg_capture.proofs.Outputs.{events_in-append, output_of-append}
use Rattle.sg_trace.proofs.PassedOn.{behind_kept, nothing_kept, write_not}
use Rattle.sg_capture.proofs.records.play_records.Goals as goal

-- all that was read
octets_so : (waits0 got got' consumed waits rest : List ℕ) → waits0 ++ got ≡ consumed ++ waits → waits ++ got' ≡ rest → waits0 ++ (got ++ got') ≡ consumed ++ rest
octets_so waits0 got got' consumed waits rest first then =
    sym (append_assoc waits0 got got') ∙ ap (λ (l : List ℕ). l ++ got') first ∙ append_assoc consumed waits got' ∙ ap (λ (l : List ℕ). consumed ++ l) then

-- ---- where what was told isn't passed on

pub returns-in-Err-clause-ran : goal.returns-in-Err-clause-ran
returns-in-Err-clause-ran g c =
    let so_far = c.records.invariant.0 in
    let left = g.S.Source.left c.records.source in
    let none : List ℕ = [] in
    let octets = octets_so c.args.reader.now.waits so_far.1 none so_far.0 c.records.reader.waits (c.records.reader.waits ++ none) so_far.3 refl in
    let near : length (c.records.reader.waits ++ none) ≤ 266256 = omega (arith, c.records.invariant.8, length-append c.records.reader.waits none) in
    let few : length (waiting c.records.player) ≤ 258 = omega (arith, c.records.invariant.7, length-map c.records.player.waits arrived) in (
      so_far.1 ++ none,
      took_more _ _ _ so_far.1 none so_far.2 (took_none left),
      omega (arith, so_far.4, length-append so_far.1 none),
      λ w stands.
          (let now = so_far.5 w stands in (
            output_of w now.0 ++ none,
            wrote_more _ _ _ (output_of w now.0) none now.1 (nothing_kept _ _ c.in-Err.ensures.kept),
            subst (λ (o : List ℕ). EndsReading c.in-Err.status w (waiting c.args.player.now) c.args.player.now.front.table.moment (records_in c.args.reader.now.most c.args.form c.args.reader.now.at) o (output_of w now.0 ++ none) left) (sym octets)
                (cut_at_end (records_in c.args.reader.now.most c.args.form c.args.reader.now.at) c.args.reader.now.most c.args.form so_far.0 c.records.reader.at c.args.player.now.front.table.moment (waiting c.args.player.now) (waiting c.records.player) now.0 c.records.progress now.2
                w c.in-Err.status (c.records.reader.waits ++ none) none left near (inl c.in-Err.ensures.only, (text_from (unshared (world_after w (captured_events now.0))) (waiting c.records.player), refl), few)),
          )),
    )

pub returns-in-Err-clause-read : goal.returns-in-Err-clause-read
returns-in-Err-clause-read g c = ended_quiet _ _ _ _ _ c.records.invariant.4 (write_not c.in-Err.status Read c.in-Err.ensures.only (λ is. cc))

-- ---- what is read and played

pub returns-in-Err-next-clause-ran : goal.returns-in-Err-next-clause-ran
returns-in-Err-next-clause-ran g c =
    let so_far = c.records.invariant.0 in
    let got = c.in-Err-next.ensures.next in
    let left = g.S.Source.left c.next.new.source in
    let octets = octets_so c.args.reader.now.waits so_far.1 got.0 so_far.0 c.records.reader.waits (c.records.reader.waits ++ got.0) so_far.3 refl in (
      so_far.1 ++ got.0,
      took_more _ _ _ so_far.1 got.0 so_far.2 got.1,
      omega (arith, so_far.4, got.3, length-append so_far.1 got.0),
      λ w stands.
          (let now = so_far.5 w stands in
          let closed = c.close.ensures.closed (unshared (world_after w (captured_events now.0))) now.3 in (
            output_of w now.0 ++ closed.0,
            wrote_more _ _ _ (output_of w now.0) closed.0 now.1 (behind_kept _ _ _ closed.0 c.in-Ok.ensures.kept closed.1),
            subst (λ (o : List ℕ). EndsReading c.close.result w (waiting c.args.player.now) c.args.player.now.front.table.moment (records_in c.args.reader.now.most c.args.form c.args.reader.now.at) o (output_of w now.0 ++ closed.0) left) (sym octets)
                (closed_at_err (records_in c.args.reader.now.most c.args.form c.args.reader.now.at) c.args.reader.now.most c.args.form so_far.0 c.records.reader.at c.args.player.now.front.table.moment (waiting c.args.player.now) (waiting c.records.player) now.0 c.records.progress now.2
                w c.in-Err-next.status c.close.result c.records.reader c.next.new.self got.0 closed.0 left (near_rest c.records.reader.waits got.0 _ _ (c.in-Err-next.ensures.near c.records.invariant.8).1 got.3) c.records.invariant.1 refl got.2 closed.2),
          )),
    )

pub returns-in-Ok-None-clause-ran : goal.returns-in-Ok-None-clause-ran
returns-in-Ok-None-clause-ran g c =
    let so_far = c.records.invariant.0 in
    let got = c.in-Ok-None.ensures.next in
    let left = g.S.Source.left c.next.new.source in
    let next : IsRecordRead c.args.form (Ok None) c.records.reader c.next.new.self got.0 left = subst (λ r. IsRecordRead c.args.form (Ok r) c.records.reader c.next.new.self got.0 left) c.in-Ok-None.field-0-is got.2 in
    let octets = octets_so c.args.reader.now.waits so_far.1 got.0 so_far.0 c.records.reader.waits [] so_far.3 next.0 in (
      so_far.1 ++ got.0,
      took_more _ _ _ so_far.1 got.0 so_far.2 got.1,
      omega (arith, so_far.4, got.3, length-append so_far.1 got.0),
      λ w stands.
          (let now = so_far.5 w stands in
          let closed = c.close-in-Ok-None.ensures.closed (unshared (world_after w (captured_events now.0))) now.3 in (
            output_of w now.0 ++ closed.0,
            wrote_more _ _ _ (output_of w now.0) closed.0 now.1 (behind_kept _ _ _ closed.0 c.in-Ok.ensures.kept closed.1),
            subst (λ (o : List ℕ). EndsReading c.close-in-Ok-None.result w (waiting c.args.player.now) c.args.player.now.front.table.moment (records_in c.args.reader.now.most c.args.form c.args.reader.now.at) o (output_of w now.0 ++ closed.0) left) (sym octets)
                (closed_at_end (records_in c.args.reader.now.most c.args.form c.args.reader.now.at) c.args.reader.now.most c.args.form so_far.0 c.records.reader.at c.args.player.now.front.table.moment (waiting c.args.player.now) (waiting c.records.player) now.0 c.records.progress now.2
                w c.close-in-Ok-None.result [] closed.0 left refl (end_so next.1 (λ far. omega (arith, far, c.records.invariant.2))) closed.2),
          )),
    )
  where
    end_so : {P Q : Type 0} → P ⊎ Q → (Q → ⊥) → P
    end_so (inl p) isnt = p
    end_so (inr q) isnt = absurd (isnt q)

pub returns-in-Err-play_record-clause-ran : goal.returns-in-Err-play_record-clause-ran
returns-in-Err-play_record-clause-ran g c =
    let few = c.records.invariant.7 in
    let so_far = c.records.invariant.0 in
    let got = c.in-Ok-Some.ensures.next in
    let left = g.S.Source.left c.next.new.source in
    let next : IsRecordRead c.args.form (Ok (Some c.in-Ok-Some.record)) c.records.reader c.next.new.self got.0 left = subst (λ r. IsRecordRead c.args.form (Ok r) c.records.reader c.next.new.self got.0 left) c.in-Ok-Some.field-0-is got.2 in
    let part : List ℕ = c.next.new.self.part in
    let is : record_within c.args.reader.now.most c.args.form c.records.reader.at part ≡ Ok c.in-Ok-Some.record =
    subst (λ (m : ℕ). record_within m c.args.form c.records.reader.at part ≡ Ok c.in-Ok-Some.record) c.records.invariant.1 next.1 in
    let octets = octets_so c.args.reader.now.waits so_far.1 got.0 so_far.0 c.records.reader.waits (part ++ c.next.new.self.waits) so_far.3 next.0.split in (
      so_far.1 ++ got.0,
      took_more _ _ _ so_far.1 got.0 so_far.2 got.1,
      omega (arith, so_far.4, got.3, length-append so_far.1 got.0),
      λ w stands.
          (let now = so_far.5 w stands in
          let met = c.in-Err-play_record.ensures.met (world_after w (captured_events now.0)) now.3 in (
            output_of w now.0 ++ met.0,
            wrote_more _ _ _ (output_of w now.0) met.0 now.1 (behind_kept _ _ _ met.0 c.in-Ok.ensures.kept met.1),
            subst (λ (o : List ℕ). EndsReading c.in-Err-play_record.status w (waiting c.args.player.now) c.args.player.now.front.table.moment (records_in c.args.reader.now.most c.args.form c.args.reader.now.at) o (output_of w now.0 ++ met.0) left) (sym octets)
                (ends_met (records_in c.args.reader.now.most c.args.form c.args.reader.now.at) c.args.reader.now.most c.args.form so_far.0 c.records.reader.at c.args.player.now.front.table.moment (waiting c.args.player.now) (waiting c.records.player) now.0 c.records.progress now.2
                w c.in-Err-play_record.status c.in-Ok-Some.record part c.next.new.self.waits (waiting c.play_record.new.player) (StandsFor c.play_record.new.player.front) met.0 left (omega (arith, few, length-map c.records.player.waits arrived)) (c.in-Ok-Some.ensures.near c.records.invariant.8).0 is next.0.whole
                (subst (λ (f : List ℕ). IsMet (Err c.in-Err-play_record.status) (world_after w (captured_events now.0)) (waiting c.records.player) (waiting c.play_record.new.player)
                (record_occurs c.records.progress.last (first_of c.records.progress.first c.in-Ok-Some.record.millis) c.records.progress.top c.records.progress.number (record { millis = c.in-Ok-Some.record.millis; frame = f })) (StandsFor c.play_record.new.player.front) met.0) c.frame.ensures met.2)),
          )),
    )

pub frame-requires : goal.frame-requires
frame-requires g c =
    let got = c.in-Ok-Some.ensures.next in
    let next : IsRecordRead c.args.form (Ok (Some c.in-Ok-Some.record)) c.records.reader c.next.new.self got.0 (g.S.Source.left c.next.new.source) =
    subst (λ r. IsRecordRead c.args.form (Ok r) c.records.reader c.next.new.self got.0 (g.S.Source.left c.next.new.source)) c.in-Ok-Some.field-0-is got.2 in
    omega (arith, next.0.whole)

pub records-smaller : goal.records-smaller
records-smaller g c =
    let got = c.in-Ok-Some.ensures.next in
    let next : IsRecordRead c.args.form (Ok (Some c.in-Ok-Some.record)) c.records.reader c.next.new.self got.0 (g.S.Source.left c.next.new.source) =
    subst (λ r. IsRecordRead c.args.form (Ok r) c.records.reader c.next.new.self got.0 (g.S.Source.left c.next.new.source)) c.in-Ok-Some.field-0-is got.2 in
    let at = next.0.at in
    let within = next.0.within in
    omega (arith, at, within, c.next.ensures.most)

pub records-preserved : goal.records-preserved
records-preserved g c =
    let so_far = c.records.invariant.0 in
    let got = c.in-Ok-Some.ensures.next in
    let left = g.S.Source.left c.next.new.source in
    let next : IsRecordRead c.args.form (Ok (Some c.in-Ok-Some.record)) c.records.reader c.next.new.self got.0 left = subst (λ r. IsRecordRead c.args.form (Ok r) c.records.reader c.next.new.self got.0 left) c.in-Ok-Some.field-0-is got.2 in
    let part : List ℕ = c.next.new.self.part in
    let at = next.0.at in
    let within = next.0.within in
    let is : record_within c.args.reader.now.most c.args.form c.records.reader.at part ≡ Ok c.in-Ok-Some.record =
    subst (λ (m : ℕ). record_within m c.args.form c.records.reader.at part ≡ Ok c.in-Ok-Some.record) c.records.invariant.1 next.1 in (
      (
        so_far.0 ++ part,
        so_far.1 ++ got.0,
        took_more _ _ _ so_far.1 got.0 so_far.2 got.1,
        octets_so c.args.reader.now.waits so_far.1 got.0 so_far.0 c.records.reader.waits (part ++ c.next.new.self.waits) so_far.3 next.0.split ∙ sym (append_assoc so_far.0 part c.next.new.self.waits),
        omega (arith, so_far.4, got.3, length-append so_far.1 got.0),
        λ w stands.
            (let now = so_far.5 w stands in
            let met = c.in-Ok-play_record.ensures.met (world_after w (captured_events now.0)) now.3 in
            let told : IsToldOf (world_after w (captured_events now.0)) (waiting c.records.player) (waiting c.play_record.new.player)
            (record_occurs c.records.progress.last (first_of c.records.progress.first c.in-Ok-Some.record.millis) c.records.progress.top c.records.progress.number (record { millis = c.in-Ok-Some.record.millis; frame = drop 16 part })) (StandsFor c.play_record.new.player.front) met.0 =
            subst (λ (f : List ℕ). IsToldOf (world_after w (captured_events now.0)) (waiting c.records.player) (waiting c.play_record.new.player)
            (record_occurs c.records.progress.last (first_of c.records.progress.first c.in-Ok-Some.record.millis) c.records.progress.top c.records.progress.number (record { millis = c.in-Ok-Some.record.millis; frame = f })) (StandsFor c.play_record.new.player.front) met.0) c.frame.ensures met.2 in (
              now.0 ++ told.told,
              subst (Wrote (g.K.Sink.written c.args.sink.now) (g.K.Sink.written c.play_record.new.sink)) (ap (λ (o : List ℕ). output_of w now.0 ++ o) told.written ∙ sym (output_of-append w now.0 told.told)) (wrote_more _ _ _ (output_of w now.0) met.0 now.1 (behind_kept _ _ _ met.0 c.in-Ok.ensures.kept met.1)),
              subst (λ (a : ℕ). IsReadingOn (records_in c.args.reader.now.most c.args.form c.args.reader.now.at) c.args.reader.now.most c.args.form (so_far.0 ++ part) a c.args.player.now.front.table.moment (waiting c.args.player.now) (waiting c.play_record.new.player) (now.0 ++ told.told) c.after-progress.result)
                  (omega (arith, at, next.0.whole))
                  (record_goes (records_in c.args.reader.now.most c.args.form c.args.reader.now.at) c.args.reader.now.most c.args.form so_far.0 c.records.reader.at c.args.player.now.front.table.moment (waiting c.args.player.now) (waiting c.records.player) now.0 c.records.progress now.2
                  c.in-Ok-Some.record part is next.0.whole c.after-progress.result c.after-progress.ensures (world_after w (captured_events now.0)) (waiting c.play_record.new.player) (StandsFor c.play_record.new.player.front) met.0 told),
              subst (StandsFor c.play_record.new.player.front) (sym (ap (world_after w) (events_in-append now.0 told.told) ∙ world_after-append w (captured_events now.0) (captured_events told.told))) told.stands,
            )),
      ),
      c.next.ensures.most ∙ c.records.invariant.1,
      omega (arith, within, c.next.ensures.most),
      omega (arith, c.records.invariant.3, at, ap (λ (q : Progress). q.number) c.after-progress.ensures),
      search rules,
      search rules,
      omega (arith, c.records.invariant.6, c.next.ensures.given),
      c.in-Ok-play_record.ensures.few,
      (c.in-Ok-Some.ensures.near c.records.invariant.8).0,
    )

-- nothing is read or written yet
pub records-init : goal.records-init
records-init g c =
    let none : List ℕ = [] in
    let told : List Occurrence = [] in (
      (
        none,
        none,
        took_none _,
        append-nil c.args.reader.now.waits,
        omega arith,
        λ w stands. (
          told,
          wrote_none _,
          starts (records_in c.args.reader.now.most c.args.form c.args.reader.now.at) c.args.reader.now.most c.args.form c.args.reader.now.at c.args.player.now.front.table.moment (waiting c.args.player.now) _ (λ rest. refl)
              (λ i. record { last = c.moment-last.ensures i; first = None; top = c.moment-last.ensures i; number = 1 }),
          stands,
        ),
      ),
      refl,
      c.requires.within,
      c.requires.start,
      refl,
      refl,
      omega arith,
      c.requires.few,
      c.requires.near,
    )

-- ---- whose failure it was

pub returns-in-Err-next-clause-read : goal.returns-in-Err-next-clause-read
returns-in-Err-next-clause-read g c =
    let so_far = c.records.invariant.0 in
    let w = c.requires.stands.0 in
    let now = so_far.5 w c.requires.stands.1 in
    let closed = c.close.ensures.closed (unshared (world_after w (captured_events now.0))) now.3 in
    ended_closed effects 258 (Option Record) c.in-Err-next.status c.close.result _ _ closed.0 closed.2 _ _ _ _ c.records.invariant.4 c.in-Err-next.ensures.cause

pub returns-in-Ok-None-clause-read : goal.returns-in-Ok-None-clause-read
returns-in-Ok-None-clause-read g c =
    let so_far = c.records.invariant.0 in
    let w = c.requires.stands.0 in
    let now = so_far.5 w c.requires.stands.1 in
    let closed = c.close-in-Ok-None.ensures.closed (unshared (world_after w (captured_events now.0))) now.3 in
    ended_quiet _ _ _ _ _ (c.in-Ok-None.ensures.cause.quiet (λ is. ok_not _ _ is) ∙ c.records.invariant.4)
    (closes_not effects 258 Done c.close-in-Ok-None.result Read _ _ closed.0 closed.2 (λ is. cc) (λ is. cc) (λ is. cc))

pub returns-in-Err-play_record-clause-read : goal.returns-in-Err-play_record-clause-read
returns-in-Err-play_record-clause-read g c =
    let so_far = c.records.invariant.0 in
    let w = c.requires.stands.0 in
    let now = so_far.5 w c.requires.stands.1 in
    let met = c.in-Err-play_record.ensures.met (world_after w (captured_events now.0)) now.3 in
    ended_quiet _ _ _ _ _ (c.in-Ok-Some.ensures.cause.quiet (λ is. ok_not _ _ is) ∙ c.records.invariant.4)
    (met_not_read c.in-Err-play_record.status (world_after w (captured_events now.0)) (waiting c.records.player) (waiting c.play_record.new.player) _ (StandsFor c.play_record.new.player.front) met.0 met.2)
