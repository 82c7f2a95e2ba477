use Rattle.std.proofs.Common.{rules, ◌≡◌, ◌∙◌, ◌+◌, ◌<◌, ◌≤◌, ◌++◌, ℕ, List, [], length, None, Ok, Err, ap, sym, subst, arith, length-append, append-nil}
use Rattle.sg_trace.proofs.Common.{Capturing, IsRecordRead, TookIn, nat_tests, record_within, records_in}
use Rattle.sg_trace.proofs.CaptureReads.{failed_as, near_part, nothing_had, record_err, record_none, record_ok, record_short, split_of}
use Rattle.sg_trace.proofs.capture_reader.CaptureReader.next.Goals.{in-Err-record_within, in-Ok-record_within}
use Rattle.sg_trace.proofs.capture_reader.CaptureReader.next.Goals as goal

pub invariant_of-self : goal.invariant_of-self
invariant_of-self g c =
    let got = c.next_record.ensures.got in
    let size : c.len.result ≡ length c.self.inside.part.items = search rules in
    let split = split_of c.args.form c.next_record.result _ _ _ got.0 _ _ got.2 in
    (omega (arith, size, c.self.invariant.0, got.3, ap length split, length-append c.self.inside.read_buffer got.0, length-append c.next_record.new.part.items c.next_record.new.read_buffer), c.self.invariant.1)

pub invariant_of-self-2 : goal.invariant_of-self-2
invariant_of-self-2 g c =
    let got = c.next_record.ensures.got in
    let size : c.len.result ≡ length c.self.inside.part.items = search rules in
    let split = split_of c.args.form c.next_record.result _ _ _ got.0 _ _ got.2 in
    (omega (arith, size, c.self.invariant.0, got.3, ap length split, length-append c.self.inside.read_buffer got.0, length-append c.next_record.new.part.items c.next_record.new.read_buffer), c.self.invariant.1)

pub returns-then-is_empty-clause-next : goal.returns-then-is_empty-clause-next
returns-then-is_empty-clause-next g c =
    let got = c.in-Ok.ensures.got in
    let size : c.len.result ≡ length c.self.inside.part.items = search rules in
    let part : List ℕ = c.next_record.new.part.items in
    let left = g.S.Source.left c.next_record.new.source in
    let empty : part ≡ [] = nothing_had part (grind (arith, nat_tests, ap length c.as_slice.ensures.value, c.is_empty.ensures, c.if-is_empty.true)) in
    let room : (c.self.inside.at + c.len.result) + length part + length c.next_record.new.read_buffer + c.next_record.new.budget ≡ c.self.inside.most + 1 =
    omega (arith, size, c.self.invariant.0, got.3, ap length got.2.0, length-append c.self.inside.read_buffer got.0, length-append part c.next_record.new.read_buffer) in
    let old : Capturing = record { waits = c.self.inside.read_buffer; part = c.self.inside.part.items; at = c.self.inside.at + length c.self.inside.part.items; most = c.self.inside.most; budget = c.self.inside.budget } in
    let new : Capturing = record { waits = c.next_record.new.read_buffer; part = part; at = (c.self.inside.at + c.len.result) + length part; most = c.self.inside.most; budget = c.next_record.new.budget } in
    let read : IsRecordRead c.args.form (Ok None) old new got.0 left =
    record_none c.self.inside.most (c.self.inside.at + c.len.result) (c.self.inside.at + length c.self.inside.part.items) c.self.inside.budget c.next_record.new.budget c.self.inside.part.items
    c.self.inside.read_buffer got.0 c.next_record.new.read_buffer part left room (omega (arith, size)) c.args.form got.2 empty in
    subst (λ (v : Capturing). (x : List ℕ) × TookIn (g.S.Source.left c.args.source.now) left x × IsRecordRead c.args.form (Ok None) v new x left × (length x + c.next_record.new.budget ≡ v.budget)) c.self.view_is
    (got.0, got.1, read, got.3)

pub returns-clause-next : goal.returns-clause-next
returns-clause-next g c =
    let got = c.in-Ok.ensures.got in
    let size : c.len.result ≡ length c.self.inside.part.items = search rules in
    let part : List ℕ = c.next_record.new.part.items in
    let left = g.S.Source.left c.next_record.new.source in
    let some : 0 < length part = search rules in
    let room : (c.self.inside.at + c.len.result) + length part + length c.next_record.new.read_buffer + c.next_record.new.budget ≡ c.self.inside.most + 1 =
    omega (arith, size, c.self.invariant.0, got.3, ap length got.2.0, length-append c.self.inside.read_buffer got.0, length-append part c.next_record.new.read_buffer) in
    let same_at : c.self.inside.at + length c.self.inside.part.items ≡ c.self.inside.at + c.len.result = omega (arith, size) in
    let old : Capturing = record { waits = c.self.inside.read_buffer; part = c.self.inside.part.items; at = c.self.inside.at + length c.self.inside.part.items; most = c.self.inside.most; budget = c.self.inside.budget } in
    let new : Capturing = record { waits = c.next_record.new.read_buffer; part = part; at = (c.self.inside.at + c.len.result) + length part; most = c.self.inside.most; budget = c.next_record.new.budget } in
    let read : IsRecordRead c.args.form c.match-record_within.result old new got.0 left =
    elim c.match-record_within.branch [
      | in-Err-record_within w ↦
          subst (λ r. IsRecordRead c.args.form r old new got.0 left) (sym w.result-is)
          (record_err c.self.inside.most (c.self.inside.at + c.len.result) (c.self.inside.at + length c.self.inside.part.items) c.self.inside.budget c.next_record.new.budget c.self.inside.part.items
          c.self.inside.read_buffer got.0 c.next_record.new.read_buffer part left room same_at c.args.form got.2 w.in-Err-record_within.offset w.in-Err-record_within.fault some
          (ap (record_within c.self.inside.most c.args.form (c.self.inside.at + c.len.result)) (sym c.deref.ensures.value) ∙ sym c.record_within.ensures ∙ w.in-Err-record_within.is))
      | in-Ok-record_within w ↦
          subst (λ r. IsRecordRead c.args.form r old new got.0 left) (sym w.result-is)
          (record_ok c.self.inside.most (c.self.inside.at + c.len.result) (c.self.inside.at + length c.self.inside.part.items) c.self.inside.budget c.next_record.new.budget c.self.inside.part.items
          c.self.inside.read_buffer got.0 c.next_record.new.read_buffer part left room same_at c.args.form got.2 w.in-Ok-record_within.record
          (ap (record_within c.self.inside.most c.args.form (c.self.inside.at + c.len.result)) (sym c.deref.ensures.value) ∙ sym c.record_within.ensures ∙ w.in-Ok-record_within.is))
    ] in
    subst (λ (v : Capturing). (x : List ℕ) × TookIn (g.S.Source.left c.args.source.now) left x × IsRecordRead c.args.form c.match-record_within.result v new x left × (length x + c.next_record.new.budget ≡ v.budget)) c.self.view_is
    (got.0, got.1, read, got.3)

pub returns-in-Err-clause-next : goal.returns-in-Err-clause-next
returns-in-Err-clause-next g c =
    let got = c.in-Err.ensures.got in
    let part : List ℕ = c.next_record.new.part.items in
    let left = g.S.Source.left c.next_record.new.source in
    let old : Capturing = record { waits = c.self.inside.read_buffer; part = c.self.inside.part.items; at = c.self.inside.at + length c.self.inside.part.items; most = c.self.inside.most; budget = c.self.inside.budget } in
    let new : Capturing = record { waits = c.next_record.new.read_buffer; part = part; at = (c.self.inside.at + c.len.result) + length part; most = c.self.inside.most; budget = c.next_record.new.budget } in
    let read : IsRecordRead c.args.form (Err c.in-Err.status) old new got.0 left =
    failed_as (λ s. IsRecordRead c.args.form (Err s) old new got.0 left) c.in-Err.status c.in-Err.ensures.only
    (λ is.
    (let short = c.in-Err.ensures.short (ap Err is) in
    let all : c.self.inside.read_buffer ++ got.0 ≡ part = got.2 ∙ ap (λ (l : List ℕ). part ++ l) short.1 ∙ append-nil part in
    ap (λ (l : List ℕ). (records_in c.self.inside.most c.args.form (c.self.inside.at + length c.self.inside.part.items) l).records) all
    ∙ record_short c.self.inside.most c.args.form (c.self.inside.at + length c.self.inside.part.items) part short.0)) tt in
    subst (λ (v : Capturing). (x : List ℕ) × TookIn (g.S.Source.left c.args.source.now) left x × IsRecordRead c.args.form (Err c.in-Err.status) v new x left × (length x + c.next_record.new.budget ≡ v.budget)) c.self.view_is
    (got.0, got.1, read, got.3)

pub returns-in-Err-clause-near : goal.returns-in-Err-clause-near
returns-in-Err-clause-near g c =
    let got = c.next_record.ensures.got in
    let split = split_of c.args.form c.next_record.result _ _ _ got.0 _ _ got.2 in
    subst (λ (v : Capturing). length v.waits ≤ 4096 → (length c.next_record.new.read_buffer ≤ 4096) × (length v.waits + v.budget ≤ c.next_record.new.budget + 266256)) c.self.view_is
    (near_part c.next_record.new.part.items c.self.inside.read_buffer c.next_record.new.read_buffer got.0 c.self.inside.budget c.next_record.new.budget split got.3 c.next_record.ensures.near)

pub returns-then-is_empty-clause-near : goal.returns-then-is_empty-clause-near
returns-then-is_empty-clause-near g c =
    let got = c.next_record.ensures.got in
    let split = split_of c.args.form c.next_record.result _ _ _ got.0 _ _ got.2 in
    subst (λ (v : Capturing). length v.waits ≤ 4096 → (length c.next_record.new.read_buffer ≤ 4096) × (length v.waits + v.budget ≤ c.next_record.new.budget + 266256)) c.self.view_is
    (near_part c.next_record.new.part.items c.self.inside.read_buffer c.next_record.new.read_buffer got.0 c.self.inside.budget c.next_record.new.budget split got.3 c.next_record.ensures.near)

pub returns-clause-near : goal.returns-clause-near
returns-clause-near g c =
    let got = c.next_record.ensures.got in
    let split = split_of c.args.form c.next_record.result _ _ _ got.0 _ _ got.2 in
    subst (λ (v : Capturing). length v.waits ≤ 4096 → (length c.next_record.new.read_buffer ≤ 4096) × (length v.waits + v.budget ≤ c.next_record.new.budget + 266256)) c.self.view_is
    (near_part c.next_record.new.part.items c.self.inside.read_buffer c.next_record.new.read_buffer got.0 c.self.inside.budget c.next_record.new.budget split got.3 c.next_record.ensures.near)
