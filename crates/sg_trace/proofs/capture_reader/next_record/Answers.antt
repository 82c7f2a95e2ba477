use Rattle.std.proofs.Common.{rules, ◌≡◌, ◌∙◌, ◌≤◌, ◌++◌, ap, sym, length, length-append, arith}
use Rattle.sg_trace.proofs.Common.{length_front, length_least, record_length, took_more}
use Rattle.sg_trace.proofs.CaptureReads.{length_most, moves_of, record_so}
use Rattle.sg_trace.proofs.capture_reader.next_record.Goals as goal

pub returns-clause-got : goal.returns-clause-got
returns-clause-got g c =
    let head = c.in-Ok.ensures.got in
    let then = c.next_part-2.ensures.got in
    let long : 16 ≤ length c.next_part.new.part.items = search rules in (
      head.0 ++ then.0,
      took_more _ _ _ head.0 then.0 head.1 then.1,
      record_so c.args.form c.args.read_buffer.now head.0 c.next_part.new.read_buffer c.args.part.now.items c.next_part.new.part.items then.0 c.next_part-2.new.read_buffer c.next_part-2.new.part.items
          c.requires head.2.0 c.next_part-2.result c.record_length-length.result _ _ (c.record_length-length.ensures.value ∙ ap (record_length c.args.form) c.deref.ensures.value) head.2.1 long then.2,
      omega (arith, head.3, then.3, length-append head.0 then.0),
    )

pub returns-in-Err-clause-near : goal.returns-in-Err-clause-near
returns-in-Err-clause-near g c = λ few. (c.in-Err.ensures.near few, omega (arith, c.in-Err.ensures.most, ap length c.requires))

pub returns-in-Err-clause-short : goal.returns-in-Err-clause-short
returns-in-Err-clause-short g c = λ is. let s = c.in-Err.ensures.short is in (omega (arith, s.0, length_least c.args.form c.next_part.new.part.items), s.1)

pub returns-clause-near : goal.returns-clause-near
returns-clause-near g c = λ few.
    let size : c.record_length-length.result ≡ record_length c.args.form c.next_part.new.part.items = c.record_length-length.ensures.value ∙ ap (record_length c.args.form) c.deref.ensures.value in
    (c.next_part-2.ensures.near (c.in-Ok.ensures.near few), omega (arith, c.next_part-2.ensures.most, c.in-Ok.ensures.most, ap length c.requires, size, length_most c.args.form c.next_part.new.part.items))

pub returns-clause-short : goal.returns-clause-short
returns-clause-short g c = λ is.
    let then = c.next_part-2.ensures.got in
    let s = c.next_part-2.ensures.short is in
    let long : 16 ≤ length c.next_part.new.part.items = search rules in
    let size : c.record_length-length.result ≡ record_length c.args.form c.next_part.new.part.items = c.record_length-length.ensures.value ∙ ap (record_length c.args.form) c.deref.ensures.value in
    let moves = moves_of c.next_part-2.result c.record_length-length.result c.next_part.new.part.items c.next_part-2.new.part.items c.next_part.new.read_buffer c.next_part-2.new.read_buffer then.0 _ _ then.2 in
    let same : record_length c.args.form c.next_part-2.new.part.items ≡ c.record_length-length.result =
    ap (record_length c.args.form) moves.1.1 ∙ length_front c.args.form c.next_part.new.part.items moves.0 (omega (arith, long)) ∙ sym size in
    (omega (arith, s.0, same), s.1)
