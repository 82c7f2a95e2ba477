use Rattle.std.proofs.Common.{◌≡◌, ◌∙◌, ◌++◌, ℕ, List, refl, sym, ap, subst, append_assoc, length-append, arith}
use Rattle.sg_capture.proofs.Common.{EndedBy, Form, IsWant, Read, capture_begins, capture_of, effects, ended_closed, ok_not, records_in, took_more, unshared}
use Rattle.sg_capture.proofs.Common.{waiting}
use Rattle.sg_capture.proofs.Readings.{behind_header, header_err, near_rest}
use Rattle.sg_capture.proofs.records.play_capture.Goals as goal

pub returns-in-Err-clause-ran : goal.returns-in-Err-clause-ran
returns-in-Err-clause-ran g c =
    let got = c.in-Err.ensures.header in (
      got.0,
      got.1,
      omega (arith, got.3),
      λ w stands.
          (let closed = c.close.ensures.closed (unshared w) stands in (
            closed.0,
            closed.1,
            header_err w (waiting c.args.player.now) c.args.player.now.front.table.moment c.args.reader.now.most c.in-Err.status c.close.result c.args.reader.now c.header.new.self got.0 closed.0 (g.S.Source.left c.header.new.source)
                (near_rest c.args.reader.now.waits got.0 _ _ (c.in-Err.ensures.near c.requires.near).1 got.3) refl got.2 closed.2,
          )),
    )

pub returns-in-Err-clause-read : goal.returns-in-Err-clause-read
returns-in-Err-clause-read g c =
    let closed = c.close.ensures.closed (unshared c.requires.stands.0) c.requires.stands.1 in
    ended_closed effects 258 Form c.in-Err.status c.close.result _ _ closed.0 closed.2 _ _ _ _ refl c.in-Err.ensures.cause

pub returns-in-Ok-clause-read : goal.returns-in-Ok-clause-read
returns-in-Ok-clause-read g c =
    subst (λ (n : ℕ). EndedBy (c.play_records.result ≡ Read) (IsWant c.play_records.result) n (g.S.Source.faults c.play_records.new.source) (g.S.Source.failed c.play_records.new.source))
    (c.in-Ok.ensures.cause.quiet (λ is. ok_not _ _ is)) c.play_records.ensures.read

pub returns-in-Ok-clause-ran : goal.returns-in-Ok-clause-ran
returns-in-Ok-clause-ran g c =
    let got = c.in-Ok.ensures.header in
    let then = c.play_records.ensures.ran in
    let part : List ℕ = c.header.new.self.part in
    let at : c.header.new.self.at ≡ 24 = (let moved = got.2.0.at in omega (arith, moved, c.requires.start)) in
    let same : (more : List ℕ) → capture_of c.args.reader.now.most (part ++ more) ≡ records_in c.header.new.self.most c.in-Ok.form c.header.new.self.at more =
    λ more. capture_begins c.args.reader.now.most part c.in-Ok.form got.2.1 got.2.0.whole more ∙ (λ i. records_in (sym c.header.ensures.most i) c.in-Ok.form (sym at i) more) in
    let split : c.args.reader.now.waits ++ (got.0 ++ then.0) ≡ part ++ (c.header.new.self.waits ++ then.0) =
    sym (append_assoc c.args.reader.now.waits got.0 then.0) ∙ ap (λ (l : List ℕ). l ++ then.0) got.2.0.split ∙ append_assoc part c.header.new.self.waits then.0 in (
      got.0 ++ then.0,
      took_more _ _ _ got.0 then.0 got.1 then.1,
      omega (arith, got.3, then.2, length-append got.0 then.0),
      λ w stands.
          (let r = then.3 w stands in (
            r.0,
            r.1,
            behind_header c.play_records.result w (waiting c.args.player.now) c.args.player.now.front.table.moment (capture_of c.args.reader.now.most) (records_in c.header.new.self.most c.in-Ok.form c.header.new.self.at)
                (c.args.reader.now.waits ++ (got.0 ++ then.0)) part (c.header.new.self.waits ++ then.0) r.0 (g.S.Source.left c.play_records.new.source) same split r.2,
          )),
    )

pub play_records-requires-clause-start : goal.play_records-requires-clause-start
play_records-requires-clause-start g c = let moved = c.in-Ok.ensures.header.2.0.at in omega (arith, moved, c.requires.start)

pub play_records-requires-clause-within : goal.play_records-requires-clause-within
play_records-requires-clause-within g c = let within = c.in-Ok.ensures.header.2.0.within in omega (arith, within, c.header.ensures.most)

pub play_records-requires-clause-near : goal.play_records-requires-clause-near
play_records-requires-clause-near g c = λ lifetimes lives. (c.in-Ok.ensures.near c.requires.near).0
