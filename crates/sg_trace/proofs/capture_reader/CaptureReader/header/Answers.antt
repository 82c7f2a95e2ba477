use Rattle.std.proofs.Common.{◌≡◌, ◌≤◌, ◌∙◌, ◌+◌, ◌++◌, ℕ, List, [], length, Err, ap, sym, subst, length-append, arith, append-nil}
use Rattle.sg_trace.proofs.Common.{Capturing, IsHeaderRead, TookIn, capture_of, header_within}
use Rattle.sg_trace.proofs.CaptureReads.{failed_as, header_err, header_ok, header_short, moves_of, near_part, nothing_had, room_so}
use Rattle.sg_trace.proofs.capture_reader.CaptureReader.header.Goals.{in-Err-header_within, in-Ok-header_within}
use Rattle.sg_trace.proofs.capture_reader.CaptureReader.header.Goals as goal

pub invariant_of-self : goal.invariant_of-self
invariant_of-self g c =
    let got = c.next_part.ensures.got in
    (room_so _ _ _ _ _ got.0 _ _ _ (moves_of c.next_part.result 24 _ _ _ _ got.0 _ _ got.2) c.self.invariant.0 got.3, c.self.invariant.1)

pub invariant_of-self-2 : goal.invariant_of-self-2
invariant_of-self-2 g c =
    let got = c.next_part.ensures.got in
    (room_so _ _ _ _ _ got.0 _ _ _ (moves_of c.next_part.result 24 _ _ _ _ got.0 _ _ got.2) c.self.invariant.0 got.3, c.self.invariant.1)

pub returns-clause-header : goal.returns-clause-header
returns-clause-header g c =
    let got = c.in-Ok.ensures.got in
    let had : List ℕ = c.self.inside.part.items in
    let part : List ℕ = c.next_part.new.part.items in
    let left = g.S.Source.left c.next_part.new.source in
    let start : c.self.inside.at + length had ≡ 0 = ap (λ (v : Capturing). v.at) c.self.view_is ∙ c.requires in
    let first : c.self.inside.at ≡ 0 = omega (arith, start) in
    let none : had ≡ [] = nothing_had had (omega (arith, start)) in
    let room : c.self.inside.at + length part + length c.next_part.new.read_buffer + c.next_part.new.budget ≡ c.self.inside.most + 1 =
    room_so _ _ _ _ _ got.0 _ _ _ got.2.0 c.self.invariant.0 got.3 in
    let old : Capturing = record { waits = c.self.inside.read_buffer; part = had; at = c.self.inside.at + length had; most = c.self.inside.most; budget = c.self.inside.budget } in
    let new : Capturing = record { waits = c.next_part.new.read_buffer; part = part; at = c.self.inside.at + length part; most = c.self.inside.most; budget = c.next_part.new.budget } in
    let read : IsHeaderRead c.match-header_within.result old new got.0 left =
    elim c.match-header_within.branch [
      | in-Err-header_within w ↦
          subst (λ r. IsHeaderRead r old new got.0 left) (sym w.result-is)
          (header_err c.self.inside.most c.self.inside.at (c.self.inside.at + length had) c.self.inside.budget c.next_part.new.budget had c.self.inside.read_buffer got.0 c.next_part.new.read_buffer part left room (omega (arith, ap length none))
          w.in-Err-header_within.offset w.in-Err-header_within.fault none first got.2
          (ap (header_within c.self.inside.most) (sym c.deref.ensures.value) ∙ sym c.header_within.ensures ∙ w.in-Err-header_within.is))
      | in-Ok-header_within w ↦
          subst (λ r. IsHeaderRead r old new got.0 left) (sym w.result-is)
          (header_ok c.self.inside.most c.self.inside.at (c.self.inside.at + length had) c.self.inside.budget c.next_part.new.budget had c.self.inside.read_buffer got.0 c.next_part.new.read_buffer part left room (omega (arith, ap length none))
          w.in-Ok-header_within.form none first got.2
          (ap (header_within c.self.inside.most) (sym c.deref.ensures.value) ∙ sym c.header_within.ensures ∙ w.in-Ok-header_within.is))
    ] in
    subst (λ (v : Capturing). (x : List ℕ) × TookIn (g.S.Source.left c.args.source.now) left x × IsHeaderRead c.match-header_within.result v new x left × (length x + c.next_part.new.budget ≡ v.budget)) c.self.view_is
    (got.0, got.1, read, got.3)

pub returns-in-Err-clause-header : goal.returns-in-Err-clause-header
returns-in-Err-clause-header g c =
    let got = c.in-Err.ensures.got in
    let had : List ℕ = c.self.inside.part.items in
    let part : List ℕ = c.next_part.new.part.items in
    let left = g.S.Source.left c.next_part.new.source in
    let start : c.self.inside.at + length had ≡ 0 = ap (λ (v : Capturing). v.at) c.self.view_is ∙ c.requires in
    let none : had ≡ [] = nothing_had had (omega (arith, start)) in
    let front : got.2.0 ≡ part = sym (got.2.1.1 ∙ ap (λ (l : List ℕ). l ++ got.2.0) none) in
    let old : Capturing = record { waits = c.self.inside.read_buffer; part = had; at = c.self.inside.at + length had; most = c.self.inside.most; budget = c.self.inside.budget } in
    let new : Capturing = record { waits = c.next_part.new.read_buffer; part = part; at = c.self.inside.at + length part; most = c.self.inside.most; budget = c.next_part.new.budget } in
    let read : IsHeaderRead (Err c.in-Err.status) old new got.0 left =
    failed_as (λ s. IsHeaderRead (Err s) old new got.0 left) c.in-Err.status c.in-Err.ensures.only
    (λ is.
    (let short = c.in-Err.ensures.short (ap Err is) in
    let all : c.self.inside.read_buffer ++ got.0 ≡ part = got.2.1.0 ∙ (λ i. front i ++ short.1 i) ∙ append-nil part in
    ap (λ (l : List ℕ). (capture_of c.self.inside.most l).records) all ∙ header_short c.self.inside.most part short.0)) tt in
    subst (λ (v : Capturing). (x : List ℕ) × TookIn (g.S.Source.left c.args.source.now) left x × IsHeaderRead (Err c.in-Err.status) v new x left × (length x + c.next_part.new.budget ≡ v.budget)) c.self.view_is
    (got.0, got.1, read, got.3)

pub returns-in-Err-clause-near : goal.returns-in-Err-clause-near
returns-in-Err-clause-near g c =
    let got = c.next_part.ensures.got in
    let had : List ℕ = c.self.inside.part.items in
    let start : c.self.inside.at + length had ≡ 0 = ap (λ (v : Capturing). v.at) c.self.view_is ∙ c.requires in
    let moves = moves_of c.next_part.result 24 had c.next_part.new.part.items c.self.inside.read_buffer c.next_part.new.read_buffer got.0 _ _ got.2 in
    subst (λ (v : Capturing). length v.waits ≤ 4096 → (length c.next_part.new.read_buffer ≤ 4096) × (length v.waits + v.budget ≤ c.next_part.new.budget + 266256)) c.self.view_is
    (near_part moves.0 c.self.inside.read_buffer c.next_part.new.read_buffer got.0 c.self.inside.budget c.next_part.new.budget moves.1.0 got.3
    (λ few. (c.next_part.ensures.near few, omega (arith, c.next_part.ensures.most, start, ap length moves.1.1, length-append had moves.0))))

pub returns-clause-near : goal.returns-clause-near
returns-clause-near g c =
    let got = c.next_part.ensures.got in
    let had : List ℕ = c.self.inside.part.items in
    let start : c.self.inside.at + length had ≡ 0 = ap (λ (v : Capturing). v.at) c.self.view_is ∙ c.requires in
    let moves = moves_of c.next_part.result 24 had c.next_part.new.part.items c.self.inside.read_buffer c.next_part.new.read_buffer got.0 _ _ got.2 in
    subst (λ (v : Capturing). length v.waits ≤ 4096 → (length c.next_part.new.read_buffer ≤ 4096) × (length v.waits + v.budget ≤ c.next_part.new.budget + 266256)) c.self.view_is
    (near_part moves.0 c.self.inside.read_buffer c.next_part.new.read_buffer got.0 c.self.inside.budget c.next_part.new.budget moves.1.0 got.3
    (λ few. (c.next_part.ensures.near few, omega (arith, c.next_part.ensures.most, start, ap length moves.1.1, length-append had moves.0))))
