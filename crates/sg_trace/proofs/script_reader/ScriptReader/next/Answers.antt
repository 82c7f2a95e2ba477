use Rattle.std.proofs.Common.{rules, ◌≡◌, ◌+◌, ◌<◌, ◌≤◌, ◌^◌, ℕ, true, List, [], ◌++◌, length, Some, Ok, Err, ap, sym, ◌∙◌, subst, arith, length-append}
use Rattle.sg_trace.proofs.Common.{Gives, IsLine, IsNextBy, IsReadBy, Reading, Status, TookIn, spelled_at}
use Rattle.sg_trace.proofs.ReadBuffers.{all_given}
use Rattle.sg_trace.proofs.Readings.{given_at, line_some, near_so, next_err, next_ok}
use Rattle.sg_trace.proofs.script_reader.ScriptReader.next.Goals as goal

pub invariant_of-self : goal.invariant_of-self
invariant_of-self g c =
    let got = c.next_line.ensures.got in
    let size : c.len.result ≡ length c.self.inside.line.items = search rules in
    let all : c.self.inside.read_buffer ++ got.0 ≡ c.next_line.new.line.items ++ c.next_line.new.read_buffer = all_given c.next_line.result _ _ _ _ _ _ got.2 in (
      omega (arith, size, c.self.invariant.0, got.3, ap length all, length-append c.self.inside.read_buffer got.0, length-append c.next_line.new.line.items c.next_line.new.read_buffer),
      omega (arith, size, c.self.invariant.1),
      c.self.invariant.2,
    )

pub invariant_of-self-then-not-found : goal.invariant_of-self-then-not-found
invariant_of-self-then-not-found g c =
    let got = c.next_line.ensures.got in
    let size : c.len.result ≡ length c.self.inside.line.items = search rules in
    let all : c.self.inside.read_buffer ++ got.0 ≡ c.next_line.new.line.items ++ c.next_line.new.read_buffer = all_given c.next_line.result _ _ _ _ _ _ got.2 in (
      omega (arith, size, c.self.invariant.0, got.3, ap length all, length-append c.self.inside.read_buffer got.0, length-append c.next_line.new.line.items c.next_line.new.read_buffer),
      omega (arith, size, c.self.invariant.1),
      c.self.invariant.2,
    )

pub line_at-requires-clause-version : goal.line_at-requires-clause-version
line_at-requires-clause-version g c = c.self.invariant.2

pub line_at-requires-clause-within : goal.line_at-requires-clause-within
line_at-requires-clause-within g c =
    let got = c.next_line.ensures.got in
    let size : c.len.result ≡ length c.self.inside.line.items = search rules in
    let all : c.self.inside.read_buffer ++ got.0 ≡ c.next_line.new.line.items ++ c.next_line.new.read_buffer = all_given c.next_line.result _ _ _ _ _ _ got.2 in
    omega (arith, size, c.self.invariant.0, got.3, ap length all, length-append c.self.inside.read_buffer got.0, length-append c.next_line.new.line.items c.next_line.new.read_buffer, ap length c.deref.ensures.value)

pub invariant_of-self-in-Ok : goal.invariant_of-self-in-Ok
invariant_of-self-in-Ok g c =
    let got = c.in_ok-found.ensures.got in
    let size : c.len.result ≡ length c.self.inside.line.items = search rules in
    let found : c.in_ok-found.found ≡ true = search rules in
    let given : (c.self.inside.read_buffer ++ got.0 ≡ c.next_line.new.line.items ++ c.next_line.new.read_buffer) × IsLine c.next_line.new.line.items c.next_line.new.read_buffer (g.S.Source.left c.next_line.new.source) c.next_line.new.budget =
    given_at Status c.in_ok-found.found true c.next_line.new.line.items c.self.inside.read_buffer c.next_line.new.read_buffer got.0 _ _ found got.2 in
    let some = line_some c.next_line.new.line.items c.next_line.new.read_buffer (g.S.Source.left c.next_line.new.source) c.next_line.new.budget given.1 in (
      omega (arith, size, c.self.invariant.0, got.3, ap length given.0, length-append c.self.inside.read_buffer got.0, length-append c.next_line.new.line.items c.next_line.new.read_buffer),
      omega (arith, size, c.self.invariant.1, some),
      c.version_after-self-inside.ensures.one_of_two,
    )

pub invariant_of-self-in-Err : goal.invariant_of-self-in-Err
invariant_of-self-in-Err g c =
    let got = c.in_ok-found.ensures.got in
    let size : c.len.result ≡ length c.self.inside.line.items = search rules in
    let found : c.in_ok-found.found ≡ true = search rules in
    let given : (c.self.inside.read_buffer ++ got.0 ≡ c.next_line.new.line.items ++ c.next_line.new.read_buffer) × IsLine c.next_line.new.line.items c.next_line.new.read_buffer (g.S.Source.left c.next_line.new.source) c.next_line.new.budget =
    given_at Status c.in_ok-found.found true c.next_line.new.line.items c.self.inside.read_buffer c.next_line.new.read_buffer got.0 _ _ found got.2 in
    let some = line_some c.next_line.new.line.items c.next_line.new.read_buffer (g.S.Source.left c.next_line.new.source) c.next_line.new.budget given.1 in (
      omega (arith, size, c.self.invariant.0, got.3, ap length given.0, length-append c.self.inside.read_buffer got.0, length-append c.next_line.new.line.items c.next_line.new.read_buffer),
      omega (arith, size, c.self.invariant.1, some),
      c.self.invariant.2,
    )

pub returns-in-Ok-clause-next : goal.returns-in-Ok-clause-next
returns-in-Ok-clause-next g c =
    let got = c.in_ok-found.ensures.got in
    let left = g.S.Source.left c.next_line.new.source in
    let line = c.next_line.new.line.items in
    let at : ℕ = c.self.inside.at + c.len.result in
    let n : ℕ = c.self.inside.count + 1 in
    let v : ℕ = c.self.inside.version in
    let size : c.len.result ≡ length c.self.inside.line.items = search rules in
    let found : c.in_ok-found.found ≡ true = search rules in
    let given : (c.self.inside.read_buffer ++ got.0 ≡ line ++ c.next_line.new.read_buffer) × IsLine line c.next_line.new.read_buffer left c.next_line.new.budget =
    given_at Status c.in_ok-found.found true line c.self.inside.read_buffer c.next_line.new.read_buffer got.0 _ _ found got.2 in
    let spent : c.next_line.new.budget ≡ 0 → c.next_line.new.read_buffer ≡ [] → 2 ^ 30 < at + length line = λ zero none. omega (arith, zero, size, got.3, c.self.invariant.0, ap length given.0, length-append c.self.inside.read_buffer got.0, length-append line c.next_line.new.read_buffer, ap length none) in
    let after : ℕ = c.version_after-self-inside.result in
    let new : Reading = record { waits = c.next_line.new.read_buffer; version = after; number = n + 1; offset = at + length line; budget = c.next_line.new.budget } in
    let next : IsNextBy g.L.ScriptLine.spelled g.L.ScriptLine.followed (Ok (Some c.in-Ok.line)) (record { waits = c.self.inside.read_buffer; version = v; number = n; offset = at; budget = c.self.inside.budget }) new got.0 left =
    subst (λ (m : ℕ). IsReadBy g.L.ScriptLine.spelled g.L.ScriptLine.followed c.in-Ok.line (record { waits = c.self.inside.read_buffer; version = v; number = n; offset = at; budget = c.self.inside.budget }) (record { waits = c.next_line.new.read_buffer; version = m; number = n + 1; offset = at + length line; budget = c.next_line.new.budget }) got.0) (sym c.version_after-self-inside.ensures.is)
    (next_ok g.L.ScriptLine.spelled g.L.ScriptLine.followed c.are_framed.ensures v n at line c.self.inside.read_buffer c.next_line.new.read_buffer got.0 left c.next_line.new.budget given.0 given.1 spent c.in-Ok.line c.self.inside.budget
    (ap (spelled_at g.L.ScriptLine.spelled v n at) (sym c.deref.ensures.value) ∙ c.in-Ok.ensures.exact)) in
    subst (λ (r : Reading). (x : List ℕ) × TookIn (g.S.Source.left c.args.source.now) left x × IsNextBy g.L.ScriptLine.spelled g.L.ScriptLine.followed (Ok (Some c.in-Ok.line)) r new x left × (length x + c.next_line.new.budget ≡ r.budget)) c.self.view_is
    (got.0, got.1, subst (λ (m : ℕ). IsNextBy g.L.ScriptLine.spelled g.L.ScriptLine.followed (Ok (Some c.in-Ok.line)) (record { waits = c.self.inside.read_buffer; version = v; number = n; offset = c.self.inside.at + m; budget = c.self.inside.budget }) new got.0 left) size next, got.3)

pub returns-in-Err-clause-next : goal.returns-in-Err-clause-next
returns-in-Err-clause-next g c =
    let got = c.in_ok-found.ensures.got in
    let left = g.S.Source.left c.next_line.new.source in
    let line = c.next_line.new.line.items in
    let at : ℕ = c.self.inside.at + c.len.result in
    let n : ℕ = c.self.inside.count + 1 in
    let v : ℕ = c.self.inside.version in
    let size : c.len.result ≡ length c.self.inside.line.items = search rules in
    let found : c.in_ok-found.found ≡ true = search rules in
    let given : (c.self.inside.read_buffer ++ got.0 ≡ line ++ c.next_line.new.read_buffer) × IsLine line c.next_line.new.read_buffer left c.next_line.new.budget =
    given_at Status c.in_ok-found.found true line c.self.inside.read_buffer c.next_line.new.read_buffer got.0 _ _ found got.2 in
    let spent : c.next_line.new.budget ≡ 0 → c.next_line.new.read_buffer ≡ [] → 2 ^ 30 < at + length line = λ zero none. omega (arith, zero, size, got.3, c.self.invariant.0, ap length given.0, length-append c.self.inside.read_buffer got.0, length-append line c.next_line.new.read_buffer, ap length none) in
    let new : Reading = record { waits = c.next_line.new.read_buffer; version = v; number = n + 1; offset = at + length line; budget = c.next_line.new.budget } in
    let next : IsNextBy g.L.ScriptLine.spelled g.L.ScriptLine.followed (Err c.refused.result) (record { waits = c.self.inside.read_buffer; version = v; number = n; offset = at; budget = c.self.inside.budget }) new got.0 left =
    subst (λ s. IsNextBy g.L.ScriptLine.spelled g.L.ScriptLine.followed (Err s) (record { waits = c.self.inside.read_buffer; version = v; number = n; offset = at; budget = c.self.inside.budget }) new got.0 left) (sym c.refused.ensures)
    (next_err g.L.ScriptLine.spelled g.L.ScriptLine.followed c.are_framed.ensures v n at line c.self.inside.read_buffer c.next_line.new.read_buffer got.0 left c.next_line.new.budget given.0 given.1 spent c.in-Err.fault c.self.inside.budget new
    (subst (λ (l : List ℕ). Gives (Err c.in-Err.fault) (spelled_at g.L.ScriptLine.spelled v n at l)) c.deref.ensures.value c.in-Err.ensures.exact)) in
    subst (λ (r : Reading). (x : List ℕ) × TookIn (g.S.Source.left c.args.source.now) left x × IsNextBy g.L.ScriptLine.spelled g.L.ScriptLine.followed (Err c.refused.result) r new x left × (length x + c.next_line.new.budget ≡ r.budget)) c.self.view_is
    (got.0, got.1, subst (λ (m : ℕ). IsNextBy g.L.ScriptLine.spelled g.L.ScriptLine.followed (Err c.refused.result) (record { waits = c.self.inside.read_buffer; version = v; number = n; offset = c.self.inside.at + m; budget = c.self.inside.budget }) new got.0 left) size next, got.3)

pub returns-then-not-found-clause-near : goal.returns-then-not-found-clause-near
returns-then-not-found-clause-near g c =
    let got = c.next_line.ensures.got in
    subst (λ (r : Reading). length r.waits ≤ 4096 → (length c.next_line.new.read_buffer ≤ 4096) × (length r.waits + r.budget ≤ c.next_line.new.budget + 74097)) c.self.view_is
    (near_so c.next_line.new.line.items c.self.inside.read_buffer c.next_line.new.read_buffer got.0 c.self.inside.budget c.next_line.new.budget (all_given c.next_line.result _ _ _ _ _ _ got.2) got.3 c.next_line.ensures.near)

pub returns-in_err-found-clause-near : goal.returns-in_err-found-clause-near
returns-in_err-found-clause-near g c =
    let got = c.next_line.ensures.got in
    subst (λ (r : Reading). length r.waits ≤ 4096 → (length c.next_line.new.read_buffer ≤ 4096) × (length r.waits + r.budget ≤ c.next_line.new.budget + 74097)) c.self.view_is
    (near_so c.next_line.new.line.items c.self.inside.read_buffer c.next_line.new.read_buffer got.0 c.self.inside.budget c.next_line.new.budget (all_given c.next_line.result _ _ _ _ _ _ got.2) got.3 c.next_line.ensures.near)

pub returns-in-Ok-clause-near : goal.returns-in-Ok-clause-near
returns-in-Ok-clause-near g c =
    let got = c.next_line.ensures.got in
    subst (λ (r : Reading). length r.waits ≤ 4096 → (length c.next_line.new.read_buffer ≤ 4096) × (length r.waits + r.budget ≤ c.next_line.new.budget + 74097)) c.self.view_is
    (near_so c.next_line.new.line.items c.self.inside.read_buffer c.next_line.new.read_buffer got.0 c.self.inside.budget c.next_line.new.budget (all_given c.next_line.result _ _ _ _ _ _ got.2) got.3 c.next_line.ensures.near)

pub returns-in-Err-clause-near : goal.returns-in-Err-clause-near
returns-in-Err-clause-near g c =
    let got = c.next_line.ensures.got in
    subst (λ (r : Reading). length r.waits ≤ 4096 → (length c.next_line.new.read_buffer ≤ 4096) × (length r.waits + r.budget ≤ c.next_line.new.budget + 74097)) c.self.view_is
    (near_so c.next_line.new.line.items c.self.inside.read_buffer c.next_line.new.read_buffer got.0 c.self.inside.budget c.next_line.new.budget (all_given c.next_line.result _ _ _ _ _ _ got.2) got.3 c.next_line.ensures.near)
