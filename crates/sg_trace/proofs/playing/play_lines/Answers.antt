use Rattle.std.proofs.Common.{rules, ◌≡◌, ◌⊎◌, ◌≤◌, ℕ, List, [], ◌++◌, length, None, IfSome, Ok, Err, refl, sym, ap, ◌∙◌, subst, inl, inr, arith, length-append}
use Rattle.sg_trace.proofs.Common.{Done, IsNextBy, IsReadBy, Noise, Read, Reading, Write, took_none, ways_of}
use Rattle.sg_trace.proofs.Causes.{failed_as, failed_now, not_failed, ok_not}
use Rattle.sg_trace.proofs.Ends.{closes_not, ended_closed, ended_quiet, next_isnt, played_not_read}
use Rattle.sg_trace.proofs.Loops.{begins, goes_on, near_by}
use Rattle.sg_trace.proofs.PassedOn.{behind_kept, nothing_kept, write_not}
use Rattle.sg_trace.proofs.Runs.{behind_last, cut_short, ended_in, ended_so, ended_whole, err_so, none_wait, settled_read, sure_read}
use Rattle.sg_trace.proofs.Traces.{whole_some}
use Rattle.sg_trace.proofs.playing.play_lines.Goals as goal

-- ---- where what was told isn't passed on

pub returns-in-Err-clause-ran : goal.returns-in-Err-clause-ran
returns-in-Err-clause-ran g c = λ begun stood.
    let e = g.P.Play.effects in
    let order = c.are_in_order.ensures in
    let batch = g.P.Play.batch in
    let so_far = c.lines.invariant.0 begun stood in
    let none : List ℕ = [] in
    let left = g.S.Source.left c.lines.source in
    let near : length (c.lines.script.waits ++ none) ≤ 74097 = omega (arith, c.lines.invariant.3, length-append c.lines.script.waits none) in (
      so_far.0 ++ (c.lines.script.waits ++ none),
      so_far.1,
      e.tells begun so_far.2 ++ none,
      cut_short (ways_of g.P.Line.ScriptLine.spelled g.P.Line.ScriptLine.followed g.P.Line.ScriptLine.last g.P.Play.gives) e order begun batch _ _ so_far.0 so_far.1 so_far.2 _ c.lines.script so_far.3 left none (took_none left) near so_far.4 c.lines.invariant.1 c.lines.script.budget (omega arith) g.P.Play.is_prompt (λ prompt. g.met.P.Play.at_once prompt c.lines.player)
          c.in-Err.status _ none (nothing_kept _ _ c.in-Err.ensures.kept) (inl c.in-Err.ensures.only, (e.tells (e.after begun so_far.2) (g.P.Play.waits c.lines.player), refl), c.lines.invariant.8),
    )

pub returns-in-Err-clause-read : goal.returns-in-Err-clause-read
returns-in-Err-clause-read g c = ended_quiet _ _ _ _ _ c.lines.invariant.4 (write_not c.in-Err.status Read c.in-Err.ensures.only (λ is. cc))

pub returns-in-Err-clause-prompt : goal.returns-in-Err-clause-prompt
returns-in-Err-clause-prompt g c = λ prompt. not_failed _ _ _ _ c.lines.invariant.4 (write_not c.in-Err.status Read c.in-Err.ensures.only (λ is. cc))

pub returns-in-Err-clause-noise : goal.returns-in-Err-clause-noise
returns-in-Err-clause-noise g c = not_failed _ _ _ _ c.lines.invariant.6 (λ is. write_not c.in-Err.status Noise c.in-Err.ensures.only (λ same. cc) (err_so _ _ is))

-- ---- where no line was read

pub close-requires-clause-not_write : goal.close-requires-clause-not_write
close-requires-clause-not_write g c = next_isnt g.P.Line.ScriptLine.spelled g.P.Line.ScriptLine.followed c.in-Err-next.status Write c.lines.script c.next.new.self c.in-Err-next.ensures.next.0 _ (λ never. never) c.in-Err-next.ensures.next.2

pub close-requires-clause-stands : goal.close-requires-clause-stands
close-requires-clause-stands g c =
    let so_far = c.lines.invariant.0 c.requires.stands.0 c.requires.stands.1 in
    (g.P.Play.effects.after c.requires.stands.0 so_far.2, so_far.5)

pub returns-in-Err-next-clause-ran : goal.returns-in-Err-next-clause-ran
returns-in-Err-next-clause-ran g c = λ begun stood.
    let e = g.P.Play.effects in
    let order = c.are_in_order.ensures in
    let batch = g.P.Play.batch in
    let so_far = c.lines.invariant.0 begun stood in
    let got = c.in-Err-next.ensures.next in
    let near = near_by c.lines.script.waits got.0 _ _ (c.in-Err-next.ensures.near c.lines.invariant.3).1 got.3 in
    let closed = c.close.ensures.closed (e.after begun so_far.2) so_far.5 in (
      so_far.0 ++ (c.lines.script.waits ++ got.0),
      so_far.1,
      e.tells begun so_far.2 ++ closed.0,
      ended_so (ways_of g.P.Line.ScriptLine.spelled g.P.Line.ScriptLine.followed g.P.Line.ScriptLine.last g.P.Play.gives) e order begun batch _ _ so_far.0 so_far.1 so_far.2 _ c.lines.script so_far.3 _ got.0 got.1 near so_far.4 c.lines.invariant.1 _ got.3 g.P.Play.is_prompt (λ prompt. g.met.P.Play.at_once prompt c.lines.player)
          c.in-Err-next.status c.close.result _ _ closed.0 (behind_kept _ _ _ closed.0 c.in-Ok.ensures.kept closed.1) got.2 closed.2,
    )

pub returns-in-Err-next-clause-read : goal.returns-in-Err-next-clause-read
returns-in-Err-next-clause-read g c =
    let so_far = c.lines.invariant.0 c.requires.stands.0 c.requires.stands.1 in
    let closed = c.close.ensures.closed (g.P.Play.effects.after c.requires.stands.0 so_far.2) so_far.5 in
    ended_closed g.P.Play.effects g.P.Play.batch _ c.in-Err-next.status c.close.result _ _ closed.0 closed.2 _ _ _ _ c.lines.invariant.4 c.in-Err-next.ensures.cause

pub returns-in-Err-next-clause-prompt : goal.returns-in-Err-next-clause-prompt
returns-in-Err-next-clause-prompt g c = λ prompt.
    let same = c.close.ensures.sure prompt in
    failed_now _ _ _ _ _ c.lines.invariant.4
    (failed_as _ _ _ _ _ (λ is. ap Err (sym same ∙ is)) (λ is. (let told : c.in-Err-next.status ≡ Read = cc in same ∙ told)) c.in-Err-next.ensures.cause)

pub returns-in-Err-next-clause-noise : goal.returns-in-Err-next-clause-noise
returns-in-Err-next-clause-noise g c =
    let so_far = c.lines.invariant.0 c.requires.stands.0 c.requires.stands.1 in
    let got = c.in-Err-next.ensures.next in
    let closed = c.close.ensures.closed (g.P.Play.effects.after c.requires.stands.0 so_far.2) so_far.5 in
    not_failed _ _ _ _ c.lines.invariant.6
    (λ is. closes_not g.P.Play.effects g.P.Play.batch c.in-Err-next.status c.close.result Noise _ _ closed.0 closed.2
    (next_isnt g.P.Line.ScriptLine.spelled g.P.Line.ScriptLine.followed c.in-Err-next.status Noise c.lines.script c.next.new.self got.0 _ (λ never. never) got.2) (λ same. cc) (λ same. cc) (err_so _ _ is))

-- ---- at the source's end

pub returns-in-Ok-None-clause-ran : goal.returns-in-Ok-None-clause-ran
returns-in-Ok-None-clause-ran g c = λ begun stood.
    let e = g.P.Play.effects in
    let order = c.are_in_order.ensures in
    let batch = g.P.Play.batch in
    let so_far = c.lines.invariant.0 begun stood in
    let got = c.in-Ok-None.ensures.next in
    let next : IsNextBy g.P.Line.ScriptLine.spelled g.P.Line.ScriptLine.followed (Ok None) c.lines.script c.next.new.self got.0 (g.S.Source.left c.next.new.source) =
    subst (λ r. IsNextBy g.P.Line.ScriptLine.spelled g.P.Line.ScriptLine.followed (Ok r) c.lines.script c.next.new.self got.0 (g.S.Source.left c.next.new.source)) c.in-Ok-None.field-0-is got.2 in
    let near = near_by c.lines.script.waits got.0 _ _ (c.in-Ok-None.ensures.near c.lines.invariant.3).1 got.3 in
    let closed = c.close-in-Ok-None.ensures.closed (e.after begun so_far.2) so_far.5 in (
      so_far.0 ++ (c.lines.script.waits ++ got.0),
      so_far.1,
      e.tells begun so_far.2 ++ closed.0,
      ended_whole (ways_of g.P.Line.ScriptLine.spelled g.P.Line.ScriptLine.followed g.P.Line.ScriptLine.last g.P.Play.gives) e order begun batch _ _ so_far.0 so_far.1 so_far.2 _ c.lines.script so_far.3 _ got.0 got.1 near so_far.4 c.lines.invariant.1 _ got.3 g.P.Play.is_prompt (λ prompt. g.met.P.Play.at_once prompt c.lines.player)
          c.close-in-Ok-None.result _ closed.0 (behind_kept _ _ _ closed.0 c.in-Ok.ensures.kept closed.1) next.0 (end_so next.1 (λ far. omega (arith, far, c.lines.invariant.2))) closed.2,
    )
  where
    end_so : {P Q : Type 0} → P ⊎ Q → (Q → ⊥) → P
    end_so (inl p) isnt = p
    end_so (inr q) isnt = absurd (isnt q)

pub returns-in-Ok-None-clause-read : goal.returns-in-Ok-None-clause-read
returns-in-Ok-None-clause-read g c =
    let so_far = c.lines.invariant.0 c.requires.stands.0 c.requires.stands.1 in
    let closed = c.close-in-Ok-None.ensures.closed (g.P.Play.effects.after c.requires.stands.0 so_far.2) so_far.5 in
    ended_quiet _ _ _ _ _ (c.in-Ok-None.ensures.cause.quiet (λ is. ok_not _ _ is) ∙ c.lines.invariant.4)
    (closes_not g.P.Play.effects g.P.Play.batch Done c.close-in-Ok-None.result Read _ _ closed.0 closed.2 (λ is. cc) (λ is. cc) (λ is. cc))

pub returns-in-Ok-None-clause-prompt : goal.returns-in-Ok-None-clause-prompt
returns-in-Ok-None-clause-prompt g c = λ prompt.
    let same = c.close-in-Ok-None.ensures.sure prompt in
    not_failed _ _ _ _ (c.in-Ok-None.ensures.cause.quiet (λ is. ok_not _ _ is) ∙ c.lines.invariant.4) (λ is. (let both : Done ≡ Read = sym same ∙ is in cc))

pub returns-in-Ok-None-clause-noise : goal.returns-in-Ok-None-clause-noise
returns-in-Ok-None-clause-noise g c =
    let so_far = c.lines.invariant.0 c.requires.stands.0 c.requires.stands.1 in
    let closed = c.close-in-Ok-None.ensures.closed (g.P.Play.effects.after c.requires.stands.0 so_far.2) so_far.5 in
    not_failed _ _ _ _ c.lines.invariant.6
    (λ is. closes_not g.P.Play.effects g.P.Play.batch Done c.close-in-Ok-None.result Noise _ _ closed.0 closed.2 (λ same. cc) (λ same. cc) (λ same. cc) (err_so _ _ is))

-- ---- behind the last line

pub settle-requires : goal.settle-requires
settle-requires g c =
    let so_far = c.lines.invariant.0 c.requires.stands.0 c.requires.stands.1 in
    (g.P.Play.effects.after c.requires.stands.0 so_far.2, so_far.5)

pub returns-then-is_last-clause-ran : goal.returns-then-is_last-clause-ran
returns-then-is_last-clause-ran g c = λ begun stood.
    let e = g.P.Play.effects in
    let order = c.are_in_order.ensures in
    let batch = g.P.Play.batch in
    let so_far = c.lines.invariant.0 begun stood in
    let got = c.in-Ok-Some.ensures.next in
    let near = c.in-Ok-Some.ensures.near c.lines.invariant.3 in
    let read : IsReadBy g.P.Line.ScriptLine.spelled g.P.Line.ScriptLine.followed c.in-Ok-Some.line c.lines.script c.next.new.self got.0 =
    subst (λ r. IsNextBy g.P.Line.ScriptLine.spelled g.P.Line.ScriptLine.followed (Ok r) c.lines.script c.next.new.self got.0 (g.S.Source.left c.next.new.source)) c.in-Ok-Some.field-0-is got.2 in
    let settled = c.settle.ensures.settled (e.after begun so_far.2) so_far.5 in (
      so_far.0 ++ (c.lines.script.waits ++ got.0),
      so_far.1,
      e.tells begun so_far.2 ++ settled.0,
      behind_last (ways_of g.P.Line.ScriptLine.spelled g.P.Line.ScriptLine.followed g.P.Line.ScriptLine.last g.P.Play.gives) e order begun batch _ _ so_far.0 so_far.1 so_far.2 _ c.lines.script so_far.3 _ got.0 got.1 (near_by c.lines.script.waits got.0 _ _ near.1 got.3) so_far.4 c.lines.invariant.1 _ got.3 g.P.Play.is_prompt (λ prompt. g.met.P.Play.at_once prompt c.lines.player)
          c.in-Ok-Some.line c.next.new.self read (sym c.is_last.ensures ∙ c.if-is_last.true) refl near.0 _ (g.P.Play.waits c.settle.new.self) (g.P.Play.stands c.settle.new.self) settled.0 (behind_kept _ _ _ settled.0 c.in-Ok.ensures.kept settled.1)
          c.settle.result settled.2,
    )

pub returns-then-is_last-clause-none : goal.returns-then-is_last-clause-none
returns-then-is_last-clause-none g c =
    let so_far = c.lines.invariant.0 c.requires.stands.0 c.requires.stands.1 in
    none_wait c.settle.result _ _ _ _ _ _ _ (c.settle.ensures.settled (g.P.Play.effects.after c.requires.stands.0 so_far.2) so_far.5).2

pub returns-then-is_last-clause-read : goal.returns-then-is_last-clause-read
returns-then-is_last-clause-read g c = settled_read c.settle.result _ _ _ c.settle.ensures.only (c.in-Ok-Some.ensures.cause.quiet (λ is. ok_not _ _ is) ∙ c.lines.invariant.4)

pub returns-then-is_last-clause-prompt : goal.returns-then-is_last-clause-prompt
returns-then-is_last-clause-prompt g c = λ prompt. sure_read c.settle.result _ _ _ (c.settle.ensures.sure prompt)

-- ---- where a line was read

pub play-requires-clause-fits : goal.play-requires-clause-fits
play-requires-clause-fits g c = (c.lines.script.version, c.lines.script.number, subst (λ r. IfSome r (λ line. g.P.Line.ScriptLine.fits c.lines.script.version c.lines.script.number line)) c.in-Ok-Some.field-0-is c.in-Ok-Some.ensures.fits)

pub play-requires-clause-stands : goal.play-requires-clause-stands
play-requires-clause-stands g c =
    let so_far = c.lines.invariant.0 c.requires.stands.0 c.requires.stands.1 in
    (g.P.Play.effects.after c.requires.stands.0 so_far.2, so_far.5)

pub returns-in-Err-play-clause-ran : goal.returns-in-Err-play-clause-ran
returns-in-Err-play-clause-ran g c = λ begun stood.
    let e = g.P.Play.effects in
    let order = c.are_in_order.ensures in
    let batch = g.P.Play.batch in
    let so_far = c.lines.invariant.0 begun stood in
    let got = c.in-Ok-Some.ensures.next in
    let read : IsReadBy g.P.Line.ScriptLine.spelled g.P.Line.ScriptLine.followed c.in-Ok-Some.line c.lines.script c.next.new.self got.0 =
    subst (λ r. IsNextBy g.P.Line.ScriptLine.spelled g.P.Line.ScriptLine.followed (Ok r) c.lines.script c.next.new.self got.0 (g.S.Source.left c.next.new.source)) c.in-Ok-Some.field-0-is got.2 in
    let near = near_by c.lines.script.waits got.0 _ _ (c.in-Ok-Some.ensures.near c.lines.invariant.3).1 got.3 in
    let played = c.in-Err-play.ensures.played (e.after begun so_far.2) so_far.5 in (
      so_far.0 ++ (c.lines.script.waits ++ got.0),
      so_far.1 ++ played.0,
      e.tells begun so_far.2 ++ played.1,
      ended_in (ways_of g.P.Line.ScriptLine.spelled g.P.Line.ScriptLine.followed g.P.Line.ScriptLine.last g.P.Play.gives) e order begun batch _ _ so_far.0 so_far.1 so_far.2 _ c.lines.script so_far.3 _ got.0 got.1 near so_far.4 c.lines.invariant.1 _ got.3 g.P.Play.is_prompt (λ prompt. g.met.P.Play.at_once prompt c.lines.player)
          c.in-Ok-Some.line c.next.new.self read (sym c.is_last.ensures ∙ c.if-is_last.false) c.in-Err-play.status _ _ (g.P.Play.waits c.play.new.self) (g.P.Play.stands c.play.new.self) played.0 played.1
          (behind_kept _ _ _ played.1 c.in-Ok.ensures.kept played.3) played.2 played.4,
    )

pub returns-in-Err-play-clause-read : goal.returns-in-Err-play-clause-read
returns-in-Err-play-clause-read g c =
    let so_far = c.lines.invariant.0 c.requires.stands.0 c.requires.stands.1 in
    let played = c.in-Err-play.ensures.played (g.P.Play.effects.after c.requires.stands.0 so_far.2) so_far.5 in
    ended_quiet _ _ _ _ _ (c.in-Ok-Some.ensures.cause.quiet (λ is. ok_not _ _ is) ∙ c.lines.invariant.4) (played_not_read c.in-Err-play.status g.P.Play.effects (g.P.Play.gives c.in-Ok-Some.line) g.P.Play.batch _ _ _ _ played.0 played.1 played.4)

pub returns-in-Err-play-clause-prompt : goal.returns-in-Err-play-clause-prompt
returns-in-Err-play-clause-prompt g c = λ prompt.
    let so_far = c.lines.invariant.0 c.requires.stands.0 c.requires.stands.1 in
    let played = c.in-Err-play.ensures.played (g.P.Play.effects.after c.requires.stands.0 so_far.2) so_far.5 in
    not_failed _ _ _ _ (c.in-Ok-Some.ensures.cause.quiet (λ is. ok_not _ _ is) ∙ c.lines.invariant.4) (played_not_read c.in-Err-play.status g.P.Play.effects (g.P.Play.gives c.in-Ok-Some.line) g.P.Play.batch _ _ _ _ played.0 played.1 played.4)

pub lines-smaller : goal.lines-smaller
lines-smaller g c =
    let got = c.in-Ok-Some.ensures.next in
    let read : IsReadBy g.P.Line.ScriptLine.spelled g.P.Line.ScriptLine.followed c.in-Ok-Some.line c.lines.script c.next.new.self got.0 =
    subst (λ r. IsNextBy g.P.Line.ScriptLine.spelled g.P.Line.ScriptLine.followed (Ok r) c.lines.script c.next.new.self got.0 (g.S.Source.left c.next.new.source)) c.in-Ok-Some.field-0-is got.2 in
    let some = whole_some read.line read.whole in
    omega (arith, read.offset, read.within, some)

pub lines-preserved : goal.lines-preserved
lines-preserved g c =
    let e = g.P.Play.effects in
    let order = c.are_in_order.ensures in
    let got = c.in-Ok-Some.ensures.next in
    let read : IsReadBy g.P.Line.ScriptLine.spelled g.P.Line.ScriptLine.followed c.in-Ok-Some.line c.lines.script c.next.new.self got.0 =
    subst (λ r. IsNextBy g.P.Line.ScriptLine.spelled g.P.Line.ScriptLine.followed (Ok r) c.lines.script c.next.new.self got.0 (g.S.Source.left c.next.new.source)) c.in-Ok-Some.field-0-is got.2 in
    let near = near_by c.lines.script.waits got.0 _ _ (c.in-Ok-Some.ensures.near c.lines.invariant.3).1 got.3 in (
      (λ begun stood.
          let so_far = c.lines.invariant.0 begun stood in
          let played = c.in-Ok-play.ensures.played (e.after begun so_far.2) so_far.5 in (
            so_far.0 ++ read.line,
            so_far.1 ++ played.0,
            so_far.2 ++ played.4.told,
            goes_on (ways_of g.P.Line.ScriptLine.spelled g.P.Line.ScriptLine.followed g.P.Line.ScriptLine.last g.P.Play.gives) e order begun g.P.Play.batch _ _ so_far.0 so_far.1 so_far.2 _ c.lines.script so_far.3 _ got.0 got.1 near c.in-Ok-Some.line c.next.new.self read (sym c.is_last.ensures ∙ c.if-is_last.false) _ _ _ _ played.0 played.1 played.4 played.2 (behind_kept _ _ _ played.1 c.in-Ok.ensures.kept played.3),
            omega (arith, so_far.4, read.offset, length-append so_far.0 read.line),
            subst (g.P.Play.stands c.play.new.self) (sym (order.after begun so_far.2 played.4.told)) played.4.left,
          )),
      omega (arith, read.offset, got.3, c.lines.invariant.1, length-append c.lines.script.waits got.0, ap length read.split, length-append read.line c.next.new.self.waits),
      read.within,
      (c.in-Ok-Some.ensures.near c.lines.invariant.3).0,
      search rules,
      search rules,
      search rules,
      omega (arith, c.lines.invariant.7, c.next.ensures.given),
      c.in-Ok-play.ensures.few,
    )

-- nothing is read, drawn, told or written yet
pub lines-init : goal.lines-init
lines-init g c =
    let order = c.are_in_order.ensures in
    let none : List ℕ = [] in
    let es : List g.P.Play.Deed = [] in (
      (λ begun stood. (
        none,
        none,
        es,
        begins (ways_of g.P.Line.ScriptLine.spelled g.P.Line.ScriptLine.followed g.P.Line.ScriptLine.last g.P.Play.gives) g.P.Play.effects order begun _ (g.P.Play.waits c.args.player.now) c.args.script.now c.requires.waits c.requires.start,
        sym (ap (λ (s : Reading). s.offset) c.requires.start),
        subst (g.P.Play.stands c.args.player.now) (sym (order.none_after begun)) stood,
      )),
      search rules,
      search rules,
      omega (arith, ap (λ (s : Reading). length s.waits) c.requires.start),
      search rules,
      search rules,
      search rules,
      search rules,
      omega (arith, ap length c.requires.waits),
    )
