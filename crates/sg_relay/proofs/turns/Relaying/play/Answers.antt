use Rattle.std.proofs.Common.{rules, ◌≡◌, ◌⊎◌, ◌<◌, ◌≤◌, ◌^◌, ℕ, List, [], ◌++◌, Ok, Err, sym, ◌∙◌, subst, refl, arith, IfSome}
use Rattle.sg_relay.proofs.Common.{AtEnd, Done, IsNextBy, IsReadBy, Read, acts_by, added_none, failed_now, last_moment, moment_of, not_failed, ok_not}
use Rattle.sg_relay.proofs.Common.{stop_by, took_none, weaves_of, whole_some}
use Rattle.sg_relay.proofs.Blames.{due_so, lines_not_read}
use Rattle.sg_relay.proofs.Complete.{none_passed, none_relayed}
use Rattle.sg_relay.proofs.Order.{due_none, order_none}
use Rattle.sg_relay.proofs.Relays.{after, at_end, at_error, began_so, begins_so, begun_ends, behind, cut, ended_in, only_begun, passed, reading_so, with_line}
use Rattle.sg_relay.proofs.turns.Relaying.play.Goals as goal

-- before anything is done
pub returns-in-Err-clause-ran : goal.returns-in-Err-clause-ran
returns-in-Err-clause-ran g c = λ state stood.
    let w = weaves_of g.E.Line.ScriptLine.spelled g.E.Line.ScriptLine.followed g.E.Handling.waits g.E.Handling.gives g.E.Handling.ticks g.E.Handling.arrives in
    let acting = g.E.Handling.acting in
    let law = c.are_in_order.ensures in
    (none_passed, none_relayed w (acting.acts state) (law.none_done state) _ c.args.self.now.left)

pub say-requires-clause-fits : goal.say-requires-clause-fits
say-requires-clause-fits g c = (c.lines.script.version, c.lines.script.number, subst (λ r. IfSome r (λ line. g.E.Line.ScriptLine.fits c.lines.script.version c.lines.script.number line)) c.in-Ok-Some.field-0-is c.in-Ok-Some.ensures.fits)

pub returns-in-Err-begin-clause-ran : goal.returns-in-Err-begin-clause-ran
returns-in-Err-begin-clause-ran g c = λ state stood.
    let w = weaves_of g.E.Line.ScriptLine.spelled g.E.Line.ScriptLine.followed g.E.Handling.waits g.E.Handling.gives g.E.Handling.ticks g.E.Handling.arrives in
    let acting = g.E.Handling.acting in
    let law = c.are_in_order.ensures in
    let s = c.in-Err-begin.status in
    let begun = c.in-Err-begin.ensures.begun state stood in
    let ends = begun_ends w acting law state c.args.self.now.left (g.S.Source.left c.args.source.now) (g.E.Handling.stands c.begin.new.exchange) begun.0 begun.1 begun.2 s c.in-Err-begin.ensures.only begun.6 in (
      only_begun begun.0 begun.1 begun.2,
      record {
        took = took_none _;
        wrote = begun.5;
        called = begun.4;
        read = begun.3;
        drew = added_none _;
        ends = ends.0;
        bound = omega arith;
        most = ends.2;
        paced = ends.1;
        in_order = order_none (acts_by w (acting.acts state) (only_begun begun.0 begun.1 begun.2)) begun.1 ends.3;
        due = due_none (stop_by w (only_begun begun.0 begun.1 begun.2)) begun.1 ends.3;
      },
    )

pub lines-init : goal.lines-init
lines-init g c =
    let w = weaves_of g.E.Line.ScriptLine.spelled g.E.Line.ScriptLine.followed g.E.Handling.waits g.E.Handling.gives g.E.Handling.ticks g.E.Handling.arrives in
    let acting = g.E.Handling.acting in
    let law = c.are_in_order.ensures in (
      (λ state stood.
          let begun = c.in-Ok-begin.ensures.begun state stood in (
            only_begun begun.0 begun.1 begun.2,
            g.E.Handling.ticks (moment_of begun.6.0),
            reading_so w acting law state _ _ c.args.self.now.left c.in-Ok-begin.began (only_begun begun.0 begun.1 begun.2) c.new-script.result _ (g.E.Handling.ticks (moment_of begun.6.0)) c.in-Ok-begin.began c.args.self.now.left c.new-script.ensures
                (begins_so w acting law state _ _ c.args.self.now.left c.in-Ok-begin.began (g.E.Handling.stands c.begin.new.exchange) begun.0 begun.1 begun.2 (took_none _) begun.5 begun.4 begun.3 (added_none _) begun.6),
            begun.6.6,
          )),
      c.in-Ok-begin.ensures.timely,
      search rules,
      refl,
      c.in-Ok-begin.ensures.write,
      c.in-Ok-begin.ensures.link,
      c.in-Ok-begin.ensures.clock,
      refl,
      omega (arith, c.in-Ok-begin.ensures.count),
    )

pub returns-in-Err-next-clause-ran : goal.returns-in-Err-next-clause-ran
returns-in-Err-next-clause-ran g c = λ state stood.
    let w = weaves_of g.E.Line.ScriptLine.spelled g.E.Line.ScriptLine.followed g.E.Handling.waits g.E.Handling.gives g.E.Handling.ticks g.E.Handling.arrives in
    let acting = g.E.Handling.acting in
    let law = c.are_in_order.ensures in
    let s = c.in-Err-next.status in
    let so_far = c.lines.invariant.0 state stood in
    let got = c.in-Err-next.ensures.next in
    (passed w acting law state _ _ _ _ so_far.0 c.lines.script so_far.1 _ _ so_far.2 _ got.0 got.1, at_error w acting law state _ _ _ _ so_far.0 c.lines.script so_far.1 _ _ so_far.2 (g.S.Source.left c.next.new.source) got.0 got.1 s c.next.new.self got.3 got.2)

pub returns-in-Ok-None-clause-ran : goal.returns-in-Ok-None-clause-ran
returns-in-Ok-None-clause-ran g c = λ state stood.
    let w = weaves_of g.E.Line.ScriptLine.spelled g.E.Line.ScriptLine.followed g.E.Handling.waits g.E.Handling.gives g.E.Handling.ticks g.E.Handling.arrives in
    let acting = g.E.Handling.acting in
    let law = c.are_in_order.ensures in
    let so_far = c.lines.invariant.0 state stood in
    let got = c.in-Ok-None.ensures.next in
    let ended : (c.lines.script.waits ++ got.0 ≡ []) × (AtEnd (g.S.Source.left c.next.new.source) ⊎ (2 ^ 30 < c.lines.script.offset)) =
    subst (λ f. IsNextBy w.spelled w.followed (Ok f) c.lines.script c.next.new.self got.0 (g.S.Source.left c.next.new.source)) c.in-Ok-None.field-0-is got.2 in
    (passed w acting law state _ _ _ _ so_far.0 c.lines.script so_far.1 _ _ so_far.2 _ got.0 got.1, at_end w acting law state _ _ _ _ so_far.0 c.lines.script so_far.1 _ _ so_far.2 (g.S.Source.left c.next.new.source) got.0 got.1 c.next.new.self.budget got.3 ended.0 ended.1)

pub returns-in-Err-say-clause-ran : goal.returns-in-Err-say-clause-ran
returns-in-Err-say-clause-ran g c = λ state stood.
    let w = weaves_of g.E.Line.ScriptLine.spelled g.E.Line.ScriptLine.followed g.E.Handling.waits g.E.Handling.gives g.E.Handling.ticks g.E.Handling.arrives in
    let acting = g.E.Handling.acting in
    let law = c.are_in_order.ensures in
    let s = c.in-Err-say.status in
    let so_far = c.lines.invariant.0 state stood in
    let got = c.in-Ok-Some.ensures.next in
    let is : IsReadBy w.spelled w.followed c.in-Ok-Some.line c.lines.script c.next.new.self got.0 =
    subst (λ f. IsNextBy w.spelled w.followed (Ok f) c.lines.script c.next.new.self got.0 (g.S.Source.left c.next.new.source)) c.in-Ok-Some.field-0-is got.2 in
    let said = c.in-Err-say.ensures.said (acting.after state so_far.1) so_far.3 in (
      with_line w acting law state _ _ _ _ so_far.0 c.lines.script so_far.1 _ _ so_far.2 (g.S.Source.left c.next.new.source) got.0 got.1 c.in-Ok-Some.line c.next.new.self got.3 is said.0 said.1 said.2 said.3,
      ended_in w acting law state _ _ _ _ so_far.0 c.lines.script so_far.1 _ _ so_far.2 (g.S.Source.left c.next.new.source) got.0 got.1 c.in-Ok-Some.line c.next.new.self got.3 is said.0 said.1 said.2 said.3
          s _ refl said.7 said.5 said.4 said.6
          (cut w acting law state _ _ _ _ so_far.0 c.lines.script so_far.1 _ _ so_far.2 (g.S.Source.left c.next.new.source) got.0 got.1 c.in-Ok-Some.line c.next.new.self got.3 is said.0 said.1 said.2 said.3
          (List ℕ) s c.say.new.self.top c.say.new.self.left (g.E.Handling.stands c.say.new.self.exchange) c.in-Err-say.ensures.only said.8)
          said.9,
    )

pub lines-smaller : goal.lines-smaller
lines-smaller g c =
    let got = c.in-Ok-Some.ensures.next in
    let is : IsReadBy g.E.Line.ScriptLine.spelled g.E.Line.ScriptLine.followed c.in-Ok-Some.line c.lines.script c.next.new.self got.0 =
    subst (λ f. IsNextBy g.E.Line.ScriptLine.spelled g.E.Line.ScriptLine.followed (Ok f) c.lines.script c.next.new.self got.0 (g.S.Source.left c.next.new.source)) c.in-Ok-Some.field-0-is got.2 in
    omega (arith, is.offset, whole_some is.line is.whole, is.within)

pub lines-preserved : goal.lines-preserved
lines-preserved g c =
    let w = weaves_of g.E.Line.ScriptLine.spelled g.E.Line.ScriptLine.followed g.E.Handling.waits g.E.Handling.gives g.E.Handling.ticks g.E.Handling.arrives in
    let acting = g.E.Handling.acting in
    let law = c.are_in_order.ensures in
    let got = c.in-Ok-Some.ensures.next in
    let is : IsReadBy w.spelled w.followed c.in-Ok-Some.line c.lines.script c.next.new.self got.0 =
    subst (λ f. IsNextBy w.spelled w.followed (Ok f) c.lines.script c.next.new.self got.0 (g.S.Source.left c.next.new.source)) c.in-Ok-Some.field-0-is got.2 in (
      (λ state stood.
          let so_far = c.lines.invariant.0 state stood in
          let said = c.in-Ok-say.ensures.said (acting.after state so_far.1) so_far.3 in (
            behind w acting law state _ _ _ _ so_far.0 c.lines.script so_far.1 _ _ so_far.2 (g.S.Source.left c.next.new.source) got.0 got.1 c.in-Ok-Some.line c.next.new.self got.3 is said.0 said.1 said.2 said.3,
            so_far.1 ++ said.8.0,
            began_so w acting law state _ _ _ _ _ _ _ _ _ _ c.in-Ok-say.ensures.began
                (after w acting law state _ _ _ _ so_far.0 c.lines.script so_far.1 _ _ so_far.2 (g.S.Source.left c.next.new.source) got.0 got.1 c.in-Ok-Some.line c.next.new.self got.3 is said.0 said.1 said.2 said.3
                c.in-Ok-say.pad
                (record { left = g.S.Source.left c.next.new.source; written = g.K.Sink.written c.say.new.sink; calls = g.L.Link.told c.say.new.link; readings = g.C.Clock.given c.say.new.clock; draws = g.N.Noise.given c.say.new.noise })
                c.say.new.self.top c.say.new.self.left (g.E.Handling.stands c.say.new.self.exchange) refl said.7 said.5 said.4 said.6 said.8 said.9),
            subst (g.E.Handling.stands c.say.new.self.exchange) (sym (law.after state so_far.1 said.8.0)) said.8.4,
          )),
      subst (λ (began : ℕ). began ≤ last_moment) (sym c.in-Ok-say.ensures.began) c.lines.invariant.1,
      omega (arith, c.next.ensures.given, c.lines.invariant.2),
      c.in-Ok-Some.ensures.cause.quiet (λ is. cc) ∙ c.lines.invariant.3,
      c.in-Ok-say.ensures.write ∙ c.lines.invariant.4,
      c.in-Ok-say.ensures.link ∙ c.lines.invariant.5,
      c.in-Ok-say.ensures.clock ∙ c.lines.invariant.6,
      c.in-Ok-say.ensures.noise ∙ c.lines.invariant.7,
      omega (arith, c.lines.invariant.8, c.in-Ok-say.ensures.count),
    )

-- ---- what failed

pub returns-in-Err-next-clause-read : goal.returns-in-Err-next-clause-read
returns-in-Err-next-clause-read g c = failed_now _ _ _ _ _ c.lines.invariant.3 (due_so Read (Err c.in-Err-next.status) _ _ _ c.in-Err-next.ensures.cause)

pub returns-in-Ok-None-clause-read : goal.returns-in-Ok-None-clause-read
returns-in-Ok-None-clause-read g c = not_failed _ _ _ _ (c.in-Ok-None.ensures.cause.quiet (λ is. ok_not _ _ is) ∙ c.lines.invariant.3) (λ is. (let end : Done ≡ Read = is in cc))

pub returns-in-Err-say-clause-read : goal.returns-in-Err-say-clause-read
returns-in-Err-say-clause-read g c = not_failed _ _ _ _ (c.in-Ok-Some.ensures.cause.quiet (λ is. ok_not _ _ is) ∙ c.lines.invariant.3) (lines_not_read c.in-Err-say.status c.in-Err-say.ensures.only)

pub returns-in-Err-say-clause-write : goal.returns-in-Err-say-clause-write
returns-in-Err-say-clause-write g c = failed_now _ _ _ _ _ c.lines.invariant.4 c.in-Err-say.ensures.write

pub returns-in-Err-say-clause-link : goal.returns-in-Err-say-clause-link
returns-in-Err-say-clause-link g c = failed_now _ _ _ _ _ c.lines.invariant.5 c.in-Err-say.ensures.link

pub returns-in-Err-say-clause-clock : goal.returns-in-Err-say-clause-clock
returns-in-Err-say-clause-clock g c = failed_now _ _ _ _ _ c.lines.invariant.6 c.in-Err-say.ensures.clock

pub returns-in-Err-say-clause-noise : goal.returns-in-Err-say-clause-noise
returns-in-Err-say-clause-noise g c = failed_now _ _ _ _ _ c.lines.invariant.7 c.in-Err-say.ensures.noise
