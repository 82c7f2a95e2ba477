use Rattle.std.proofs.Common.{rules, ◌-◌, [], ◌++◌, refl, sym, ◌∙◌, subst, arith}
use Rattle.sg_relay.proofs.Common.{added_more, added_none, called_more, called_none, receipts_in, weaves_of, wrote_more, wrote_none}
use Rattle.sg_relay.proofs.Deeds.{done_none}
use Rattle.sg_relay.proofs.Waits.{cut_wait, done_nothing, goes_none, over_wait, reading_next, wait_more, wait_order, wait_order_none}
use Rattle.sg_relay.proofs.turns.Relaying.wait.Goals as goal

pub turns-init : goal.turns-init
turns-init g c = (
  (λ state stands.
      let w = weaves_of g.E.Line.ScriptLine.spelled g.E.Line.ScriptLine.followed g.E.Handling.waits g.E.Handling.gives g.E.Handling.ticks g.E.Handling.arrives in
      let acting = g.E.Handling.acting in
      let law = c.are_in_order.ensures in (
        [],
        [],
        [],
        [],
        added_none _,
        called_none _,
        wrote_none _,
        goes_none w c.args.until c.args.self.now.top,
        done_nothing acting law state [] [] done_none,
        tt,
        subst (g.E.Handling.stands c.args.self.now.exchange) (sym (law.none_after state)) stands,
        refl,
        omega arith,
        wait_order_none w acting c.args.until state c.args.self.now.top,
      )),
  search rules,
  search rules,
  search rules,
  refl,
  omega arith,
)

pub returns-in-Err-clause-waited : goal.returns-in-Err-clause-waited
returns-in-Err-clause-waited g c = λ state stands.
    let w = weaves_of g.E.Line.ScriptLine.spelled g.E.Line.ScriptLine.followed g.E.Handling.waits g.E.Handling.gives g.E.Handling.ticks g.E.Handling.arrives in
    let acting = g.E.Handling.acting in
    let law = c.are_in_order.ensures in
    let so_far = c.turns.invariant.0 state stands in
    let turned = c.in-Err.ensures.turned (acting.after state so_far.3) so_far.10 in (
      so_far.0 ++ turned.0,
      so_far.1 ++ turned.1,
      so_far.2 ++ turned.2,
      added_more _ _ _ so_far.0 turned.0 so_far.4 turned.3,
      called_more _ _ _ so_far.1 turned.1 so_far.5 turned.4,
      wrote_more _ _ _ so_far.2 turned.2 so_far.6 turned.5,
      cut_wait w acting law c.args.until c.args.self.now.top so_far.0 (receipts_in so_far.1) so_far.3 c.turns.self.top so_far.7 state so_far.1 so_far.2 refl so_far.8 so_far.9 so_far.11 c.args.self.now.left c.turns.self.left so_far.12
          turned.0 turned.1 turned.2 c.in-Err.status (g.E.Handling.stands c.turn.new.exchange) (g.E.Handling.stands c.turn.new.exchange) c.turn.new.top _ c.in-Err.ensures.only c.turns-test.true turned.6,
      wait_order w acting law c.args.until c.args.self.now.top so_far.0 (receipts_in so_far.1) so_far.3 c.turns.self.top so_far.7 state so_far.1 so_far.2 refl so_far.8 so_far.9 so_far.11 c.args.self.now.left c.turns.self.left so_far.12
          turned.0 turned.1 turned.2 so_far.13 turned.7,
    )

pub returns-then-until-moment-clause-waited : goal.returns-then-until-moment-clause-waited
returns-then-until-moment-clause-waited g c = λ state stands.
    let w = weaves_of g.E.Line.ScriptLine.spelled g.E.Line.ScriptLine.followed g.E.Handling.waits g.E.Handling.gives g.E.Handling.ticks g.E.Handling.arrives in
    let acting = g.E.Handling.acting in
    let law = c.are_in_order.ensures in
    let so_far = c.turns.invariant.0 state stands in
    let turned = c.in-Ok.ensures.turned (acting.after state so_far.3) so_far.10 in (
      so_far.0 ++ turned.0,
      so_far.1 ++ turned.1,
      so_far.2 ++ turned.2,
      added_more _ _ _ so_far.0 turned.0 so_far.4 turned.3,
      called_more _ _ _ so_far.1 turned.1 so_far.5 turned.4,
      wrote_more _ _ _ so_far.2 turned.2 so_far.6 turned.5,
      over_wait w acting law c.args.until c.args.self.now.top so_far.0 (receipts_in so_far.1) so_far.3 c.turns.self.top so_far.7 state so_far.1 so_far.2 refl so_far.8 so_far.9 so_far.11 c.args.self.now.left c.turns.self.left so_far.12
          turned.0 turned.1 turned.2 c.in-Ok.moment c.in-Ok.back c.turn.new.top (c.turns.self.left - 1) (g.E.Handling.stands c.turn.new.exchange) c.if-until-moment.true (omega (arith, c.turns-test.true)) turned.6,
      wait_order w acting law c.args.until c.args.self.now.top so_far.0 (receipts_in so_far.1) so_far.3 c.turns.self.top so_far.7 state so_far.1 so_far.2 refl so_far.8 so_far.9 so_far.11 c.args.self.now.left c.turns.self.left so_far.12
          turned.0 turned.1 turned.2 so_far.13 turned.7,
    )

pub turns-preserved : goal.turns-preserved
turns-preserved g c = (
  (λ state stands.
      let w = weaves_of g.E.Line.ScriptLine.spelled g.E.Line.ScriptLine.followed g.E.Handling.waits g.E.Handling.gives g.E.Handling.ticks g.E.Handling.arrives in
      let acting = g.E.Handling.acting in
      let law = c.are_in_order.ensures in
      let so_far = c.turns.invariant.0 state stands in
      let turned = c.in-Ok.ensures.turned (acting.after state so_far.3) so_far.10 in
      let more = wait_more w acting law c.args.until c.args.self.now.top so_far.0 (receipts_in so_far.1) so_far.3 c.turns.self.top so_far.7 state so_far.1 so_far.2 refl so_far.8 so_far.9 so_far.11 c.args.self.now.left c.turns.self.left so_far.12
      turned.0 turned.1 turned.2 c.in-Ok.moment c.in-Ok.back c.turn.new.top (c.turns.self.left - 1) (g.E.Handling.stands c.turn.new.exchange) c.if-until-moment.false (omega (arith, c.turns-test.true)) turned.6 in (
        so_far.0 ++ turned.0,
        so_far.1 ++ turned.1,
        so_far.2 ++ turned.2,
        more.0,
        added_more _ _ _ so_far.0 turned.0 so_far.4 turned.3,
        called_more _ _ _ so_far.1 turned.1 so_far.5 turned.4,
        wrote_more _ _ _ so_far.2 turned.2 so_far.6 turned.5,
        more.1,
        more.2,
        more.3,
        more.4,
        more.5,
        more.6,
        wait_order w acting law c.args.until c.args.self.now.top so_far.0 (receipts_in so_far.1) so_far.3 c.turns.self.top so_far.7 state so_far.1 so_far.2 refl so_far.8 so_far.9 so_far.11 c.args.self.now.left c.turns.self.left so_far.12
            turned.0 turned.1 turned.2 so_far.13 turned.7,
      )),
  c.in-Ok.ensures.write ∙ c.turns.invariant.1,
  c.in-Ok.ensures.link ∙ c.turns.invariant.2,
  c.in-Ok.ensures.clock ∙ c.turns.invariant.3,
  c.turns.invariant.4,
  omega (arith, c.turns.invariant.5, c.in-Ok.ensures.count, c.turns-test.true),
)

pub returns-clause-waited : goal.returns-clause-waited
returns-clause-waited g c = λ state stands.
    let w = weaves_of g.E.Line.ScriptLine.spelled g.E.Line.ScriptLine.followed g.E.Handling.waits g.E.Handling.gives g.E.Handling.ticks g.E.Handling.arrives in
    let acting = g.E.Handling.acting in
    let law = c.are_in_order.ensures in
    let so_far = c.turns.invariant.0 state stands in
    let next = reading_next w acting law c.args.until c.args.self.now.top so_far.0 (receipts_in so_far.1) so_far.3 c.turns.self.top so_far.7 state so_far.1 so_far.2 refl so_far.8 so_far.9 so_far.11 c.args.self.now.left c.turns.self.left so_far.12 in (
      so_far.0,
      so_far.1,
      so_far.2,
      so_far.4,
      so_far.5,
      so_far.6,
      (next.0, next.1, omega (arith, so_far.12, c.turns-test.false)),
      so_far.13,
    )
