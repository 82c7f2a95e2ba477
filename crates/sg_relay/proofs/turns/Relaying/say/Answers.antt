use Rattle.std.proofs.Common.{sym, []}
use Rattle.sg_relay.proofs.Common.{added_none, weaves_of}
use Rattle.sg_relay.proofs.Says.{given_order, given_said, wait_line_order, wait_said}
use Rattle.sg_relay.proofs.turns.Relaying.say.Goals as goal

pub returns-in-Some-clause-said : goal.returns-in-Some-clause-said
returns-in-Some-clause-said g c = λ state stands.
    let w = weaves_of g.E.Line.ScriptLine.spelled g.E.Line.ScriptLine.followed g.E.Handling.waits g.E.Handling.gives g.E.Handling.ticks g.E.Handling.arrives in
    let acting = g.E.Handling.acting in
    let waited = c.wait.ensures.waited state stands in
    let moment = c.in-Some.moment in
    let is = sym c.in-Some.ensures.is in (
      waited.0,
      waited.1,
      [],
      waited.2,
      waited.3,
      waited.4,
      added_none _,
      waited.5,
      wait_said w acting c.args.self.now.began c.args.line moment is state c.args.self.now.top c.wait.new.self.top c.args.self.now.left c.wait.new.self.left (g.E.Handling.stands c.wait.new.self.exchange) waited.0 waited.1 waited.2
          c.wait.result c.wait.ensures.only waited.6,
      wait_line_order w acting c.args.self.now.began c.args.line moment is state c.args.self.now.top c.wait.new.self.top c.args.self.now.left c.wait.new.self.left (g.E.Handling.stands c.wait.new.self.exchange) waited.0 waited.1 waited.2 waited.7,
    )

pub returns-in-None-clause-said : goal.returns-in-None-clause-said
returns-in-None-clause-said g c = λ state stands.
    let w = weaves_of g.E.Line.ScriptLine.spelled g.E.Line.ScriptLine.followed g.E.Handling.waits g.E.Handling.gives g.E.Handling.ticks g.E.Handling.arrives in
    let acting = g.E.Handling.acting in
    let law = c.are_in_order.ensures in
    let handled = c.handle.ensures.handled state stands in
    let is = sym c.in-None.ensures.is in (
      [],
      handled.0,
      handled.1,
      handled.2,
      added_none _,
      handled.3,
      handled.4,
      handled.5,
      given_said w acting law c.args.self.now.began c.args.line is state c.args.self.now.top c.args.self.now.left (g.E.Handling.stands c.handle.new.self) handled.0 handled.1 handled.2 c.handle.result c.handle.ensures.only handled.6,
      given_order w acting law c.args.self.now.began c.args.line is state c.args.self.now.top c.args.self.now.left (g.E.Handling.stands c.handle.new.self) handled.0 handled.1 handled.2 c.handle.result c.handle.ensures.only handled.6,
    )
