use Rattle.std.proofs.Common.{arith, rules, Some}
use Rattle.std.proofs.lemmas.Fn.{filter_same}
use Rattle.sg_edge.proofs.Waiting.{marked_without, unmarked_stays}
use Rattle.sg_edge.proofs.ports.Ports.remove.Goals as goal

pub invariant_of-self : goal.invariant_of-self
invariant_of-self c = record {
  short = c.args.self.now.short;
  room = omega (arith, c.remove.ensures.len, c.retain.ensures.capacity, c.args.self.now.room);
  marked = marked_without c.args.self.now.bound c.remove.new.self c.args.self.now.waiting.items _ c.args.port c.args.self.now.marked c.remove.ensures.updates.1 c.remove.ensures.updates.2
      (filter_same _ _ _ (λ x b f' k. search rules) _ _ c.retain.ensures.filtered);
}

pub returns-then-bound-clause-waiting : goal.returns-then-bound-clause-waiting
returns-then-bound-clause-waiting c = filter_same _ _ _ (λ x b f' k. search rules) _ _ c.retain.ensures.filtered

pub returns-in-Some-clause-waiting : goal.returns-in-Some-clause-waiting
returns-in-Some-clause-waiting c =
    unmarked_stays c.args.self.now.bound c.args.self.now.waiting.items c.args.port (c.args.self.now.marked c.args.port) (Some c.in-Some.bound) c.in-Some.ensures.value c.if-bound.false

pub returns-clause-waiting : goal.returns-clause-waiting
returns-clause-waiting c =
    unmarked_stays c.args.self.now.bound c.args.self.now.waiting.items c.args.port (c.args.self.now.marked c.args.port) _ c.remove.ensures.value (search rules)
