use Rattle.std.proofs.Common.{◌++◌, Ok, ap, subst, ◌∙◌}
use Rattle.sg_edge.specs.declared.link.Receipt.{Receipt}
use Rattle.sg_edge.specs.declared.ports.Ports.{Ports}
use Rattle.sg_edge.specs.Ports.{AreAsked}
use Rattle.sg_edge.proofs.Waiting.{taken_later, taken_of}
use Rattle.sg_edge.proofs.udp.UdpLinkLink.receive.Goals as goal

pub returns-in-Ok-clause-taken : goal.returns-in-Ok-clause-taken
returns-in-Ok-clause-taken g c = taken_of (Ok c.in-Ok.got) _ _ _ _ _ _ _ c.args.self.now.ports.short c.look_between.ensures.behind.1 c.look_between.ensures.row c.in-Ok.ensures.asked

pub returns-clause-taken : goal.returns-clause-taken
returns-clause-taken g c =
    let first = c.look_between.new.self.ports in
    let empty = c.ask_all.new.self.ports in
    let none = subst (λ (r : Receipt). AreAsked (Ok r) first.row first.waiting.items empty.row empty.waiting.items) c.in-Ok-Nothing.field-0-is c.in-Ok-Nothing.ensures.asked in
    let later = c.look.ensures.behind.0 in
    taken_later c.ask_all-2.result _ _ _ _ _ _ _ _ _ _ _ later c.args.self.now.ports.short c.look_between.ensures.behind.1 c.look_between.ensures.row none
    (c.look.ensures.behind.1 ∙ ap (λ (p : Ports). p.waiting.items ++ later) c.rest.ensures.ports)
    (c.look.ensures.row ∙ ap (λ (p : Ports). p.row) c.rest.ensures.ports)
    c.ask_all-2.ensures.asked
