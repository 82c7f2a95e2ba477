use Rattle.std.proofs.Common.{◌≡◌, ◌≤◌, ◌∙◌, false, true, length, ltb, Err, sym, ap, subst}
use Rattle.std.proofs.lemmas.Bool.{le-ltb}
use Rattle.sg_gateway.specs.Datagrams.{same_ip}
use Rattle.sg_media.specs.Sides.{StandsFor}
use Rattle.sg_session.specs.OneSession.{after}
use Rattle.sg_session.specs.Opening.{opens}
use Rattle.sg_session.specs.Sealing.{seals}
use Rattle.sg_call.proofs.OneRoute.{opening_answer, opening_after, sealing_answer, sealing_after, refused_so, seal_refused, not_too_long, from_there, opening_stays, sealing_stays}
use Rattle.sg_call.specs.Handling.{handled_by}
use Rattle.sg_call.proofs.route.Route.pass.Goals as goal

pub returns-in-Ok-clause-after : goal.returns-in-Ok-clause-after
returns-in-Ok-clause-after c slot s h =
    let fits : ltb 4238 (length c.args.pad) ≡ false = sym c.if-is_too_long.ensures in
    opening_after slot c.args.self.now c.args.from c.args.pad s h c.in-Opens.side c.in-Opens.is c.receive.new.self
    (λ st. not_too_long (λ r. StandsFor c.receive.new.self (after s r)) _ (opens s c.args.pad) fits (c.receive.ensures.after s st))

pub returns-in-Err-clause-answer : goal.returns-in-Err-clause-answer
returns-in-Err-clause-answer c slot s h =
    let fits : ltb 4238 (length c.args.pad) ≡ false = sym c.if-is_too_long.ensures in
    ap (handled_by c.args.self.now.out c.args.self.now.to)
    (opening_answer slot c.args.self.now c.args.from c.args.pad s h c.in-Opens.side c.in-Opens.is (Err (c.in-Err.pad, c.in-Err.cause))
    (λ st. refused_so s.name.kind c.args.pad (c.in-Err.pad, c.in-Err.cause) _ _ fits (c.in-Err.ensures.answer s st)))

pub returns-in-Err-clause-after : goal.returns-in-Err-clause-after
returns-in-Err-clause-after c slot s h =
    let fits : ltb 4238 (length c.args.pad) ≡ false = sym c.if-is_too_long.ensures in
    opening_after slot c.args.self.now c.args.from c.args.pad s h c.in-Opens.side c.in-Opens.is c.receive.new.self
    (λ st. not_too_long (λ r. StandsFor c.receive.new.self (after s r)) _ (opens s c.args.pad) fits (c.receive.ensures.after s st))

pub returns-in-Ok-send-clause-after : goal.returns-in-Ok-send-clause-after
returns-in-Ok-send-clause-after c slot s h =
    let fits : ltb 4096 (length c.args.pad) ≡ false = le-ltb 4096 (length c.args.pad) (subst (λ d. length d ≤ 4096) c.octets.ensures.same c.if-octets-gt-PLAIN_MOST.false) in
    let there : same_ip c.args.from s.plain ≡ true = ap (same_ip c.args.from) (sym h.plain) ∙ sym c.if-not-is_same_ip.ensures in
    sealing_after slot c.args.self.now c.args.from c.args.pad s h c.in-Seals.side c.in-Seals.is c.send.new.self
    (λ plain st. from_there (λ r. StandsFor c.send.new.self (after s r)) _ _ (seals s c.args.pad) fits there (c.send.ensures.after s st))

pub returns-in-Err-send-clause-answer : goal.returns-in-Err-send-clause-answer
returns-in-Err-send-clause-answer c slot s h =
    let fits : ltb 4096 (length c.args.pad) ≡ false = le-ltb 4096 (length c.args.pad) (subst (λ d. length d ≤ 4096) c.octets.ensures.same c.if-octets-gt-PLAIN_MOST.false) in
    let there : same_ip c.args.from s.plain ≡ true = ap (same_ip c.args.from) (sym h.plain) ∙ sym c.if-not-is_same_ip.ensures in
    ap (handled_by c.args.self.now.out c.args.self.now.to)
    (sealing_answer slot c.args.self.now c.args.from c.args.pad s h c.in-Seals.side c.in-Seals.is (Err (c.in-Err-send.pad, c.in-Err-send.cause))
    (λ plain st. seal_refused s c.args.pad (c.in-Err-send.pad, c.in-Err-send.cause) _ _ (seals s c.args.pad) fits there (c.in-Err-send.ensures.answer s st)))

pub returns-in-Err-send-clause-after : goal.returns-in-Err-send-clause-after
returns-in-Err-send-clause-after c slot s h =
    let fits : ltb 4096 (length c.args.pad) ≡ false = le-ltb 4096 (length c.args.pad) (subst (λ d. length d ≤ 4096) c.octets.ensures.same c.if-octets-gt-PLAIN_MOST.false) in
    let there : same_ip c.args.from s.plain ≡ true = ap (same_ip c.args.from) (sym h.plain) ∙ sym c.if-not-is_same_ip.ensures in
    sealing_after slot c.args.self.now c.args.from c.args.pad s h c.in-Seals.side c.in-Seals.is c.send.new.self
    (λ plain st. from_there (λ r. StandsFor c.send.new.self (after s r)) _ _ (seals s c.args.pad) fits there (c.send.ensures.after s st))

pub returns-in-Err-clause-refused : goal.returns-in-Err-clause-refused
returns-in-Err-clause-refused c = (c.in-Err.ensures.refused.0, opening_stays c.args.self.now c.in-Opens.side c.receive.new.self c.in-Opens.is c.in-Err.ensures.refused.1)

pub returns-in-Err-send-clause-refused : goal.returns-in-Err-send-clause-refused
returns-in-Err-send-clause-refused c = (c.in-Err-send.ensures.refused.0, sealing_stays c.args.self.now c.in-Seals.side c.send.new.self c.in-Seals.is c.in-Err-send.ensures.refused.1)
