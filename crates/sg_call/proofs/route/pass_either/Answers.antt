use Rattle.std.proofs.Common.{◌≡◌, ◌∙◌, false, length, ltb, Ok, Err, sym, refl, subst}
use Rattle.sg_media.specs.Sides.{StandsFor}
use Rattle.sg_media.specs.declared.either.Which.TheVariants.{Current, Earlier}
use Rattle.sg_session.specs.OneSession.{after}
use Rattle.sg_session.specs.Opening.{opens}
use Rattle.sg_call.proofs.Passing.{on_drop}
use Rattle.sg_call.proofs.OneRoute.{not_too_long, opening_after}
use Rattle.sg_call.proofs.Taking.{either_answers, no_seal, opening_side, second_takes, told_as}
use Rattle.sg_call.specs.Standing.{RouteStandsFor}
use Rattle.sg_call.specs.declared.route.MediaSide.{MediaSide}
use Rattle.sg_call.proofs.route.pass_either.Goals as goal

-- no session that opens has a route that seals
pub returns-in-Seals-clause-answer : goal.returns-in-Seals-clause-answer
returns-in-Seals-clause-answer c = λ slot s e current earlier. absurd (no_seal slot c.args.current.now s c.in-Seals.field-0 current c.in-Seals.is)

pub returns-in-Seals-clause-refused : goal.returns-in-Seals-clause-refused
returns-in-Seals-clause-refused c = on_drop c.pass.result.end (λ p. (p.0, p.1, refl)) c.pass.ensures.refused

pub returns-in-Seals-clause-current : goal.returns-in-Seals-clause-current
returns-in-Seals-clause-current c = λ slot s current. c.pass.ensures.after slot s current.0

pub returns-in-Seals-clause-earlier : goal.returns-in-Seals-clause-earlier
returns-in-Seals-clause-earlier c = λ slot s e current earlier. absurd (no_seal slot c.args.current.now s c.in-Seals.field-0 current c.in-Seals.is)

pub returns-in-Seals-side-clause-current : goal.returns-in-Seals-side-clause-current
returns-in-Seals-side-clause-current c = λ slot s current.
    c.pass-in-Seals-side.ensures.after slot s (subst (λ (m : MediaSide). RouteStandsFor slot (record c.args.current.now { side = m }) s) c.in-Opens.is current.0)

-- both open
pub returns-in-Ok-Current-default-clause-answer : goal.returns-in-Ok-Current-default-clause-answer
returns-in-Ok-Current-default-clause-answer c = λ slot s e current earlier.
    let fits : ltb 4238 (length c.args.pad) ≡ false = sym c.if-is_too_long.ensures in
    let given = c.receive_either.ensures.answer s e (opening_side slot c.args.current.now s c.in-Opens.side current c.in-Opens.is) (opening_side slot c.args.earlier.now e c.in-Opens-side.other earlier c.in-Opens-side.is) in
    either_answers c.args.from c.args.pad s e current.1 earlier.1 c.args.current.now.out c.args.current.now.to c.args.earlier.now.out c.args.earlier.now.to fits (Ok (Current, c.in-Ok-Current-default.opened))
    (told_as Current c.in-Ok-Current-default.field-0-0 c.in-Ok-Current-default.opened c.receive_either.result _ c.in-Ok-Current-default.is c.in-Ok-Current-default.field-0-0-is given)

pub returns-in-Ok-Current-default-clause-current : goal.returns-in-Ok-Current-default-clause-current
returns-in-Ok-Current-default-clause-current c = λ slot s current.
    let fits : ltb 4238 (length c.args.pad) ≡ false = sym c.if-is_too_long.ensures in
    opening_after slot c.args.current.now c.args.from c.args.pad s current.0 c.in-Opens.side c.in-Opens.is c.receive_either.new.current
    (λ st. not_too_long (λ r. StandsFor c.receive_either.new.current (after s r)) _ (opens s c.args.pad) fits (c.receive_either.ensures.current s st))

pub returns-in-Ok-Current-default-clause-earlier : goal.returns-in-Ok-Current-default-clause-earlier
returns-in-Ok-Current-default-clause-earlier c = λ slot s e current earlier.
    let fits : ltb 4238 (length c.args.pad) ≡ false = sym c.if-is_too_long.ensures in
    second_takes c.args.from c.args.pad s e current.1 earlier.1 slot c.args.earlier.now earlier.0 fits c.in-Opens-side.other c.receive_either.new.earlier c.in-Opens-side.is
    (λ st. c.receive_either.ensures.earlier s e (opening_side slot c.args.current.now s c.in-Opens.side current c.in-Opens.is) st)

pub returns-in-Ok-Earlier-default-clause-answer : goal.returns-in-Ok-Earlier-default-clause-answer
returns-in-Ok-Earlier-default-clause-answer c = λ slot s e current earlier.
    let fits : ltb 4238 (length c.args.pad) ≡ false = sym c.if-is_too_long.ensures in
    let given = c.receive_either.ensures.answer s e (opening_side slot c.args.current.now s c.in-Opens.side current c.in-Opens.is) (opening_side slot c.args.earlier.now e c.in-Opens-side.other earlier c.in-Opens-side.is) in
    either_answers c.args.from c.args.pad s e current.1 earlier.1 c.args.current.now.out c.args.current.now.to c.args.earlier.now.out c.args.earlier.now.to fits (Ok (Earlier, c.in-Ok-Earlier-default.opened))
    (told_as Earlier c.in-Ok-Earlier-default.field-0-0 c.in-Ok-Earlier-default.opened c.receive_either.result _ c.in-Ok-Earlier-default.is c.in-Ok-Earlier-default.field-0-0-is given)

pub returns-in-Ok-Earlier-default-clause-current : goal.returns-in-Ok-Earlier-default-clause-current
returns-in-Ok-Earlier-default-clause-current c = λ slot s current.
    let fits : ltb 4238 (length c.args.pad) ≡ false = sym c.if-is_too_long.ensures in
    opening_after slot c.args.current.now c.args.from c.args.pad s current.0 c.in-Opens.side c.in-Opens.is c.receive_either.new.current
    (λ st. not_too_long (λ r. StandsFor c.receive_either.new.current (after s r)) _ (opens s c.args.pad) fits (c.receive_either.ensures.current s st))

pub returns-in-Ok-Earlier-default-clause-earlier : goal.returns-in-Ok-Earlier-default-clause-earlier
returns-in-Ok-Earlier-default-clause-earlier c = λ slot s e current earlier.
    let fits : ltb 4238 (length c.args.pad) ≡ false = sym c.if-is_too_long.ensures in
    second_takes c.args.from c.args.pad s e current.1 earlier.1 slot c.args.earlier.now earlier.0 fits c.in-Opens-side.other c.receive_either.new.earlier c.in-Opens-side.is
    (λ st. c.receive_either.ensures.earlier s e (opening_side slot c.args.current.now s c.in-Opens.side current c.in-Opens.is) st)

pub returns-in-Err-clause-answer : goal.returns-in-Err-clause-answer
returns-in-Err-clause-answer c = λ slot s e current earlier.
    let fits : ltb 4238 (length c.args.pad) ≡ false = sym c.if-is_too_long.ensures in
    let given = c.receive_either.ensures.answer s e (opening_side slot c.args.current.now s c.in-Opens.side current c.in-Opens.is) (opening_side slot c.args.earlier.now e c.in-Opens-side.other earlier c.in-Opens-side.is) in
    either_answers c.args.from c.args.pad s e current.1 earlier.1 c.args.current.now.out c.args.current.now.to c.args.earlier.now.out c.args.earlier.now.to fits (Err (c.in-Err.pad, c.in-Err.cause))
    (sym c.in-Err.is ∙ given)

pub returns-in-Err-clause-current : goal.returns-in-Err-clause-current
returns-in-Err-clause-current c = λ slot s current.
    let fits : ltb 4238 (length c.args.pad) ≡ false = sym c.if-is_too_long.ensures in
    opening_after slot c.args.current.now c.args.from c.args.pad s current.0 c.in-Opens.side c.in-Opens.is c.receive_either.new.current
    (λ st. not_too_long (λ r. StandsFor c.receive_either.new.current (after s r)) _ (opens s c.args.pad) fits (c.receive_either.ensures.current s st))

pub returns-in-Err-clause-earlier : goal.returns-in-Err-clause-earlier
returns-in-Err-clause-earlier c = λ slot s e current earlier.
    let fits : ltb 4238 (length c.args.pad) ≡ false = sym c.if-is_too_long.ensures in
    second_takes c.args.from c.args.pad s e current.1 earlier.1 slot c.args.earlier.now earlier.0 fits c.in-Opens-side.other c.receive_either.new.earlier c.in-Opens-side.is
    (λ st. c.receive_either.ensures.earlier s e (opening_side slot c.args.current.now s c.in-Opens.side current c.in-Opens.is) st)
