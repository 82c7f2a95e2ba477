use Rattle.std.proofs.Common.{◌≡◌, ◌∙◌, ℕ, List, Result, Ok, Err, ap, subst}
use Rattle.sg_base.specs.declared.faults.DropCause.{DropCause}
use Rattle.sg_base.specs.declared.addresses.Kind.{Kind}
use Rattle.sg_session.specs.OneSession.{after}
use Rattle.sg_session.specs.Opening.{Taken, opens}
use Rattle.sg_session.specs.Session.{Session}
use Rattle.sg_media.specs.Answers.{answer_at, opened_of}
use Rattle.sg_media.specs.Either.{first_opened, if_refused}
use Rattle.sg_media.specs.Sides.{SideValue, StandsFor}
use Rattle.sg_media.specs.Steps.{side_opens}
use Rattle.sg_media.specs.declared.inbound.Opened.{Opened}
use Rattle.sg_media.proofs.either.receive_either.Goals as goal

-- what is opened was taken, and what is handed back wasn't
earlier_stays : (kind : Kind) (d : List ℕ) (o : Opened) (r q : Result Taken DropCause) (e : Session) (side : SideValue) → (let x : Result Opened (List ℕ × DropCause) = Ok o in x ≡ opened_of kind d r)
    → StandsFor side e → StandsFor side (after e (if_refused r q))
earlier_stays kind d o (Ok t) q e side is stands = stands
earlier_stays kind d o (Err cause) q e side is stands = absurd cc

earlier_takes : (kind : Kind) (d : List ℕ) (x : List ℕ × DropCause) (r q : Result Taken DropCause) (e : Session) (side : SideValue) → (let y : Result Opened (List ℕ × DropCause) = Err x in y ≡ opened_of kind d r)
    → StandsFor side (after e q) → StandsFor side (after e (if_refused r q))
earlier_takes kind d x (Ok t) q e side is stands = absurd cc
earlier_takes kind d x (Err cause) q e side is stands = stands

pub returns-in-Ok-clause-earlier : goal.returns-in-Ok-clause-earlier
returns-in-Ok-clause-earlier c s e current earlier =
    earlier_stays s.name.kind c.args.pad c.in-Ok.opened (opens s c.args.pad) (opens e c.args.pad) e c.args.earlier.now (c.in-Ok.ensures.answer s current) earlier

pub returns-in-Ok-receive-clause-answer : goal.returns-in-Ok-receive-clause-answer
returns-in-Ok-receive-clause-answer c s e current earlier =
    let second = subst (λ (p : List ℕ). Ok c.in-Ok-receive.opened ≡ opened_of e.name.kind p (opens e p)) c.in-Err.ensures.refused.0 (c.in-Ok-receive.ensures.answer e earlier) in
    λ i. first_opened (c.in-Err.ensures.answer s current i) (second i)

pub returns-in-Ok-receive-clause-steps : goal.returns-in-Ok-receive-clause-steps
returns-in-Ok-receive-clause-steps c done before has had =
    let second =
    subst (λ (p : List ℕ). Ok c.in-Ok-receive.opened ≡ answer_at c.args.earlier.now.kind p (side_opens c.args.earlier.now before p)) c.in-Err.ensures.refused.0 (c.in-Ok-receive.ensures.steps before had) in
    λ i. first_opened (c.in-Err.ensures.steps done has i) (second i)

pub returns-in-Ok-receive-clause-earlier : goal.returns-in-Ok-receive-clause-earlier
returns-in-Ok-receive-clause-earlier c s e current earlier =
    earlier_takes s.name.kind c.args.pad _ (opens s c.args.pad) (opens e c.args.pad) e c.receive-in-Err.new.self (c.in-Err.ensures.answer s current)
    (subst (λ (p : List ℕ). StandsFor c.receive-in-Err.new.self (after e (opens e p))) c.in-Err.ensures.refused.0 (c.in-Ok-receive.ensures.after e earlier))

pub returns-in-Err-receive-clause-answer : goal.returns-in-Err-receive-clause-answer
returns-in-Err-receive-clause-answer c s e current earlier =
    let second = subst (λ (p : List ℕ). Err (c.in-Err-receive.pad, c.in-Err-receive.field-0-1) ≡ opened_of e.name.kind p (opens e p)) c.in-Err.ensures.refused.0 (c.in-Err-receive.ensures.answer e earlier) in
    ap (λ (p : List ℕ). Err (p, c.in-Err.cause)) c.in-Err-receive.ensures.refused.0 ∙ (λ i. first_opened (c.in-Err.ensures.answer s current i) (second i))

pub returns-in-Err-receive-clause-steps : goal.returns-in-Err-receive-clause-steps
returns-in-Err-receive-clause-steps c done before has had =
    let second =
    subst (λ (p : List ℕ). Err (c.in-Err-receive.pad, c.in-Err-receive.field-0-1) ≡ answer_at c.args.earlier.now.kind p (side_opens c.args.earlier.now before p)) c.in-Err.ensures.refused.0
    (c.in-Err-receive.ensures.steps before had) in
    ap (λ (p : List ℕ). Err (p, c.in-Err.cause)) c.in-Err-receive.ensures.refused.0 ∙ (λ i. first_opened (c.in-Err.ensures.steps done has i) (second i))

pub returns-in-Err-receive-clause-earlier : goal.returns-in-Err-receive-clause-earlier
returns-in-Err-receive-clause-earlier c s e current earlier =
    earlier_takes s.name.kind c.args.pad _ (opens s c.args.pad) (opens e c.args.pad) e _ (c.in-Err.ensures.answer s current)
    (subst (λ (p : List ℕ). StandsFor c.receive-in-Err.new.self (after e (opens e p))) c.in-Err.ensures.refused.0 (c.in-Err-receive.ensures.after e earlier))
