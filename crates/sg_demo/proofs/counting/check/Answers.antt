use Rattle.std.proofs.Common.{◌≡◌, ℕ, Bool, false, List, Option, None, slice_get, slice_set, is_ok, length, refl, sym, ap, ◌∙◌, subst, arith}
use Rattle.sg_session.specs.Opening.{opens}
use Rattle.sg_demo.specs.Callers as model
use Rattle.sg_demo.specs.Callers.{after_opening}
use Rattle.sg_demo.specs.Counting.{checked_by, sealed_counted}
use Rattle.sg_demo.specs.Standing.{CallerStandsFor, CountStands}
use Rattle.sg_demo.proofs.Lists.{IsZippedAt, past_none, zip_long, zipped_at}
use Rattle.sg_demo.proofs.counting.check.Goals as goal

pub returns-then-position-callers-clause-checked : goal.returns-then-position-callers-clause-checked
returns-then-position-callers-clause-checked c = λ cs s stands.
    let long : length c.args.callers.now ≡ length cs = zip_long CallerStandsFor c.args.callers.now cs stands in
    let past : slice_get cs c.args.position ≡ None = past_none cs c.args.position (omega (arith, long, c.if-position-callers.true)) in
    subst (λ (o : Option model.Caller). CountStands c.args.callers.now (sealed_counted false s) (checked_by o c.args.position c.args.pad.now (record { callers = cs; summary = s }))) (sym past)
    (record { each = stands; same = refl })

pub returns-clause-checked : goal.returns-clause-checked
returns-clause-checked c = λ cs s stands.
    let at : IsZippedAt _ _ CallerStandsFor c.args.callers.now cs c.args.position = zipped_at CallerStandsFor c.args.callers.now cs c.args.position (omega (arith, c.if-position-callers.false)) stands in
    let did = c.opens.ensures at.item (at.stands c.index-callers-position.result) in
    let same : c.in_ok-pad.pad ≡ c.args.pad.now = c.in_ok-pad.ensures ∙ c.octets.ensures.same in
    subst (λ (o : Option model.Caller). CountStands (slice_set c.args.callers.now c.args.position c.opens.new.self) (sealed_counted c.opens.result s) (checked_by o c.args.position c.args.pad.now (record { callers = cs; summary = s }))) (sym at.here)
    (record {
      each = at.kept c.opens.new.self (after_opening c.args.pad.now at.item) (subst (λ (d : List ℕ). CallerStandsFor c.opens.new.self (after_opening d at.item)) same did.1);
      same = ap (λ (b : Bool). sealed_counted b s) (did.0 ∙ ap (λ (d : List ℕ). is_ok (opens at.item.opening d)) same);
    })
