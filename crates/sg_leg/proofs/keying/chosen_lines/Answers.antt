use Rattle.std.proofs.Common.{◌∙◌, ◌+◌, List, [], ◌∷◌, ◌++◌, Option, Result, Ok, Err, drop, sym, ap, subst}
use Rattle.std.proofs.Math.ListN.{drop_of_length-le}
use Rattle.std.proofs.lemmas.List.{append-nil}
use Rattle.sg_agreement.proofs.Walks.{active_at}
use Rattle.sg_agreement.specs.EachMedium.{each_active}
use Rattle.sg_agreement.specs.Offers.{chosen_in}
use Rattle.sg_agreement.specs.Walks.{prefixed}
use Rattle.sg_base.specs.declared.addresses.Side.TheVariants.{Secure}
use Rattle.sg_base.specs.declared.faults.Fault.{Fault}
use Rattle.sg_base.specs.declared.faults.Fault.TheVariants.{Refused, NoMemory}
use Rattle.sg_base.specs.declared.faults.Refusal.{Refusal}
use Rattle.sg_sdes.specs.declared.lines.CryptoLine.{CryptoLine}
use Rattle.sg_session.specs.Stages.{after_ok}
use Rattle.sg_leg.specs.Answering.{Tells}
use Rattle.sg_leg.proofs.keying.chosen_lines.Goals as goal

-- what follows a refusal isn't reached
stopped : (fault : Fault) (r : Result (Option CryptoLine) Refusal) (f : Option CryptoLine → Result (List (Option CryptoLine)) Refusal)
    → Tells {X = Option CryptoLine} (Err fault) r → Tells {X = List (Option CryptoLine)} (Err fault) (after_ok r f)
stopped (Refused cause) r f e = ap (λ r. after_ok r f) e
stopped NoMemory r f e = tt

pub returns-in-Err : goal.returns-in-Err
returns-in-Err c =
    let done = c.loop-m.lines.items in
    subst (λ r. Tells {X = List (Option CryptoLine)} (Err c.in-Err.fault) r)
    (sym (active_at Secure chosen_in done c.loop-m.m c.index-media-m.result c.args.media.now c.loop-m-test.true (sym c.index-media-m.is)) ∙ c.loop-m.invariant)
    (stopped c.in-Err.fault _ _ c.in-Err.ensures)

pub loop-m-preserved : goal.loop-m-preserved
loop-m-preserved c =
    let done = c.loop-m.lines.items in
    let next = c.loop-m.m + 1 in
    ap (λ d. prefixed d (each_active Secure chosen_in next (drop next c.args.media.now))) c.in_ok-push-in-Ok.ensures.items
    ∙ sym (ap (λ r. after_ok r (λ x. prefixed (done ++ x ∷ []) (each_active Secure chosen_in next (drop next c.args.media.now)))) c.in-Ok.ensures)
    ∙ sym (active_at Secure chosen_in done c.loop-m.m c.index-media-m.result c.args.media.now c.loop-m-test.true (sym c.index-media-m.is))
    ∙ c.loop-m.invariant

pub returns : goal.returns
returns c =
    sym c.loop-m.invariant
    ∙ ap (λ l. prefixed c.loop-m.lines.items (each_active Secure chosen_in c.loop-m.m l)) (drop_of_length-le c.args.media.now c.loop-m-test.false)
    ∙ ap Ok (append-nil c.loop-m.lines.items ∙ sym c.from_vec.ensures)
