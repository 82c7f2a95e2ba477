use Rattle.std.proofs.Common.{◌≡◌, ◌∙◌, None, ap, sym, subst, arith}
use Rattle.sg_psk.specs.Accepting.{early_under, initial_of, initial_under}
use Rattle.sg_psk.specs.Pairs.{pair_named}
use Rattle.sg_psk.specs.Parts.{names_in}
use Rattle.sg_psk.specs.StandsFor.{Gives, IsAccepted, OnNoMemory}
use Rattle.sg_psk.proofs.AcceptLemmas.{closing_small}
use Rattle.sg_psk.proofs.accepting.read_initial.Goals as goal

pub initial_under-requires-clause-small : goal.initial_under-requires-clause-small
initial_under-requires-clause-small c =
    let is = c.message_law.ensures.found c.args.octets.now c.args.message.now (λ i. omega (arith, c.type_inv.octets i)) c.requires.read in
    let small = closing_small c.args.message.now.payloads is.0.payloads in
    omega (arith, small)

pub returns-in-Some-clause-value : goal.returns-in-Some-clause-value
unfolding initial_of
returns-in-Some-clause-value c =
    subst (λ o. Gives (IsAccepted c.args.book.now) c.initial_under.result (initial_under c.args.octets.now c.args.message.now c.args.seen.now c.args.now o))
    (sym (sym (ap (λ ps. pair_named c.args.book.now (names_in ps)) c.as_slice.ensures) ∙ c.in-Some.ensures.1 ∙ c.pair.ensures))
    (c.initial_under.ensures.value c.args.book.now c.pair.ensures)

pub returns-in-Some-clause-needs : goal.returns-in-Some-clause-needs
returns-in-Some-clause-needs c =
    subst (λ o. OnNoMemory c.initial_under.result (early_under c.args.octets.now c.args.message.now c.args.seen.now c.args.now o ≡ None))
    (sym (sym (ap (λ ps. pair_named c.args.book.now (names_in ps)) c.as_slice.ensures) ∙ c.in-Some.ensures.1 ∙ c.pair.ensures))
    c.initial_under.ensures.needs

pub returns-in-None-clause-value : goal.returns-in-None-clause-value
unfolding initial_of initial_under
returns-in-None-clause-value c =
    ap (initial_under c.args.octets.now c.args.message.now c.args.seen.now c.args.now)
    (sym (ap (λ ps. pair_named c.args.book.now (names_in ps)) c.as_slice.ensures) ∙ c.in-None.ensures)
