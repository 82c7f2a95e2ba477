use Rattle.std.proofs.Common.{sym}
use Rattle.sg_sdes.proofs.WordLaws.{on_word, at_word, at_last}
use Rattle.sg_sdes.proofs.parameters.read_parameters.Goals as goal

pub loop-rest-preserved : goal.loop-rest-preserved
loop-rest-preserved c =
    let so_far = rw c.in-Some.is at c.loop-rest.invariant in
    on_word c.loop-rest.said _ c.in-Some.text.now _ _ _ c.first_word.ensures.words (sym c.in-Some-with.ensures) so_far

pub returns-in_default-with : goal.returns-in_default-with
returns-in_default-with c =
    let so_far = rw c.in-Some.is at c.loop-rest.invariant in
    at_word c.loop-rest.said c.in-Some.text.now _ _ _ c.first_word.ensures.words (sym c.in_default-with.ensures) so_far

pub returns : goal.returns
returns c = let so_far = rw c.in_default.is at c.loop-rest.invariant in at_last c.loop-rest.said _ so_far
