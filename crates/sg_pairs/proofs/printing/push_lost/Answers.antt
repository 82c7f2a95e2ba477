use Rattle.std.proofs.Common.{◌≡◌, ◌++◌, ◌∙◌, ap, List, ℕ}
use Rattle.std.proofs.lemmas.Result.{on_ok_weaker}
use Rattle.sg_pairs.proofs.OutcomeLines.{has_word, lost_line}
use Rattle.sg_outcome.specs.OutcomeText.{outcome_line}
use Rattle.sg_outcome.specs.declared.outcomes.Outcome.TheVariants.{Dropped}
use Rattle.sg_pairs.proofs.printing.push_lost.Goals as goal

pub behind_word-requires : goal.behind_word-requires
behind_word-requires c =
    let is : c.push_outcome.new.out.items ≡ outcome_line (Dropped c.args.port c.args.cause) = c.in_ok-push_outcome.ensures ∙ ap (λ (l : List ℕ). l ++ outcome_line (Dropped c.args.port c.args.cause)) c.new-line.ensures.items in
    has_word c.args.port c.args.cause c.as_slice.result.now (c.as_slice.ensures.value ∙ is)

pub returns : goal.returns
returns c =
    let is : c.push_outcome.new.out.items ≡ outcome_line (Dropped c.args.port c.args.cause) = c.in_ok-push_outcome.ensures ∙ ap (λ (l : List ℕ). l ++ outcome_line (Dropped c.args.port c.args.cause)) c.new-line.ensures.items in
    let line : c.as_slice.result.now ≡ outcome_line (Dropped c.args.port c.args.cause) = c.as_slice.ensures.value ∙ is in
    on_ok_weaker c.push-2.result (λ added. added
    ∙ (λ i. c.in_ok-push.ensures.added i ++ c.behind_word.ensures i)
    ∙ lost_line c.args.port c.args.cause c.as_slice.result.now c.args.out.now.items line) c.push-2.ensures.added
