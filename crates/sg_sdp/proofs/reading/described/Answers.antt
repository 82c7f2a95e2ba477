use Rattle.std.proofs.Common.{◌≡◌, ◌+◌, sym, ap, ◌∙◌, arith, length, eqb}
use Rattle.std.specs.List.{count_by}
use Rattle.std.proofs.lemmas.List.{length-map}
use Rattle.std.proofs.lemmas.List.Splits.{length-slice_split}
use Rattle.std.proofs.lemmas.List.Sums.{count_by-le-length}
use Rattle.sg_sdp.proofs.reading.described.Goals as goal

pub lines-requires-clause-some : goal.lines-requires-clause-some
lines-requires-clause-some c =
    let n : length c.in_ok-parts.parts.items ≡ count_by (λ b. eqb b 10) c.args.text.now + 1 = sym (length-map c.in_ok-parts.parts.items (λ x. x.now)) ∙ ap length c.in_ok-parts.ensures ∙ length-slice_split (λ b. eqb b 10) c.args.text.now in
    omega (arith, ap length c.deref.ensures.value)

pub lines-requires-clause-few : goal.lines-requires-clause-few
lines-requires-clause-few c =
    let n : length c.in_ok-parts.parts.items ≡ count_by (λ b. eqb b 10) c.args.text.now + 1 = sym (length-map c.in_ok-parts.parts.items (λ x. x.now)) ∙ ap length c.in_ok-parts.ensures ∙ length-slice_split (λ b. eqb b 10) c.args.text.now in
    omega (arith, ap length c.deref.ensures.value, count_by-le-length (λ b. eqb b 10) c.args.text.now)
