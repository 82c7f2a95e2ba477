use Rattle.std.proofs.Common.{◌≡◌, ◌≤◌, ℕ, List, ◌++◌, take, drop, length, arith, ap, sym, ◌∙◌, take-append-drop}
use Rattle.std.proofs.lemmas.List.{take_all}
use Rattle.std.proofs.lemmas.Bool.{eq-eqb, eqb-true}
use Rattle.std.proofs.Math.Seq.{take-append_seam}
use Rattle.sg_hmac.proofs.Differences.{more}
use Rattle.sg_hmac.proofs.tag.tag_fits.Goals as goal

pub loop-i-preserved : goal.loop-i-preserved
loop-i-preserved c =
    more c.loop-i.difference c.loop-i.i c.args.tag.now c.args.whole.now (omega arith) (omega arith) c.loop-i.invariant

pub returns : goal.returns
returns c =
    let tag : List ℕ = c.args.tag.now in
    let whole : List ℕ = c.args.whole.now in
    let at_end : length tag ≤ c.loop-i.i = omega arith in
    let i_is : c.loop-i.i ≡ length tag = omega arith in
    let tag_is : take c.loop-i.i tag ≡ tag = take_all c.loop-i.i tag at_end in (
      λ equal. let same = c.loop-i.invariant.0 (eqb-true _ _ equal) in
          (drop c.loop-i.i whole, sym (take-append-drop c.loop-i.i whole) ∙ ap (λ (l : List ℕ). l ++ drop c.loop-i.i whole) (sym same ∙ tag_is)),
      λ is. eq-eqb _ _ (c.loop-i.invariant.1 (tag_is ∙ sym (ap (take c.loop-i.i) is.1 ∙ ap (λ n. take n (tag ++ is.0)) i_is ∙ take-append_seam tag is.0))),
    )
