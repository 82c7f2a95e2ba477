use Rattle.std.proofs.Common.{◌≡◌, ◌-◌, sym, ap, ◌∙◌, arith, refl, Ok, length, Result}
use Rattle.sg_base.specs.declared.SdpFault.{SdpFault}
use Rattle.std.proofs.lemmas.Result.{err_from_is_err_and}
use Rattle.std.proofs.lemmas.List.{length-take}
use Rattle.sg_sdp.specs.Reading.{◌>>=◌, at_line}
use Rattle.sg_sdp.proofs.Steps.{goes_on, fails, finished}
use Rattle.sg_sdp.proofs.reading.lines.Goals as goal

pub returns-in_err-add : goal.returns-in_err-add
returns-in_err-add c =
    let p = err_from_is_err_and c.from_residual.result c.from_residual.ensures.1 in
    rw (p.1, p.2) (fails 2048 c.args.parts.now _ c.loop-line.line-index c.loop-line.number c.loop-line.sdp c.add.new.sdp c.without_cr.result.now _ c.in_err-add.field-0.0 refl c.loop-line-test.true c.without_cr.ensures c.in_err-add.ensures c.loop-line.invariant.1)

pub loop-line-preserved : goal.loop-line-preserved
loop-line-preserved c = (omega arith, goes_on 2048 _ c.loop-line.line-index c.loop-line.number c.loop-line.sdp c.add.new.sdp c.without_cr.result.now _ _ c.loop-line-test.true c.without_cr.ensures c.in_ok-add.ensures c.loop-line.invariant.1)

pub returns-in-Ok : goal.returns-in-Ok
returns-in-Ok c =
    let here : c.loop-line.number ≡ length c.args.parts.now = omega (arith, length-take (length c.args.parts.now - 1) c.args.parts.now) in
    finished 2048 c.args.parts.now _ c.loop-line.line-index c.loop-line.number c.loop-line.sdp _ refl c.loop-line-test.false refl here c.loop-line.invariant.1
    ∙ ap (λ (r : Result (Unit {0}) SdpFault). at_line c.loop-line.number r >>= λ u. Ok c.loop-line.sdp) (sym c.in-Ok.ensures)

pub returns-in-Err : goal.returns-in-Err
returns-in-Err c =
    let here : c.loop-line.number ≡ length c.args.parts.now = omega (arith, length-take (length c.args.parts.now - 1) c.args.parts.now) in
    finished 2048 c.args.parts.now _ c.loop-line.line-index c.loop-line.number c.loop-line.sdp _ refl c.loop-line-test.false refl here c.loop-line.invariant.1
    ∙ ap (λ (r : Result (Unit {0}) SdpFault). at_line c.loop-line.number r >>= λ u. Ok c.loop-line.sdp) (sym c.in-Err.ensures)
