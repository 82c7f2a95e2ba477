use Rattle.std.proofs.Common.{rules, ◌≤◌, ◌∙◌, ap, arith, length, ◌++◌, drop}
use Rattle.std.proofs.lemmas.List.{take_all, drop_all, append-nil}
use Rattle.sg_base.specs.Octets.{xor_octets}
use Rattle.sg_hmac.proofs.PrfLemmas.{one_more}
use Rattle.sg_hmac.proofs.pseudo_random.xor_onto.Goals as goal

pub loop-i-preserved : goal.loop-i-preserved
loop-i-preserved c = rw c.loop-i.invariant (one_more c.loop-i.i c.args.part.now c.args.mac.now (search rules) (search rules))

pub returns : goal.returns
returns c =
    let whole : length c.args.part.now ≤ c.loop-i.i = omega arith in
    c.loop-i.invariant
    ∙ ap (λ t. xor_octets t c.args.mac.now ++ drop c.loop-i.i c.args.part.now) (take_all c.loop-i.i c.args.part.now whole)
    ∙ ap (λ t. xor_octets c.args.part.now c.args.mac.now ++ t) (drop_all c.loop-i.i c.args.part.now whole)
    ∙ append-nil _
