use Rattle.std.proofs.Common.{arith}
use Rattle.sg_psk.specs.Accepting.{keys_in}
use Rattle.sg_psk.proofs.AcceptLemmas.{keys_refused, keys_full, keys_taken}
use Rattle.sg_psk.proofs.accepting.with_keys.Goals as goal

pub returns-in-Err : goal.returns-in-Err
returns-in-Err c = λ pairs at.
    keys_refused c.in-Err.error c.args.message.now c.args.pair.now c.args.kept (keys_in c.args.message.now c.args.pair.now) pairs c.in-Err.ensures

pub returns-then-kept-gt-KEPT_MOST : goal.returns-then-kept-gt-KEPT_MOST
returns-then-kept-gt-KEPT_MOST c = λ pairs at.
    keys_full c.in-Ok.tgks c.args.message.now c.args.pair.now c.args.kept (keys_in c.args.message.now c.args.pair.now) c.in-Ok.ensures (omega arith)

pub returns : goal.returns
returns c = λ pairs at.
    keys_taken c.in_ok-accepted.field-0 c.in-Ok.tgks c.args.message.now c.args.pair.now c.args.kept (keys_in c.args.message.now c.args.pair.now) pairs c.in-Ok.ensures (omega arith)
    (c.in_ok-accepted.ensures pairs at)
