use Rattle.std.proofs.Common.{◌∙◌, ap}
use Rattle.std.specs.Prelude.{slice_get}
use Rattle.sg_psk.specs.Sending.{initial_octets}
use Rattle.sg_psk.proofs.sending.sent_under.Goals as goal

pub returns : goal.returns
returns c = λ pairs at. (
  c.in_ok-octets.ensures ∙ ap initial_octets (c.in_ok-waiting.ensures.sent c.args.pair.now),
  record {
    pair = ap (slice_get pairs) c.in_ok-waiting.ensures.place ∙ at;
    same = c.in_ok-waiting.ensures.sent c.args.pair.now;
  },
)
