use Rattle.std.proofs.Common.{◌∙◌}
use Rattle.sg_kdf.proofs.KdfLemmas.{stream_on_zeros}
use Rattle.sg_kdf.proofs.label.derived.Goals as goal

pub returns : goal.returns
returns g c = c.stream.ensures ∙ stream_on_zeros c.args.schedule.now _ _ g.row.N c.initial_value.ensures.value
