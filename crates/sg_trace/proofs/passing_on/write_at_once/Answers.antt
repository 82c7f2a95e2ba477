use Rattle.std.proofs.Common.{[], sym, subst, append-nil}
use Rattle.sg_edge.specs.Told.{Tally, Wrote}
use Rattle.sg_trace.proofs.passing_on.write_at_once.Goals as goal

-- all is written, though not passed on
pub returns-in-Err-flush-clause-told : goal.returns-in-Err-flush-clause-told
returns-in-Err-flush-clause-told g c = (
  c.args.octets.now,
  ([], sym (append-nil c.args.octets.now)),
  subst (λ (w : Tally). Wrote (g.K.Sink.written c.args.sink.now) w c.args.octets.now) (sym c.in-Err-flush.ensures.kept) c.in-Ok.ensures.wrote,
)
