use Rattle.std.proofs.Common.{◌∙◌, subst, sym}
use Rattle.sg_edge.specs.Told.{Wrote}
use Rattle.sg_trace.proofs.Writings.{none_written}
use Rattle.sg_migrate.proofs.migrating.write_line.Goals as goal

pub returns-in-Err-clause-written : goal.returns-in-Err-clause-written
returns-in-Err-clause-written g c = none_written _ _

pub returns-in-Err-write_all-clause-written : goal.returns-in-Err-write_all-clause-written
returns-in-Err-write_all-clause-written g c =
    let part = c.in-Err-write_all.ensures.wrote in (part.0, (part.1, sym c.in-Ok.ensures ∙ sym c.as_slice.ensures ∙ part.2), part.3)

pub returns-clause-written : goal.returns-clause-written
returns-clause-written g c =
    subst (Wrote (g.K.Sink.written c.args.sink.now) (g.K.Sink.written c.write_all.new.sink)) (c.as_slice.ensures ∙ c.in-Ok.ensures) c.in-Ok-write_all.ensures.wrote
