use Rattle.sg_session.proofs.Fits.{text_fits}
use Rattle.sg_session.proofs.ReadBack.{opens_within, reads_as_sealed}
use Rattle.sg_session.proofs.laws.sealed_is_opened.Goals as goal

pub returns-clause-opens : goal.returns-clause-opens
returns-clause-opens c = opens_within

pub returns-clause-reads : goal.returns-clause-reads
returns-clause-reads c = reads_as_sealed

pub returns-clause-fits : goal.returns-clause-fits
returns-clause-fits c = text_fits
