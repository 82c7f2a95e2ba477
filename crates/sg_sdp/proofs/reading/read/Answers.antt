use Rattle.std.proofs.Common.{subst}
use Rattle.sg_sdp.specs.Reading.{Gives}
use Rattle.sg_sdp.proofs.Described.{described_again, is_found}
use Rattle.sg_sdp.proofs.FaultLaws.{is_told}
use Rattle.sg_sdp.proofs.reading.read.Goals as goal

pub returns-clause-found : goal.returns-clause-found
returns-clause-found c = is_found c.args.text.now c.limited.result c.limited.ensures

pub returns-clause-only : goal.returns-clause-only
returns-clause-only c = λ s is fits spelled. subst (λ read. Gives c.limited.result read) (described_again c.args.text.now s is fits spelled) c.limited.ensures

pub returns-clause-first_fault : goal.returns-clause-first_fault
returns-clause-first_fault c = is_told c.args.text.now c.limited.result c.limited.ensures
