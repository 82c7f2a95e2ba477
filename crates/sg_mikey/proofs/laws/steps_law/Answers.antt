use Rattle.std.proofs.Common.{◌+◌, length, arith}
use Rattle.sg_mikey.proofs.ChainLaws.{chain_enough}
use Rattle.sg_mikey.proofs.PayloadLaws.{items_enough}
use Rattle.sg_mikey.proofs.laws.steps_law.Goals as goal

pub returns-clause-chain : goal.returns-clause-chain
returns-clause-chain c = λ more kind stage next octets fits. chain_enough (length octets + 1) more kind stage next octets fits (omega arith)

pub returns-clause-items : goal.returns-clause-items
returns-clause-items c = λ more room octets. items_enough room more room octets (omega arith)
