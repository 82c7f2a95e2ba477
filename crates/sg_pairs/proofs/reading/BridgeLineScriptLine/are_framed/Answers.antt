use Rattle.sg_pairs.proofs.BridgeFrames.{bridge_long, bridge_open, bridge_whole}
use Rattle.sg_pairs.proofs.reading.BridgeLineScriptLine.are_framed.Goals as goal

pub returns : goal.returns
returns c = record { too_long = bridge_long; without_end = bridge_open; with_end = bridge_whole }
