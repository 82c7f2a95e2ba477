use Rattle.sg_mux.proofs.Sharings.{shares_as_told}
use Rattle.sg_mux.proofs.laws.ports_are_shared_as_told.Goals as goal

pub returns : goal.returns
returns c = shares_as_told c.legs_are_muxed_by_their_texts.ensures
