use Rattle.std.proofs.Common.{◌∙◌}
use Rattle.sg_psk.specs.Pairs.{is_with}
use Rattle.sg_psk.proofs.PairLemmas.{at_position}
use Rattle.sg_psk.proofs.pairs.PskBook.place_with.Goals as goal

pub returns : goal.returns
returns c = at_position (is_with c.args.peer.now) c.args.self.now c.place_at.result (c.place_at.ensures ∙ c.position_with.ensures.value)
