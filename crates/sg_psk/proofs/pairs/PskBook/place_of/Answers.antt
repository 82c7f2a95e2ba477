use Rattle.std.proofs.Common.{◌∙◌}
use Rattle.sg_psk.specs.Pairs.{is_of}
use Rattle.sg_psk.proofs.PairLemmas.{at_position}
use Rattle.sg_psk.proofs.pairs.PskBook.place_of.Goals as goal

pub returns : goal.returns
returns c = at_position (is_of c.args.own.now c.args.peer.now) c.args.self.now c.place_at.result (c.place_at.ensures ∙ c.position_of.ensures.value)
