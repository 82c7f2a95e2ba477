use Rattle.std.proofs.Common.{◌∙◌}
use Rattle.std.specs.List.{list_any}
use Rattle.sg_psk.specs.Pairs.{is_of}
use Rattle.sg_psk.proofs.PairLemmas.{is_there}
use Rattle.sg_psk.proofs.pairs.PskBook.has.Goals as goal

pub returns : goal.returns
returns c =
    c.is_some.ensures
    ∙ is_there (is_of c.as_slice.result.now c.as_slice-2.result.now) c.args.self.now c.place_of.result c.place_of.ensures
    ∙ (λ i. list_any (is_of (c.as_slice.ensures.value i) (c.as_slice-2.ensures.value i)) c.args.self.now)
