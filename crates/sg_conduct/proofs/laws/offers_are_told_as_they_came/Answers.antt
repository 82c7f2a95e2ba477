use Rattle.std.proofs.lemmas.List.Elements.{All-from_recursion, recursion_from_All}
use Rattle.sg_gateway.proofs.Common.{empty, turns}
use Rattle.sg_gateway.specs.Taken.{LaterOfferIsTaken, NewOfferIsTaken}
use Rattle.sg_conduct.proofs.Forth.{each_carried}
use Rattle.sg_conduct.specs.Carried.{OfferIsCarried}
use Rattle.sg_conduct.proofs.laws.offers_are_told_as_they_came.Goals as goal

pub returns : goal.returns
returns c = λ events.
    All-from_recursion OfferIsCarried (turns events)
    (each_carried empty events (recursion_from_All (λ t. NewOfferIsTaken t × LaterOfferIsTaken t) (turns events) (c.signals_are_taken.ensures.offers events)))
