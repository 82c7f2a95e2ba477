use Rattle.std.proofs.Common.{sym, subst}
use Rattle.sg_leg.specs.Open.{IsBundleIf, IsKeyingOf}
use Rattle.sg_leg.specs.Pairs.{EachPair}
use Rattle.sg_leg.proofs.NotedMessages.{notes_of_messages}
use Rattle.sg_leg.proofs.noting.note_all.Goals as goal

pub returns-in-PeerMessages : goal.returns-in-PeerMessages
returns-in-PeerMessages c = λ pairs k is.
    notes_of_messages pairs c.in-PeerMessages.bundles k c.note_bundles.new.seen c.args.seen.now (subst (λ kept. IsKeyingOf pairs kept k) c.in-PeerMessages.is is)
    (λ cs each. c.note_bundles.ensures pairs cs (subst (λ l. EachPair (IsBundleIf pairs) l cs) (sym c.as_slice.ensures) each))
