use Rattle.std.proofs.Common.{◌≡◌, List, Option, drop, map, Ok}
use Rattle.sg_agreement.specs.EachMedium.{each_kept}
use Rattle.sg_agreement.specs.MessageAnswers.{keyed_by_message, own_streams}
use Rattle.sg_agreement.specs.Messages.{Bundle}
use Rattle.sg_agreement.specs.Walks.{prefixed}
use Rattle.sg_leg.specs.Open.{IsBundleIf}
use Rattle.sg_leg.specs.Pairs.{EachPair}
use Rattle.sg_leg.proofs.replying.by_media_messages.Given as goal

abbrev pub invariant-loop-m : goal.invariant-loop-m
invariant-loop-m l =
    (cs : List (Option Bundle)) → EachPair (IsBundleIf l.psks) l.bundles cs
    → prefixed l.keyed.items (each_kept (λ k x n. Ok (keyed_by_message x n)) l.m (drop l.m l.active) (drop l.m (map own_streams cs)) (drop l.m l.answer))
    ≡ each_kept (λ k x n. Ok (keyed_by_message x n)) 0 l.active (map own_streams cs) l.answer
