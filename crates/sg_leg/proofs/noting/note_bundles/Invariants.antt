use Rattle.std.proofs.Common.{◌≡◌, ◌≤◌, ◌+◌, List, Option, drop, length}
use Rattle.std.specs.List.{filter_map}
use Rattle.sg_agreement.specs.Keying.{note_in}
use Rattle.sg_agreement.specs.Messages.{Bundle}
use Rattle.sg_psk.specs.declared.pairs.Pair.{Pair}
use Rattle.sg_leg.specs.Open.{IsBundleIf, with_notes}
use Rattle.sg_leg.specs.Pairs.{EachPair}
use Rattle.sg_leg.proofs.noting.note_bundles.Given as goal

abbrev pub invariant-loop-bundle : goal.invariant-loop-bundle
invariant-loop-bundle l =
    ((pairs : List Pair) (cs : List (Option Bundle)) → EachPair (IsBundleIf pairs) l.bundles cs
    → (left : List (Option Bundle)) × EachPair (IsBundleIf pairs) (drop l.bundle-index l.bundles) left × (with_notes l.seen (filter_map note_in left) ≡ with_notes l.fn.seen (filter_map note_in cs)))
    × (length l.seen ≤ length l.fn.seen + l.bundle-index)
