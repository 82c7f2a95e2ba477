-- Messages that are noted one by one.
use Rattle.std.proofs.Common.{◌≡◌, List, [], ◌∷◌, Option, Some, None, refl, ap, ◌∙◌}
use Rattle.std.specs.List.{filter_map}
use Rattle.sg_agreement.specs.Keying.{Keying, PeerLines, OwnLines, PeerMessage, PeerMessages, OwnMessage, note_in, notes_of}
use Rattle.sg_agreement.specs.Messages.{Bundle}
use Rattle.sg_psk.specs.declared.pairs.Pair.{Pair}
use Rattle.sg_psk.specs.declared.replays.Noted.{Noted}
use Rattle.sg_leg.specs.Open.{IsBundleIf, IsKeyingOf, with_notes}
use Rattle.sg_leg.specs.Pairs.{EachPair}
use Rattle.sg_leg.specs.declared.keying.Bundle as kept
use Rattle.sg_leg.specs.declared.keying.Keying.TheVariants as keyings

one_more : (n : List Noted) (c : Option Bundle) (left : List (Option Bundle)) → with_notes (with_notes n (filter_map note_in (c ∷ []))) (filter_map note_in left) ≡ with_notes n (filter_map note_in (c ∷ left))
one_more n None left = refl
one_more n (Some c) left = refl

pub notes_step : (pairs : List Pair) (b : Option kept.Bundle) (rest : List (Option kept.Bundle)) (left : List (Option Bundle)) (n n' m : List Noted) → EachPair (IsBundleIf pairs) (b ∷ rest) left
    → ((c : Option Bundle) → IsBundleIf pairs b c → n' ≡ with_notes n (filter_map note_in (c ∷ []))) → with_notes n (filter_map note_in left) ≡ m
    → (later : List (Option Bundle)) × EachPair (IsBundleIf pairs) rest later × (with_notes n' (filter_map note_in later) ≡ m)
notes_step pairs b rest [] n n' m each notes e = absurd each
notes_step pairs b rest (c ∷ left) n n' m each notes e = (left, each.1, ap (λ n. with_notes n (filter_map note_in left)) (notes c each.0) ∙ one_more n c left ∙ e)

pub notes_end : (pairs : List Pair) (left : List (Option Bundle)) (n m : List Noted) → EachPair (IsBundleIf pairs) [] left → with_notes n (filter_map note_in left) ≡ m → n ≡ m
notes_end pairs [] n m each e = e
notes_end pairs (c ∷ left) n m each e = absurd each

pub notes_of_messages : (pairs : List Pair) (bs : List (Option kept.Bundle)) (k : Keying) (n' n : List Noted) → IsKeyingOf pairs (keyings.PeerMessages bs) k
    → ((cs : List (Option Bundle)) → EachPair (IsBundleIf pairs) bs cs → n' ≡ with_notes n (filter_map note_in cs)) → n' ≡ with_notes n (notes_of k)
notes_of_messages pairs bs (PeerMessages cs) n' n is notes = notes cs is
notes_of_messages pairs bs k n' n is notes = absurd is
