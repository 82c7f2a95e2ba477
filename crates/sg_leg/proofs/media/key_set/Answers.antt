use Rattle.std.proofs.Common.{◌≤◌, sym, subst, map}
use Rattle.std.proofs.lemmas.List.{length-map}
use Rattle.sg_agreement.specs.Streams.{line_key}
use Rattle.sg_keys.specs.KeySet.{IsKeySet}
use Rattle.sg_leg.proofs.Fresh.{fresh_set, lengths_of}
use Rattle.sg_leg.proofs.media.key_set.Goals as goal

pub make-requires : goal.make-requires
make-requires c =
    subst IsKeySet (sym c.live_keys.ensures)
    (fresh_set c.args.kind (lengths_of c.args.kind c.keys_have_their_lengths.ensures.rtp c.keys_have_their_lengths.ensures.rtcp) c.args.first (map line_key c.args.keys.now)
    (subst (λ n. 1 ≤ n) (sym (length-map c.args.keys.now line_key)) c.requires.some) c.requires.mkis)
