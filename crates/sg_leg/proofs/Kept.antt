-- What was kept of an offer, by its kind.
use Rattle.std.proofs.Common.{◌≡◌, List, [], ◌∷◌, length, map, Option, refl, sym, ap, ◌∙◌, subst, suc}
use Rattle.sg_agreement.proofs.AllAgreed.{there, IsWhole}
use Rattle.sg_agreement.specs.Keying as agreed
use Rattle.sg_agreement.specs.MessageAnswers.{own_streams}
use Rattle.sg_agreement.specs.Messages as messages
use Rattle.sg_agreement.specs.Sides.{actives, is_active}
use Rattle.sg_base.specs.declared.addresses.Side.{Side}
use Rattle.sg_psk.specs.Sending.{Sent}
use Rattle.sg_psk.specs.StandsFor.{IsSent}
use Rattle.sg_psk.specs.declared.pairs.Pair.{Pair}
use Rattle.sg_psk.specs.declared.sending.Waiting.{Waiting}
use Rattle.sg_sdes.specs.declared.lines.CryptoLine.{CryptoLine}
use Rattle.sg_sdp.specs.declared.medium.Medium as descriptions
use Rattle.sg_leg.specs.Open.{IsBundleIf, IsBundleOf, IsKeyingOf, IsOpen}
use Rattle.sg_leg.specs.Pairs.{EachPair}
use Rattle.sg_leg.specs.declared.keying.Bundle.{Bundle}
use Rattle.sg_leg.specs.declared.keying.Keying.TheVariants as kept
use Rattle.std.proofs.lemmas.List.{length-map}
use Rattle.std.specs.List.{AllByRecursion}
use Rattle.sg_agreement.proofs.KeyedSound.{IsSoundKeying}
use Rattle.sg_agreement.proofs.LinesSound.{Valid}
use Rattle.sg_agreement.proofs.MessageOctets.{Found}
use Rattle.sg_sdp.specs.declared.sdp.Sdp.{Sdp}
use Rattle.sg_leg.specs.Messages.{HasFewKeys}
use Rattle.sg_leg.specs.Replying.{HaveFewKeys, WillHaveFewKeys}
use Rattle.sg_leg.specs.Values.{OfferedValue}
use Rattle.sg_leg.specs.declared.keying.Keying.{Keying}
use Rattle.sg_leg.proofs.Agreeing.{was_whole}
use Rattle.sg_leg.proofs.FewKeys.{was_sound, each_few, bundles_few, will_few}

module _ (pairs : List Pair) where
  pub peer_lines : (ls : List (Option CryptoLine)) (k : agreed.Keying) → IsKeyingOf pairs (kept.PeerLines ls) k → k ≡ agreed.PeerLines ls
  peer_lines ls (agreed.PeerLines ms) e = ap agreed.PeerLines (sym e)
  peer_lines ls k e = absurd e

  pub own_lines : (ls : List (Option (List CryptoLine))) (k : agreed.Keying) → IsKeyingOf pairs (kept.OwnLines ls) k → k ≡ agreed.OwnLines ls
  own_lines ls (agreed.OwnLines ms) e = ap agreed.OwnLines (sym e)
  own_lines ls k e = absurd e

  pub peer_message : (b : Bundle) (k : agreed.Keying) → IsKeyingOf pairs (kept.PeerMessage b) k → (c : messages.Bundle) × (k ≡ agreed.PeerMessage c) × IsBundleOf pairs b c
  peer_message b (agreed.PeerMessage c) e = (c, refl, e)
  peer_message b k e = absurd e

  pub peer_messages : (bs : List (Option Bundle)) (k : agreed.Keying) → IsKeyingOf pairs (kept.PeerMessages bs) k → (cs : List (Option messages.Bundle)) × (k ≡ agreed.PeerMessages cs) × EachPair (IsBundleIf pairs) bs cs
  peer_messages bs (agreed.PeerMessages cs) e = (cs, refl, e)
  peer_messages bs k e = absurd e

  pub own_message : (w : Waiting) (k : agreed.Keying) → IsKeyingOf pairs (kept.OwnMessage w) k → (s : Sent) × (k ≡ agreed.OwnMessage s) × IsSent pairs w s
  own_message w (agreed.OwnMessage s) e = (s, refl, e)
  own_message w k e = absurd e

  pub pairs_long : (bs : List (Option Bundle)) (cs : List (Option messages.Bundle)) → EachPair (IsBundleIf pairs) bs cs → length bs ≡ length cs
  pairs_long [] [] p = refl
  pairs_long (b ∷ bs) (c ∷ cs) p = ap suc (pairs_long bs cs p.1)
  pairs_long bs cs p = absurd p

-- there is one value for each medium
pub kept_long : {X : Type 0} (side : Side) (xs : List (Option X)) (ms : List descriptions.Medium) → there xs ≡ actives side ms → length xs ≡ length ms
kept_long side xs ms are = sym (length-map xs Rattle.std.specs.Option.is_some) ∙ ap length are ∙ length-map ms (is_active side)

-- of an open offer
module _ (pairs : List Pair) (o : OfferedValue) (offer : agreed.Offer) (is : IsOpen pairs o offer) where
  keyed_so : (k : Keying) → o.keying ≡ k → IsKeyingOf pairs k offer.keying
  keyed_so k e = subst (λ k. IsKeyingOf pairs k offer.keying) e is.keying

  whole : IsWhole offer.side offer.description.media offer.keying
  whole = was_whole offer is.offered

  same_long : length offer.description.media ≡ length o.description.media
  same_long = ap (λ (s : Sdp). length s.media) (sym is.description)

  pub lines_long : (ls : List (Option CryptoLine)) → o.keying ≡ kept.PeerLines ls → length ls ≡ length o.description.media
  lines_long ls e =
      kept_long offer.side ls offer.description.media (subst (IsWhole offer.side offer.description.media) (peer_lines pairs ls offer.keying (keyed_so (kept.PeerLines ls) e)) whole) ∙ same_long

  pub own_lines_long : (ls : List (Option (List CryptoLine))) → o.keying ≡ kept.OwnLines ls → length ls ≡ length o.description.media
  own_lines_long ls e =
      kept_long offer.side ls offer.description.media (subst (IsWhole offer.side offer.description.media) (own_lines pairs ls offer.keying (keyed_so (kept.OwnLines ls) e)) whole) ∙ same_long

  pub bundles_are : (bs : List (Option Bundle)) → o.keying ≡ kept.PeerMessages bs → (cs : List (Option messages.Bundle)) × (offer.keying ≡ agreed.PeerMessages cs) × EachPair (IsBundleIf pairs) bs cs
  bundles_are bs e = peer_messages pairs bs offer.keying (keyed_so (kept.PeerMessages bs) e)

  pub bundles_long : (bs : List (Option Bundle)) → o.keying ≡ kept.PeerMessages bs → length bs ≡ length o.description.media
  bundles_long bs e =
      let p = bundles_are bs e in
      pairs_long pairs bs p.0 p.2 ∙ sym (length-map p.0 own_streams)
      ∙ kept_long offer.side (map own_streams p.0) offer.description.media (subst (IsWhole offer.side offer.description.media) p.1 whole) ∙ same_long

  module _ (valid : Valid) (found : Found) where
    sound : IsSoundKeying offer.keying
    sound = was_sound valid found offer is.offered

    pub bundle_few : (b : Bundle) → o.keying ≡ kept.PeerMessage b → AllByRecursion HasFewKeys b.streams
    bundle_few b e =
        let p = peer_message pairs b offer.keying (keyed_so (kept.PeerMessage b) e) in
        subst (AllByRecursion HasFewKeys) (sym p.2.streams) (each_few p.0.streams (subst IsSoundKeying p.1 sound))

    pub all_few : (bs : List (Option Bundle)) → o.keying ≡ kept.PeerMessages bs → AllByRecursion HaveFewKeys bs
    all_few bs e = let p = bundles_are bs e in bundles_few pairs bs p.0 p.2 (subst IsSoundKeying p.1 sound)

    pub sent_few : (w : Waiting) → o.keying ≡ kept.OwnMessage w → (s : Sent) × IsSent pairs w s × WillHaveFewKeys s
    sent_few w e =
        let p = own_message pairs w offer.keying (keyed_so (kept.OwnMessage w) e) in
        (p.0, p.2, will_few p.0 (subst IsSoundKeying p.1 sound))
