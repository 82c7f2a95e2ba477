-- Messages that were accepted or sent have one to eight keys.
use Rattle.std.proofs.Common.{◌≡◌, ◌≤◌, suc, List, [], ◌∷◌, length, map, Option, Some, None, refl, sym, ap, subst}
use Rattle.std.proofs.lemmas.List.{length-map}
use Rattle.std.specs.List.{AllByRecursion}
use Rattle.sg_agreement.proofs.KeyedSound.{Sometimes, IsSoundKeying, offer_sound}
use Rattle.sg_agreement.proofs.LinesSound.{Valid}
use Rattle.sg_agreement.proofs.MessageKeys.{AreSoundTgks}
use Rattle.sg_agreement.proofs.MessageOctets.{Found}
use Rattle.sg_agreement.proofs.MessagesSound.{IsSoundBundle, cs_is}
use Rattle.sg_agreement.proofs.SessionsSound.{IsSoundPair, streams_sound}
use Rattle.sg_agreement.specs.Keying.{Offer}
use Rattle.sg_agreement.specs.MessageAnswers.{responded, streams_answered}
use Rattle.sg_agreement.specs.Messages.{Bundle, message_in}
use Rattle.sg_agreement.specs.Refusals.{of_psk, of_cs}
use Rattle.sg_agreement.specs.Streams.{session_key}
use Rattle.sg_csmap.specs.CryptoSessions.{streams_of}
use Rattle.sg_csmap.specs.declared.sessions.StreamKeys.{StreamKeys}
use Rattle.sg_mikey.specs.declared.message.CsEntry.{CsEntry}
use Rattle.sg_psk.specs.Policy.{own_policy}
use Rattle.sg_psk.specs.Sending.{Sent, response_of}
use Rattle.sg_psk.specs.declared.pairs.Pair.{Pair}
use Rattle.sg_session.proofs.Inversions.{after_ok_is, ok_is}
use Rattle.sg_session.proofs.Lists.{each_weaker}
use Rattle.sg_leg.specs.Messages.{HasFewKeys}
use Rattle.sg_leg.specs.Open.{IsBundleIf, WasOffered}
use Rattle.sg_leg.specs.Pairs.{EachPair}
use Rattle.sg_leg.specs.Replying.{HaveFewKeys, WillHaveFewKeys}
use Rattle.sg_leg.specs.declared.keying.Bundle as kept

pub was_sound : Valid → Found → (o : Offer) → WasOffered o → IsSoundKeying o.keying
was_sound valid found o was = subst (λ (o : Offer). IsSoundKeying o.keying) was.is (offer_sound valid found was.hand was.way was.text was.agreed was.is_agreed)

pair_few : (p : StreamKeys × StreamKeys) → IsSoundPair p → HasFewKeys p
pair_few p is = (subst (λ n. n ≤ 8) (length-map p.0.keys session_key) is.0.few, subst (λ n. n ≤ 8) (length-map p.1.keys session_key) is.1.few)

pub each_few : (ps : List (StreamKeys × StreamKeys)) → AllByRecursion IsSoundPair ps → AllByRecursion HasFewKeys ps
each_few = each_weaker IsSoundPair HasFewKeys pair_few

pub bundles_few : (pairs : List Pair) (bs : List (Option kept.Bundle)) (cs : List (Option Bundle)) → EachPair (IsBundleIf pairs) bs cs → AllByRecursion (Sometimes IsSoundBundle) cs → AllByRecursion HaveFewKeys bs
bundles_few pairs [] cs p q = tt
bundles_few pairs (b ∷ bs) [] p q = absurd p
bundles_few pairs (None ∷ bs) (c ∷ cs) p q = (tt, bundles_few pairs bs cs p.1 q.1)
bundles_few pairs (Some b ∷ bs) (None ∷ cs) p q = absurd p.0
bundles_few pairs (Some b ∷ bs) (Some c ∷ cs) p q = (subst (AllByRecursion HasFewKeys) (sym p.0.streams) (each_few c.streams q.0), bundles_few pairs bs cs p.1 q.1)

responded_few : (ss : List (StreamKeys × StreamKeys)) (entries : List CsEntry) → AllByRecursion HasFewKeys ss → AllByRecursion HasFewKeys (responded ss entries)
responded_few (s ∷ ss) (i ∷ r ∷ entries) all = (all.0, responded_few ss entries all.1)
responded_few ss entries all = tt

pub will_few : (s : Sent) → AreSoundTgks s.tgks → WillHaveFewKeys s
unfolding streams_answered
will_few s are count value ss e =
    let a = after_ok_is (message_in 255 1 value) _ ss e in
    let b = after_ok_is (of_psk 255 (response_of a.0.0 a.0.1 s)) _ ss a.2 in
    let c = after_ok_is (of_cs 255 (streams_of s.csb s.random s.map (own_policy ∷ []) s.tgks count)) _ ss b.2 in
    subst (AllByRecursion HasFewKeys) (ok_is (responded c.0 b.0) ss c.2)
    (responded_few c.0 b.0 (each_few c.0 (streams_sound s.csb s.random (own_policy ∷ []) s.tgks are s.map count c.0 (cs_is 255 _ c.0 c.1))))
