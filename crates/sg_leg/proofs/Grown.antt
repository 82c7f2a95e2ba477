-- An open offer stays one when the book of pre-shared keys grows.
use Rattle.std.proofs.Common.{◌≡◌, ℕ, zero, suc, List, [], ◌∷◌, ◌++◌, slice_get, Option, Some, None, refl, sym, subst}
use Rattle.sg_agreement.specs.Keying as agreed
use Rattle.sg_agreement.specs.Messages as messages
use Rattle.sg_psk.specs.Accepting.{Accepted}
use Rattle.sg_psk.specs.StandsFor.{IsAccepted}
use Rattle.sg_psk.specs.declared.accepting.Initial.{Initial}
use Rattle.sg_psk.specs.declared.pairs.Pair.{Pair}
use Rattle.sg_leg.specs.Open.{IsBundleIf, IsBundleOf, IsKeyingOf, IsOpen}
use Rattle.sg_leg.specs.Pairs.{EachPair}
use Rattle.sg_leg.specs.Values.{OfferedValue}
use Rattle.sg_leg.specs.declared.keying.Bundle.{Bundle}
use Rattle.sg_leg.specs.declared.keying.Keying.{Keying}
use Rattle.sg_leg.specs.declared.keying.Keying.TheVariants as kept
use Rattle.sg_leg.proofs.Kept.{own_lines, own_message, peer_lines, peer_message, peer_messages}

module _ (pairs more : List Pair) where
  got : (xs : List Pair) (i : ℕ) (x : Pair) → slice_get xs i ≡ Some x → slice_get (xs ++ more) i ≡ Some x
  got (y ∷ xs) zero x e = e
  got (y ∷ xs) (suc i) x e = got xs i x e
  got [] i x e = absurd cc

  accepted : (i : Initial) (a : Accepted) → IsAccepted pairs i a → IsAccepted (pairs ++ more) i a
  accepted i a is = record { pair = got pairs i.pair a.pair is.pair; peer = is.peer; same = is.same }

  bundle : (b : Bundle) (c : messages.Bundle) → IsBundleOf pairs b c → IsBundleOf (pairs ++ more) b c
  bundle b c is = record { initial = accepted b.initial c.initial is.initial; streams = is.streams }

  bundle_if : (b : Option Bundle) (c : Option messages.Bundle) → IsBundleIf pairs b c → IsBundleIf (pairs ++ more) b c
  bundle_if None None is = tt
  bundle_if (Some b) (Some c) is = bundle b c is
  bundle_if b c is = absurd is

  each : (bs : List (Option Bundle)) (cs : List (Option messages.Bundle)) → EachPair (IsBundleIf pairs) bs cs → EachPair (IsBundleIf (pairs ++ more)) bs cs
  each [] [] p = tt
  each (b ∷ bs) (c ∷ cs) p = (bundle_if b c p.0, each bs cs p.1)
  each bs cs p = absurd p

  keying : (k : Keying) (c : agreed.Keying) → IsKeyingOf pairs k c → IsKeyingOf (pairs ++ more) k c
  keying (kept.PeerLines ls) c e = subst (IsKeyingOf (pairs ++ more) (kept.PeerLines ls)) (sym (peer_lines pairs ls c e)) refl
  keying (kept.OwnLines ls) c e = subst (IsKeyingOf (pairs ++ more) (kept.OwnLines ls)) (sym (own_lines pairs ls c e)) refl
  keying (kept.PeerMessage b) c e =
      let p = peer_message pairs b c e in subst (IsKeyingOf (pairs ++ more) (kept.PeerMessage b)) (sym p.1) (bundle b p.0 p.2)
  keying (kept.PeerMessages bs) c e =
      let p = peer_messages pairs bs c e in subst (IsKeyingOf (pairs ++ more) (kept.PeerMessages bs)) (sym p.1) (each bs p.0 p.2)
  keying (kept.OwnMessage w) c e =
      let p = own_message pairs w c e in
      subst (IsKeyingOf (pairs ++ more) (kept.OwnMessage w)) (sym p.1) (record { pair = got pairs w.pair p.0.pair p.2.pair; same = p.2.same })

  pub stays_open : (o : OfferedValue) (offer : agreed.Offer) → IsOpen pairs o offer → IsOpen (pairs ++ more) o offer
  stays_open o offer is = record { side = is.side; description = is.description; keying = keying o.keying offer.keying is.keying; offered = is.offered }
