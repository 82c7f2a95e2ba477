-- What is noted is of the message of an offer that is open then, once.
use Rattle.std.proofs.Common.{◌≡◌, ℕ, Bool, true, false, cond, eqb, eq-eqb, not, List, [], ◌∷◌, ◌++◌, Option, Some, None, Ok, refl, sym, ap, ◌∙◌, subst, append_assoc}
use Rattle.std.proofs.lemmas.Bool.{and_from, false≢true, or_parts}
use Rattle.std.proofs.lemmas.List.{append-nil}
use Rattle.std.specs.List.{AllByRecursion, Any, filter_map}
use Rattle.sg_agreement.specs.Keying.{Keying, PeerLines, OwnLines, PeerMessage, PeerMessages, OwnMessage, note_in, notes_of}
use Rattle.sg_agreement.specs.Messages.{Bundle}
use Rattle.sg_agreement.specs.Offers.{AgreedOffer, agreed_offer}
use Rattle.sg_psk.specs.Pairs.{is_noted, is_same, with_note}
use Rattle.sg_psk.specs.declared.replays.Noted.{Noted}
use Rattle.sg_gateway.proofs.Common.{Call, Datagram, Event, Signalled, Way, World, and_call, any_here, any_there, any_weaker, at_hand, each_weaker, new_call, same_id, same_octets, same_octets_true, step, turn_of, with_call}
use Rattle.sg_gateway.proofs.Authentic.{offer_authentic}
use Rattle.sg_gateway.proofs.Signals.{is_found}
use Rattle.sg_gateway.proofs.StepCases.{each_datagram, each_signal, settled_offer}
use Rattle.sg_gateway.proofs.Taken.{found_new, same_id_itself}
use Rattle.sg_gateway.specs.CallSignals.{with_notes}
use Rattle.sg_conduct.proofs.Users.{placed}
use Rattle.sg_conduct.specs.Offers.{AreNew, HasNoted, IsOfMessage, NotesComeWithOffers}

-- ---- the book

itself : (n : Noted) → is_same n n ≡ true
itself n = and_from _ _ (and_from _ _ (same_octets_true n.peer n.peer refl) (eq-eqb n.csb n.csb refl)) (same_octets_true n.stamp n.stamp refl)

not_there : (book : List Noted) (n : Noted) → is_noted book n ≡ false → AllByRecursion (λ x. ¬ x ≡ n) book
not_there [] n e = tt
not_there (x ∷ book) n e =
    let p = or_parts (is_same n x) (is_noted book n) e in
    ((λ same. false≢true (sym p.0 ∙ (ap (is_same n) same ∙ itself n))), not_there book n p.1)

module _ (Is : Noted → Type 0) where
  new_in : (book ns : List Noted) → AllByRecursion Is ns → (new : List Noted) × (with_notes book ns ≡ book ++ new) × AreNew book new × AllByRecursion Is new
  new_in book [] all = ([], sym (append-nil book), tt, tt)
  new_in book (n ∷ ns) all = go (is_noted book n) refl (new_in book ns all.1) (new_in (book ++ n ∷ []) ns all.1)
    where
      New : List Noted → Type 0
      New after = (new : List Noted) × (after ≡ book ++ new) × AreNew book new × AllByRecursion Is new

      go : (b : Bool) → is_noted book n ≡ b → New (with_notes book ns)
          → ((new : List Noted) × (with_notes (book ++ n ∷ []) ns ≡ (book ++ n ∷ []) ++ new) × AreNew (book ++ n ∷ []) new × AllByRecursion Is new)
          → New (with_notes (cond b book (book ++ n ∷ [])) ns)
      go true is same more = same
      go false is same more = (n ∷ more.0, more.1 ∙ append_assoc book (n ∷ []) more.0, (not_there book n is, more.2), (all.0, more.3))

-- ---- an offer

each_of_messages : (bs : List (Option Bundle)) → AllByRecursion (IsOfMessage (PeerMessages bs)) (filter_map note_in bs)
each_of_messages [] = tt
each_of_messages (None ∷ bs) = each_weaker (IsOfMessage (PeerMessages bs)) (IsOfMessage (PeerMessages (None ∷ bs))) (λ n is. any_there _ None bs is) (filter_map note_in bs) (each_of_messages bs)
each_of_messages (Some b ∷ bs) = (
  any_here _ (Some b) bs (b, refl, (refl, refl, refl)),
  each_weaker (IsOfMessage (PeerMessages bs)) (IsOfMessage (PeerMessages (Some b ∷ bs))) (λ n is. any_there _ (Some b) bs is) (filter_map note_in bs) (each_of_messages bs),
)

each_of_keying : (k : Keying) → AllByRecursion (IsOfMessage k) (notes_of k)
each_of_keying (PeerLines lines) = tt
each_of_keying (OwnLines lines) = tt
each_of_keying (PeerMessage b) = ((refl, refl, refl), tt)
each_of_keying (PeerMessages bs) = each_of_messages bs
each_of_keying (OwnMessage sent) = tt

-- ---- an event

module _ (w : World) where
  abbrev Comes : World → Type 0
  Comes v = (new : List Noted) × (v.books.noted ≡ w.books.noted ++ new) × AreNew w.books.noted new × AllByRecursion (HasNoted v.calls) new

  nothing : w.books.noted ≡ w.books.noted ++ []
  nothing = sym (append-nil w.books.noted)

  -- the call with the offer is among these
  gets : (c : Call) (way : Way) (noise text : List ℕ) (a : AgreedOffer) → agreed_offer (at_hand w.moment w.books c noise) way text ≡ Ok a
      → (cs : List Call) → Any (λ x. x ≡ (settled_offer w.moment w.books c a).call) cs
      → (new : List Noted) × (with_notes w.books.noted a.noted ≡ w.books.noted ++ new) × AreNew w.books.noted new × AllByRecursion (HasNoted cs) new
  gets c way noise text a agreed cs there =
      let is = new_in (IsOfMessage a.offer.keying) w.books.noted a.noted
      (subst (AllByRecursion (IsOfMessage a.offer.keying)) (sym (offer_authentic w.books w.moment c way noise text a agreed).1) (each_of_keying a.offer.keying)) in (
        is.0,
        is.1,
        is.2,
        each_weaker (IsOfMessage a.offer.keying) (HasNoted cs) (λ n p. any_weaker (λ x. x ≡ (settled_offer w.moment w.books c a).call) _
            (λ x same. (a.offer, ap (λ (x : Call). x.offer) same, p)) cs there) is.0 is.3,
      )

  event_comes : (e : Event) → Comes (step w e).world
  event_comes (Signalled signal) = each_signal w (λ signal a. Comes a.world) (record {
    refuses = λ signal id cause. ([], nothing, tt, tt);
    ticks = λ now on. ([], nothing, tt, tt);
    pairs = λ p. ([], nothing, tt, tt);
    keys = λ h none room ring is. ([], nothing, tt, tt);
    begins = λ id way noise text none room a agreed.
        let made : Call = (settled_offer w.moment w.books (new_call w id) a).call in
        gets (new_call w id) way noise text a agreed (and_call made w.calls)
        (is_found (λ c. same_id c.id id) (and_call made w.calls) made (found_new (λ c. same_id c.id id) made w.calls (same_id_itself id) none));
    offers = λ id way noise text c at a agreed.
        let made : Call = (settled_offer w.moment w.books c a).call in
        gets c way noise text a agreed (with_call made w.calls) (placed w c made refl (is_found _ w.calls c at));
    answers = λ id noise text c at o is_open g agreed ring is. ([], nothing, tt, tt);
    rejects = λ id c at none. ([], nothing, tt, tt);
    closes = λ id c at. ([], nothing, tt, tt);
    leaves = λ id c at. ([], nothing, tt, tt);
  }) signal
  event_comes (Datagram port from d) = each_datagram w port (λ h. Comes h.world) (record { drops = λ cause. ([], nothing, tt, tt); puts = λ c at s t octets held. ([], nothing, tt, tt) }) from d.items

pub notes_come : (w : World) (e : Event) → NotesComeWithOffers (turn_of w e)
notes_come w e = event_comes w e
