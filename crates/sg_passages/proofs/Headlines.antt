-- Each part of the headline that tells what becomes of an event, over passages.
use Rattle.std.proofs.Common.{◌⊎◌, inl, inr, ℕ, ◌∷◌, List, get_or, ◌∙◌, subst}
use Rattle.std.specs.List.{All}
use Rattle.sg_gateway.proofs.Common.{Call, Entry, Event, Sealed, Session, Turn, any_weaker, turns}
use Rattle.sg_gateway.specs.Addressed.{OfferIsItsText, OffersAreTheirTexts}
use Rattle.sg_conduct.specs.Carried.{OfferIsCarried, OffersAreCarried}
use Rattle.sg_conduct.specs.Drops.{DropShowsCause, DropsShowCauses}
use Rattle.sg_conduct.specs.Offers.{OfferIsTaken, OffersAreTaken}
use Rattle.sg_conduct.specs.Manual.{ManualCallsAreTaken, ManualIsTaken}
use Rattle.sg_conduct.specs.Place as place
use Rattle.sg_conduct.specs.Settled.{DatagramIsSettled, EachDatagramIsSettled, IsDropped, IsOneOut}
use Rattle.sg_gateway.specs.Arriving as arriving
use Rattle.sg_gateway.specs.Authentic.{MessagesAreAcceptedOnce, NotesStay, OfferIsAuthentic}
use Rattle.sg_gateway.specs.CarriedOut.{AnswerRenews, AnswersRenew}
use Rattle.sg_gateway.specs.Ended.{EachEndFrees, EndsAreFree}
use Rattle.sg_gateway.specs.PeersPackets as peers
use Rattle.sg_gateway.specs.PlainTexts.{NoKeyGoesToThePlainSide, TellsNoKey}
use Rattle.sg_gateway.specs.Refusing.{EachRefusalChangesNothing, EachRefusedOfferStaysOpen, OffersStayOpen}
use Rattle.sg_gateway.specs.SealedOut as seals
use Rattle.sg_gateway.specs.Used.{EachSealUsesItsBlocks, SealsUseTheirBlocks}
use Rattle.sg_passages.proofs.Lifting.{bars_out, bars_plain, bars_secure, each, made_live, none_told, one_out, some_end, some_refusal, told_drop, told_out, told_refusal}
use Rattle.sg_passages.proofs.Texts.{told_no_key}
use Rattle.sg_passages.specs.Passages.{ArePassagesOf, AreToldAs, IsFaithful, Passage}
use Rattle.sg_passages.specs.PutOut as told
use Rattle.sg_passages.specs.Told.{DatagramIsTold, EachAsTold, EachDatagramIsTold, IsToldDropped, OpensWhatGoesOut, PlainTextsHaveNoKey, RefusalChangesNothing, SealsWhatGoesOut, SignalStaysIn, as_told}

-- ---- what is put out of one passage

put_out : (p : Passage) → IsFaithful p → (e : Entry) → peers.IsPutOutOf p.turn e → told.IsPutOutOf p e
put_out p f e a = any_weaker _ _ (λ c b. any_weaker _ _ (λ s is. record { name = is.name; key = is.key; out = one_out p f _ _ _ is.out }) c.sessions b) p.turn.before.calls a

sealed_out : (p : Passage) → IsFaithful p → (e : Entry) (c : Call) (s : Session) → seals.IsSealedOutOf p.turn e c s → told.IsSealedAndLeaves p e c s
sealed_out p f e c s is = record { name = is.name; encrypts = is.encrypts; key = is.key; out = one_out p f _ _ _ is.out }

arrived_out : (p : Passage) → IsFaithful p → (c : Call) (s : Session) (x : Sealed) → arriving.IsPutOut p.turn c s x → told.IsPutOut p c s x
arrived_out p f c s x is = record { opened = is.opened; out = one_out p f _ _ _ is.out }

settled_told : (p : Passage) → IsFaithful p → (port : ℕ) → IsDropped p.turn port ⊎ IsOneOut p.turn → IsToldDropped p port ⊎ IsOneOut (as_told p)
settled_told p f port (inl is) =
    let so = subst (λ os. AreToldAs p.leaves os p.told) is.told f.told in
    inl (record { at = so.3.0; came = so.3.2; cause = is.cause; told = so.2 ∙ (λ i. so.3.1 i ∷ so.4 i); nothing = is.nothing; same = is.same })
settled_told p f port (inr is) =
    inr (record { port = (p.leaves is.port is.to).port; to = (p.leaves is.port is.to).to; octets = is.octets; entry = is.entry; told = one_out p f _ _ _ is.told; one = is.one; first = is.first })

module _ (events : List Event) (passages : List Passage) (are : ArePassagesOf events passages) where
  over : (P : Turn → Type 0) (Q : Passage → Type 0) → ((p : Passage) → IsFaithful p → P p.turn → Q p) → All P (turns events) → All Q passages
  over P Q lift holds = each P Q lift passages (turns events) are.turns_are are.faithful holds

  -- ---- packets

  pub openings_sealed : (sealed : List Sealed) → peers.EachOpeningIsSealed sealed events → told.EachOpeningIsSealed sealed passages
  openings_sealed sealed holds = over (peers.OpeningsAreSealed sealed) (told.OpeningsAreSealed sealed)
      (λ p f h k d lt opening. record { by_peer = (h k d lt opening).by_peer; out = put_out p f (get_or p.turn.entries k d) (h k d lt opening).out }) holds

  pub openings_out : peers.EachOpeningGoesOut events → told.EachOpeningGoesOut passages
  openings_out holds = over peers.OpeningsGoOut told.OpeningsGoOut (λ p f h k d lt opening. put_out p f (get_or p.turn.entries k d) (h k d lt opening)) holds

  pub only_openings : peers.OnlyOpeningsGoOut events → EachAsTold OpensWhatGoesOut passages
  only_openings holds = over OpensWhatGoesOut (λ p. OpensWhatGoesOut (as_told p)) (λ p f h sealing. none_told peers.IsOutPlain p f (bars_plain p.leaves f.legs) (h sealing)) holds

  pub seals_out : seals.EachSealGoesOut events → told.EachSealGoesOut passages
  seals_out holds = over seals.SealsGoOut told.SealsGoOut
      (λ p f h k d lt sealing. any_weaker _ _ (λ c b. any_weaker _ _ (λ s is. sealed_out p f (get_or p.turn.entries k d) c s is) c.sessions b) p.turn.before.calls (h k d lt sealing)) holds

  pub only_seals : seals.OnlySealsGoOut events → EachAsTold SealsWhatGoesOut passages
  only_seals holds = over SealsWhatGoesOut (λ p. SealsWhatGoesOut (as_told p)) (λ p f h opening. none_told seals.IsOutSecure p f (bars_secure p.leaves f.legs) (h opening)) holds

  pub signals_quiet : seals.SignalsPutNothingOut events → EachAsTold SignalStaysIn passages
  signals_quiet holds = over SignalStaysIn (λ p. SignalStaysIn (as_told p)) (λ p f h signal is. none_told seals.IsOut p f (bars_out p.leaves) (h signal is)) holds

  pub blocks_used : EachSealUsesItsBlocks events → EachAsTold SealsUseTheirBlocks passages
  blocks_used holds = over SealsUseTheirBlocks (λ p. SealsUseTheirBlocks (as_told p))
      (λ p f h k d lt sealing encrypts port to text is. let was = told_out p f port to text is in h k d lt sealing encrypts was.port was.to text was.is) holds

  pub arriving_out : (sealed : List Sealed) → All (place.WithinReachArePutOut sealed) (turns events) → told.EachArrivingIsPutOut sealed passages
  arriving_out sealed holds = over (place.WithinReachArePutOut sealed) (told.ArrivingArePutOut sealed)
      (λ p f h x port from d c s k has is a. arrived_out p f c s x (h x port from d c s k has is a)) holds

  pub departing_sealed : All place.WithinReachAreSealed (turns events) → told.EachDepartingIsSealed passages
  departing_sealed holds = over place.WithinReachAreSealed told.DepartingAreSealed
      (λ p f h port from d c s ssrc index is a. any_weaker _ _ (λ k r. record { live = r.live; sealed = r.sealed; out = one_out p f _ _ _ r.out }) s.keys (h port from d c s ssrc index is a)) holds

  pub settled : EachDatagramIsSettled events → EachDatagramIsTold passages
  settled holds = over DatagramIsSettled DatagramIsTold (λ p f h port from d is. settled_told p f port (h port from d is)) holds

  pub drops : DropsShowCauses events → EachAsTold DropShowsCause passages
  drops holds = over DropShowsCause (λ p. DropShowsCause (as_told p)) (λ p f h port arrived from d cause is outs. let drop = told_drop p f arrived cause outs in h port drop.0 from d cause is drop.1) holds

  -- ---- refusals and ends

  pub refusals : EachRefusalChangesNothing events → EachAsTold RefusalChangesNothing passages
  refusals holds = over RefusalChangesNothing (λ p. RefusalChangesNothing (as_told p)) (λ p f h refused. h (some_refusal p f refused)) holds

  pub refused_offers : EachRefusedOfferStaysOpen events → EachAsTold OffersStayOpen passages
  refused_offers holds = over OffersStayOpen (λ p. OffersStayOpen (as_told p)) (λ p f h id noise text o is has refused. h id noise text o is has (some_refusal p f refused)) holds

  pub ends_free : EachEndFrees events → EachAsTold EndsAreFree passages
  ends_free holds = over EndsAreFree (λ p. EndsAreFree (as_told p))
      (λ p f h id slot media why has. let r = h id slot media why (some_end id slot media why p f has) in record { was = r.was; id_free = r.id_free; slot_free = r.slot_free }) holds

  -- ---- signals that are taken

  pub offers_taken : OffersAreTaken events → EachAsTold OfferIsTaken passages
  offers_taken holds = over OfferIsTaken (λ p. OfferIsTaken (as_told p))
      (λ p f h. (
        (λ id way noise text s is none room described keyed. let r = h.0 id way noise text s is none room described keyed in (r.0, (r.1.0, f.offers id way noise text is ∙ r.1.1))),
        (λ id way noise text c s is found by_lines closed many described keyed. let r = h.1 id way noise text c s is found by_lines closed many described keyed in (r.0, (r.1.0, f.offers id way noise text is ∙ r.1.1))),
      )) holds

  pub offers_told : OffersAreCarried events → EachAsTold OfferIsCarried passages
  offers_told holds = over OfferIsCarried (λ p. OfferIsCarried (as_told p))
      (λ p f h id way noise text is taken.
      let r = h id way noise text is (λ refused. taken (told_refusal p f refused)) in (
        r.0,
        r.1,
        elim r.2 [
          | inl m ↦ inl (m.0, m.1, (m.2.0, f.offers id way noise text is ∙ m.2.1, m.2.2))
          | inr o ↦ inr (o.0, o.1, o.2, o.3, o.4, (o.5.0, f.offers id way noise text is ∙ o.5.1, o.5.2))
        ],
      )) holds

  pub manual_taken : ManualCallsAreTaken events → EachAsTold ManualIsTaken passages
  manual_taken holds = over ManualIsTaken (λ p. ManualIsTaken (as_told p))
      (λ p f h call is none room free. let r = h call is none room free in (made_live p f _ _ _ r.0, r.1)) holds

  pub answers_renew : AnswersRenew events → EachAsTold AnswerRenews passages
  answers_renew holds = over AnswerRenews (λ p. AnswerRenews (as_told p)) (λ p f h id noise text c is found taken. h id noise text c is found (λ refused. taken (told_refusal p f refused))) holds

  -- ---- texts

  pub no_keys : NoKeyGoesToThePlainSide events → EachAsTold PlainTextsHaveNoKey passages
  no_keys holds = over (λ t. All TellsNoKey t.outcomes) (λ p. PlainTextsHaveNoKey (as_told p)) told_no_key holds

  pub offer_texts : OffersAreTheirTexts events → EachAsTold OfferIsItsText passages
  offer_texts holds = over OfferIsItsText (λ p. OfferIsItsText (as_told p)) (λ p f h id way noise text is taken. h id way noise text is (λ refused. taken (told_refusal p f refused))) holds

  pub messages : MessagesAreAcceptedOnce events → EachAsTold (λ t. OfferIsAuthentic t × NotesStay t) passages
  messages holds = over (λ t. OfferIsAuthentic t × NotesStay t) (λ p. OfferIsAuthentic (as_told p) × NotesStay (as_told p))
      (λ p f h. ((λ id way noise text is taken. h.0 id way noise text is (λ refused. taken (told_refusal p f refused))), h.1)) holds
