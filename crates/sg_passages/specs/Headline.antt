-- The headline.
use Rattle.std.specs.Prelude.{List}
use Rattle.sg_session.specs.Reach.{Sealed, AreSealed}
use Rattle.sg_gateway.specs.Addressed.{OfferIsItsText, AnswersHaveAddresses}
use Rattle.sg_gateway.specs.Authentic.{OfferIsAuthentic, NotesStay}
use Rattle.sg_gateway.specs.Busy.{EachCallIsBusy, EachPacketKeepsItsCall}
use Rattle.sg_gateway.specs.ByTexts.{AnswersAreByTexts}
use Rattle.sg_gateway.specs.CarriedOut.{ByesEnd, TicksMove, TicksKeep, RejectionsClose, AnswerRenews, AnswersKeepEarlier}
use Rattle.sg_gateway.specs.Coming.{EachOpeningCame, EachSealCame}
use Rattle.sg_gateway.specs.Earlier.{EarlierServeNoLonger}
use Rattle.sg_gateway.specs.Ended.{EndsAreFree, EndedStayAway}
use Rattle.sg_gateway.specs.Forgotten.{NoKeyIsForgotten}
use Rattle.sg_gateway.specs.Lasting.{SessionsLast, ManualCallsAreAsTold}
use Rattle.sg_gateway.specs.Lives.{EachKeyIsWithinLife}
use Rattle.sg_gateway.specs.Moments.{MomentComesOnce}
use Rattle.sg_gateway.specs.Order.{EachWorldIsOrderly}
use Rattle.sg_gateway.specs.Owned.{EachKeyIsOwned}
use Rattle.sg_gateway.specs.PeersPackets.{EachHighestIsSealed}
use Rattle.sg_gateway.specs.PlainTexts.{NoKeyGoesToThePlainSide}
use Rattle.sg_gateway.specs.Refusing.{OffersStayOpen}
use Rattle.sg_gateway.specs.Served.{EachKeyServesItsLife, NoKeyIsOverspent}
use Rattle.sg_gateway.specs.Step.{Event}
use Rattle.sg_gateway.specs.Tags.{EachSessionHasWholeTags}
use Rattle.sg_gateway.specs.Twice.{NoneTwice, NoneTwiceUnderKey, KeysHaveOneOwner}
use Rattle.sg_gateway.specs.Unforged.{Unforged}
use Rattle.sg_gateway.specs.Used.{NoBlockTwice, SealsUseTheirBlocks}
use Rattle.sg_conduct.specs.Carried.{OfferIsCarried}
use Rattle.sg_conduct.specs.Causes.{RefusedAnswersShowCauses}
use Rattle.sg_conduct.specs.Drawn.{OwnKeysAreDrawn}
use Rattle.sg_conduct.specs.Drops.{DropShowsCause}
use Rattle.sg_conduct.specs.Heard.{CallsWereHeard}
use Rattle.sg_conduct.specs.Keeping.{CallsKeepPlaces}
use Rattle.sg_conduct.specs.Manual.{ManualIsTaken}
use Rattle.sg_conduct.specs.Offers.{OfferIsTaken}
use Rattle.sg_conduct.specs.Others.{OtherCallsStay}
use Rattle.sg_conduct.specs.Present.{AnswersHaveNoOthers, AnswersHaveSessions}
use Rattle.sg_conduct.specs.Refusals.{RefusalsShowCauses}
use Rattle.sg_conduct.specs.Standing.{SessionsHaveDone}
use Rattle.sg_conduct.specs.Staying.{SessionsStayOpen}
use Rattle.sg_conduct.specs.ToldTexts.{ToldTextsAreOwn}
use Rattle.sg_conduct.specs.Unsealed.{EachOpeningIsUnsealed}
use Rattle.sg_conduct.specs.Words.{WordsMean}
use Rattle.sg_passages.specs.Passages.{Passage}
use Rattle.sg_passages.specs.PutOut.{EachArrivingIsPutOut, EachDepartingIsSealed, EachOpeningGoesOut, EachOpeningIsSealed, EachSealGoesOut}
use Rattle.sg_passages.specs.Told.{EachAsTold, EachDatagramIsTold, OpensWhatGoesOut, PlainTextsHaveNoKey, RefusalChangesNothing, SealsWhatGoesOut, SignalStaysIn}

-- The headline, over the events of a run as they come to the gateway and over what the run tells of them, for every list
-- of sealed packets: nothing forged goes out on a plain leg, and nothing unsealed on a secure one; nothing twice; nothing
-- within reach lost; no counter block sealed twice. What these rest on: whose each key is, how many packets it may serve,
-- that it is never forgotten, and the order of calls and names. What becomes of signals, taken and refused, of calls that
-- end, and of the generations before a call's current one. And what texts and messages have to do with it: no text that the
-- plain side is told has a key, media go to the addresses that texts tell, under the keys that they tell, and messages are
-- accepted that are authentic. `plain_texts`, `own_texts` and `by_texts` speak of the gateway's own texts. What is told of an
-- offer is that text, and what is told of an answer has no line that isn't one of that text, but `a=rtcp-mux` (`AddsMuxLines`).
pub record Headline (events : List Event) (passages : List Passage) : Type 0 where
  pub each_sealed : (sealed : List Sealed) → AreSealed sealed → Unforged sealed events → EachOpeningIsSealed sealed passages
  pub highest : (sealed : List Sealed) → AreSealed sealed → Unforged sealed events → EachHighestIsSealed sealed events
  pub each_opening_came : EachOpeningCame events
  pub each_opening_goes_out : EachOpeningGoesOut passages
  pub only_openings : EachAsTold OpensWhatGoesOut passages
  pub each_seal_came : EachSealCame events
  pub each_seal_goes_out : EachSealGoesOut passages
  pub only_seals : EachAsTold SealsWhatGoesOut passages
  pub signals : EachAsTold SignalStaysIn passages
  pub none_twice : NoneTwice events
  pub none_twice_under_key : NoneTwiceUnderKey events
  pub one_owner : KeysHaveOneOwner events
  pub each_arriving : (sealed : List Sealed) → AreSealed sealed → EachArrivingIsPutOut sealed passages
  pub each_departing : EachDepartingIsSealed passages
  pub no_block_twice : NoBlockTwice events
  pub each_seal_uses_its_blocks : EachAsTold SealsUseTheirBlocks passages
  pub owned : EachKeyIsOwned events
  pub lives : EachKeyIsWithinLife events
  pub orderly : EachWorldIsOrderly events
  pub refusals : EachAsTold RefusalChangesNothing passages
  pub refused_offers : EachAsTold OffersStayOpen passages
  pub ends : EachAsTold EndsAreFree passages
  pub ended : EndedStayAway events
  pub earlier : EarlierServeNoLonger events
  pub within_life : EachKeyServesItsLife events
  pub not_overspent : NoKeyIsOverspent events
  pub not_forgotten : NoKeyIsForgotten events
  pub busy : EachCallIsBusy events
  pub heard : EachPacketKeepsItsCall events
  pub moments : MomentComesOnce events
  pub byes : ByesEnd events
  pub ticks : TicksMove events
  pub ticks_keep : TicksKeep events
  pub offers : EachAsTold OfferIsTaken passages
  pub told_offers : EachAsTold OfferIsCarried passages
  pub manual_calls : EachAsTold ManualIsTaken passages
  pub rejections : RejectionsClose events
  pub answers : EachAsTold AnswerRenews passages
  pub refused_answers : RefusedAnswersShowCauses events
  pub refused_signals : RefusalsShowCauses events
  pub earlier_kept : AnswersKeepEarlier events
  pub plain_texts : NoKeyGoesToThePlainSide events
  pub told_texts : EachAsTold PlainTextsHaveNoKey passages
  pub offer_texts : EachAsTold OfferIsItsText passages
  pub addresses : AnswersHaveAddresses events
  pub by_texts : AnswersAreByTexts events
  pub manual_keys : ManualCallsAreAsTold events
  pub lasting : SessionsLast events
  pub tags : EachSessionHasWholeTags events
  pub messages : EachAsTold (λ t. OfferIsAuthentic t × NotesStay t) passages
  pub unsealed : EachOpeningIsUnsealed events
  pub done : SessionsHaveDone events
  pub settled : EachDatagramIsTold passages
  pub drops : EachAsTold DropShowsCause passages
  pub others : OtherCallsStay events
  pub were_heard : CallsWereHeard events
  pub there : AnswersHaveSessions events
  pub no_others : AnswersHaveNoOthers events
  pub stay : SessionsStayOpen events
  pub own_texts : ToldTextsAreOwn events
  pub own_keys : OwnKeysAreDrawn events
  pub places : CallsKeepPlaces events
  pub words : WordsMean
