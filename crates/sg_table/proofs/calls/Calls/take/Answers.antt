use Rattle.std.proofs.Common.{sym, subst}
use Rattle.std.specs.Result.{OnOk}
use Rattle.sg_gateway.specs.Signals.{offered_to, answered, answer_to, with_pair}
use Rattle.sg_gateway.specs.World.{World, call_of}
use Rattle.sg_table.specs.Standing.{TableStandsFor}
use Rattle.sg_table.specs.Telling.{IsAnswered}
use Rattle.sg_agreement.specs.declared.ways.Way.TheVariants.{FromSecure, SdesFromPlain, MikeyFromPlain}
use Rattle.sg_gateway.specs.Events.{signal_of}
use Rattle.sg_psk.specs.Pairs.{pair_of}
use Rattle.sg_table.proofs.calls.Calls.take.Goals as goal

pub returns-in-Tick-clause-told : goal.returns-in-Tick-clause-told
returns-in-Tick-clause-told c = λ w s. subst (λ g. IsAnswered c.tick.new.told.items c.tick.new.self (answer_to w (signal_of g))) (sym c.in-Tick.is) (c.tick.ensures w s)

pub returns-in-Reject-clause-told : goal.returns-in-Reject-clause-told
returns-in-Reject-clause-told c = λ w s. subst (λ g. IsAnswered c.reject.new.told.items c.reject.new.self (answer_to w (signal_of g))) (sym c.in-Reject.is) (c.reject.ensures w s)

pub returns-in-Bye-clause-told : goal.returns-in-Bye-clause-told
returns-in-Bye-clause-told c = λ w s. subst (λ g. IsAnswered c.bye.new.told.items c.bye.new.self (answer_to w (signal_of g))) (sym c.in-Bye.is) (c.bye.ensures w s)

pub returns-in-Psk-clause-told : goal.returns-in-Psk-clause-told
returns-in-Psk-clause-told c =
    subst (λ g. OnOk c.psk.result ((w : World) → TableStandsFor c.args.self.now w → IsAnswered c.psk.new.told.items c.psk.new.self (answer_to w (signal_of g)))) (sym c.in-Psk.is)
    (subst (λ k. OnOk c.psk.result ((w : World) → TableStandsFor c.args.self.now w → IsAnswered c.psk.new.told.items c.psk.new.self (with_pair w (pair_of c.in-Psk.own c.in-Psk.peer k)))) c.as_slice.ensures c.psk.ensures.told)

pub returns-in-Manual-clause-told : goal.returns-in-Manual-clause-told
returns-in-Manual-clause-told c = subst (λ g. OnOk c.manual.result ((w : World) → TableStandsFor c.args.self.now w → IsAnswered c.manual.new.told.items c.manual.new.self (answer_to w (signal_of g)))) (sym c.in-Manual.is) c.manual.ensures.told

pub returns-in-OfferSecure-clause-told : goal.returns-in-OfferSecure-clause-told
returns-in-OfferSecure-clause-told c =
    subst (λ g. OnOk c.offer.result ((w : World) → TableStandsFor c.args.self.now w → IsAnswered c.offer.new.told.items c.offer.new.self (answer_to w (signal_of g)))) (sym c.in-OfferSecure.is)
    (subst (λ n. OnOk c.offer.result ((w : World) → TableStandsFor c.args.self.now w → IsAnswered c.offer.new.told.items c.offer.new.self (offered_to w c.in-OfferSecure.call FromSecure n c.in-OfferSecure.text (call_of w c.in-OfferSecure.call)))) c.given.ensures
    (subst (λ t. OnOk c.offer.result ((w : World) → TableStandsFor c.args.self.now w → IsAnswered c.offer.new.told.items c.offer.new.self (offered_to w c.in-OfferSecure.call FromSecure c.given.result.now t (call_of w c.in-OfferSecure.call)))) c.as_slice-in-OfferSecure.ensures c.offer.ensures.told))

pub returns-in-OfferSdes-clause-told : goal.returns-in-OfferSdes-clause-told
returns-in-OfferSdes-clause-told c =
    subst (λ g. OnOk c.offer-in-OfferSdes.result ((w : World) → TableStandsFor c.args.self.now w → IsAnswered c.offer-in-OfferSdes.new.told.items c.offer-in-OfferSdes.new.self (answer_to w (signal_of g)))) (sym c.in-OfferSdes.is)
    (subst (λ n. OnOk c.offer-in-OfferSdes.result ((w : World) → TableStandsFor c.args.self.now w → IsAnswered c.offer-in-OfferSdes.new.told.items c.offer-in-OfferSdes.new.self (offered_to w c.in-OfferSdes.call SdesFromPlain n c.in-OfferSdes.text (call_of w c.in-OfferSdes.call)))) c.given-in-OfferSdes.ensures
    (subst (λ t. OnOk c.offer-in-OfferSdes.result ((w : World) → TableStandsFor c.args.self.now w → IsAnswered c.offer-in-OfferSdes.new.told.items c.offer-in-OfferSdes.new.self (offered_to w c.in-OfferSdes.call SdesFromPlain c.given-in-OfferSdes.result.now t (call_of w c.in-OfferSdes.call)))) c.as_slice-in-OfferSdes.ensures c.offer-in-OfferSdes.ensures.told))

pub returns-in-OfferMikey-clause-told : goal.returns-in-OfferMikey-clause-told
returns-in-OfferMikey-clause-told c =
    subst (λ g. OnOk c.offer-in-OfferMikey.result ((w : World) → TableStandsFor c.args.self.now w → IsAnswered c.offer-in-OfferMikey.new.told.items c.offer-in-OfferMikey.new.self (answer_to w (signal_of g)))) (sym c.in-OfferMikey.is)
    (subst (λ n. OnOk c.offer-in-OfferMikey.result ((w : World) → TableStandsFor c.args.self.now w → IsAnswered c.offer-in-OfferMikey.new.told.items c.offer-in-OfferMikey.new.self (offered_to w c.in-OfferMikey.call (MikeyFromPlain c.in-OfferMikey.peer) n c.in-OfferMikey.text (call_of w c.in-OfferMikey.call)))) c.given-in-OfferMikey.ensures
    (subst (λ t. OnOk c.offer-in-OfferMikey.result ((w : World) → TableStandsFor c.args.self.now w → IsAnswered c.offer-in-OfferMikey.new.told.items c.offer-in-OfferMikey.new.self (offered_to w c.in-OfferMikey.call (MikeyFromPlain c.in-OfferMikey.peer) c.given-in-OfferMikey.result.now t (call_of w c.in-OfferMikey.call)))) c.as_slice-in-OfferMikey.ensures
    (subst (λ p. OnOk c.offer-in-OfferMikey.result ((w : World) → TableStandsFor c.args.self.now w → IsAnswered c.offer-in-OfferMikey.new.told.items c.offer-in-OfferMikey.new.self (offered_to w c.in-OfferMikey.call (MikeyFromPlain p) c.given-in-OfferMikey.result.now c.as_slice-in-OfferMikey.result.now (call_of w c.in-OfferMikey.call)))) c.copy_of.ensures c.offer-in-OfferMikey.ensures.told)))

pub returns-in-Answer-clause-told : goal.returns-in-Answer-clause-told
returns-in-Answer-clause-told c =
    subst (λ g. OnOk c.answer.result ((w : World) → TableStandsFor c.args.self.now w → IsAnswered c.answer.new.told.items c.answer.new.self (answer_to w (signal_of g)))) (sym c.in-Answer.is)
    (subst (λ n. OnOk c.answer.result ((w : World) → TableStandsFor c.args.self.now w → IsAnswered c.answer.new.told.items c.answer.new.self (answered w c.in-Answer.call n c.in-Answer.text (call_of w c.in-Answer.call)))) c.given-in-Answer.ensures
    (subst (λ t. OnOk c.answer.result ((w : World) → TableStandsFor c.args.self.now w → IsAnswered c.answer.new.told.items c.answer.new.self (answered w c.in-Answer.call c.given-in-Answer.result.now t (call_of w c.in-Answer.call)))) c.as_slice-in-Answer.ensures c.answer.ensures.told))
