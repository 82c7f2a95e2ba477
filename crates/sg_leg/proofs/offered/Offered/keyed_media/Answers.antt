use Rattle.std.proofs.Common.{◌∙◌, length, map, Ok, sym, ap, arith, subst}
use Rattle.std.proofs.lemmas.Grind.{common_steps}
use Rattle.std.specs.List.{AllByRecursion}
use Rattle.sg_agreement.specs.Answers.{answered_by}
use Rattle.sg_agreement.specs.EachMedium.{each_kept}
use Rattle.sg_agreement.specs.MessageAnswers.{keyed_by_message, own_streams}
use Rattle.sg_leg.specs.Answering.{Tells}
use Rattle.sg_leg.specs.Open.{IsBundleIf}
use Rattle.sg_leg.specs.Pairs.{EachPair}
use Rattle.sg_leg.specs.Replying.{HaveFewKeys}
use Rattle.sg_leg.specs.Values.{OfferedValue}
use Rattle.sg_leg.proofs.Kept.{all_few, bundle_few, bundles_are, bundles_long, lines_long, own_lines_long, sent_few}
use Rattle.sg_leg.proofs.offered.Offered.keyed_media.Goals as goal

pub answered_by_peer_lines-media-requires-clause-lines : goal.answered_by_peer_lines-media-requires-clause-lines
answered_by_peer_lines-media-requires-clause-lines c =
    ap length c.as_slice.ensures
    ∙ lines_long c.args.psks.now c.args.self.now c.requires.open.0 c.requires.open.1 c.in-PeerLines.lines (ap (λ (o : OfferedValue). o.keying) (sym c.self.view_is) ∙ c.in-PeerLines.is)
    ∙ sym c.requires.answers ∙ ap length (sym c.as_slice-media.ensures)

pub answered_by_own_lines-media-requires-clause-lines : goal.answered_by_own_lines-media-requires-clause-lines
answered_by_own_lines-media-requires-clause-lines c =
    ap length c.as_slice-in-OwnLines.ensures
    ∙ own_lines_long c.args.psks.now c.args.self.now c.requires.open.0 c.requires.open.1 c.in-OwnLines.lines (ap (λ (o : OfferedValue). o.keying) (sym c.self.view_is) ∙ c.in-OwnLines.is)
    ∙ sym c.requires.answers ∙ ap length (sym c.as_slice-media.ensures)

pub by_session_message-requires-clause-keys : goal.by_session_message-requires-clause-keys
by_session_message-requires-clause-keys c =
    bundle_few c.args.psks.now c.args.self.now c.requires.open.0 c.requires.open.1 c.crypto_lines_are_read_again.ensures.valid c.message_law.ensures.found
    c.in-PeerMessage.bundle (ap (λ (o : OfferedValue). o.keying) (sym c.self.view_is) ∙ c.in-PeerMessage.is)

pub by_media_messages-requires-clause-known : goal.by_media_messages-requires-clause-known
by_media_messages-requires-clause-known c =
    let p = bundles_are c.args.psks.now c.args.self.now c.requires.open.0 c.requires.open.1 c.in-PeerMessages.bundles (ap (λ (o : OfferedValue). o.keying) (sym c.self.view_is) ∙ c.in-PeerMessages.is) in
    (p.0, subst (λ bs. EachPair (IsBundleIf c.args.psks.now) bs p.0) (sym c.as_slice-in-PeerMessages.ensures) p.2)

pub by_media_messages-requires-clause-keys : goal.by_media_messages-requires-clause-keys
by_media_messages-requires-clause-keys c =
    subst (AllByRecursion HaveFewKeys) (sym c.as_slice-in-PeerMessages.ensures)
    (all_few c.args.psks.now c.args.self.now c.requires.open.0 c.requires.open.1 c.crypto_lines_are_read_again.ensures.valid c.message_law.ensures.found
    c.in-PeerMessages.bundles (ap (λ (o : OfferedValue). o.keying) (sym c.self.view_is) ∙ c.in-PeerMessages.is))

pub by_media_messages-requires-clause-bundles : goal.by_media_messages-requires-clause-bundles
by_media_messages-requires-clause-bundles c =
    ap length c.as_slice-in-PeerMessages.ensures
    ∙ bundles_long c.args.psks.now c.args.self.now c.requires.open.0 c.requires.open.1 c.in-PeerMessages.bundles (ap (λ (o : OfferedValue). o.keying) (sym c.self.view_is) ∙ c.in-PeerMessages.is)
    ∙ sym c.requires.answers ∙ ap length (sym c.as_slice-media.ensures)

pub by_response-requires-clause-known : goal.by_response-requires-clause-known
by_response-requires-clause-known c =
    sent_few c.args.psks.now c.args.self.now c.requires.open.0 c.requires.open.1 c.crypto_lines_are_read_again.ensures.valid c.message_law.ensures.found
    c.in-OwnMessage.waiting (ap (λ (o : OfferedValue). o.keying) (sym c.self.view_is) ∙ c.in-OwnMessage.is)

pub returns-in-Ok-by_media_messages : goal.returns-in-Ok-by_media_messages
returns-in-Ok-by_media_messages c = λ offer is.
    let p = bundles_are c.args.psks.now c.args.self.now offer is c.in-PeerMessages.bundles (ap (λ (o : OfferedValue). o.keying) (sym c.self.view_is) ∙ c.in-PeerMessages.is) in
    subst (λ k. Tells c.of_media-in-Ok-by_media_messages.result (answered_by offer c.args.noise.now c.args.answer.now c.args.active.now k)) (sym p.1)
    (c.of_media-in-Ok-by_media_messages.ensures (each_kept (λ k x n. Ok (keyed_by_message x n)) 0 c.args.active.now (map own_streams p.0) c.args.answer.now.media)
    ((λ i. each_kept (λ k x n. Ok (keyed_by_message x n)) 0 c.args.active.now (map own_streams p.0) (sym c.as_slice-media.ensures i))
    ∙ c.in-Ok-by_media_messages.ensures p.0 (subst (λ bs. EachPair (IsBundleIf c.args.psks.now) bs p.0) (sym c.as_slice-in-PeerMessages.ensures) p.2)))

pub returns-in-PeerLines : goal.returns-in-PeerLines
returns-in-PeerLines c = λ offer is. grind (arith, common_steps)

pub returns-in-OwnLines : goal.returns-in-OwnLines
returns-in-OwnLines c = λ offer is. grind (arith, common_steps)

pub returns-in-OwnMessage : goal.returns-in-OwnMessage
returns-in-OwnMessage c = λ offer is. grind (arith, common_steps)

pub returns-in-Ok : goal.returns-in-Ok
returns-in-Ok c = λ offer is. grind (arith, common_steps)
