-- What most lemmas of this crate speak of: each name stands in the module that its line tells.
pub use Rattle.sg_agreement.proofs.AllAgreed.{offer_is}
pub use Rattle.sg_agreement.proofs.FewMedia.{described_is}
pub use Rattle.sg_agreement.specs.Answers.{AgreedAnswer, agreed_answer}
pub use Rattle.sg_agreement.specs.EachMedium.{each_active, each_kept, if_active, if_kept}
pub use Rattle.sg_agreement.specs.Generations.{keys_from, keys_of, numbered, owner_at, sessions_from, stream_session, stream_sessions}
pub use Rattle.sg_agreement.specs.Keyed.{Keyed, media_agreed, medium_agreed}
pub use Rattle.sg_agreement.specs.Keying.{Keying, Offer, OwnLines, PeerLines, PeerMessage, PeerMessages}
pub use Rattle.sg_agreement.specs.Manual.{ManualCall, manual_medium}
pub use Rattle.sg_agreement.specs.Media.{AgreedKey, Medium, Stream}
pub use Rattle.sg_agreement.specs.Messages.{AtHand}
pub use Rattle.sg_agreement.specs.Offers.{AgreedOffer, agreed_offer}
pub use Rattle.sg_agreement.specs.Refusals.{of_cs, of_message, of_psk, of_sdes, or_refusal}
pub use Rattle.sg_agreement.specs.Sides.{active_count, actives_after, is_active, other_side, side_of}
pub use Rattle.sg_agreement.specs.declared.ways.Way.TheVariants.{FromSecure, MikeyFromPlain, SdesFromPlain}
pub use Rattle.sg_agreement.specs.declared.ways.Way.{Way}
pub use Rattle.sg_base.proofs.Cases.{none_some, some_is}
pub use Rattle.sg_base.proofs.SameOctets.{same_octets_is, same_octets_true}
pub use Rattle.sg_base.specs.Keys.{Master}
pub use Rattle.sg_base.specs.Octets.{same_octets}
pub use Rattle.sg_base.specs.declared.addresses.Address.{Address}
pub use Rattle.sg_base.specs.declared.addresses.CallId.{CallId}
pub use Rattle.sg_base.specs.declared.addresses.Kind.TheVariants.{Rtcp, Rtp}
pub use Rattle.sg_base.specs.declared.addresses.Kind.{Kind}
pub use Rattle.sg_base.specs.declared.addresses.Side.TheVariants.{Plain, Secure}
pub use Rattle.sg_base.specs.declared.addresses.Side.{Side}
pub use Rattle.sg_base.specs.declared.faults.DropCause.{DropCause}
pub use Rattle.sg_base.specs.declared.faults.Refusal.{Refusal}
pub use Rattle.sg_csmap.specs.declared.sessions.StreamKeys.{StreamKeys}
pub use Rattle.sg_gateway.specs.Addressed.{IsMediumAt}
pub use Rattle.sg_gateway.specs.CallSignals.{at_hand, call_at_tick, drops_earlier, idle_call, is_idle, takes_offer, without_earlier}
pub use Rattle.sg_gateway.specs.Datagrams.{Drops, Entry, Given, Happening, arrived_at, arrived_in, call_after, given_to, put}
pub use Rattle.sg_gateway.specs.Early.{named}
pub use Rattle.sg_gateway.specs.Generations.{Settled, is_current, is_opening}
pub use Rattle.sg_gateway.specs.Octets.{Octets}
pub use Rattle.sg_gateway.specs.Order.{DifferInName, IsBefore}
pub use Rattle.sg_gateway.specs.PeersPackets.{IsOutPlain}
pub use Rattle.sg_gateway.specs.Ports.{call_at, has_port, leg_of, other_direction, port_at, port_in, sessions_at}
pub use Rattle.sg_gateway.specs.Refusing.{IsRefusal, IsRefused}
pub use Rattle.sg_gateway.specs.Runs.{Turn, after_turn, journal, turn_of, turns, turns_from, world_after}
pub use Rattle.sg_gateway.specs.Signals.{Answer, Bye, Manual, Offered, Psk, Reject, Signal, Tick, answer_to, in_old, new_call, refused, tells_ended}
pub use Rattle.sg_gateway.specs.Step.{Datagram, Event, Signalled, step}
pub use Rattle.sg_gateway.specs.World.{Books, Call, World, and_call, call_of, empty, find_call, free_slot, is_full, same_id, with_call, without_call}
pub use Rattle.sg_kdf.specs.SessionKeys.{session_keys}
pub use Rattle.sg_mikey.specs.declared.message.CsEntry.{CsEntry}
pub use Rattle.sg_mikey.specs.declared.message.Message.{Message}
pub use Rattle.sg_mikey.specs.declared.message.Tgk.{Tgk}
pub use Rattle.sg_outcome.specs.declared.outcomes.Outcome.TheVariants.{Dropped, Live, Made, Out, Refused}
pub use Rattle.sg_outcome.specs.declared.outcomes.Outcome.{Outcome}
pub use Rattle.sg_psk.specs.Pairs.{is_with, pair_with}
pub use Rattle.sg_psk.specs.declared.pairs.Pair.{Pair}
pub use Rattle.sg_sdes.specs.declared.lines.CryptoLine.{CryptoLine}
pub use Rattle.sg_sdp.specs.Reading.{description_of}
pub use Rattle.sg_sdp.specs.declared.medium.Profile.{Profile}
pub use Rattle.sg_session.proofs.Inversions.{after_ok_is, ok_is, stop_if_is}
pub use Rattle.sg_session.proofs.Lists.{any_cases, any_here, any_none, any_there, any_weaker, both, each_append, each_at_this, each_filter, each_flat_map}
pub use Rattle.sg_session.proofs.Lists.{each_map, each_of, each_weaker}
pub use Rattle.sg_session.proofs.Taking.{opened_new, seals_is}
pub use Rattle.sg_session.specs.Halves.{half_of}
pub use Rattle.sg_session.specs.Opening.{Taken, opens}
pub use Rattle.sg_session.specs.Reach.{IsSound, Sealed, text_in}
pub use Rattle.sg_session.specs.Ring.{Installed}
pub use Rattle.sg_session.specs.Sealing.{datagram_of}
pub use Rattle.sg_session.specs.Session.{Done, Key, Session, same_name, with_done}
pub use Rattle.sg_session.specs.Stages.{after_ok}
pub use Rattle.sg_session.specs.declared.names.Direction.TheVariants.{Opening, Sealing}
pub use Rattle.sg_session.specs.declared.names.Direction.{Direction}
pub use Rattle.sg_session.specs.declared.names.Name.{Name}
pub use Rattle.sg_session.specs.declared.names.Owner.{Owner}
pub use Rattle.std.proofs.lemmas.List.Elements.{All-from_recursion, recursion_from_All}
pub use Rattle.std.proofs.lemmas.List.{append-nil}
pub use Rattle.std.specs.List.{All, AllByRecursion, AllPairs, Any, Contains, filter, flat_map}
