-- Opening and sealing by what a side shows, step by step (RFC 3711, 3.3 and 3.4), whatever its session keys
-- come from. `done` is what the side's streams stand for.
use Rattle.std.specs.Prelude.{◌≡◌, ℕ, not, List, Result}
use Rattle.sg_base.specs.declared.faults.DropCause.{DropCause}
use Rattle.sg_base.specs.declared.faults.DropCause.TheVariants.{SsrcUnknown}
use Rattle.sg_keys.specs.Live.{mki_len, spent}
use Rattle.sg_session.specs.Opening.{Head}
use Rattle.sg_session.specs.Session.{Done, is_admitted}
use Rattle.sg_session.specs.Stages.{after_ok, stop_if}
use Rattle.sg_states.specs.Choosing.{chosen_for}
use Rattle.sg_states.specs.Inbound.{Heading}
use Rattle.sg_states.specs.Outbound.{Outgoing}
use Rattle.sg_states.specs.Parts.{heading, heading_out, mki_of}
use Rattle.sg_media.specs.Answers.{Closed, closed_among, opened_among, roomed}
use Rattle.sg_media.specs.Sides.{SideValue}
use Rattle.sg_media.specs.Standing.{StreamsStand, StreamsTake, room_in}

-- the side's streams stand for what is done
abbrev pub HasDone : SideValue → List Done → Type 0
HasDone v done = StreamsStand v.streams v.roc v.window done

-- a datagram with its head
abbrev pub heading_at : SideValue → List ℕ → Head → Heading
heading_at v d head = record { pad = d; kind = v.kind; mki_len = mki_len v.keys; tag_len = v.tag_len; head = head }

-- the source, the key by the MKI, and then the index, the tag and the packet
abbrev pub opened_headed : SideValue → List Done → Heading → Result Done DropCause
opened_headed v done h =
    stop_if (not (is_admitted v.admit done h.head.ssrc)) SsrcUnknown
    (after_ok (chosen_for v.keys (mki_of h.mki_len h.tag_len h.pad)) (λ key. opened_among h key v.roc v.window done))

-- what the side opens of a datagram, or the first cause
abbrev pub side_opens : SideValue → List Done → List ℕ → Result Done DropCause
side_opens v done d = after_ok (heading v.kind v.encrypts (mki_len v.keys) v.tag_len d) (λ head. opened_headed v done (heading_at v d head))

-- a plain packet with its head
abbrev pub outgoing_at : SideValue → List ℕ → Head → Outgoing
outgoing_at v p head = record { pad = p; kind = v.kind; head = head }

-- the source, its room, the key, and then the index and the datagram
abbrev pub sealed_headed : SideValue → List Done → Outgoing → Result Closed DropCause
sealed_headed v done h =
    stop_if (not (is_admitted v.admit done h.head.ssrc)) SsrcUnknown
    (roomed (room_in done h.head.ssrc) (closed_among h v.keys v.tag_len v.roc v.window done))

-- what the side seals of a packet, or the first cause
abbrev pub side_seals : SideValue → List Done → List ℕ → Result Closed DropCause
side_seals v done p = after_ok (heading_out v.kind v.encrypts p) (λ head. sealed_headed v done (outgoing_at v p head))

-- the side afterwards: the entry's key is counted, the streams stand for this entry too, and all else stays
pub record SideTakes (old new : SideValue) (entry : Done) : Type 0 where
  pub rest : new ≡ record old { keys = spent entry.key old.keys; streams = new.streams }
  pub streams : StreamsTake old.streams new.streams old.roc old.window entry
