-- What a side answers, by the definitions of one session.
use Rattle.std.specs.Prelude.{ℕ, Bool, not, List, Result, Ok, Err}
use Rattle.sg_base.specs.declared.addresses.Kind.{Kind}
use Rattle.sg_base.specs.declared.faults.DropCause.{DropCause}
use Rattle.sg_base.specs.declared.faults.DropCause.TheVariants.{BadTag, StreamsFull}
use Rattle.sg_keys.specs.Live.{Live}
use Rattle.sg_session.specs.Opening.{Taken}
use Rattle.sg_session.specs.Sealing.{datagram_of}
use Rattle.sg_session.specs.Session.{Done, Session, indices_of}
use Rattle.sg_session.specs.Stages.{after_ok, stop_if}
use Rattle.sg_states.specs.Choosing.{chosen_to_seal}
use Rattle.sg_states.specs.Inbound.{Heading, packet_at}
use Rattle.sg_states.specs.Outbound.{Outgoing, datagram_at}
use Rattle.sg_states.specs.Parts.{tag_fits_at}
use Rattle.sg_states.specs.Placing.{next_index, placed}
use Rattle.sg_media.specs.declared.inbound.Opened.{Opened}
use Rattle.sg_media.specs.declared.outbound.Sealed.{Sealed}
use Rattle.sg_media.specs.Standing.{room_in}

-- what is handed out of a datagram: the packet that it opens as, or the datagram and the first cause
abbrev pub opened_of : Kind → List ℕ → Result Taken DropCause → Result Opened (List ℕ × DropCause)
opened_of kind d (Ok t) = Ok (record { pad = t.done.packet; kind = kind; ssrc = t.done.ssrc; index = t.done.index; key = t.done.key })
opened_of kind d (Err cause) = Err (d, cause)

-- what is handed out of a packet: its datagram, or the packet and the first cause
abbrev pub sealed_of : Session → List ℕ → Result Taken DropCause → Result Sealed (List ℕ × DropCause)
sealed_of s p (Ok t) = Ok (record { pad = datagram_of s t; kind = s.name.kind; ssrc = t.done.ssrc; index = t.done.index; key = t.done.key })
sealed_of s p (Err cause) = Err (p, cause)

-- the entry of what is opened under a key at an index
abbrev pub entry_at : Heading → Live → ℕ → Done
entry_at h key i = record { ssrc = h.head.ssrc; index = i; key = key.number; packet = packet_at h h.head.encrypted key.half i }

-- what is opened under a key, where the source may have room
abbrev pub opened_at : Heading → Live → Bool → Result ℕ DropCause → Result Done DropCause
opened_at h key room r = after_ok r (λ i.
    stop_if (not (tag_fits_at h.kind h.mki_len h.tag_len i h.pad key.half.auth)) BadTag (stop_if (not room) StreamsFull (Ok (entry_at h key i))))

abbrev pub answer_at : Kind → List ℕ → Result Done DropCause → Result Opened (List ℕ × DropCause)
answer_at kind d (Ok done) = Ok (record { pad = done.packet; kind = kind; ssrc = done.ssrc; index = done.index; key = done.key })
answer_at kind d (Err cause) = Err (d, cause)

-- among streams in which this is done
abbrev pub opened_among : Heading → Live → ℕ → ℕ → List Done → Result Done DropCause
opened_among h key roc window done =
    opened_at h key (room_in done h.head.ssrc) (placed h.kind roc window (indices_of done h.head.ssrc) h.head.number)

-- the entry of what was opened
abbrev pub entry_of : Opened → Done
entry_of o = record { ssrc = o.ssrc; index = o.index; key = o.key; packet = o.pad }

-- what is sealed of a packet: its datagram and its entry
abbrev pub Closed : Type 0
Closed = List ℕ × Done

abbrev pub closed_at : Outgoing → ℕ → Live → ℕ → Closed
closed_at h tag_len key i = (
  datagram_at (record { headed = h; key = 0; number = 0; index = i }) key h.head.encrypted tag_len,
  record { ssrc = h.head.ssrc; index = i; key = key.number; packet = h.pad },
)

-- what is sealed of a packet whose source has room
abbrev pub sealed_at : Outgoing → List Live → ℕ → Result ℕ DropCause → Result Closed DropCause
sealed_at h keys tag_len r = after_ok (chosen_to_seal keys) (λ key. after_ok r (λ i. Ok (closed_at h tag_len key i)))

abbrev pub roomed : Bool → Result Closed DropCause → Result Closed DropCause
roomed room r = stop_if (not room) StreamsFull r

abbrev pub told_of : Kind → List ℕ → Result Closed DropCause → Result Sealed (List ℕ × DropCause)
told_of kind p (Ok x) = Ok (record { pad = x.0; kind = kind; ssrc = x.1.ssrc; index = x.1.index; key = x.1.key })
told_of kind p (Err cause) = Err (p, cause)

-- among streams in which this is done, by the keys with this tag
abbrev pub closed_among : Outgoing → List Live → ℕ → ℕ → ℕ → List Done → Result Closed DropCause
closed_among h keys tag_len roc window done = sealed_at h keys tag_len (next_index h.kind roc window (indices_of done h.head.ssrc) h.head.number)

-- the entry of what was sealed of a packet
abbrev pub entry_out : List ℕ → Sealed → Done
entry_out p o = record { ssrc = o.ssrc; index = o.index; key = o.key; packet = p }
