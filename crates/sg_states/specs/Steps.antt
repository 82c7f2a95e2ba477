-- Opening and sealing by the definitions that the states' clauses cite, step by step and in their order.
use Rattle.std.specs.Prelude.{ℕ, not, List, Result, Ok, Err}
use Rattle.sg_base.specs.declared.faults.DropCause.{DropCause}
use Rattle.sg_base.specs.declared.faults.DropCause.TheVariants.{BadTag, SsrcUnknown, StreamsFull}
use Rattle.sg_keys.specs.Live.{Live}
use Rattle.sg_keys.specs.Stands.{live}
use Rattle.sg_session.specs.Opening.{Head, Taken, mki_len}
use Rattle.sg_session.specs.Sealing.{datagram_of}
use Rattle.sg_session.specs.Session.{Done, Session, admits, has_room, indices_of}
use Rattle.sg_session.specs.Stages.{after_ok, stop_if}
use Rattle.sg_states.specs.Choosing.{chosen_for, chosen_to_seal}
use Rattle.sg_states.specs.Inbound.{Heading, packet_at}
use Rattle.sg_states.specs.Outbound.{closed, encrypted_at}
use Rattle.sg_states.specs.Parts.{heading, heading_out, mki_of, tag_fits_at}
use Rattle.sg_states.specs.Placing.{next_index, placed}

-- a datagram of the session with its head
abbrev pub heading_in : Session → List ℕ → Head → Heading
heading_in s d head = record { pad = d; kind = s.name.kind; mki_len = mki_len s; tag_len = s.tag_len; head = head }

-- ---- opening
-- the tag under the chosen key at the index that was found, and then the packet
abbrev pub tag_step : Session → List ℕ → Head → Live → ℕ → Result Done DropCause
tag_step s d h key i =
    stop_if (not (tag_fits_at s.name.kind (mki_len s) s.tag_len i d key.half.auth)) BadTag
    (stop_if (not (has_room s h.ssrc)) StreamsFull
    (Ok (record { ssrc = h.ssrc; index = i; key = key.number; packet = packet_at (heading_in s d h) h.encrypted key.half i })))

-- the index, by the indices that are done of the source
abbrev pub place_step : Session → List ℕ → Head → Live → Result Done DropCause
place_step s d h key = after_ok (placed s.name.kind s.roc s.window (indices_of s.done h.ssrc) h.number) (tag_step s d h key)

-- the source, and the key by the MKI
abbrev pub key_step : Session → List ℕ → Head → Result Done DropCause
key_step s d h =
    stop_if (not (admits s h.ssrc)) SsrcUnknown
    (after_ok (chosen_for (live s) (mki_of (mki_len s) s.tag_len d)) (place_step s d h))

-- the head first
abbrev pub opening_steps : Session → List ℕ → Result Done DropCause
opening_steps s d = after_ok (heading s.name.kind s.encrypts (mki_len s) s.tag_len d) (key_step s d)

abbrev pub done_of : Result Taken DropCause → Result Done DropCause
done_of (Ok t) = Ok t.done
done_of (Err cause) = Err cause

-- ---- sealing
abbrev pub text_at : Session → List ℕ → Head → Live → ℕ → List ℕ
text_at s p h key i = closed s.name.kind key.half h.encrypted s.tag_len i key.mki (encrypted_at (record { pad = p; kind = s.name.kind; head = h }) h.encrypted key.half i)

-- the datagram of a packet that has its key and its index, and what is then done
abbrev pub seal_step : Session → List ℕ → Head → Live → ℕ → Result (List ℕ × Done) DropCause
seal_step s p h key i = Ok (text_at s p h key i, record { ssrc = h.ssrc; index = i; key = key.number; packet = p })

-- the index
abbrev pub number_step : Session → List ℕ → Head → Live → Result (List ℕ × Done) DropCause
number_step s p h key = after_ok (next_index s.name.kind s.roc s.window (indices_of s.done h.ssrc) h.number) (seal_step s p h key)

-- the source, its room, and the key
abbrev pub source_step : Session → List ℕ → Head → Result (List ℕ × Done) DropCause
source_step s p h =
    stop_if (not (admits s h.ssrc)) SsrcUnknown
    (stop_if (not (has_room s h.ssrc)) StreamsFull
    (after_ok (chosen_to_seal (live s)) (number_step s p h)))

-- the head first
abbrev pub sealing_steps : Session → List ℕ → Result (List ℕ × Done) DropCause
sealing_steps s p = after_ok (heading_out s.name.kind s.encrypts p) (source_step s p)

-- the datagram and what is done, or the cause
abbrev pub text_of : Session → Result Taken DropCause → Result (List ℕ × Done) DropCause
text_of s (Ok t) = Ok (datagram_of s t, t.done)
text_of s (Err cause) = Err cause
