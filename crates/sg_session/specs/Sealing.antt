-- Sealing a packet (RFC 3711, 3.3 and 3.4), with every cause in its one order.
use Rattle.std.specs.Prelude.{ℕ, ◌+◌, not, nat_lt, if◌then◌else◌, List, [], ◌∷◌, Option, Some, None, Result, Ok, Err}
use Rattle.sg_base.specs.declared.addresses.Kind.{Kind}
use Rattle.sg_base.specs.declared.addresses.Kind.TheVariants.{Rtp, Rtcp}
use Rattle.sg_base.specs.declared.faults.DropCause.{DropCause}
use Rattle.sg_base.specs.declared.faults.DropCause.TheVariants as cause
use Rattle.sg_session.specs.Opening.{Head, Taken, of_rtp, of_rtcp, fresh_index, half_in}
use Rattle.sg_session.specs.Sealed.{sealed_text}
use Rattle.sg_session.specs.Session.{Key, Session, highest_in, index_in, count_of, is_live, admits, has_room}
use Rattle.sg_session.specs.Stages.{after_ok, stop_if}
use Rattle.sg_rtp.specs.Heads.{rtp_head, rtcp_head}

abbrev pub head_out_of_kind : Kind → Session → List ℕ → Result Head DropCause
head_out_of_kind Rtp s p = of_rtp s.encrypts (rtp_head p)
head_out_of_kind Rtcp s p = of_rtcp 0 s.encrypts (rtcp_head p)

-- the head of a plain packet
abbrev pub head_out : Session → List ℕ → Result Head DropCause
head_out s p = head_out_of_kind s.name.kind s p

-- the first key that is live; where none is, the last is told
abbrev pub sealing_key : Session → List Key → Result Key DropCause
sealing_key s [] = Err cause.MkiUnknown
sealing_key s (k ∷ []) = if is_live s k then Ok k else Err (cause.KeySpent k.number (count_of s k))
sealing_key s (k ∷ l ∷ ks) = if is_live s k then Ok k else sealing_key s (l ∷ ks)

-- the next index of an RTCP stream: 0, and then one more each time, in 31 bits (3.4)
abbrev pub next_after : Option ℕ → Result ℕ DropCause
next_after None = Ok 0
next_after (Some h) = if nat_lt h 2147483647 then Ok (h + 1) else Err cause.RtcpIndexSpent

-- an RTP packet keeps its number, which is sealed once
abbrev pub number_of_kind : Kind → Session → Head → Result ℕ DropCause
number_of_kind Rtp s h = after_ok (index_in s h.ssrc h.number) (fresh_index s h.ssrc)
number_of_kind Rtcp s h = next_after (highest_in s h.ssrc)

abbrev pub number_out : Session → Head → Result ℕ DropCause
number_out s h = number_of_kind s.name.kind s h

-- the first cause that holds, or what is sealed
abbrev pub seals : Session → List ℕ → Result Taken DropCause
seals s p =
    after_ok (head_out s p) (λ h.
    stop_if (not (admits s h.ssrc)) cause.SsrcUnknown
    (stop_if (not (has_room s h.ssrc)) cause.StreamsFull
    (after_ok (sealing_key s s.keys) (λ k.
    after_ok (number_out s h) (λ i.
    Ok (record { key = k; done = record { ssrc = h.ssrc; index = i; key = k.number; packet = p } }))))))

-- the datagram of what was sealed
abbrev pub datagram_of : Session → Taken → List ℕ
datagram_of s t = sealed_text s.name.kind (half_in s t.key) s.encrypts s.tag_len t.key.mki t.done.ssrc t.done.index t.done.packet
