-- The index of a packet (RFC 3711, 3.3.1, 3.3.2 and 3.4), by the indices that are done of its source.
use Rattle.std.specs.Prelude.{ℕ, ◌<◌, List, Result}
use Rattle.sg_base.specs.declared.addresses.Kind.{Kind}
use Rattle.sg_base.specs.declared.addresses.Kind.TheVariants.{Rtp, Rtcp}
use Rattle.sg_base.specs.declared.faults.DropCause.{DropCause}
use Rattle.sg_replay.specs.Freshness.{freshness, highest_of}
use Rattle.sg_session.specs.Opening.{if_new}
use Rattle.sg_session.specs.Sealing.{next_after}
use Rattle.sg_session.specs.Session.{nearest_from, with_cause}
use Rattle.sg_session.specs.Stages.{after_ok}

-- the index, where it is new
abbrev pub fresh_in : ℕ → List ℕ → ℕ → Result ℕ DropCause
fresh_in window indices i = if_new i (freshness window indices i)

-- the index of a number, where it is new: of RTP the nearest one, of RTCP the number itself
abbrev pub placed : Kind → ℕ → ℕ → List ℕ → ℕ → Result ℕ DropCause
placed Rtp roc window indices n = after_ok (with_cause (nearest_from roc n (highest_of indices))) (fresh_in window indices)
placed Rtcp roc window indices n = fresh_in window indices n

-- the index at which a packet is sealed: of RTP that of its number, of RTCP the one after the highest
abbrev pub next_index : Kind → ℕ → ℕ → List ℕ → ℕ → Result ℕ DropCause
next_index Rtp roc window indices n = placed Rtp roc window indices n
next_index Rtcp roc window indices n = next_after (highest_of indices)

-- the index has the bits of its kind
abbrev pub IsIndex : Kind → ℕ → Type 0
IsIndex Rtp i = i < 281474976710656
IsIndex Rtcp i = i < 2147483648
