-- The calls of the demonstration, with their peers.
use Rattle.std.specs.Prelude.{ℕ, ◌+◌, ◌/◌, ◌^◌, not, List, [], ◌∷◌, Option, Some, None, Result, Ok, Err}
use Rattle.sg_base.specs.Keys.{Master}
use Rattle.sg_base.specs.Suites.{tag_len_of}
use Rattle.sg_base.specs.declared.addresses.Address.{Address}
use Rattle.sg_base.specs.declared.addresses.Kind.TheVariants.{Rtp}
use Rattle.sg_base.specs.declared.faults.DropCause.{DropCause}
use Rattle.sg_gateway.specs.Ports.{port_at}
use Rattle.sg_kdf.specs.SessionKeys.{is_raw}
use Rattle.sg_peer.specs.Peers.{peer_key}
use Rattle.sg_session.specs.OneSession.{after}
use Rattle.sg_session.specs.Opening.{Taken, opens}
use Rattle.sg_session.specs.Sealing.{datagram_of, seals}
use Rattle.sg_session.specs.Session.{Session}
use Rattle.sg_session.specs.declared.names.Direction.{Direction}
use Rattle.sg_session.specs.declared.names.Direction.TheVariants.{Opening, Sealing}
use Rattle.sg_base.specs.declared.sources.Admit.TheVariants.{One}
use Rattle.sg_demo.specs.Packets.{packet}

-- the addresses of each call: where its protected side and its plain side are
abbrev pub secure_address : Address
secure_address = record { ip = 127 ∷ 0 ∷ 0 ∷ 1 ∷ []; port = 40000 }

abbrev pub plain_address : Address
plain_address = record { ip = 127 ∷ 0 ∷ 0 ∷ 1 ∷ []; port = 41000 }

-- the number of the first packet of each side
abbrev pub first_number : ℕ
first_number = 65400

-- a peer's session of RTP in which nothing is done, under a key that has no MKI, for this source alone
abbrev pub peer_session : Direction → Master → ℕ → ℕ → Session
peer_session direction master ssrc window = record {
  name = record { owner = record { call = ssrc; medium = 0; generation = 0; direction = direction }; kind = Rtp };
  keys = peer_key master ∷ [];
  roc = first_number / 2 ^ 16;
  window = window;
  admit = One ssrc;
  encrypts = not (is_raw master.suite);
  tag_len = tag_len_of master.suite;
  secure = secure_address;
  plain = plain_address;
  done = [];
}

-- A call that was made: its source, its slot, the session in which its peer seals and the one in which
-- it opens, the numbers of the next packets of the peer and of the plain side, and what the peer sealed last.
pub record Caller : Type 0 where
  pub ssrc : ℕ
  pub slot : ℕ
  pub sealing : Session
  pub opening : Session
  pub next : ℕ
  pub next_plain : ℕ
  pub last : Option (List ℕ)

-- the ports of a call at which SRTP and plain RTP come
abbrev pub secure_port : Caller → ℕ
secure_port c = port_at c.slot 0 0

abbrev pub plain_port : Caller → ℕ
plain_port c = port_at c.slot 0 2

-- the call of this number in this slot, whose peer seals under the first key and opens under the second
abbrev pub new_caller : ℕ → ℕ → Master → Master → Caller
new_caller number slot from_peer to_peer = record {
  ssrc = number;
  slot = slot;
  sealing = peer_session Sealing from_peer number 1024;
  opening = peer_session Opening to_peer number 64;
  next = first_number;
  next_plain = first_number;
  last = None;
}

-- ---- the peer seals

-- the peer's next packet, sealed
abbrev pub next_sealed : Caller → Result Taken DropCause
next_sealed c = seals c.sealing (packet c.ssrc c.next)

abbrev pub datagrams_of : Session → Result Taken DropCause → List (List ℕ)
datagrams_of s (Ok t) = datagram_of s t ∷ []
datagrams_of s (Err cause) = []

-- the datagram that the peer sends next; none where its packet isn't sealed
abbrev pub next_datagram : Caller → List (List ℕ)
next_datagram c = datagrams_of c.sealing (next_sealed c)

abbrev pub last_after : Session → Option (List ℕ) → Result Taken DropCause → Option (List ℕ)
last_after s last (Ok t) = Some (datagram_of s t)
last_after s last (Err cause) = last

-- the call after its peer has sealed
abbrev pub after_sealing : Caller → Caller
after_sealing c = record c {
  sealing = after c.sealing (next_sealed c);
  next = c.next + 1;
  last = last_after c.sealing c.last (next_sealed c);
}

-- ---- the plain side

abbrev pub next_plain_packet : Caller → List ℕ
next_plain_packet c = packet c.ssrc c.next_plain

abbrev pub after_plain : Caller → Caller
after_plain c = record c { next_plain = c.next_plain + 1 }

-- ---- the peer opens

-- the call after its peer has tried to open a datagram
abbrev pub after_opening : List ℕ → Caller → Caller
after_opening d c = record c { opening = after c.opening (opens c.opening d) }
