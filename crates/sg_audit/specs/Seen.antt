-- What the auditor sees of a run, and what a sealing is.
use Rattle.std.specs.Prelude.{◌≡◌, ◌⊎◌, ℕ, ◌+◌, Bool, List, [], ◌∷◌, map}
use Rattle.std.specs.List.{flat_map}
use Rattle.sg_base.specs.Keys.{Master}
use Rattle.sg_base.specs.declared.addresses.Address.{Address}
use Rattle.sg_base.specs.declared.addresses.CallId.{CallId}
use Rattle.sg_base.specs.declared.addresses.Kind.{Kind}
use Rattle.sg_base.specs.declared.addresses.Kind.TheVariants.{Rtp, Rtcp}
use Rattle.sg_base.specs.declared.sources.Admit.{Admit}
use Rattle.sg_kdf.specs.SessionKeys.{session_keys}
use Rattle.sg_gateway.specs.Datagrams.{Entry}
use Rattle.sg_gateway.specs.Legs.{plain_port_of, secure_port_of}
use Rattle.sg_gateway.specs.Step.{Event}
use Rattle.sg_gateway.specs.World.{Call, World}
use Rattle.sg_outcome.specs.declared.outcomes.Outcome.{Outcome}
use Rattle.sg_outcome.specs.declared.outcomes.Outcome.TheVariants.{Out}
use Rattle.sg_passages.specs.Passages.{Passage}
use Rattle.sg_session.specs.Halves.{half_of}
use Rattle.sg_session.specs.Sealed.{sealed_text}
use Rattle.sg_session.specs.Session.{Key, Session}
use Rattle.sg_session.specs.declared.names.Name.{Name}

-- A session that is open: the id of its call, its name (number of the call, medium, generation, direction and kind) and its keys; its
-- replay window, its starting rollover, which sources it admits, whether it encrypts RTP, and the octets of its tags; its call's
-- slot, from which its ports come; and the addresses of its two ends.
pub record Open : Type 0 where
  pub id : CallId
  pub name : Name
  pub keys : List Key
  pub window : ℕ
  pub roc : ℕ
  pub admit : Admit
  pub encrypts : Bool
  pub tag_len : ℕ
  pub slot : ℕ
  pub secure : Address
  pub plain : Address

-- One thing that came, the sessions that were open then, what is told of it, and what was opened or sealed by it.
pub record Seen : Type 0 where
  pub came : Event
  pub sessions : List Open
  pub told : List Outcome
  pub acts : List Entry

abbrev pub acts_in : List Seen → List Entry
acts_in seen = flat_map (λ x. x.acts) seen

-- The datagram is the sealing (RFC 3711, 3.1 and 3.4) of this packet under the session keys of this master key, at this source and
-- index, with this MKI and a tag of so many octets.
abbrev pub IsSealing : Kind → Bool → ℕ → Master → List ℕ → ℕ → ℕ → List ℕ → List ℕ → Type 0
IsSealing kind on tag_len master mki ssrc index packet datagram =
    datagram ≡ sealed_text kind (half_of kind (session_keys master)) on tag_len mki ssrc index packet

-- The packet is told and nothing else. RTP leaves by this port to this address; RTCP by the next port to the next one's
-- (RFC 3550, 11), or as RTP does (RFC 5761; whether the two share a port isn't asked).
abbrev pub LeavesBy : List Outcome → Kind → ℕ → Address → List ℕ → Type 0
LeavesBy told Rtp port to octets = told ≡ Out port to octets ∷ []
LeavesBy told Rtcp port to octets = (told ≡ Out (port + 1) (record { ip = to.ip; port = to.port + 1 }) octets ∷ []) ⊎ (told ≡ Out port to octets ∷ [])

-- it leaves from a session's plain leg, and from its secure one
abbrev pub LeavesByPlain : List Outcome → Open → List ℕ → Type 0
LeavesByPlain told o octets = LeavesBy told o.name.kind (plain_port_of Rtp o.slot o.name.owner.medium) o.plain octets

abbrev pub LeavesBySecure : List Outcome → Open → List ℕ → Type 0
LeavesBySecure told o octets = LeavesBy told o.name.kind (secure_port_of Rtp o.slot o.name.owner.medium) o.secure octets

-- ---- of a passage

abbrev pub open_of : Call → Session → Open
open_of c s = record {
  id = c.id;
  name = s.name;
  keys = s.keys;
  window = s.window;
  roc = s.roc;
  admit = s.admit;
  encrypts = s.encrypts;
  tag_len = s.tag_len;
  slot = c.slot;
  secure = s.secure;
  plain = s.plain;
}

abbrev pub open_in : World → List Open
open_in w = flat_map (λ c. map (open_of c) c.sessions) w.calls

abbrev pub seen_of : Passage → Seen
seen_of p = record { came = p.turn.event; sessions = open_in p.turn.before; told = p.told; acts = p.turn.entries }
