-- The auditor's page. What a run promises, in words of RFC 3711 alone: no state of the gateway is spoken of.
use Rattle.std.specs.Prelude.{◌≡◌, ◌<◌, ◌≤◌, ◌-◌, ◌%◌, ℕ, Bool, List, [], ◌∷◌}
use Rattle.std.specs.List.{All, AllPairs, Any, flat_map}
use Rattle.sg_base.specs.declared.addresses.Address.{Address}
use Rattle.sg_base.specs.declared.addresses.Kind.TheVariants.{Rtp}
use Rattle.sg_gateway.specs.Datagrams.{Entry}
use Rattle.sg_gateway.specs.Octets.{Octets}
use Rattle.sg_gateway.specs.Step.{Datagram}
use Rattle.sg_gateway.specs.Tags.{IsTagLength}
use Rattle.sg_gateway.specs.Twice.{IsSameUnderKey}
use Rattle.sg_gateway.specs.Used.{used_by}
use Rattle.sg_outcome.specs.declared.outcomes.Outcome.TheVariants.{Out}
use Rattle.sg_session.specs.declared.names.Direction.TheVariants.{Opening, Sealing}
use Rattle.sg_audit.specs.Reached.{NothingLost}
use Rattle.sg_audit.specs.Seen.{IsSealing, LeavesByPlain, LeavesBySecure, Open, Seen, acts_in}

-- ---- acts

-- The act opened this datagram, which is the sealing of its packet under its key, as this session seals: with its length of tag, and
-- of RTP encrypted where it encrypts. RTCP says of itself whether it is encrypted (RFC 3711, 3.4).
abbrev pub Unseals : Open → Entry → List ℕ → Type 0
Unseals o e d = (e.session.owner.direction ≡ Opening)
    × ((on : Bool) × (e.session.kind ≡ Rtp → on ≡ o.encrypts) × IsSealing e.session.kind on o.tag_len e.key.master e.key.mki e.done.ssrc e.done.index e.done.packet d)

-- the act sealed this packet, and this is the sealing, with this session's length of tag and encrypted where it encrypts
abbrev pub Seals : Open → Entry → List ℕ → List ℕ → Type 0
Seals o e p d = (e.session.owner.direction ≡ Sealing) × (e.done.packet ≡ p) × (e.encrypts ≡ o.encrypts)
    × IsSealing e.session.kind e.encrypts o.tag_len e.key.master e.key.mki e.done.ssrc e.done.index e.done.packet d

-- ---- the promises

-- A packet left by this port for the one datagram that came, by one act, under a key of a session that was open: by a plain port
-- what that datagram seals, to the session's plain side; by a secure one the sealing of what that datagram is, to its secure side.
-- Tags have 4 or 10 octets, those of RTCP 10 (4.2; RFC 4568, 6.2).
pub record LeavesFor (x : Seen) (port : ℕ) (to : Address) (octets : List ℕ) : Type 0 where
  pub at : ℕ
  pub from : Address
  pub datagram : Octets
  pub came : x.came ≡ Datagram at from datagram
  pub act : Entry
  pub one : x.acts ≡ act ∷ []
  pub session : Open
  pub is_open : Any (λ o. o ≡ session) x.sessions
  pub name : session.name ≡ act.session
  pub keyed : Any (λ k. k ≡ act.key) session.keys
  pub tags : IsTagLength session.name.kind session.tag_len
  pub alone : x.told ≡ Out port to octets ∷ []
  pub plain : 2 ≤ (port - 20000) % 4 → Unseals session act datagram.items × (act.done.packet ≡ octets) × LeavesByPlain x.told session octets
  pub secure : (port - 20000) % 4 < 2 → Seals session act datagram.items octets × LeavesBySecure x.told session octets

abbrev pub NothingForged : List Seen → Type 0
NothingForged seen = All (λ x. (port : ℕ) (to : Address) (octets : List ℕ) → Any (λ o. o ≡ Out port to octets) x.told → LeavesFor x port to octets) seen

-- no two acts are under one master key, of one kind, source and index
abbrev pub NothingTwice : List Seen → Type 0
NothingTwice seen = AllPairs (λ a b. IsSameUnderKey a b → ⊥) (acts_in seen)

-- no two acts that seal and encrypt use one block of the cipher, nor one act a block twice
abbrev pub NoBlockTwice : List Seen → Type 0
NoBlockTwice seen = AllPairs (λ a b. a ≡ b → ⊥) (flat_map used_by (acts_in seen))

pub record IsAudited (seen : List Seen) : Type 0 where
  pub forged : NothingForged seen
  pub twice : NothingTwice seen
  pub lost : NothingLost seen
  pub blocks : NoBlockTwice seen
