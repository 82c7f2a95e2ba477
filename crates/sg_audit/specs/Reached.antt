-- The auditor's page, third promise: nothing within reach is lost. What a session has done is read off the acts before.
use Rattle.std.specs.Prelude.{◌≡◌, ◌⊎◌, ◌<◌, ◌≤◌, ◌+◌, ◌/◌, ◌==◌, ℕ, Bool, List, [], ◌∷◌, ◌++◌, length, count_by}
use Rattle.std.specs.List.{AllByRecursion, Any}
use Rattle.sg_base.specs.declared.addresses.Address.{Address}
use Rattle.sg_base.specs.declared.addresses.Kind.{Kind}
use Rattle.sg_base.specs.declared.addresses.Kind.TheVariants.{Rtp, Rtcp}
use Rattle.sg_gateway.specs.Datagrams.{Entry}
use Rattle.sg_gateway.specs.Legs.{plain_port_of, secure_port_of}
use Rattle.sg_gateway.specs.Newness.{IsAdmittedBy}
use Rattle.sg_gateway.specs.Octets.{Octets}
use Rattle.sg_gateway.specs.Step.{Datagram}
use Rattle.sg_session.specs.Reach.{HasHeadAt}
use Rattle.sg_session.specs.Session.{Done, Key}
use Rattle.sg_session.specs.declared.names.Direction.TheVariants.{Opening, Sealing}
use Rattle.sg_audit.specs.Seen.{IsSealing, LeavesByPlain, LeavesBySecure, Open, Seen}
use Rattle.sg_conduct.specs.Standing.{done_by}

-- ---- by what was done in the session before

-- fewer packets are done under the key than its life (RFC 3711, 9.2)
abbrev pub IsLive : List Done → Key → Type 0
IsLive past k = count_by (λ d. d.key == k.number) past < k.life

-- the index isn't done, and none that is done of the source is a window or more ahead of it (3.3.2)
abbrev pub IsNew : ℕ → List Done → ℕ → ℕ → Type 0
IsNew window past ssrc index = AllByRecursion (λ d. d.ssrc ≡ ssrc → (¬ d.index ≡ index) × (d.index < index + window)) past

abbrev pub IsFirstOf : List Done → ℕ → Type 0
IsFirstOf past ssrc = AllByRecursion (λ d. ¬ d.ssrc ≡ ssrc) past

-- less than 2^15 ahead of one that is done of the source; where none is, in the block of the starting rollover (3.3.1)
abbrev pub IsClose : ℕ → List Done → ℕ → ℕ → Type 0
IsClose roc past ssrc index = Any (λ d. (d.ssrc ≡ ssrc) × (index < d.index + 32768)) past ⊎ (IsFirstOf past ssrc × (index / 65536 ≡ roc))

-- one more than the highest that is done of the source, and 0 where none is (3.4)
abbrev pub Follows : List Done → ℕ → ℕ → Type 0
Follows past ssrc index =
    (Any (λ d. (d.ssrc ≡ ssrc) × (index ≡ d.index + 1)) past × AllByRecursion (λ d. d.ssrc ≡ ssrc → d.index < index) past) ⊎ (IsFirstOf past ssrc × (index ≡ 0))

-- an RTP packet's index is close and new where it is opened and where it is sealed; RTCP carries its index, which counts
abbrev pub MayOpen : Kind → Open → List Done → ℕ → ℕ → Type 0
MayOpen Rtp o past ssrc index = IsClose o.roc past ssrc index × IsNew o.window past ssrc index
MayOpen Rtcp o past ssrc index = IsNew o.window past ssrc index

abbrev pub MaySeal : Kind → Open → List Done → ℕ → ℕ → Type 0
MaySeal Rtp o past ssrc index = IsClose o.roc past ssrc index × IsNew o.window past ssrc index
MaySeal Rtcp o past ssrc index = Follows past ssrc index

-- the session admits the source, and has done something of it, or of fewer than 64 sources in all
pub record HasRoom (o : Open) (past : List Done) (ssrc : ℕ) : Type 0 where
  pub admitted : IsAdmittedBy o.admit past ssrc
  pub place : Any (λ d. d.ssrc ≡ ssrc) past ⊎ ((ssrcs : List ℕ) × (length ssrcs < 64) × AllByRecursion (λ d. Any (λ x. x ≡ d.ssrc) ssrcs) past)

-- ---- where a session listens

abbrev pub secure_port : Open → ℕ
secure_port o = secure_port_of o.name.kind o.slot o.name.owner.medium

abbrev pub plain_port : Open → ℕ
plain_port o = plain_port_of o.name.kind o.slot o.name.owner.medium

-- ---- what arrives

-- the datagram is a sealing under a key of the session
abbrev pub IsUnder : Open → List ℕ → Type 0
IsUnder o d =
    (k : Key) × Any (λ l. l ≡ k) o.keys × (on : Bool) × (ssrc : ℕ) × (index : ℕ) × (packet : List ℕ) × IsSealing o.name.kind on o.tag_len k.master k.mki ssrc index packet d

-- a session of a later generation opens at the same port
abbrev pub IsReplacedBy : Open → Open → Type 0
IsReplacedBy o p = (p.name.owner.direction ≡ Opening) × (secure_port o ≡ secure_port p) × (o.name.owner.generation < p.name.owner.generation)

-- To the port of a session that opens comes the sealing of this packet under a live key of it, at an index that it may open, and
-- under no key of a later session at that port.
pub record Arrives (past : List Done) (x : Seen) (o : Open) (port : ℕ) (d : List ℕ) (k : Key) (on : Bool) (ssrc index : ℕ) (packet : List ℕ) : Type 0 where
  pub opening : o.name.owner.direction ≡ Opening
  pub at_port : port ≡ secure_port o
  pub short : length d ≤ 4238
  pub keyed : Any (λ l. l ≡ k) o.keys
  pub text : IsSealing o.name.kind on o.tag_len k.master k.mki ssrc index packet d
  pub choice : o.name.kind ≡ Rtp → on ≡ o.encrypts
  pub head : HasHeadAt o.name.kind ssrc index packet
  pub none_later : AllByRecursion (λ p. IsReplacedBy o p → ¬ IsUnder p d) x.sessions
  pub live : IsLive past k
  pub room : HasRoom o past ssrc
  pub may : MayOpen o.name.kind o past ssrc index

-- it is opened there, and its packet leaves to the plain side
pub record IsOpened (x : Seen) (o : Open) (ssrc index : ℕ) (packet : List ℕ) : Type 0 where
  pub act : Any (λ e. (e.session ≡ o.name) × (e.done.ssrc ≡ ssrc) × (e.done.index ≡ index) × (e.done.packet ≡ packet)) x.acts
  pub out : LeavesByPlain x.told o packet

-- ---- what departs

-- From the plain side's host a packet comes to the port of a session that seals, which has a live key and may seal at this index.
pub record Departs (past : List Done) (o : Open) (port : ℕ) (from : Address) (packet : List ℕ) (ssrc index : ℕ) : Type 0 where
  pub sealing : o.name.owner.direction ≡ Sealing
  pub at_port : port ≡ plain_port o
  pub source : from.ip ≡ o.plain.ip
  pub short : length packet ≤ 4096
  pub head : HasHeadAt o.name.kind ssrc index packet
  pub live : Any (IsLive past) o.keys
  pub room : HasRoom o past ssrc
  pub may : MaySeal o.name.kind o past ssrc index

-- it is sealed there under a live key, and the sealing leaves to the secure side
pub record IsSealed (past : List Done) (x : Seen) (o : Open) (ssrc index : ℕ) (packet : List ℕ) (k : Key) : Type 0 where
  pub live : IsLive past k
  pub act : Any (λ e. (e.session ≡ o.name) × (e.key ≡ k) × (e.done.ssrc ≡ ssrc) × (e.done.index ≡ index) × (e.done.packet ≡ packet)) x.acts
  pub octets : List ℕ
  pub text : IsSealing o.name.kind o.encrypts o.tag_len k.master k.mki ssrc index packet octets
  pub out : LeavesBySecure x.told o octets

-- ---- the promise

pub record LosesNothing (before : List Entry) (x : Seen) : Type 0 where
  pub opens : (o : Open) (port : ℕ) (from : Address) (d : Octets) (k : Key) (on : Bool) (ssrc index : ℕ) (packet : List ℕ) → Any (λ p. p ≡ o) x.sessions
      → x.came ≡ Datagram port from d → Arrives (done_by before o.name) x o port d.items k on ssrc index packet → IsOpened x o ssrc index packet
  pub seals : (o : Open) (port : ℕ) (from : Address) (d : Octets) (ssrc index : ℕ) → Any (λ p. p ≡ o) x.sessions
      → x.came ≡ Datagram port from d → Departs (done_by before o.name) o port from d.items ssrc index → Any (IsSealed (done_by before o.name) x o ssrc index d.items) o.keys

-- after these acts, each thing that is seen loses nothing
abbrev pub NothingLostAfter : List Entry → List Seen → Type 0
NothingLostAfter before [] = Unit {0}
NothingLostAfter before (x ∷ seen) = LosesNothing before x × NothingLostAfter (before ++ x.acts) seen

abbrev pub NothingLost : List Seen → Type 0
NothingLost seen = NothingLostAfter [] seen
