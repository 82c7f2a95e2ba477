-- Nothing within reach is lost, where a place, a live key, a new index and an admitted source are said of the list of what is done
-- alone. Of the definitions of opening and sealing it uses `text_in`, `highest_in`, and where a datagram could be of two
-- generations' sessions `opens` (in `Comes`).
use Rattle.std.specs.Prelude.{◌≡◌, ◌⊎◌, ◌<◌, ◌≤◌, ℕ, List, [], ◌∷◌, length}
use Rattle.std.specs.List.{All, AllByRecursion, Any, Contains}
use Rattle.sg_base.specs.declared.addresses.Address.{Address}
use Rattle.sg_base.specs.declared.addresses.Kind.{Kind}
use Rattle.sg_base.specs.declared.addresses.Kind.TheVariants.{Rtp, Rtcp}
use Rattle.sg_gateway.specs.Arriving.{Comes, IsPutOut}
use Rattle.sg_gateway.specs.Departing.{sealed_under}
use Rattle.sg_gateway.specs.Legs.{plain_leg_port, secure_leg_port, secure_leg_address}
use Rattle.sg_gateway.specs.Newness.{IsAdmittedBy, IsLiveIn, IsNewIn}
use Rattle.sg_gateway.specs.Octets.{Octets}
use Rattle.sg_gateway.specs.Runs.{Turn, turns}
use Rattle.sg_gateway.specs.Step.{Event, Datagram}
use Rattle.sg_gateway.specs.World.{Call, World}
use Rattle.sg_outcome.specs.declared.outcomes.Outcome.TheVariants.{Out}
use Rattle.sg_session.specs.Reach.{AreSealed, HasHeadAt, IsNear, IsNearIn, IsNext, Sealed, text_in}
use Rattle.sg_session.specs.Session.{Key, Session, highest_in}
use Rattle.sg_session.specs.declared.names.Direction.TheVariants.{Sealing}

-- something of the source is done, or all that is done is of fewer than 64 sources
abbrev pub HasPlace : Session → ℕ → Type 0
HasPlace s ssrc = Any (λ d. d.ssrc ≡ ssrc) s.done ⊎ ((ssrcs : List ℕ) × (length ssrcs < 64) × AllByRecursion (λ d. Any (λ x. x ≡ d.ssrc) ssrcs) s.done)

-- ---- what arrives

pub record ArrivesWithinReach (w : World) (port : ℕ) (d : List ℕ) (c : Call) (s : Session) (k : Key) (x : Sealed) : Type 0 where
  pub comes : Comes w port d c s k x
  pub live : IsLiveIn s k
  pub admitted : IsAdmittedBy s.admit s.done x.ssrc
  pub place : HasPlace s x.ssrc
  pub near : IsNearIn x.kind s x
  pub new : IsNewIn s x.ssrc x.index

abbrev pub WithinReachArePutOut : List Sealed → Turn → Type 0
WithinReachArePutOut sealed t =
    (x : Sealed) (port : ℕ) (from : Address) (d : Octets) (c : Call) (s : Session) (k : Key) → Contains sealed x
    → t.event ≡ Datagram port from d → ArrivesWithinReach t.before port d.items c s k x → IsPutOut t c s x

-- ---- what departs

abbrev pub IsFreeIn : Kind → Session → ℕ → ℕ → Type 0
IsFreeIn Rtp s ssrc index = IsNear s.roc index (highest_in s ssrc) × IsNewIn s ssrc index
IsFreeIn Rtcp s ssrc index = IsNext index (highest_in s ssrc)

pub record DepartsWithinReach (w : World) (port : ℕ) (from : Address) (p : List ℕ) (c : Call) (s : Session) (ssrc index : ℕ) : Type 0 where
  pub call : Contains w.calls c
  pub session : Contains c.sessions s
  pub sealing : s.name.owner.direction ≡ Sealing
  pub at_port : port ≡ plain_leg_port c s
  pub source : from.ip ≡ s.plain.ip
  pub short : length p ≤ 4096
  pub head : HasHeadAt s.name.kind ssrc index p
  pub admitted : IsAdmittedBy s.admit s.done ssrc
  pub place : HasPlace s ssrc
  pub live : Any (IsLiveIn s) s.keys
  pub free : IsFreeIn s.name.kind s ssrc index

-- The turn seals the packet there, under a live key of the session, and puts the sealing out from the session's secure port to
-- its secure address.
pub record IsSealedUnder (t : Turn) (c : Call) (s : Session) (ssrc index : ℕ) (p : List ℕ) (k : Key) : Type 0 where
  pub live : IsLiveIn s k
  pub sealed : Any (λ e. (e.session ≡ s.name) × (e.key ≡ k) × (e.done.ssrc ≡ ssrc) × (e.done.index ≡ index) × (e.done.packet ≡ p)) t.entries
  pub out : t.outcomes ≡ Out (secure_leg_port c s) (secure_leg_address s) (text_in s k.mki (sealed_under s k ssrc index p)) ∷ []

abbrev pub WithinReachAreSealed : Turn → Type 0
WithinReachAreSealed t =
    (port : ℕ) (from : Address) (d : Octets) (c : Call) (s : Session) (ssrc index : ℕ) → t.event ≡ Datagram port from d
    → DepartsWithinReach t.before port from d.items c s ssrc index → Any (IsSealedUnder t c s ssrc index d.items) s.keys

pub record NewLeaves (events : List Event) : Type 0 where
  pub arriving : (sealed : List Sealed) → AreSealed sealed → All (WithinReachArePutOut sealed) (turns events)
  pub departing : All WithinReachAreSealed (turns events)
