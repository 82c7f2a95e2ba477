-- What a run puts out, in the ports and addresses by which it leaves.
use Rattle.std.specs.Prelude.{◌≡◌, ℕ, List, [], ◌∷◌}
use Rattle.std.specs.List.{All, Any, Contains}
use Rattle.sg_base.specs.declared.addresses.Address.{Address}
use Rattle.sg_gateway.specs.Datagrams.{Entry}
use Rattle.sg_gateway.specs.Departing.{sealed_under}
use Rattle.sg_gateway.specs.Legs.{plain_leg_port, plain_leg_address, secure_leg_port, secure_leg_address}
use Rattle.sg_gateway.specs.Newness.{IsLiveIn}
use Rattle.sg_gateway.specs.Octets.{Octets}
use Rattle.sg_gateway.specs.SealedOut.{sealed_by}
use Rattle.sg_gateway.specs.Step.{Datagram}
use Rattle.sg_gateway.specs.World.{Call}
use Rattle.sg_session.specs.Reach.{Sealed, IsAt, text_in}
use Rattle.sg_session.specs.Session.{Key, Session}
use Rattle.sg_session.specs.declared.names.Direction.TheVariants.{Opening, Sealing}
use Rattle.sg_conduct.specs.Place.{ArrivesWithinReach, DepartsWithinReach}
use Rattle.sg_passages.specs.Passages.{Passage, out_by}

-- ---- on plain legs

-- The session has the entry's name and its key; and the entry's packet is told as put out, and nothing else of that event is:
-- it leaves as from the session's plain port to its plain address.
pub record IsPutOutBy (p : Passage) (e : Entry) (c : Call) (s : Session) : Type 0 where
  pub name : s.name ≡ e.session
  pub key : Any (λ k. k ≡ e.key) s.keys
  pub out : p.told ≡ out_by p.leaves (plain_leg_port c s) (plain_leg_address s) e.done.packet ∷ []

abbrev pub IsPutOutOf : Passage → Entry → Type 0
IsPutOutOf p e = Any (λ c. Any (IsPutOutBy p e c) c.sessions) p.turn.before.calls

-- it is one of those sealed, under that master key, of that kind, source and index
pub record IsOpeningOf (sealed : List Sealed) (p : Passage) (e : Entry) : Type 0 where
  pub by_peer : Any (λ x. IsAt e.key.master e.session.kind e.done.ssrc e.done.index x × (x.packet ≡ e.done.packet)) sealed
  pub out : IsPutOutOf p e

abbrev pub OpeningsAreSealed : List Sealed → Passage → Type 0
OpeningsAreSealed sealed p = All (λ e. e.session.owner.direction ≡ Opening → IsOpeningOf sealed p e) p.turn.entries

abbrev pub EachOpeningIsSealed : List Sealed → List Passage → Type 0
EachOpeningIsSealed sealed passages = All (OpeningsAreSealed sealed) passages

abbrev pub OpeningsGoOut : Passage → Type 0
OpeningsGoOut p = All (λ e. e.session.owner.direction ≡ Opening → IsPutOutOf p e) p.turn.entries

abbrev pub EachOpeningGoesOut : List Passage → Type 0
EachOpeningGoesOut passages = All OpeningsGoOut passages

-- ---- on secure legs

-- The session has the entry's name, and encrypts where the entry says so; and the sealing of the entry's packet under its key
-- is told as put out, and nothing else of that event is: it leaves as from the session's secure port to its secure address.
pub record IsSealedAndLeaves (p : Passage) (e : Entry) (c : Call) (s : Session) : Type 0 where
  pub name : s.name ≡ e.session
  pub encrypts : s.encrypts ≡ e.encrypts
  pub key : Any (λ k. k ≡ e.key) s.keys
  pub out : p.told ≡ out_by p.leaves (secure_leg_port c s) (secure_leg_address s) (text_in s e.key.mki (sealed_by e)) ∷ []

abbrev pub SealsGoOut : Passage → Type 0
SealsGoOut p = All (λ e. e.session.owner.direction ≡ Sealing → Any (λ c. Any (IsSealedAndLeaves p e c) c.sessions) p.turn.before.calls) p.turn.entries

abbrev pub EachSealGoesOut : List Passage → Type 0
EachSealGoesOut passages = All SealsGoOut passages

-- ---- nothing within reach is lost, which is said of the list of what is done

-- x is opened in that session, and its packet leaves as from the session's plain port to its plain address
pub record IsPutOut (p : Passage) (c : Call) (s : Session) (x : Sealed) : Type 0 where
  pub opened : Any (λ e. (e.session ≡ s.name) × (e.done.ssrc ≡ x.ssrc) × (e.done.index ≡ x.index) × (e.done.packet ≡ x.packet)) p.turn.entries
  pub out : p.told ≡ out_by p.leaves (plain_leg_port c s) (plain_leg_address s) x.packet ∷ []

abbrev pub ArrivingArePutOut : List Sealed → Passage → Type 0
ArrivingArePutOut sealed p =
    (x : Sealed) (port : ℕ) (from : Address) (d : Octets) (c : Call) (s : Session) (k : Key) → Contains sealed x
    → p.turn.event ≡ Datagram port from d → ArrivesWithinReach p.turn.before port d.items c s k x → IsPutOut p c s x

abbrev pub EachArrivingIsPutOut : List Sealed → List Passage → Type 0
EachArrivingIsPutOut sealed passages = All (ArrivingArePutOut sealed) passages

-- the packet is sealed there, under a live key of the session, and the sealing leaves as from the session's secure port to its
-- secure address
pub record IsSealedUnder (p : Passage) (c : Call) (s : Session) (ssrc index : ℕ) (d : List ℕ) (k : Key) : Type 0 where
  pub live : IsLiveIn s k
  pub sealed : Any (λ e. (e.session ≡ s.name) × (e.key ≡ k) × (e.done.ssrc ≡ ssrc) × (e.done.index ≡ index) × (e.done.packet ≡ d)) p.turn.entries
  pub out : p.told ≡ out_by p.leaves (secure_leg_port c s) (secure_leg_address s) (text_in s k.mki (sealed_under s k ssrc index d)) ∷ []

abbrev pub DepartingAreSealed : Passage → Type 0
DepartingAreSealed p =
    (port : ℕ) (from : Address) (d : Octets) (c : Call) (s : Session) (ssrc index : ℕ) → p.turn.event ≡ Datagram port from d
    → DepartsWithinReach p.turn.before port from d.items c s ssrc index → Any (IsSealedUnder p c s ssrc index d.items) s.keys

abbrev pub EachDepartingIsSealed : List Passage → Type 0
EachDepartingIsSealed passages = All DepartingAreSealed passages
