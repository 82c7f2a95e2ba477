-- What is new, which key is live and which source is admitted, said of what is done; and that each packet of which
-- that holds when it arrives is put out.
use Rattle.std.specs.Prelude.{◌≡◌, ℕ, ◌+◌, ◌<◌, ◌==◌, true, List, [], ◌∷◌, count_by}
use Rattle.std.specs.List.{All, AllByRecursion, Contains}
use Rattle.sg_base.specs.declared.addresses.Address.{Address}
use Rattle.sg_replay.specs.Freshness.{freshness}
use Rattle.sg_replay.specs.declared.seen.Freshness.TheVariants.{New}
use Rattle.sg_session.specs.Reach.{Sealed, IsNearIn}
use Rattle.sg_session.specs.Session.{Done, Key, Session, indices_of, has_room}
use Rattle.sg_base.specs.declared.sources.Admit.{Admit}
use Rattle.sg_base.specs.declared.sources.Admit.TheVariants as admit
use Rattle.sg_gateway.specs.Arriving.{Comes, IsPutOut}
use Rattle.sg_gateway.specs.Octets.{Octets}
use Rattle.sg_gateway.specs.Runs.{Turn, turns}
use Rattle.sg_gateway.specs.Step.{Event, Datagram}
use Rattle.sg_gateway.specs.World.{Call, World}

-- the index of the source isn't done, and none that is done of the source is a window or more ahead of it
-- (RFC 3711, 3.3.2)
abbrev pub IsNewIn : Session → ℕ → ℕ → Type 0
IsNewIn s ssrc index = AllByRecursion (λ d. d.ssrc ≡ ssrc → (¬ d.index ≡ index) × (d.index < index + s.window)) s.done

-- the definition's own word for it
abbrev pub IsFresh : Session → ℕ → ℕ → Type 0
IsFresh s ssrc index = freshness s.window (indices_of s.done ssrc) index ≡ New

-- fewer packets are done under the key than its life
abbrev pub IsLiveIn : Session → Key → Type 0
IsLiveIn s k = count_by (λ d. d.key == k.number) s.done < k.life

-- any source; the one that is named; or the one of which something was done first
abbrev pub IsAdmittedBy : Admit → List Done → ℕ → Type 0
IsAdmittedBy admit.Any done ssrc = Unit {0}
IsAdmittedBy (admit.One own) done ssrc = ssrc ≡ own
IsAdmittedBy admit.FirstSeen [] ssrc = Unit {0}
IsAdmittedBy admit.FirstSeen (first ∷ later) ssrc = ssrc ≡ first.ssrc

-- The datagram comes as the sealing of x under a live key; the source of x is admitted and has a place, and its index
-- is near and new.
pub record ArrivesNew (w : World) (port : ℕ) (d : List ℕ) (c : Call) (s : Session) (k : Key) (x : Sealed) : Type 0 where
  pub comes : Comes w port d c s k x
  pub live : IsLiveIn s k
  pub admitted : IsAdmittedBy s.admit s.done x.ssrc
  pub room : has_room s x.ssrc ≡ true
  pub near : IsNearIn x.kind s x
  pub new : IsNewIn s x.ssrc x.index

abbrev pub NewArePutOut : List Sealed → Turn → Type 0
NewArePutOut sealed t =
    (x : Sealed) (port : ℕ) (from : Address) (d : Octets) (c : Call) (s : Session) (k : Key) → Contains sealed x
    → t.event ≡ Datagram port from d → ArrivesNew t.before port d.items c s k x → IsPutOut t c s x

abbrev pub EachNewIsPutOut : List Sealed → List Event → Type 0
EachNewIsPutOut sealed events = All (NewArePutOut sealed) (turns events)
