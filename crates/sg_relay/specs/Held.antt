-- The ports that a relay holds are those of the calls that are there, and it sends from no others.
use Rattle.std.specs.Prelude.{◌≡◌, ℕ, ◌+◌, ◌*◌, ◌<◌, Bool, true, false, ◌==◌, if◌then◌else◌, List, [], ◌∷◌, ◌++◌}
use Rattle.std.specs.List.{Any, flat_map}
use Rattle.sg_gateway.specs.World.{Call, World}
use Rattle.sg_relay.specs.Asked.{Act, Ask, Bind, Unbind, Send, asks_of}

-- whether a port is held after these asks, where it was so before them
abbrev pub held_after : ℕ → Bool → List Ask → Bool
held_after port was [] = was
held_after port was (Bind p ∷ asks) = held_after port (if p == port then true else was) asks
held_after port was (Unbind p ∷ asks) = held_after port (if p == port then false else was) asks
held_after port was (Send p to octets ∷ asks) = held_after port was asks

-- it was bound, and not given up since
abbrev pub IsHeld : List Ask → ℕ → Type 0
IsHeld asks port = held_after port false asks ≡ true

-- one of the four ports of a medium of the call: RTP and RTCP on the secure side, RTP and RTCP on the plain one
pub record IsPortOf (port : ℕ) (c : Call) : Type 0 where
  pub medium : ℕ
  pub leg : ℕ
  pub of_call : medium < c.media
  pub of_four : leg < 4
  pub is : port ≡ 20000 + 16 * c.slot + 4 * medium + leg

-- the ports that are held are those of the calls that are there
pub record AreOfCalls (asks : List Ask) (w : World) : Type 0 where
  pub held : (port : ℕ) → IsHeld asks port → Any (IsPortOf port) w.calls
  pub all : (port : ℕ) → Any (IsPortOf port) w.calls → IsHeld asks port

-- no port is bound that is held, and none is given up, or sent from, that isn't
abbrev pub Fits : List Ask → Ask → Type 0
Fits before (Bind port) = ¬ IsHeld before port
Fits before (Unbind port) = IsHeld before port
Fits before (Send port to octets) = IsHeld before port

abbrev pub EachFits : List Ask → Type 0
EachFits asks = (before after : List Ask) (ask : Ask) → asks ≡ before ++ ask ∷ after → Fits before ask

-- of what is to be done, in the world behind it
pub record PortsAreOfCalls (acts : List Act) (w : World) : Type 0 where
  pub ports : AreOfCalls (flat_map asks_of acts) w
  pub each : EachFits (flat_map asks_of acts)
