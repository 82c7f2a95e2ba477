-- What a relay answers, and what has passed between it and the outside by then.
use Rattle.std.specs.Prelude.{◌≡◌, ◌⊎◌, ◌≤◌, ◌+◌, ◌^◌, length, ℕ, List, [], ◌∷◌, ◌++◌}
use Rattle.sg_base.specs.declared.faults.ScriptFault.TheVariants.{Unended}
use Rattle.sg_edge.specs.Links.{Added, Called, LinkCall, LinkTally, Received}
use Rattle.sg_edge.specs.Links as links
use Rattle.sg_edge.specs.Told.{AtEnd, Tally, TookIn, Wrote}
use Rattle.sg_gateway.specs.World.{World}
use Rattle.sg_trace.specs.declared.status.Status.{Status}
use Rattle.sg_trace.specs.declared.status.Status.TheVariants.{Done, Script, Read, Write, Link, NoMemory, Clock, Noise, TurnsSpent}
use Rattle.sg_relay.specs.Asked.{Act, AreDue, AreGood, AreInOrder, AtFailedReceive, IsCutOff, IsDone, IsPart, asks_in, receipts_in}
use Rattle.sg_relay.specs.Held.{AreOfCalls, EachFits}
use Rattle.sg_relay.specs.Weaving.{Weaves, Woven, woven}
use Rattle.sg_trace.specs.Trace.{AtEnd as BehindAll, AtFault, ForDraw, ForReading, ForReceive, Outside, Stop}

-- what passed between a run and the outside, each in order: the octets read and those written, the calls of
-- the link, the readings of the clock and the octets drawn
pub record Passed : Type 0 where
  pub octets : List ℕ
  pub out : List ℕ
  pub calls : List LinkCall
  pub readings : List ℕ
  pub draws : List ℕ

-- the weaving that it makes
abbrev pub woven_of : {L D : Type 0} → Weaves L D → Passed → Woven D
woven_of w p = woven w p.octets p.readings (receipts_in p.calls) p.draws

-- its deeds, had it received no more than this
abbrev pub deeds_by : {L D : Type 0} → Weaves L D → Passed → List Received → List D
deeds_by w p receipts = (woven w p.octets p.readings receipts p.draws).deeds

-- what is to be done for them
abbrev pub acts_by : {L D : Type 0} → Weaves L D → (List D → List Act) → Passed → List Received → List Act
acts_by w acts p receipts = acts (deeds_by w p receipts)

-- where it stops, had it received no more than this
abbrev pub stop_by : {L D : Type 0} → Weaves L D → Passed → List Received → Stop
stop_by w p receipts = (woven w p.octets p.readings receipts p.draws).stop

abbrev pub nothing : Outside
nothing = record { readings = []; receipts = []; draws = [] }

-- All that is to be done for the deeds was done, and no reading, receive or draw was taken besides. No call of the link
-- but a send has failed.
pub record IsWholeRelay {L D : Type 0} (w : Weaves L D) (acts : List D → List Act) (p : Passed) (stop : Stop) : Type 0 where
  pub stops : (woven_of w p).stop ≡ stop
  pub left : (woven_of w p).left ≡ nothing
  pub done : IsDone (acts (woven_of w p).deeds) p.calls p.out
  pub good : AreGood p.calls

-- Of what is to be done for the deeds a prefix was, and no call of the link but a send has failed.
pub record IsBroken {L D : Type 0} (w : Weaves L D) (acts : List D → List Act) (p : Passed) : Type 0 where
  pub part : IsPart (acts (woven_of w p).deeds) p.calls p.out
  pub good : AreGood p.calls

-- The status, by what passed, what the source has left, and the most turns. With Done all is handled and the
-- source is at its end. With Script the lines before the named one are handled, and the named line is the
-- first outside the grammar, with its first fault, whatever would come behind what was read; Unended comes
-- only at the source's end. With TurnsSpent all turns were taken, and a `tick` line asks for one more. With
-- Clock a reading comes next, within the turns, with Noise a draw. With Link the link's last call failed: a receive
-- comes next, or an act whose ports are bound or given up, and all before it was done. With every other status all
-- before some act was done and written; of that one nothing was, or what it asks for and a prefix of its line.
abbrev pub RelayEnds : {L D : Type 0} → Weaves L D → (List D → List Act) → Status → ℕ → Passed → Tally → Type 0
RelayEnds w acts Done turns p left = IsWholeRelay w acts p BehindAll × AtEnd left
RelayEnds w acts (Script n fault) turns p left =
    IsWholeRelay w acts p (AtFault n fault) × (fault ≡ Unended → AtEnd left)
    × (¬ (fault ≡ Unended) → (more : List ℕ) → (woven_of w (record p { octets = p.octets ++ more })).stop ≡ AtFault n fault)
RelayEnds w acts TurnsSpent turns p left = IsWholeRelay w acts p ForReading × (length p.readings ≡ turns + 1)
RelayEnds w acts Clock turns p left = IsWholeRelay w acts p ForReading × (length p.readings ≤ turns)
RelayEnds w acts Noise turns p left = IsWholeRelay w acts p ForDraw
RelayEnds w acts Link turns p left = AtFailedReceive (λ before. IsWholeRelay w acts (record p { calls = before }) ForReceive) p.calls ⊎ IsCutOff (acts (woven_of w p).deeds) p.calls p.out
RelayEnds w acts Read turns p left = IsBroken w acts p
RelayEnds w acts Write turns p left = IsBroken w acts p
RelayEnds w acts NoMemory turns p left = IsBroken w acts p
RelayEnds w acts other turns p left = ⊥

-- Each reading after the first is followed by one receive, but for the last where the run ended between.
abbrev pub ArePaced : List ℕ → List Received → Type 0
ArePaced [] receipts = receipts ≡ []
ArePaced (r ∷ rs) receipts = (length rs ≡ length receipts) ⊎ (length rs ≡ length receipts + 1)

-- what a source, a sink, a link, a clock and a source of noise tell
pub record RelayTellings : Type 0 where
  pub left : Tally
  pub written : Tally
  pub calls : LinkTally
  pub readings : Tally
  pub draws : Tally

-- The relay read these octets, of which there are at most 2^30 + 1, wrote those, and made these calls; it took
-- at most so many turns. Whenever it asked the link for a receive, one was due, and it had asked for all that is to be done for the
-- deeds up to there, and for nothing else.
pub record IsRelay {L D : Type 0} (w : Weaves L D) (acts : List D → List Act) (status : Status) (turns : ℕ) (old new : RelayTellings) (p : Passed) : Type 0 where
  pub took : TookIn old.left new.left p.octets
  pub wrote : Wrote old.written new.written p.out
  pub called : Called old.calls new.calls p.calls
  pub read : Added old.readings new.readings p.readings
  pub drew : Added old.draws new.draws p.draws
  pub ends : RelayEnds w acts status turns p new.left
  pub bound : length p.octets ≤ 2 ^ 30 + 1
  pub most : length p.readings ≤ turns + 1
  pub paced : ArePaced p.readings (receipts_in p.calls)
  pub in_order : AreInOrder (acts_by w acts p) p.calls
  pub due : AreDue (stop_by w p) p.calls

-- the world of its calls, had it received no more than this
abbrev pub world_by : {L D : Type 0} → Weaves L D → (List D → World) → Passed → List Received → World
world_by w world p receipts = world (deeds_by w p receipts)

-- Whenever the relay asked for a receive, the ports that it had bound and not given up were those of the calls that were
-- there by then. It bound no port that it held, and gave none up, and sent from none, that it didn't hold.
pub record HoldsItsCallsPorts {L D : Type 0} (w : Weaves L D) (world : List D → World) (p : Passed) : Type 0 where
  pub at_receives : (before after : List LinkCall) (x : Received) → p.calls ≡ before ++ links.Receive x ∷ after
      → AreOfCalls (asks_in before) (world_by w world p (receipts_in before))
  pub each : EachFits (asks_in p.calls)
