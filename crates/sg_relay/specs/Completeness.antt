-- What a relay promises. Where nothing fails, sends aside, it handles a script in the grammar to the end.
use Rattle.std.specs.Prelude.{◌≡◌, ◌⊎◌, ℕ, ◌+◌, List, length, Some}
use Rattle.sg_base.specs.declared.faults.ScriptFault.{ScriptFault}
use Rattle.sg_edge.specs.Links.{Received}
use Rattle.sg_edge.specs.Told.{Rose, Tally}
use Rattle.sg_trace.specs.Trace.{AtFault, ForReading}
use Rattle.sg_trace.specs.declared.status.Status.{Status}
use Rattle.sg_trace.specs.declared.status.Status.TheVariants.{Done, NoMemory}
use Rattle.sg_gateway.specs.World.{World}
use Rattle.sg_relay.specs.Asked.{Act, AreGood}
use Rattle.sg_relay.specs.Relay.{HoldsItsCallsPorts, IsRelay, Passed, RelayTellings, woven_of}
use Rattle.sg_relay.specs.Weaving.{Weaves, woven}

-- The octets are a script of this kind: whatever is read, received and drawn, no line of them is outside the grammar.
abbrev pub IsScriptOf : {L D : Type 0} → Weaves L D → List ℕ → Type 0
IsScriptOf w octets = (readings : List ℕ) (receipts : List Received) (draws : List ℕ) (n : ℕ) (fault : ScriptFault) → ¬ ((woven w octets readings receipts draws).stop ≡ AtFault n fault)

-- no `tick` line asks for a turn beyond these
abbrev pub AsksNoMore : {L D : Type 0} → Weaves L D → ℕ → Passed → Type 0
AsksNoMore w turns p = (woven_of w p).stop ≡ ForReading → length p.readings ≡ turns + 1 → ⊥

-- Where the source's octets are a script, its `tick` lines ask for no more turns, and the link's count of failures hasn't
-- risen, or no call of it but a send has failed, the relay handles the script to its end, or memory runs out.
abbrev pub IsCompleteRelay : {L D : Type 0} → Weaves L D → Status → ℕ → Tally → Tally → ℕ → ℕ → Passed → Type 0
IsCompleteRelay w status turns left left' link link' p =
    (all rest : List ℕ) → left.told ≡ Some all → left'.told ≡ Some rest → IsScriptOf w all → AsksNoMore w turns p
    → (¬ Rose link link' ⊎ AreGood p.calls) → (status ≡ Done) ⊎ (status ≡ NoMemory)

-- how often a source, a sink, a link, a clock and a source of noise have failed
pub record Failures : Type 0 where
  pub source : ℕ
  pub sink : ℕ
  pub link : ℕ
  pub clock : ℕ
  pub noise : ℕ

-- nothing but the link has failed
pub record OnlyLinkFailed (old new : Failures) : Type 0 where
  pub source : ¬ Rose old.source new.source
  pub sink : ¬ Rose old.sink new.sink
  pub clock : ¬ Rose old.clock new.clock
  pub noise : ¬ Rose old.noise new.noise

-- This passed between a relay and the outside. Whenever it received it listened at the ports of the calls that were there, and at no
-- others. Where nothing fails, sends aside, it handled a script in the grammar that asks for no more turns to the end, or memory ran
-- out.
pub record HasPassed {L D : Type 0} (w : Weaves L D) (acts : List D → List Act) (world : List D → World) (status : Status) (turns : ℕ) (old new : RelayTellings) (failures failures' : Failures) : Type 0 where
  pub passed : Passed
  pub is : IsRelay w acts status turns old new passed
  pub ports : HoldsItsCallsPorts w world passed
  pub complete : OnlyLinkFailed failures failures' → IsCompleteRelay w status turns old.left new.left failures.link failures'.link passed
