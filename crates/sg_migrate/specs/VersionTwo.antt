-- What is migrated is a script of version 2.
use Rattle.std.specs.Prelude.{◌≡◌, ◌⊎◌, ◌≤◌, ◌^◌, ℕ, List, [], ◌++◌, length, codes}
use Rattle.sg_base.specs.declared.addresses.Address.{Address}
use Rattle.sg_base.specs.declared.faults.ScriptFault.{ScriptFault}
use Rattle.sg_base.specs.declared.faults.ScriptFault.TheVariants.{Version}
use Rattle.sg_gateway.specs.Events.{events_of}
use Rattle.sg_lines.specs.declared.lines.Line.TheVariants as lines
use Rattle.sg_lines.specs.declared.lines.Signal.TheVariants.{Tick}
use Rattle.sg_migrate.specs.Migrated.{migrated, of_migration}
use Rattle.sg_trace.specs.Course.{course, ended}
use Rattle.sg_trace.specs.Output.{IsPrefixOf}
use Rattle.sg_trace.specs.Trace.{AtFault, replayed}

abbrev pub header_two : List ℕ
header_two = codes "srtpgw 2\n"

-- whatever is drawn, a replay finds no line outside the grammar
abbrev pub HasNoFault : List ℕ → Type 0
HasNoFault octets = (draws : List ℕ) (n : ℕ) (fault : ScriptFault) → ¬ ((replayed octets draws).stop ≡ AtFault n fault)

pub record IsVersionTwo (octets : List ℕ) : Type 0 where
  -- what is written begins with the header of version 2, where anything is written
  pub header : (migrated octets ≡ []) ⊎ IsPrefixOf header_two (migrated octets)
  -- and no line of it is outside the grammar
  pub whole : length (migrated octets) ≤ 2 ^ 30 → HasNoFault (migrated octets)
  -- of a script that is of version 2 already nothing is written: its first line is outside the grammar of version 1
  pub once : IsPrefixOf header_two octets → course of_migration octets [] ≡ ended (AtFault 1 Version) []

-- a datagram's line with its moment gives what a line `tick` and the datagram's line of version 1 give
abbrev pub TicksFirst : ℕ → ℕ → Address → List ℕ → Type 0
TicksFirst moment port from octets =
    events_of (lines.DatagramAt moment port from octets) ≡ events_of (lines.Signal (Tick moment)) ++ events_of (lines.Datagram port from octets)
