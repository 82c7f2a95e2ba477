-- The number and the text of a status.
use Rattle.std.specs.Prelude.{ℕ, List, [], ◌++◌, codes}
use Rattle.std.specs.Fmt.{decimal}
use Rattle.sg_base.specs.declared.faults.ScriptFault.{ScriptFault}
use Rattle.sg_base.specs.declared.faults.ScriptFault.TheVariants.{Word, Number, Hex, Length, Version, Unended}
use Rattle.sg_pcap.specs.Skips.{capture_fault_name}
use Rattle.sg_trace.specs.declared.status.Status.{Status}
use Rattle.sg_trace.specs.declared.status.Status.TheVariants.{Done, Usage, Script, Read, Write, Link, NoMemory, Clock, Noise, TurnsSpent, Capture}

abbrev pub script_fault_name : ScriptFault → List ℕ
script_fault_name Word = codes "Word"
script_fault_name Number = codes "Number"
script_fault_name Hex = codes "Hex"
script_fault_name Length = codes "Length"
script_fault_name Version = codes "Version"
script_fault_name Unended = codes "Unended"

abbrev pub status_number : Status → ℕ
status_number Done = 0
status_number Usage = 1
status_number (Script line fault) = 2
status_number Read = 3
status_number Write = 4
status_number Link = 5
status_number NoMemory = 6
status_number Clock = 7
status_number Noise = 8
status_number TurnsSpent = 9
status_number (Capture offset fault) = 10

abbrev pub status_text : Status → List ℕ
status_text Done = []
status_text Usage = codes "srtpgw: usage"
status_text (Script line fault) = codes "srtpgw: script line " ++ decimal line ++ codes ": " ++ script_fault_name fault
status_text Read = codes "srtpgw: read failed"
status_text Write = codes "srtpgw: write failed"
status_text Link = codes "srtpgw: link failed"
status_text NoMemory = codes "srtpgw: no memory"
status_text Clock = codes "srtpgw: clock failed"
status_text Noise = codes "srtpgw: noise failed"
status_text TurnsSpent = codes "srtpgw: turns spent"
status_text (Capture offset fault) = codes "srtpgw: capture octet " ++ decimal offset ++ codes ": " ++ capture_fault_name fault
