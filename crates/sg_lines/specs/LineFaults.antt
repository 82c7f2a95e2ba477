-- Which faults a line may have behind its frame.
use Rattle.sg_base.specs.declared.ScriptFault.{ScriptFault}
use Rattle.sg_base.specs.declared.ScriptFault.TheVariants.{Word, Number, Hex, Length, Version, Unended}

-- a fault of the word or of a field
abbrev pub IsFieldFault : ScriptFault → Type 0
IsFieldFault Word = Unit {0}
IsFieldFault Number = Unit {0}
IsFieldFault Hex = Unit {0}
IsFieldFault Length = Unit {0}
IsFieldFault other = ⊥
