-- The numbers of the faults of joining and parting.
use Rattle.std.specs.Prelude.{ℕ}
use Rattle.sg_pairs.specs.declared.faults.JoinFault.{JoinFault}
use Rattle.sg_pairs.specs.declared.faults.JoinFault.TheVariants.{CallUnknown, Same, Unready, Joined, MediaCount, NotJoined}

abbrev pub join_fault_number : JoinFault → ℕ
join_fault_number CallUnknown = 1
join_fault_number Same = 2
join_fault_number Unready = 3
join_fault_number (Joined with) = 4
join_fault_number MediaCount = 5
join_fault_number NotJoined = 6
