-- The number of the question that a fault answers no to, and the entry at fault; 0 is the head or the whole.
use Rattle.std.specs.Prelude.{ℕ}
use Rattle.contract_file.specs.declared.faults.Fault.{Fault}
use Rattle.contract_file.specs.declared.faults.Fault.TheVariants.{Length, Version, Unlisted, Pointer, Chain, Call, Window, Kind, Inadmissible, Size, Day}

abbrev pub fault_number : Fault → ℕ
fault_number Length = 1
fault_number Version = 2
fault_number (Unlisted i) = 3
fault_number (Pointer i) = 4
fault_number (Chain i) = 5
fault_number (Call i) = 6
fault_number (Window i) = 7
fault_number Kind = 8
fault_number (Inadmissible i) = 9
fault_number Size = 10
fault_number Day = 11

abbrev pub fault_entry : Fault → ℕ
fault_entry Length = 0
fault_entry Version = 0
fault_entry (Unlisted i) = i
fault_entry (Pointer i) = i
fault_entry (Chain i) = i
fault_entry (Call i) = i
fault_entry (Window i) = i
fault_entry Kind = 0
fault_entry (Inadmissible i) = i
fault_entry Size = 0
fault_entry Day = 0
