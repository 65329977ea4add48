-- How a read ends, and the names of faults.
use Rattle.std.specs.Prelude.{ℕ, List, Bool, true, false, Result, Ok, Err, codes}
use Rattle.io_ports.specs.declared.files.FileFault.{FileFault}
use Rattle.io_ports.specs.declared.files.FileFault.TheVariants.{Failed, TooLong, Missing, Memory}

-- it is a failure of the files
abbrev pub has_failed : {T : Type 0} → Result T FileFault → Bool
has_failed (Ok _) = false
has_failed (Err Failed) = true
has_failed (Err TooLong) = false
has_failed (Err Missing) = false
has_failed (Err Memory) = false

-- the fault's name, by which a line of errors says it
abbrev pub fault_name : FileFault → List ℕ
fault_name Failed = codes "Failed"
fault_name TooLong = codes "TooLong"
fault_name Missing = codes "Missing"
fault_name Memory = codes "Memory"
