-- The faults of listings in words.
use Rattle.std.specs.Prelude.{ℕ, List, [], ◌∷◌, codes}
use Rattle.list_views.specs.FaultWords.{joined, number_field}
use Rattle.asm_lines.specs.declared.fault.AsmFault.{AsmFault}
use Rattle.asm_lines.specs.declared.fault.AsmFault.TheVariants.{Syntax, UnknownOpcode, UnknownLabel, DuplicateLabel, OutOfRange}
use Rattle.asm_lines.specs.declared.fault.AsmFault.TheVariants.{NoEnd, Memory}

-- the name of a fault of a listing, the first word of its text
abbrev pub fault_name : AsmFault → List ℕ
fault_name (Syntax line) = codes "Syntax"
fault_name (UnknownOpcode line) = codes "UnknownOpcode"
fault_name (UnknownLabel line) = codes "UnknownLabel"
fault_name (DuplicateLabel line) = codes "DuplicateLabel"
fault_name (OutOfRange line) = codes "OutOfRange"
fault_name (NoEnd line) = codes "NoEnd"
fault_name Memory = codes "Memory"

-- what a fault of a listing says besides its name: the line that it is about
abbrev pub fault_fields : AsmFault → List ℕ
fault_fields (Syntax line) = number_field (codes "line") line
fault_fields (UnknownOpcode line) = number_field (codes "line") line
fault_fields (UnknownLabel line) = number_field (codes "line") line
fault_fields (DuplicateLabel line) = number_field (codes "line") line
fault_fields (OutOfRange line) = number_field (codes "line") line
fault_fields (NoEnd line) = number_field (codes "line") line
fault_fields Memory = []

-- the text of a fault of a listing: its name, and then the line
abbrev pub fault_text : AsmFault → List ℕ
fault_text fault = joined (fault_name fault ∷ fault_fields fault ∷ [])
