-- The faults of codes, in words and as answers.
use Rattle.std.specs.Prelude.{ℕ, List, [], ◌∷◌, codes, Bool, true, false, Result}
use Rattle.class_base.specs.list_views.FaultWords.{joined, number_field}
use Rattle.class_base.specs.list_views.Results as results
use Rattle.class_base.specs.list_views.Results.{IsDue}
use Rattle.code_forms.specs.declared.fault.CodeFault.{CodeFault}
use Rattle.code_forms.specs.declared.fault.CodeFault.TheVariants.{Truncated, UnsupportedOpcode, UnknownOpcode, BadSwitch, BadTarget}
use Rattle.code_forms.specs.declared.fault.CodeFault.TheVariants.{BadOperand, Memory}

-- the name of a fault of a code, the first word of its text
abbrev pub fault_name : CodeFault → List ℕ
fault_name (Truncated pc) = codes "Truncated"
fault_name (UnsupportedOpcode pc op) = codes "UnsupportedOpcode"
fault_name (UnknownOpcode pc op) = codes "UnknownOpcode"
fault_name (BadSwitch pc) = codes "BadSwitch"
fault_name (BadTarget pc) = codes "BadTarget"
fault_name (BadOperand pc) = codes "BadOperand"
fault_name Memory = codes "Memory"

-- the field that says where an instruction stands in its code
abbrev pub pc_field : ℕ → List ℕ
pc_field pc = number_field (codes "pc") pc

-- the fields that say where an instruction stands in its code, and its opcode
abbrev pub op_fields : ℕ → ℕ → List ℕ
op_fields pc op = joined (pc_field pc ∷ number_field (codes "op") op ∷ [])

-- what a fault of a code says besides its name
abbrev pub fault_fields : CodeFault → List ℕ
fault_fields (Truncated pc) = pc_field pc
fault_fields (UnsupportedOpcode pc op) = op_fields pc op
fault_fields (UnknownOpcode pc op) = op_fields pc op
fault_fields (BadSwitch pc) = pc_field pc
fault_fields (BadTarget pc) = pc_field pc
fault_fields (BadOperand pc) = pc_field pc
fault_fields Memory = []

-- the text of a fault of a code: its name, and then its fields
abbrev pub fault_text : CodeFault → List ℕ
fault_text fault = joined (fault_name fault ∷ fault_fields fault ∷ [])

-- the fault says that memory ran out
abbrev pub is_memory : CodeFault → Bool
is_memory Memory = true
is_memory fault = false

-- a computation ends with this fault, and where the fault is want of memory it may instead have given anything
abbrev pub Fails : {Y : Type 0} → CodeFault → Result Y CodeFault → Type 0
Fails fault read = IsDue is_memory fault read

-- what a function returned, seen by view, is what reading a code gives, unless memory ran out
abbrev pub Gives : {X Y : Type 0} → (X → Y) → Result X CodeFault → Result Y CodeFault → Type 0
Gives view answer read = results.Gives is_memory view answer read
