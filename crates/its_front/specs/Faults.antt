-- The faults of texts of rules in words; what a call answers to a step that may have one.
use Rattle.std.specs.Prelude.{ℕ, Bool, true, false, List, [], ◌∷◌, Result, codes}
use Rattle.list_views.specs.FaultWords.{joined, number_field}
use Rattle.list_views.specs.Results as results
use Rattle.its_front.specs.declared.fault.ItsFault.{ItsFault}
use Rattle.its_front.specs.declared.fault.ItsFault.TheVariants.{Syntax, UnknownVariable, DuplicateVariable, OutOfRange, Limit, Memory}

-- the name of a fault of a text of rules, the first word of its text
abbrev pub fault_name : ItsFault → List ℕ
fault_name (Syntax line) = codes "Syntax"
fault_name (UnknownVariable line) = codes "UnknownVariable"
fault_name (DuplicateVariable line) = codes "DuplicateVariable"
fault_name (OutOfRange line) = codes "OutOfRange"
fault_name (Limit line) = codes "Limit"
fault_name Memory = codes "Memory"

-- what a fault of a text of rules says besides its name: the line that it is about
abbrev pub fault_fields : ItsFault → List ℕ
fault_fields (Syntax line) = number_field (codes "line") line
fault_fields (UnknownVariable line) = number_field (codes "line") line
fault_fields (DuplicateVariable line) = number_field (codes "line") line
fault_fields (OutOfRange line) = number_field (codes "line") line
fault_fields (Limit line) = number_field (codes "line") line
fault_fields Memory = []

-- the text of a fault of a text of rules: its name, and then the line
abbrev pub fault_text : ItsFault → List ℕ
fault_text fault = joined (fault_name fault ∷ fault_fields fault ∷ [])

-- what is read of a text of rules, or the fault of a line
abbrev pub Said : Type 0 → Type 0
Said A = Result A ItsFault

-- the fault says that memory ran out
abbrev pub is_memory : ItsFault → Bool
is_memory Memory = true
is_memory fault = false

-- a call of the reader answers, seen by `view`, what is said, unless memory ran out
abbrev pub Gives : {X Y : Type 0} → (X → Y) → Result X ItsFault → Said Y → Type 0
Gives view answer said = results.Gives is_memory view answer said
