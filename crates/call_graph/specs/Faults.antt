-- The fault of calls in words.
use Rattle.std.specs.Prelude.{ℕ, List, [], ◌∷◌, codes}
use Rattle.list_views.specs.FaultWords.{joined}
use Rattle.class_world.specs.Faults.{method_fields}
use Rattle.call_graph.specs.declared.fault.CallFault.{CallFault}
use Rattle.call_graph.specs.declared.fault.CallFault.TheVariants.{Recursive, Memory}

-- the name of a fault of calls, as it is printed
abbrev pub fault_name : CallFault → List ℕ
fault_name (Recursive method) = codes "Recursive"
fault_name Memory = codes "Memory"

-- the fields of a fault's text behind its name: the method that can call itself again
abbrev pub fault_fields : CallFault → List ℕ
fault_fields (Recursive method) = method_fields method []
fault_fields Memory = []

-- the text of a fault of calls: its name, and then its fields
abbrev pub fault_text : CallFault → List ℕ
fault_text fault = joined (fault_name fault ∷ fault_fields fault ∷ [])
