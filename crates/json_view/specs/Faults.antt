-- The faults of JSON values in words.
use Rattle.std.specs.Prelude.{ℕ, List, [], ◌∷◌, codes}
use Rattle.list_views.specs.FaultWords.{joined, bytes_field}
use Rattle.json_view.specs.declared.fault.JsonFault.{JsonFault}
use Rattle.json_view.specs.declared.fault.JsonFault.TheVariants.{NotJson, WrongKind, MissingField, UnknownField, OutOfRange, Memory}

-- the name of a fault, by which a line of errors says it
abbrev pub fault_name : JsonFault → List ℕ
fault_name NotJson = codes "NotJson"
fault_name (WrongKind place) = codes "WrongKind"
fault_name (MissingField place) = codes "MissingField"
fault_name (UnknownField place) = codes "UnknownField"
fault_name (OutOfRange place) = codes "OutOfRange"
fault_name Memory = codes "Memory"

-- what a fault's name is followed by: the place in the JSON text, as a JSON pointer, of every fault that has one
abbrev pub fault_fields : JsonFault → List ℕ
fault_fields NotJson = []
fault_fields (WrongKind place) = bytes_field (codes "place") place
fault_fields (MissingField place) = bytes_field (codes "place") place
fault_fields (UnknownField place) = bytes_field (codes "place") place
fault_fields (OutOfRange place) = bytes_field (codes "place") place
fault_fields Memory = []

-- a fault in words: its name and then its fields
abbrev pub fault_text : JsonFault → List ℕ
fault_text fault = joined (fault_name fault ∷ fault_fields fault ∷ [])
